-- Invalidating records.
use Rattle.std.specs.Prelude.{ℕ, List, Result, Ok, Err}
use Rattle.moka_hist.specs.State.{Call}
use Rattle.moka_hist.specs.Plan.{Item}
use Rattle.moka_hist.specs.Next.{Next, answers, goes, waits}
use Rattle.moka_hist.specs.declared.predicates.PredicateError.{PredicateError}
use Rattle.moka_hist.specs.declared.predicates.PredicateError.TheVariants as refused
use Rattle.moka_hist.specs.declared.replies.Answer.{Answer}
use Rattle.moka_hist.specs.declared.replies.Answer.TheVariants as answer
use Rattle.moka_hist.specs.declared.visits.Found.{Found}
use Rattle.moka_hist.specs.declared.visits.Found.TheVariants as found

module _ {K V E : Type 0} where
  abbrev pub after_invalidate_all : Call K V E → List (Item K V E) → Found V E → Next K V E
  after_invalidate_all c rest found.InvalidateAll = goes c rest
  after_invalidate_all c rest _ = waits c

  -- what is answered where a predicate was registered under this id, or why it wasn't; that memory
  -- was wanting no visit finds
  abbrev pub registering_answer : Result ℕ PredicateError → Answer K V E
  registering_answer (Ok id) = answer.Id id
  registering_answer (Err refused.InvalidationClosuresDisabled) = answer.ClosuresDisabled
  registering_answer (Err refused.NoId) = answer.NoId
  registering_answer (Err refused.Memory) = answer.NoId

  abbrev pub after_register : Call K V E → Found V E → Next K V E
  after_register c (found.Register registering) = answers (registering_answer registering)
  after_register c _ = waits c
