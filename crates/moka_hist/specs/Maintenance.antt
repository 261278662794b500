-- Maintenance, once the log is applied: predicates go that hide nothing any more.
use Rattle.std.specs.Prelude.{ℕ, List, [], ◌∷◌, Some}
use Rattle.moka_hist.specs.State.{Call}
use Rattle.moka_hist.specs.Plan.{Item, lists_from}
use Rattle.moka_hist.specs.Plan as plan
use Rattle.moka_hist.specs.Next.{Next, answers, goes, waits}
use Rattle.moka_hist.specs.declared.replies.Answer.TheVariants as answer
use Rattle.moka_hist.specs.declared.visits.Found.{Found}
use Rattle.moka_hist.specs.declared.visits.Found.TheVariants as found

module _ {K V E : Type 0} where
  -- the call goes on with these predicates, by id and moment
  abbrev pub carrying : Call K V E → List (ℕ × ℕ) → Call K V E
  carrying c ids = record c { carried = Some ids }

  -- where some predicates may leave, all records are looked at first
  abbrev pub after_candidates : Call K V E → ℕ → Found V E → Next K V E
  after_candidates c parts (found.Candidates []) = answers answer.Done
  after_candidates c parts (found.Candidates (id ∷ more)) =
      goes (carrying c (id ∷ more)) (lists_from 0 parts (plan.Retire ∷ []))
  after_candidates c parts _ = waits c

  -- the walk goes on, also where no predicate is left to carry
  abbrev pub after_strike : Call K V E → List (Item K V E) → Found V E → Next K V E
  after_strike c rest (found.Strike ids) = goes (carrying c ids) rest
  after_strike c rest _ = waits c

  abbrev pub after_retire : Call K V E → Found V E → Next K V E
  after_retire c found.Retire = answers answer.Done
  after_retire c _ = waits c
