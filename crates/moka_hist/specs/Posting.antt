-- Taking up owed writes, posting, and applying the log.
use Rattle.std.specs.Prelude.{ℕ, List, ◌∷◌, true, false, Option, Some, None}
use Rattle.moka_hist.specs.State.{Call}
use Rattle.moka_hist.specs.Plan.{Item}
use Rattle.moka_hist.specs.Plan as plan
use Rattle.moka_hist.specs.Next.{Next, goes, waits}
use Rattle.moka_hist.specs.declared.visits.Found.{Found}
use Rattle.moka_hist.specs.declared.visits.Found.TheVariants as found
use Rattle.moka_hist.specs.declared.writes.Write.{Write}

module _ {K V E : Type 0} where
  -- go on once the notice has ended, if there is one
  abbrev pub once_ended : Option ℕ → List (Item K V E) → List (Item K V E)
  once_ended None rest = rest
  once_ended (Some notice) rest = plan.Ended notice ∷ rest

  -- an owed write is taken up and posted, once its notice has ended, and the next one after it; the
  -- part ends where none is owed
  abbrev pub after_drain : Call K V E → List (Item K V E) → Found V E → Next K V E
  after_drain c rest (found.TakeOwed None) = goes c rest
  after_drain c rest (found.TakeOwed (Some owed)) =
      goes c (once_ended owed.notice (plan.Post owed.write ∷ plan.Drain ∷ rest))
  after_drain c rest _ = waits c

  -- a full log is applied first, by this call
  abbrev pub after_post : Call K V E → Write → List (Item K V E) → Found V E → Next K V E
  after_post c write rest (found.PostWrite true) = goes c rest
  after_post c write rest (found.PostWrite false) =
      goes c (plan.Turn ∷ plan.Apply ∷ plan.End ∷ plan.Post write ∷ rest)
  after_post c write rest _ = waits c

  -- the turn is waited for while another call has it
  abbrev pub after_turn : Call K V E → List (Item K V E) → Found V E → Next K V E
  after_turn c rest (found.TakeTurn true) = goes c rest
  after_turn c rest (found.TakeTurn false) = waits c
  after_turn c rest _ = waits c

  -- one write a step, until the log is empty
  abbrev pub after_apply : Call K V E → List (Item K V E) → Found V E → Next K V E
  after_apply c rest (found.ApplyOne true) = goes c (plan.Apply ∷ rest)
  after_apply c rest (found.ApplyOne false) = goes c rest
  after_apply c rest _ = waits c

  abbrev pub after_end : Call K V E → List (Item K V E) → Found V E → Next K V E
  after_end c rest found.EndTurn = goes c rest
  after_end c rest _ = waits c
