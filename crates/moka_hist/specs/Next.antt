-- How a call goes on after an item: the call that is left, and what the step replies.
use Rattle.std.specs.Prelude.{List, [], ◌∷◌, Option, Some, None}
use Rattle.moka_hist.specs.State.{Call}
use Rattle.moka_hist.specs.Plan.{Item}
use Rattle.moka_hist.specs.Plan as plan
use Rattle.moka_hist.specs.declared.records.Mode.TheVariants as mode
use Rattle.moka_hist.specs.declared.replies.Ask as reply
use Rattle.moka_hist.specs.declared.replies.Answer.{Answer}
use Rattle.moka_hist.specs.declared.accesses.Turn as turns
use Rattle.moka_hist.specs.declared.accesses.Turn.TheVariants as turn

pub record Next (K V E : Type 0) : Type 0 where
  pub left : Option (Call K V E)
  pub turn : turns.Turn K V E

module _ {K V E : Type 0} where
  -- the call answers, and is no longer live
  abbrev pub answers : Answer K V E → Next K V E
  answers answer = record { left = None; turn = turn.Answer answer }

  -- the call goes on with the rest of its plan; where that is an answer alone, it answers with this
  -- step
  abbrev pub goes : Call K V E → List (Item K V E) → Next K V E
  goes c (plan.Reply answer ∷ []) = answers answer
  goes c rest =
      record { left = Some (record c { mode = mode.Mid; plan = rest }); turn = turn.Going }

  -- the item isn't done yet
  abbrev pub stays : Call K V E → Next K V E
  stays c = record { left = Some (record c { mode = mode.Mid }); turn = turn.Going }

  -- something is missing: nothing changes but that the call is parked
  abbrev pub waits : Call K V E → Next K V E
  waits c = record { left = Some (record c { mode = mode.Parked }); turn = turn.Wait }

  -- the walk gives a record, and is parked
  abbrev pub gives : Call K V E → K → V → List (Item K V E) → Next K V E
  gives c key value rest =
      record { left = Some (record c { mode = mode.Parked; plan = rest }); turn = turn.Item key value }

  -- the call asks its caller, and is parked
  abbrev pub asks : Call K V E → reply.Ask K V → List (Item K V E) → Next K V E
  asks c ask rest =
      record { left = Some (record c { mode = mode.Parked; plan = rest }); turn = turn.Ask ask }
