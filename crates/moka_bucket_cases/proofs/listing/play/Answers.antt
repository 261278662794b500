-- What a step of the one does to the other.
use Rattle.std.proofs.Common.{◌≡◌, false, sym, ◌∙◌}
use Rattle.std.proofs.lemmas.Bool.{false≢true}
use Rattle.moka_growth.specs.Calls.{Step, Going, Decided}
use Rattle.moka_calls.specs.Standing.{IsGoing}
use Rattle.moka_buckets.specs.Walks.{is_ended}
use Rattle.moka_bucket_cases.proofs.listing.play.Goals as goal
use Rattle.moka_bucket_cases.proofs.listing.play.Goals.{then-order-last-eq0+in_ok-step_keys+else-branch, else-order-last-eq0+in_ok-step_key+in-Going}

going_of : (s : Step) → is_ended s ≡ false → IsGoing s
going_of (Going c) e = tt
going_of (Decided x) e = absurd (false≢true (sym e))

pub finish-requires-clause-fits : goal.finish-requires-clause-fits
finish-requires-clause-fits g c = c.in_ok-step_keys.ensures.others c.loop-turn.other c.loop-turn.invariant.2

pub returns-in_err-step_key : goal.returns-in_err-step_key
returns-in_err-step_key g c = c.in_err-step_key.ensures.keys c.loop-turn.call c.loop-turn.invariant.0

pub list-requires-clause-fits : goal.list-requires-clause-fits
list-requires-clause-fits g c = c.in_ok-step_key.ensures.keys c.loop-turn.call c.loop-turn.invariant.0

pub loop-turn-preserved : goal.loop-turn-preserved
loop-turn-preserved g c = elim c.if-order-last-eq0.branch [
  | then-order-last-eq0+in_ok-step_keys+else-branch w ↦ rw (w.table-is, w.call-is, w.other-is) (
    w.in_ok-step_keys.ensures.fits,
    going_of w.step_keys.new.call.table (sym w.in_ok-step_keys.ensures.ended ∙ w.if-branch.false),
    w.in_ok-step_keys.ensures.others c.loop-turn.other c.loop-turn.invariant.2,
  )
  | else-order-last-eq0+in_ok-step_key+in-Going w ↦ rw (w.table-is, w.call-is, w.other-is) (
    w.in_ok-step_key.ensures.keys c.loop-turn.call c.loop-turn.invariant.0,
    c.loop-turn.invariant.1,
    (w.in_ok-step_key.ensures.undecided w.in-Going.is).1,
  )
]
