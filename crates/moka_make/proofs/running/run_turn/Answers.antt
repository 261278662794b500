-- One event more has run, and at the end all of the turn.
use Rattle.std.proofs.Common.{◌≡◌, ℕ, ◌+◌, List, [], ◌∷◌, ◌++◌, take, append-nil, refl, sym, ◌∙◌, subst, arith}
use Rattle.std.proofs.lemmas.List.{take_all}
use Rattle.moka_hist.specs.declared.events.Event.{Event}
use Rattle.moka_workload.specs.Turns.{events_in}
use Rattle.moka_workload.proofs.Places.{append_next}
use Rattle.moka_make.specs.Running.{Ran}
use Rattle.moka_make.proofs.running.run_turn.Goals as goal

pub loop-at-init : goal.loop-at-init
loop-at-init c = record {
  valid = c.requires.valid;
  counted = omega arith;
  going = λ first before ran.
      subst (λ (es : List (Event ℕ ℕ ℕ)). Ran first es c.args.replies.now c.args.cache.now)
      (sym (append-nil before)) ran;
}

pub loop-at-preserved : goal.loop-at-preserved
loop-at-preserved c = record {
  valid = c.in_ok-run_event.ensures.valid;
  counted = c.in_ok-run_event.ensures.counted ∙ omega (arith, c.loop-at.invariant.counted);
  going = λ first before ran.
      let at = c.loop-at.at in
      let events = events_in c.args.turn in
      let so_far = before ++ take at events in
      let next : so_far ++ c.event.result ∷ [] ≡ before ++ take (at + 1) events =
      append_next before events so_far (so_far ++ c.event.result ∷ []) at c.event.result refl
      c.event.ensures refl
      in
      subst (λ (es : List (Event ℕ ℕ ℕ)). Ran first es c.run_event.new.replies c.run_event.new.cache)
      next (c.in_ok-run_event.ensures.goes_on first so_far (c.loop-at.invariant.going first before ran));
}

pub returns-clause-goes_on : goal.returns-clause-goes_on
returns-clause-goes_on c = λ first before ran.
    subst (λ (es : List (Event ℕ ℕ ℕ)). Ran first (before ++ es) c.loop-at.replies c.loop-at.cache)
    (take_all c.loop-at.at (events_in c.args.turn) (omega arith)) (c.loop-at.invariant.going first before ran)
