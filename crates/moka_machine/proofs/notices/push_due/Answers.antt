-- One more visit, and none is left.
use Rattle.std.proofs.Common.{◌≡◌, ◌∷◌, ◌++◌, length, sym, ap, ◌∙◌, arith}
use Rattle.std.specs.List.{filter_map}
use Rattle.std.specs.Vec.Iter.{into_iter_items}
use Rattle.moka_machine.specs.Listed.{waiting}
use Rattle.moka_machine.proofs.ListedNotices.{pushed, skipped, all_pushed}
use Rattle.moka_machine.proofs.notices.push_due.Goals as goal

pub loop-visit-preserved-in-Continue-1 : goal.loop-visit-preserved-in-Continue-1
loop-visit-preserved-in-Continue-1 g c =
    let at = c.loop-visit in
    let left : into_iter_items at.visit-iterator ≡ c.in-Some.visit ∷ into_iter_items c.next.new.self = c.in-Some.ensures.steps.0 in
    let gone = c.in-Some.ensures.steps.1 in
    let was = at.invariant.1 in
    let short = ap length left in (
      (λ w h. pushed (waiting w) at.notices.items c.push.new.self.items _ _ (into_iter_items c.next.new.self) c.in-Some.visit c.in-Some-waiting.notice left
          (sym (c.waiting.ensures w h) ∙ c.in-Some-waiting.is) c.in_ok-push.ensures.items (at.invariant.0 w h)),
      omega arith,
    )

pub loop-visit-preserved : goal.loop-visit-preserved
loop-visit-preserved g c =
    let at = c.loop-visit in
    let left : into_iter_items at.visit-iterator ≡ c.in-Some.visit ∷ into_iter_items c.next.new.self = c.in-Some.ensures.steps.0 in
    let gone = c.in-Some.ensures.steps.1 in
    let was = at.invariant.1 in
    let short = ap length left in (
      (λ w h. skipped (waiting w) at.notices.items _ _ (into_iter_items c.next.new.self) c.in-Some.visit left
          (sym (c.waiting.ensures w h) ∙ c.in_default.is) (at.invariant.0 w h)),
      omega arith,
    )

pub returns : goal.returns
returns g c = λ w h.
    let at = c.loop-visit in
    let none = c.in-None.ensures.steps in
    let gives = c.into_iter-visit-iterator.ensures.into_iter_gives in
    all_pushed (waiting w) at.notices.items _ (into_iter_items at.visit-iterator) (sym at.invariant.1 ∙ none.0)
    (at.invariant.0 w h ∙ ap (λ l. c.args.notices.now.items ++ filter_map (waiting w) l) gives.0)
