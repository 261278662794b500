-- What the desk has, its call's next visit needs.
use Rattle.std.proofs.Common.{◌≡◌, Bool, true, false, not, refl, sym, subst, ◌∙◌, arith}
use Rattle.moka_needs.specs.Needs.{IsOfCall}
use Rattle.moka_init.specs.FlowPlan.{call_of}
use Rattle.moka_init.specs.Grounds.{access_at}
use Rattle.moka_kept.proofs.Wanting.{allowed, needs_none, on_true, on_true_so, taking_needs, taking_none}
use Rattle.moka_kept.proofs.reaching.may_step.Goals as goal

pub returns-in-Some-clause-may : goal.returns-in-Some-clause-may
returns-in-Some-clause-may g c =
    let flow = c.args.flow.now in
    on_true_so c.may_visit.result _ _ (λ may w h.
    let last = c.last.ensures w h in
    let within = c.if-number-last.false in
    let number = c.number.ensures in (
      omega (arith, last, within, number),
      allowed g.K.PartialEq.eq c.args.desk.now w h flow.call (call_of flow) c.in-Some.need (sym c.in-Some.is ∙ c.requires)
          (λ made own is. may w made h (subst (λ n. IsOfCall n made) (sym c.number-in-Some.ensures) own) is),
    )) c.may_visit.ensures.may

pub returns-in-Some-clause-takes : goal.returns-in-Some-clause-takes
returns-in-Some-clause-takes g c =
    on_true_so c.may_visit.result _ _ (λ takes. taking_needs (access_at c.args.flow.now) c.in-Some.need (sym c.in-Some.is ∙ c.requires) ∙ takes) c.may_visit.ensures.takes

pub returns-in-None-clause-may : goal.returns-in-None-clause-may
returns-in-None-clause-may g c = on_true (not c.args.takes) _ (λ yes w h.
    let flow = c.args.flow.now in
    let last = c.last.ensures w h in
    let within = c.if-number-last.false in
    let number = c.number.ensures in (
      omega (arith, last, within, number),
      needs_none g.K.PartialEq.eq c.args.desk.now w h flow.call (call_of flow) (sym c.in-None.is ∙ c.requires),
    ))

untaken : (b : Bool) → not b ≡ true → false ≡ b
untaken true e = e
untaken false e = refl

pub returns-in-None-clause-takes : goal.returns-in-None-clause-takes
returns-in-None-clause-takes g c =
    on_true (not c.args.takes) _ (λ yes. taking_none (access_at c.args.flow.now) (sym c.in-None.is ∙ c.requires) ∙ untaken c.args.takes yes)
