-- The step goes by what was brought.
use Rattle.std.proofs.Common.{◌≡◌, Option, Some, None, IfOk, nat_eq, refl, ap, ◌∙◌, subst}
use Rattle.std.proofs.lemmas.Result.{IfOk-weaker}
use Rattle.moka_init.specs.FlowPlan.{call_of, next_in, tested_in}
use Rattle.std.specs.HashMap.{get}
use Rattle.std.proofs.lemmas.Option.{none-some}
use Rattle.moka_kept.specs.Facts.{facts}
use Rattle.moka_kept.specs.Kept.{IsBrought}
use Rattle.moka_kept.specs.Paths.{EndedWith}
use Rattle.moka_kept.specs.Taking.{Answered, Brings, NoAnswer, Tested}
use Rattle.moka_kept.specs.declared.brought.Brought.{Brought}
use Rattle.moka_kept.specs.declared.brought.Brought.TheVariants as brought
use Rattle.moka_kept.proofs.Stopping.{came_here, stops_made, stops_so}
use Rattle.moka_kept.proofs.Ways.{came_same, ended_weaker}
use Rattle.moka_kept.proofs.kept.Kept.one_step.Goals as goal

pub returns-in-None : goal.returns-in-None
returns-in-None g c =
    record { stops = λ task kept finds. came_here (facts g.K.PartialEq.eq g.P.Fact.holds) (Brings (tested_in (call_of c.args.flow.now).plan) c.args.brought) c.args.flow.now c.requires.rests; so = λ task kept pair is. absurd (none-some pair is) }

pub returns-in-Some : goal.returns-in-Some
returns-in-Some g c = record {
  stops = λ task kept finds. stops_made (facts g.K.PartialEq.eq g.P.Fact.holds) (Brings (tested_in (call_of c.args.flow.now).plan) c.args.brought) c.args.flow.now c.step.result c.step.new.flow task kept finds c.requires.rests
      c.step.ensures.number c.step.ensures.begun c.step.ensures.leaves (by c.args.brought _ refl refl) c.step.ensures.err;
  so = λ task kept. stops_so (facts g.K.PartialEq.eq g.P.Fact.holds) c.args.key.now (Brings (tested_in (call_of c.args.flow.now).plan) c.args.brought) c.args.flow.now c.step.result c.step.new.flow task kept c.requires.so
      (by c.args.brought _ refl refl);
}
  where
    there : IsBrought g.K.PartialEq.eq g.P.Fact.holds (get nat_eq c.bring.new.self.ends) c.bring.new.self.layers c.args.flow.now.call c.args.brought c.in-Some.takes
    there = subst (λ n. IsBrought g.K.PartialEq.eq g.P.Fact.holds (get nat_eq c.bring.new.self.ends) c.bring.new.self.layers n c.args.brought c.in-Some.takes) c.number.ensures c.in-Some.ensures.brought

    for : (b : Brought g.row.V.Denot g.row.E.Denot) → c.args.brought ≡ b → IsBrought g.K.PartialEq.eq g.P.Fact.holds (get nat_eq c.bring.new.self.ends) c.bring.new.self.layers c.args.flow.now.call b c.in-Some.takes
    for b is = subst (λ (x : Brought g.row.V.Denot g.row.E.Denot). IsBrought g.K.PartialEq.eq g.P.Fact.holds (get nat_eq c.bring.new.self.ends) c.bring.new.self.layers c.args.flow.now.call x c.in-Some.takes) is there

    by : (b : Brought g.row.V.Denot g.row.E.Denot) (o : Option g.row.V.Denot) → c.args.brought ≡ b → tested_in (call_of c.args.flow.now).plan ≡ o
        → IfOk c.step.result (λ turn. EndedWith (facts g.K.PartialEq.eq g.P.Fact.holds) (Brings o b) c.args.flow.now.call (call_of c.args.flow.now) (next_in turn c.step.new.flow))
    by brought.Nothing o is value =
        IfOk-weaker c.step.result _ _ (λ turn end.
        ended_weaker (facts g.K.PartialEq.eq g.P.Fact.holds) NoAnswer (Brings o brought.Nothing) (λ t none. absurd none) c.args.flow.now.call (call_of c.args.flow.now) (next_in turn c.step.new.flow) end)
        (c.step.ensures.untaken (for brought.Nothing is) (c.requires.untested is))
    by (brought.Told told) o is value =
        IfOk-weaker c.step.result _ _ (λ turn end.
        ended_weaker (facts g.K.PartialEq.eq g.P.Fact.holds) (λ t. t ≡ Answered told) (Brings o (brought.Told told)) (λ t same. same) c.args.flow.now.call (call_of c.args.flow.now) (next_in turn c.step.new.flow) end)
        (c.step.ensures.taken (for (brought.Told told) is).0 told (for (brought.Told told) is).1)
    by (brought.Tested replaced) None is value =
        IfOk-weaker c.step.result _ _ (λ turn end.
        ended_weaker (facts g.K.PartialEq.eq g.P.Fact.holds) NoAnswer (Brings None (brought.Tested replaced)) (λ t none. absurd none) c.args.flow.now.call (call_of c.args.flow.now) (next_in turn c.step.new.flow) end)
        (c.step.ensures.untaken (for (brought.Tested replaced) is).0 value)
    by (brought.Tested replaced) (Some v) is value =
        IfOk-weaker c.step.result _ _ (λ turn end.
        ended_weaker (facts g.K.PartialEq.eq g.P.Fact.holds) (λ t. t ≡ Tested v c.bring.new.self.layers.tests.replaced) (Brings (Some v) (brought.Tested replaced))
        (λ t same. same ∙ ap (λ b. Tested v b) (for (brought.Tested replaced) is).1) c.args.flow.now.call (call_of c.args.flow.now) (next_in turn c.step.new.flow) end)
        (c.step.ensures.judged v value)

-- it stores what is so
pub step-requires-clause-so : goal.step-requires-clause-so
step-requires-clause-so g c =
    let flow = c.args.flow.now in
    c.requires.so.0 (call_of flow) (came_same (facts g.K.PartialEq.eq g.P.Fact.holds) (Brings (tested_in (call_of flow).plan) c.args.brought) flow.call (call_of flow) (call_of flow) refl)
