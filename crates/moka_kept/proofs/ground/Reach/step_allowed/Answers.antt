-- The step is made in the world that is kept.
use Rattle.std.proofs.Common.{◌≡◌, ◌≤◌, nat_eq, sym, ap, ◌∙◌, subst}
use Rattle.std.proofs.lemmas.Result.{IfOk-weaker}
use Rattle.std.specs.HashMap.{get}
use Rattle.moka_init.specs.FlowPlan.{call_of, next_in}
use Rattle.moka_init.specs.Grounds.{access_at}
use Rattle.moka_kept.specs.Taking.{Answered, NoAnswer, Tested}
use Rattle.moka_kept.specs.Kept.{IsKept, MayMake}
use Rattle.moka_kept.proofs.Reached.{allowing, fits_on, is_on, may_of, none_on, reached_by, step_ends, step_keeps}
use Rattle.moka_kept.proofs.Wanting.{of_call, tested_at, took_none, took_tested, took_told}
use Rattle.moka_kept.proofs.ground.Reach.step_allowed.Goals as goal

pub step-requires-clause-live : goal.step-requires-clause-live
step-requires-clause-live g c = c.requires.rests.live

pub step-requires-clause-on : goal.step-requires-clause-on
step-requires-clause-on g c =
    is_on g.K.PartialEq.eq c.args.self.now.layers c.number-self.result c.args.flow.now c.number-self.ensures c.requires.kept.none_begun c.requires.rests.begun

pub step-requires-clause-fits : goal.step-requires-clause-fits
step-requires-clause-fits g c =
    let eq = g.K.PartialEq.eq in
    let holds = g.P.Fact.holds in
    let ends = get nat_eq c.args.self.now.ends in
    let before = c.requires.kept in
    let may = c.requires.may before.world.desk before.stands.desk in
    let kept = allowing eq holds ends c.args.self.now.layers before (λ v. MayMake v (access_at c.args.flow.now)) may.1 in
    fits_on eq holds ends c.args.self.now.layers c.number-self.result c.args.flow.now kept (subst (λ n. n ≤ kept.world.desk.last) (sym c.number-self.ensures) may.0) c.requires.rests.begun
    (may_of kept.world (access_at c.args.flow.now) may.1.holds)

pub returns-clause-kept : goal.returns-clause-kept
returns-clause-kept g c =
    let eq = g.K.PartialEq.eq in
    let holds = g.P.Fact.holds in
    let ends = get nat_eq c.args.self.now.ends in
    let flow = c.args.flow.now in
    let before = c.requires.kept in
    let may = c.requires.may before.world.desk before.stands.desk in
    let kept = allowing eq holds ends c.args.self.now.layers before (λ v. MayMake v (access_at flow)) may.1 in
    subst (λ e. IsKept eq holds (get nat_eq e) c.step.new.ground.layers) (sym c.step.ensures.keeps.2)
    (step_keeps eq holds ends c.step.result (λ turn. next_in turn c.step.new.flow) _ c.step.new.ground.layers flow kept.world kept.stored kept.ended c.requires.so.0
    (c.requires.noted kept.world.desk kept.stands.desk)
    (reached_by eq holds ends c.args.self.now.layers c.number-self.result kept (subst (λ n. n ≤ kept.world.desk.last) (sym c.number-self.ensures) may.0))
    (may_of kept.world (access_at flow) may.1.holds) c.step.ensures.moves c.step.ensures.err_stands (c.step.ensures.keeps.1 kept.none_begun))

pub returns-clause-untaken : goal.returns-clause-untaken
returns-clause-untaken g c = λ untaken untested.
    let eq = g.K.PartialEq.eq in
    let holds = g.P.Fact.holds in
    let ends = get nat_eq c.args.self.now.ends in
    let flow = c.args.flow.now in
    let before = c.requires.kept in
    let may = c.requires.may before.world.desk before.stands.desk in
    let kept = allowing eq holds ends c.args.self.now.layers before (λ v. MayMake v (access_at flow)) may.1 in
    IfOk-weaker c.step.result _ _ (λ turn moves.
    step_ends eq holds ends NoAnswer _ c.step.new.ground.layers flow (next_in turn c.step.new.flow) kept.world kept.stored (c.requires.reads kept.world.desk kept.stands.desk)
    (reached_by eq holds ends c.args.self.now.layers c.number-self.result kept (subst (λ n. n ≤ kept.world.desk.last) (sym c.number-self.ensures) may.0))
    (c.requires.ends kept.world.desk kept.stands.desk) (may_of kept.world (access_at flow) may.1.holds)
    (λ given after gets. took_none (access_at flow) given untaken (tested_at flow.call (call_of flow) ∙ untested)) moves)
    c.step.ensures.moves

pub returns-clause-taken : goal.returns-clause-taken
returns-clause-taken g c = λ taking told there.
    let eq = g.K.PartialEq.eq in
    let holds = g.P.Fact.holds in
    let ends = get nat_eq c.args.self.now.ends in
    let flow = c.args.flow.now in
    let before = there.kept in
    let may = c.requires.may before.world.desk before.stands.desk in
    let kept = allowing eq holds ends c.args.self.now.layers before (λ v. MayMake v (access_at flow)) may.1 in
    IfOk-weaker c.step.result _ _ (λ turn moves.
    step_ends eq holds ends (λ t. t ≡ Answered told) _ c.step.new.ground.layers flow (next_in turn c.step.new.flow) kept.world kept.stored (c.requires.reads kept.world.desk kept.stands.desk)
    (reached_by eq holds ends c.args.self.now.layers c.number-self.result kept (subst (λ n. n ≤ kept.world.desk.last) (sym c.number-self.ensures) may.0))
    (c.requires.ends kept.world.desk kept.stands.desk) (may_of kept.world (access_at flow) may.1.holds)
    (λ given after gets. took_told eq flow.call kept.world told (access_at flow) given after (of_call flow.call (call_of flow)) taking there.there gets) moves)
    c.step.ensures.moves

pub returns-clause-judged : goal.returns-clause-judged
returns-clause-judged g c = λ value is.
    let eq = g.K.PartialEq.eq in
    let holds = g.P.Fact.holds in
    let ends = get nat_eq c.args.self.now.ends in
    let flow = c.args.flow.now in
    let hand = c.args.self.now.layers.tests in
    let before = c.requires.kept in
    let may = c.requires.may before.world.desk before.stands.desk in
    let kept = allowing eq holds ends c.args.self.now.layers before (λ v. MayMake v (access_at flow)) may.1 in
    IfOk-weaker c.step.result _ _ (λ turn moves.
    step_ends eq holds ends (λ t. t ≡ Tested value hand.replaced) _ c.step.new.ground.layers flow (next_in turn c.step.new.flow) kept.world kept.stored (c.requires.reads kept.world.desk kept.stands.desk)
    (reached_by eq holds ends c.args.self.now.layers c.number-self.result kept (subst (λ n. n ≤ kept.world.desk.last) (sym c.number-self.ensures) may.0))
    (c.requires.ends kept.world.desk kept.stands.desk) (may_of kept.world (access_at flow) may.1.holds)
    (λ given after gets. took_tested eq flow.call kept.world hand.replaced value (access_at flow) given after
    (λ test key v. sym (ap (λ answers. answers test key v) kept.stands.handed.tests)) (tested_at flow.call (call_of flow) ∙ is) gets) moves)
    c.step.ensures.moves

pub returns-clause-begun : goal.returns-clause-begun
returns-clause-begun g c =
    none_on g.K.PartialEq.eq c.step.result c.step.new.ground.layers c.args.flow.now c.step.new.flow c.requires.rests.begun (c.step.ensures.keeps.1 c.requires.kept.none_begun)
    c.step.ensures.on c.step.ensures.err
