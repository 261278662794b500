-- What is read of an end is so, and what the load ends with is noted, in the world that is kept.
use Rattle.std.proofs.Common.{◌≡◌, Bool, true, false, IfOk, nat_eq, refl, sym, ◌∙◌, subst}
use Rattle.std.specs.HashMap.{get}
use Rattle.moka_desk.specs.StandsFor.{StandsFor}
use Rattle.moka_hist.specs.State.{DeskPart}
use Rattle.moka_init.specs.FlowPlan.{call_of, next_in}
use Rattle.moka_init.specs.Grounds.{access_at}
use Rattle.moka_kept.specs.Facts.{EndIsNoted, facts}
use Rattle.moka_kept.specs.Kept.{MayMake}
use Rattle.moka_kept.specs.Paths.{EndedWith}
use Rattle.moka_kept.specs.Taking.{Tested}
use Rattle.moka_kept.proofs.Meeting.{reads_meet}
use Rattle.moka_kept.proofs.Noting.{ends_alike, may_on, not_ending, stands_back, tests_on}
use Rattle.moka_kept.proofs.ground.Reach.step_noted.Goals as goal

pub make_step-made-requires-clause-may : goal.make_step-made-requires-clause-may
make_step-made-requires-clause-may g c =
    may_on g.K.PartialEq.eq c.args.self.now.layers c.note_end.new.self.layers c.note_end.ensures.layers c.args.flow.now.call (λ v. MayMake v (access_at c.args.flow.now)) c.requires.may

pub make_step-made-requires-clause-ends : goal.make_step-made-requires-clause-ends
make_step-made-requires-clause-ends g c = λ w stands.
    c.requires.ends w (stands_back g.K.PartialEq.eq c.args.self.now.layers c.note_end.new.self.layers c.note_end.ensures.layers w stands)

pub make_step-made-requires-clause-reads : goal.make_step-made-requires-clause-reads
make_step-made-requires-clause-reads g c = λ w stands.
    let eq = g.K.PartialEq.eq in
    let holds = g.P.Fact.holds in
    let ends = get nat_eq c.args.self.now.ends in
    let flow = c.args.flow.now in
    let kept = c.requires.kept in
    let here = stands_back eq c.args.self.now.layers c.note_end.new.self.layers c.note_end.ensures.layers w stands in
    reads_meet eq holds ends g.met.P.Fact.alike w flow.call (call_of flow) (c.if-not-reads_own.ensures w here)
    (ends_alike eq holds ends c.args.self.now.layers.desk kept.world.desk w kept.stands.desk here kept.ended)

pub make_step-made-requires-clause-noted : goal.make_step-made-requires-clause-noted
make_step-made-requires-clause-noted g c = λ w stands. by c.args.ends refl w stands
  where
    by : (b : Bool) → c.args.ends ≡ b → (w : DeskPart g.row.K.Denot g.row.V.Denot g.row.E.Denot) → StandsFor g.K.PartialEq.eq c.note_end.new.self.layers.desk w
        → EndIsNoted g.P.Fact.holds (get nat_eq c.note_end.new.self.ends) w (access_at c.args.flow.now)
    by true is w stands = c.in-Ok.ensures.noted is w stands
    by false is w stands = not_ending g.P.Fact.holds (get nat_eq c.note_end.new.self.ends) w (access_at c.args.flow.now) (sym c.requires.value ∙ is)

pub returns-in-Ok-clause-taken : goal.returns-in-Ok-clause-taken
returns-in-Ok-clause-taken g c = λ taking told there. c.make_step-made.ensures.taken taking told (c.note_end.ensures.told c.args.flow.now.call told there)

pub returns-in-Ok-clause-judged : goal.returns-in-Ok-clause-judged
returns-in-Ok-clause-judged g c = λ value is.
    let flow = c.args.flow.now in
    subst (λ b. IfOk c.make_step-made.result (λ turn. EndedWith (facts g.K.PartialEq.eq g.P.Fact.holds) (λ t. t ≡ Tested value b) flow.call (call_of flow) (next_in turn c.make_step-made.new.flow)))
    (tests_on g.K.PartialEq.eq c.args.self.now.layers c.note_end.new.self.layers c.note_end.ensures.layers) (c.make_step-made.ensures.judged value is)
