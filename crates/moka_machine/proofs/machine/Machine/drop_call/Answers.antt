-- A drop of a live call.
use Rattle.std.proofs.Common.{refl}
use Rattle.moka_init.specs.FlowPlan.{call_of}
use Rattle.moka_machine.proofs.Happening.{happens_drop, match_none}
use Rattle.moka_machine.proofs.machine.Machine.drop_call.Goals as goal

pub drop_out-requires-clause-is : goal.drop_out-requires-clause-is
drop_out-requires-clause-is g c =
    let v = c.requires in
    (c.in-Some.ensures.some v.state v.stands).1

pub drop_out-requires-clause-taken : goal.drop_out-requires-clause-taken
drop_out-requires-clause-taken g c =
    let v = c.requires in
    (v.state, (c.in-Some.ensures.some v.state v.stands).0, c.calls_may_leave.ensures.leaves v.state v.reached)

pub returns-in-Some : goal.returns-in-Some
returns-in-Some g c = λ s h reached.
    let t = c.in-Some.ensures.some s h in
    let d = c.drop_out.ensures s t.0 (c.calls_may_leave.ensures.leaves s reached) in
    (d.0, happens_drop g.K.PartialEq.eq s c.args.call (call_of c.in-Some.flow.value) c.drop_out.result d.0 t.0.live d.1, d.2)

pub returns-in-None : goal.returns-in-None
returns-in-None g c = λ s h reached.
    (s, match_none (s.calls c.args.call) _ _ (c.in-None.ensures.none s h) (record { reply = refl; same = refl }), c.in-None.ensures.same s h)
