-- The call runs under its number.
use Rattle.std.proofs.Common.{◌≡◌, ◌<◌, ◌≤◌, ℕ, ◌+◌, arith, Bool, Some, None, refl, sym, ap, subst, ◌∙◌}
use Rattle.moka_hist.specs.Finite.{put_at}
use Rattle.moka_hist.specs.State.{State}
use Rattle.moka_hist.specs.Run.{fresh_call, started}
use Rattle.moka_hist.specs.Step.{want_for}
use Rattle.moka_hist.specs.declared.replies.Reply.TheVariants as reply
use Rattle.moka_init.specs.declared.flow.Flow.{Flow}
use Rattle.moka_init.specs.FlowPlan.{IsLive, call_of}
use Rattle.moka_init.specs.Grounds.{HasBegun, wanted, access_at}
use Rattle.moka_init.proofs.Begun.{not_begun}
use Rattle.moka_machine.specs.declared.call_places.Running.{Running}
use Rattle.moka_machine.specs.Calls.{place_at, running_at}
use Rattle.moka_machine.specs.Machine.{MachineIs, IsOf}
use Rattle.moka_machine.proofs.Happening.{match_false, given_out}
use Rattle.moka_machine.proofs.Places.{runs_at, set_calls, set_each, set_used}
use Rattle.moka_machine.proofs.Running.{starts, given_before}
use Rattle.moka_machine.proofs.machine.Machine.enter.Goals as goal

pub returns-in-Some-clause-serves : goal.returns-in-Some-clause-serves
returns-in-Some-clause-serves g c = λ s h reached.
    let eq = g.K.PartialEq.eq in
    let w = s.world.desk in
    let n = c.in-Some.call in
    let made = c.new-flow.result in
    let same : c.in_ok-boxed.boxed.value ≡ made = c.in_ok-boxed.ensures in
    let next = given_out _ n (w.last + 1) (c.in-Some.ensures.finds w h.world.desk) in
    let called = h.world.stay in
    let ruled : c.rules-rules.result ≡ w.rules = c.rules-rules.ensures w h.world.desk in
    let later : w.last < n = omega (arith, next.1) in
    let parts = s.world.table.division.parts in
    let divided : c.parts.result ≡ parts = c.parts.ensures ∙ h.world.table.parts in
    let before : w.last ≤ n = omega (arith, later) in
    let last = c.last-last.ensures w h.world.desk in
    let counts : c.saturating_add-next.result ≡ n = omega (arith, last, next.1, c.saturating_add-next.ensures) in
    let on : HasBegun None made =
    subst (λ (b : Bool). wanted None (want_for b (access_at made)) ≡ Some (access_at made)) (sym c.new-flow.ensures.begun) (not_begun (access_at made)) in
    let runs : Running g.row.K.Denot g.row.V.Denot g.row.E.Denot = record { flow = c.in_ok-boxed.boxed; begun = None } in
    let is : IsOf eq c.args.self.now.layers.table s.world.table s.world.stay n n runs =
    record {
      number = ap (λ (f : Flow g.row.K.Denot g.row.V.Denot g.row.E.Denot). f.call) same ∙ c.new-flow.ensures.number ∙ counts;
      live = subst (λ (f : Flow g.row.K.Denot g.row.V.Denot g.row.E.Denot). IsLive f) (sym same) c.new-flow.ensures.live;
      on = subst (λ (f : Flow g.row.K.Denot g.row.V.Denot g.row.E.Denot). HasBegun None f) (sym same) on;
      begun = starts eq c.args.self.now.layers.table s.world.table s.world.stay w.last n h.world.table called later
          (c.lists_are_started.ensures.started s n reached later);
      given = omega arith;
    } in
    let puts = runs_at (place_at c.args.self.now.calls) (place_at c.add.new.self) n (Some (Some runs)) c.add.ensures in
    let numbered : ℕ → State g.row.K.Denot g.row.V.Denot g.row.E.Denot = λ m. record { world = record s.world { desk = record w { last = m } }; calls = put_at s.calls m (Some (fresh_call parts w.rules c.args.start)) } in (
      started s c.args.start,
      match_false _ _ _ next.0 (record { reply = ap reply.Call next.1; after = refl }),
      subst (λ (m : ℕ). MachineIs eq g.T.Tests (record { layers = record c.args.self.now.layers { desk = c.enter.new.self }; calls = c.add.new.self }) (numbered m)) next.1
          (record {
            world = record { table = h.world.table; desk = c.in-Some.ensures.makes w h.world.desk; handed = h.world.handed; stay = omega (arith, called, before) };
            calls = set_calls (running_at c.args.self.now.calls) (running_at c.add.new.self) s.calls n (Some runs) (Some (fresh_call parts w.rules c.args.start))
                (ap Some (ap call_of same ∙ c.new-flow.ensures.call ∙ ap (λ p. fresh_call p c.rules-rules.result c.args.start) divided ∙ ap (λ r. fresh_call parts r c.args.start) ruled)) puts (λ k ne. h.calls k);
            each = set_each (IsOf eq c.args.self.now.layers.table s.world.table s.world.stay n) (running_at c.args.self.now.calls) (running_at c.add.new.self) n (Some runs)
                (λ x e. let f : runs ≡ x = cc in subst (λ (r : Running g.row.K.Denot g.row.V.Denot g.row.E.Denot). IsOf eq c.args.self.now.layers.table s.world.table s.world.stay n n r) f is) puts
                (λ k x e. given_before eq c.args.self.now.layers.table s.world.table s.world.stay w.last n k x before (h.each k x e));
            used = set_used (place_at c.args.self.now.calls) (place_at c.add.new.self) n (Some (Some runs)) c.add.ensures (λ e. e) (λ k ne. h.used k);
            history = c.enter.ensures.kept ∙ h.history;
          }),
    )
