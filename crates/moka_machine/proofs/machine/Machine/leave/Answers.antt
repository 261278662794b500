-- What the call held is left to others, and its place is given up.
use Rattle.std.proofs.Common.{◌≡◌, Option, ap, subst, ◌∙◌}
use Rattle.moka_hist.specs.Dropping.{left}
use Rattle.moka_hist.specs.Plan.{held_by}
use Rattle.moka_hist.specs.declared.writes.Write.{Write}
use Rattle.moka_init.specs.declared.flow.Flow.{Flow}
use Rattle.moka_init.specs.FlowPlan.{call_of}
use Rattle.moka_desk.specs.StandsFor as desk
use Rattle.moka_machine.proofs.Leaving.{may_leave}
use Rattle.moka_machine.proofs.machine.Machine.leave.Goals as goal

pub leave-requires : goal.leave-requires
leave-requires g c =
    let t = c.requires.taken in
    let held : c.held-held.result ≡ held_by (call_of c.args.flow.value).plan = c.held-held.ensures ∙ ap (λ (f : Flow g.row.K.Denot g.row.V.Denot g.row.E.Denot). held_by (call_of f).plan) c.deref.ensures in
    (t.0.world.desk, t.1.rest.reaches.layers.world.desk, may_leave t.0 c.args.call (call_of c.args.flow.value) c.held-held.result t.1.live held t.2)

pub returns-clause-leaves : goal.returns-clause-leaves
returns-clause-leaves g c = λ s t all.
    let d = call_of c.args.flow.value in
    let layers = t.rest.reaches.layers in
    let held : c.held-held.result ≡ held_by d.plan = c.held-held.ensures ∙ ap (λ (f : Flow g.row.K.Denot g.row.V.Denot g.row.E.Denot). held_by (call_of f).plan) c.deref.ensures in
    let stands = c.leave.ensures.makes s.world.desk layers.world.desk (may_leave s c.args.call d c.held-held.result t.live held all) in
    c.end.ensures.stands s.calls (record s.world { desk = left s.world.desk c.args.call (held_by d.plan) })
    (record {
      reaches = record {
        layers = record {
          world = record {
            table = layers.world.table;
            desk = subst (λ (o : Option Write). desk.StandsFor g.K.PartialEq.eq c.leave.new.self (left s.world.desk c.args.call o)) held stands;
            handed = layers.world.handed;
            stay = layers.world.stay;
          };
          begun = layers.begun;
          given = layers.given;
        };
        out = t.rest.reaches.out;
        each = t.rest.reaches.each;
        used = t.rest.reaches.used;
        history = c.leave.ensures.kept ∙ t.rest.reaches.history;
      };
      number = t.rest.number;
      calls = t.rest.calls;
    })
