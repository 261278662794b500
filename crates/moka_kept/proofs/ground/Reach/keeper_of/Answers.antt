-- The lock is kept in the world that is kept, as the call's next visit finds it.
use Rattle.std.proofs.Common.{refl, sym, ◌∙◌}
use Rattle.moka_init.specs.FlowPlan.{call_of}
use Rattle.moka_hist.specs.declared.visits.Visit.TheVariants as visit
use Rattle.moka_kept.proofs.Finding.{given_kept, where_some}
use Rattle.moka_kept.proofs.ground.Reach.keeper_of.Goals as goal

pub returns-in-true : goal.returns-in-true
returns-in-true g c =
    let eq = g.K.PartialEq.eq in
    let kept = c.requires.kept in
    let flow = c.args.flow.now in
    let key = c.args.key.now in
    where_some c.keeper.result _ (λ notice is.
    given_kept eq flow.call (call_of flow) kept.world kept.sound key notice c.requires.next
    ((c.has.ensures.exact refl kept.world.desk (visit.LockKey flow.call key) kept.stands.desk (sym c.number.ensures) refl).0 c.in-true.is)
    (sym (c.keeper.ensures kept.world.desk kept.stands.desk) ∙ is))
