-- The claim is the one that the reference's visit finds.
use Rattle.std.proofs.Common.{refl}
use Rattle.moka_layers.proofs.visits.wait_or_own.Goals as goal

pub returns-clause-ok : goal.returns-clause-ok
returns-clause-ok g c = record {
  form = (c.in_ok-claim.claim, refl);
  made = λ w h may. (c.in_ok-claim.ensures.finds w h may, c.in_ok-claim.ensures.makes w h may);
}
