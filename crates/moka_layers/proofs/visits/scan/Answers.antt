-- The record is seen as the reference's visit sees it.
use Rattle.std.proofs.Common.{refl, ap, ◌∙◌}
use Rattle.moka_hist.specs.declared.visits.Found.TheVariants as found
use Rattle.moka_desk.specs.Moments.{is_shown}
use Rattle.moka_layers.proofs.visits.scan.Goals as goal

pub returns-clause-visit : goal.returns-clause-visit
returns-clause-visit g c = λ ids. record {
  form = (c.scan.result, refl);
  made = λ w h handed may.
      let stored = c.args.stored in (
        ap found.Scan (c.scan.ensures w h ∙ ap (λ b. is_shown w b stored.stamp stored.modified) (c.hits-hit.ensures w h handed.predicates)),
        h,
        handed,
      );
}
