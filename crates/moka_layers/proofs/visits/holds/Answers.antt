-- Whether the record has to leave is what the reference's visit finds.
use Rattle.std.proofs.Common.{refl, ap, ◌∙◌}
use Rattle.moka_hist.specs.Causes.{chosen_holds}
use Rattle.moka_hist.specs.Visits.{times_at}
use Rattle.moka_hist.specs.declared.visits.Found.TheVariants as found
use Rattle.moka_layers.proofs.visits.holds.Goals as goal

pub returns-clause-visit : goal.returns-clause-visit
returns-clause-visit g c = λ ids. record {
  form = (c.holds.result, refl);
  made = λ w h handed may.
      let stored = c.args.stored in (
        ap found.Holds (c.holds.ensures w h ∙ ap (λ b. chosen_holds w.rules (times_at w stored.stamp stored.modified) b c.args.cause) (c.hits-hit.ensures w h handed.predicates)),
        h,
        handed,
      );
}
