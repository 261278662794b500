-- The record is seen as the reference's visit sees it.
use Rattle.std.proofs.Common.{refl, sym, ap, subst, ◌∙◌}
use Rattle.moka_hist.specs.Visits.{judged}
use Rattle.moka_hist.specs.declared.visits.Found.TheVariants as found
use Rattle.moka_desk.specs.StandsFor.{StandsFor}
use Rattle.moka_desk.proofs.Outcomes.{on_err}
use Rattle.moka_layers.proofs.Visited.{seen_by}
use Rattle.moka_layers.proofs.visits.judge.Goals as goal

pub returns-clause-ok : goal.returns-clause-ok
returns-clause-ok g c = λ ids. record {
  form = (c.in_ok-seen.seen, refl);
  made = λ w h handed may.
      let stored = c.args.stored in
      let seen = seen_by w (g.Q.Tests.answers c.args.tests.now) c.args.replace c.args.key stored c.is_replaced-replaced.result c.hits-hit.result handed.tests c.is_replaced-replaced.ensures
      (c.hits-hit.ensures w h handed.predicates) in (
        ap found.Judge (c.in_ok-seen.ensures.finds w h ∙ seen),
        subst (λ b. StandsFor g.K.PartialEq.eq c.judge.new.self (judged w stored.stamp stored.modified b)) seen (c.in_ok-seen.ensures.makes w h),
        handed,
      );
}

pub returns-in_err-seen-clause-err_needs : goal.returns-in_err-seen-clause-err_needs
returns-in_err-seen-clause-err_needs g c =
    on_err c.from_residual.result (λ ids w h handed.
    sym (seen_by w (g.Q.Tests.answers c.args.tests.now) c.args.replace c.args.key c.args.stored c.is_replaced-replaced.result c.hits-hit.result handed.tests c.is_replaced-replaced.ensures
    (c.hits-hit.ensures w h handed.predicates)) ∙ c.in_err-seen.ensures.needs w h)
