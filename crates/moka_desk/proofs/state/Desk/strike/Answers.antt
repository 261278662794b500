-- Those are left that the reference leaves.
use Rattle.std.proofs.Common.{◌≡◌, ℕ, not, filter, nat_eq, rules, sym, ap, ◌∙◌}
use Rattle.std.specs.HashMap.{get}
use Rattle.std.proofs.lemmas.Fn.{filter_same}
use Rattle.std.proofs.lemmas.List.Elements.{filter_agree}
use Rattle.moka_hist.specs.Visits.{does_hit, does_strike}
use Rattle.moka_desk.specs.Predicates.{strikes_as}
use Rattle.moka_desk.proofs.OwnIds.{one_holds}
use Rattle.moka_desk.proofs.state.Desk.strike.Goals as goal

pub returns : goal.returns
returns g c = λ w h tests.
    let kept = c.args.self.now.predicates in
    let key = c.args.key.now in
    let stored = c.args.stored.now in
    let answers = g.T.Tests.hides c.args.tests.now in
    let same : (named : ℕ × ℕ) → not (strikes_as answers key stored.value stored.modified named.1 (get nat_eq kept.ids named.0)) ≡ not (does_strike w key stored named) = λ named.
    ap not
    (ap (λ a. strikes_as a key stored.value stored.modified named.1 (get nat_eq kept.ids named.0)) tests
    ∙ ap (strikes_as w.predicates key stored.value stored.modified named.1) (h.predicates.ids named.0)
    ∙ sym (one_holds (does_hit w key stored) named.0 named.1 w.registered (h.predicates.once named.0))) in
    c.from_vec.ensures
    ∙ filter_same _ (λ named. not (strikes_as answers key stored.value stored.modified named.1 (get nat_eq kept.ids named.0))) _ (λ x b f called. search rules) _ _
    c.retain.ensures.filtered
    ∙ ap (filter (λ named. not (strikes_as answers key stored.value stored.modified named.1 (get nat_eq kept.ids named.0)))) c.into_vec-left.ensures
    ∙ filter_agree _ _ same c.args.ids
