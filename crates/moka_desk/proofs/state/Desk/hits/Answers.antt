use Rattle.std.proofs.Common.{◌≡◌, subst}
use Rattle.std.specs.List.{list_any}
use Rattle.moka_desk.specs.Predicates.{hit_by, predicate_part}
use Rattle.moka_desk.proofs.state.Desk.hits.Goals as goal

pub returns : goal.returns
returns g c = λ w h same.
    let stored = c.args.stored.now in
    subst (λ hides. c.hits.result ≡ list_any (hit_by hides c.args.key.now stored.value stored.modified) w.registered) same
    (c.hits.ensures (predicate_part w) h.predicates)
