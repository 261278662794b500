-- The test is called once.
use Rattle.std.proofs.Common.{[], ◌∷◌, refl}
use Rattle.std.specs.Fn.{CalledAt}
use Rattle.moka_cache.proofs.Taking.{may_now, may_since}
use Rattle.moka_cache.proofs.by_init.ByInitIfAsked.replaces.Goals as goal

pub returns-clause-answers : goal.returns-clause-answers
returns-clause-answers g c =
    let called : CalledAt g.F.FnMut c.args.self.now.replace_if c.args.value.now c.replace_if.result c.replace_if.new.self = record { shown = _; shows = refl; called = c.replace_if.ensures } in
    may_now (CalledAt g.F.FnMut) _ _ _ _ called

pub returns-clause-once : goal.returns-clause-once
returns-clause-once g c =
    let called : CalledAt g.F.FnMut c.args.self.now.replace_if c.args.value.now c.replace_if.result c.replace_if.new.self = record { shown = _; shows = refl; called = c.replace_if.ensures } in
    (refl, called)

pub returns-clause-tested : goal.returns-clause-tested
returns-clause-tested g c = λ value replaced may.
    let called : CalledAt g.F.FnMut c.args.self.now.replace_if c.args.value.now c.replace_if.result c.replace_if.new.self = record { shown = _; shows = refl; called = c.replace_if.ensures } in
    may_since (CalledAt g.F.FnMut) _ _ _ _ called value replaced may

pub replace_if-requires : goal.replace_if-requires
replace_if-requires g c = c.requires.can.1 [] c.args.self.now.replace_if c.requires.so.0 c.args.value.now refl c.requires.so.1 c.args.value refl

pub returns-clause-again : goal.returns-clause-again
returns-clause-again g c =
    let called : CalledAt g.F.FnMut c.args.self.now.replace_if c.args.value.now c.replace_if.result c.replace_if.new.self = record { shown = _; shows = refl; called = c.replace_if.ensures } in (
      c.requires.can.0,
      λ made state key value came so. c.requires.can.1 ((c.args.value.now, c.replace_if.result) ∷ made) state key value (c.replace_if.new.self, called, came) so,
    )
