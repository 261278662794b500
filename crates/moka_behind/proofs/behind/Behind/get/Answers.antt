-- A get answers what is stored, and else what it finds behind the cache.
use Rattle.std.proofs.Common.{List, sym, ◌∙◌, IsSome, subst}
use Rattle.std.specs.declared.alloc.AllocError.{AllocError}
use Rattle.moka_keepers.specs.declared.write.Write.{Write}
use Rattle.moka_keepers.specs.Writes.{last_of}
use Rattle.moka_behind.specs.declared.pairs.Looked.{Looked}
use Rattle.moka_behind.specs.Behind.{IsBehind}
use Rattle.moka_behind.specs.Looking.{Looks}
use Rattle.moka_behind.proofs.Behinds.{fault_unspent, found_stored, got_so, got_usable, own_unsent, same_behind, unspent_before, unspent_ok}
use Rattle.moka_behind.proofs.behind.Behind.get.Goals as goal

pub returns-in-Found-clause-got : goal.returns-in-Found-clause-got
returns-in-Found-clause-got g c = λ truth stored sent b.
    found_stored c.args.self.now c.look.new.self (g.Kp.Keeper.told c.args.keeper.now) truth stored sent c.args.key c.in-Found.value
    (unspent_ok AllocError c.in_ok-value.field-0 c.look.new.self c.in_ok-value.ensures.spent) c.look.ensures.unsent
    (λ ps h. subst (λ (l : Looked). Looks l c.args.key ps c.look.new.self.cache) c.in-Found.is (c.in_ok-value.ensures.looked ps h)) b

pub returns-in-Asks-clause-got : goal.returns-in-Asks-clause-got
returns-in-Asks-clause-got g c =
    got_so c.load.result c.args.self.now c.look.new.self c.load.new.self (g.Kp.Keeper.told c.args.keeper.now)
    (g.Kp.Keeper.told c.load.new.keeper) c.args.key c.in-Asks.call
    (λ ps h. subst (λ (l : Looked). Looks l c.args.key ps c.look.new.self.cache) c.in-Asks.is (c.in_ok-value.ensures.looked ps h))
    c.look.ensures.unsent c.load.ensures.unsent c.load.ensures.told c.load.ensures.found c.load.ensures.true_value
    c.load.ensures.spent

pub returns-in-Asks-clause-own : goal.returns-in-Asks-clause-own
returns-in-Asks-clause-own g c = λ kept truth stored sent b own.
    let l = subst (λ (l : Looked). Looks l c.args.key b.pairs c.look.new.self.cache) c.in-Asks.is (c.in_ok-value.ensures.looked b.pairs b.holds) in
    c.load.ensures.own
    (subst (λ (ws : List Write). IsSome (last_of c.args.key ws)) (sym c.look.ensures.unsent)
    (own_unsent c.args.self.now kept truth stored sent c.args.key b l.0 own))

pub returns-in-Asks-clause-usable : goal.returns-in-Asks-clause-usable
returns-in-Asks-clause-usable g c =
    got_usable c.load.result c.args.self.now c.look.new.self c.load.new.self c.args.key c.in-Asks.call
    (c.requires.usable (unspent_before AllocError c.in_ok-value.field-0 c.args.self.now c.in_ok-value.ensures.stays))
    (λ ps h. subst (λ (l : Looked). Looks l c.args.key ps c.look.new.self.cache) c.in-Asks.is (c.in_ok-value.ensures.looked ps h))
    c.load.ensures.found c.load.ensures.dropped c.load.ensures.spent

pub returns-in-Asks-clause-dropped : goal.returns-in-Asks-clause-dropped
returns-in-Asks-clause-dropped g c = λ fault truth stored sent b.
    let before = g.Kp.Keeper.told c.args.keeper.now in
    subst (λ k. IsBehind c.load.new.self k truth stored sent) (sym c.load.ensures.told)
    (same_behind c.args.self.now c.load.new.self before truth stored sent
    (fault_unspent c.load.result c.load.new.self c.load.ensures.spent fault)
    (c.load.ensures.unsent ∙ c.look.ensures.unsent)
    (λ ps h. c.load.ensures.dropped fault ps
    (subst (λ (l : Looked). Looks l c.args.key ps c.look.new.self.cache) c.in-Asks.is (c.in_ok-value.ensures.looked ps h)).1) b)
