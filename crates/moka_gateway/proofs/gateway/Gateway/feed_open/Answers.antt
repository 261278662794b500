-- The client is fed, if it is open.
use Rattle.std.proofs.Common.{◌≡◌, None, is_some, nat_eq, sym, ap, subst}
use Rattle.std.specs.HashMap.{get, hash_map_len}
use Rattle.moka_collapsing.specs.Reference.{feeds}
use Rattle.moka_gateway.specs.Gateway.{HasParts}
use Rattle.moka_gateway.proofs.Parts.{fed_none, fed_some}
use Rattle.moka_gateway.proofs.gateway.Gateway.feed_open.Goals as goal

pub feed_client-requires : goal.feed_client-requires
feed_client-requires c = (c.requires.0.upstream, c.requires.1.fetches)

pub returns-in-None-clause-answers : goal.returns-in-None-clause-answers
returns-in-None-clause-answers c = λ g p.
    let old = c.args.self.now in
    subst (λ m. (None ≡ (feeds g c.args.client c.args.bytes.now).0)
    × HasParts old.fetches (get nat_eq m) (hash_map_len m) old.last_client (feeds g c.args.client c.args.bytes.now).1)
    (sym c.get_mut.follows.holds-at-none)
    (fed_none old.fetches (get nat_eq old.clients) (hash_map_len old.clients) old.last_client g p c.args.client c.args.bytes.now (sym c.in-None.ensures.value))

pub returns-in_ok-outs-in-Some-clause-answers : goal.returns-in_ok-outs-in-Some-clause-answers
returns-in_ok-outs-in-Some-clause-answers c = λ g p.
    let old = c.args.self.now in
    let after = c.feed_client.new.client in
    let come = c.in_ok-outs-in-Some.ensures.come g.upstream p.fetches in
    fed_some old.fetches (get nat_eq old.clients) (hash_map_len old.clients) old.last_client g p c.args.client c.args.bytes.now c.in-Some.it.now after
    (sym c.in-Some.ensures.value) c.feed_client.new.fetches c.in_ok-outs-in-Some.outs (c.in_ok-outs-in-Some.ensures.outs g.upstream p.fetches) come.0 come.1
    (get nat_eq (c.get_mut.follows.lender after)) ((c.get_mut.follows.holds after).3 (ap is_some (sym c.in-Some.ensures.value))).0
    (hash_map_len (c.get_mut.follows.lender after)) (c.get_mut.follows.holds after).2
