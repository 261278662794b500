-- Those that waited are answered, if any did.
use Rattle.std.proofs.Common.{◌∙◌, nat_eq, sym, ap}
use Rattle.std.specs.HashMap.{get, hash_map_len}
use Rattle.std.specs.Option.{option_map}
use Rattle.moka_gateway.specs.Folds.{sent_all}
use Rattle.moka_gateway.proofs.Parts.{replied_some}
use Rattle.moka_gateway.proofs.gateway.Gateway.settle.Goals as goal

pub settle-requires : goal.settle-requires
settle-requires c = (c.requires.0.upstream, c.requires.1.fetches)

pub returns-in_ok-outs-in-Some-clause-answers : goal.returns-in_ok-outs-in-Some-clause-answers
returns-in_ok-outs-in-Some-clause-answers c = λ g p.
    let old = c.args.self.now in
    replied_some old.fetches (get nat_eq old.clients) (hash_map_len old.clients) old.last_client g p c.args.key c.args.answer c.in-Some.given.items
    (sym (ap (option_map (λ v. v.items)) c.in-Some.is) ∙ c.in_ok-given.ensures.given g.upstream p.fetches)
    c.settle.new.self (c.in_ok-given.ensures.ended g.upstream p.fetches)
    c.in_ok-outs-in-Some.outs
    (c.in_ok-outs-in-Some.ensures.outs g.clients p.clients ∙ ap (λ l. (sent_all g.clients l).outs) c.deref.ensures.value)
    (get nat_eq c.answer_clients.new.clients)
    (λ n. c.in_ok-outs-in-Some.ensures.sent g.clients p.clients n ∙ ap (λ l. (sent_all g.clients l).clients n) c.deref.ensures.value)
    (hash_map_len c.answer_clients.new.clients) c.answer_clients.ensures.count
