use Rattle.std.specs.HashMap.{keys}
use Rattle.moka_parts.proofs.Listing.{keys_list, none_left}
use Rattle.moka_parts.proofs.pairs.keys.Goals as goal

pub returns-clause-listed : goal.returns-clause-listed
returns-clause-listed g c = λ q.
    let map = c.args.map.now in
    let whole = none_left c.loop-key.keys.items c.loop-key.key-iterator (keys map) c.in-None.ensures.steps.0 c.loop-key.invariant in
    keys_list g.K.PartialEq.eq map.entries c.keys-key-items.result (keys map) c.loop-key.keys.items q c.keys-key-items.ensures.rest whole (c.keys-key-items.ensures.has q)
