use Rattle.std.proofs.Common.{rules, sym, ap, ◌∙◌}
use Rattle.std.specs.Prelude.{length}
use Rattle.std.specs.Set.{is_member}
use Rattle.moka_table.proofs.Listing.{keys_listed}
use Rattle.moka_table.proofs.plain.PlainTable.keys.Goals as goal

pub returns : goal.returns
returns g c =
    let it = c.keys-key-items.ensures in
    keys_listed g.K.PartialEq.eq c.args.self.now c.loop-key.keys.items (search rules) it.unique
    it.found (λ q. it.has q ∙ ap (λ ks. is_member g.K.PartialEq.eq ks q) it.rest)
    (sym (ap length it.rest) ∙ it.len)
