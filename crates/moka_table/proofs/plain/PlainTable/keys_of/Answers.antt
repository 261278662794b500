use Rattle.std.proofs.Common.{List, sym, subst}
use Rattle.moka_table.specs.Plain.{IsPlainList}
use Rattle.moka_table.proofs.Listing.{none_listed}
use Rattle.moka_table.proofs.plain.PlainTable.keys_of.Goals as goal

pub returns-else-part-eq0 : goal.returns-else-part-eq0
returns-else-part-eq0 g c =
    let eq = g.K.PartialEq.eq in
    let t = c.args.self.now in
    subst (λ (ks : List g.row.K.Denot). IsPlainList eq t c.args.part ks) (sym c.new.ensures.items)
    (none_listed eq t c.args.part (λ e. c.if-part-eq0.false (sym e)))
