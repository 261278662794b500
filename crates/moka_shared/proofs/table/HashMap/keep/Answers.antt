use Rattle.std.proofs.Common.{◌∙◌, sym}
use Rattle.moka_shared.proofs.table.HashMap.keep.Goals as goal

pub keep_node-requires-clause-named : goal.keep_node-requires-clause-named
keep_node-requires-clause-named g c = c.requires.named c.in-Some.number (sym c.stored_in.ensures ∙ c.in-Some.is)
