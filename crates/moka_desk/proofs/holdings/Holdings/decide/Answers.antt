-- The place that the call has is the one that it gets.
use Rattle.std.proofs.Common.{is_some, sym, ap, ◌∙◌}
use Rattle.moka_desk.proofs.holdings.Holdings.decide.Goals as goal

pub replace-requires : goal.replace-requires
replace-requires c = record { few = c.requires; held = ap is_some (sym c.get.ensures ∙ c.in-Some-Own.is) }
