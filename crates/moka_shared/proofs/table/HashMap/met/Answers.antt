use Rattle.std.proofs.Common.{◌∙◌, sym}
use Rattle.moka_shared.proofs.table.HashMap.met.Goals as goal

pub returns-clause-met : goal.returns-clause-met
returns-clause-met g c = λ old ticket entry. entry (sym c.is_sealed.ensures ∙ c.if-is_sealed.false)
