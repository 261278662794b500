-- A key alone is a load without a replace test.
use Rattle.std.proofs.Common.{sym, ◌∙◌}
use Rattle.moka_text.proofs.Fronts.{key_alone}
use Rattle.moka_text.proofs.lines.load_of.Goals as goal

pub returns-in-Some : goal.returns-in-Some
returns-in-Some c = sym (key_alone c.args.bytes.now c.in-Some.key (sym c.u32_in.ensures ∙ c.in-Some.is))
