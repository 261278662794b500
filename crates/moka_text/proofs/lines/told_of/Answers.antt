-- Without such a front it is a word alone.
use Rattle.std.proofs.Common.{sym, ap, ◌∙◌}
use Rattle.std.specs.Option.{option_copied}
use Rattle.moka_text.proofs.Fronts.{left_alone}
use Rattle.moka_text.proofs.lines.told_of.Goals as goal

pub returns : goal.returns
returns c =
    c.told_alone.ensures ∙ sym (left_alone c.args.bytes.now (sym c.after.ensures ∙ ap option_copied c.in_default.is) (sym c.after-2.ensures ∙ ap option_copied c.in_default-after.is) (sym c.after-3.ensures ∙ ap option_copied c.in_default-after-2.is))
