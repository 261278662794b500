use Rattle.std.proofs.Common.{sym, ◌∙◌}
use Rattle.moka_lines.proofs.Numbers.{u32_tested, no_u64_no_u32}
use Rattle.moka_lines.proofs.words.u32_in.Goals as goal

pub returns-in_err-u64_in : goal.returns-in_err-u64_in
returns-in_err-u64_in c = c.from_residual.ensures ∙ sym (no_u64_no_u32 c.args.digits.now (sym c.in_err-u64_in.ensures))

pub returns : goal.returns
returns c = c.ok.ensures.value ∙ u32_tested c.args.digits.now c.in_ok-u64_in.field-0 c.try_from.result (sym c.in_ok-u64_in.ensures) c.try_from.ensures
