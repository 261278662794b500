use Rattle.std.proofs.Common.{ap, sym, ◌∙◌, arith}
use Rattle.std.specs.Option.{option_copied}
use Rattle.moka_text.proofs.CacheLine.{too_long}
use Rattle.moka_text.proofs.options.cache_of.Goals as goal

pub returns-in-len1-up : goal.returns-in-len1-up
returns-in-len1-up c =
    too_long c.args.line.now c.in_ok-bytes.bytes.now c.cut_option.result.1.now c.cut_option-2.result.1.now c.cut_option-3.result.1.now c.cut_option-4.result.1.now c.cut_option-5.result.1.now c.cut_option-6.result.1.now c.cut_option-7.result.1.now (sym c.after.ensures ∙ ap option_copied c.in_ok-bytes.was) c.cut_option.ensures.rest c.cut_option-2.ensures.rest c.cut_option-3.ensures.rest c.cut_option-4.ensures.rest c.cut_option-5.ensures.rest c.cut_option-6.ensures.rest c.cut_option-7.ensures.rest (omega (arith, c.in-len1-up.len_at_least))
