-- The digits are those of the number's bytes.
use Rattle.std.proofs.Common.{◌++◌, ap, ◌∙◌}
use Rattle.std.specs.String.{string_bytes}
use Rattle.uuid.specs.Text.{hyphenated_text, lower}
use Rattle.moka_ids.proofs.text.push_id.Goals as goal

pub returns-in-Ok-clause-ok : goal.returns-in-Ok-clause-ok
returns-in-Ok-clause-ok c =
    c.in-Ok.ensures.bytes
    ∙ ap (λ digits. string_bytes c.args.text.now ++ digits)
    (c.encode_lower-digits.ensures.text ∙ ap (hyphenated_text lower) (c.hyphenated.ensures ∙ c.from_u128.ensures))
