-- The one word is compared with the program's.
use Rattle.std.specs.String.{string_bytes}
use Rattle.moka_lines.proofs.OneWord.{map_of_one, one_word_tells}
use Rattle.moka_lines.proofs.programs.is_word.Goals as goal

pub returns-in-len1 : goal.returns-in-len1
returns-in-len1 c =
    let one = map_of_one string_bytes c.args.words.now c.given-item.result c.in-len1.len_at_least c.in-len1.len_below c.given-item.is in
    one_word_tells c.eq.result _ _ _ _ one c.as_str.ensures.value c.eq.ensures
