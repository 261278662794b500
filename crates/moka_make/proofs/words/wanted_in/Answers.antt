-- The first word is that of a make, and the others spell its numbers.
use Rattle.std.proofs.Common.{◌≡◌, [], ◌∷◌, map, sym, ◌∙◌}
use Rattle.std.specs.Prelude.{codes}
use Rattle.std.specs.String.{string_bytes}
use Rattle.moka_make.proofs.Asked.{asked, map_of_three, same_word}
use Rattle.moka_make.proofs.words.wanted_in.Goals as goal

pub returns-clause-found : goal.returns-clause-found
returns-clause-found c =
    let words = c.args.words.now in
    let turns = c.as_bytes.result.now in
    let seed = c.as_bytes-2.result.now in
    let is_make = same_word c.ne.result c.as_str.result.now (codes "make") c.ne.ensures c.if-ne.false in
    let split : map string_bytes words ≡ codes "make" ∷ turns ∷ seed ∷ [] =
    map_of_three string_bytes words c.word-item.result c.turns-item.result c.seed-item.result
    c.in-len3.len_at_least c.in-len3.len_below c.word-item.is c.turns-item.is c.seed-item.is
    ∙ (λ i. (sym c.as_str.ensures.value ∙ is_make) i ∷ sym c.as_bytes.ensures.value i
    ∷ sym c.as_bytes-2.ensures.value i ∷ [])
    in
    asked words turns seed c.numbers_in.result split c.numbers_in.ensures.turns c.numbers_in.ensures.seed
