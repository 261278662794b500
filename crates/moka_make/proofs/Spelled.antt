-- Numbers that words spell.
use Rattle.std.proofs.Common.{◌≡◌, ℕ, ◌^◌, ◌<◌, ◌≤◌, List, Option, Some, None, IfNone, IfSome, sym, ◌∙◌, arith}
use Rattle.std.specs.Fmt.{decimal}
use Rattle.std.proofs.lemmas.Fmt.{decimal_injective}
use Rattle.std.proofs.lemmas.Option.{none-some}
use Rattle.moka_lines.specs.Words.{number_in}
use Rattle.moka_lines.proofs.Numbers.{number_found, number_some}
use Rattle.moka_make.specs.Words.{IsSeed, IsTurns}

-- what is read as no number spells none
pub unread : (limit : ℕ) (bytes : List ℕ) (n : ℕ) → limit ≤ 2 ^ 64 → number_in limit bytes ≡ None
    → n < limit → bytes ≡ decimal n → ⊥
unread limit bytes n low none small is =
    none-some n (sym none ∙ number_some limit n bytes small low is)

-- what spells two numbers spells one
pub one_spelled : (bytes : List ℕ) (n m : ℕ) → n < 2 ^ 64 → m < 2 ^ 64 → bytes ≡ decimal n
    → bytes ≡ decimal m → n ≡ m
one_spelled bytes n m small other is also = decimal_injective n m small other (sym is ∙ also)

-- a seed is what is read as a number of 64 bits
pub seed_found : (bytes : List ℕ) (r : Option ℕ) → r ≡ number_in (2 ^ 64) bytes
    → IfSome r (λ seed. IsSeed bytes seed)
seed_found bytes (Some n) is =
    let found = number_found (2 ^ 64) n bytes (sym is) in
    record { spelled = found.0; fits = found.1 }
seed_found bytes None is = tt

pub seed_none : (bytes : List ℕ) (r : Option ℕ) → r ≡ number_in (2 ^ 64) bytes
    → IfNone r ((seed : ℕ) → ¬ IsSeed bytes seed)
seed_none bytes (Some n) is = tt
seed_none bytes None is = λ seed s. unread (2 ^ 64) bytes seed (omega arith) (sym is) s.fits s.spelled

-- the number that is read is that of the turns
pub turns_read : (bytes : List ℕ) (n turns : ℕ) → Some n ≡ number_in (2 ^ 32) bytes
    → IsTurns bytes turns → n ≡ turns
turns_read bytes n turns is spells =
    let found = number_found (2 ^ 32) n bytes (sym is) in
    let small = found.1 in
    let few = spells.few in
    one_spelled bytes n turns (omega arith) (omega arith) found.0 spells.spelled
