-- The book of a table that is opened.
use Rattle.std.proofs.Common.{◌≡◌, ℕ, ◌+◌, ◌*◌, ◌^◌, ◌≤◌, Bool, true, [], ◌∷◌, arith, replicate, subst, suc}
use Rattle.std.specs.Int.{IsPowerOfTwo}
use Rattle.moka_history.specs.declared.note.Note.TheVariants.{Opened}
use Rattle.moka_history.specs.Rules.{Holds}
use Rattle.moka_history.specs.Keeping.{IsDivided}
use Rattle.moka_history.proofs.Opening.{opening_holds}

pub opens : {K : Type 0} (V : Type 0) {S : Type 0} (eq : K → K → Bool) (hash : S → K → ℕ) (place : S → ℕ → K → ℕ) → IsDivided eq hash place →
    (segments size : ℕ) (hasher : S) → segments ≤ 2 ^ 60 → IsPowerOfTwo size → (count : ℕ) → count ≡ segments * size →
    Holds {V = V} eq hash place (replicate (count + segments + segments + 1) (0, true)) (Opened segments size hasher ∷ [])
opens V eq hash place divided segments size hasher few power count is =
    let words : suc (segments * size + (segments + segments)) ≡ count + segments + segments + 1 = omega (arith, is) in
    subst (λ n. Holds {V = V} eq hash place (replicate n (0, true)) (Opened segments size hasher ∷ [])) words
    (opening_holds V eq hash place divided segments size hasher few power)
