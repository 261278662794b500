-- Pieces and their texts.
use Rattle.std.proofs.Common.{◌≡◌, ℕ, Bool, true, false, cond, eqb, ◌||◌, List, [], ◌∷◌, map, Some, None, IfSome, refl, sym, ap, arith}
use Rattle.std.specs.List.{AllByRecursion, list_any}
use Rattle.std.proofs.lemmas.Bool.Decides.{Decides-eqb}
use Rattle.moka_gateway_run.specs.Pieces.{IsPiece, piece_in, read_byte, shown, shown_byte}

differs : (a b : ℕ) → (a ≡ b → ⊥) → eqb a b ≡ false
differs a b h = by (eqb a b) refl where
  by : (t : Bool) → eqb a b ≡ t → t ≡ false
  by true e = absurd (h ((Decides-eqb a b).0 e))
  by false e = refl

-- a byte that is no semicolon is read as itself
byte_read : (b : ℕ) (t u : Bool) → eqb b 10 ≡ t → eqb b 59 ≡ u → (b ≡ 59 → ⊥) → read_byte (cond t 59 b) ≡ b
byte_read b true u e f none = sym ((Decides-eqb b 10).0 e)
byte_read b false true e f none = absurd (none ((Decides-eqb b 59).0 f))
byte_read b false false e f none = ap (λ c. cond c 10 b) f

both : {A : Type 0} {a b : A} {c d : List A} → a ≡ b → c ≡ d → a ∷ c ≡ b ∷ d
both {A} {a} {b} {c} {d} e f = cc

bytes_read : (bytes : List ℕ) → AllByRecursion (λ b. b ≡ 59 → ⊥) bytes → map read_byte (shown bytes) ≡ bytes
bytes_read [] h = refl
bytes_read (b ∷ bytes) h = both (byte_read b (eqb b 10) (eqb b 59) refl refl h.0) (bytes_read bytes h.1)

-- what is shown has no byte 10
byte_ends : (b : ℕ) (t : Bool) → eqb b 10 ≡ t → eqb (cond t 59 b) 10 ≡ false
byte_ends b true e = refl
byte_ends b false e = e

no_end : (bytes : List ℕ) → list_any (λ b. eqb b 10) (shown bytes) ≡ false
no_end [] = refl
no_end (b ∷ bytes) = rw (byte_ends b (eqb b 10) refl) (no_end bytes)

-- a piece's text is read as it
pub piece_read : (bytes : List ℕ) → IsPiece bytes → piece_in (shown bytes) ≡ Some bytes
unfolding piece_in
piece_read [] h = absurd (omega (arith, h.0))
piece_read (b ∷ bytes) h = rw (no_end (b ∷ bytes)) (ap Some (bytes_read (b ∷ bytes) h.1))

-- a byte that is none of these stands for itself
byte_shown : (b : ℕ) (t u : Bool) → eqb b 59 ≡ t → eqb b 10 ≡ u → u ≡ false → shown_byte (cond t 10 b) ≡ b
byte_shown b true u e f none = sym ((Decides-eqb b 59).0 e)
byte_shown b false true e f none = absurd cc
byte_shown b false false e f none = ap (λ c. cond c 59 b) f

byte_plain : (b : ℕ) (t : Bool) → eqb b 59 ≡ t → cond t 10 b ≡ 59 → ⊥
byte_plain b true e is = absurd (omega (arith, is))
byte_plain b false e is = let same = (Decides-eqb b 59).1 is in absurd cc

neither : (a b : Bool) → (a || b) ≡ false → (a ≡ false) × (b ≡ false)
neither true b e = absurd cc
neither false b e = (refl, e)

text_shown : (text : List ℕ) → list_any (λ b. eqb b 10) text ≡ false → text ≡ shown (map read_byte text)
text_shown [] e = refl
text_shown (b ∷ text) e =
    let parts = neither (eqb b 10) (list_any (λ c. eqb c 10) text) e in
    both (sym (byte_shown b (eqb b 59) (eqb b 10) refl refl parts.0)) (text_shown text parts.1)

text_plain : (text : List ℕ) → AllByRecursion (λ b. b ≡ 59 → ⊥) (map read_byte text)
text_plain [] = tt
text_plain (b ∷ text) = (byte_plain b (eqb b 59) refl, text_plain text)

-- what a text is read as is shown so
pub piece_is : (text : List ℕ) → IfSome (piece_in text) (λ bytes. (text ≡ shown bytes) × IsPiece bytes)
unfolding piece_in
piece_is [] = tt
piece_is (b ∷ text) = by (list_any (λ c. eqb c 10) (b ∷ text)) refl where
  by : (t : Bool) → list_any (λ c. eqb c 10) (b ∷ text) ≡ t → IfSome (cond t None (Some (map read_byte (b ∷ text)))) (λ bytes. (b ∷ text ≡ shown bytes) × IsPiece bytes)
  by true e = tt
  by false e = (text_shown (b ∷ text) e, (omega arith, text_plain (b ∷ text)))
