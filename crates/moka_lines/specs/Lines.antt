-- The lines of a text, and what they say, where each has one spelling.
use Rattle.std.specs.Prelude.{◌≡◌, ℕ, ◌+◌, ◌==◌, List, [], ◌∷◌, ◌++◌, map, length, if◌then◌else◌}
use Rattle.std.specs.List.{onto_first}

-- Each line ends with byte 10, and the last may lack it: what stands after the last byte 10 is a
-- line only where it isn't empty.
abbrev pub lines : List ℕ → List (List ℕ)
lines [] = []
lines (b ∷ bytes) = if b == 10 then [] ∷ lines bytes else onto_first b (lines bytes)

-- each line may come after these and those before it
abbrev pub AreInPlace : {L : Type 0} → (List L → L → Type 0) → List L → List L → Type 0
AreInPlace Fits before [] = Unit {0}
AreInPlace Fits before (l ∷ rest) = Fits before l × AreInPlace Fits (before ++ l ∷ []) rest

-- the text is a spelling of these, each of which may come after those before it
pub record Says {L : Type 0} (spell : L → List ℕ) (Fits : List L → L → Type 0) (text : List ℕ)
    (said : List L) : Type 0 where
  pub split : lines text ≡ map spell said
  pub fit : AreInPlace Fits [] said

-- the bytes spell nothing that may come after these
abbrev pub SpellsNone : {L : Type 0} → (L → List ℕ) → (List L → L → Type 0) → List L → List ℕ → Type 0
SpellsNone {L} spell Fits before bytes = (l : L) → Fits before l → bytes ≡ spell l → ⊥

-- after these stands a line that spells nothing that may come there
pub record GoesBad {L : Type 0} (spell : L → List ℕ) (Fits : List L → L → Type 0) (text : List ℕ)
    (said : List L) : Type 0 where
  pub line : List ℕ
  pub rest : List (List ℕ)
  pub split : lines text ≡ map spell said ++ line ∷ rest
  pub fit : AreInPlace Fits [] said
  pub none : SpellsNone spell Fits said line

-- this is the number, from 1, of the first line that is not in the grammar
pub record IsFirstBad {L : Type 0} (spell : L → List ℕ) (Fits : List L → L → Type 0)
    (text : List ℕ) (number : ℕ) : Type 0 where
  pub said : List L
  pub bad : GoesBad spell Fits text said
  pub place : number ≡ length said + 1

-- what may come at a place has a spelling of its own
abbrev pub AreSpelledApart : {L : Type 0} → (L → List ℕ) → (List L → L → Type 0) → Type 0
AreSpelledApart {L} spell Fits =
    (before : List L) (a b : L) → Fits before a → Fits before b → spell a ≡ spell b → a ≡ b

-- no text says two things, or says something and has a bad line, or has two first bad lines
pub record AreReadOneWay {L : Type 0} (spell : L → List ℕ) (Fits : List L → L → Type 0) : Type 0 where
  pub said : (text : List ℕ) (a b : List L) → Says spell Fits text a → Says spell Fits text b → a ≡ b
  pub good : (text : List ℕ) (said : List L) (line : ℕ)
      → Says spell Fits text said → IsFirstBad spell Fits text line → ⊥
  pub bad : (text : List ℕ) (a b : ℕ)
      → IsFirstBad spell Fits text a → IsFirstBad spell Fits text b → a ≡ b
