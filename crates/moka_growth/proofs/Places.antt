-- Arrays by their places.
use Rattle.std.proofs.Common.{◌≡◌, ℕ, ◌<◌, ◌≤◌, Bool, false, length, Option, Some, None, zero, suc, inl, inr, refl, sym, ap, ◌∙◌, arith}
use Rattle.std.specs.List.{slice_get}
use Rattle.std.proofs.lemmas.Option.{slice_get-get_or}
use Rattle.std.proofs.lemmas.Bool.{cases_lt, false≢true}
use Rattle.moka_words.specs.Words.{is_sealed, word_at}
use Rattle.moka_words.specs.Effect.{Memory, array_at, array_before, root, words_of, StandsBefore, KeepsArrays}
use Rattle.moka_growth.specs.Sound.{IsSound}
use Rattle.moka_growth.specs.Fits.{HasBeenRoot}

pub same_number : {a b : ℕ} → Some a ≡ Some b → a ≡ b
same_number e = cc

pub no_number : {o : Option ℕ} {a : ℕ} → o ≡ None → o ≡ Some a → ⊥
no_number d e = cc

pub two_numbers : {o : Option ℕ} {a b : ℕ} → o ≡ Some a → o ≡ Some b → a ≡ b
two_numbers d e = cc

-- the root is the array right before the place of the next one
pub root_at : (m : Memory) (place : ℕ) → suc place ≡ m.rooted → root m ≡ array_at m place
root_at m place e = ap (λ r. array_before m r) (sym e)

module _ (old new : Memory) (keeps : KeepsArrays old new) where
  pub at_same : (p : ℕ) → array_at new p ≡ array_at old p
  at_same p = ap (λ xs. slice_get xs p) keeps.arrays

  pub before_same : (p : ℕ) → array_before new p ≡ array_before old p
  before_same zero = refl
  before_same (suc p) = at_same p

  pub root_same : root new ≡ root old
  root_same = ap (λ r. array_before new r) keeps.rooted ∙ before_same old.rooted

  pub next_same : array_at new new.rooted ≡ array_at old old.rooted
  next_same = ap (λ r. array_at new r) keeps.rooted ∙ at_same old.rooted

-- words by their arrays
pub words_same : (old new : Memory) → ((a : ℕ) → new.words a ≡ old.words a) → (o : Option ℕ) →
    words_of new o ≡ words_of old o
words_same old new same None = refl
words_same old new same (Some a) = same a

-- an array stands before one place alone
pub before_one : {hash : ℕ → ℕ} {same : ℕ → ℕ → Bool} {mine : ℕ → Bool} (m : Memory) → IsSound hash same mine m →
    (p q : ℕ) (array : Option ℕ) → StandsBefore m p array → StandsBefore m q array → p ≡ q
before_one {hash} {same} {mine} m sound p q array a b = by p q array a.there b.there a.within b.within
  where
    some : (p q : ℕ) (o : Option ℕ) → slice_get m.arrays p ≡ o → slice_get m.arrays q ≡ o → suc p ≤ length m.arrays → suc p ≡ suc q
    some p q None d e h = absurd (no_number d (slice_get-get_or m.arrays p 0 (omega arith)))
    some p q (Some a) d e h = let same_place = sound.one p q a d e in omega arith

    by : (p q : ℕ) (o : Option ℕ) → array_before m p ≡ o → array_before m q ≡ o → p ≤ length m.arrays → q ≤ length m.arrays → p ≡ q
    by zero zero o d e h k = refl
    by zero (suc q) o d e h k = absurd (no_number (e ∙ sym d) (slice_get-get_or m.arrays q 0 (omega arith)))
    by (suc p) zero o d e h k = absurd (no_number (d ∙ sym e) (slice_get-get_or m.arrays p 0 (omega arith)))
    by (suc p) (suc q) o d e h k = some p q o d e h

-- a word that is not sealed, in an array that has been root, stands in the root
pub unsealed_in_root : {hash : ℕ → ℕ} {same : ℕ → ℕ → Bool} {mine : ℕ → Bool} (m : Memory) → IsSound hash same mine m →
    (a i : ℕ) → (r : HasBeenRoot m a) → i < length (m.words a) → is_sealed (word_at (m.words a) i) ≡ false →
    suc r.place ≡ m.rooted
unsealed_in_root m sound a i r within bare = elim (cases_lt (suc r.place) m.rooted) [
  | inl before ↦ absurd (false≢true (sym bare ∙ sound.left r.place a before r.there i within))
  | inr last ↦ let rooted = r.before in omega arith
]
