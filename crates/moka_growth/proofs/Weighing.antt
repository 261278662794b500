-- What steps weigh, as numbers.
use Rattle.std.proofs.Common.{◌≡◌, ◌≢◌, ℕ, ◌+◌, ◌<◌, ◌≤◌, Bool, true, false, not, ◌||◌, List, [], ◌∷◌, length, Option, Some, None, zero, suc, refl, sym, ap, ◌∙◌, arith, eqb, if◌then◌else◌}
use Rattle.std.specs.Option.{option_eq}
use Rattle.std.specs.List.{list_any}
use Rattle.std.proofs.lemmas.Bool.{false≢true, eqb-true, eq-eqb}
use Rattle.moka_words.specs.declared.words.Word.{Word}
use Rattle.moka_words.specs.declared.words.Word.TheVariants.{Unset, Empty, Live, Tomb, SealedEmpty, SealedLive, SealedTomb}
use Rattle.moka_words.specs.Words.{node_of, is_sealed, word_at}
use Rattle.moka_growth.specs.declared.kinds.CallKind.{CallKind}
use Rattle.moka_growth.specs.declared.kinds.CallKind.TheVariants as kind
use Rattle.moka_growth.specs.Calls.{is_due}
use Rattle.moka_growth.specs.Left.{word_eq, is_empty, has_no_place, is_behind, hints, to_grow, to_end, from_root, once_grown, once_met}
use Rattle.moka_growth.proofs.Bounding.{to_end_next}

pub option_same : (o : Option ℕ) → option_eq eqb o o ≡ true
option_same None = refl
option_same (Some n) = eq-eqb n n refl

pub option_true : (o p : Option ℕ) → option_eq eqb o p ≡ true → o ≡ p
option_true None None e = refl
option_true None (Some n) e = absurd (cc e)
option_true (Some n) None e = absurd (cc e)
option_true (Some n) (Some m) e = ap Some (eqb-true n m e)

pub option_false : (o p : Option ℕ) → o ≢ p → option_eq eqb o p ≡ false
option_false o p other = by (option_eq eqb o p) refl
  where
    by : (q : Bool) → option_eq eqb o p ≡ q → option_eq eqb o p ≡ false
    by true e = absurd (other (option_true o p e))
    by false e = e

pub word_same : (w : Word) → word_eq w w ≡ true
word_same Unset = refl
word_same Empty = refl
word_same (Live n) = eq-eqb n n refl
word_same (Tomb n) = eq-eqb n n refl
word_same SealedEmpty = refl
word_same (SealedLive n) = eq-eqb n n refl
word_same (SealedTomb n) = eq-eqb n n refl

pub word_true : (v w : Word) → word_eq v w ≡ true → v ≡ w
word_true Unset Unset e = refl
word_true Empty Empty e = refl
word_true (Live n) (Live m) e = ap Live (eqb-true n m e)
word_true (Tomb n) (Tomb m) e = ap Tomb (eqb-true n m e)
word_true SealedEmpty SealedEmpty e = refl
word_true (SealedLive n) (SealedLive m) e = ap SealedLive (eqb-true n m e)
word_true (SealedTomb n) (SealedTomb m) e = ap SealedTomb (eqb-true n m e)
word_true v w e = absurd (false≢true e)

pub word_false : (v w : Word) → v ≢ w → word_eq v w ≡ false
word_false v w other = by (word_eq v w) refl
  where
    by : (q : Bool) → word_eq v w ≡ q → word_eq v w ≡ false
    by true e = absurd (other (word_true v w e))
    by false e = e

-- some word passes a test that unset words don't, or none does
pub any_at : (p : Word → Bool) (words : List Word) (i : ℕ) → p Unset ≡ false → p (word_at words i) ≡ true → list_any p words ≡ true
any_at p [] i unset e = absurd (false≢true (sym unset ∙ e))
any_at p (w ∷ ws) zero unset e = ap (λ b. b || list_any p ws) e
any_at p (w ∷ ws) (suc i) unset e = by (p w) (any_at p ws i unset e)
  where
    by : (b : Bool) → list_any p ws ≡ true → (b || list_any p ws) ≡ true
    by true d = refl
    by false d = d

pub none_at : (p : Word → Bool) (words : List Word) → ((i : ℕ) → i < length words → p (word_at words i) ≡ false) → list_any p words ≡ false
none_at p [] all = refl
none_at p (w ∷ ws) all = ap (λ b. b || list_any p ws) (all 0 (omega arith)) ∙ none_at p ws (λ i h. all (suc i) (omega arith))

pub key_not_empty : (w : Word) (n : ℕ) → node_of w ≡ Some n → is_empty w ≡ false
key_not_empty Empty n e = absurd (cc e)
key_not_empty Unset n e = refl
key_not_empty (Live m) n e = refl
key_not_empty (Tomb m) n e = refl
key_not_empty SealedEmpty n e = refl
key_not_empty (SealedLive m) n e = refl
key_not_empty (SealedTomb m) n e = refl

-- when a call is behind
pub behind_sealed : (k : CallKind) (r : Option ℕ) (words : List Word) (i : ℕ) → is_sealed (word_at words i) ≡ true → is_behind k r words ≡ true
behind_sealed k r words i e = ap (λ b. b || has_no_place k r words) (any_at is_sealed words i refl e)

or_true : (b c : Bool) → c ≡ true → (b || c) ≡ true
or_true true c e = refl
or_true false c e = e

pub behind_full : (a : ℕ) (words : List Word) → ((i : ℕ) → i < length words → is_empty (word_at words i) ≡ false) →
    is_behind kind.Insert (Some a) words ≡ true
behind_full a words full = or_true (list_any is_sealed words) (not (list_any is_empty words))
    (ap not (none_at is_empty words full))

-- a hint that is spent
pub due_spends : (k : CallKind) (spent : Bool) (size tombstones len : ℕ) → is_due k spent size tombstones len ≡ true →
    hints k spent ≡ hints k true + 1
due_spends kind.Get spent s t l e = absurd (false≢true e)
due_spends kind.Insert true s t l e = absurd (false≢true e)
due_spends kind.Insert false s t l e = refl
due_spends kind.Remove true s t l e = absurd (false≢true e)
due_spends kind.Remove false s t l e = refl
due_spends kind.Keys spent s t l e = absurd (false≢true e)

module _ (most times : ℕ) (b : Bool) (r : Option ℕ) where
  pub grown_here : (o : Option ℕ) → r ≡ o → once_grown most times b r o ≡ to_end most times
  grown_here o e = ap (λ q. if q then to_end most times else from_root most times b)
      (ap (λ x. option_eq eqb o x) e ∙ option_same o)

  pub grown_elsewhere : (o : Option ℕ) → r ≢ o → once_grown most times b r o ≡ from_root most times b
  grown_elsewhere o e = ap (λ q. if q then to_end most times else from_root most times b) (option_false o r (λ d. e (sym d)))

  pub met_here : (a : ℕ) → r ≡ Some a → once_met most times b r a ≡ (if b then 1 + to_grow most + to_end most times else 0)
  met_here a e = ap (λ q. if q then (if b then 1 + to_grow most + to_end most times else 0) else from_root most times b)
      (ap (λ x. option_eq eqb (Some a) x) e ∙ option_same (Some a))

  pub met_full : (a : ℕ) → r ≡ Some a → b ≡ true → once_met most times b r a ≡ 1 + to_grow most + to_end most times
  met_full a e behind = met_here a e ∙ ap (λ q. if q then 1 + to_grow most + to_end most times else 0) behind

pub from_root_least : (most times : ℕ) (b : Bool) → to_end most times ≤ from_root most times b
from_root_least most times true = let next = to_end_next most times in omega arith
from_root_least most times false = omega arith

-- a probe, or a walk, that begins in the root
pub start_lower : (most times : ℕ) (b : Bool) (size : ℕ) → size ≤ most →
    size + 1 + (if b then 1 + to_grow most + to_end most times else 0) < from_root most times b
start_lower most times true size short = let next = to_end_next most times in omega arith
start_lower most times false size short = omega arith

-- a sealed word that was met
pub met_lower : (most times : ℕ) (b : Bool) (r : Option ℕ) (a steps : ℕ) → 1 ≤ steps → (r ≡ Some a → b ≡ true) →
    (if option_eq eqb (Some a) r then 1 + to_grow most + to_end most times else from_root most times b)
    < steps + once_met most times b r a
met_lower most times b r a steps some behind = by (option_eq eqb (Some a) r) refl b behind
  where
    by : (q : Bool) → option_eq eqb (Some a) r ≡ q → (b : Bool) → (r ≡ Some a → b ≡ true) →
        (if q then 1 + to_grow most + to_end most times else from_root most times b)
        < steps + (if q then (if b then 1 + to_grow most + to_end most times else 0) else from_root most times b)
    by true e true behind = omega arith
    by true e false behind = absurd (false≢true (behind (sym (option_true (Some a) r e))))
    by false e b behind = omega arith
