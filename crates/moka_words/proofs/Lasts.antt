-- What later words keep of the old ones.
use Rattle.std.proofs.Common.{◌≡◌, ℕ, ◌<◌, Bool, true, List, length, Option, Some, None, is_some, IsSome, inl, inr, refl, sym, ap, subst, ◌∙◌, arith, set}
use Rattle.std.proofs.lemmas.List.{get_or-set_same, get_or-set_other, set_past, length-set}
use Rattle.std.proofs.lemmas.Bool.{cases_eq, cases_lt, false≢true}
use Rattle.moka_words.specs.declared.words.Word.{Word}
use Rattle.moka_words.specs.declared.words.Word.TheVariants.{Unset}
use Rattle.moka_words.specs.Words.{node_of, is_sealed, word_at, NamesKeys}
use Rattle.moka_words.specs.Arrays.{bucket_at, IsReached}
use Rattle.moka_words.specs.Later.{Later, LaterWords}

pub has_some : (o : Option ℕ) → IsSome o → (n : ℕ) × (o ≡ Some n)
has_some None e = absurd (false≢true e)
has_some (Some n) e = (n, refl)

pub some_is : (o : Option ℕ) (n : ℕ) → o ≡ Some n → IsSome o
some_is o n e = ap is_some e

-- a word of an array in which one word was set: the word before, or the one that was set
pub set_cases : (P : Word → Type 0) (words : List Word) (i : ℕ) (w : Word) (j : ℕ) → P (word_at words j) →
    (j ≡ i → P w) → P (word_at (set words i w) j)
set_cases P words i w j there here =
    elim (cases_lt i (length words))
    [ inl within ↦ bucket within | inr past ↦ subst (λ ws. P (word_at ws j)) (sym (set_past words i w past)) there ]
  where
    same : i < length words → j ≡ i → P (word_at (set words i w) j)
    same within e = subst (λ k. P (word_at (set words i w) k)) (sym e)
        (subst P (sym (get_or-set_same words i w Unset within)) (here e))

    bucket : i < length words → P (word_at (set words i w) j)
    bucket within =
        elim (cases_eq j i) [ inl e ↦ same within e | inr e ↦ subst P (sym (get_or-set_other words i j w Unset e)) there ]

-- a word is later than itself, and later is transitive
pub later_itself : {hash : ℕ → ℕ} (same : ℕ → ℕ → Bool) → NamesKeys hash same → (w : Word) → Later same w w
later_itself same names w = record { key = λ n e. (n, e, names.itself n); set = λ e. e; sealed = λ e. refl }

pub later_later : {hash : ℕ → ℕ} (same : ℕ → ℕ → Bool) → NamesKeys hash same → (old mid new : Word) →
    Later same old mid → Later same mid new → Later same old new
later_later same names old mid new a b = record { key = key; set = λ e. a.set (b.set e); sealed = sealed }
  where
    key : (n : ℕ) → node_of old ≡ Some n → (m : ℕ) × (node_of new ≡ Some m) × (same n m ≡ true)
    key n e = let first = a.key n e in let second = b.key first.0 first.1 in
        (second.0, second.1, names.through n first.0 second.0 first.2 second.2)

    sealed : is_sealed old ≡ true → new ≡ old
    sealed e = let mid_is = a.sealed e in b.sealed (ap is_sealed mid_is ∙ e) ∙ mid_is

pub words_itself : {hash : ℕ → ℕ} (same : ℕ → ℕ → Bool) → NamesKeys hash same → (words : List Word) →
    LaterWords same words words
words_itself same names words = record { length_stays = refl; later = λ i. later_itself same names (word_at words i) }

pub words_later : {hash : ℕ → ℕ} (same : ℕ → ℕ → Bool) → NamesKeys hash same → (old mid new : List Word) →
    LaterWords same old mid → LaterWords same mid new → LaterWords same old new
words_later same names old mid new a b =
    record {
      length_stays = b.length_stays ∙ a.length_stays;
      later = λ i. later_later same names (word_at old i) (word_at mid i) (word_at new i) (a.later i) (b.later i);
    }

-- an array in which a word was set to a later one
pub set_later : {hash : ℕ → ℕ} (same : ℕ → ℕ → Bool) → NamesKeys hash same → (words : List Word) (i : ℕ) (w : Word) →
    Later same (word_at words i) w → LaterWords same words (set words i w)
set_later same names words i w h = record { length_stays = length-set words i w; later = later }
  where
    later : (j : ℕ) → Later same (word_at words j) (word_at (set words i w) j)
    later j = set_cases (Later same (word_at words j)) words i w j (later_itself same names (word_at words j))
        (λ e. subst (λ k. Later same (word_at words k) w) (sym e) h)

-- a bucket that had a key has one
pub keeps_key : (same : ℕ → ℕ → Bool) (old new : Word) → Later same old new → IsSome (node_of old) →
    IsSome (node_of new)
keeps_key same old new h e = let had = has_some (node_of old) e in let has = h.key had.0 had.1 in
    some_is (node_of new) has.0 has.1

-- what a probe came to it still comes to
pub reached_lasts : (same : ℕ → ℕ → Bool) (old new : List Word) → LaterWords same old new → (hash i : ℕ) →
    IsReached old hash i → IsReached new hash i
reached_lasts same old new h hash i r = (r.0, record { within = omega arith; there = there; passed = passed })
  where
    there : bucket_at (length new) hash r.0 ≡ i
    there = ap (λ size. bucket_at size hash r.0) h.length_stays ∙ r.1.there

    passed : (k : ℕ) → k < r.0 → IsSome (node_of (word_at new (bucket_at (length new) hash k)))
    passed k below = subst (λ size. IsSome (node_of (word_at new (bucket_at size hash k)))) (sym h.length_stays)
        (keeps_key same _ _ (h.later (bucket_at (length old) hash k)) (r.1.passed k below))
