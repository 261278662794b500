-- What keeps a segment sound.
use Rattle.std.proofs.Common.{◌≡◌, ◌≢◌, ℕ, ◌<◌, Bool, true, false, List, length, Some, None, suc, inl, inr, sym, ap, subst, ◌∙◌, arith, set}
use Rattle.std.specs.Int.{IsPowerOfTwo}
use Rattle.std.proofs.lemmas.Bool.{cases_eq, false≢true}
use Rattle.std.proofs.lemmas.List.{length-set}
use Rattle.moka_words.specs.declared.words.Word.{Word}
use Rattle.moka_words.specs.declared.words.Word.TheVariants.{Unset}
use Rattle.moka_words.specs.Words.{node_of, is_sealed, word_at, NamesKeys}
use Rattle.moka_words.specs.Arrays.{IsNew}
use Rattle.moka_words.specs.Later.{Later}
use Rattle.moka_words.specs.Effect.{Memory, array_at, root, words_of, KeepsArrays, IsUnchanged, SetsWord}
use Rattle.moka_words.proofs.Lasts.{set_cases}
use Rattle.moka_words.proofs.Exchanges.{exchange_keeps_array}
use Rattle.moka_growth.specs.Growing.{IsSealed}
use Rattle.moka_growth.specs.Sound.{IsRoot, IsNext, IsSound}
use Rattle.moka_growth.specs.Fits.{HasBeenRoot}
use Rattle.moka_growth.proofs.Places.{at_same, root_same, next_same, words_same, root_at, unsealed_in_root}

module _ {hash : ℕ → ℕ} {same : ℕ → ℕ → Bool} {mine : ℕ → Bool} where
  -- the same arrays, in which only words of the root and of the next array have changed
  pub words_sound : (old new : Memory) → KeepsArrays old new → IsSound hash same mine old →
      ((p a : ℕ) → array_at old p ≡ Some a → length (new.words a) ≡ length (old.words a)) →
      ((p a : ℕ) → suc p < old.rooted → array_at old p ≡ Some a → new.words a ≡ old.words a) →
      ((p a : ℕ) → p < old.rooted → array_at old p ≡ Some a → IsRoot hash same mine (new.words a)) →
      ((a : ℕ) → array_at old old.rooted ≡ Some a → IsNext hash (root old) (words_of new (root old)) (new.words a)) →
      IsSound hash same mine new
  words_sound old new keeps sound lengths left roots follows =
      let rooted = keeps.rooted in
      let counted : length new.arrays ≡ length old.arrays = ap (λ xs. length xs) keeps.arrays in
      let fresh = keeps.fresh in
      let was_linked = sound.linked in
      let was_waiting = sound.waits in
      record {
        one = λ p q a d e. sound.one p q a (sym (at_same old new keeps p) ∙ d) (sym (at_same old new keeps q) ∙ e);
        numbered = λ p a d. let below = sound.numbered p a (sym (at_same old new keeps p) ∙ d) in omega arith;
        power = λ p a d. let e = sym (at_same old new keeps p) ∙ d in
            subst (λ l. IsPowerOfTwo l) (sym (lengths p a e)) (sound.power p a e);
        linked = omega arith;
        waits = omega arith;
        left = λ p a h d. let e = sym (at_same old new keeps p) ∙ d in
            subst (λ ws. IsSealed ws) (sym (left p a (omega arith) e)) (sound.left p a (omega arith) e);
        roots = λ p a h d. roots p a (omega arith) (sym (at_same old new keeps p) ∙ d);
        follows = λ a d. subst (λ o. IsNext hash o (words_of new o) (new.words a)) (sym (root_same old new keeps))
            (follows a (sym (next_same old new keeps) ∙ d));
      }

  pub unchanged_sound : (old new : Memory) → IsSound hash same mine old → IsUnchanged old new →
      IsSound hash same mine new
  unchanged_sound old new sound stays = words_sound old new stays.1 sound (λ p a e. ap (λ ws. length ws) (stays.0 a))
      (λ p a h e. stays.0 a) (λ p a h e. subst (λ ws. IsRoot hash same mine ws) (sym (stays.0 a)) (sound.roots p a h e))
      (λ a e. subst (λ ws. IsNext hash (root old) ws (new.words a)) (sym (words_same old new stays.0 (root old)))
      (subst (λ ws. IsNext hash (root old) (words_of old (root old)) ws) (sym (stays.0 a)) (sound.follows a e)))

  -- a word of the root that is not sealed may change, if the root stays one
  pub exchange_sound : (old new : Memory) → IsSound hash same mine old → (a i : ℕ) (w : Word) → HasBeenRoot old a →
      i < length (old.words a) → is_sealed (word_at (old.words a) i) ≡ false → SetsWord a i w old new →
      IsRoot hash same mine (set (old.words a) i w) → IsSound hash same mine new
  exchange_sound old new sound a i w r within bare sets is_root =
      words_sound old new sets.2 sound lengths left roots follows
    where
      last : suc r.place ≡ old.rooted
      last = unsealed_in_root old sound a i r within bare

      lengths : (p b : ℕ) → array_at old p ≡ Some b → length (new.words b) ≡ length (old.words b)
      lengths p b e = elim (cases_eq b a) [
        | inl d ↦ subst (λ x. length (new.words x) ≡ length (old.words x)) (sym d)
            (ap (λ ws. length ws) sets.0 ∙ length-set (old.words a) i w)
        | inr d ↦ ap (λ ws. length ws) (sets.1 b d)
      ]

      left : (p b : ℕ) → suc p < old.rooted → array_at old p ≡ Some b → new.words b ≡ old.words b
      left p b h e = sets.1 b (λ d. let one = sound.one p r.place b e (r.there ∙ ap Some (sym d)) in let at_last = last in absurd (omega arith))

      roots : (p b : ℕ) → p < old.rooted → array_at old p ≡ Some b → IsRoot hash same mine (new.words b)
      roots p b h e = elim (cases_eq b a) [
        | inl d ↦ subst (λ x. IsRoot hash same mine (new.words x)) (sym d)
            (subst (λ ws. IsRoot hash same mine ws) (sym sets.0) is_root)
        | inr d ↦ subst (λ ws. IsRoot hash same mine ws) (sym (sets.1 b d)) (sound.roots p b h e)
      ]

      follows : (b : ℕ) → array_at old old.rooted ≡ Some b →
          IsNext hash (root old) (words_of new (root old)) (new.words b)
      follows b e =
          let is_root : root old ≡ Some a = root_at old r.place last ∙ r.there in
          let sealed : IsSealed (old.words a) =
          subst (λ o. IsSealed (words_of old o)) is_root ((sound.follows b e).sealed) in
          absurd (false≢true (sym bare ∙ sealed i within))

  -- the root stays one where a word is exchanged for a later one, a new key is one of the segment
  pub root_exchanged : (words : List Word) (i : ℕ) (w : Word) → NamesKeys hash same → IsRoot hash same mine words →
      Later same (word_at words i) w → w ≢ Unset → ((n : ℕ) → node_of w ≡ Some n → mine n ≡ true) →
      ((n : ℕ) → node_of (word_at words i) ≡ None → node_of w ≡ Some n → IsNew hash same words i n) →
      IsRoot hash same mine (set words i w)
  root_exchanged words i w names r later set_ of_segment new = record {
    array = exchange_keeps_array hash same words i w names r.array later new;
    set = λ j h. set_cases (λ v. v ≢ Unset) words i w j
        (r.set j (subst (λ l. j < l) (length-set words i w) h)) (λ e. set_);
    keys = λ j n. set_cases (λ v. node_of v ≡ Some n → mine n ≡ true) words i w j (r.keys j n) (λ e. of_segment n);
  }
