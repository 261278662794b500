-- Changes and seals keep the root one.
use Rattle.std.proofs.Common.{◌≡◌, ◌≢◌, ℕ, ◌+◌, ◌<◌, Bool, true, false, List, length, Some, None, refl, sym, ap, subst, ◌∙◌, arith, set}
use Rattle.std.proofs.lemmas.Bool.{false≢true}
use Rattle.std.proofs.lemmas.Nat.{mod_below}
use Rattle.moka_words.specs.declared.words.Word.{Word}
use Rattle.moka_words.specs.declared.words.Word.TheVariants.{Unset, Empty, Live, Tomb, SealedEmpty, SealedLive, SealedTomb}
use Rattle.moka_words.specs.Words.{node_of, stored_in, is_sealed, word_at, NamesKeys}
use Rattle.moka_words.specs.Arrays.{bucket_at, IsNew}
use Rattle.moka_words.specs.Later.{Later, IsOwn, HasPassed, IsAbsent}
use Rattle.moka_words.proofs.Passing.{ends_absent, absent_new}
use Rattle.moka_growth.specs.Growing.{seal_of}
use Rattle.moka_growth.specs.Sound.{IsRoot}
use Rattle.moka_growth.specs.Fits.{IsKey, IsChange}
use Rattle.moka_growth.proofs.Sounding.{root_exchanged}

-- what a change is from and to
pub change_bare : (own : ℕ → Bool) (from to : Word) → IsChange own from to → is_sealed from ≡ false
change_bare own Empty to h = refl
change_bare own (Live m) to h = refl
change_bare own (Tomb m) to h = refl
change_bare own Unset to h = absurd h
change_bare own SealedEmpty to h = absurd h
change_bare own (SealedLive m) to h = absurd h
change_bare own (SealedTomb m) to h = absurd h

pub change_set : (own : ℕ → Bool) (from to : Word) → IsChange own from to → to ≢ Unset
change_set own Empty (Live n) h = λ e. absurd (cc e)
change_set own (Tomb m) (Live n) h = λ e. absurd (cc e)
change_set own (Live m) (Live n) h = λ e. absurd (cc e)
change_set own (Live m) (Tomb n) h = λ e. absurd (cc e)
change_set own from to h = absurd h

pub change_own : (own : ℕ → Bool) (from to : Word) → IsChange own from to → (n : ℕ) → node_of to ≡ Some n → own n ≡ true
change_own own Empty (Live k) h n e = subst (λ x. own x ≡ true) (cc e) h
change_own own (Tomb m) (Live k) h n e = subst (λ x. own x ≡ true) (cc e) h.1
change_own own (Live m) (Live k) h n e = subst (λ x. own x ≡ true) (cc e) h.1
change_own own (Live m) (Tomb k) h n e = subst (λ x. own x ≡ true) (h.1 ∙ cc e) h.0
change_own own from to h n e = absurd h

pub change_from : (own : ℕ → Bool) (from to : Word) → IsChange own from to → (n : ℕ) → node_of from ≡ Some n → own n ≡ true
change_from own Empty to h n e = absurd (cc e)
change_from own (Tomb m) (Live k) h n e = subst (λ x. own x ≡ true) (cc e) h.0
change_from own (Live m) (Live k) h n e = subst (λ x. own x ≡ true) (cc e) h.0
change_from own (Live m) (Tomb k) h n e = subst (λ x. own x ≡ true) (cc e) h.0
change_from own from to h n e = absurd h

pub change_node : (own : ℕ → Bool) (from to : Word) → IsChange own from to → (m : ℕ) × (node_of to ≡ Some m)
change_node own Empty (Live n) h = (n, refl)
change_node own (Tomb m) (Live n) h = (n, refl)
change_node own (Live m) (Live n) h = (n, refl)
change_node own (Live m) (Tomb n) h = (n, refl)
change_node own from to h = absurd h

-- a change is for a later word
pub change_later : (same : ℕ → ℕ → Bool) (own : ℕ → Bool) (from to : Word) → IsOwn same own → IsChange own from to →
    Later same from to
change_later same own from to is_own h = record {
  key = λ n e. let node = change_node own from to h in
      (node.0, node.1, is_own.one n node.0 (change_from own from to h n e) (change_own own from to h node.0 node.1));
  set = λ e. absurd (change_set own from to h e);
  sealed = λ e. absurd (false≢true (sym (change_bare own from to h) ∙ e));
}

-- a seal is a later word with the same node, stored as before
pub seal_node : (w : Word) → node_of (seal_of w) ≡ node_of w
seal_node Unset = refl
seal_node Empty = refl
seal_node (Live n) = refl
seal_node (Tomb n) = refl
seal_node SealedEmpty = refl
seal_node (SealedLive n) = refl
seal_node (SealedTomb n) = refl

pub seal_stored : (w : Word) → stored_in (seal_of w) ≡ stored_in w
seal_stored Unset = refl
seal_stored Empty = refl
seal_stored (Live n) = refl
seal_stored (Tomb n) = refl
seal_stored SealedEmpty = refl
seal_stored (SealedLive n) = refl
seal_stored (SealedTomb n) = refl

pub seal_sealed : (w : Word) → is_sealed (seal_of w) ≡ true
seal_sealed Unset = refl
seal_sealed Empty = refl
seal_sealed (Live n) = refl
seal_sealed (Tomb n) = refl
seal_sealed SealedEmpty = refl
seal_sealed (SealedLive n) = refl
seal_sealed (SealedTomb n) = refl

pub sealed_set : (w : Word) → is_sealed w ≡ true → w ≢ Unset
sealed_set w e d = absurd (false≢true (ap is_sealed (sym d) ∙ e))

pub seal_later : {hash : ℕ → ℕ} (same : ℕ → ℕ → Bool) (w : Word) → NamesKeys hash same → is_sealed w ≡ false →
    Later same w (seal_of w)
seal_later same w names bare = record {
  key = λ n e. (n, seal_node w ∙ e, names.itself n);
  set = λ e. absurd (sealed_set (seal_of w) (seal_sealed w) e);
  sealed = λ e. absurd (false≢true (sym bare ∙ e));
}

-- the bucket to which a probe comes is one of the array
pub bucket_within : (size h passed : ℕ) → passed < size → bucket_at size h passed < size
bucket_within size h passed more = mod_below (h + passed) size (omega arith)

module _ {hash : ℕ → ℕ} {same : ℕ → ℕ → Bool} {mine own : ℕ → Bool} {h : ℕ} (names : NamesKeys hash same)
    (key : IsKey hash same mine own h) (words : List Word) (is_root : IsRoot hash same mine words) where
  -- the call's key is absent where its probe ends
  pub root_absent : (passed : ℕ) → HasPassed own words h passed →
      (passed < length words → node_of (word_at words (bucket_at (length words) h passed)) ≡ None) → IsAbsent own words
  root_absent passed passed_are free = ends_absent hash same own words h passed is_root.array (λ i n e o. key.hashed n o)
      passed_are free

  -- the root stays one where a call changes the word to which its probe came
  pub change_root : (passed : ℕ) (from to : Word) → HasPassed own words h passed → passed < length words →
      word_at words (bucket_at (length words) h passed) ≡ from → IsChange own from to →
      IsRoot hash same mine (set words (bucket_at (length words) h passed) to)
  change_root passed from to passed_are more there change =
      root_exchanged words (bucket_at (length words) h passed) to names is_root
      (subst (λ w. Later same w to) (sym there) (change_later same own from to key.one change)) (change_set own from to change)
      (λ n e. key.of_segment n (change_own own from to change n e)) new
    where
      new : (n : ℕ) → node_of (word_at words (bucket_at (length words) h passed)) ≡ None → node_of to ≡ Some n →
          IsNew hash same words (bucket_at (length words) h passed) n
      new n free e =
          let o : own n ≡ true = change_own own from to change n e in
          subst (λ x. IsNew hash same words (bucket_at (length words) x passed) n) (key.hashed n o)
          (absent_new hash same own words passed n key.one o more
          (subst (λ x. HasPassed own words x passed) (sym (key.hashed n o)) passed_are)
          (root_absent passed passed_are (λ within. free)))

  pub seal_root : (i : ℕ) (w : Word) → word_at words i ≡ w → is_sealed w ≡ false → IsRoot hash same mine (set words i (seal_of w))
  seal_root i w there bare = root_exchanged words i (seal_of w) names is_root
      (subst (λ v. Later same v (seal_of w)) (sym there) (seal_later same w names bare))
      (sealed_set (seal_of w) (seal_sealed w))
      (λ n e. is_root.keys i n (ap node_of there ∙ sym (seal_node w) ∙ e))
      (λ n free e. absurd (cc (sym free ∙ (ap node_of there ∙ (sym (seal_node w) ∙ e)))))
