-- Calls that pass buckets, while others exchange words.
use Rattle.std.proofs.Common.{◌≡◌, ℕ, ◌<◌, Bool, true, false, List, length, Option, Some, None, IsSome, inl, inr, refl, sym, ap, subst, ◌∙◌, arith}
use Rattle.std.proofs.lemmas.Bool.{cases_eq, cases_lt, false≢true}
use Rattle.moka_words.specs.declared.words.Word.{Word}
use Rattle.moka_words.specs.Words.{node_of, word_at}
use Rattle.moka_words.specs.Arrays.{bucket_at, Reaches, IsArray, IsNew}
use Rattle.moka_words.specs.Later.{Later, LaterWords, IsOwn, IsOwnHash, HasOther, HasPassed, IsAbsent}
use Rattle.moka_words.proofs.Lasts.{some_is}

-- a bucket keeps another key
pub other_lasts : (same : ℕ → ℕ → Bool) (own : ℕ → Bool) (old new : Word) → IsOwn same own → Later same old new →
    HasOther own old → HasOther own new
other_lasts same own old new is_own later other =
    let key = later.key other.0 other.1 in (key.0, key.1, sym (is_own.alike other.0 key.0 key.2) ∙ other.2)

pub passed_lasts : (same : ℕ → ℕ → Bool) (own : ℕ → Bool) (old new : List Word) (hash n : ℕ) → IsOwn same own →
    LaterWords same old new → HasPassed own old hash n → HasPassed own new hash n
passed_lasts same own old new hash n is_own later passed k below =
    subst (λ size. HasOther own (word_at new (bucket_at size hash k))) (sym later.length_stays)
    (other_lasts same own _ _ is_own (later.later (bucket_at (length old) hash k)) (passed k below))

same_node : {o : Option ℕ} {n m : ℕ} → o ≡ Some n → o ≡ Some m → n ≡ m
same_node a b = cc

no_node : {o : Option ℕ} {n : ℕ} → o ≡ None → o ≡ Some n → ⊥
no_node a b = cc

none_is : {o : Option ℕ} → o ≡ None → IsSome o → ⊥
none_is a b = cc

pub ends_absent : (hash : ℕ → ℕ) (same : ℕ → ℕ → Bool) (own : ℕ → Bool) (words : List Word) (h n : ℕ) →
    IsArray hash same words →
    IsOwnHash hash own words h → HasPassed own words h n →
    (n < length words → node_of (word_at words (bucket_at (length words) h n)) ≡ None) → IsAbsent own words
ends_absent hash same own words h n array own_hash passed free j m d = by (own m) refl
  where
    -- the own key can't stand at j, since its probe would come there
    never : (k : ℕ) → own m ≡ true → Reaches words h k j → ⊥
    never k e r = elim (cases_lt k n) [
      | inl below ↦ elim_below below
      | inr above ↦ elim (cases_eq n k) [
        | inl last ↦ no_node (free (omega arith))
            (ap (λ x. node_of (word_at words (bucket_at (length words) h x))) last ∙
            here)
        | inr before ↦ none_is (free (omega arith)) (r.passed n (omega arith))
      ]
    ]
      where
        here : node_of (word_at words (bucket_at (length words) h k)) ≡ Some m
        here = ap (λ x. node_of (word_at words x)) r.there ∙ d

        elim_below : k < n → ⊥
        elim_below below = let other = passed k below in
            false≢true (sym other.2 ∙ ap own (same_node other.1 here) ∙ e)

    by : (b : Bool) → own m ≡ b → own m ≡ false
    by false e = e
    by true e = let come = array.reached j m d in
        absurd (never come.0 e (subst (λ x. Reaches words x come.0 j) (own_hash j m d e) come.1))

pub absent_new : (hash : ℕ → ℕ) (same : ℕ → ℕ → Bool) (own : ℕ → Bool) (words : List Word) (k n : ℕ) →
    IsOwn same own → own n ≡ true → k < length words → HasPassed own words (hash n) k → IsAbsent own words →
    IsNew hash same words (bucket_at (length words) (hash n) k) n
absent_new hash same own words k n is_own e within passed absent =
    record {
      reached = (
        k,
        record {
          within = within;
          there = refl;
          passed = λ x below. let other = passed x below in
              some_is _ other.0 other.1;
        },
      );
      absent = λ j m d. by j m d (same n m) refl;
    }
  where
    by : (j m : ℕ) → node_of (word_at words j) ≡ Some m → (b : Bool) → same n m ≡ b → same n m ≡ false
    by j m d false alike = alike
    by j m d true alike = absurd (false≢true (sym (absent j m d) ∙ sym (is_own.alike n m alike) ∙ e))
