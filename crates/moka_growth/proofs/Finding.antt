-- What is present under the call's key, before a change and after it.
use Rattle.std.proofs.Common.{◌≡◌, ◌↔◌, ℕ, ◌+◌, ◌<◌, Bool, true, false, List, length, Option, Some, None, inl, inr, refl, sym, ap, subst, ◌∙◌, set}
use Rattle.std.specs.Option.{option_to_list}
use Rattle.std.proofs.lemmas.Bool.{cases_eq, false≢true}
use Rattle.std.proofs.lemmas.List.{get_or-set_same, get_or-set_other}
use Rattle.moka_words.specs.declared.words.Word.{Word}
use Rattle.moka_words.specs.declared.words.Word.TheVariants.{Unset, Empty, Live, Tomb, SealedEmpty, SealedLive, SealedTomb}
use Rattle.moka_words.specs.Words.{node_of, stored_in, word_at}
use Rattle.moka_words.specs.Arrays.{IsArray}
use Rattle.moka_words.specs.Later.{IsOwn, IsAbsent}
use Rattle.moka_words.specs.Layout.{IsStored, stored_nodes}
use Rattle.moka_words.specs.Effect.{Memory, root, words_of}
use Rattle.moka_words.proofs.Lasts.{set_cases}
use Rattle.moka_words.proofs.Laying.{stored_is_key}
use Rattle.moka_growth.specs.Fits.{IsOpen, IsChange}
use Rattle.moka_growth.specs.Maps.{IsPresent, Finds, ChangesMap}
use Rattle.moka_growth.proofs.Storing.{stored_set_count}
use Rattle.moka_growth.proofs.Exchanging.{change_from, change_own}

-- what an array stores under the call's key
abbrev pub FindsIn : (own : ℕ → Bool) → List Word → Option ℕ → Type 0
FindsIn own words None = (n : ℕ) → IsStored words n → own n ≡ false
FindsIn own words (Some n) = IsStored words n × (own n ≡ true)

pub finds_root : (own : ℕ → Bool) (m : Memory) (a : ℕ) → root m ≡ Some a → (o : Option ℕ) → FindsIn own (m.words a) o → Finds own m o
finds_root own m a is_root None f = λ n p. f n (subst (λ r. IsStored (words_of m r) n) is_root p)
finds_root own m a is_root (Some n) f = (subst (λ r. IsStored (words_of m r) n) (sym is_root) f.0, f.1)

pub absent_in : (own : ℕ → Bool) (words : List Word) → IsAbsent own words → FindsIn own words None
absent_in own words absent n s = absent s.0 n (stored_is_key (word_at words s.0) n s.1)

pub change_open : (own : ℕ → Bool) (from to : Word) → IsChange own from to → IsOpen own from
change_open own Empty to h = tt
change_open own (Tomb m) (Live n) h = h.0
change_open own (Live m) (Live n) h = h.0
change_open own (Live m) (Tomb n) h = h.0
change_open own from to h = absurd h

no_store : {n : ℕ} → None ≡ Some n → ⊥
no_store e = cc

module _ {hash : ℕ → ℕ} {same : ℕ → ℕ → Bool} {own : ℕ → Bool} (is_own : IsOwn same own) (words : List Word)
    (array : IsArray hash same words) (i : ℕ) (w : Word) (there : word_at words i ≡ w) (opens : IsOpen own w)
    (empty : w ≡ Empty → IsAbsent own words) where
  -- the call's key has no other bucket
  pub own_bucket : (j n : ℕ) → stored_in (word_at words j) ≡ Some n → own n ≡ true → j ≡ i
  own_bucket j n e o = by w there opens empty
    where
      one : (k : ℕ) → node_of (word_at words i) ≡ Some k → own k ≡ true → j ≡ i
      one k d p = array.one j i n k (stored_is_key (word_at words j) n e) d (is_own.one n k o p)

      by : (v : Word) → word_at words i ≡ v → IsOpen own v → (v ≡ Empty → IsAbsent own words) → j ≡ i
      by Empty d p free = absurd (false≢true (sym (free refl j n (stored_is_key (word_at words j) n e)) ∙ o))
      by (Live k) d p free = one k (ap node_of d) p
      by (Tomb k) d p free = one k (ap node_of d) p
      by Unset d p free = absurd p
      by SealedEmpty d p free = absurd p
      by (SealedLive k) d p free = absurd p
      by (SealedTomb k) d p free = absurd p

  pub finds_here : FindsIn own words (stored_in w)
  finds_here = by w there opens empty
    where
      by : (v : Word) → word_at words i ≡ v → IsOpen own v → (v ≡ Empty → IsAbsent own words) → FindsIn own words (stored_in v)
      by Empty d p free = absent_in own words (free refl)
      by (Live k) d p free = ((i, ap stored_in d), p)
      by (Tomb k) d p free = λ n s. other n s (own n) refl
        where
          other : (n : ℕ) → IsStored words n → (b : Bool) → own n ≡ b → own n ≡ false
          other n s false o = o
          other n s true o = absurd (no_store (sym (ap stored_in d) ∙
              (ap (λ x. stored_in (word_at words x)) (sym (own_bucket s.0 n s.1 o)) ∙ s.1)))
      by Unset d p free = absurd p
      by SealedEmpty d p free = absurd p
      by (SealedLive k) d p free = absurd p
      by (SealedTomb k) d p free = absurd p

module _ {hash : ℕ → ℕ} {same : ℕ → ℕ → Bool} {own : ℕ → Bool} (is_own : IsOwn same own) (words : List Word)
    (array : IsArray hash same words) (i : ℕ) (from to : Word) (within : i < length words) (there : word_at words i ≡ from)
    (change : IsChange own from to) (empty : from ≡ Empty → IsAbsent own words) where
  others_stay : (n : ℕ) → own n ≡ false → IsStored words n ↔ IsStored (set words i to) n
  others_stay n o = (forth, back)
    where
      forth : IsStored words n → IsStored (set words i to) n
      forth s = elim (cases_eq s.0 i) [
        | inl e ↦ absurd (false≢true (sym o ∙ change_from own from to change n
            (ap node_of (sym there) ∙ (ap (λ x. node_of (word_at words x)) (sym e) ∙ stored_is_key (word_at words s.0) n s.1))))
        | inr e ↦ (s.0, ap stored_in (get_or-set_other words i s.0 to Unset e) ∙ s.1)
      ]

      back : IsStored (set words i to) n → IsStored words n
      back s = set_cases (λ v. stored_in v ≡ Some n → IsStored words n) words i to s.0 (λ e. (s.0, e))
          (λ _ e. absurd (false≢true (sym o ∙ change_own own from to change n (stored_is_key to n e)))) s.1

  key_is : (n : ℕ) → own n ≡ true → IsStored (set words i to) n ↔ (stored_in to ≡ Some n)
  key_is n o = (forth, λ e. (i, ap stored_in (get_or-set_same words i to Unset within) ∙ e))
    where
      forth : IsStored (set words i to) n → stored_in to ≡ Some n
      forth s = elim (cases_eq s.0 i) [
        | inl e ↦ sym (ap stored_in (get_or-set_same words i to Unset within)) ∙
            (ap (λ x. stored_in (word_at (set words i to) x)) (sym e) ∙ s.1)
        | inr e ↦ absurd (e (own_bucket is_own words array i from there (change_open own from to change) empty s.0 n
            (sym (ap stored_in (get_or-set_other words i s.0 to Unset e)) ∙ s.1) o))
      ]

  pub changes : (old new : Memory) → words_of old (root old) ≡ words → words_of new (root new) ≡ set words i to →
      ChangesMap own (stored_in from) (stored_in to) old new
  changes old new old_is new_is = record {
    others = λ n o. subst (λ ws. IsStored ws n ↔ IsPresent new n) (sym old_is)
        (subst (λ ws. IsStored words n ↔ IsStored ws n) (sym new_is) (others_stay n o));
    key = λ n o. subst (λ ws. IsStored ws n ↔ (stored_in to ≡ Some n)) (sym new_is) (key_is n o);
    count = subst (λ ws. length (stored_nodes (words_of new (root new))) + length (option_to_list (stored_in from))
        ≡ length (stored_nodes ws) + length (option_to_list (stored_in to))) (sym old_is)
        (subst (λ ws. length (stored_nodes ws) + length (option_to_list (stored_in from))
        ≡ length (stored_nodes words) + length (option_to_list (stored_in to))) (sym new_is)
        (subst (λ v. length (stored_nodes (set words i to)) + length (option_to_list (stored_in v))
        ≡ length (stored_nodes words) + length (option_to_list (stored_in to))) there (stored_set_count words i to within)));
  }
