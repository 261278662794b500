-- Entries that are added, and changes of the words beside them.
use Rattle.std.proofs.Common.{◌≡◌, ℕ, Bool, List, [], ◌∷◌, ◌++◌, take, Option, Some, None, zero, suc, refl, sym, ap, subst, ◌∙◌}
use Rattle.std.specs.Cmp.{IsEquivalence}
use Rattle.std.specs.List.{slice_get}
use Rattle.std.specs.Option.{option_map}
use Rattle.moka_hist.specs.Finite.{put_key}
use Rattle.moka_words.specs.declared.words.Word.{Word}
use Rattle.moka_words.specs.Words.{node_of, stored_in}
use Rattle.moka_words.specs.Effect.{Memory}
use Rattle.moka_words.proofs.Laying.{stored_is_key}
use Rattle.moka_growth.specs.Maps.{Finds, ChangesMap}
use Rattle.moka_pairs.specs.Keys.{Respects, own_by}
use Rattle.moka_pairs.specs.Pairs.{AreKeysOf, map_of, pair_at}
use Rattle.moka_pairs.specs.Segments.{SoundAll}
use Rattle.moka_pairs.proofs.Mapped.{map_after, map_found, map_out}
use Rattle.moka_history.specs.Entries.{Entry, map_from, pair_put}
use Rattle.moka_history.specs.Logs.{entry_with}

no_item : {A : Type 0} {x : A} → None ≡ Some x → ⊥
no_item e = cc

one_item : {A : Type 0} {x y : A} → Some x ≡ Some y → x ≡ y
one_item e = cc

module _ {K V : Type 0} (eq : K → K → Bool) where
  -- a map after one entry more
  pub map_more : (f : K → Option (K × V)) (es : List (Entry K V)) (e : Entry K V) (q : K) →
      map_from eq f (es ++ e ∷ []) q ≡ put_key eq (map_from eq f es) e.key (pair_put e) q
  map_more f [] e q = refl
  map_more f (x ∷ es) e q = map_more (put_key eq f x.key (pair_put x)) es e q

  -- entries that begin with this map are legal
  abbrev pub LegalFrom : (K → Option (K × V)) → List (Entry K V) → Type 0
  LegalFrom f es = (n : ℕ) (e : Entry K V) → slice_get es n ≡ Some e → e.former ≡ map_from eq f (take n es) e.key

  pub legal_more : (f : K → Option (K × V)) (es : List (Entry K V)) (e : Entry K V) → LegalFrom f es → e.former ≡ map_from eq f es e.key →
      LegalFrom f (es ++ e ∷ [])
  legal_more f [] e legal now zero d at = subst (λ x. x.former ≡ f x.key) (one_item at) now
  legal_more f [] e legal now (suc n) d at = absurd (no_item at)
  legal_more f (x ∷ es) e legal now zero d at = legal 0 d at
  legal_more f (x ∷ es) e legal now (suc n) d at =
      legal_more (put_key eq f x.key (pair_put x)) es e (λ m y there. legal (suc m) y there) now n d at

  pub legal_front : (f : K → Option (K × V)) (es more : List (Entry K V)) → LegalFrom f (es ++ more) → LegalFrom f es
  legal_front f [] more legal n d at = absurd (no_item at)
  legal_front f (x ∷ es) more legal zero d at = legal 0 d at
  legal_front f (x ∷ es) more legal (suc n) d at =
      legal_front (put_key eq f x.key (pair_put x)) es more (λ m y there. legal (suc m) y there) n d at

-- the pair of a number whose key is known
pub named_pair : {K V : Type 0} (known : ℕ → Option K) (pairs : ℕ → Option (K × V)) → AreKeysOf known pairs → (n : ℕ) (key : K) → known n ≡ Some key →
    (value : V) × (pairs n ≡ Some (key, value))
named_pair {K} {V} known pairs are n key named = by (pairs n) refl (are n key named)
  where
    by : (o : Option (K × V)) → pairs n ≡ o → option_map (λ p. p.0) o ≡ Some key → (value : V) × (pairs n ≡ Some (key, value))
    by None there e = absurd (no_item e)
    by (Some p) there e = (p.1, there ∙ ap (λ k. Some (k, p.1)) (one_item e))

module _ {K V : Type 0} (eq : K → K → Bool) (laws : IsEquivalence eq) (hash : K → ℕ) (respects : Respects eq hash) (known : ℕ → Option K)
    (pairs : ℕ → Option (K × V)) (are : AreKeysOf known pairs) (old new : Memory) (sound_old : SoundAll eq hash known old)
    (sound_new : SoundAll eq hash known new) (ticket : ℕ) (from to : Word) (n : ℕ) (key : K) (names : node_of to ≡ Some n) (named : known n ≡ Some key)
    (finds : Finds (own_by eq known key) old (stored_in from))
    (changes : ChangesMap (own_by eq known key) (stored_in from) (stored_in to) old new) where
  abbrev Put : Option ℕ → Option (K × V)
  Put o = option_map (λ v. (key, v)) (option_map (λ p. p.1) (pair_at pairs o))

  put_by : (o : Option ℕ) → stored_in to ≡ o → ChangesMap (own_by eq known key) (stored_in from) o old new → (q : K) →
      map_of eq new known pairs q ≡ put_key eq (map_of eq old known pairs) key (Put o) q
  put_by None is change q = map_out eq laws hash respects known pairs old new sound_new key (stored_in from) change q
  put_by (Some m) is change q =
      let same : n ≡ m = one_item (sym names ∙ stored_is_key to m is) in
      let there : known m ≡ Some key = ap known (sym same) ∙ named in
      let (value, filled) = named_pair known pairs are m key there in
      map_after eq laws hash respects known pairs old new sound_new key value (stored_in from) m there filled change q
      ∙ sym (ap (λ o. put_key eq (map_of eq old known pairs) key (option_map (λ v. (key, v)) (option_map (λ p. p.1) o)) q) filled)

  pub change_is : let e : Entry K V = entry_with pairs ticket from to key in
      (e.former ≡ map_of eq old known pairs key)
      × ((q : K) → map_of eq new known pairs q ≡ put_key eq (map_of eq old known pairs) key (pair_put e) q)
  change_is = (
    sym (map_found eq laws hash respects known pairs old sound_old key (stored_in from) finds),
    put_by (stored_in to) refl changes,
  )
