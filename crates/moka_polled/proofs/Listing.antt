-- Stored pairs, each of which stands under its own key, listed under those keys.
use Rattle.std.proofs.Common.{◌≡◌, ℕ, Bool, true, false, cond, List, [], ◌∷◌, map, Option, Some, None, refl, sym, ap, ◌∙◌, subst}
use Rattle.std.proofs.lemmas.Bool.{false≢true}
use Rattle.std.proofs.lemmas.Map.Keys.{IsDistinct-cons, IsDistinct-head, IsDistinct-tail}
use Rattle.std.specs.Cmp.{IsEquivalence}
use Rattle.std.specs.List.{AllByRecursion, IsDistinct}
use Rattle.std.specs.Map.{keys_of, lookup, values_of}
use Rattle.std.specs.Option.{option_map}
use Rattle.moka_hist.specs.State.{State}
use Rattle.moka_hist.specs.declared.records.Stored.{Stored}
use Rattle.moka_laws.specs.OwnKeys.{ReachedIsUnderOwnKeys, UnderOwnKeys}
use Rattle.moka_laws.proofs.Counting.{none_some}
use Rattle.moka_small.specs.Seen.{IsSeenAs, small_record}
use Rattle.moka_small.specs.Small.{Small}
use Rattle.moka_table.specs.Map.{ListsPairs}
use Rattle.moka_polled.specs.Polled.{ListsStored}

module _ {K : Type 0} (eq : K → K → Bool) (laws : IsEquivalence eq) where
  -- a pair's own key is as good as the one that it stands under
  as_good : (q own under : K) → eq own under ≡ true → eq q own ≡ eq q under
  as_good q own under h = laws.symm q own ∙ laws.congr own under q h ∙ laws.symm under q

module _ {K V : Type 0} (eq : K → K → Bool) (laws : IsEquivalence eq) where
  -- each pair stands under its own key
  abbrev AreOwn : List (K × (K × Stored V)) → Type 0
  AreOwn entries = AllByRecursion (λ e. eq e.1.0 e.0 ≡ true) entries

  abbrev listed : List (K × (K × Stored V)) → List (K × (V × ℕ))
  listed entries = map (λ pair. (pair.0, small_record pair)) (values_of entries)

  -- a key that is equal to the first one is no other's
  absent : (q k : K) (es : List (K × (K × Stored V))) → eq q k ≡ true →
      AllByRecursion (λ y. eq k y ≡ false) (keys_of es) → lookup (eq q) es ≡ None
  absent q k [] h far = refl
  absent q k (e ∷ es) h far =
      ap (λ (b : Bool). cond b (Some e.1) (lookup (eq q) es)) (laws.congr q k e.0 h ∙ far.0) ∙ absent q k es h far.1

  past : (b : Bool) (v p : K × Stored V) (o : Option (K × Stored V)) → (b ≡ true → o ≡ None) → o ≡ Some p →
      cond b (Some v) o ≡ Some p
  past true v p o none e = absurd (none_some (sym (none refl) ∙ e))
  past false v p o none e = e

  are_own : (es : List (K × (K × Stored V))) → IsDistinct eq (keys_of es) →
      ((q : K) (p : K × Stored V) → lookup (eq q) es ≡ Some p → eq p.0 q ≡ true) → AreOwn es
  are_own [] distinct own = tt
  are_own (e ∷ es) distinct own = (
    own e.0 e.1 (ap (λ (b : Bool). cond b (Some e.1) (lookup (eq e.0) es)) (laws.refl e.0)),
    are_own es (IsDistinct-tail eq e.0 (keys_of es) distinct)
        (λ q p h. own q p (past (eq q e.0) e.1 p (lookup (eq q) es)
        (λ same. absent q e.0 es same (IsDistinct-head eq e.0 (keys_of es) distinct)) h)),
  )

  at_first : (b c : Bool) (v : K × Stored V) (o : Option (V × ℕ)) (p : Option (K × Stored V)) → b ≡ c → o ≡ option_map small_record p →
      cond b (Some (small_record v)) o ≡ option_map small_record (cond c (Some v) p)
  at_first true true v o p h e = refl
  at_first false false v o p h e = e
  at_first true false v o p h e = absurd (false≢true (sym h))
  at_first false true v o p h e = absurd (false≢true h)

  same_at : (es : List (K × (K × Stored V))) → AreOwn es → (q : K) →
      lookup (eq q) (listed es) ≡ option_map small_record (lookup (eq q) es)
  same_at [] own q = refl
  same_at (e ∷ es) own q =
      at_first (eq q e.1.0) (eq q e.0) e.1 (lookup (eq q) (listed es)) (lookup (eq q) es) (as_good eq laws q e.1.0 e.0 own.0)
      (same_at es own.1 q)

  far_from : (k under : K) (es : List (K × (K × Stored V))) → eq k under ≡ true → AreOwn es →
      AllByRecursion (λ y. eq under y ≡ false) (keys_of es) → AllByRecursion (λ y. eq k y ≡ false) (keys_of (listed es))
  far_from k under [] h own far = tt
  far_from k under (e ∷ es) h own far = (
    laws.congr k under e.1.0 h ∙ as_good eq laws under e.1.0 e.0 own.0 ∙ far.0,
    far_from k under es h own.1 far.1,
  )

  each_once : (es : List (K × (K × Stored V))) → AreOwn es → IsDistinct eq (keys_of es) → IsDistinct eq (keys_of (listed es))
  each_once [] own distinct = distinct
  each_once (e ∷ es) own distinct =
      IsDistinct-cons eq e.1.0 (keys_of (listed es))
      (far_from e.1.0 e.0 es own.0 own.1 (IsDistinct-head eq e.0 (keys_of es) distinct))
      (each_once es own.1 (IsDistinct-tail eq e.0 (keys_of es) distinct))

-- the stored pairs of a state list what it is seen as
pub lists_stored : {K V E : Type 0} (eq : K → K → Bool) → IsEquivalence eq → ReachedIsUnderOwnKeys K V E eq →
    (s : State K V E) (m : Small K V E) (pairs : List (K × Stored V)) → IsSeenAs eq s m → ListsPairs eq pairs s.world.table.stored →
    ListsStored eq pairs m.stored
lists_stored {K} {V} eq laws law s m pairs seen lists =
    let own : AllByRecursion (λ e. eq e.1.0 e.0 ≡ true) lists.entries =
    are_own eq laws lists.entries lists.lists.distinct
    (λ q p h. law s seen.reached q p (sym (lists.lists.same q) ∙ h)) in
    subst (λ (ps : List (K × Stored V)). ListsStored eq ps m.stored) (sym lists.are)
    (record {
      distinct = each_once eq laws lists.entries own lists.lists.distinct;
      same = λ q. same_at eq laws lists.entries own q ∙ ap (λ (o : Option (K × Stored V)). option_map small_record o) (lists.lists.same q)
          ∙ seen.views.stored q;
    })
