-- What becomes of the map of a segment.
use Rattle.std.proofs.Common.{◌≡◌, ℕ, ◌+◌, ◌-◌, Bool, true, false, cond, length, Option, Some, None, IsSome, is_some, refl, sym, ap, subst, ◌∙◌, arith}
use Rattle.std.proofs.lemmas.Bool.{false≢true}
use Rattle.std.specs.Cmp.{IsEquivalence}
use Rattle.std.specs.List.{find}
use Rattle.std.specs.Option.{option_map, option_map_or, option_to_list}
use Rattle.moka_hist.specs.Finite.{put_key}
use Rattle.moka_words.specs.Effect.{Memory}
use Rattle.moka_growth.specs.Maps.{present_nodes, IsPresent, KeepsMap, Finds, ChangesMap}
use Rattle.moka_growth.specs.Counts.{IsCounted}
use Rattle.moka_growth.specs.Listing.{HasKey}
use Rattle.moka_growth.proofs.Elsewhere.{present_is_one, present_is_mine}
use Rattle.moka_pairs.specs.Keys.{Agrees, Respects, hash_by, same_by, own_by, mine_by}
use Rattle.moka_pairs.specs.Pairs.{AreKeysOf, map_of, pair_at}
use Rattle.moka_pairs.specs.Segments.{SoundAll}
use Rattle.moka_pairs.proofs.Names.{agrees_now, is_own}
use Rattle.moka_pairs.proofs.Found.{found_finds, finds_one, finds_kept, finds_other}

not_some : {n : ℕ} → None ≡ Some n → ⊥
not_some e = cc

no_pair : {P : Type 0} {p : P} → None ≡ Some p → ⊥
no_pair e = cc

module _ {K : Type 0} (eq : K → K → Bool) (laws : IsEquivalence eq) (hash : K → ℕ) (respects : Respects eq hash) (known : ℕ → Option K) where
  -- the node found is one alone
  pub found_is : (m : Memory) → SoundAll eq hash known m → (key : K) (o : Option ℕ) → Finds (own_by eq known key) m o →
      find (own_by eq known key) (present_nodes m) ≡ o
  found_is m sound key o f = finds_one (same_by eq known) (own_by eq known key) m (is_own eq laws hash respects key known)
      (λ n k p q e. present_is_one (hash_by hash known) (same_by eq known) (mine_by known) m n k (sound known (agrees_now known)) p q e)
      (find (own_by eq known key) (present_nodes m)) o (found_finds (own_by eq known key) m) f

  -- the key of a node that is present is known
  pub present_known : (m : Memory) → SoundAll eq hash known m → (n : ℕ) → IsPresent m n → IsSome (known n)
  present_known m sound n p = present_is_mine (hash_by hash known) (same_by eq known) (mine_by known) m n (sound known (agrees_now known)) p

  -- of a key that is taken out, the count of keys says so
  pub count_out : (old new : Memory) → IsCounted old → IsCounted new → (key : K) (found : Option ℕ) → IsSome found →
      ChangesMap (own_by eq known key) found None old new → new.len ≡ old.len - 1
  count_out old new counted recounted key None has changes = absurd (false≢true has)
  count_out old new counted recounted key (Some m) has changes =
      let a = counted in let b = recounted in let c = changes.count in omega arith

  -- a node of one key is not of another
  apart : (key q : K) → eq key q ≡ false → (k : ℕ) → own_by eq known q k ≡ true → own_by eq known key k ≡ false
  apart key q e k own = at (known k) own
    where
      at : (o : Option K) → option_map_or (eq q) o false ≡ true → option_map_or (eq key) o false ≡ false
      at None f = refl
      at (Some x) f = laws.symm key x ∙ (sym (laws.congr q x key f) ∙ (laws.symm q key ∙ e))

  together : (key q : K) → eq key q ≡ true → (k : ℕ) → own_by eq known q k ≡ true → own_by eq known key k ≡ true
  together key q e k own = at (known k) own
    where
      at : (o : Option K) → option_map_or (eq q) o false ≡ true → option_map_or (eq key) o false ≡ true
      at None f = f
      at (Some x) f = laws.congr key q x e ∙ f

module _ {K V : Type 0} (eq : K → K → Bool) (laws : IsEquivalence eq) (hash : K → ℕ) (respects : Respects eq hash) (known : ℕ → Option K)
    (pairs : ℕ → Option (K × V)) where
  -- the map has under a key the pair of the node that is present there
  pub map_found : (m : Memory) → SoundAll eq hash known m → (key : K) (o : Option ℕ) → Finds (own_by eq known key) m o →
      map_of eq m known pairs key ≡ pair_at pairs o
  map_found m sound key o f = ap (pair_at pairs) (found_is eq laws hash respects known m sound key o f)

  -- where the same nodes are present it is the same
  pub map_kept : (old new : Memory) → SoundAll eq hash known new → KeepsMap old new → (q : K) →
      map_of eq new known pairs q ≡ map_of eq old known pairs q
  map_kept old new sound keeps q = map_found new sound q (find (own_by eq known q) (present_nodes old))
      (finds_kept (own_by eq known q) old new (find (own_by eq known q) (present_nodes old)) keeps (found_finds (own_by eq known q) old))

  -- other keys keep their pairs
  others_kept : (old new : Memory) → SoundAll eq hash known new → (key : K) (found put : Option ℕ) → ChangesMap (own_by eq known key) found put old new →
      (q : K) → eq key q ≡ false → map_of eq new known pairs q ≡ map_of eq old known pairs q
  others_kept old new sound key found put changes q e = map_found new sound q (find (own_by eq known q) (present_nodes old))
      (finds_other (own_by eq known key) (own_by eq known q) found put old new
      (find (own_by eq known q) (present_nodes old)) (apart eq laws hash respects known key q e) changes (found_finds (own_by eq known q) old))

  -- the key has no pair, and others have theirs
  pub map_out : (old new : Memory) → SoundAll eq hash known new → (key : K) (found : Option ℕ) →
      ChangesMap (own_by eq known key) found None old new → (q : K) →
      map_of eq new known pairs q ≡ put_key eq (map_of eq old known pairs) key None q
  map_out old new sound key found changes q = by (eq key q) refl
    where
      out : eq key q ≡ true → Finds (own_by eq known q) new None
      out e = λ n p. at n p (own_by eq known q n) refl
        where
          at : (n : ℕ) → IsPresent new n → (b : Bool) → own_by eq known q n ≡ b → own_by eq known q n ≡ false
          at n p false f = f
          at n p true f = absurd (not_some ((changes.key n (together eq laws hash respects known key q e n f)).0 p))

      by : (b : Bool) → eq key q ≡ b → map_of eq new known pairs q ≡ cond b None (map_of eq old known pairs q)
      by true e = map_found new sound q None (out e)
      by false e = others_kept old new sound key found None changes q e

  -- the key has the new pair, and others have theirs
  pub map_after : (old new : Memory) → SoundAll eq hash known new → (key : K) (value : V) (found : Option ℕ) (n : ℕ) →
      known n ≡ Some key → pairs n ≡ Some (key, value) → ChangesMap (own_by eq known key) found (Some n) old new → (q : K) →
      map_of eq new known pairs q ≡ put_key eq (map_of eq old known pairs) key (Some (key, value)) q
  map_after old new sound key value found n named filled changes q = by (eq key q) refl
    where
      own_is : (q : K) → own_by eq known q n ≡ eq q key
      own_is q = ap (λ o. option_map_or (eq q) o false) named

      here : eq key q ≡ true → Finds (own_by eq known q) new (Some n)
      here e = ((changes.key n (own_is key ∙ laws.refl key)).1 refl, own_is q ∙ (laws.symm q key ∙ e))

      by : (b : Bool) → eq key q ≡ b → map_of eq new known pairs q ≡ cond b (Some (key, value)) (map_of eq old known pairs q)
      by true e = map_found new sound q (Some n) (here e) ∙ filled
      by false e = others_kept old new sound key found (Some n) changes q e

  -- a key that the map has is that of a node that is present
  pub has_key : (m : Memory) (key : K) → IsSome (map_of eq m known pairs key) → (keys : ℕ → Option K) → Agrees keys known →
      HasKey (own_by eq keys key) m
  has_key m key has keys agrees = by (find (own_by eq known key) (present_nodes m)) has (found_finds (own_by eq known key) m)
    where
      same : (n : ℕ) (o : Option K) → known n ≡ o → option_map_or (eq key) o false ≡ true → own_by eq keys key n ≡ true
      same n None there e = absurd (false≢true e)
      same n (Some k) there e = ap (λ o. option_map_or (eq key) o false) (agrees n k there) ∙ e

      by : (o : Option ℕ) → IsSome (pair_at pairs o) → Finds (own_by eq known key) m o → HasKey (own_by eq keys key) m
      by None e finds = absurd (false≢true e)
      by (Some n) e finds = (n, finds.0, same n (known n) refl finds.1)

  module _ (are : AreKeysOf known pairs) where
    -- a number whose key is known has a pair
    pub known_pair : (n : ℕ) → IsSome (known n) → IsSome (pairs n)
    known_pair n has = by (known n) refl has
      where
        some : (k : K) (p : Option (K × V)) → option_map (λ p. p.0) p ≡ Some k → IsSome p
        some k None e = absurd (no_pair e)
        some k (Some p) e = refl

        by : (o : Option K) → known n ≡ o → IsSome o → IsSome (pairs n)
        by None e f = absurd (false≢true f)
        by (Some k) e f = some k (pairs n) (are n k e)

    -- the pair of a node that is present
    pub present_pair : (m : Memory) → SoundAll eq hash known m → (n : ℕ) → IsPresent m n → IsSome (pairs n)
    present_pair m sound n p = known_pair n (present_known eq laws hash respects known m sound n p)

    -- of a key that is put, the count of keys says so
    pub count_after : (old new : Memory) → SoundAll eq hash known old → IsCounted old → IsCounted new → (key : K) (found : Option ℕ) (n : ℕ) →
        Finds (own_by eq known key) old found → ChangesMap (own_by eq known key) found (Some n) old new →
        new.len ≡ cond (is_some (map_of eq old known pairs key)) old.len (old.len + 1)
    count_after old new sound counted recounted key found n finds changes =
        subst (λ o. new.len ≡ cond (is_some (pair_at pairs o)) old.len (old.len + 1)) (sym (found_is eq laws hash respects known old sound key found finds)) (by found finds changes.count)
      where
        by : (o : Option ℕ) → Finds (own_by eq known key) old o →
            length (present_nodes new) + length (option_to_list o) ≡ length (present_nodes old) + 1 → new.len ≡ cond (is_some (pair_at pairs o)) old.len (old.len + 1)
        by None f e = let a = counted in let b = recounted in omega arith
        by (Some k) f e = let a = counted in let b = recounted in
            subst (λ b. new.len ≡ cond b old.len (old.len + 1)) (sym (present_pair old sound k f.0)) (omega (arith, a, b, e))
