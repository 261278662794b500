-- A call that lists keys, at its beginning and once it has ended.
use Rattle.std.proofs.Common.{◌≡◌, ℕ, ◌<◌, ◌≤◌, Bool, true, false, zero, suc, List, [], ◌∷◌, ◌++◌, length, Option, Some, None, IsSome, is_some, Result, Ok, Err, IfOk, inl, inr, refl, sym, ap, subst, ◌∙◌, arith}
use Rattle.std.proofs.lemmas.Bool.{cases_lt, false≢true}
use Rattle.std.proofs.lemmas.Option.{slice_get_past}
use Rattle.std.specs.List.{slice_get}
use Rattle.std.specs.Option.{option_map, option_map_or, option_to_list}
use Rattle.std.specs.declared.alloc.AllocError.{AllocError}
use Rattle.moka_words.specs.Effect.{Memory}
use Rattle.moka_growth.specs.declared.kinds.CallKind.TheVariants as kind
use Rattle.moka_growth.specs.Calls.{Step, Going, Decided, call_from}
use Rattle.moka_growth.specs.Left.{IsShort}
use Rattle.moka_growth.proofs.Bounding.{left_is_bounded}
use Rattle.moka_table.specs.Map.{most_steps}
use Rattle.moka_buckets.specs.Tables.{left_in}
use Rattle.moka_growth.specs.Listing.{Differ, HasListed}
use Rattle.moka_buckets.specs.declared.node.Node.{Node}
use Rattle.moka_buckets.specs.declared.part.Part.{Part}
use Rattle.moka_buckets.specs.declared.keys_call.KeysCall.{KeysCall}
use Rattle.moka_pairs.specs.Keys.{is_one_key, hash_by, same_by, own_by}
use Rattle.moka_buckets.specs.Nodes.{key_in}
use Rattle.moka_buckets.specs.Parts.{memory_at, peak_at, AreParts}
use Rattle.moka_buckets.specs.Walks.{is_ended, owns_none, listed_by, AreNodes, Covers, WalksOn}
use Rattle.moka_buckets.specs.Keys.{FitsKeys, FitsThere, FitsNowhere, ListsIt, CoversIt, IsListing, keys_in, left_keys, nodes_of}
use Rattle.moka_buckets.proofs.Beginning.{some_at}
use Rattle.moka_buckets.proofs.Elsewhere.{never_there}
use Rattle.moka_pairs.proofs.Names.{agrees_now}

no_item : {A : Type 0} {x : A} → None ≡ Some x → ⊥
no_item d = cc

one_item : {A : Type 0} {x y : A} → Some x ≡ Some y → x ≡ y
one_item d = cc

module _ {K V : Type 0} (eq : K → K → Bool) (hash : K → ℕ) (parts : List (Part K V)) (c : KeysCall) where
  -- at its beginning
  module _ (begun : c.table ≡ Going (call_from kind.Keys 0)) where
    begun_there : c.segment < length parts → FitsThere eq hash parts c
    begun_there within = let at = some_at parts c.segment within in record {
      part = at.0;
      there = at.1;
      walks = subst (λ s. WalksOn eq hash (memory_at at.0) at.0.nodes.items s) (sym begun) (record {
        kind = refl;
        seeks = tt;
        fits = λ keys agrees. tt;
        lists = λ keys agrees. tt;
        named = λ x n e. absurd (no_item e);
        few = tt;
      });
    }

    pub begun_keys : FitsKeys eq hash parts c
    begun_keys = elim (cases_lt c.segment (length parts)) [
      | inl within ↦ inl (begun_there within)
      | inr absent ↦ inr (record { absent = absent; empty = inl begun })
    ]

    pub begun_none : (key : K) → ListsIt parts c key → ⊥
    begun_none key (p, at, x, n, e, is) = no_item (subst (λ s. slice_get (listed_by s) x ≡ Some n) begun e)

    pub begun_covers : c.segment < length parts → (key : K) → CoversIt eq parts c key
    begun_covers within key = let at = some_at parts c.segment within in
        (at.0, at.1, subst (λ s. Covers eq (memory_at at.0) at.0.nodes.items key s) (sym begun) (λ keys agrees. tt))

module _ {K V : Type 0} (nodes : List (Node K V)) where
  -- the keys of nodes, place by place
  keys_at : (ns : List ℕ) → AreNodes nodes ns → (x : ℕ) (k : K) → slice_get (keys_in nodes ns) x ≡ Some k →
      (n : ℕ) × (slice_get ns x ≡ Some n) × (key_in nodes n ≡ Some k)
  keys_at [] named x k e = absurd (no_item e)
  keys_at (n ∷ ns) named x k e = by (key_in nodes n) refl (named 0 n refl) e (λ y. keys_at ns (λ z m g. named (suc z) m g) y k)
    where
      by : (o : Option K) → key_in nodes n ≡ o → IsSome o → slice_get (option_to_list o ++ keys_in nodes ns) x ≡ Some k →
          ((y : ℕ) → slice_get (keys_in nodes ns) y ≡ Some k → (m : ℕ) × (slice_get ns y ≡ Some m) × (key_in nodes m ≡ Some k)) →
          (m : ℕ) × (slice_get (n ∷ ns) x ≡ Some m) × (key_in nodes m ≡ Some k)
      by None is has d rest = absurd (false≢true has)
      by (Some l) is has d rest = at x d
        where
          at : (y : ℕ) → slice_get (l ∷ keys_in nodes ns) y ≡ Some k → (m : ℕ) × (slice_get (n ∷ ns) y ≡ Some m) × (key_in nodes m ≡ Some k)
          at zero f = (n, refl, is ∙ f)
          at (suc y) f = rest y f

  key_from : (ns : List ℕ) → AreNodes nodes ns → (x n : ℕ) (k : K) → slice_get ns x ≡ Some n → key_in nodes n ≡ Some k →
      slice_get (keys_in nodes ns) x ≡ Some k
  key_from [] named x n k e is = absurd (no_item e)
  key_from (m ∷ ns) named x n k e is = by (key_in nodes m) refl (named 0 m refl) (λ y f. key_from ns (λ z j g. named (suc z) j g) y n k f is)
    where
      by : (o : Option K) → key_in nodes m ≡ o → IsSome o → ((y : ℕ) → slice_get ns y ≡ Some n → slice_get (keys_in nodes ns) y ≡ Some k) →
          slice_get (option_to_list o ++ keys_in nodes ns) x ≡ Some k
      by None at has rest = absurd (false≢true has)
      by (Some l) at has rest = place x e
        where
          place : (y : ℕ) → slice_get (m ∷ ns) y ≡ Some n → slice_get (l ∷ keys_in nodes ns) y ≡ Some k
          place zero f = sym at ∙ (ap (key_in nodes) (one_item f) ∙ is)
          place (suc y) f = rest y f

module _ {K V : Type 0} (eq : K → K → Bool) (hash : K → ℕ) where
  ended_lists : (m : Memory) (nodes : List (Node K V)) (s : Step) → is_ended s ≡ true → WalksOn eq hash m nodes s →
      Differ (same_by eq (key_in nodes)) (listed_by s) × AreNodes nodes (listed_by s)
  ended_lists m nodes (Going c) ended walks = absurd (false≢true ended)
  ended_lists m nodes (Decided e) ended walks = (walks.differ, walks.named)

  ended_covers : (m : Memory) (nodes : List (Node K V)) (s : Step) (key : K) → is_ended s ≡ true → Covers eq m nodes key s →
      HasListed (own_by eq (key_in nodes) key) (listed_by s)
  ended_covers m nodes (Going c) key ended covers = absurd (false≢true ended)
  ended_covers m nodes (Decided e) key ended covers = covers

  -- the keys that it has listed
  listing_is : (parts : List (Part K V)) (c : KeysCall) (fits : FitsThere eq hash parts c) → is_ended c.table ≡ true → (keys : List K) →
      keys ≡ keys_in fits.part.nodes.items (listed_by c.table) → IsListing eq parts c keys
  listing_is parts c fits ended keys is = subst (λ ks. IsListing eq parts c ks) (sym is) (record {
    differ = λ x y k l e f same.
        let (n, at_n, is_n) = keys_at nodes ns both.1 x k e in
        let (m, at_m, is_m) = keys_at nodes ns both.1 y l f in
        both.0 x y n m at_n at_m (ap (λ o. is_one_key eq o (key_in nodes m)) is_n ∙ (ap (λ o. is_one_key eq (Some k) o) is_m ∙ same));
    listed = λ x k e. let (n, at, is_n) = keys_at nodes ns both.1 x k e in (fits.part, fits.there, x, n, at, is_n);
    covers = λ key (p, here, covers). let (x, n, at, own) = ended_covers (memory_at fits.part) nodes c.table key ended
        (subst (λ q. Covers eq (memory_at q) q.nodes.items key c.table) (one_item (sym here ∙ fits.there)) covers) in
        by key x n at (key_in nodes n) refl own;
  })
    where
      nodes : List (Node K V)
      nodes = fits.part.nodes.items

      ns : List ℕ
      ns = listed_by c.table

      both : Differ (same_by eq (key_in nodes)) ns × AreNodes nodes ns
      both = ended_lists (memory_at fits.part) nodes c.table ended fits.walks

      by : (key : K) (x n : ℕ) → slice_get ns x ≡ Some n → (o : Option K) → key_in nodes n ≡ o → option_map_or (eq key) o false ≡ true →
          (y : ℕ) × (k : K) × (slice_get (keys_in nodes ns) y ≡ Some k) × (eq key k ≡ true)
      by key x n at None here own = absurd (false≢true own)
      by key x n at (Some k) here own = (x, k, key_from nodes ns both.1 x n k at here, own)

  -- in a segment that isn't there it has listed none
  listing_nowhere : (parts : List (Part K V)) (c : KeysCall) → FitsNowhere parts c → is_ended c.table ≡ true → (keys : List K) →
      keys ≡ keys_in (nodes_of parts c.segment) (listed_by c.table) → IsListing eq parts c keys
  listing_nowhere parts c fits ended keys is = subst (λ ks. IsListing eq parts c ks) (sym (is ∙ ap (keys_in (nodes_of parts c.segment)) none)) (record {
    differ = λ x y k l e. absurd (no_item e);
    listed = λ x k e. absurd (no_item e);
    covers = λ key (p, at, covers). absurd (never_there parts c.segment fits.absent p at);
  })
    where
      none : listed_by c.table ≡ []
      none = elim fits.empty [ inl going ↦ ap listed_by going | inr done ↦ ap listed_by done ]

  pub listing_by : (parts : List (Part K V)) (c : KeysCall) → FitsKeys eq hash parts c → is_ended c.table ≡ true → (keys : List K) →
      keys ≡ keys_in (nodes_of parts c.segment) (listed_by c.table) → IsListing eq parts c keys
  listing_by parts c (inl fits) ended keys is = listing_is parts c fits ended keys
      (is ∙ ap (λ o. keys_in (option_map_or (λ p. p.nodes.items) o []) (listed_by c.table)) fits.there)
  listing_by parts c (inr fits) ended keys is = listing_nowhere parts c fits ended keys is

  -- what is told of an ended call are its keys
  pub listing_of : (parts : List (Part K V)) (c : KeysCall) → FitsKeys eq hash parts c → (X : Type 0) (items : X → List K) (r : Result (Option X) AllocError) →
      IfOk r (λ keys. is_some keys ≡ is_ended c.table) →
      IfOk r (λ keys. (list : List K) → option_map items keys ≡ Some list → list ≡ keys_in (nodes_of parts c.segment) (listed_by c.table)) →
      IfOk r (λ keys. (list : List K) → option_map items keys ≡ Some list → IsListing eq parts c list)
  listing_of parts c fits X items (Err e) ended listed = tt
  listing_of parts c fits X items (Ok None) ended listed = λ list e. absurd (no_item e)
  listing_of parts c fits X items (Ok (Some v)) ended listed = λ list e. listing_by parts c fits (sym ended) list (listed list e)

  few_left : (m : Memory) (nodes : List (Node K V)) (first peak : ℕ) (s : Step) → IsShort first peak m → WalksOn eq hash m nodes s →
      left_in first peak m s ≤ most_steps first peak
  few_left m nodes first peak (Decided e) short walks = omega arith
  few_left m nodes first peak (Going c) short walks =
      left_is_bounded (hash_by hash (key_in nodes)) owns_none c m first peak (walks.fits (key_in nodes) (agrees_now (key_in nodes))) short

  -- a call that fits has few steps left
  pub keys_bounded : (first : ℕ) (parts : List (Part K V)) (most len : ℕ) → AreParts eq hash parts first most len → (c : KeysCall) → FitsKeys eq hash parts c →
      left_keys first parts c ≤ most_steps first most
  keys_bounded first parts most len well c (inr f) =
      let none : left_keys first parts c ≡ 0 =
      ap (λ o. option_map_or (λ p. left_in first (peak_at p) (memory_at p) c.table) o 0) (slice_get_past parts c.segment f.absent) in
      omega (arith, none)
  keys_bounded first parts most len well c (inl f) =
      let is = well.each c.segment f.part f.there in
      let same : left_keys first parts c ≡ left_in first (peak_at f.part) (memory_at f.part) c.table =
      ap (λ o. option_map_or (λ p. left_in first (peak_at p) (memory_at p) c.table) o 0) f.there in
      let few = is.few in
      let some = few_left (memory_at f.part) f.part.nodes.items first (peak_at f.part) c.table is.well.short f.walks in
      omega (arith, same, few, some)
