-- A segment that is laid out anew has the same keys and the same map.
use Rattle.std.proofs.Common.{◌≡◌, ◌≢◌, ◌⊎◌, ℕ, ◌+◌, ◌*◌, ◌<◌, ◌≤◌, max, Bool, true, false, List, [], ◌∷◌, ◌++◌, map, length, replicate, Option, Some, None, is_some, zero, suc, inl, inr, refl, sym, ap, subst, ◌∙◌, arith, set}
use Rattle.std.proofs.lemmas.Bool.{cases_lt, false≢true}
use Rattle.std.proofs.lemmas.List.{length-replicate, get_or_past}
use Rattle.std.proofs.lemmas.List.FromFn.{length-range_with_len, get_or-range_with_len}
use Rattle.std.proofs.lemmas.List.Sorted.{IsPermutation-sym, Contains-permutation, length_permutation}
use Rattle.std.specs.Cmp.{IsEquivalence}
use Rattle.std.specs.Int.{IsPowerOfTwo}
use Rattle.std.specs.List.{find, slice_get, range_with_len, Contains, IsDistinct, AllByRecursion}
use Rattle.std.specs.List.Sorted.{IsPermutation}
use Rattle.std.specs.Map.{lookup, keys_of}
use Rattle.std.specs.Option.{option_map, option_map_or, option_to_list}
use Rattle.moka_hist.specs.declared.records.Stored.{Stored}
use Rattle.moka_words.specs.declared.words.Word.{Word}
use Rattle.moka_words.specs.declared.words.Word.TheVariants.{Unset, Empty, Live}
use Rattle.moka_words.specs.Words.{node_of, stored_in, word_at}
use Rattle.moka_words.specs.Arrays.{first_free}
use Rattle.moka_words.specs.Layout.{IsEmptyOrLive, placed, all_placed, stored_nodes}
use Rattle.moka_words.specs.Effect.{alone, root, words_of}
use Rattle.moka_words.proofs.Placing.{all_filled, all_more, all_length, empty_filled, empty_stores}
use Rattle.moka_words.proofs.Laying.{stored_contains}
use Rattle.moka_growth.specs.Growing.{pairs_placed, laid_out}
use Rattle.moka_growth.specs.Sound.{IsRoot, IsSound}
use Rattle.moka_growth.specs.Maps.{present_nodes}
use Rattle.moka_growth.proofs.Making.{none_is_sound, one_is_sound, empty_is_root}
use Rattle.moka_buckets.specs.declared.array.Arrays.{Arrays}
use Rattle.moka_buckets.specs.declared.part.Part.{Part}
use Rattle.moka_buckets.specs.Arrays.{ArePlaced, memory_of, words_in}
use Rattle.moka_buckets.specs.Tables.{map_of, IsWell}
use Rattle.moka_buckets.specs.Building.{HasNone, HasRoot}
use Rattle.moka_buckets.specs.Parts.{memory_at, keys_at, peak_at, map_at, segment_of, IsPart}
use Rattle.moka_buckets.specs.declared.node.Node.{Node}
use Rattle.moka_pairs.specs.Keys.{is_one_key, hash_by, same_by, own_by, mine_by}
use Rattle.moka_buckets.specs.Nodes.{key_in, pair_at, pair_in, Agrees, AreHashed}
use Rattle.moka_buckets.specs.Listed.{listed_in}
use Rattle.moka_buckets.specs.Compacting.{IsCompact, node_in, nodes_stored, numbered, live_nodes, AreLaid, Compacts}
use Rattle.moka_pairs.proofs.Names.{agrees_now, names_keys}
use Rattle.moka_pairs.proofs.Mapped.{map_kept, present_known}
use Rattle.moka_buckets.proofs.Ranged.{range_array}
use Rattle.moka_buckets.proofs.Listings.{entries, lookup_listed, listed_distinct}
use Rattle.moka_buckets.proofs.Known.{key_there}
use Rattle.moka_buckets.proofs.Beginning.{some_at}
use Rattle.moka_buckets.proofs.Fresh.{first_at, none_placed, root_placed, none_present, root_present}

module _ {K V : Type 0} where
  -- the pairs of nodes
  abbrev pub pairs_of : List (Node K V) → List (K × Stored V)
  pairs_of nodes = map (λ x. (x.key, x.stored)) nodes

  -- those of the nodes that words store are listed
  pub pairs_stored : (nodes : List (Node K V)) (words : List Word) → pairs_of (nodes_stored nodes words) ≡ listed_in nodes words
  pairs_stored nodes [] = refl
  pairs_stored nodes (w ∷ ws) = by (stored_in w) (pairs_stored nodes ws)
    where
      node_by : (o : Option (Node K V)) → pairs_of (nodes_stored nodes ws) ≡ listed_in nodes ws →
          pairs_of (option_to_list o ++ nodes_stored nodes ws) ≡ option_to_list (option_map {U = K × Stored V} (λ node. (node.key, node.stored)) o) ++ listed_in nodes ws
      node_by None rest = rest
      node_by (Some x) rest = ap (λ ps. (x.key, x.stored) ∷ ps) rest

      by : (o : Option ℕ) → pairs_of (nodes_stored nodes ws) ≡ listed_in nodes ws →
          pairs_of (option_to_list (node_in nodes o) ++ nodes_stored nodes ws) ≡ option_to_list (pair_at nodes o) ++ listed_in nodes ws
      by None rest = rest
      by (Some n) rest = node_by (slice_get nodes n) rest

  -- as many as are stored, if each number names a node
  pub count_stored : (nodes : List (Node K V)) (words : List Word) →
      ((j n : ℕ) → stored_in (word_at words j) ≡ Some n → is_some (slice_get nodes n) ≡ true) → length (nodes_stored nodes words) ≡ length (stored_nodes words)
  count_stored nodes [] named = refl
  count_stored nodes (w ∷ ws) named = by (stored_in w) refl (count_stored nodes ws (λ j. named (suc j)))
    where
      node_by : (n : ℕ) (o : Option (Node K V)) → is_some o ≡ true → length (nodes_stored nodes ws) ≡ length (stored_nodes ws) →
          length (option_to_list o ++ nodes_stored nodes ws) ≡ length (n ∷ stored_nodes ws)
      node_by n None e rest = absurd (false≢true e)
      node_by n (Some x) e rest = ap suc rest

      by : (o : Option ℕ) → stored_in w ≡ o → length (nodes_stored nodes ws) ≡ length (stored_nodes ws) →
          length (option_to_list (node_in nodes o) ++ nodes_stored nodes ws) ≡ length (option_to_list o ++ stored_nodes ws)
      by None e rest = rest
      by (Some n) e rest = node_by n (slice_get nodes n) (named 0 n e) rest

  -- what holds of each node holds of those that are stored
  pub each_stored : (P : Node K V → Type 0) (nodes : List (Node K V)) → ((n : ℕ) (x : Node K V) → slice_get nodes n ≡ Some x → P x) →
      (words : List Word) (i : ℕ) (x : Node K V) → slice_get (nodes_stored nodes words) i ≡ Some x → P x
  each_stored P nodes all [] i x e = absurd (cc e)
  each_stored P nodes all (w ∷ ws) i x e = by (stored_in w) (each_stored P nodes all ws) i e
    where
      one_item : {y : Node K V} → Some y ≡ Some x → y ≡ x
      one_item d = cc

      node_by : (n : ℕ) (o : Option (Node K V)) → slice_get nodes n ≡ o → ((i : ℕ) (x : Node K V) → slice_get (nodes_stored nodes ws) i ≡ Some x → P x) →
          (i : ℕ) → slice_get (option_to_list o ++ nodes_stored nodes ws) i ≡ Some x → P x
      node_by n None d rest i e = rest i x e
      node_by n (Some y) d rest zero e = subst P (one_item e) (all n y d)
      node_by n (Some y) d rest (suc i) e = rest i x e

      by : (o : Option ℕ) → ((i : ℕ) (x : Node K V) → slice_get (nodes_stored nodes ws) i ≡ Some x → P x) →
          (i : ℕ) → slice_get (option_to_list (node_in nodes o) ++ nodes_stored nodes ws) i ≡ Some x → P x
      by None rest i e = rest i x e
      by (Some n) rest i e = node_by n (slice_get nodes n) refl rest i e

-- live words of these numbers, and no others
abbrev pub live_words : List ℕ → List Word
live_words ns = map (λ n. Live n) ns

stored_live : (ns : List ℕ) → stored_nodes (live_words ns) ≡ ns
stored_live [] = refl
stored_live (n ∷ ns) = ap (λ xs. n ∷ xs) (stored_live ns)

module _ {K V : Type 0} (xs : List (Node K V)) where
  -- nodes listed by their places are their pairs
  pub listed_range : (n : ℕ) (ys : List (Node K V)) → ((i : ℕ) (x : Node K V) → slice_get ys i ≡ Some x → slice_get xs (n + i) ≡ Some x) →
      listed_in xs (live_words (range_with_len n (length ys))) ≡ pairs_of ys
  listed_range n [] h = refl
  listed_range n (y ∷ ys) h =
      let there : slice_get xs n ≡ Some y = subst (λ m. slice_get xs m ≡ Some y) (omega arith) (h 0 y refl) in
      ap (λ o. option_to_list (option_map {U = K × Stored V} (λ node. (node.key, node.stored)) o) ++ listed_in xs (live_words (range_with_len (n + 1) (length ys)))) there
      ∙ ap (λ ps. (y.key, y.stored) ∷ ps) (listed_range (n + 1) ys (λ i x e. subst (λ m. slice_get xs m ≡ Some x) (omega arith) (h (suc i) x e)))

module _ {K V : Type 0} (eq : K → K → Bool) (laws : IsEquivalence eq) (hash : K → ℕ) (respects : (x y : K) → eq x y ≡ true → hash x ≡ hash y)
    (xs : List (Node K V)) (hashed : AreHashed hash xs) (distinct : IsDistinct eq (keys_of (entries (pairs_of xs)))) (size : ℕ) (room : length xs ≤ size)
    (keys : ℕ → Option K) (agrees : Agrees keys xs) where
  abbrev H : ℕ → ℕ
  H = hash_by hash keys

  abbrev S : ℕ → ℕ → Bool
  S = same_by eq keys

  abbrev Numbers : List ℕ
  Numbers = range_with_len 0 (length xs)

  abbrev Laid : List Word
  Laid = all_placed (hash_by hash keys) (replicate size Empty) (range_with_len 0 (length xs))

  placed_from : (n : ℕ) (ys : List (Node K V)) → ((i : ℕ) (x : Node K V) → slice_get ys i ≡ Some x → H (n + i) ≡ x.hash) → (ws : List Word) →
      pairs_placed ws (numbered n ys) ≡ all_placed H ws (range_with_len n (length ys))
  placed_from n [] h ws = refl
  placed_from n (y ∷ ys) h ws =
      let is : H n ≡ y.hash = subst (λ m. H m ≡ y.hash) (omega arith) (h 0 y refl) in
      placed_from (n + 1) ys (λ i x e. subst (λ m. H m ≡ x.hash) (omega arith) (h (suc i) x e)) (placed (λ m. y.hash) ws n)
      ∙ ap (λ k. all_placed H (option_map_or (λ i. set ws i (Live n)) (first_free ws k) ws) (range_with_len (n + 1) (length ys))) (sym is)

  pub laid_is : laid_out (numbered 0 xs) size ≡ Laid
  laid_is = placed_from 0 xs (λ i x e. ap (λ o. option_map_or hash o 0) (subst (λ m. keys m ≡ Some x.key) (omega arith) (agrees i x.key (key_there xs i x e))) ∙ sym (hashed i x e)) (replicate size Empty)

  all_at : (P : K → Type 0) (ys : List (Node K V)) (i : ℕ) (y : Node K V) → slice_get ys i ≡ Some y → AllByRecursion P (keys_of (entries (pairs_of ys))) → P y.key
  all_at P [] i y e a = absurd (cc e)
  all_at P (z ∷ ys) zero y e a = let is : z ≡ y = cc e in subst (λ x. P x.key) is a.0
  all_at P (z ∷ ys) (suc i) y e a = all_at P ys i y e a.1

  differ_at : (ys : List (Node K V)) (i j : ℕ) (x y : Node K V) → i < j → slice_get ys i ≡ Some x → slice_get ys j ≡ Some y →
      IsDistinct eq (keys_of (entries (pairs_of ys))) → eq x.key y.key ≡ false
  unfolding IsDistinct
  differ_at [] i j x y h d e distinct = absurd (cc d)
  differ_at (z ∷ ys) i zero x y h d e distinct = absurd (omega (arith, h))
  differ_at (z ∷ ys) zero (suc j) x y h d e distinct = let is : z ≡ x = cc d in
      subst (λ w. eq w.key y.key ≡ false) is (all_at (λ l. eq z.key l ≡ false) ys j y e distinct.0)
  differ_at (z ∷ ys) (suc i) (suc j) x y h d e distinct = differ_at ys i j x y (omega (arith, h)) d e distinct.1

  -- none has the key of one before it
  differ : (i j : ℕ) → i < j → j < length xs → S j i ≡ false
  differ i j h within =
      let x = some_at xs i (omega (arith, h, within)) in
      let y = some_at xs j within in
      let d : S j i ≡ eq (y.0).key (x.0).key = ap (λ o. is_one_key eq o (keys i)) (agrees j (y.0).key (key_there xs j y.0 y.1))
      ∙ ap (is_one_key eq (Some (y.0).key)) (agrees i (x.0).key (key_there xs i x.0 x.1)) in
      d ∙ (laws.symm (y.0).key (x.0).key ∙ differ_at xs i j x.0 y.0 h x.1 y.1 distinct)

  -- each node gets a place
  pub all_laid : IsPermutation Numbers (stored_nodes Laid)
  all_laid =
      let none = ap (λ ns. length ns) (empty_stores size) in
      let long = length-replicate size Empty in
      let many = length-range_with_len 0 (length xs) in
      subst (λ ns. IsPermutation (ns ++ Numbers) (stored_nodes Laid)) (empty_stores size)
      (all_more H (replicate size Empty) Numbers (empty_filled size) (omega (arith, none, long, many, room)))

  pub laid_length : length Laid ≡ size
  laid_length = all_length H (replicate size Empty) Numbers ∙ length-replicate size Empty

  -- a number is the place of a node
  number_within : (n : ℕ) → Contains Numbers n → n < length xs
  number_within n (k, within, is) =
      let many = length-range_with_len 0 (length xs) in
      let low : k < length xs = omega (arith, within, many) in
      let same = get_or-range_with_len 0 (length xs) k n low in
      omega (arith, low, same, is)

  has_key : (n : ℕ) → n < length xs → is_some (keys n) ≡ true
  has_key n within = let x = some_at xs n within in ap is_some (agrees n (x.0).key (key_there xs n x.0 x.1))

  filled : (i : ℕ) → i < length Laid → IsEmptyOrLive (word_at Laid i)
  filled i h = (all_filled H (replicate size Empty) Numbers (empty_filled size)).each i h

  unset : (i : ℕ) → IsEmptyOrLive (word_at Laid i) → word_at Laid i ≢ Unset
  unset i (inl e) = λ d. cc (sym e ∙ d)
  unset i (inr e) = λ d. cc (sym e.1 ∙ d)

  stored : (i n : ℕ) → IsEmptyOrLive (word_at Laid i) → node_of (word_at Laid i) ≡ Some n → stored_in (word_at Laid i) ≡ Some n
  stored i n (inl e) d = absurd (cc (sym (ap node_of e) ∙ d))
  stored i n (inr e) d = ap stored_in e.1 ∙ (sym (ap node_of e.1) ∙ d)

  keys_laid : (i n : ℕ) → node_of (word_at Laid i) ≡ Some n → is_some (keys n) ≡ true
  keys_laid i n e = elim (cases_lt i (length Laid)) [
    | inl h ↦ has_key n (number_within n (Contains-permutation (stored_nodes Laid) Numbers n (IsPermutation-sym Numbers (stored_nodes Laid) all_laid)
        (stored_contains Laid i n (stored i n (filled i h) e))))
    | inr h ↦ absurd (cc (sym (ap node_of (get_or_past Laid i Unset h)) ∙ e))
  ]

  pub laid_root : IsRoot H S (mine_by keys) Laid
  laid_root = record {
    array = range_array H S (names_keys eq laws hash respects keys) 0 (length xs) (replicate size Empty) (empty_filled size)
        (empty_is_root H S (mine_by keys) size).array
        (λ j m e. absurd (false≢true ((empty_is_root H S (λ n. false) size).keys j m e)))
        (λ i j h within. differ i j h (omega (arith, within)));
    set = λ i h. unset i (filled i h);
    keys = keys_laid;
  }

module _ {K V : Type 0} (eq : K → K → Bool) (laws : IsEquivalence eq) (hash : K → ℕ) (respects : (x y : K) → eq x y ≡ true → hash x ≡ hash y)
    (xs : List (Node K V)) (hashed : AreHashed hash xs) (distinct : IsDistinct eq (keys_of (entries (pairs_of xs)))) (s : Arrays) (laid : AreLaid xs s)
    (first peak : ℕ) (least : 128 ≤ first) (many : length xs ≤ peak) where
  module _ (none : xs ≡ []) (has : HasNone s) where
    none_well : IsWell eq hash (memory_of s) xs first peak
    none_well = record {
      sound = λ keys agrees. none_is_sound (hash_by hash keys) (same_by eq keys) (mine_by keys) (memory_of s) has.arrays has.rooted;
      hashed = hashed;
      counted = laid.len ∙ (ap (λ ys. length ys) none ∙ sym (ap (λ ns. length ns) (none_present s has)));
      short = record {
        least = least;
        lengths = λ place a e. absurd (no_array (ap (λ ns. slice_get ns place) (sym has.arrays) ∙ e));
        keys = let few = ap (λ ns. length ns) (none_present s has) in omega (arith, few);
      };
    }
      where
        no_array : {a : ℕ} → None ≡ Some a → ⊥
        no_array e = cc

    none_map : (q : K) → map_of eq (memory_of s) xs q ≡ lookup (eq q) (entries (pairs_of xs))
    none_map q = ap (λ ns. pair_at xs (find (own_by eq (key_in xs) q) ns)) (none_present s has) ∙ sym (ap (λ ys. lookup (eq q) (entries (pairs_of ys))) none)

  module _ (compact : IsCompact (length xs) laid.size) (has : HasRoot (laid_out (numbered 0 xs) laid.size) s) where
    room : length xs ≤ laid.size
    room = let r = compact.room in omega (arith, r)

    abbrev LaidBy : (keys : ℕ → Option K) → List Word
    LaidBy keys = all_placed (hash_by hash keys) (replicate laid.size Empty) (range_with_len 0 (length xs))

    words_are : (keys : ℕ → Option K) → Agrees keys xs → words_in s.all.items 0 ≡ LaidBy keys
    words_are keys agrees = has.words_are ∙ laid_is eq laws hash respects xs hashed distinct laid.size room keys agrees

    long : length (words_in s.all.items 0) ≡ laid.size
    long = ap (λ ws. length ws) (words_are (key_in xs) (agrees_now (key_in xs))) ∙ laid_length eq laws hash respects xs hashed distinct laid.size room (key_in xs) (agrees_now (key_in xs))

    one_sound : (keys : ℕ → Option K) → Agrees keys xs → IsSound (hash_by hash keys) (same_by eq keys) (mine_by keys) (memory_of s)
    one_sound keys agrees = one_is_sound (hash_by hash keys) (same_by eq keys) (mine_by keys) (memory_of s) 0 has.arrays has.rooted
        (let one = has.numbered in omega (arith, one))
        (subst (λ n. IsPowerOfTwo n) (sym long) compact.power)
        (subst (λ ws. IsRoot (hash_by hash keys) (same_by eq keys) (mine_by keys) ws) (sym (words_are keys agrees))
        (laid_root eq laws hash respects xs hashed distinct laid.size room keys agrees))

    present_are : present_nodes (memory_of s) ≡ stored_nodes (LaidBy (key_in xs))
    present_are = root_present (laid_out (numbered 0 xs) laid.size) s has
        ∙ ap stored_nodes (laid_is eq laws hash respects xs hashed distinct laid.size room (key_in xs) (agrees_now (key_in xs)))

    all_present : IsPermutation (range_with_len 0 (length xs)) (present_nodes (memory_of s))
    all_present = subst (λ ns. IsPermutation (range_with_len 0 (length xs)) ns) (sym present_are)
        (all_laid eq laws hash respects xs hashed distinct laid.size room (key_in xs) (agrees_now (key_in xs)))

    count_present : length (present_nodes (memory_of s)) ≡ length xs
    count_present = length_permutation (range_with_len 0 (length xs)) (present_nodes (memory_of s)) all_present ∙ length-range_with_len 0 (length xs)

    one_well : IsWell eq hash (memory_of s) xs first peak
    one_well = record {
      sound = one_sound;
      hashed = hashed;
      counted = laid.len ∙ sym count_present;
      short = record {
        least = least;
        lengths = λ place a e.
            let is = (first_at place a (ap (λ ns. slice_get ns place) (sym has.arrays) ∙ e)).1 in
            let size = ap (λ n. length (words_in s.all.items n)) is ∙ long in
            let fits = short in omega (arith, size, fits);
        keys = let few = count_present in omega (arith, few, many);
      };
    }
      where
        short : laid.size ≤ max first (3 * peak)
        short = elim (cases_lt 128 laid.size) [
          | inl more ↦ let half = compact.half more in omega (arith, half, many)
          | inr little ↦ omega (arith, little, least)
        ]

    one_map : (q : K) → map_of eq (memory_of s) xs q ≡ lookup (eq q) (entries (pairs_of xs))
    one_map q = let ws = live_words (range_with_len 0 (length xs)) in
        map_kept eq laws hash respects (key_in xs) (pair_in xs) (alone ws) (memory_of s) one_sound
        (subst (λ ns. IsPermutation ns (present_nodes (memory_of s))) (sym (stored_live (range_with_len 0 (length xs)))) all_present) q
        ∙ (sym (lookup_listed eq xs q ws) ∙ ap (λ ps. lookup (eq q) (entries ps)) (listed_range xs 0 xs (λ i x e. let same : i ≡ 0 + i = omega arith in subst (λ m. slice_get xs m ≡ Some x) same e)))

  pub laid_well : IsWell eq hash (memory_of s) xs first peak
  laid_well = by laid.begins
    where
      by : ((xs ≡ []) × HasNone s) ⊎ (IsCompact (length xs) laid.size × HasRoot (laid_out (numbered 0 xs) laid.size) s) → IsWell eq hash (memory_of s) xs first peak
      by (inl (none, has)) = none_well none has
      by (inr (compact, has)) = one_well compact has

  pub laid_map : (q : K) → map_of eq (memory_of s) xs q ≡ lookup (eq q) (entries (pairs_of xs))
  laid_map q = by laid.begins
    where
      by : ((xs ≡ []) × HasNone s) ⊎ (IsCompact (length xs) laid.size × HasRoot (laid_out (numbered 0 xs) laid.size) s) →
          map_of eq (memory_of s) xs q ≡ lookup (eq q) (entries (pairs_of xs))
      by (inl (none, has)) = none_map none has q
      by (inr (compact, has)) = one_map compact has q

module _ {K V : Type 0} (eq : K → K → Bool) (laws : IsEquivalence eq) (hash : K → ℕ) (respects : (x y : K) → eq x y ≡ true → hash x ≡ hash y)
    (count first most : ℕ) (least : 128 ≤ first) (i : ℕ) (old new : Part K V) (is : IsPart eq hash count first most i old) (compacts : Compacts old new) where
  abbrev Words : List Word
  Words = words_of (memory_at old) (root (memory_at old))

  live_hashed : AreHashed hash (live_nodes old)
  live_hashed n x e = each_stored (λ y. y.hash ≡ hash y.key) old.nodes.items is.well.hashed Words n x e

  live_own : (n : ℕ) (x : Node K V) → slice_get (live_nodes old) n ≡ Some x → segment_of count x.hash ≡ i
  live_own n x e = each_stored (λ y. segment_of count y.hash ≡ i) old.nodes.items is.own Words n x e

  live_distinct : IsDistinct eq (keys_of (entries (pairs_of (live_nodes old))))
  live_distinct = subst (λ ps. IsDistinct eq (keys_of (entries ps))) (sym (pairs_stored old.nodes.items Words))
      (listed_distinct eq hash (memory_at old) old.nodes.items first (peak_at old) is.well)

  named : (j n : ℕ) → stored_in (word_at Words j) ≡ Some n → is_some (slice_get old.nodes.items n) ≡ true
  named j n e = by (slice_get old.nodes.items n) (present_known eq laws hash respects (key_in old.nodes.items) (memory_at old) is.well.sound n (j, e))
    where
      by : (o : Option (Node K V)) → is_some (option_map (λ node. node.key) o) ≡ true → is_some o ≡ true
      by None d = d
      by (Some x) d = refl

  live_count : length (live_nodes old) ≡ keys_at old
  live_count = count_stored old.nodes.items Words named ∙ sym is.well.counted

  same_keys : keys_at new ≡ keys_at old
  same_keys = compacts.laid.len ∙ live_count

  same_peak : peak_at new ≡ peak_at old
  same_peak = let p = compacts.peak in let k = same_keys in omega (arith, p, k)

  few_live : length (live_nodes old) ≤ peak_at new
  few_live = let p = same_peak in let k = live_count in omega (arith, p, k)

  placed_new : ArePlaced new.arrays
  placed_new = elim compacts.laid.begins [ inl none ↦ none_placed new.arrays none.1 | inr has ↦ root_placed _ new.arrays has.1 ]

  pub part_compact : IsPart eq hash count first most i new
  part_compact = record {
    placed = placed_new;
    well = subst (λ ys. IsWell eq hash (memory_at new) ys first (peak_at new)) (sym compacts.nodes)
        (laid_well eq laws hash respects (live_nodes old) live_hashed live_distinct new.arrays compacts.laid first (peak_at new) least few_live);
    own = λ n x e. live_own n x (ap (λ ys. slice_get ys n) (sym compacts.nodes) ∙ e);
    few = let p = same_peak in let few = is.few in omega (arith, p, few);
  }

  pub map_compact : (q : K) → map_at eq new q ≡ map_at eq old q
  map_compact q = ap (λ ys. map_of eq (memory_at new) ys q) compacts.nodes
      ∙ (laid_map eq laws hash respects (live_nodes old) live_hashed live_distinct new.arrays compacts.laid first (peak_at new) least few_live q
      ∙ (ap (λ ps. lookup (eq q) (entries ps)) (pairs_stored old.nodes.items Words)
      ∙ lookup_listed eq old.nodes.items q Words))

  pub keys_compact : keys_at new ≡ keys_at old
  keys_compact = same_keys
