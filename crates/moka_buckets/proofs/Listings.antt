-- The pairs that are listed are those of the map.
use Rattle.std.proofs.Common.{◌≡◌, ℕ, Bool, true, false, cond, List, [], ◌∷◌, ◌++◌, map, Option, Some, None, suc, refl, sym, ap, ◌∙◌, arith}
use Rattle.std.specs.Option.{option_map, option_map_or, option_to_list}
use Rattle.std.specs.List.{find, slice_get, IsDistinct, AllByRecursion}
use Rattle.std.specs.Map.{lookup, keys_of, values_of}
use Rattle.moka_hist.specs.declared.records.Stored.{Stored}
use Rattle.moka_words.specs.declared.words.Word.{Word}
use Rattle.moka_words.specs.Words.{stored_in, word_at}
use Rattle.moka_words.specs.Layout.{stored_nodes}
use Rattle.moka_words.specs.Effect.{Memory, root, words_of}
use Rattle.moka_words.proofs.Laying.{stored_is_key}
use Rattle.moka_growth.proofs.Copying.{root_is_array}
use Rattle.moka_buckets.specs.declared.node.Node.{Node}
use Rattle.moka_pairs.specs.Keys.{is_one_key, own_by, same_by}
use Rattle.moka_buckets.specs.Nodes.{key_in, pair_at}
use Rattle.moka_buckets.specs.Tables.{IsWell}
use Rattle.moka_buckets.specs.Listed.{listed_in}
use Rattle.moka_pairs.proofs.Names.{agrees_now}

module _ {K V : Type 0} where
  abbrev pub entries : List (K × Stored V) → List (K × (K × Stored V))
  entries ps = map (λ p. (p.0, p)) ps

  pub values_entries : (ps : List (K × Stored V)) → ps ≡ values_of (entries ps)
  values_entries [] = refl
  values_entries (p ∷ ps) = ap (λ xs. p ∷ xs) (values_entries ps)

module _ {K V : Type 0} (eq : K → K → Bool) (nodes : List (Node K V)) where
  -- the first node of a key is the one that is looked up
  pub lookup_listed : (q : K) (words : List Word) →
      lookup (eq q) (entries (listed_in nodes words)) ≡ pair_at nodes (find (own_by eq (key_in nodes) q) (stored_nodes words))
  lookup_listed q [] = refl
  lookup_listed q (w ∷ ws) = by (stored_in w) (lookup_listed q ws)
    where
      Rest : Type 0
      Rest = lookup (eq q) (entries (listed_in nodes ws)) ≡ pair_at nodes (find (own_by eq (key_in nodes) q) (stored_nodes ws))

      one : (n : ℕ) (node : Node K V) → slice_get nodes n ≡ Some node → (b : Bool) → eq q node.key ≡ b → Rest →
          cond b (Some (node.key, node.stored)) (lookup (eq q) (entries (listed_in nodes ws)))
          ≡ pair_at nodes (cond b (Some n) (find (own_by eq (key_in nodes) q) (stored_nodes ws)))
      one n node there true e rest = sym (ap (option_map {U = K × Stored V} (λ node. (node.key, node.stored))) there)
      one n node there false e rest = rest

      node_by : (n : ℕ) (o : Option (Node K V)) → slice_get nodes n ≡ o → Rest →
          lookup (eq q) (entries (option_to_list (option_map {U = K × Stored V} (λ node. (node.key, node.stored)) o) ++ listed_in nodes ws))
          ≡ pair_at nodes (cond (option_map_or (eq q) (option_map (λ node. node.key) o) false) (Some n) (find (own_by eq (key_in nodes) q) (stored_nodes ws)))
      node_by n None e rest = rest
      node_by n (Some node) e rest = one n node e (eq q node.key) refl rest

      by : (o : Option ℕ) → Rest →
          lookup (eq q) (entries (option_to_list (pair_at nodes o) ++ listed_in nodes ws))
          ≡ pair_at nodes (find (own_by eq (key_in nodes) q) (option_to_list o ++ stored_nodes ws))
      by None rest = rest
      by (Some n) rest = node_by n (slice_get nodes n) refl rest

  -- what holds of the key of each stored node holds of each key that is listed
  pub all_listed : (P : K → Type 0) (words : List Word) →
      ((j m : ℕ) (node : Node K V) → stored_in (word_at words j) ≡ Some m → slice_get nodes m ≡ Some node → P node.key) →
      AllByRecursion P (keys_of (entries (listed_in nodes words)))
  all_listed P [] h = tt
  all_listed P (w ∷ ws) h = by (stored_in w) refl (all_listed P ws (λ j. h (suc j)))
    where
      node_by : (n : ℕ) → stored_in w ≡ Some n → (o : Option (Node K V)) → slice_get nodes n ≡ o →
          AllByRecursion P (keys_of (entries (listed_in nodes ws))) →
          AllByRecursion P (keys_of (entries (option_to_list (option_map {U = K × Stored V} (λ node. (node.key, node.stored)) o) ++ listed_in nodes ws)))
      node_by n is None e rest = rest
      node_by n is (Some node) e rest = (h 0 n node is e, rest)

      by : (o : Option ℕ) → stored_in w ≡ o → AllByRecursion P (keys_of (entries (listed_in nodes ws))) →
          AllByRecursion P (keys_of (entries (option_to_list (pair_at nodes o) ++ listed_in nodes ws)))
      by None e rest = rest
      by (Some n) e rest = node_by n e (slice_get nodes n) refl rest

  -- no key is listed twice, if none has two buckets
  pub distinct_listed : (words : List Word) →
      ((i j n m : ℕ) → stored_in (word_at words i) ≡ Some n → stored_in (word_at words j) ≡ Some m → same_by eq (key_in nodes) n m ≡ true → i ≡ j) →
      IsDistinct eq (keys_of (entries (listed_in nodes words)))
  unfolding IsDistinct
  distinct_listed [] one = tt
  distinct_listed (w ∷ ws) one = by (stored_in w) refl
      (distinct_listed ws (λ i j n m d e alike. let next = one (suc i) (suc j) n m d e alike in omega arith))
    where
      other : (n : ℕ) (node : Node K V) → stored_in w ≡ Some n → slice_get nodes n ≡ Some node → (j m : ℕ) (x : Node K V) → stored_in (word_at ws j) ≡ Some m →
          slice_get nodes m ≡ Some x → (b : Bool) → eq node.key x.key ≡ b → eq node.key x.key ≡ false
      other n node is there j m x d e false alike = alike
      other n node is there j m x d e true alike =
          let k : key_in nodes n ≡ Some node.key = ap (option_map (λ node. node.key)) there in
          let l : key_in nodes m ≡ Some x.key = ap (option_map (λ node. node.key)) e in
          let same : same_by eq (key_in nodes) n m ≡ true = ap (λ o. is_one_key eq o (key_in nodes m)) k ∙ (ap (is_one_key eq (Some node.key)) l ∙ alike) in
          let never = one 0 (suc j) n m is d same in absurd (omega arith)

      node_by : (n : ℕ) → stored_in w ≡ Some n → (o : Option (Node K V)) → slice_get nodes n ≡ o → IsDistinct eq (keys_of (entries (listed_in nodes ws))) →
          IsDistinct eq (keys_of (entries (option_to_list (option_map {U = K × Stored V} (λ node. (node.key, node.stored)) o) ++ listed_in nodes ws)))
      node_by n is None e rest = rest
      node_by n is (Some node) e rest =
          (all_listed (λ y. eq node.key y ≡ false) ws (λ j m x d f. other n node is e j m x d f (eq node.key x.key) refl), rest)

      by : (o : Option ℕ) → stored_in w ≡ o → IsDistinct eq (keys_of (entries (listed_in nodes ws))) →
          IsDistinct eq (keys_of (entries (option_to_list (pair_at nodes o) ++ listed_in nodes ws)))
      by None e rest = rest
      by (Some n) e rest = node_by n e (slice_get nodes n) refl rest

-- the pairs of a root have no key twice
pub listed_distinct : {K V : Type 0} (eq : K → K → Bool) (hash : K → ℕ) (m : Memory) (nodes : List (Node K V)) (first peak : ℕ) → IsWell eq hash m nodes first peak →
    IsDistinct eq (keys_of (entries (listed_in nodes (words_of m (root m)))))
listed_distinct eq hash m nodes first peak well = distinct_listed eq nodes (words_of m (root m)) (λ i j n k d e alike.
    (root_is_array m (well.sound (key_in nodes) (agrees_now (key_in nodes)))).0.one i j n k
    (stored_is_key (word_at (words_of m (root m)) i) n d) (stored_is_key (word_at (words_of m (root m)) j) k e) alike)
