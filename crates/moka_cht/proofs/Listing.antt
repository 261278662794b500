-- The list of the live keys: each of them once, and no other.
use Rattle.std.proofs.Common.{◌≡◌, ◌≢◌, ℕ, zero, suc, Bool, true, false, cond, eqb, List, [], ◌∷◌, ◌++◌, length, Option, Some, None, get_or, refl, sym, ap, ◌∙◌, subst, arith}
use Rattle.std.proofs.Math.Seq.{drop-cons}
use Rattle.std.proofs.Common.{◌+◌, ◌<◌, drop, add-one}
use Rattle.std.specs.Cmp.{IsEquivalence}
use Rattle.std.specs.Option.{option_map, option_map_or, option_or, option_to_list}
use Rattle.std.specs.List.{AllByRecursion, IsDistinct}
use Rattle.std.specs.Map.{keys_of, lookup}
use Rattle.std.proofs.lemmas.Map.Keys.{IsDistinct-cons}
use Rattle.moka_hist.specs.Finite.{Lists}
use Rattle.moka_words.specs.declared.words.Word.{Word}
use Rattle.moka_words.specs.declared.words.Word.TheVariants.{Unset}
use Rattle.moka_words.specs.Words.{node_of, stored_in, word_at}
use Rattle.moka_words.specs.Arrays.{IsArray}
use Rattle.moka_cht.specs.declared.node.Node.{Node}
use Rattle.moka_cht.specs.declared.node.Node.TheVariants.{Unused, Pair, Removed}
use Rattle.moka_cht.specs.Nodes.{has_key, key_in, node_at, node_hash, own_key, pair_in, same_key, same_keys}
use Rattle.moka_cht.specs.Buckets.{Buckets, IsTable, at_key, first_of, live_in, live_pairs, pair_at, pair_for, stored, value_under}
use Rattle.moka_cht.proofs.Lookups.{stored_named}

module _ {K V : Type 0} (eq : K → K → Bool) (nodes : List (Node K V)) where
  -- what is found of a node is what stands first
  found_in : (q : K) (node : Node K V) (rest : Option (K × V)) (more : List (K × V)) → lookup (eq q) more ≡ option_map (λ p. p.1) rest →
      lookup (eq q) (option_to_list (pair_in node) ++ more) ≡ option_map (λ p. p.1) (option_or (cond (has_key eq q node) (pair_in node) None) rest)
  found_in q Unused rest more e = e
  found_in q (Pair h k v) rest more e = by (eq q k) refl
    where
      by : (b : Bool) → eq q k ≡ b → cond (eq q k) (Some v) (lookup (eq q) more) ≡ option_map (λ p. p.1) (option_or (cond (eq q k) (Some (k, v)) None) rest)
      by true same = ap (λ b. cond b (Some v) (lookup (eq q) more)) same ∙ sym (ap (λ b. option_map (λ p. p.1) (option_or (cond b (Some (k, v)) None) rest)) same)
      by false apart = ap (λ b. cond b (Some v) (lookup (eq q) more)) apart ∙ e ∙ sym (ap (λ b. option_map (λ p. p.1) (option_or (cond b (Some (k, v)) None) rest)) apart)
  found_in q (Removed h k) rest more e = by (eq q k) refl
    where
      by : (b : Bool) → eq q k ≡ b → lookup (eq q) more ≡ option_map (λ p. p.1) (option_or (cond (eq q k) None None) rest)
      by true same = e ∙ sym (ap (λ b. option_map (λ p. p.1) (option_or (cond b None None) rest)) same)
      by false apart = e ∙ sym (ap (λ b. option_map (λ p. p.1) (option_or (cond b None None) rest)) apart)

  found_at : (q : K) (o : Option ℕ) (rest : Option (K × V)) (more : List (K × V)) → lookup (eq q) more ≡ option_map (λ p. p.1) rest →
      lookup (eq q) (option_to_list (pair_at nodes o) ++ more) ≡ option_map (λ p. p.1) (option_or (at_key eq nodes q pair_in o) rest)
  found_at q None rest more e = e
  found_at q (Some n) rest more e = found_in q (node_at nodes n) rest more e

  -- the list has the values of the map
  found_same : (q : K) (words : List Word) → lookup (eq q) (live_in nodes words) ≡ option_map (λ p. p.1) (first_of (pair_for eq nodes q) words)
  found_same q [] = refl
  found_same q (w ∷ ws) = found_at q (stored_in w) (first_of (pair_for eq nodes q) ws) (live_in nodes ws) (found_same q ws)

  -- no key of the words is equal to that of the node
  apart_from : (k : K) (n : ℕ) → key_in (node_at nodes n) ≡ Some k → (words : List Word) →
      ((j m : ℕ) → stored_in (get_or words j Unset) ≡ Some m → same_key eq nodes n m ≡ false) → AllByRecursion (λ y. eq k y ≡ false) (keys_of (live_in nodes words))
  apart_from k n key [] others = tt
  apart_from k n key (w ∷ ws) others = at_word (apart_from k n key ws (λ j m e. others (suc j) m e)) (stored_in w) refl
    where
      at_node : AllByRecursion (λ y. eq k y ≡ false) (keys_of (live_in nodes ws)) → (m : ℕ) (node : Node K V) → node_at nodes m ≡ node → same_key eq nodes n m ≡ false → AllByRecursion (λ y. eq k y ≡ false) (keys_of (option_to_list (pair_in node) ++ live_in nodes ws))
      at_node rest m Unused is apart = rest
      at_node rest m (Removed h l) is apart = rest
      at_node rest m (Pair h l v) is apart = (sym (ap (λ o. same_keys eq (eqb n m) o (key_in (node_at nodes m))) key ∙ ap (λ x. same_keys eq (eqb n m) (Some k) (key_in x)) is) ∙ apart, rest)

      at_word : AllByRecursion (λ y. eq k y ≡ false) (keys_of (live_in nodes ws)) → (o : Option ℕ) → stored_in w ≡ o → AllByRecursion (λ y. eq k y ≡ false) (keys_of (option_to_list (pair_at nodes (stored_in w)) ++ live_in nodes ws))
      at_word rest None e = subst (λ x. AllByRecursion (λ y. eq k y ≡ false) (keys_of (option_to_list (pair_at nodes x) ++ live_in nodes ws))) (sym e) rest
      at_word rest (Some m) e = subst (λ x. AllByRecursion (λ y. eq k y ≡ false) (keys_of (option_to_list (pair_at nodes x) ++ live_in nodes ws))) (sym e) (at_node rest m (node_at nodes m) refl (others 0 m e))

  -- where two buckets never have one key, no key is listed twice
  distinct : (words : List Word) → ((i j n m : ℕ) → i ≢ j → stored_in (get_or words i Unset) ≡ Some n → stored_in (get_or words j Unset) ≡ Some m → same_key eq nodes n m ≡ false) →
      IsDistinct eq (keys_of (live_in nodes words))
  unfolding IsDistinct
  distinct [] apart = tt
  distinct (w ∷ ws) apart = at_word (distinct ws (λ i j n m away a b. apart (suc i) (suc j) n m (λ e. away (omega (arith, e))) a b)) (stored_in w) refl
    where
      at_node : IsDistinct eq (keys_of (live_in nodes ws)) → (n : ℕ) → stored_in w ≡ Some n → (node : Node K V) → node_at nodes n ≡ node → IsDistinct eq (keys_of (option_to_list (pair_in node) ++ live_in nodes ws))
      at_node rest n e Unused is = rest
      at_node rest n e (Removed h k) is = rest
      at_node rest n e (Pair h k v) is = IsDistinct-cons eq k (keys_of (live_in nodes ws)) (apart_from k n (ap key_in is) ws (λ j m d. apart 0 (suc j) n m (λ x. absurd (omega (arith, x))) e d)) rest

      at_word : IsDistinct eq (keys_of (live_in nodes ws)) → (o : Option ℕ) → stored_in w ≡ o → IsDistinct eq (keys_of (option_to_list (pair_at nodes (stored_in w)) ++ live_in nodes ws))
      at_word rest None e = subst (λ x. IsDistinct eq (keys_of (option_to_list (pair_at nodes x) ++ live_in nodes ws))) (sym e) rest
      at_word rest (Some n) e = subst (λ x. IsDistinct eq (keys_of (option_to_list (pair_at nodes x) ++ live_in nodes ws))) (sym e) (at_node rest n e (node_at nodes n) refl)

  pub lists_live : (words : List Word) → IsTable eq words nodes → Lists eq (live_in nodes words) (λ q. option_map (λ p. p.1) (first_of (pair_for eq nodes q) words))
  lists_live words table = record { distinct = distinct words apart; same = λ q. found_same q words }
    where
      apart : (i j n m : ℕ) → i ≢ j → stored_in (get_or words i Unset) ≡ Some n → stored_in (get_or words j Unset) ≡ Some m → same_key eq nodes n m ≡ false
      apart i j n m away a b = by (same_key eq nodes n m) refl
        where
          by : (x : Bool) → same_key eq nodes n m ≡ x → same_key eq nodes n m ≡ false
          by false e = e
          by true e = absurd (away (table.array.one i j n m (stored_named (word_at words i) n a) (stored_named (word_at words j) m b) e))

-- the keys of a list that begins with what is stored in a word
pub key_first : {K V : Type 0} (o : Option (K × V)) (k : K) (more : List (K × V)) → Some k ≡ option_map (λ p. p.0) o → keys_of (option_to_list o ++ more) ≡ k ∷ keys_of more
key_first None k more e = absurd cc
key_first (Some p) k more e = let same : p.0 ≡ k = cc in ap (λ x. x ∷ keys_of more) same

pub key_none : {K V : Type 0} (o : Option (K × V)) (more : List (K × V)) → None ≡ option_map (λ p. p.0) o → keys_of (option_to_list o ++ more) ≡ keys_of more
key_none None more e = refl
key_none (Some p) more e = absurd cc

-- the keys from a word on
pub keys_from : {K V : Type 0} (nodes : List (Node K V)) (words : List Word) (i : ℕ) → i < length words →
    keys_of (live_in nodes (drop i words)) ≡ keys_of (option_to_list (pair_at nodes (stored_in (word_at words i))) ++ live_in nodes (drop (i + 1) words))
keys_from nodes words i below = rw add-one (ap (λ x. keys_of (live_in nodes x)) (drop-cons words i Unset below))
