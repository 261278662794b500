-- Keys of nodes: which of them are one, and which are the call's.
use Rattle.std.proofs.Common.{◌≡◌, ◌≢◌, ℕ, Bool, true, false, List, Option, Some, None, eqb, refl, sym, ap, ◌∙◌, subst, inl, inr}
use Rattle.std.proofs.lemmas.Bool.{cases_eq, false≢true}
use borrow.Author.Tests.{eqb-true}
use Rattle.std.proofs.Common.{eq-eqb}
use Rattle.std.specs.Cmp.{IsEquivalence}
use Rattle.std.specs.Option.{option_map_or}
use Rattle.moka_words.specs.Words.{NamesKeys}
use Rattle.moka_words.specs.Later.{IsOwn}
use Rattle.moka_cht.specs.declared.node.Node.{Node}
use Rattle.moka_cht.specs.Nodes.{key_in, node_at, node_hash, own_key, same_key, same_keys}

module _ {K : Type 0} (eq : K → K → Bool) (laws : IsEquivalence eq) where
  abbrev has : K → Option K → Bool
  has q a = option_map_or (eq q) a false

  alike_keys : (q : K) (one : Bool) (a b : Option K) → (one ≡ true → a ≡ b) → same_keys eq one a b ≡ true → has q a ≡ has q b
  alike_keys q one (Some k) (Some l) is same = laws.symm q k ∙ laws.congr k l q same ∙ laws.symm l q
  alike_keys q one (Some k) None is same = ap (has q) (is same)
  alike_keys q one None (Some l) is same = ap (has q) (is same)
  alike_keys q one None None is same = refl

  one_key : (q : K) (one : Bool) (a b : Option K) → has q a ≡ true → has q b ≡ true → same_keys eq one a b ≡ true
  one_key q one (Some k) (Some l) x y = sym (laws.congr q k l x) ∙ y
  one_key q one (Some k) None x y = absurd (false≢true y)
  one_key q one None b x y = absurd (false≢true x)

  same_itself : (one : Bool) (a : Option K) → one ≡ true → same_keys eq one a a ≡ true
  same_itself one (Some k) e = laws.refl k
  same_itself one None e = e

  same_back : (one other : Bool) (a b : Option K) → (one ≡ true → other ≡ true) → same_keys eq one a b ≡ true → same_keys eq other b a ≡ true
  same_back one other (Some k) (Some l) back same = laws.symm l k ∙ same
  same_back one other (Some k) None back same = back same
  same_back one other None (Some l) back same = back same
  same_back one other None None back same = back same

  same_through : (p q r : Bool) (a b c : Option K) → (p ≡ true → same_keys eq q b c ≡ same_keys eq r a c) → (q ≡ true → same_keys eq p a b ≡ same_keys eq r a c) →
      same_keys eq p a b ≡ true → same_keys eq q b c ≡ true → same_keys eq r a c ≡ true
  same_through p q r (Some x) (Some y) (Some z) first second m n = laws.congr x y z m ∙ n
  same_through p q r (Some x) (Some y) None first second m n = sym (second n) ∙ m
  same_through p q r (Some x) None c first second m n = sym (first m) ∙ n
  same_through p q r None (Some y) c first second m n = sym (first m) ∙ n
  same_through p q r None None c first second m n = sym (first m) ∙ n

  module _ {V : Type 0} (nodes : List (Node K V)) where
    -- the nodes of a key are the call's, all or none
    pub own_nodes : (q : K) → IsOwn (same_key eq nodes) (own_key eq nodes q)
    own_nodes q = record {
      alike = λ n m same. alike_keys q (eqb n m) (key_in (node_at nodes n)) (key_in (node_at nodes m)) (λ e. ap (λ x. key_in (node_at nodes x)) (eqb-true n m e)) same;
      one = λ n m x y. one_key q (eqb n m) (key_in (node_at nodes n)) (key_in (node_at nodes m)) x y;
    }

    -- the keys are an equivalence, which the hashes respect
    pub names_keys : ((n m : ℕ) → same_key eq nodes n m ≡ true → node_hash nodes n ≡ node_hash nodes m) → NamesKeys (node_hash nodes) (same_key eq nodes)
    names_keys hashed = record {
      itself = λ n. same_itself (eqb n n) (key_in (node_at nodes n)) (eq-eqb n n refl);
      either_way = λ n m same. same_back (eqb n m) (eqb m n) (key_in (node_at nodes n)) (key_in (node_at nodes m)) (λ e. eq-eqb m n (sym (eqb-true n m e))) same;
      through = λ n m k x y.
          same_through (eqb n m) (eqb m k) (eqb n k) (key_in (node_at nodes n)) (key_in (node_at nodes m)) (key_in (node_at nodes k))
          (λ e. ap (λ v. same_key eq nodes v k) (sym (eqb-true n m e))) (λ e. ap (λ v. same_key eq nodes n v) (eqb-true m k e)) x y;
      hashed = hashed;
    }

    pub same_either_way : (n m : ℕ) → same_key eq nodes n m ≡ true → same_key eq nodes m n ≡ true
    same_either_way n m same = same_back (eqb n m) (eqb m n) (key_in (node_at nodes n)) (key_in (node_at nodes m)) (λ e. eq-eqb m n (sym (eqb-true n m e))) same

  -- a node of one key has no other
  pub own_apart : {V : Type 0} (nodes : List (Node K V)) (k q : K) (n : ℕ) → own_key eq nodes k n ≡ true → eq k q ≡ false → own_key eq nodes q n ≡ false
  own_apart nodes k q n own apart = by (key_in (node_at nodes n)) own
    where
      by : (a : Option K) → has k a ≡ true → has q a ≡ false
      by None e = refl
      by (Some l) e = laws.symm q l ∙ sym (laws.congr k l q e) ∙ apart
