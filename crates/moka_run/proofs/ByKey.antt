-- Stored pairs, sorted by their keys, list the map.
use Rattle.std.proofs.Common.{◌≡◌, ℕ, ◌<◌, Bool, true, false, cond, List, [], ◌∷◌, Option, Some, None, IsPermutation, nat_eq, length, arith, refl, sym, ap, subst, ◌∙◌}
use Rattle.std.specs.Cmp.{nat_eq_equiv}
use Rattle.std.specs.List.{IsDistinct}
use Rattle.std.specs.List.Sorted.{IsNonDecreasing, IsSortedByKey}
use Rattle.std.specs.Map.{lookup, keys_of, values_of}
use Rattle.std.specs.Option.{option_map}
use Rattle.std.specs.Ordering.{nat_cmp}
use Rattle.std.proofs.lemmas.Bool.{eqb-true}
use Rattle.std.proofs.lemmas.List.{length-map}
use Rattle.std.proofs.lemmas.List.Sorted.{IsPermutation-map, IsPermutation-sym, Contains-permutation, IsNonDecreasingBy-from_sort, IsNonDecreasingBy-from_default}
use Rattle.std.proofs.Math.ListN.{get_or-map}
use Rattle.std.proofs.lemmas.Map.{lookup-none}
use Rattle.std.proofs.lemmas.Map.Entries.{none_past_head}
use Rattle.std.proofs.lemmas.Map.Keys.{IsDistinct-tail, IsDistinct-IsPermutation, IsStrictlyIncreasing-from_distinct}
use Rattle.std.proofs.lemmas.Map.Views.{Contains-from_lookup, lookup-from_Contains}
use Rattle.moka_hist.specs.declared.records.Stored.{Stored}
use Rattle.moka_table.specs.Map.{Pairs, ListsPairs}
use Rattle.moka_run.specs.Playing.{ListsByKey}

-- a pair with the key that it stands under
abbrev Entry : Type 0
Entry = ℕ × (ℕ × Stored ℕ)

-- each pair that is found has the key that it is looked up by
abbrev IsUnder : List Entry → Type 0
IsUnder es = (q : ℕ) (p : ℕ × Stored ℕ) → lookup (nat_eq q) es ≡ Some p → p.0 ≡ q

head_under : (e : Entry) (es : List Entry) → IsUnder (e ∷ es) → e.1.0 ≡ e.0
head_under e es under = under e.0 e.1 (ap (λ b. cond b (Some e.1) (lookup (nat_eq e.0) es)) (nat_eq_equiv.refl e.0))

tail_found : (e : Entry) (es : List Entry) (q : ℕ) (p : ℕ × Stored ℕ) → IsDistinct nat_eq (keys_of (e ∷ es)) → lookup (nat_eq q) es ≡ Some p → (b : Bool) → nat_eq q e.0 ≡ b
    → lookup (nat_eq q) (e ∷ es) ≡ Some p
tail_found e es q p distinct found true is =
    let none : lookup (nat_eq q) es ≡ None = lookup-none (nat_eq q) es (none_past_head nat_eq_equiv q e es distinct is) in
    absurd (cc)
tail_found e es q p distinct found false is = ap (λ b. cond b (Some e.1) (lookup (nat_eq q) es)) is ∙ found

tail_under : (e : Entry) (es : List Entry) → IsDistinct nat_eq (keys_of (e ∷ es)) → IsUnder (e ∷ es) → IsUnder es
tail_under e es distinct under = λ q p found. under q p (tail_found e es q p distinct found (nat_eq q e.0) refl)

-- the keys of the pairs are those that they stand under
same_keys : (es : List Entry) → IsDistinct nat_eq (keys_of es) → IsUnder es → keys_of (values_of es) ≡ keys_of es
same_keys [] distinct under = refl
same_keys (e ∷ es) distinct under =
    let rest = same_keys es (IsDistinct-tail nat_eq e.0 (keys_of es) distinct) (tail_under e es distinct under) in
    ap (λ k. k ∷ keys_of (values_of es)) (head_under e es under) ∙ ap (λ ks. e.0 ∷ ks) rest

found_first : (e : Entry) (found : Option (Stored ℕ)) (rest : Option (ℕ × Stored ℕ)) (b : Bool) → found ≡ option_map (λ p. p.1) rest
    → cond b (Some e.1.1) found ≡ option_map (λ p. p.1) (cond b (Some e.1) rest)
found_first e found rest true is = refl
found_first e found rest false is = is

-- a look-up among the pairs finds the record of the pair that stands there
same_records : (q : ℕ) (es : List Entry) → IsDistinct nat_eq (keys_of es) → IsUnder es → lookup (nat_eq q) (values_of es) ≡ option_map (λ p. p.1) (lookup (nat_eq q) es)
same_records q [] distinct under = refl
same_records q (e ∷ es) distinct under =
    let rest = same_records q es (IsDistinct-tail nat_eq e.0 (keys_of es) distinct) (tail_under e es distinct under) in
    ap (λ k. cond (nat_eq q k) (Some e.1.1) (lookup (nat_eq q) (values_of es))) (head_under e es under)
    ∙ found_first e (lookup (nat_eq q) (values_of es)) (lookup (nat_eq q) es) (nat_eq q e.0) rest

-- what is found among pairs of different keys is found in any order of them
found_in : (xs ys : List (ℕ × Stored ℕ)) → IsPermutation xs ys → IsDistinct nat_eq (keys_of ys) → (q : ℕ) (v : Stored ℕ) → lookup (nat_eq q) xs ≡ Some v
    → lookup (nat_eq q) ys ≡ Some v
found_in xs ys moved distinct q v found =
    lookup-from_Contains nat_eq_equiv q v ys distinct (Contains-permutation xs ys (q, v) moved (Contains-from_lookup eqb-true q v xs found))

same_found : (xs ys : List (ℕ × Stored ℕ)) → IsPermutation xs ys → IsDistinct nat_eq (keys_of xs) → IsDistinct nat_eq (keys_of ys) → (q : ℕ)
    → (a b : Option (Stored ℕ)) → lookup (nat_eq q) xs ≡ a → lookup (nat_eq q) ys ≡ b → b ≡ a
same_found xs ys moved from to q (Some v) b is at = sym at ∙ found_in xs ys moved to q v is
same_found xs ys moved from to q None None is at = refl
same_found xs ys moved from to q None (Some w) is at = sym (found_in ys xs (IsPermutation-sym xs ys moved) from q w at) ∙ is

-- no key falls
keys_rise : (entries : List (ℕ × Stored ℕ)) → IsSortedByKey (λ e. e.0) nat_cmp entries → IsNonDecreasing (keys_of entries)
keys_rise entries sorted =
    let none : ℕ × Stored ℕ = (0, record { value = 0; stamp = 0; modified = 0 }) in
    let key : ℕ × Stored ℕ → ℕ = λ e. e.0 in
    let rise = IsNonDecreasingBy-from_sort key entries sorted in
    IsNonDecreasingBy-from_default (λ x. x) (keys_of entries) 0
    (λ i j le lt.
    let least = get_or-map key entries i none in
    let most = get_or-map key entries j none in
    let within : j < length entries = omega (arith, length-map {A = ℕ × Stored ℕ} {B = ℕ} entries key) in
    let bound = rise i j none le within in
    omega arith)

pub sorted_list : (pairs entries : List (ℕ × Stored ℕ)) (stored : Pairs ℕ ℕ) → ListsPairs nat_eq pairs stored
    → ((q : ℕ) (p : ℕ × Stored ℕ) → stored q ≡ Some p → nat_eq p.0 q ≡ true)
    → IsPermutation pairs entries → IsSortedByKey (λ e. e.0) nat_cmp entries → ListsByKey entries stored
sorted_list pairs entries stored lists own moved sorted =
    let es : List Entry = lists.entries in
    let under : IsUnder es = λ q p found. eqb-true p.0 q (own q p (sym (lists.lists.same q) ∙ found)) in
    let keys : keys_of pairs ≡ keys_of es = ap keys_of lists.are ∙ same_keys es lists.lists.distinct under in
    let from : IsDistinct nat_eq (keys_of pairs) = subst (λ (ks : List ℕ). IsDistinct nat_eq ks) (sym keys) lists.lists.distinct in
    let to : IsDistinct nat_eq (keys_of entries) =
    IsDistinct-IsPermutation nat_eq nat_eq_equiv.symm (keys_of pairs) (keys_of entries) (IsPermutation-map (λ (e : ℕ × Stored ℕ). e.0) pairs entries moved) from in
    record {
      each = λ key. same_found pairs entries moved from to key _ _ refl refl ∙ ap (λ xs. lookup (nat_eq key) xs) lists.are
          ∙ same_records key es lists.lists.distinct under ∙ ap (option_map (λ p. p.1)) (lists.lists.same key);
      ascending = IsStrictlyIncreasing-from_distinct (keys_of entries) (keys_rise entries sorted) to;
    }
