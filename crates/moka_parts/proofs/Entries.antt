-- The entry that a list of entries has at a key.
use Rattle.std.proofs.Common.{◌≡◌, ◌<◌, ℕ, zero, suc, Bool, true, false, cond, List, [], ◌∷◌, length, slice_index_or, refl, sym, ap, subst, ◌∙◌, arith, Option, None, Some}
use Rattle.std.specs.Option.{option_map, is_some}
use Rattle.std.specs.List.{Contains, IsDistinct, AllByRecursion}
use Rattle.std.specs.List.Sorted.{IsPermutation}
use Rattle.std.specs.Map.{lookup, lookup_key, lookup_entry, remove_entry, set_value, keys_of}
use Rattle.std.specs.Cmp.{IsEquivalence}
use Rattle.std.proofs.lemmas.List.Sorted.{Contains-permutation, IsPermutation-sym, IsPermutation-map}
use Rattle.std.proofs.lemmas.Map.Keys.{IsDistinct-IsPermutation}
use Rattle.std.proofs.lemmas.Map.{lookup-remove_entry}
use Rattle.moka_parts.specs.Pairs.{lent}
use denote.Ref.{Bor}

-- the entry at a key is the key and the value that are found there
pub pair_found : {K V : Type 0} (test : K → Bool) (es : List (K × V)) (o : Option (K × V))
    → option_map (λ p. p.0) o ≡ lookup_key test es → option_map (λ p. p.1) o ≡ lookup test es
    → o ≡ lookup_entry test es
pair_found test [] None k v = refl
pair_found test [] (Some p) k v = absurd (cc)
pair_found {K} {V} test (e ∷ es) o k v =
    let by : (b : Bool) → option_map (λ p. p.0) o ≡ cond b (Some e.0) (lookup_key test es) → option_map (λ p. p.1) o ≡ cond b (Some e.1) (lookup test es) → o ≡ cond b (Some e) (lookup_entry test es) =
    elim [ true ↦ here o | false ↦ pair_found test es o ] in
    by (test e.0) k v
  where
    here : (o : Option (K × V)) → option_map (λ p. p.0) o ≡ Some e.0 → option_map (λ p. p.1) o ≡ Some e.1 → o ≡ Some e
    here None k v = absurd (cc)
    here (Some p) k v = let a : p.0 ≡ e.0 = cc in let b : p.1 ≡ e.1 = cc in (λ i. Some (a i, b i))

pub lent_found : {K V : Type 0} (test : K → Bool) (es : List (K × V)) (o : Option (Bor K × Bor V))
    → option_map (λ p. p.0.now) o ≡ lookup_key test es → option_map (λ p. p.1.now) o ≡ lookup test es
    → lent o ≡ lookup_entry test es
lent_found test es None k v = pair_found test es None k v
lent_found test es (Some p) k v = pair_found test es (Some (p.0.now, p.1.now)) k v

module _ {K V : Type 0} {eq : K → K → Bool} (o : IsEquivalence eq) where
  apart : (x : K) (xs : List (K × V)) (k : ℕ) (e : K × V) → AllByRecursion (λ y. eq x y ≡ false) (keys_of xs) → k < length xs → slice_index_or xs k e ≡ e → eq x e.0 ≡ false
  apart x [] k e all below is = absurd (omega arith)
  apart x (y ∷ ys) zero e all below is = ap (λ (p : K × V). eq x p.0) (sym is) ∙ all.0
  apart x (y ∷ ys) (suc k) e all below is = apart x ys k e all.1 (omega arith) is

  -- an entry of the list is the one at each key that is equal to its own, if no two are equal
  pub entry_found : (q : K) (es : List (K × V)) (k : ℕ) (e : K × V) → IsDistinct eq (keys_of es) → k < length es → slice_index_or es k e ≡ e → eq q e.0 ≡ true
      → lookup_entry (eq q) es ≡ Some e
  unfolding IsDistinct
  entry_found q [] k e d below is t = absurd (omega arith)
  entry_found q (x ∷ xs) zero e d below is t =
      let h : eq q x.0 ≡ true = ap (λ (p : K × V). eq q p.0) is ∙ t in
      rw h (ap Some is)
  entry_found q (x ∷ xs) (suc k) e d below is t =
      let no : eq x.0 e.0 ≡ false = apart x.0 xs k e d.0 (omega arith) is in
      let not_here : (b : Bool) → eq q x.0 ≡ b → cond b (Some x) (lookup_entry (eq q) xs) ≡ Some e =
      elim [
        | true ↦ (λ h. absurd (let p = o.congr q x.0 e.0 h in cc))
        | false ↦ (λ h. entry_found q xs k e d.1 (omega arith) is t)
      ] in
      not_here (eq q x.0) refl

  -- what is found stands in the list, under an equal key
  pub entry_there : (q : K) (es : List (K × V)) (e : K × V) → lookup_entry (eq q) es ≡ Some e → Contains es e × (eq q e.0 ≡ true)
  entry_there q [] e h = absurd (cc)
  entry_there q (x ∷ xs) e h =
      let by : (b : Bool) → eq q x.0 ≡ b → cond b (Some x) (lookup_entry (eq q) xs) ≡ Some e → Contains (x ∷ xs) e × (eq q e.0 ≡ true) =
      elim [
        | true ↦ (λ t f. let s : x ≡ e = cc in ((0, omega arith, s), ap (λ (p : K × V). eq q p.0) (sym s) ∙ t))
        | false ↦ (λ t f. let r = entry_there q xs e f in ((suc r.0.0, (let b = r.0.1 in omega arith), r.0.2), r.1))
      ] in
      by (eq q x.0) refl h

  -- entries in another order
  lookup_reordered : (q : K) (xs ys : List (K × V)) → IsPermutation xs ys → IsDistinct eq (keys_of xs) → IsDistinct eq (keys_of ys)
      → lookup_entry (eq q) ys ≡ lookup_entry (eq q) xs
  lookup_reordered q xs ys p dx dy = by (lookup_entry (eq q) xs) (lookup_entry (eq q) ys) refl refl
    where
      by : (a b : Option (K × V)) → lookup_entry (eq q) xs ≡ a → lookup_entry (eq q) ys ≡ b → b ≡ a
      by None None f g = refl
      by None (Some e) f g =
          let t = entry_there q ys e g in
          let c = Contains-permutation ys xs e (IsPermutation-sym xs ys p) t.0 in
          let found = entry_found q xs c.0 e dx c.1 c.2 t.1 in
          absurd (cc)
      by (Some e) b f g =
          let t = entry_there q xs e f in
          let c = Contains-permutation xs ys e p t.0 in
          let found = entry_found q ys c.0 e dy c.1 c.2 t.1 in
          sym g ∙ found

  pub lookup_permuted : (q : K) (xs ys : List (K × V)) → IsPermutation xs ys → IsDistinct eq (keys_of ys) → lookup_entry (eq q) ys ≡ lookup_entry (eq q) xs
  lookup_permuted q xs ys p d =
      let back = IsPermutation-map (λ (e : K × V). e.0) ys xs (IsPermutation-sym xs ys p) in
      lookup_reordered q xs ys p (IsDistinct-IsPermutation eq o.symm (keys_of ys) (keys_of xs) back d) d

  -- each entry beside its key
  abbrev twice : List (K × V) → List (K × (K × V))
  twice [] = []
  twice (e ∷ es) = (e.0, e) ∷ twice es

  keys_twice : (es : List (K × V)) → keys_of (twice es) ≡ keys_of es
  keys_twice [] = refl
  keys_twice (e ∷ es) = ap (λ ks. e.0 ∷ ks) (keys_twice es)

  lookup_twice : (test : K → Bool) (es : List (K × V)) → lookup test (twice es) ≡ lookup_entry test es
  lookup_twice test [] = refl
  lookup_twice test (e ∷ es) = ap (λ r. cond (test e.0) (Some e) r) (lookup_twice test es)

  remove_twice : (test : K → Bool) (es : List (K × V)) → remove_entry test (twice es) ≡ twice (remove_entry test es)
  remove_twice test [] = refl
  remove_twice test (e ∷ es) =
      let by : (b : Bool) → cond b (twice es) ((e.0, e) ∷ remove_entry test (twice es)) ≡ twice (cond b es (e ∷ remove_entry test es)) =
      elim [ true ↦ refl | false ↦ ap (λ r. (e.0, e) ∷ r) (remove_twice test es) ] in
      by (test e.0)

  lookup_removed : (k q : K) (es : List (K × V)) → IsDistinct eq (keys_of es)
      → lookup_entry (eq q) (remove_entry (eq k) es) ≡ cond (eq k q) None (lookup_entry (eq q) es)
  lookup_removed k q es d =
      let e = lookup-remove_entry o (eq k) (o.congr k) q (twice es) (subst (IsDistinct eq) (sym (keys_twice es)) d) in
      let a : lookup (eq q) (remove_entry (eq k) (twice es)) ≡ lookup_entry (eq q) (remove_entry (eq k) es) = ap (lookup (eq q)) (remove_twice (eq k) es) ∙ lookup_twice (eq q) (remove_entry (eq k) es) in
      sym a ∙ (e ∙ ap (λ r. cond (eq k q) None r) (lookup_twice (eq q) es))

  -- what is left once the entry of a key was taken out
  pub lookup_taken : (k q : K) (es fs : List (K × V)) → IsDistinct eq (keys_of es) → IsDistinct eq (keys_of fs) → IsPermutation (remove_entry (eq k) es) fs
      → lookup_entry (eq q) fs ≡ cond (eq k q) None (lookup_entry (eq q) es)
  lookup_taken k q es fs d df p = lookup_permuted q (remove_entry (eq k) es) fs p df ∙ lookup_removed k q es d

  -- what is found once an entry was added
  pub lookup_added : (k q : K) (v : V) (es fs : List (K × V)) → IsDistinct eq (keys_of fs) → IsPermutation ((k, v) ∷ es) fs
      → lookup_entry (eq q) fs ≡ cond (eq k q) (Some (k, v)) (lookup_entry (eq q) es)
  lookup_added k q v es fs d p = rw (o.symm k q) (lookup_permuted q ((k, v) ∷ es) fs p d)

  -- what is found once a value was put over another
  pub lookup_set : (k q : K) (w : V) (es : List (K × V)) (e : K × V) → lookup_entry (eq k) es ≡ Some e
      → lookup_entry (eq q) (set_value (eq k) es w) ≡ cond (eq k q) (Some (e.0, w)) (lookup_entry (eq q) es)
  lookup_set k q w [] e h = absurd (cc)
  lookup_set k q w (x ∷ xs) e h =
      let after = lookup_entry (eq q) xs in
      let by : (b : Bool) → eq k x.0 ≡ b → cond b (Some x) (lookup_entry (eq k) xs) ≡ Some e
      → lookup_entry (eq q) (cond b ((x.0, w) ∷ xs) (x ∷ set_value (eq k) xs w)) ≡ cond (eq k q) (Some (e.0, w)) (cond (eq q x.0) (Some x) after) =
      elim [
        | true ↦ (λ t f.
            let s : x ≡ e = cc in
            let same : eq k q ≡ eq q x.0 = o.congr k x.0 q t ∙ o.symm x.0 q in
            let first : (c : Bool) → cond c (Some (x.0, w)) after ≡ cond c (Some (x.0, w)) (cond c (Some x) after) = elim [ true ↦ refl | false ↦ refl ] in
            subst (λ (c : Bool). cond (eq q x.0) (Some (x.0, w)) after ≡ cond c (Some (e.0, w)) (cond (eq q x.0) (Some x) after)) (sym same)
            (subst (λ (p : K × V). cond (eq q x.0) (Some (x.0, w)) after ≡ cond (eq q x.0) (Some (p.0, w)) (cond (eq q x.0) (Some x) after)) s (first (eq q x.0))))
        | false ↦ (λ t f.
            let apart_ : (c d : Bool) → eq q x.0 ≡ c → eq k q ≡ d → cond c (Some x) (cond d (Some (e.0, w)) after) ≡ cond d (Some (e.0, w)) (cond c (Some x) after) =
            elim [
              | true ↦ elim [ true ↦ (λ u v. absurd (let p = o.congr k q x.0 v in cc)) | false ↦ (λ u v. refl) ]
              | false ↦ elim [ true ↦ (λ u v. refl) | false ↦ (λ u v. refl) ]
            ] in
            ap (λ r. cond (eq q x.0) (Some x) r) (lookup_set k q w xs e f) ∙ apart_ (eq q x.0) (eq k q) refl refl)
      ] in
      by (eq k x.0) refl h

-- nothing is found at a key without an entry
pub lookup_none : {K V : Type 0} (test : K → Bool) (es : List (K × V)) → lookup_entry test es ≡ None → lookup test es ≡ None
lookup_none test [] h = refl
lookup_none {K} {V} test (e ∷ es) h =
    let by : (b : Bool) → cond b (Some e) (lookup_entry test es) ≡ None → cond b (Some e.1) (lookup test es) ≡ None =
    elim [ true ↦ (λ f. absurd (cc)) | false ↦ (λ f. lookup_none test es f) ] in
    by (test e.0) h

-- an entry is found where a value is
pub found_alike : {K V : Type 0} (test : K → Bool) (es : List (K × V)) → is_some (lookup test es) ≡ is_some (lookup_entry test es)
found_alike test [] = refl
found_alike {K} {V} test (e ∷ es) =
    let by : (b : Bool) → is_some (cond b (Some e.1) (lookup test es)) ≡ is_some (cond b (Some e) (lookup_entry test es)) =
    elim [ true ↦ refl | false ↦ found_alike test es ] in
    by (test e.0)
