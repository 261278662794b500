-- The pairs of entries that hold a newer key.
use Rattle.std.proofs.Common.{◌≡◌, Bool, true, false, cond, List, [], ◌∷◌, refl, sym, ap, subst, ◌∙◌, Option, None, Some, IfSome}
use Rattle.std.specs.Prelude.{Result, Ok, Err, IfOk, OnOk, OnErr}
use Rattle.std.specs.Option.{option_map, is_some}
use Rattle.std.specs.Map.{lookup, lookup_entry, set_value}
use Rattle.std.specs.Cmp.{IsEquivalence}
use denote.Ref.{Bor}
use Rattle.moka_parts.specs.declared.held.Held.{Held}
use Rattle.moka_parts.specs.Pairs.{pair_of, pair_in, lent, SamePairs, PutsAt, MeetsFact}
use Rattle.moka_parts.proofs.Entries.{lookup_set}

-- a choice, seen through a function
pub mapped : {A B : Type 0} (f : A → B) (b : Bool) (x y : Option A) → option_map f (cond b x y) ≡ cond b (option_map f x) (option_map f y)
mapped f true x y = refl
mapped f false x y = refl

pub some_mapped : {A B : Type 0} (f : A → B) (o : Option A) → is_some (option_map f o) ≡ is_some o
some_mapped f None = refl
some_mapped f (Some x) = refl

pub none_mapped : {A B : Type 0} (f : A → B) (o : Option A) → option_map f o ≡ None → o ≡ None
none_mapped f None h = refl
none_mapped f (Some x) h = absurd (cc)

-- where no value is found there is no pair
pub no_pair : {K V : Type 0} (test : K → Bool) (es : List (K × Held K V)) → lookup test es ≡ None → option_map pair_of (lookup_entry test es) ≡ None
no_pair test [] h = refl
no_pair {K} {V} test (e ∷ es) h =
    let by : (b : Bool) → cond b (Some e.1) (lookup test es) ≡ None → option_map pair_of (cond b (Some e) (lookup_entry test es)) ≡ None =
    elim [ true ↦ (λ f. absurd (cc)) | false ↦ (λ f. no_pair test es f) ] in
    by (test e.0) h

-- a value is found with its key
pub value_entry : {K X : Type 0} (test : K → Bool) (es : List (K × X)) (v : X) → lookup test es ≡ Some v → (k : K) × (lookup_entry test es ≡ Some (k, v))
value_entry test [] v h = absurd (cc)
value_entry {K} {X} test (e ∷ es) v h =
    let by : (b : Bool) → cond b (Some e.1) (lookup test es) ≡ Some v → (k : K) × (cond b (Some e) (lookup_entry test es) ≡ Some (k, v)) =
    elim [ true ↦ (λ f. let s : e.1 ≡ v = cc in (e.0, ap (λ (x : X). Some (e.0, x)) s)) | false ↦ (λ f. value_entry test es v f) ] in
    by (test e.0) h

module _ {K V : Type 0} {eq : K → K → Bool} (o : IsEquivalence eq) where
  -- equal keys find one entry
  pub alike : (k q : K) → eq k q ≡ true → (es : List (K × Held K V)) → lookup_entry (eq q) es ≡ lookup_entry (eq k) es
  alike k q same [] = refl
  alike k q same (x ∷ xs) =
      let t : eq k x.0 ≡ eq q x.0 = o.congr k q x.0 same in
      ap (λ (b : Bool). cond b (Some x) (lookup_entry (eq q) xs)) (sym t) ∙ ap (λ r. cond (eq k x.0) (Some x) r) (alike k q same xs)

  -- the pair that stood there, which is held whole
  pub former : {E : Type 0} (key : K) (es : List (K × Held K V)) (h : Held K V) (r : Result (K × V) E) → lookup (eq key) es ≡ Some h
      → IfOk r (λ p. h ≡ record { newer = Some p.0; value = p.1 }) → IfOk r (λ p. pair_in eq es key ≡ Some p)
  former key es h (Err e) found was = tt
  former key es h (Ok p) found was =
      let there = value_entry (eq key) es h found in
      ap (option_map pair_of) there.1 ∙ ap (λ (x : Held K V). Some (pair_of (there.0, x))) was

  -- the pairs once one was replaced where it lay
  pub renewed : {E : Type 0} (key : K) (value : V) (es fs : List (K × Held K V)) (h w : Held K V) (r : Result (K × V) E) → lookup (eq key) es ≡ Some h
      → fs ≡ set_value (eq key) es w → OnOk r (w ≡ record { newer = Some key; value = value })
      → OnOk r ((q : K) → pair_in eq fs q ≡ cond (eq key q) (Some (key, value)) (pair_in eq es q))
  renewed key value es fs h w (Err e) found is now = tt
  renewed key value es fs h w (Ok p) found is now = λ q.
      let there = value_entry (eq key) es h found in
      let set = ap (λ (l : List (K × Held K V)). lookup_entry (eq q) l) is ∙ lookup_set o key q w es (there.0, h) there.1 in
      ap (option_map pair_of) set ∙ (mapped pair_of (eq key q) (Some (there.0, w)) (lookup_entry (eq q) es)
      ∙ ap (λ (x : Held K V). cond (eq key q) (Some (pair_of (there.0, x))) (pair_in eq es q)) now)

  -- and where what was held stayed
  pub left_same : {E : Type 0} (key : K) (es fs : List (K × Held K V)) (h w : Held K V) (r : Result (K × V) E) → lookup (eq key) es ≡ Some h
      → fs ≡ set_value (eq key) es w → OnErr r (w ≡ h) → OnErr r ((q : K) → pair_in eq fs q ≡ pair_in eq es q)
  left_same key es fs h w (Ok p) found is now = tt
  left_same key es fs h w (Err e) found is now = λ q.
      let there = value_entry (eq key) es h found in
      let set = ap (λ (l : List (K × Held K V)). lookup_entry (eq q) l) is ∙ lookup_set o key q w es (there.0, h) there.1 in
      let by : (b : Bool) → eq key q ≡ b → cond b (Some (there.0, w)) (lookup_entry (eq q) es) ≡ lookup_entry (eq q) es =
      elim [
        | true ↦ (λ t. ap (λ (x : Held K V). Some (there.0, x)) now ∙ (sym there.1 ∙ sym (alike key q t es)))
        | false ↦ (λ t. refl)
      ] in
      ap (option_map pair_of) (set ∙ by (eq key q) refl)

-- what a closure may be lent, where it may be lent what meets the fact
pub may_lend : {K V : Type 0} (so : V → Type 0) (shown : Option (Bor K × Bor V)) (found : Option (K × V)) → lent shown ≡ found → IfSome found (λ p. so p.1) → IfSome shown (λ p. so p.1.now)
may_lend so None found same h = tt
may_lend {K} {V} so (Some p) found same h = subst (λ (x : Option (K × V)). IfSome x (λ p. so p.1)) (sym same) h

-- what a condition may be asked of, where it may be asked of what meets the fact
pub may_call : {K V : Type 0} (so : V → Type 0) (pre : Bor K → Bor V → Type 0) (shown : Option (Bor K × Bor V)) (found : Option (K × V)) → lent shown ≡ found → IfSome found (λ p. so p.1)
    → ((k : Bor K) (v : Bor V) → so v.now → pre k v) → IfSome shown (λ p. pre p.0 p.1)
may_call so pre None found same h to = tt
may_call so pre (Some p) found same h to = to p.0 p.1 (may_lend so (Some p) found same h)

module _ {K V : Type 0} (eq : K → K → Bool) (holds : K → V → Type 0) where
  -- a map with the same pairs meets the fact
  pub meets_same : (es fs : List (K × Held K V)) → MeetsFact eq holds es → SamePairs eq es fs → MeetsFact eq holds fs
  meets_same es fs meets same = λ q. subst (λ (o : Option (K × V)). IfSome o (λ p. holds q p.1)) (sym (same q)) (meets q)

  -- and so does one into which a pair was put that meets it, or of which one was taken
  pub meets_put : (key : K) (now : Option (K × V)) (es fs : List (K × Held K V)) → MeetsFact eq holds es → PutsAt eq key now es fs
      → ((q : K) → eq key q ≡ true → IfSome now (λ p. holds q p.1)) → MeetsFact eq holds fs
  meets_put key now es fs meets made owes = λ q.
      let by : (b : Bool) → eq key q ≡ b → IfSome (cond b now (pair_in eq es q)) (λ p. holds q p.1) =
      elim [ true ↦ (λ e. owes q e) | false ↦ (λ e. meets q) ] in
      subst (λ (o : Option (K × V)). IfSome o (λ p. holds q p.1)) (sym (made q)) (by (eq key q) refl)

  -- a key at which a pair stands has a value that meets it
  pub stored_meets : (es : List (K × Held K V)) → MeetsFact eq holds es → (q : K) (listed : Bool) → listed ≡ is_some (pair_in eq es q) → listed ≡ true → (v : V) × holds q v
  stored_meets es meets q listed is true_is =
      let by : (o : Option (K × V)) → is_some o ≡ true → IfSome o (λ p. holds q p.1) → (v : V) × holds q v =
      elim [ None ↦ (λ e h. absurd (cc)) | Some p ↦ (λ e h. (p.1, h)) ] in
      by (pair_in eq es q) (sym is ∙ true_is) (meets q)
