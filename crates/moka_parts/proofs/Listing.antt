-- The keys that are listed of a part.
use Rattle.std.proofs.Common.{◌≡◌, ℕ, ◌+◌, ◌<◌, ◌==◌, Bool, true, false, cond, List, [], ◌++◌, take, length, refl, ap, sym, ◌∙◌, Option, None, Some}
use Rattle.std.specs.Prelude.{Result, Ok, Err, IfOk, ◌||◌, get_or}
use Rattle.std.specs.Option.{is_some}
use Rattle.std.specs.List.{list_any}
use Rattle.std.specs.Map.{lookup, lookup_entry}
use Rattle.std.specs.Set.{is_member}
use Rattle.moka_parts.specs.declared.held.Held.{Held}
use Rattle.moka_parts.specs.Pairs.{pair_in, pair_of}
use Rattle.moka_parts.proofs.Entries.{found_alike}
use Rattle.moka_parts.proofs.Holding.{some_mapped}
use Rattle.std.proofs.lemmas.Bool.{eq-eqb, eqb-true}
use Rattle.std.proofs.lemmas.List.{append-nil}
use Rattle.std.proofs.lemmas.List.Folds.{list_any_more}

-- of so many keys each is of the part, and the next one is, too
pub one_more : {K : Type 0} (eq : K → K → Bool) (part : K → ℕ) (alike : (x y : K) → eq x y ≡ true → part x ≡ part y) (number i : ℕ) (ks : List K) (d : K)
    → i < length ks → ((q : K) → is_member eq (take i ks) q ≡ true → part q ≡ number) → part (get_or ks i d) ≡ number
    → (q : K) → is_member eq (take (i + 1) ks) q ≡ true → part q ≡ number
one_more {K} eq part alike number i ks d below so next q h =
    let more : (list_any (eq q) (take i ks) || eq q (get_or ks i d)) ≡ true = sym (list_any_more (eq q) ks i d below) ∙ h in
    let by : (b : Bool) → list_any (eq q) (take i ks) ≡ b → (b || eq q (get_or ks i d)) ≡ true → part q ≡ number =
    elim [ true ↦ (λ e t. so q e) | false ↦ (λ e t. alike q (get_or ks i d) t ∙ next) ] in
    by (list_any (eq q) (take i ks)) refl more

-- what stands at each listed key, where no history tells it
pub some_stands : {K V E X : Type 0} (in_list : X → K → Bool) (holds : K → V → Type 0) (here : K → Type 0) (r : Result X E)
    → IfOk r (λ ks. (q : K) → in_list ks q ≡ true → (v : V) × holds q v)
    → IfOk r (λ ks. (q : K) → here q → (found : Option (K × V)) × Unit {0} × (in_list ks q ≡ is_some found))
some_stands in_list holds here (Err e) h = tt
some_stands {K} {V} {E} {X} in_list holds here (Ok ks) h = λ q at.
    let by : (b : Bool) → in_list ks q ≡ b → (found : Option (K × V)) × Unit {0} × (in_list ks q ≡ is_some found) =
    elim [ true ↦ (λ e. (Some (q, (h q e).0), tt, e)) | false ↦ (λ e. (None, tt, e)) ] in
    by (in_list ks q) refl

-- each key of the part at which a pair stands is listed, and no other
abbrev pub Lists : {K V X : Type 0} → (X → K → Bool) → (K → ℕ) → ℕ → (K → Option (K × V)) → X → Type 0
Lists {K} in_list part number stands ks = (q : K) → in_list ks q ≡ is_some (cond (part q == number) (stands q) None)

-- so a listed key is of the part
pub is_of_part : {K V E X : Type 0} (in_list : X → K → Bool) (part : K → ℕ) (number : ℕ) (stands : K → Option (K × V)) (r : Result X E)
    → IfOk r (Lists in_list part number stands) → IfOk r (λ ks. (q : K) → in_list ks q ≡ true → part q ≡ number)
is_of_part in_list part number stands (Err e) h = tt
is_of_part {K} {V} in_list part number stands (Ok ks) h = λ q listed.
    let by : (b : Bool) → (part q == number) ≡ b → is_some (cond b (stands q) None) ≡ true → part q ≡ number =
    elim [ true ↦ (λ e t. eqb-true (part q) number e) | false ↦ (λ e t. absurd (cc)) ] in
    by (part q == number) refl (sym (h q) ∙ listed)

-- and a key of the part is listed where a pair stands at it
pub is_listed : {K V E X : Type 0} (in_list : X → K → Bool) (part : K → ℕ) (number : ℕ) (stands : K → Option (K × V)) (r : Result X E)
    → IfOk r (Lists in_list part number stands)
    → IfOk r (λ ks. (q : K) → part q ≡ number → (found : Option (K × V)) × (found ≡ stands q) × (in_list ks q ≡ is_some found))
is_listed in_list part number stands (Err e) h = tt
is_listed {K} {V} in_list part number stands (Ok ks) h = λ q here.
    (stands q, refl, h q ∙ ap (λ (b : Bool). is_some (cond b (stands q) None)) (eq-eqb (part q) number here))

-- keys of which none is left are all
pub none_left : {K : Type 0} (ks rest all : List K) → rest ≡ [] → ks ++ rest ≡ all → ks ≡ all
none_left ks rest all none is = sym (append-nil ks) ∙ (ap (λ r. ks ++ r) (sym none) ∙ is)

-- keys that are all of a map's say which pairs it has
pub keys_list : {K V : Type 0} (eq : K → K → Bool) (es : List (K × Held K V)) (listed all ks : List K) (q : K) → listed ≡ all → ks ≡ all → is_some (lookup (eq q) es) ≡ is_member eq listed q
    → is_member eq ks q ≡ is_some (pair_in eq es q)
keys_list eq es listed all ks q of same has =
    ap (λ l. is_member eq l q) (same ∙ sym of) ∙ (sym has ∙ (found_alike (eq q) es ∙ sym (some_mapped pair_of (lookup_entry (eq q) es))))
