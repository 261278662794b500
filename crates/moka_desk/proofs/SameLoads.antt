-- Loads as keys of a hash map: what `==` on them answers.
use Rattle.std.proofs.Common.{◌≡◌, Bool, true, false, ◌&&◌, refl, ap, sym, ◌∙◌}
use Rattle.std.specs.Cmp.{IsEquivalence}
use Rattle.std.specs.HashMap.{HashMap, get, get_by}
use denote.Enum.Bare.{sameb, same_true}
use Rattle.moka_hist.specs.Finite.{kind_eq, load_eq}
use Rattle.moka_hist.specs.contracts.loads.Kind.{the_type}
use Rattle.moka_hist.specs.declared.loads.Kind.{Kind}
use Rattle.moka_hist.specs.declared.loads.Kind.TheVariants.{GetWith, Optional, Try, Compute}
use Rattle.moka_hist.specs.declared.loads.Load.{Load}

-- the derived `==` of kinds tells them apart as the definition does
kind_same : (a b : Kind) → kind_eq a b ≡ sameb the_type a b
kind_same GetWith GetWith = refl
kind_same GetWith Optional = refl
kind_same GetWith Try = refl
kind_same Optional GetWith = refl
kind_same Optional Optional = refl
kind_same Optional Try = refl
kind_same Try GetWith = refl
kind_same Try Optional = refl
kind_same Try Try = refl
kind_same GetWith Compute = refl
kind_same Optional Compute = refl
kind_same Try Compute = refl
kind_same Compute GetWith = refl
kind_same Compute Optional = refl
kind_same Compute Try = refl
kind_same Compute Compute = refl

-- what the derived `==` of loads answers
abbrev pub derived : {K : Type 0} → (K → K → Bool) → Load K → Load K → Bool
derived eq a b = eq a.key b.key && sameb the_type a.kind b.kind

pub load_same : {K : Type 0} (eq : K → K → Bool) → load_eq eq ≡ derived eq
load_same eq = λ i a b. eq a.key b.key && kind_same a.kind b.kind i

-- kinds are equal each to itself, and to no other
kind_self : (a : Kind) → kind_eq a a ≡ true
kind_self GetWith = refl
kind_self Optional = refl
kind_self Try = refl
kind_self Compute = refl

kind_one : (a b : Kind) → kind_eq a b ≡ true → a ≡ b
kind_one a b same = same_true the_type tt a b (sym (kind_same a b) ∙ same)

kind_symm : (a b : Kind) → kind_eq a b ≡ kind_eq b a
kind_symm GetWith GetWith = refl
kind_symm GetWith Optional = refl
kind_symm GetWith Try = refl
kind_symm Optional GetWith = refl
kind_symm Optional Optional = refl
kind_symm Optional Try = refl
kind_symm Try GetWith = refl
kind_symm Try Optional = refl
kind_symm Try Try = refl
kind_symm GetWith Compute = refl
kind_symm Optional Compute = refl
kind_symm Try Compute = refl
kind_symm Compute GetWith = refl
kind_symm Compute Optional = refl
kind_symm Compute Try = refl
kind_symm Compute Compute = refl

-- both of two tests hold
both_first : (a b : Bool) → (a && b) ≡ true → a ≡ true
both_first true b e = refl
both_first false b e = e

both_second : (a b : Bool) → (a && b) ≡ true → b ≡ true
both_second true b e = e
both_second false b e = cc

-- loads are equal by a relation of the keys
pub load_laws : {K : Type 0} (eq : K → K → Bool) → IsEquivalence eq → IsEquivalence (load_eq eq)
load_laws eq laws = record {
  refl = λ x i. laws.refl x.key i && kind_self x.kind i;
  symm = λ x y i. laws.symm x.key y.key i && kind_symm x.kind y.kind i;
  congr = λ x y z same.
      let keys = laws.congr x.key y.key z.key (both_first (eq x.key y.key) (kind_eq x.kind y.kind) same) in
      let kinds = ap (λ k. kind_eq k z.kind) (kind_one x.kind y.kind (both_second (eq x.key y.key) (kind_eq x.kind y.kind) same)) in
      λ i. keys i && kinds i;
}

-- a look-up by either
pub get_same : {K X S : Type 0} (eq : K → K → Bool) (m : HashMap (Load K) X S) (l : Load K) → get (load_eq eq) m l ≡ get (derived eq) m l
get_same eq m l = ap (λ e. get e m l) (load_same eq)

-- equal loads have one owner
pub get_alike : {K X S : Type 0} (eq : K → K → Bool) → IsEquivalence eq → (m : HashMap (Load K) X S) (l k : Load K) → load_eq eq l k ≡ true → get (load_eq eq) m l ≡ get (load_eq eq) m k
get_alike eq laws m l k same = λ i. get_by (λ x. (load_laws eq laws).congr l k x same i) m
