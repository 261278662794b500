-- Desks with a history and without one.
use Rattle.std.proofs.Common.{◌≡◌, Bool, true, false, not, ◌&&◌, Option, IsNone, IsSome, IsTrue, is_some, refl, sym, ◌∙◌}
use Rattle.std.specs.Prelude.{◌↔◌}
use Rattle.moka_desk.specs.Meets.{Tests}
use Rattle.moka_desk.proofs.WhoHolds.{differ}

-- a desk with a history keeps it in each part
pub keeps_writes : (writes notices moments : Bool) → (writes && (notices && moments)) ≡ true → writes ≡ true
keeps_writes true notices moments e = refl
keeps_writes false notices moments e = e

pub keeps_notices : (writes notices moments : Bool) → (writes && (notices && moments)) ≡ true → notices ≡ true
keeps_notices true true moments e = refl
keeps_notices true false moments e = e
keeps_notices false notices moments e = cc

-- a test that is exact with a history, and else true where it is so, and where it may be so
pub tests_by : {P Q : Type 0} (whole answer : Bool) → (whole ≡ true → IsTrue answer ↔ P) → (P → IsTrue answer) → (IsTrue answer → Q) → Tests whole answer P Q
tests_by true answer exact allowed alike = exact refl
tests_by false answer exact allowed alike = (allowed, alike)

pub tests_exact : {P : Type 0} (Q : Type 0) (whole answer : Bool) → Tests whole answer P Q → whole ≡ true → IsTrue answer ↔ P
tests_exact Q true answer t e = t
tests_exact Q false answer t e = differ (sym e)

pub tests_allowed : {P : Type 0} (Q : Type 0) (whole answer : Bool) → Tests whole answer P Q → P → IsTrue answer
tests_allowed Q true answer t = t.1
tests_allowed Q false answer t = t.0

pub tests_alike : {P Q : Type 0} (whole answer : Bool) → Tests whole answer P Q → (P → Q) → IsTrue answer → Q
tests_alike true answer t same is = same (t.0 is)
tests_alike false answer t same is = t.1 is

-- what is not there is not recalled
pub not_recalled : {A : Type 0} (answer : Bool) (o : Option A) → (IsTrue answer → IsSome o) → IsNone o → IsTrue (not answer)
not_recalled true o some none = differ (sym (some refl) ∙ none)
not_recalled false o some none = refl

pub not_there : {A : Type 0} (answer : Bool) (o : Option A) → (IsTrue answer ↔ IsSome o) → IsTrue (not answer) ↔ IsNone o
not_there {A} answer o is = (by answer o is, not_recalled answer o is.0) where
  none : (b : Bool) → (b ≡ true → false ≡ true) → b ≡ false
  none true f = sym (f refl)
  none false f = refl

  by : (answer : Bool) (o : Option A) → (IsTrue answer ↔ IsSome o) → IsTrue (not answer) → IsNone o
  by true o is h = differ (sym h)
  by false o is h = none (is_some o) is.1
