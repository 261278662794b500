-- What the conditions of visits say of what is kept.
use Rattle.std.proofs.Common.{◌≡◌, ◌≢◌, ℕ, ◌==◌, Bool, true, false, Option, Some, None, IsSome, IsNone, IfSome, refl, sym, subst}
use Rattle.std.specs.Option.{IsSomeAnd, option_map, option_map_or}
use Rattle.std.proofs.lemmas.Bool.{eqb-true, eqb-false}
use Rattle.moka_hist.specs.Conditions.{IsPlaceOf, MayLeaveWith}
use Rattle.moka_hist.specs.Telling.{MayEnd, was_asked}
use Rattle.moka_hist.specs.Visits.{number_of, runs}
use Rattle.moka_hist.specs.declared.notices.Notice.{Notice}
use Rattle.moka_hist.specs.declared.notices.NoticeState.{NoticeState}
use Rattle.moka_hist.specs.declared.notices.NoticeState.TheVariants as state
use Rattle.moka_hist.specs.declared.writes.Holding.{Holding}
use Rattle.moka_hist.specs.declared.writes.Holding.TheVariants as holding
use Rattle.moka_hist.specs.declared.writes.Owed.{Owed}
use Rattle.moka_hist.specs.declared.writes.Write.{Write}
use Rattle.moka_desk.specs.Held.{holds_number}
use Rattle.moka_hist.proofs.Owners.{Owns}

itself : (n : ℕ) → (n == n) ≡ true
itself n = by (n == n) refl where
  by : (b : Bool) → (n == n) ≡ b → b ≡ true
  by true e = refl
  by false e = absurd (eqb-false n n e refl)

-- a call that holds a write has it by its number
pub holds_its_own : (held : Option Holding) (call : ℕ) (write : Write) → IsPlaceOf held call write → holds_number call (number_of write) held ≡ true
holds_its_own None call write is = absurd is
holds_its_own (Some (holding.Own pending)) call write is = subst (λ n. (call == n) ≡ true) (sym is) (itself call)
holds_its_own (Some (holding.TookUp mine)) call write is = subst (λ w. (number_of mine == number_of w) ≡ true) (sym is) (itself (number_of mine))

-- a call that leaves a write has it by its number
pub leaves_its_own : (holds : Option Holding) (call : ℕ) (held : Option Owed) → MayLeaveWith holds call (option_map (λ o. o.write) held) →
    IfSome held (λ o. holds_number call (number_of o.write) holds ≡ true)
leaves_its_own holds call None may = tt
leaves_its_own holds call (Some o) may = holds_its_own holds call o.write may

-- a call that took no write up leaves none
pub leaves_none : (held : Option Holding) (call : ℕ) →
    ((write : Write) → held ≢ Some (holding.TookUp write)) → MayLeaveWith held call None
leaves_none None call none = tt
leaves_none (Some (holding.Own pending)) call none = tt
leaves_none (Some (holding.TookUp write)) call none = none write refl

-- a lock that is held is another's, where the call holds none
pub held_by_another : {K : Type 0} (eq : K → K → Bool) (locks : K → Option ℕ) (locked : ℕ → Option K) → Owns eq locks locked → (key : K) (call : ℕ) → IsNone (locked call) →
    IsSome (locks key) → option_map_or (λ h. h == call) (locks key) true ≡ false
held_by_another {K} eq locks locked owns key call none some = by (locks key) refl some where
  test : (n : ℕ) (b : Bool) → (n == call) ≡ b → IsSomeAnd (locked n) (λ own. eq own key ≡ true) → b ≡ false
  test n false e mine = refl
  test n true e mine = absurd (apart (locked call) none (subst (λ m. IsSomeAnd (locked m) (λ own. eq own key ≡ true)) (eqb-true n call e) mine)) where
    apart : (o : Option K) → IsNone o → IsSomeAnd o (λ own. eq own key ≡ true) → ⊥
    apart None n s = s
    apart (Some k) n s = no n where
      no : true ≡ false → ⊥
      no e = cc

  by : (o : Option ℕ) → locks key ≡ o → IsSome o → option_map_or (λ h. h == call) o true ≡ false
  by None e is = absurd (no is) where
    no : false ≡ true → ⊥
    no e = cc
  by (Some n) e is = test n (n == call) refl (owns key n e)

-- a notice that runs may end
pub running_may_end : {K V : Type 0} (o : Option (Notice K V)) → option_map_or (λ x. runs x.state) o false ≡ true → MayEnd o
running_may_end None is = absurd (no is) where
  no : false ≡ true → ⊥
  no e = cc
running_may_end (Some x) is = by x.state is where
  by : (s : NoticeState) → runs s ≡ true → was_asked s ≡ true
  by state.Waiting e = e
  by state.Running e = refl
  by state.Ended e = refl
  by state.Skipped e = e
