-- What a call takes of who is asked, and by which accesses.
use Rattle.std.specs.Prelude.{◌≡◌, Bool, true, false, not, Option, Some, None, IfSome}
use Rattle.std.specs.Option.{option_map}
use Rattle.moka_hist.specs.Step.{Access, On_table, On_desk}
use Rattle.moka_hist.specs.declared.accesses.Got.{Got}
use Rattle.moka_hist.specs.declared.accesses.Got.TheVariants as got
use Rattle.moka_hist.specs.declared.events.Told.{Told}
use Rattle.moka_hist.specs.declared.events.Told.TheVariants as answer
use Rattle.moka_hist.specs.declared.visits.Found.{Found}
use Rattle.moka_hist.specs.declared.visits.Found.TheVariants as found
use Rattle.moka_hist.specs.declared.visits.Visit.{Visit}
use Rattle.moka_hist.specs.declared.visits.Visit.TheVariants as visit
use Rattle.moka_kept.specs.declared.brought.Brought.{Brought}
use Rattle.moka_kept.specs.declared.brought.Brought.TheVariants as brought
use Rattle.moka_needs.specs.declared.needs.Need.{Need}
use Rattle.moka_needs.specs.declared.needs.Need.TheVariants as need
use Rattle.moka_kept.specs.declared.heard.ListenerEnd.{ListenerEnd}
use Rattle.moka_kept.specs.declared.heard.ListenerEnd.TheVariants as end

-- an answer to the call's own ask, or that of its replace test on a value
pub data Taken (V E : Type 0) : Type 0 where
  Answered : (told : Told V E) → Taken V E
  Tested : (value : V) → (replaced : Bool) → Taken V E

-- What a hold may take that is brought this, of a call whose next visit asks its replace test on
-- this value, if it does.
abbrev pub Brings : {V E : Type 0} → Option V → Brought V E → Taken V E → Type 0
Brings value (brought.Told told) taken = taken ≡ Answered told
Brings (Some value) (brought.Tested replaced) taken = taken ≡ Tested value replaced
Brings None (brought.Tested replaced) taken = ⊥
Brings value brought.Nothing taken = ⊥

-- there is no answer
abbrev pub NoAnswer : {A : Type 0} → A → Type 0
NoAnswer answer = ⊥

module _ {V E : Type 0} where
  -- the answer is one for a call, and none that the listener gives
  abbrev pub is_of_call : Told V E → Bool
  is_of_call (answer.Value value) = true
  is_of_call answer.Nothing = true
  is_of_call (answer.Err error) = true
  is_of_call (answer.Op op) = true
  is_of_call answer.Done = false
  is_of_call answer.Off = false

  -- the answer to its own ask that the call took by what its visit found, if it took one
  abbrev pub told_found : Found V E → Option (Told V E)
  told_found (found.TakeTold told) = told
  told_found _ = None

  -- the visit has passed over the record that it judged
  abbrev pub is_passed : Found V E → Bool
  is_passed (found.Judge seen) = not seen
  is_passed _ = false

  -- The replace test has such an answer on the value, by which the visit passes over the record where
  -- the test holds. It passes over one that isn't visible, too.
  abbrev pub TestedSuch : Found V E → (Taken V E → Type 0) → V → Type 0
  TestedSuch f such value =
      (replaced : Bool) × such (Tested value replaced) × (replaced ≡ true → is_passed f ≡ true)

module _ {K V E : Type 0} where
  -- the value on which the visit asks the call's replace test, if it does
  abbrev pub tested_made : Visit K V E → Option V
  tested_made (visit.Judge replace key stored) = option_map (λ test. stored.value) replace
  tested_made _ = None

  abbrev pub tested_by : Access K V E → Option V
  tested_by (On_desk made) = tested_made made
  tested_by (On_table operation) = None

  -- What the call took of who is asked by the visit, which found this, is such: an answer to its own
  -- ask, or one of its replace test.
  abbrev pub TookSuch : Visit K V E → Found V E → (Taken V E → Type 0) → Type 0
  TookSuch (visit.TakeTold n) f such = IfSome (told_found f) (λ told. such (Answered told))
  TookSuch made f such = IfSome (tested_made made) (TestedSuch f such)

  -- the same of the access, which gave this
  abbrev pub TookBy : Access K V E → Got K V E → (Taken V E → Type 0) → Type 0
  TookBy (On_desk made) (got.Desk f) such = TookSuch made f such
  TookBy _ _ such = Unit {0}

  -- the visit takes the answer to the call's own ask
  abbrev pub takes_answer : Visit K V E → Bool
  takes_answer (visit.TakeTold n) = true
  takes_answer _ = false

  abbrev pub is_taking : Access K V E → Bool
  is_taking (On_desk made) = takes_answer made
  is_taking (On_table operation) = false

-- a visit that needs this takes the answer to the call's own ask
abbrev pub needs_answer : {K : Type 0} → Need K → Bool
needs_answer need.TakeTold = true
needs_answer _ = false

-- what the desk is told of a notice that the listener ended so
abbrev pub end_told : {V E : Type 0} → ListenerEnd → Told V E
end_told end.Done = answer.Done
end_told end.Off = answer.Off
