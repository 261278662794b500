-- What a flow wants next, by the call that it is of.
use Rattle.std.proofs.Common.{◌≡◌, ◌&&◌, ℕ, Bool, true, false, not, List, [], ◌∷◌, Option, Some, None, IfSome, is_some, refl, sym, ap, ◌∙◌, subst}
use Rattle.std.proofs.lemmas.Bool.{false≢true}
use Rattle.std.proofs.lemmas.Option.{none-some, same_Some}
use Rattle.std.specs.Bool.{OnTrue}
use Rattle.std.specs.declared.cmp.PartialEq as PartialEq
use Rattle.std.specs.declared.hash.Hash as Hash
use Rattle.std.specs.declared.hash.Hasher as Hasher
use Rattle.std.specs.declared.hash.BuildHasher as BuildHasher
use Rattle.moka_hist.specs.Conditions.{MayVisit}
use Rattle.moka_needs.specs.Needs.{IsOfCall, need_of}
use Rattle.moka_hist.specs.Plan.{Item}
use Rattle.moka_hist.specs.Plan as plan
use Rattle.moka_hist.specs.State.{Call, DeskPart, World}
use Rattle.moka_hist.specs.Step.{Access, Gets, On_table, On_desk, access_for, access_of}
use Rattle.moka_hist.specs.Visible.{is_visible}
use Rattle.moka_hist.specs.Visits.{finds, is_hit, times_at}
use Rattle.moka_hist.specs.declared.accesses.Got.{Got}
use Rattle.moka_hist.specs.declared.accesses.Got.TheVariants as got
use Rattle.moka_hist.specs.declared.events.Told.{Told}
use Rattle.moka_hist.specs.declared.visits.Found.{Found}
use Rattle.moka_hist.specs.declared.visits.Visit.TheVariants as visit
use Rattle.moka_kept.specs.Taking.{Answered, NoAnswer, Taken, Tested, TestedSuch, TookBy, TookSuch, is_taking, needs_answer, takes_answer, tested_by, tested_made}
use Rattle.moka_needs.specs.declared.needs.Need.{Need}
use Rattle.moka_hist.specs.declared.visits.Visit.{Visit}
use Rattle.moka_init.specs.FlowPlan.{takes_told, tested_in}
use Rattle.moka_init.specs.Needs.{need_at}
use Rattle.moka_desk.specs.Past.{AllowsAlike}
use Rattle.moka_desk.specs.StandsFor.{StandsFor}
use Rattle.moka_desk.specs.declared.state.Desk.{Desk}
use Rattle.moka_desk.proofs.Allowing.{alike_same}
use Rattle.moka_kept.specs.Kept.{MayMake}

module _ {K V E : Type 0} where
  -- the access is one of this call
  abbrev pub OfCall : ℕ → Access K V E → Type 0
  OfCall n (On_table operation) = Unit {0}
  OfCall n (On_desk made) = IsOfCall n made

  of_item : (n : ℕ) (ids : Option (List (ℕ × ℕ))) (item : Item K V E) → OfCall n (access_for n ids item)
  of_item n ids plan.Drain = refl
  of_item n ids (plan.Ended number) = refl
  of_item n ids (plan.Post write) = refl
  of_item n ids plan.Turn = refl
  of_item n ids plan.Apply = refl
  of_item n ids plan.End = refl
  of_item n ids (plan.Get aim key) = tt
  of_item n ids (plan.Judge aim key found) = tt
  of_item n ids (plan.Own load) = refl
  of_item n ids (plan.Read load) = refl
  of_item n ids (plan.Own_key compute) = refl
  of_item n ids (plan.Own_alone key) = refl
  of_item n ids (plan.Read_key compute) = refl
  of_item n ids (plan.Ask_op compute pair) = refl
  of_item n ids (plan.Told_op compute pair) = refl
  of_item n ids (plan.Settle with) = refl
  of_item n ids (plan.Ask load) = refl
  of_item n ids (plan.Told load) = refl
  of_item n ids (plan.Holds key stamp cause there found) = tt
  of_item n ids (plan.Lock key) = refl
  of_item n ids (plan.Unlock wrote) = refl
  of_item n ids (plan.Notice key old cause upsert) = refl
  of_item n ids plan.Heard = refl
  of_item n ids (plan.Moment change) = refl
  of_item n ids (plan.Write key value moment) = tt
  of_item n ids (plan.Out removal key) = tt
  of_item n ids plan.Idle = refl
  of_item n ids plan.Invalidate_all = tt
  of_item n ids (plan.Register test) = tt
  of_item n ids (plan.List_keys part) = tt
  of_item n ids (plan.Find key) = tt
  of_item n ids (plan.Scan there found) = tt
  of_item n ids (plan.Candidates parts) = tt
  of_item n ids (plan.Strike there found) = tt
  of_item n ids plan.Retire = tt
  of_item n ids (plan.Reply answer) = refl

  -- a call's next access is one of it
  pub of_call : (n : ℕ) (c : Call K V E) → OfCall n (access_of n c)
  of_call n c = by c.plan where
    by : (items : List (Item K V E)) → OfCall n (access_of n (record c { plan = items }))
    by [] = refl
    by (item ∷ rest) = of_item n c.carried item

module _ {K V E S H : Type 0} {same : PartialEq.Ghosts K} {hash : Hash.Ghosts K} {build : BuildHasher.Ghosts S H} {hasher : Hasher.Ghosts H} (eq : K → K → Bool) (desk : Desk K V E S H same hash build hasher) (w : DeskPart K V E) (h : StandsFor eq desk w) where
  -- the desk allows the call's next access, where it allows each visit of the call that needs what
  -- that needs
  pub allowed : (n : ℕ) (c : Call K V E) (need : Need K) → Some need ≡ need_at (access_of n c)
      → ((made : Visit K V E) → IsOfCall n made → need_of made ≡ need → AllowsAlike eq desk w (λ v. MayVisit v made)) → AllowsAlike eq desk w (λ v. MayMake v (access_of n c))
  allowed n c need is may = by (access_of n c) (of_call n c) is where
    one : (a b : Need K) → Some a ≡ Some b → b ≡ a
    one a b e = cc

    by : (a : Access K V E) → OfCall n a → Some need ≡ need_at a → AllowsAlike eq desk w (λ v. MayMake v a)
    by (On_table operation) own is = alike_same eq desk w h (λ v. MayMake v (On_table operation)) tt
    by (On_desk made) own is = may made own (one need (need_of made) is)

  -- one that needs nothing is none of the desk
  pub needs_none : (n : ℕ) (c : Call K V E) → None ≡ need_at (access_of n c) → AllowsAlike eq desk w (λ v. MayMake v (access_of n c))
  needs_none n c is = by (access_of n c) is where
    by : (a : Access K V E) → None ≡ need_at a → AllowsAlike eq desk w (λ v. MayMake v a)
    by (On_table operation) is = alike_same eq desk w h (λ v. MayMake v (On_table operation)) tt
    by (On_desk made) is = absurd (cc)

pub on_true : (b : Bool) (P : Type 0) → (b ≡ true → P) → OnTrue b P
on_true true P h = h refl
on_true false P h = tt

if_none : {A : Type 0} (P : A → Type 0) (o : Option A) → o ≡ None → IfSome o P
if_none P None e = tt
if_none P (Some a) e = absurd (none-some a (sym e))

-- a call passes over a record on which its test holds, visible or not
passed : (holds visible : Bool) → holds ≡ true → not (not holds && visible) ≡ true
passed true visible e = refl
passed false visible e = absurd (false≢true e)

module _ {K V E : Type 0} where
  -- a visit takes the answer to the own ask exactly where it needs that
  needs_taking : (made : Visit K V E) → takes_answer made ≡ needs_answer (need_of made)
  needs_taking (visit.TakeTold n) = refl
  needs_taking _ = refl

  pub taking_needs : (a : Access K V E) (need : Need K) → Some need ≡ need_at a → is_taking a ≡ needs_answer need
  taking_needs (On_table operation) need is = absurd (cc)
  taking_needs (On_desk made) need is = needs_taking made ∙ ap needs_answer (sym (same_Some need (need_of made) is))

  pub taking_none : (a : Access K V E) → None ≡ need_at a → is_taking a ≡ false
  taking_none (On_table operation) is = refl
  taking_none (On_desk made) is = absurd (cc)

  -- a call's next access takes the answer to its own ask where its plan does
  told_item : (n : ℕ) (ids : Option (List (ℕ × ℕ))) (item : Item K V E) (rest : List (Item K V E)) → is_taking (access_for n ids item) ≡ takes_told (item ∷ rest)
  told_item n ids (plan.Told load) rest = refl
  told_item n ids (plan.Told_op compute pair) rest = refl
  told_item n ids _ rest = refl

  pub told_at : (n : ℕ) (c : Call K V E) → is_taking (access_of n c) ≡ takes_told c.plan
  told_at n c = by c.plan where
    by : (items : List (Item K V E)) → is_taking (access_of n (record c { plan = items })) ≡ takes_told items
    by [] = refl
    by (item ∷ rest) = told_item n c.carried item rest

  -- a call's next access asks the test that its plan does
  tested_item : (n : ℕ) (ids : Option (List (ℕ × ℕ))) (item : Item K V E) (rest : List (Item K V E)) → tested_by (access_for n ids item) ≡ tested_in (item ∷ rest)
  tested_item n ids (plan.Judge aim key found) rest = refl
  tested_item n ids _ rest = refl

  pub tested_at : (n : ℕ) (c : Call K V E) → tested_by (access_of n c) ≡ tested_in c.plan
  tested_at n c = by c.plan where
    by : (items : List (Item K V E)) → tested_by (access_of n (record c { plan = items })) ≡ tested_in items
    by [] = refl
    by (item ∷ rest) = tested_item n c.carried item rest

  -- an access that takes no answer to the own ask, and asks no test, takes none
  found_none : (made : Visit K V E) (f : Found V E) → takes_answer made ≡ false → tested_made made ≡ None → TookSuch made f NoAnswer
  found_none (visit.TakeTold n) f untaken untested = absurd (false≢true (sym untaken))
  found_none (visit.Judge replace key stored) f untaken untested = if_none (TestedSuch f NoAnswer) (tested_made {E = E} (visit.Judge replace key stored)) untested
  found_none _ f untaken untested = tt

  pub took_none : (a : Access K V E) (given : Got K V E) → is_taking a ≡ false → tested_by a ≡ None → TookBy a given NoAnswer
  took_none (On_table operation) given untaken untested = tt
  took_none (On_desk made) (got.Table turn) untaken untested = tt
  took_none (On_desk made) (got.Desk f) untaken untested = found_none made f untaken untested

  -- one of a call takes the answer that is there
  found_told : (w : DeskPart K V E) (n : ℕ) (told : Told V E) (made : Visit K V E) → IsOfCall n made → takes_answer made ≡ true → w.told n ≡ Some told
      → TookSuch made (finds w made) (λ t. t ≡ Answered told)
  found_told w n told (visit.TakeTold m) own taking there = subst (λ (o : Option (Told V E)). IfSome o (λ t. Answered t ≡ Answered told)) (sym (ap w.told own ∙ there)) refl
  found_told w n told _ own taking there = absurd (false≢true taking)

  pub took_told : (eq : K → K → Bool) (n : ℕ) (w : World K V E) (told : Told V E) (a : Access K V E) (given : Got K V E) (after : World K V E) → OfCall n a → is_taking a ≡ true → w.desk.told n ≡ Some told
      → Gets eq n w a given after → TookBy a given (λ t. t ≡ Answered told)
  took_told eq n w told (On_table operation) given after own taking there gets = absurd (false≢true taking)
  took_told eq n w told (On_desk made) (got.Table turn) after own taking there gets = absurd gets
  took_told eq n w told (On_desk made) (got.Desk found) after own taking there gets =
      subst (λ (f : Found V E). TookSuch made f (λ t. t ≡ Answered told)) (sym gets.0) (found_told w.desk n told made own taking there)

  -- one that asks the test takes what the desk's tests answer
  found_tested : (w : DeskPart K V E) (replaced : Bool) (value : V) (made : Visit K V E) → ((test : ℕ) (key : K) (v : V) → w.tests test key v ≡ replaced) → tested_made made ≡ Some value
      → TookSuch made (finds w made) (λ t. t ≡ Tested value replaced)
  found_tested w replaced value (visit.Judge (Some test) key stored) answers is =
      let made : V → Taken V E = λ v. Tested v replaced in (
        replaced,
        ap made (same_Some stored.value value is),
        λ holds. passed (w.tests test key stored.value) (is_visible w.rules (times_at w stored.stamp stored.modified) (is_hit w key stored)) (answers test key stored.value ∙ holds),
      )
  found_tested w replaced value (visit.Judge None key stored) answers is = absurd (none-some value is)
  found_tested w replaced value (visit.TakeTold n) answers is = absurd (none-some value is)
  found_tested w replaced value _ answers is = absurd (none-some value is)

  pub took_tested : (eq : K → K → Bool) (n : ℕ) (w : World K V E) (replaced : Bool) (value : V) (a : Access K V E) (given : Got K V E) (after : World K V E)
      → ((test : ℕ) (key : K) (v : V) → w.desk.tests test key v ≡ replaced) → tested_by a ≡ Some value → Gets eq n w a given after → TookBy a given (λ t. t ≡ Tested value replaced)
  took_tested eq n w replaced value (On_table operation) given after answers is gets = absurd (none-some value is)
  took_tested eq n w replaced value (On_desk made) (got.Table turn) after answers is gets = absurd gets
  took_tested eq n w replaced value (On_desk made) (got.Desk found) after answers is gets =
      subst (λ (f : Found V E). TookSuch made f (λ t. t ≡ Tested value replaced)) (sym gets.0) (found_tested w.desk replaced value made answers is)

pub on_true_so : (b : Bool) (P Q : Type 0) → (P → Q) → OnTrue b P → OnTrue b Q
on_true_so true P Q h p = h p
on_true_so false P Q h p = tt

pub none_there : {A : Type 0} (o : Option A) → is_some o ≡ false → o ≡ None
none_there None e = refl
none_there (Some a) e = absurd (false≢true (sym e))
