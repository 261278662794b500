-- Which calls carry predicates: maintenance that walks, and no other.
use Rattle.std.proofs.Common.{◌≡◌, ◌≢◌, ℕ, zero, suc, ◌+◌, Bool, true, false, List, [], ◌∷◌, ◌++◌, map, Option, Some, None, refl, sym, ◌∙◌, subst}
use Rattle.moka_hist.specs.Maintenance.{carrying}
use Rattle.moka_hist.specs.Next.{Next, goes}
use Rattle.moka_hist.specs.Plan.{Item, Removal, get_plan, insert_plan, is_disabled, iter_plan, lists_from, load_plan, or_insert_plan, pending_plan, plan_of, seek, under_lock}
use Rattle.moka_hist.specs.Plan as plan
use Rattle.moka_hist.specs.Run.{fresh_call}
use Rattle.moka_hist.specs.State.{Call, Division, World}
use Rattle.moka_hist.specs.declared.events.Start.{Start}
use Rattle.moka_hist.specs.declared.events.Start.TheVariants as start
use Rattle.moka_hist.specs.declared.loads.Kind.TheVariants as kind
use Rattle.moka_hist.specs.declared.loads.Sought.{Sought}
use Rattle.moka_hist.specs.declared.replies.Answer.TheVariants as answer
use Rattle.moka_hist.specs.declared.records.Stored.{Stored}
use Rattle.moka_hist.specs.declared.rules.Rules.{Rules}
use Rattle.moka_laws.proofs.NoWalks.{CarriesSame, on_calm, on_carries, walking}
use Rattle.moka_laws.proofs.Outcomes.{outcomes}
use Rattle.moka_laws.proofs.Rules.{put_plans}
use Rattle.moka_laws.proofs.StepCases.{OnStep, both_step, more_step}
use Rattle.moka_laws.proofs.Walks.{Applies, Applies_first, Comes, Comes_not, Comes_on, Comes_to, Ends_first, Ends_turn, Gathers, Hears, IsComing, Posts, Shows, ShowsIf, Takes_turn, Turns, on_coming, on_shows, walk_shows}
use Rattle.moka_laws.proofs.Weights.{weigh, weigh_call}

module _ {K V E : Type 0} where
  -- what maintenance has still to do for the predicates that it carries: to list parts, to look keys up,
  -- to strike those that hide a record, and to let the others go
  pub data IsRetiring : List (Item K V E) → Type 0 where
    Retiring : IsRetiring (plan.Retire ∷ [])
    Listing : (part : ℕ) (rest : List (Item K V E)) → IsRetiring rest → IsRetiring (plan.List_keys part ∷ rest)
    Finding : (key : K) (rest : List (Item K V E)) → IsRetiring rest → IsRetiring (plan.Find key ∷ rest)
    Striking : (there : K) (found : Stored V) (rest : List (Item K V E)) → IsRetiring rest →
        IsRetiring (plan.Strike there found ∷ rest)

  pub lists_retire : (part left : ℕ) → IsRetiring (lists_from part left (plan.Retire ∷ []))
  lists_retire part zero = Retiring
  lists_retire part (suc left) = Listing part _ (lists_retire (part + 1) left)

  pub finds_retire : (keys : List K) (rest : List (Item K V E)) → IsRetiring rest → IsRetiring (map plan.Find keys ++ rest)
  finds_retire [] rest r = r
  finds_retire (key ∷ keys) rest r = Finding key _ (finds_retire keys rest r)

  -- How maintenance stands: it is to choose predicates, or carries some.
  pub data Tended (d : Division K) (c : Call K V E) : Type 0 where
    Coming : (parts : ℕ) → IsComing parts c.plan → parts ≡ d.parts → c.carried ≡ None → Tended d c
    Choosing : (parts : ℕ) → c.plan ≡ plan.Candidates parts ∷ [] → parts ≡ d.parts → c.carried ≡ None → Tended d c
    Carrying : (ids : List (ℕ × ℕ)) → c.carried ≡ Some ids → IsRetiring c.plan → Tended d c

  abbrev pub TendedIf : Division K → Option (Call K V E) → Type 0
  TendedIf d None = Unit {0}
  TendedIf d (Some c) = Tended d c

  -- How a call stands: it doesn't walk, or its walk gives records, or it is maintenance.
  pub data Laden (d : Division K) (c : Call K V E) : Type 0 where
    Free : weigh walking c.plan ≡ 0 → c.carried ≡ None → Laden d c
    Showing : Shows c → Laden d c
    Tending : Tended d c → Laden d c

  abbrev pub LadenIf : Division K → Option (Call K V E) → Type 0
  LadenIf d None = Unit {0}
  LadenIf d (Some c) = Laden d c

  free_if : (d : Division K) (c : Call K V E) (left : Option (Call K V E)) → c.carried ≡ None → weigh_call walking left ≡ 0 → CarriesSame c left →
      LadenIf d left
  free_if d c None none calm same = tt
  free_if d c (Some b) none calm same = Free calm (same ∙ none)

  shows_if : (d : Division K) (left : Option (Call K V E)) → ShowsIf left → LadenIf d left
  shows_if d None h = tt
  shows_if d (Some b) h = Showing h

  tends_if : (d : Division K) (left : Option (Call K V E)) → TendedIf d left → LadenIf d left
  tends_if d None h = tt
  tends_if d (Some b) h = Tending h

  goes_coming : (d : Division K) (c : Call K V E) (parts : ℕ) → c.carried ≡ None → parts ≡ d.parts → (p : List (Item K V E)) → IsComing parts p →
      TendedIf d (goes c p).left
  goes_coming d c parts none same p Gathers = Coming parts Gathers same none
  goes_coming d c parts none same p (Hears number held) = Coming parts (Hears number held) same none
  goes_coming d c parts none same p (Posts held) = Coming parts (Posts held) same none
  goes_coming d c parts none same p (Takes_turn held) = Coming parts (Takes_turn held) same none
  goes_coming d c parts none same p (Applies_first held) = Coming parts (Applies_first held) same none
  goes_coming d c parts none same p (Ends_first held) = Coming parts (Ends_first held) same none
  goes_coming d c parts none same p Turns = Coming parts Turns same none
  goes_coming d c parts none same p Applies = Coming parts Applies same none
  goes_coming d c parts none same p Ends_turn = Coming parts Ends_turn same none

  comes_tended : (d : Division K) (c : Call K V E) (parts : ℕ) → c.carried ≡ None → parts ≡ d.parts → IsComing parts c.plan → (next : Next K V E) →
      Comes parts c next → TendedIf d next.left
  comes_tended d c parts none same coming next (Comes_on rest more) = goes_coming d c parts none same rest more
  comes_tended d c parts none same coming next Comes_to = Choosing parts refl same none
  comes_tended d c parts none same coming next Comes_not = Coming parts coming same none

  goes_carrying : (d : Division K) (c : Call K V E) (ids : List (ℕ × ℕ)) → c.carried ≡ Some ids → (p : List (Item K V E)) → IsRetiring p →
      TendedIf d (goes c p).left
  goes_carrying d c ids is p Retiring = Carrying ids is Retiring
  goes_carrying d c ids is p (Listing part rest r) = Carrying ids is (Listing part rest r)
  goes_carrying d c ids is p (Finding key rest r) = Carrying ids is (Finding key rest r)
  goes_carrying d c ids is p (Striking there found rest r) = Carrying ids is (Striking there found rest r)

-- no item of the plan is one of a walk
abbrev NoWalk : {K V E : Type 0} → List (Item K V E) → Type 0
NoWalk p = weigh walking p ≡ 0

some_none : {A : Type 0} {x : A} → Some x ≡ None → ⊥
some_none e = cc

module _ {K V E : Type 0} (eq : K → K → Bool) (d : Division K) (w : World K V E) (n : ℕ) (c : Call K V E) where
  abbrev Tends : World K V E → Next K V E → Type 0
  Tends new next = TendedIf d next.left

  abbrev Calm : World K V E → Next K V E → Type 0
  Calm new next = weigh_call walking next.left ≡ 0

  abbrev Same : World K V E → Next K V E → Type 0
  Same new next = CarriesSame c next.left

  abbrev Left : World K V E → Next K V E → Type 0
  Left new next = LadenIf d next.left

  carrying_on : (ids : List (ℕ × ℕ)) → c.carried ≡ Some ids → (p : List (Item K V E)) → c.plan ≡ p → IsRetiring p → OnStep eq Tends w n c p
  carrying_on ids is p e Retiring = outcomes eq Tends w n c plan.Retire [] tt
  carrying_on ids is p e (Listing part rest r) = outcomes eq Tends w n c (plan.List_keys part) rest (
    λ more. Carrying ids is (subst IsRetiring (sym e) (Listing part rest r)),
    λ listed keys begun gives. goes_carrying d c ids is (map plan.Find keys ++ rest) (finds_retire keys rest r),
  )
  carrying_on ids is p e (Finding key rest r) = outcomes eq Tends w n c (plan.Find key) rest (
    λ more. Carrying ids is (subst IsRetiring (sym e) (Finding key rest r)),
    λ none. goes_carrying d c ids is rest r,
    λ there stored some none. absurd (some_none (sym is ∙ none)),
    λ there stored others some same. Carrying ids is (Striking there stored rest r),
  )
  carrying_on ids is p e (Striking there found rest r) =
      outcomes eq Tends w n c (plan.Strike there found) rest (goes_carrying d (carrying c _) _ refl rest r)

  -- maintenance goes on so
  pub tended_on : Tended d c → OnStep eq Tends w n c c.plan
  tended_on (Coming parts coming same none) =
      on_coming eq Tends w n c parts c.plan coming (λ e spares next comes. comes_tended d c parts none same coming next comes)
  tended_on (Choosing parts is same none) = subst (OnStep eq Tends w n c) (sym is) (outcomes eq Tends w n c (plan.Candidates parts) [] (
    λ over. tt,
    λ id more some. goes_carrying d (carrying c (id ∷ more)) (id ∷ more) refl (lists_from 0 parts (plan.Retire ∷ [])) (lists_retire 0 parts),
  ))
  tended_on (Carrying ids is r) = carrying_on ids is c.plan refl r

  -- so does each call
  pub laden_on : Laden d c → OnStep eq Left w n c c.plan
  laden_on (Free calm none) = both_step eq Calm Same Left (λ new next f g. free_if d c next.left none f g) w n c c.plan
      (on_calm eq w n c c.plan refl calm) (on_carries eq w n c c.plan refl calm)
  laden_on (Showing shows) = more_step eq (λ (new : World K V E) (next : Next K V E). ShowsIf next.left) Left
      (λ new next h. shows_if d next.left h) w n c c.plan (on_shows eq w n c shows)
  laden_on (Tending tended) = more_step eq Tends Left (λ new next h. tends_if d next.left h) w n c c.plan (tended_on tended)

-- ---- fresh calls

loads_calm : {K : Type 0} (V E : Type 0) (b : Bool) (sought : Sought K) → NoWalk {K = K} {V = V} {E = E} (load_plan b sought)
loads_calm V E true sought = refl
loads_calm V E false sought = refl

out_calm : {K : Type 0} (V E : Type 0) (b : Bool) (removal : Removal K) (key : K) →
    NoWalk {K = K} {V = V} {E = E} (plan.Drain ∷ under_lock b key (plan.Moment (plan.To_take_out removal key) ∷ []))
out_calm V E true removal key = refl
out_calm V E false removal key = refl

-- so of a call that is started for something else
pub fresh_calm : {K V : Type 0} (E : Type 0) (parts : ℕ) (rules : Rules) (begin : Start K V) → begin ≢ start.Iter →
    begin ≢ start.Pending → NoWalk {K = K} {V = V} {E = E} (plan_of parts rules begin)
fresh_calm {K = K} {V = V} E parts rules (start.Get key) other apart = by (is_disabled rules)
  where
    by : (b : Bool) → NoWalk {K = K} {V = V} {E = E} (get_plan b key)
    by true = refl
    by false = refl
fresh_calm {K = K} {V = V} E parts rules (start.Insert key value) other apart = by (is_disabled rules)
  where
    by : (b : Bool) → NoWalk {K = K} {V = V} {E = E} (insert_plan b rules key value)
    by true = refl
    by false = put_plans (NoWalk {K = K} {V = V} {E = E}) rules key value (plan.Reply answer.Done ∷ []) refl refl
fresh_calm {V = V} E parts rules (start.GetWith key replace) other apart = loads_calm V E (is_disabled rules) (seek kind.GetWith key replace)
fresh_calm {V = V} E parts rules (start.Optional key) other apart = loads_calm V E (is_disabled rules) (seek kind.Optional key None)
fresh_calm {V = V} E parts rules (start.Try key) other apart = loads_calm V E (is_disabled rules) (seek kind.Try key None)
fresh_calm {K = K} {V = V} E parts rules (start.OrInsert key value) other apart = by (is_disabled rules)
  where
    by : (b : Bool) → NoWalk {K = K} {V = V} {E = E} (or_insert_plan b key value)
    by true = refl
    by false = refl
fresh_calm {V = V} E parts rules (start.Invalidate key) other apart = out_calm V E rules.listener plan.To_invalidate key
fresh_calm {V = V} E parts rules (start.Remove key) other apart = out_calm V E rules.listener plan.To_remove key
fresh_calm {K = K} {V = V} E parts rules (start.Evict key stamp cause) other apart = by rules.listener
  where
    by : (b : Bool) → NoWalk {K = K} {V = V} {E = E} (under_lock b key (plan.Get (plan.To_evict key stamp cause) key ∷ []))
    by true = refl
    by false = refl
fresh_calm E parts rules start.Iter other apart = absurd (other refl)
fresh_calm E parts rules start.Pending other apart = absurd (apart refl)
fresh_calm E parts rules _ other apart = refl

-- a fresh call carries nothing
pub fresh_laden : {K V E : Type 0} (d : Division K) (rules : Rules) (begin : Start K V) → Laden {E = E} d (fresh_call d.parts rules begin)
fresh_laden {K} {V} {E} d rules start.Iter = by (is_disabled rules)
  where
    by : (b : Bool) → Laden {K = K} {V = V} {E = E} d (record (fresh_call d.parts rules start.Iter) { plan = iter_plan b d.parts })
    by true = Free refl refl
    by false = Showing (record { walk = walk_shows 0 d.parts; free = refl })
fresh_laden {K} {V} {E} d rules start.Pending = by (is_disabled rules)
  where
    by : (b : Bool) → Laden {K = K} {V = V} {E = E} d (record (fresh_call d.parts rules start.Pending) { plan = pending_plan b d.parts })
    by true = Free refl refl
    by false = Tending (Coming d.parts Gathers refl refl)
fresh_laden {E = E} d rules begin = Free (fresh_calm E d.parts rules begin (λ e. cc) (λ e. cc)) refl
