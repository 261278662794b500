-- A call that wasn't started to walk gives no record, whatever it is given.
use Rattle.std.proofs.Common.{◌≡◌, ◌≢◌, ℕ, Bool, true, false, List, [], ◌∷◌, None, refl, sym, subst, arith, Option, Some, map, ◌++◌, ap, ◌∙◌}
use Rattle.moka_hist.specs.State.{Call, World}
use Rattle.moka_hist.specs.Plan.{Item, is_disabled, pending_plan, lists_from}
use Rattle.moka_hist.specs.Plan as plan
use Rattle.moka_hist.specs.Run.{fresh_call}
use Rattle.moka_hist.specs.Step.{next_of}
use Rattle.moka_hist.specs.declared.accesses.Got.{Got}
use Rattle.moka_hist.specs.declared.accesses.Turn.TheVariants as turn
use Rattle.moka_hist.specs.declared.events.Start.TheVariants as start
use Rattle.moka_hist.specs.declared.replies.Answer.TheVariants as answer
use Rattle.moka_hist.specs.declared.rules.Rules.{Rules}
use Rattle.moka_laws.specs.Shapes.{MayBeGiven, MayLead}
use Rattle.moka_laws.proofs.NoWalks.{on_calm, on_silent, walking}
use Rattle.moka_laws.proofs.StepCases.{by_plan, OnStep}
use Rattle.moka_laws.proofs.Weights.{weigh, weigh_call}
use Rattle.moka_shapes.specs.Walks.{OthersGiveNone}
use Rattle.moka_hist.specs.Maintenance.{carrying}
use Rattle.moka_hist.specs.Next.{Next, goes}
use Rattle.moka_laws.proofs.Outcomes.{outcomes}
use Rattle.moka_laws.proofs.Walks.{Applies, Applies_first, Chooses, Comes, Comes_not, Comes_on, Comes_to, Ends, Ends_first, Ends_turn, Finds, Gathers, Hears, IsComing, IsWalk, Lists, Posts, Retires, Scans, Strikes, Takes_turn, Turns, finds_walk, on_coming, retiring_walk, weigh_finds, weigh_retiring}
use Rattle.moka_laws.proofs.Laden.{fresh_calm}

-- no item of the plan is one of a walk
abbrev IsCalm : {K V E : Type 0} → List (Item K V E) → Type 0
IsCalm p = weigh walking p ≡ 0

module _ {K V E : Type 0} (eq : K → K → Bool) (n : ℕ) where
  -- it stays so along its way
  path_calm : (path : List (Got K V E)) (c d : Call K V E) → IsCalm c.plan → MayLead eq n c path d → IsCalm d.plan
  path_calm [] c d calm led = subst (λ (v : Call K V E). IsCalm v.plan) (sym led) calm
  path_calm (given ∷ more) c d calm led =
      let gives : MayBeGiven eq n c given = led.1 in
      path_calm more led.0 d (subst (λ v. weigh_call walking v ≡ 0) led.2
      (by_plan eq (λ w next. weigh_call walking next.left ≡ 0) gives.world n c.rules c.mode c.plan c.aborts c.carried given gives.after gives.gets
      (on_calm eq gives.world n c c.plan refl calm))) led.3

  -- and gives none
  gives_none : (c : Call K V E) (given : Got K V E) (key : K) (value : V) → IsCalm c.plan → MayBeGiven eq n c given →
      (next_of n c given).turn ≢ turn.Item key value
  gives_none c given key value calm gives =
      by_plan eq (λ w next. (k : K) (v : V) → next.turn ≡ turn.Item k v → ⊥) gives.world n c.rules c.mode c.plan c.aborts c.carried given gives.after gives.gets
      (on_silent eq gives.world n c c.plan
      (λ there found rest is. let scans : IsCalm (plan.Scan there found ∷ rest) = subst IsCalm is calm in omega (arith, scans))) key value

-- ---- maintenance

module _ {K V E : Type 0} where
  -- the item judges a record that may be given
  abbrev scanning : Item K V E → ℕ
  scanning (plan.Scan there found) = 1
  scanning _ = 0

  -- how maintenance stands, whatever it was given: it is to walk, or walks with predicates and judges
  -- nothing
  data Maintains (c : Call K V E) : Type 0 where
    Coming : (parts : ℕ) → IsComing parts c.plan → Maintains c
    Choosing : (parts : ℕ) → c.plan ≡ plan.Candidates parts ∷ [] → Maintains c
    Walking : (ids : List (ℕ × ℕ)) → c.carried ≡ Some ids → IsWalk c.plan → weigh scanning c.plan ≡ 0 → Maintains c
    Over : c.plan ≡ plan.Reply answer.Done ∷ [] → Maintains c

  abbrev MaintainsIf : Option (Call K V E) → Type 0
  MaintainsIf None = Unit {0}
  MaintainsIf (Some c) = Maintains c

  goes_walking : (c : Call K V E) (ids : List (ℕ × ℕ)) → c.carried ≡ Some ids → (p : List (Item K V E)) → IsWalk p → weigh scanning p ≡ 0 →
      MaintainsIf (goes c p).left
  goes_walking c ids is p Ends none = tt
  goes_walking c ids is p Retires none = Walking ids is Retires none
  goes_walking c ids is p (Chooses parts) none = Walking ids is (Chooses parts) none
  goes_walking c ids is p (Lists part rest walk) none = Walking ids is (Lists part rest walk) none
  goes_walking c ids is p (Finds key rest walk) none = Walking ids is (Finds key rest walk) none
  goes_walking c ids is p (Scans there found rest walk) none = absurd (omega (arith, none))
  goes_walking c ids is p (Strikes there found rest walk) none = Walking ids is (Strikes there found rest walk) none

  goes_coming : (c : Call K V E) (parts : ℕ) (p : List (Item K V E)) → IsComing parts p → MaintainsIf (goes c p).left
  goes_coming c parts p Gathers = Coming parts Gathers
  goes_coming c parts p (Hears number held) = Coming parts (Hears number held)
  goes_coming c parts p (Posts held) = Coming parts (Posts held)
  goes_coming c parts p (Takes_turn held) = Coming parts (Takes_turn held)
  goes_coming c parts p (Applies_first held) = Coming parts (Applies_first held)
  goes_coming c parts p (Ends_first held) = Coming parts (Ends_first held)
  goes_coming c parts p Turns = Coming parts Turns
  goes_coming c parts p Applies = Coming parts Applies
  goes_coming c parts p Ends_turn = Coming parts Ends_turn

  coming_scans : (parts : ℕ) (p : List (Item K V E)) → IsComing parts p → weigh scanning p ≡ 0
  coming_scans parts p Gathers = refl
  coming_scans parts p (Hears number held) = refl
  coming_scans parts p (Posts held) = refl
  coming_scans parts p (Takes_turn held) = refl
  coming_scans parts p (Applies_first held) = refl
  coming_scans parts p (Ends_first held) = refl
  coming_scans parts p Turns = refl
  coming_scans parts p Applies = refl
  coming_scans parts p Ends_turn = refl

  -- it judges no record
  judges_none : (c : Call K V E) → Maintains c → weigh scanning c.plan ≡ 0
  judges_none c (Coming parts coming) = coming_scans parts c.plan coming
  judges_none c (Choosing parts is) = ap (weigh scanning) is
  judges_none c (Walking ids is walk none) = none
  judges_none c (Over is) = ap (weigh scanning) is

module _ {K V E : Type 0} (eq : K → K → Bool) (w : World K V E) (n : ℕ) (c : Call K V E) where
  abbrev After : World K V E → Next K V E → Type 0
  After new next = MaintainsIf next.left

  chooses_so : (parts : ℕ) → OnStep eq After w n c (plan.Candidates parts ∷ [])
  chooses_so parts = outcomes eq After w n c (plan.Candidates parts) [] (
    λ none. tt,
    λ id more some. goes_walking (carrying c (id ∷ more)) (id ∷ more) refl (lists_from 0 parts (plan.Retire ∷ [])) (retiring_walk parts)
        (weigh_retiring scanning (λ part. refl) refl parts),
  )

  comes_so : (parts : ℕ) → IsComing parts c.plan → (next : Next K V E) → Comes parts c next → MaintainsIf next.left
  comes_so parts coming next (Comes_on rest more) = goes_coming c parts rest more
  comes_so parts coming next Comes_to = Choosing parts refl
  comes_so parts coming next Comes_not = Coming parts coming

  walks_so : (ids : List (ℕ × ℕ)) → c.carried ≡ Some ids → (p : List (Item K V E)) → c.plan ≡ p → IsWalk p → weigh scanning p ≡ 0 →
      OnStep eq After w n c p
  walks_so ids is p e Ends none = outcomes eq After w n c (plan.Reply answer.End) [] tt
  walks_so ids is p e Retires none = outcomes eq After w n c plan.Retire [] tt
  walks_so ids is p e (Chooses parts) none = chooses_so parts
  walks_so ids is p e (Lists part rest walk) none = let less : weigh scanning rest ≡ 0 = omega (arith, none) in outcomes eq After w n c (plan.List_keys part) rest (
    λ more. Walking ids is (subst IsWalk (sym e) (Lists part rest walk)) (ap (weigh scanning) e ∙ none),
    λ listed keys begun gives. goes_walking c ids is (map plan.Find keys ++ rest) (finds_walk keys rest walk)
        (weigh_finds scanning (λ key. refl) keys rest ∙ less),
  )
  walks_so ids is p e (Finds key rest walk) none = let less : weigh scanning rest ≡ 0 = omega (arith, none) in outcomes eq After w n c (plan.Find key) rest (
    λ more. Walking ids is (subst IsWalk (sym e) (Finds key rest walk)) (ap (weigh scanning) e ∙ none),
    λ gone. goes_walking c ids is rest walk less,
    λ there stored some free. absurd (some_none (sym is ∙ free)),
    λ there stored others some carries. Walking ids is (Strikes there stored rest walk) (omega (arith, less)),
  )
    where
      some_none : {A : Type 0} {x : A} → Some x ≡ None → ⊥
      some_none f = cc
  walks_so ids is p e (Scans there found rest walk) none = absurd (omega (arith, none))
  walks_so ids is p e (Strikes there found rest walk) none = let less : weigh scanning rest ≡ 0 = omega (arith, none) in
      outcomes eq After w n c (plan.Strike there found) rest (goes_walking (carrying c _) _ refl rest walk less)

  -- how it goes on
  on_maintains : Maintains c → OnStep eq After w n c c.plan
  on_maintains (Coming parts coming) =
      on_coming eq After w n c parts c.plan coming (λ d spares next comes. comes_so parts coming next comes)
  on_maintains (Choosing parts is) = subst (OnStep eq After w n c) (sym is) (chooses_so parts)
  on_maintains (Walking ids is walk none) = walks_so ids is c.plan refl walk none
  on_maintains (Over is) = subst (OnStep eq After w n c) (sym is) (outcomes eq After w n c (plan.Reply answer.Done) [] tt)

module _ {K V E : Type 0} (eq : K → K → Bool) (n : ℕ) where
  path_maintains : (path : List (Got K V E)) (c d : Call K V E) → Maintains c → MayLead eq n c path d → Maintains d
  path_maintains [] c d i led = subst Maintains (sym led) i
  path_maintains (given ∷ more) c d i led =
      let gives : MayBeGiven eq n c given = led.1 in
      path_maintains more led.0 d (subst MaintainsIf led.2
      (by_plan eq (λ w next. MaintainsIf next.left) gives.world n c.rules c.mode c.plan c.aborts c.carried given gives.after gives.gets
      (on_maintains eq gives.world n c i))) led.3

  maintains_none : (c : Call K V E) (given : Got K V E) (key : K) (value : V) → Maintains c → MayBeGiven eq n c given →
      (next_of n c given).turn ≢ turn.Item key value
  maintains_none c given key value i gives =
      by_plan eq (λ w next. (k : K) (v : V) → next.turn ≡ turn.Item k v → ⊥) gives.world n c.rules c.mode c.plan c.aborts c.carried given gives.after gives.gets
      (on_silent eq gives.world n c c.plan
      (λ there found rest is. omega (arith, judges_none c i, ap (weigh scanning) is))) key value

begun_maintains : {K V E : Type 0} (parts : ℕ) (rules : Rules) → Maintains {K = K} {V = V} {E = E} (fresh_call parts rules start.Pending)
begun_maintains {K} {V} {E} parts rules = by (is_disabled rules)
  where
    by : (b : Bool) → Maintains {K = K} {V = V} {E = E} (record (fresh_call parts rules start.Pending) { plan = pending_plan b parts })
    by true = Over refl
    by false = Coming parts Gathers

pub others_none : {K V E : Type 0} (eq : K → K → Bool) → OthersGiveNone K V E eq
others_none {K} {V} {E} eq parts rules start.Pending n path d given key value other led gives =
    maintains_none eq n d given key value (path_maintains eq n path (fresh_call parts rules start.Pending) d (begun_maintains parts rules) led) gives
others_none {K} {V} {E} eq parts rules begin n path d given key value other led gives =
    gives_none eq n d given key value (path_calm eq n path (fresh_call parts rules begin) d (fresh_calm E parts rules begin other (λ e. cc)) led) gives
