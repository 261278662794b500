-- What the desk needs for the next visit of a live call it has.
use Rattle.std.proofs.Common.{◌≡◌, ℕ, ◌||◌, Bool, true, false, cond, List, [], ◌∷◌, Option, Some, None, is_some, IsSome, IsNone, refl, sym, ap, ◌∙◌, subst, arith, ◌≤◌}
use Rattle.moka_hist.specs.State.{State, Call, DeskPart}
use Rattle.moka_hist.specs.Plan.{Item, Aim}
use Rattle.moka_hist.specs.Plan as plan
use Rattle.moka_hist.specs.Step.{May, access_for, access_of}
use Rattle.moka_hist.specs.Run.{IsReached}
use Rattle.moka_hist.specs.Notices.{OpensNotice}
use Rattle.moka_hist.specs.declared.records.Mode.{Mode}
use Rattle.moka_hist.specs.declared.rules.Rules.{Rules}
use Rattle.moka_hist.specs.declared.loads.Load.{Load}
use Rattle.std.proofs.lemmas.Bool.{false≢true}
use Rattle.moka_laws.proofs.Counting.{none_some}
use Rattle.moka_laws.proofs.Asking.{AsksWhole, IsAsking, asking_kept, ask_open, op_open, none_asked, whole}
use Rattle.moka_laws.proofs.Holding.{IsHolding, HoldsAs, holding_kept, idle_free, freeing_free, is_unused}
use Rattle.moka_laws.proofs.Owning.{plan_left}
use Rattle.moka_laws.proofs.Roles.{Fits}
use Rattle.moka_laws.proofs.Served.{IsServed, served_kept}
use Rattle.moka_laws.proofs.Fitting.{AllFit, IsFitting, fitting_kept}
use Rattle.moka_laws.proofs.Turns.{TurnFits, IsTurning, turning_kept}
use Rattle.moka_laws.proofs.Locking.{Locks, lock_free, lock_held}
use Rattle.moka_laws.proofs.Outcomes.{computes_of}
use Rattle.moka_laws.proofs.Unsettled.{IsUnsettled, owners_unsettled, unsettled_kept}
use Rattle.moka_laws.proofs.Replacing.{IsReplacing, replacing_kept, not_opened}
use Rattle.moka_laws.proofs.Keepers.{IsKeeping, keeping_kept, keeps_none}
use Rattle.moka_laws.proofs.Kept.{IsInvariant, in_reached}
use Rattle.moka_hist.specs.Visits.{moment_of, pending_of}
use Rattle.std.specs.Option.{option_and_then}

none_is : {A : Type 0} (o : Option A) → o ≡ None → IsNone o
none_is o e = ap is_some e

module _ {K : Type 0} where
  -- a call whose plan has no item of an owner owns nothing
  owns_none : (o : Option (Load K)) → 0 ≡ cond {A = ℕ} (is_some o) 1 0 → IsNone o
  owns_none None e = refl
  owns_none (Some l) e = absurd (omega (arith, e))

module _ {K V E : Type 0} where
  either_asked : (d : DeskPart K V E) (n : ℕ) → (is_some (d.told n) ≡ false → IsSome (d.asks n)) → is_some (d.asks n) || is_some (d.told n) ≡ true
  either_asked d n opens = by (is_some (d.told n)) refl
    where
      left : (b : Bool) → is_some (d.asks n) ≡ true → is_some (d.asks n) || b ≡ true
      left b e = ap (λ v. v || b) e

      right : (a : Bool) → a || true ≡ true
      right true = refl
      right false = refl

      by : (t : Bool) → is_some (d.told n) ≡ t → is_some (d.asks n) || is_some (d.told n) ≡ true
      by false e = left (is_some (d.told n)) (opens e)
      by true e = ap (λ v. is_some (d.asks n) || v) e ∙ right (is_some (d.asks n))

  -- What is known of a live call with this plan.
  record Stands (d : DeskPart K V E) (n : ℕ) (plan : List (Item K V E)) : Type 0 where
    holds : HoldsAs n (d.holding n) plan
    fits : Fits (d.owning n) (d.joined n) plan
    asks : AsksWhole d n plan
    turns : TurnFits d.turn n plan
    locks : Locks d.rules.listener (d.locked n) plan

module _ {K V E : Type 0} (eq : K → K → Bool) where
  -- What is known of a state by the plans of its calls.
  pub record IsWell (s : State K V E) : Type 0 where
    pub holding : IsHolding s
    pub served : IsServed eq s
    pub fitting : IsFitting eq s
    pub unsettled : IsUnsettled s
    pub asking : IsAsking s
    pub turning : IsTurning s
    pub replacing : IsReplacing s
    pub keeping : IsKeeping s

  pub well_kept : IsInvariant eq IsWell
  well_kept = record {
    fresh = λ division divides rules size built has_log. record {
      holding = (holding_kept eq).fresh division divides rules size built has_log;
      served = (served_kept eq).fresh division divides rules size built has_log;
      fitting = (fitting_kept eq).fresh division divides rules size built has_log;
      unsettled = (unsettled_kept eq).fresh division divides rules size built has_log;
      asking = (asking_kept eq).fresh division divides rules size built has_log;
      turning = (turning_kept eq).fresh division divides rules size built has_log;
      replacing = (replacing_kept eq).fresh division divides rules size built has_log;
      keeping = (keeping_kept eq).fresh division divides rules size built has_log;
    };
    at = λ s moment i. record {
      holding = (holding_kept eq).at s moment i.holding;
      served = (served_kept eq).at s moment i.served;
      fitting = (fitting_kept eq).at s moment i.fitting;
      unsettled = (unsettled_kept eq).at s moment i.unsettled;
      asking = (asking_kept eq).at s moment i.asking;
      turning = (turning_kept eq).at s moment i.turning;
      replacing = (replacing_kept eq).at s moment i.replacing;
      keeping = (keeping_kept eq).at s moment i.keeping;
    };
    start = λ s start i. record {
      holding = (holding_kept eq).start s start i.holding;
      served = (served_kept eq).start s start i.served;
      fitting = (fitting_kept eq).start s start i.fitting;
      unsettled = (unsettled_kept eq).start s start i.unsettled;
      asking = (asking_kept eq).start s start i.asking;
      turning = (turning_kept eq).start s start i.turning;
      replacing = (replacing_kept eq).start s start i.replacing;
      keeping = (keeping_kept eq).start s start i.keeping;
    };
    step = λ s t n turn i step. record {
      holding = (holding_kept eq).step s t n turn i.holding step;
      served = (served_kept eq).step s t n turn i.served step;
      fitting = (fitting_kept eq).step s t n turn i.fitting step;
      unsettled = (unsettled_kept eq).step s t n turn i.unsettled step;
      asking = (asking_kept eq).step s t n turn i.asking step;
      turning = (turning_kept eq).step s t n turn i.turning step;
      replacing = (replacing_kept eq).step s t n turn i.replacing step;
      keeping = (keeping_kept eq).step s t n turn i.keeping step;
    };
    tell = λ s n given asked i. record {
      holding = (holding_kept eq).tell s n given asked i.holding;
      served = (served_kept eq).tell s n given asked i.served;
      fitting = (fitting_kept eq).tell s n given asked i.fitting;
      unsettled = (unsettled_kept eq).tell s n given asked i.unsettled;
      asking = (asking_kept eq).tell s n given asked i.asking;
      turning = (turning_kept eq).tell s n given asked i.turning;
      replacing = (replacing_kept eq).tell s n given asked i.replacing;
      keeping = (keeping_kept eq).tell s n given asked i.keeping;
    };
    hear = λ s n off running i. record {
      holding = (holding_kept eq).hear s n off running i.holding;
      served = (served_kept eq).hear s n off running i.served;
      fitting = (fitting_kept eq).hear s n off running i.fitting;
      unsettled = (unsettled_kept eq).hear s n off running i.unsettled;
      asking = (asking_kept eq).hear s n off running i.asking;
      turning = (turning_kept eq).hear s n off running i.turning;
      replacing = (replacing_kept eq).hear s n off running i.replacing;
      keeping = (keeping_kept eq).hear s n off running i.keeping;
    };
    drop = λ s n c live between i. record {
      holding = (holding_kept eq).drop s n c live between i.holding;
      served = (served_kept eq).drop s n c live between i.served;
      fitting = (fitting_kept eq).drop s n c live between i.fitting;
      unsettled = (unsettled_kept eq).drop s n c live between i.unsettled;
      asking = (asking_kept eq).drop s n c live between i.asking;
      turning = (turning_kept eq).drop s n c live between i.turning;
      replacing = (replacing_kept eq).drop s n c live between i.replacing;
      keeping = (keeping_kept eq).drop s n c live between i.keeping;
    };
  }

  pub in_well : (s : State K V E) → IsReached eq s → IsWell s
  in_well s h = in_reached eq IsWell well_kept s h

module _ {K V E : Type 0} (eq : K → K → Bool) (s : State K V E) (well : IsWell eq s) where
  -- a call that has taken a moment is live, and was given its number
  pub pending_started : (n moment : ℕ) → pending_of s.world.desk n ≡ Some moment → n ≤ s.world.desk.last
  pending_started n moment e = by (s.calls n) refl
    where
      by : (o : Option (Call K V E)) → s.calls n ≡ o → n ≤ s.world.desk.last
      by (Some c) live = well.holding.balanced.numbered n c live
      by None gone =
          let none : s.world.desk.holding n ≡ None = subst (λ v. HoldsAs n (s.world.desk.holding n) (plan_left v)) gone (well.holding.holds n) in
          absurd (none_some (sym (ap (option_and_then moment_of) none) ∙ e))

module _ {K V E : Type 0} (eq : K → K → Bool) (s : State K V E) (well : IsWell eq s) (n : ℕ) (c : Call K V E) (live : s.calls n ≡ Some c) where
  abbrev May_for : Item K V E → Type 0
  May_for item = May s.world (access_for n c.carried item)

  may_item : (item : Item K V E) (rest : List (Item K V E)) → c.plan ≡ item ∷ rest → Stands s.world.desk n (item ∷ rest) → May_for item
  may_item plan.Drain rest e k = none_is _ k.holds.0
  may_item (plan.Lock key) rest e k = (lock_free _ (s.world.desk.locked n) key rest k.locks, keeps_none s well.keeping n c live)
  may_item (plan.Unlock true) rest e k =
      (lock_held _ (s.world.desk.locked n) true rest k.locks, λ not. absurd (false≢true (sym not)))
  may_item (plan.Unlock false) rest e k = (
    lock_held _ (s.world.desk.locked n) false rest k.locks,
    λ not write. freeing_free eq n (s.world.desk.holding n) rest write k.holds,
  )
  may_item (plan.Notice key old cause upsert) rest e k =
      none_is _ (not_opened s well.replacing n c live (subst OpensNotice (sym e) tt))
  may_item (plan.Post write) rest e k = k.holds.0
  may_item plan.Turn rest e k = λ has. k.turns.has has
  may_item plan.Apply rest e k = k.turns.applies k.turns.first
  may_item plan.End rest e k = k.turns.applies k.turns.first
  may_item (plan.Own sought) rest e k =
      let alone : Fits (s.world.desk.owning n) (s.world.desk.joined n) (plan.Own sought ∷ []) =
      subst (λ v. Fits (s.world.desk.owning n) (s.world.desk.joined n) (plan.Own sought ∷ v)) k.fits.last k.fits in
      (owns_none (s.world.desk.owning n) alone.owning, alone.waiting, owners_unsettled eq s well.unsettled well.served sought.load)
  may_item (plan.Own_key compute) rest e k =
      let alone : Fits (s.world.desk.owning n) (s.world.desk.joined n) (plan.Own_key compute ∷ []) =
      subst (λ v. Fits (s.world.desk.owning n) (s.world.desk.joined n)
      (plan.Own_key compute ∷ v)) k.fits.last k.fits in
      (owns_none (s.world.desk.owning n) alone.owning, alone.waiting, owners_unsettled eq s well.unsettled well.served (computes_of compute.key))
  may_item (plan.Own_alone key) rest e k =
      let alone : Fits (s.world.desk.owning n) (s.world.desk.joined n) (plan.Own_alone key ∷ []) =
      subst (λ v. Fits (s.world.desk.owning n) (s.world.desk.joined n)
      (plan.Own_alone key ∷ v)) k.fits.last k.fits in
      (owns_none (s.world.desk.owning n) alone.owning, alone.waiting)
  may_item (plan.Read sought) rest e k = k.fits.waiting
  may_item (plan.Read_key compute) rest e k = k.fits.waiting
  may_item (plan.Settle with) rest e k =
      (subst (AllFit (s.world.desk.owning n)) e (well.fitting.fit n c live)).0
  may_item (plan.Ask load) rest e k =
      let alone : AsksWhole s.world.desk n (plan.Ask load ∷ []) = subst (λ v. AsksWhole s.world.desk n (plan.Ask load ∷ v)) k.fits.last k.asks in
      none_asked s.world.desk n (plan.Ask load ∷ []) alone.asked refl
  may_item (plan.Ask_op compute pair) rest e k =
      let alone : AsksWhole s.world.desk n (plan.Ask_op compute pair ∷ []) = subst (λ v. AsksWhole s.world.desk n (plan.Ask_op compute pair ∷ v)) k.fits.last k.asks in
      none_asked s.world.desk n (plan.Ask_op compute pair ∷ []) alone.asked refl
  may_item (plan.Told load) rest e k = either_asked s.world.desk n (ask_open s.world.desk n load rest k.asks)
  may_item (plan.Told_op compute pair) rest e k =
      either_asked s.world.desk n (op_open s.world.desk n compute pair rest k.asks)
  may_item (plan.Moment change) rest e k =
      let free = is_unused eq s well.holding n c change rest live e in
      (none_is _ free.0, free.1)
  may_item plan.Idle rest e k = λ write. idle_free eq n (s.world.desk.holding n) rest write k.holds
  may_item (plan.Reply answer) rest e k = λ write is. none_some (sym k.holds.0 ∙ is)
  may_item _ rest e k = tt

  stands : Stands s.world.desk n c.plan
  stands = record {
    holds = subst (λ v. HoldsAs n (s.world.desk.holding n) (plan_left v)) live (well.holding.holds n);
    fits = subst (λ v. Fits (s.world.desk.owning n) (s.world.desk.joined n) (plan_left v)) live (well.served.fits n);
    asks = whole s well.asking n c live;
    turns = subst (λ v. TurnFits s.world.desk.turn n (plan_left v)) live (well.turning.fits n);
    locks = subst (λ v. Locks s.world.desk.rules.listener (s.world.desk.locked n) (plan_left v)) live (well.replacing.locking.locks n);
  }

  by_plan : (rules : Rules) (mode : Mode) (plan : List (Item K V E)) (aborts : ℕ) →
      c.plan ≡ plan → May s.world (access_of n (record { rules = rules; mode = mode; plan = plan; aborts = aborts; carried = c.carried }))
  by_plan rules mode [] aborts e = λ write is.
      none_some (sym (subst (HoldsAs n (s.world.desk.holding n)) e stands.holds) ∙ is)
  by_plan rules mode (item ∷ rest) aborts e = may_item item rest e (subst (Stands s.world.desk n) e stands)

  pub may_step : May s.world (access_of n c)
  may_step = by_plan c.rules c.mode c.plan c.aborts refl
