-- One step, taken apart by the first item of the call's plan.
use Rattle.std.proofs.Common.{ℕ, ◌<◌, Bool, List, [], ◌∷◌, Option, sym, subst}
use Rattle.moka_hist.specs.State.{State, Call, TablePart, World}
use Rattle.moka_hist.specs.Plan.{Item}
use Rattle.moka_hist.specs.Visits.{finds, gave_back, makes}
use Rattle.moka_hist.specs.Tables.{Operates, begun}
use Rattle.moka_hist.specs.Bound.{times_of, stayed, decided_by, most_undecided}
use Rattle.moka_hist.specs.Next.{Next, waits}
use Rattle.moka_hist.specs.Step.{Access, On_table, On_desk, access_for, access_of, after_table, after_visit, next_of, Gets, state_after, Step}
use Rattle.moka_hist.specs.declared.records.Mode.{Mode}
use Rattle.moka_hist.specs.declared.rules.Rules.{Rules}
use Rattle.moka_hist.specs.declared.accesses.Got.{Got}
use Rattle.moka_hist.specs.declared.accesses.Got.TheVariants as got
use Rattle.moka_hist.specs.declared.accesses.Turn.{Turn}
use Rattle.moka_hist.specs.declared.tables.TableAnswer.{TableAnswer}
use Rattle.moka_hist.specs.declared.tables.TableTurn.TheVariants as table

module _ {K V E : Type 0} (eq : K → K → Bool) where
  -- M holds of all that the access may make of the world and of the call
  abbrev pub OnAccess : (World K V E → Next K V E → Type 0) → World K V E → ℕ → Call K V E → Item K V E → List (Item K V E) → Access K V E → Type 0
  OnAccess M w n c item rest (On_table op) =
      (times_of w.stay n < most_undecided w.table → M (record w { table = begun w.table n op; stay = stayed w.stay n }) (after_table n c item rest table.Going)) ×
      ((answer : TableAnswer K V) (t : TablePart K V) → Operates eq n (begun w.table n op) op answer t →
      M (record w { table = t; stay = decided_by n }) (after_table n c item rest (table.Decided answer)))
  OnAccess M w n c item rest (On_desk made) =
      M (record w { desk = makes eq w.desk made }) (after_visit c item rest (finds w.desk made))

  -- M holds of all that a step may make of the world and of the call, with this plan
  abbrev pub OnStep : (World K V E → Next K V E → Type 0) → World K V E → ℕ → Call K V E → List (Item K V E) → Type 0
  OnStep M w n c [] = M (record w { desk = gave_back w.desk n }) (waits c)
  OnStep M w n c (item ∷ rest) = OnAccess M w n c item rest (access_for n c.carried item)

  -- how a call goes on whose plan begins with the item
  abbrev after : ℕ → Call K V E → Item K V E → List (Item K V E) → Got K V E → Next K V E
  after n c item rest (got.Table turn) = after_table n c item rest turn
  after n c item rest (got.Desk f) = after_visit c item rest f

  by_access : (M : World K V E → Next K V E → Type 0) (w : World K V E) (n : ℕ) (c : Call K V E) (item : Item K V E) (rest : List (Item K V E))
      (a : Access K V E) (given : Got K V E) (new : World K V E) → Gets eq n w a given new → OnAccess M w n c item rest a → M new
      (after n c item rest given)
  by_access M w n c item rest (On_table op) (got.Table table.Going) new h m = subst (λ v. M v (after_table n c item rest table.Going)) (sym h.1) (m.0 h.0)
  by_access M w n c item rest (On_table op) (got.Table (table.Decided answer)) new h m =
      subst (λ v. M v (after_table n c item rest (table.Decided answer))) (sym h.2) (m.1 answer h.0 h.1)
  by_access M w n c item rest (On_desk made) (got.Desk f) new h m = rw (h.1, h.0) m
  by_access M w n c item rest (On_table op) (got.Desk f) new h m = absurd h
  by_access M w n c item rest (On_desk made) (got.Table turn) new h m = absurd h

  pub by_plan : (M : World K V E → Next K V E → Type 0) (w : World K V E) (n : ℕ) (rules : Rules) (mode : Mode) (plan : List (Item K V E)) (aborts : ℕ)
      (carried : Option (List (ℕ × ℕ))) (given : Got K V E) (new : World K V E) →
      let c : Call K V E = record { rules = rules; mode = mode; plan = plan; aborts = aborts; carried = carried } in
      Gets eq n w (access_of n c) given new → OnStep M w n c plan → M new (next_of n c given)
  by_plan M w n rules mode [] aborts carried (got.Desk f) new h m = rw h.1 m
  by_plan M w n rules mode [] aborts carried (got.Table turn) new h m = absurd h
  by_plan M w n rules mode (item ∷ rest) aborts carried (got.Table turn) new h m = by_access M w n
      (record { rules = rules; mode = mode; plan = item ∷ rest; aborts = aborts; carried = carried }) item rest (access_for n carried item) (got.Table turn) new h m
  by_plan M w n rules mode (item ∷ rest) aborts carried (got.Desk f) new h m = by_access M w n
      (record { rules = rules; mode = mode; plan = item ∷ rest; aborts = aborts; carried = carried }) item rest (access_for n carried item) (got.Desk f) new h m

  more_access : (M N : World K V E → Next K V E → Type 0) → ((w : World K V E) (next : Next K V E) → M w next → N w next) →
      (w : World K V E) (n : ℕ) (c : Call K V E) (item : Item K V E) (rest : List (Item K V E)) (a : Access K V E) → OnAccess M w n c item rest a →
      OnAccess N w n c item rest a
  more_access M N f w n c item rest (On_table op) m = (λ h. f _ _ (m.0 h), λ answer t o. f _ _ (m.1 answer t o))
  more_access M N f w n c item rest (On_desk made) m = f _ _ m

  pub more_step : (M N : World K V E → Next K V E → Type 0) →
      ((w : World K V E) (next : Next K V E) → M w next → N w next) →
      (w : World K V E) (n : ℕ) (c : Call K V E) (plan : List (Item K V E)) → OnStep M w n c plan → OnStep N w n c plan
  more_step M N f w n c [] m = f _ _ m
  more_step M N f w n c (item ∷ rest) m = more_access M N f w n c item rest (access_for n c.carried item) m

  both_access : (M N O : World K V E → Next K V E → Type 0) → ((w : World K V E) (next : Next K V E) → M w next → N w next → O w next) →
      (w : World K V E) (n : ℕ) (c : Call K V E) (item : Item K V E) (rest : List (Item K V E)) (a : Access K V E) → OnAccess M w n c item rest a →
      OnAccess N w n c item rest a → OnAccess O w n c item rest a
  both_access M N O f w n c item rest (On_table op) m k = (λ h. f _ _ (m.0 h) (k.0 h), λ answer t o. f _ _ (m.1 answer t o) (k.1 answer t o))
  both_access M N O f w n c item rest (On_desk made) m k = f _ _ m k

  -- so of what two hold together
  pub both_step : (M N O : World K V E → Next K V E → Type 0) → ((w : World K V E) (next : Next K V E) → M w next → N w next → O w next) →
      (w : World K V E) (n : ℕ) (c : Call K V E) (plan : List (Item K V E)) → OnStep M w n c plan → OnStep N w n c plan → OnStep O w n c plan
  both_step M N O f w n c [] m k = f _ _ m k
  both_step M N O f w n c (item ∷ rest) m k = both_access M N O f w n c item rest (access_for n c.carried item) m k

  -- what follows from all that a step may make holds of what it made
  pub step_cases : (M : World K V E → Next K V E → Type 0) (P : State K V E → Turn K V E → Type 0) (s t : State K V E) (n : ℕ) (turn : Turn K V E)
      (step : Step eq s n turn t) →
      OnStep M s.world n step.call step.call.plan → ((w : World K V E) (next : Next K V E) → M w next → P (state_after s n w next) next.turn) → P t turn
  step_cases M P s t n turn step cases follows =
      let c : Call K V E = step.call in
      let on_plan : OnStep (λ w next. P (state_after s n w next) next.turn) s.world n c c.plan = more_step M
      (λ w next. P (state_after s n w next) next.turn) follows s.world n c c.plan cases in
      let p : P (state_after s n step.world (next_of n c step.given)) (next_of n c step.given).turn =
      by_plan (λ w next. P (state_after s n w next) next.turn) s.world n c.rules c.mode c.plan c.aborts c.carried step.given step.world step.gets on_plan in
      subst (λ v. P v turn) (sym step.after) (subst (λ v. P (state_after s n step.world (next_of n c step.given)) v) (sym step.turns) p)
