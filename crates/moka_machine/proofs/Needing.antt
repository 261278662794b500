-- Where memory may be wanting.
use Rattle.std.proofs.Common.{◌≡◌, ◌⊎◌, ◌==◌, ℕ, Bool, true, Option, Some, None, MatchOption, refl, sym, ap, subst, ◌∙◌, inl, inr}
use Rattle.std.specs.declared.cmp.PartialEq as PartialEq
use Rattle.std.specs.declared.hash.Hash as Hash
use Rattle.std.specs.Option.{option_and_then, option_map_or}
use Rattle.moka_hist.specs.Finite.{put_at}
use Rattle.moka_hist.specs.State.{Call, DeskPart, State, World}
use Rattle.moka_hist.specs.Step.{Access, access_of}
use Rattle.moka_hist.specs.Step as step
use Rattle.moka_hist.specs.Visits.{is_running, settlement_for}
use Rattle.moka_hist.specs.declared.visits.Visit.{Visit}
use Rattle.moka_hist.specs.declared.visits.Visit.TheVariants as visit
use Rattle.moka_desk.specs.StandsFor as desk
use Rattle.moka_init.specs.Grounds.{SettledNeedsMemory, VisitTakesCopies}
use Rattle.moka_layers.specs.Needing.{StepNeedsMemory, VisitNeedsMemory}
use Rattle.moka_hist.specs.declared.record_tests.Tests as Tests
use Rattle.moka_machine.specs.TheTable.{TheDesk}
use Rattle.moka_machine.specs.Machine.{MachineIs}
use Rattle.moka_machine.specs.WantOfMemory.{CallNeedsMemory}
use Rattle.moka_machine.specs.declared.machine.Machine.{Machine}
use Rattle.moka_machine.proofs.Places.{set_at}

-- the same is found in maps that have the same
found_end : {A : Type 0} (f g : ℕ → Option A) → ((n : ℕ) → f n ≡ g n) → (a b : Option ℕ) → a ≡ b → option_and_then f a ≡ option_and_then g b
found_end f g same a b e = subst (λ v. option_and_then f a ≡ option_and_then g v) e (by a)
  where
    by : (o : Option ℕ) → option_and_then f o ≡ option_and_then g o
    by None = refl
    by (Some n) = same n

module _ {K V E : Type 0} {same : PartialEq.Ghosts K} {hash : Hash.Ghosts K} (eq : K → K → Bool) where
  -- whichever state the desk stands for
  same_running : (d : TheDesk K V E same hash) (w u : DeskPart K V E) (number : ℕ) → desk.StandsFor eq d w → desk.StandsFor eq d u → is_running w number ≡ is_running u number
  same_running d w u number h k =
      sym (h.notices.running number) ∙ k.notices.running number

  same_end : (d : TheDesk K V E same hash) (w u : DeskPart K V E) (n : ℕ) → desk.StandsFor eq d w → desk.StandsFor eq d u → settlement_for w n ≡ settlement_for u n
  same_end d w u n h k =
      found_end w.settled u.settled (λ m. sym (h.loads.settled m) ∙ k.loads.settled m) (w.joined n) (u.joined n) (sym (h.loads.joined n) ∙ k.loads.joined n)

  visit_needs : (d : TheDesk K V E same hash) (w u : DeskPart K V E) (v : Visit K V E) → desk.StandsFor eq d w → desk.StandsFor eq d u → VisitTakesCopies v ⊎ VisitNeedsMemory w v
      → VisitTakesCopies v ⊎ VisitNeedsMemory u v
  visit_needs d w u v h k (inl copies) = inl copies
  visit_needs d w u (visit.NoticeEnded n number) h k (inr needs) = inr (sym (same_running d w u number h k) ∙ needs)
  visit_needs d w u (visit.TakeTurn n) h k (inr needs) = inr (ap (λ t. option_map_or (λ holder. holder == n) t true) (sym k.turn ∙ h.turn) ∙ needs)
  visit_needs d w u (visit.Register test) h k (inr needs) = inr (ap (λ r. r.closures) (sym k.rules ∙ h.rules) ∙ needs)
  visit_needs d w u (visit.ReadSettled n) h k (inr needs) = inr (subst (λ o. MatchOption o ⊥ (λ s. SettledNeedsMemory s)) (same_end d w u n h k) needs)
  visit_needs d w u (visit.Judge replace key stored) h k (inr needs) = inl tt
  visit_needs d w u (visit.OwnAlone n key) h k (inr needs) = inl tt
  visit_needs d w u _ h k (inr needs) = inr needs

  access_needs : (d : TheDesk K V E same hash) (w u : World K V E) (a : Access K V E) → desk.StandsFor eq d w.desk → desk.StandsFor eq d u.desk → StepNeedsMemory w a → StepNeedsMemory u a
  access_needs d w u (step.On_table operation) h k needs = inl tt
  access_needs d w u (step.On_desk v) h k needs = visit_needs d w.desk u.desk v h k needs

-- whatever state the machine stands for, the call that was put back is live in it, and stands there
pub call_needs : {K V E T : Type 0} {same : PartialEq.Ghosts K} {hash : Hash.Ghosts K} (eq : K → K → Bool) (q : Tests.Ghosts T K V) (m : Machine K V E T same hash) (n : ℕ) (d : Call K V E)
    (others : ℕ → Option (Call K V E)) (w : World K V E) (s : State K V E) → MachineIs eq q m (record { world = w; calls = put_at others n (Some d) }) → MachineIs eq q m s
    → StepNeedsMemory w (access_of n d) → CallNeedsMemory s n
call_needs {K} {V} {E} eq q m n d others w s back stands needs =
    let live : s.calls n ≡ Some d = sym (stands.calls n) ∙ back.calls n ∙ set_at others n (Some d) in
    subst (λ (o : Option (Call K V E)). MatchOption o ⊥ (λ c. StepNeedsMemory s.world (access_of n c))) (sym live)
    (access_needs eq m.layers.desk w s.world (access_of n d) back.world.desk stands.world.desk needs)
