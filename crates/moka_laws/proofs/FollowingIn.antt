-- What each event keeps, on a run through states of which something holds.
use Rattle.std.proofs.Common.{◌≢◌, ◌≡◌, ℕ, zero, suc, Bool, true, false, List, [], ◌∷◌, Option, Some, None, MatchOption, MatchBool, nat_lt, ◌==◌, refl, sym, subst}
use Rattle.moka_hist.specs.State.{State, Call}
use Rattle.moka_hist.specs.Dropping.{dropped}
use Rattle.moka_hist.specs.Telling.{is_asked, heard, told_call}
use Rattle.moka_hist.specs.Telling.{told as tells}
use Rattle.moka_hist.specs.Step.{Step}
use Rattle.moka_hist.specs.Run.{Goings, Steps, Polls, Happens, Run, Refuses, Becomes, Drops, at_moment, started, with_desk, last_call}
use Rattle.moka_hist.specs.declared.records.Mode.{Mode}
use Rattle.moka_hist.specs.declared.records.Mode.TheVariants as mode
use Rattle.moka_hist.specs.declared.events.Start.{Start}
use Rattle.moka_hist.specs.declared.events.Told.{Told}
use Rattle.moka_hist.specs.declared.events.Told.TheVariants as told
use Rattle.moka_hist.specs.declared.events.Event.{Event}
use Rattle.moka_hist.specs.declared.events.Event.TheVariants as event
use Rattle.moka_hist.specs.declared.replies.Refusal.{Refusal}
use Rattle.moka_hist.specs.declared.replies.Reply.{Reply}
use Rattle.moka_hist.specs.declared.accesses.Turn.{Turn}
use Rattle.moka_laws.specs.Starting.{Leads}
use Rattle.moka_laws.proofs.Following.{one_leads, step_leads}

module _ {K V E : Type 0} (eq : K → K → Bool) where
  -- one change of the state: a step, or what an event makes that is none
  pub data Changes : State K V E → State K V E → Type 0 where
    By_clock : (s : State K V E) (moment : ℕ) → Changes s (at_moment s moment)
    By_start : (s : State K V E) (start : Start K V) → Changes s (started s start)
    By_step : (s t : State K V E) (n : ℕ) (turn : Turn K V E) → Step eq s n turn t → Changes s t
    By_told : (s : State K V E) (n : ℕ) (given : Told V E) → Changes s (with_desk s (told_call s.world.desk n given))
    By_heard : (s : State K V E) (n : ℕ) (off : Bool) → Changes s (with_desk s (heard s.world.desk n off))
    By_drop : (s : State K V E) (n : ℕ) (c : Call K V E) → s.calls n ≡ Some c → c.mode ≢ mode.Mid → Changes s (dropped s n c)

  pub told_changes : (s : State K V E) (n : ℕ) (answer : Told V E) → Changes s (with_desk s (tells s.world.desk n answer))
  told_changes s n told.Done = By_heard s n false
  told_changes s n told.Off = By_heard s n true
  told_changes s n (told.Value value) = By_told s n (told.Value value)
  told_changes s n told.Nothing = By_told s n told.Nothing
  told_changes s n (told.Err error) = By_told s n (told.Err error)
  told_changes s n (told.Op op) = By_told s n (told.Op op)

  module _ (P I : State K V E → Type 0) (kept : (s t : State K V E) → Changes s t → Leads eq s t → P t → I s → I t) where
    refused : (s t : State K V E) (why : Refusal) (r : Reply K V E) → I s → Refuses s why r t → I t
    refused s t why r i h = subst (λ v. I v) (sym h.same) i

    becomes : (s next t : State K V E) (answer r : Reply K V E) → Changes s next → Leads eq s t → P t → I s → Becomes next answer r t → I t
    becomes s next t answer r change l p i h =
        subst (λ v. I v) (sym h.after) (kept s next change (subst (Leads eq s) h.after l) (subst (λ v. P v) h.after p) i)

    goings : (k : ℕ) (s t : State K V E) (n : ℕ) → I s → Goings eq P k s n t → I t
    unfolding Goings
    goings zero s t n i going = subst (λ v. I v) (sym going) i
    goings (suc k) s t n i going =
        kept going.0 t (By_step going.0 t n _ going.2) (step_leads eq going.0 t n _ going.2) going.3 (goings k s going.0 n i going.1)

    drops : (s t : State K V E) (n : ℕ) (c : Call K V E) (m : Mode) (r : Reply K V E) → s.calls n ≡ Some c → c.mode ≡ m → Leads eq s t → P t → I s →
        Drops s n c m r t → I t
    drops s t n c mode.Mid r live e l p i h = refused s t _ r i h
    drops s t n c _ r live e l p i h = becomes s (dropped s n c) t _ r (By_drop s n c live (λ f. cc)) l p i h

    either : (t : State K V E) (b : Bool) (X Y : Type 0) → (X → I t) → (Y → I t) → MatchBool b X Y → I t
    either t true X Y on_true on_false h = on_true h
    either t false X Y on_true on_false h = on_false h

    looked : (t : State K V E) (o : Option (Call K V E)) (X : Type 0) (Y : Call K V E → Type 0) → (X → I t) →
        ((c : Call K V E) → o ≡ Some c → Y c → I t) → MatchOption o X Y → I t
    looked t None X Y none some h = none h
    looked t (Some c) X Y none some h = some c refl h

    happens : (s t : State K V E) (e : Event K V E) (r : Reply K V E) → P t → I s → Happens eq P s e r t → I t
    happens s t (event.At moment) r p i h =
        either t (nat_lt moment s.world.desk.clock) _ _ (λ b. refused s t _ r i b)
        (λ b. becomes s (at_moment s moment) t _ r (By_clock s moment) (one_leads eq s t (event.At moment) r h) p i b) h
    happens s t (event.Start start) r p i h =
        either t (s.world.desk.last == last_call) _ _ (λ b. refused s t _ r i b)
        (λ b. becomes s (started s start) t _ r (By_start s start) (one_leads eq s t (event.Start start) r h) p i b) h
    happens s t (event.Step n) r p i h =
        looked t (s.calls n) _ (λ _. Steps eq s n r t) (refused s t _ r i)
        (λ c e steps. kept s t (By_step s t n steps.turn steps.step) (step_leads eq s t n steps.turn steps.step) p i) h
    happens s t (event.Poll n) r p i h =
        looked t (s.calls n) _ (λ _. Polls eq P s n r t) (refused s t _ r i)
        (λ c e polls. kept polls.mid t (By_step polls.mid t n polls.last.turn polls.last.step)
        (step_leads eq polls.mid t n polls.last.turn polls.last.step) p
        (goings polls.going s polls.mid n i polls.goes)) h
    happens s t (event.Tell n answer) r p i h =
        either t (is_asked s.world.desk n answer) _ _
        (λ b. becomes s (with_desk s (tells s.world.desk n answer)) t _ r (told_changes s n answer)
        (one_leads eq s t (event.Tell n answer) r h) p i b) (λ b. refused s t _ r i b) h
    happens s t (event.Drop n) r p i h =
        looked t (s.calls n) _ (λ c. Drops s n c c.mode r t) (refused s t _ r i)
        (λ c e d. drops s t n c c.mode r e refl (one_leads eq s t (event.Drop n) r h) p i d) h

    pub follow_in : (s t : State K V E) (es : List (Event K V E)) (rs : List (Reply K V E)) → I s → Run eq P s es rs t → I t
    follow_in s t [] [] i run = subst (λ v. I v) (sym run) i
    follow_in s t (e ∷ es) (r ∷ rs) i run = follow_in run.0 t es rs (happens s run.0 e r run.2 i run.1) run.3
    follow_in s t [] (r ∷ rs) i run = absurd run
    follow_in s t (e ∷ es) [] i run = absurd run
