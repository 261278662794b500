-- What holds of a fresh cache and is kept by each event holds of every reached state.
use Rattle.std.proofs.Common.{◌<◌, ◌≢◌, ◌≡◌, ℕ, zero, suc, Bool, true, false, List, [], ◌∷◌, Option, Some, None, MatchOption, MatchBool, nat_lt, ◌==◌, refl, sym, subst}
use Rattle.moka_hist.specs.State.{Division, State, Call, fresh, Handed}
use Rattle.moka_hist.specs.Dropping.{dropped}
use Rattle.moka_hist.specs.Telling.{is_asked, is_taken, heard, told_call}
use Rattle.moka_hist.specs.Telling.{told as tells}
use Rattle.moka_hist.specs.Visits.{is_running}
use Rattle.moka_hist.specs.Step.{Step}
use Rattle.moka_hist.specs.Run.{Divides, Goings, Steps, Polls, Happens, Run, Any, IsReached, Refuses, Becomes, Drops, at_moment, started, with_desk, last_call}
use Rattle.moka_hist.specs.declared.records.Mode.{Mode}
use Rattle.moka_hist.specs.declared.records.Mode.TheVariants as mode
use Rattle.moka_hist.specs.declared.rules.Rules.{Rules}
use Rattle.moka_hist.specs.declared.events.Start.{Start}
use Rattle.moka_hist.specs.declared.events.Told.{Told}
use Rattle.moka_hist.specs.declared.events.Told.TheVariants as told
use Rattle.moka_hist.specs.declared.events.Event.{Event}
use Rattle.moka_hist.specs.declared.events.Event.TheVariants as event
use Rattle.moka_hist.specs.declared.replies.Refusal.{Refusal}
use Rattle.moka_hist.specs.declared.replies.Reply.{Reply}
use Rattle.moka_hist.specs.declared.accesses.Turn.{Turn}

module _ {K V E : Type 0} (eq : K → K → Bool) where
  -- a fresh cache has it, and each event keeps it
  pub record IsInvariant (I : State K V E → Type 0) : Type 0 where
    pub fresh : (division : Division K) → Divides eq division → (rules : Rules) (size : ℕ) (built : Handed K V) → 0 < size → I (fresh K V E division rules size built)
    pub at : (s : State K V E) (moment : ℕ) → I s → I (at_moment s moment)
    pub start : (s : State K V E) (start : Start K V) → I s → I (started s start)
    pub step : (s t : State K V E) (n : ℕ) (turn : Turn K V E) → I s → Step eq s n turn t → I t
    -- an initializer gives what its ask takes
    pub tell : (s : State K V E) (n : ℕ) (given : Told V E) → is_taken s.world.desk n given ≡ true → I s →
        I (with_desk s (told_call s.world.desk n given))
    -- a notice that runs ends, and the listener may be off from then on
    pub hear : (s : State K V E) (n : ℕ) (off : Bool) → is_running s.world.desk n ≡ true → I s → I (with_desk s (heard s.world.desk n off))
    pub drop : (s : State K V E) (n : ℕ) (c : Call K V E) → s.calls n ≡ Some c → c.mode ≢ mode.Mid → I s → I (dropped s n c)

  -- each event keeps it
  pub record IsStable (I : State K V E → Type 0) : Type 0 where
    pub at : (s : State K V E) (moment : ℕ) → I s → I (at_moment s moment)
    pub start : (s : State K V E) (start : Start K V) → I s → I (started s start)
    pub step : (s t : State K V E) (n : ℕ) (turn : Turn K V E) → I s → Step eq s n turn t → I t
    -- an initializer gives what its ask takes
    pub tell : (s : State K V E) (n : ℕ) (given : Told V E) → is_taken s.world.desk n given ≡ true → I s →
        I (with_desk s (told_call s.world.desk n given))
    pub hear : (s : State K V E) (n : ℕ) (off : Bool) → is_running s.world.desk n ≡ true → I s → I (with_desk s (heard s.world.desk n off))
    pub drop : (s : State K V E) (n : ℕ) (c : Call K V E) → s.calls n ≡ Some c → c.mode ≢ mode.Mid → I s → I (dropped s n c)

  module _ (I : State K V E → Type 0) (kept : IsStable I) where
    refused : (s t : State K V E) (why : Refusal) (r : Reply K V E) → I s → Refuses s why r t → I t
    refused s t why r i h = subst (λ v. I v) (sym h.same) i

    becomes : (next t : State K V E) (answer r : Reply K V E) → I next → Becomes next answer r t → I t
    becomes next t answer r i h = subst (λ v. I v) (sym h.after) i

    goings : (P : State K V E → Type 0) (k : ℕ) (s t : State K V E) (n : ℕ) → I s → Goings eq P k s n t → I t
    unfolding Goings
    goings P zero s t n i going = subst (λ v. I v) (sym going) i
    goings P (suc k) s t n i going = kept.step going.0 t n _ (goings P k s going.0 n i going.1) going.2

    drops : (s t : State K V E) (n : ℕ) (c : Call K V E) (m : Mode) (r : Reply K V E) → s.calls n ≡ Some c → c.mode ≡ m → I s →
        Drops s n c m r t → I t
    drops s t n c mode.Mid r live e i h = refused s t _ r i h
    drops s t n c _ r live e i h = becomes (dropped s n c) t _ r (kept.drop s n c live (λ f. cc) i) h

    -- of a test, or of a call's look-up, either answer keeps it
    either : (t : State K V E) (b : Bool) (P Q : Type 0) → (b ≡ true → P → I t) → (b ≡ false → Q → I t) → MatchBool b P Q → I t
    either t true P Q on_true on_false h = on_true refl h
    either t false P Q on_true on_false h = on_false refl h

    looked : (t : State K V E) (o : Option (Call K V E)) (P : Type 0) (Q : Call K V E → Type 0) → (P → I t) →
        ((c : Call K V E) → o ≡ Some c → Q c → I t) → MatchOption o P Q → I t
    looked t None P Q none some h = none h
    looked t (Some c) P Q none some h = some c refl h

    is_told : (s : State K V E) (n : ℕ) (answer : Told V E) → is_asked s.world.desk n answer ≡ true → I s →
        I (with_desk s (tells s.world.desk n answer))
    is_told s n told.Done e i = kept.hear s n false e i
    is_told s n told.Off e i = kept.hear s n true e i
    is_told s n one e i = kept.tell s n one e i

    happens : (P : State K V E → Type 0) (s t : State K V E) (e : Event K V E) (r : Reply K V E) → I s → Happens eq P s e r t → I t
    happens P s t (event.At moment) r i h =
        either t (nat_lt moment s.world.desk.clock) _ _ (λ _ b. refused s t _ r i b)
        (λ _ b. becomes (at_moment s moment) t _ r (kept.at s moment i) b) h
    happens P s t (event.Start start) r i h =
        either t (s.world.desk.last == last_call) _ _ (λ _ b. refused s t _ r i b) (λ _ b. becomes (started s start) t _ r (kept.start s start i) b) h
    happens P s t (event.Step n) r i h =
        looked t (s.calls n) _ (λ _. Steps eq s n r t) (refused s t _ r i) (λ c e steps. kept.step s t n steps.turn i steps.step) h
    happens P s t (event.Poll n) r i h =
        looked t (s.calls n) _ (λ _. Polls eq P s n r t) (refused s t _ r i)
        (λ c e polls. kept.step polls.mid t n polls.last.turn (goings P polls.going s polls.mid n i polls.goes) polls.last.step) h
    happens P s t (event.Tell n answer) r i h =
        either t (is_asked s.world.desk n answer) _ _ (λ e b. becomes (with_desk s (tells s.world.desk n answer)) t _ r
        (is_told s n answer e i) b) (λ _ b. refused s t _ r i b) h
    happens P s t (event.Drop n) r i h =
        looked t (s.calls n) _ (λ c. Drops s n c c.mode r t) (refused s t _ r i) (λ c e d. drops s t n c c.mode r e refl i d) h

    pub runs : (s t : State K V E) (es : List (Event K V E)) (rs : List (Reply K V E)) → I s → Run eq Any s es rs t → I t
    runs s t [] [] i run = subst (λ v. I v) (sym run) i
    runs s t (e ∷ es) (r ∷ rs) i run = runs run.0 t es rs (happens Any s run.0 e r i run.1) run.3
    runs s t [] (r ∷ rs) i run = absurd run
    runs s t (e ∷ es) [] i run = absurd run

  stable : (I : State K V E → Type 0) → IsInvariant I → IsStable I
  stable I kept =
      record { at = kept.at; start = kept.start; step = kept.step; tell = kept.tell; hear = kept.hear; drop = kept.drop }

  pub in_reached : (I : State K V E → Type 0) → IsInvariant I → (s : State K V E) → IsReached eq s → I s
  in_reached I kept s h = runs I (stable I kept) (fresh K V E h.division h.rules h.size h.handed) s h.events h.replies (kept.fresh h.division h.divides h.rules h.size h.handed h.has_log) h.run
