-- What is kept by each event that gives only pairs of P, and starts only calls of Q, holds along
-- runs of such events.
use Rattle.std.proofs.Common.{◌≡◌, ℕ, zero, suc, ◌+◌, ◌==◌, nat_lt, Bool, true, false, List, [], ◌∷◌, Option, Some, None, MatchOption, MatchBool, inl, inr, refl, sym, subst}
use Rattle.moka_hist.specs.Dropping.{dropped}
use Rattle.moka_hist.specs.State.{State, Call}
use Rattle.moka_hist.specs.Step.{Step}
use Rattle.moka_hist.specs.Telling.{heard, is_asked, told_call}
use Rattle.moka_hist.specs.Telling.{told as tells}
use Rattle.moka_hist.specs.Run.{Goings, Steps, Polls, Happens, Run, Any, Refuses, Becomes, Drops, at_moment, started, with_desk, last_call}
use Rattle.moka_hist.specs.declared.accesses.Turn.{Turn}
use Rattle.moka_hist.specs.declared.events.Event.{Event}
use Rattle.moka_hist.specs.declared.events.Event.TheVariants as event
use Rattle.moka_hist.specs.declared.events.Start.{Start}
use Rattle.moka_hist.specs.declared.events.Told.{Told}
use Rattle.moka_hist.specs.declared.events.Told.TheVariants as told
use Rattle.moka_hist.specs.declared.records.Mode.{Mode}
use Rattle.moka_hist.specs.declared.records.Mode.TheVariants as mode
use Rattle.moka_hist.specs.declared.replies.Refusal.{Refusal}
use Rattle.moka_hist.specs.declared.replies.Reply.{Reply}
use Rattle.moka_hist.specs.declared.replies.Reply.TheVariants as reply
use Rattle.moka_laws.specs.Given.{GivesByEvent, HasStarted, WasGiven}
use Rattle.moka_laws.specs.Starts.{brought, key_started}

module _ {K V E : Type 0} (P : K → V → Type 0) (Q : ℕ → K → Type 0) where
  -- whatever the event gives is P
  abbrev pub GivesOnly : State K V E → Event K V E → Reply K V E → Type 0
  GivesOnly s e r = (key : K) (value : V) → GivesByEvent s e r key value → P key value

  -- the event, if it starts a call, starts it for a key that is Q of its number
  abbrev BeginsOnly : Event K V E → Reply K V E → Type 0
  BeginsOnly e r =
      (n : ℕ) (start : Start K V) (key : K) → e ≡ event.Start start → r ≡ reply.Call n →
      key_started start ≡ Some key → Q n key

  module _ (eq : K → K → Bool) where
    -- each event that gives only what is P, and starts only calls of Q, keeps it
    pub record IsKeptGiving (I : State K V E → Type 0) : Type 0 where
      pub at : (s : State K V E) (moment : ℕ) → I s → I (at_moment s moment)
      pub start : (s : State K V E) (start : Start K V) → I s →
          ((key : K) (value : V) → brought start ≡ Some (key, value) → P key value) →
          ((key : K) → key_started start ≡ Some key → Q (s.world.desk.last + 1) key) →
          I (started s start)
      pub step : (s t : State K V E) (n : ℕ) (turn : Turn K V E) → I s → Step eq s n turn t → I t
      pub tell : (s : State K V E) (n : ℕ) (given : Told V E) → I s →
          GivesOnly s (event.Tell n given) reply.Told → I (with_desk s (told_call s.world.desk n given))
      pub hear : (s : State K V E) (n : ℕ) (off : Bool) → I s → I (with_desk s (heard s.world.desk n off))
      pub drop : (s : State K V E) (n : ℕ) (c : Call K V E) → s.calls n ≡ Some c → I s →
          I (dropped s n c)

    module _ (I : State K V E → Type 0) (kept : IsKeptGiving I) where
      refused : (s t : State K V E) (why : Refusal) (r : Reply K V E) → I s → Refuses s why r t → I t
      refused s t why r i h = subst I (sym h.same) i

      becomes : (next t : State K V E) (answer r : Reply K V E) → I next → Becomes next answer r t → I t
      becomes next t answer r i h = subst I (sym h.after) i

      pub goings : (k : ℕ) (s t : State K V E) (n : ℕ) → I s → Goings eq Any k s n t → I t
      unfolding Goings
      goings zero s t n i going = subst I (sym going) i
      goings (suc k) s t n i going =
          kept.step going.0 t n _ (goings k s going.0 n i going.1) going.2

      drops : (s t : State K V E) (n : ℕ) (c : Call K V E) (m : Mode) (r : Reply K V E) →
          s.calls n ≡ Some c → I s → Drops s n c m r t → I t
      drops s t n c mode.Mid r live i h = refused s t _ r i h
      drops s t n c _ r live i h = becomes (dropped s n c) t _ r (kept.drop s n c live i) h

      either : (t : State K V E) (b : Bool) (A B : Type 0) → (A → I t) → (B → I t) → MatchBool b A B → I t
      either t true A B on_true on_false h = on_true h
      either t false A B on_true on_false h = on_false h

      looked : (t : State K V E) (o : Option (Call K V E)) (A : Type 0) (B : Call K V E → Type 0) →
          (A → I t) → ((c : Call K V E) → o ≡ Some c → B c → I t) → MatchOption o A B → I t
      looked t None A B none some h = none h
      looked t (Some c) A B none some h = some c refl h

      is_told : (s : State K V E) (n : ℕ) (answer : Told V E) → I s →
          GivesOnly s (event.Tell n answer) reply.Told → I (with_desk s (tells s.world.desk n answer))
      is_told s n told.Done i gave = kept.hear s n false i
      is_told s n told.Off i gave = kept.hear s n true i
      is_told s n one i gave = kept.tell s n one i gave

      happens : (s t : State K V E) (e : Event K V E) (r : Reply K V E) → I s → GivesOnly s e r →
          BeginsOnly e r →
          Happens eq Any s e r t → I t
      happens s t (event.At moment) r i gave begun h =
          either t (nat_lt moment s.world.desk.clock) _ _ (refused s t _ r i)
          (becomes (at_moment s moment) t _ r (kept.at s moment i)) h
      happens s t (event.Start start) r i gave begun h =
          either t (s.world.desk.last == last_call) _ _ (refused s t _ r i)
          (λ b. becomes (started s start) t _ r
          (kept.start s start i (subst (GivesOnly s (event.Start start)) b.reply gave)
          (λ key is. begun (s.world.desk.last + 1) start key refl b.reply is)) b) h
      happens s t (event.Step n) r i gave begun h =
          looked t (s.calls n) _ (λ _. Steps eq s n r t) (refused s t _ r i)
          (λ c e steps. kept.step s t n steps.turn i steps.step) h
      happens s t (event.Poll n) r i gave begun h =
          looked t (s.calls n) _ (λ _. Polls eq Any s n r t) (refused s t _ r i)
          (λ c e polls. kept.step polls.mid t n polls.last.turn
          (goings polls.going s polls.mid n i polls.goes) polls.last.step) h
      happens s t (event.Tell n answer) r i gave begun h =
          either t (is_asked s.world.desk n answer) _ _
          (λ b. becomes (with_desk s (tells s.world.desk n answer)) t _ r
          (is_told s n answer i (subst (GivesOnly s (event.Tell n answer)) b.reply gave)) b)
          (refused s t _ r i) h
      happens s t (event.Drop n) r i gave begun h =
          looked t (s.calls n) _ (λ c. Drops s n c c.mode r t) (refused s t _ r i)
          (λ c e d. drops s t n c c.mode r e i d) h

      -- so what holds where such a run begins holds where it ends
      pub along : (s t : State K V E) (es : List (Event K V E)) (rs : List (Reply K V E))
          (run : Run eq Any s es rs t) →
          ((key : K) (value : V) → WasGiven eq s es rs t run key value → P key value) →
          ((n : ℕ) (start : Start K V) (key : K) → HasStarted n es rs start →
          key_started start ≡ Some key → Q n key) → I s → I t
      along s t [] [] run gave begun i = subst I (sym run) i
      along s t (e ∷ es) (r ∷ rs) run gave begun i =
          along run.0 t es rs run.3 (λ key value g. gave key value (inr g))
          (λ n start key b. begun n start key (inr b))
          (happens s run.0 e r i (λ key value g. gave key value (inl g))
          (λ n start key is says. begun n start key (inl (is, says))) run.1)
      along s t [] (r ∷ rs) run gave begun i = absurd run
      along s t (e ∷ es) [] run gave begun i = absurd run
