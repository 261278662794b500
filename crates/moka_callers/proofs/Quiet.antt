-- What each event keeps where no call but one makes a step.
use Rattle.std.proofs.Common.{◌≡◌, ◌⊎◌, inl, inr, ℕ, zero, suc, ◌+◌, ◌≤◌, ◌==◌, Bool, true, false, List, [], ◌∷◌, All, Option, Some, None, MatchBool, MatchOption, nat_lt, refl, sym, ap, ◌∙◌, subst, arith}
use Rattle.std.proofs.lemmas.Bool.{eqb-true}
use Rattle.std.proofs.lemmas.List.Elements.{All-head, All-tail}
use Rattle.moka_hist.specs.Finite.{put_at}
use Rattle.moka_hist.specs.State.{Call, State}
use Rattle.moka_hist.specs.Dropping.{dropped}
use Rattle.moka_hist.specs.Step.{Step}
use Rattle.moka_hist.specs.Run.{Any, Becomes, Drops, Goings, Happens, Polls, Refuses, Run, Steps, at_moment, last_call, started, with_desk}
use Rattle.moka_hist.specs.Telling.{is_asked}
use Rattle.moka_hist.specs.Telling.{told as tells}
use Rattle.moka_hist.specs.declared.accesses.Turn.{Turn}
use Rattle.moka_hist.specs.declared.events.Event.{Event}
use Rattle.moka_hist.specs.declared.events.Event.TheVariants as event
use Rattle.moka_hist.specs.declared.events.Start.{Start}
use Rattle.moka_hist.specs.declared.events.Told.{Told}
use Rattle.moka_hist.specs.declared.events.Told.TheVariants as told
use Rattle.moka_hist.specs.declared.records.Mode.{Mode}
use Rattle.moka_hist.specs.declared.records.Mode.TheVariants as mode
use Rattle.moka_hist.specs.declared.replies.Refusal.{Refusal}
use Rattle.moka_hist.specs.declared.replies.Refusal.TheVariants as refusal
use Rattle.moka_hist.specs.declared.replies.Reply.{Reply}
use Rattle.moka_hist.specs.declared.replies.Reply.TheVariants as reply
use Rattle.moka_laws.proofs.Counting.{differ, put_here, put_there}
use Rattle.moka_callers.specs.Changing.{MakesNoStep}
use Rattle.moka_callers.specs.Undisturbed.{StepsNoOther}

module _ {K V E : Type 0} (eq : K → K → Bool) (n : ℕ) where
  -- From the first state to the second the table and the rules are the same, and so is the call of
  -- this number, or it is dropped, if the number was given out.
  pub record Quiet (s t : State K V E) : Type 0 where
    pub table : t.world.table ≡ s.world.table
    pub rules : t.world.desk.rules ≡ s.world.desk.rules
    pub last : s.world.desk.last ≤ t.world.desk.last
    pub call : n ≤ s.world.desk.last → (t.calls n ≡ s.calls n) ⊎ (t.calls n ≡ None)

  module _ (s t : State K V E) (r : Reply K V E) where
    refused : (why : Refusal) → Refuses s why r t → Quiet s t
    refused why h = rw h.same (record {
      table = refl;
      rules = refl;
      last = omega arith;
      call = λ born. inl refl;
    })

    at_quiet : (moment : ℕ) (b : Bool) → MatchBool b (Refuses s refusal.ClockBack r t)
        (Becomes (at_moment s moment) reply.At r t) → Quiet s t
    at_quiet moment true h = refused refusal.ClockBack h
    at_quiet moment false h = rw h.after (record {
      table = refl;
      rules = refl;
      last = omega arith;
      call = λ born. inl refl;
    })

    start_quiet : (start : Start K V) (b : Bool) → MatchBool b (Refuses s refusal.CallsSpent r t)
        (Becomes (started s start) (reply.Call (s.world.desk.last + 1)) r t) → Quiet s t
    start_quiet start true h = refused refusal.CallsSpent h
    start_quiet start false h = rw h.after (record {
      table = refl;
      rules = refl;
      last = omega arith;
      call = λ born. inl (put_there s.calls (s.world.desk.last + 1) _ n
          (differ (s.world.desk.last + 1) n (λ e. omega (arith, born, e))));
    })

    told_quiet : (m : ℕ) (a : Told V E) → Quiet s (with_desk s (tells s.world.desk m a))
    told_quiet m told.Done =
        record { table = refl; rules = refl; last = omega arith; call = λ born. inl refl }
    told_quiet m told.Off =
        record { table = refl; rules = refl; last = omega arith; call = λ born. inl refl }
    told_quiet m _ =
        record { table = refl; rules = refl; last = omega arith; call = λ born. inl refl }

    tell_quiet : (m : ℕ) (a : Told V E) (b : Bool) → MatchBool b
        (Becomes (with_desk s (tells s.world.desk m a)) reply.Told r t)
        (Refuses s refusal.NotAsked r t) → Quiet s t
    tell_quiet m a true h = subst (λ v. Quiet s v) (sym h.after) (told_quiet m a)
    tell_quiet m a false h = refused refusal.NotAsked h

    gone : (m : ℕ) (c : Call K V E) → Becomes (dropped s m c) reply.Dropped r t → Quiet s t
    gone m c h = rw h.after (record {
      table = refl;
      rules = refl;
      last = omega arith;
      call = λ born. by (m == n) refl;
    })
      where
        by : (b : Bool) → (m == n) ≡ b →
            (put_at s.calls m None n ≡ s.calls n) ⊎ (put_at s.calls m None n ≡ None)
        by true e = inr (ap (λ v. put_at s.calls m None v) (sym (eqb-true m n e)) ∙
            put_here s.calls m None)
        by false e = inl (put_there s.calls m None n e)

    drops_quiet : (m : ℕ) (c : Call K V E) (in_mode : Mode) → Drops s m c in_mode r t → Quiet s t
    drops_quiet m c mode.Mid h = refused refusal.NotParked h
    drops_quiet m c mode.Fresh h = gone m c h
    drops_quiet m c mode.Parked h = gone m c h

    drop_quiet : (m : ℕ) (o : Option (Call K V E)) → MatchOption o
        (Refuses s refusal.UnknownCall r t) (λ c. Drops s m c c.mode r t) → Quiet s t
    drop_quiet m None h = refused refusal.UnknownCall h
    drop_quiet m (Some c) h = drops_quiet m c c.mode h

  pub quiet : (s t : State K V E) (e : Event K V E) (r : Reply K V E) → MakesNoStep e →
      Happens eq Any s e r t → Quiet s t
  quiet s t (event.At moment) r none h = at_quiet s t r moment (nat_lt moment s.world.desk.clock) h
  quiet s t (event.Start start) r none h =
      start_quiet s t r start (s.world.desk.last == last_call) h
  quiet s t (event.Tell m a) r none h = tell_quiet s t r m a (is_asked s.world.desk m a) h
  quiet s t (event.Drop m) r none h = drop_quiet s t r m (s.calls m) h
  quiet s t (event.Step m) r none h = absurd none
  quiet s t (event.Poll m) r none h = absurd none

  module _ (I : State K V E → Type 0) (on : (s t : State K V E) → Quiet s t → I s → I t)
      (own : (s t : State K V E) (turn : Turn K V E) → I s → Step eq s n turn t → I t) where
    goings : (k : ℕ) (s t : State K V E) → I s → Goings eq Any k s n t → I t
    unfolding Goings
    goings zero s t i going = subst (λ v. I v) (sym going) i
    goings (suc k) s t i going = own going.0 t _ (goings k s going.0 i going.1) going.2

    stepped : (s t : State K V E) (r : Reply K V E) → I s →
        Happens eq Any s (event.Step n) r t → I t
    stepped s t r i h = by (s.calls n) h
      where
        by : (o : Option (Call K V E)) → MatchOption o (Refuses s refusal.UnknownCall r t)
            (λ _. Steps eq s n r t) → I t
        by None h = on s t (refused s t r refusal.UnknownCall h) i
        by (Some c) h = own s t h.turn i h.step

    polled : (s t : State K V E) (r : Reply K V E) → I s →
        Happens eq Any s (event.Poll n) r t → I t
    polled s t r i h = by (s.calls n) h
      where
        by : (o : Option (Call K V E)) → MatchOption o (Refuses s refusal.UnknownCall r t)
            (λ _. Polls eq Any s n r t) → I t
        by None h = on s t (refused s t r refusal.UnknownCall h) i
        by (Some c) h = own h.mid t h.last.turn (goings h.going s h.mid i h.goes) h.last.step

    happens : (s t : State K V E) (e : Event K V E) (r : Reply K V E) → StepsNoOther n e → I s →
        Happens eq Any s e r t → I t
    happens s t (event.Step m) r is i h =
        stepped s t r i (subst (λ v. Happens eq Any s (event.Step v) r t) is h)
    happens s t (event.Poll m) r is i h =
        polled s t r i (subst (λ v. Happens eq Any s (event.Poll v) r t) is h)
    happens s t (event.At moment) r is i h =
        on s t (quiet s t (event.At moment) r tt h) i
    happens s t (event.Start start) r is i h =
        on s t (quiet s t (event.Start start) r tt h) i
    happens s t (event.Tell m a) r is i h = on s t (quiet s t (event.Tell m a) r tt h) i
    happens s t (event.Drop m) r is i h = on s t (quiet s t (event.Drop m) r tt h) i

    -- what every event keeps that steps no other call holds after such events
    pub follow_alone : (s t : State K V E) (es : List (Event K V E)) (rs : List (Reply K V E)) →
        All (StepsNoOther n) es → I s → Run eq Any s es rs t → I t
    follow_alone s t [] [] alone i run = subst (λ v. I v) (sym run) i
    follow_alone s t (e ∷ es) (r ∷ rs) alone i run =
        follow_alone run.0 t es rs (All-tail (StepsNoOther n) e es alone)
        (happens s run.0 e r (All-head (StepsNoOther n) e es alone) i run.1) run.3
    follow_alone s t [] (r ∷ rs) alone i run = absurd run
    follow_alone s t (e ∷ es) [] alone i run = absurd run
