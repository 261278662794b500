-- What each event keeps, where it is known that the events lead on.
use Rattle.std.proofs.Common.{◌≢◌, ◌≡◌, ℕ, zero, suc, Bool, true, false, List, [], ◌∷◌, ◌++◌, Option, Some, None, MatchOption, MatchBool, nat_lt, ◌==◌, refl, sym, subst}
use Rattle.moka_hist.specs.State.{State, Call}
use Rattle.moka_hist.specs.Dropping.{dropped}
use Rattle.moka_hist.specs.Telling.{is_asked, heard, is_taken, told_call}
use Rattle.moka_hist.specs.Telling.{told as tells}
use Rattle.moka_hist.specs.Visits.{is_running}
use Rattle.moka_hist.specs.Step.{Step}
use Rattle.moka_hist.specs.Run.{Goings, Steps, Polls, Happens, Run, Any, Refuses, Becomes, Drops, at_moment, started, with_desk, last_call, reply_of}
use Rattle.moka_hist.specs.declared.records.Mode.{Mode}
use Rattle.moka_hist.specs.declared.records.Mode.TheVariants as mode
use Rattle.moka_hist.specs.declared.events.Start.{Start}
use Rattle.moka_hist.specs.declared.events.Told.{Told}
use Rattle.moka_hist.specs.declared.events.Told.TheVariants as told
use Rattle.moka_hist.specs.declared.events.Event.{Event}
use Rattle.moka_hist.specs.declared.events.Event.TheVariants as event
use Rattle.moka_hist.specs.declared.replies.Refusal.{Refusal}
use Rattle.moka_hist.specs.declared.replies.Reply.{Reply}
use Rattle.moka_hist.specs.declared.accesses.Turn.{Turn}
use Rattle.moka_laws.specs.Starting.{HasMade, Leads}

module _ {K V E : Type 0} (eq : K → K → Bool) where
  -- one event leads on; so does a step; and what leads on from there leads on from here
  pub one_leads : (s t : State K V E) (e : Event K V E) (r : Reply K V E) → Happens eq Any s e r t →
      Leads eq s t
  one_leads s t e r h = record { events = e ∷ []; replies = r ∷ []; run = (t, h, tt, refl) }

  pub step_leads : (s t : State K V E) (n : ℕ) (turn : Turn K V E) → Step eq s n turn t → Leads eq s t
  step_leads s t n turn step =
      let steps : Steps eq s n (reply_of turn) t = record
      { turn = turn; step = step; reply = refl } in
      let happens : Happens eq Any s (event.Step n) (reply_of turn) t = rw step.live steps in
      one_leads s t (event.Step n) (reply_of turn) happens

  pub no_leads : (s : State K V E) → Leads eq s s
  no_leads s = record { events = []; replies = []; run = refl }

  run_append : (s m t : State K V E) (es fs : List (Event K V E)) (rs qs : List (Reply K V E)) →
      Run eq Any s es rs m → Run eq Any m fs qs t → Run eq Any s (es ++ fs) (rs ++ qs) t
  run_append s m t [] fs [] qs run more = subst (λ v. Run eq Any v fs qs t) run more
  run_append s m t (e ∷ es) fs (r ∷ rs) qs run more =
      (run.0, run.1, run.2, run_append run.0 m t es fs rs qs run.3 more)
  run_append s m t [] fs (r ∷ rs) qs run more = absurd run
  run_append s m t (e ∷ es) fs [] qs run more = absurd run

  pub leads_more : (s m t : State K V E) → Leads eq s m → Leads eq m t → Leads eq s t
  leads_more s m t l k =
      record {
        events = l.events ++ k.events;
        replies = l.replies ++ k.replies;
        run =
            run_append s m t l.events k.events l.replies k.replies l.run k.run;
      }

  -- a step that made the call what it is was made on the way to what follows
  pub made_on : (s v : State K V E) (n : ℕ)
      (What : State K V E → Call K V E → Turn K V E → State K V E → Type 0) → Leads eq s v →
      HasMade eq s n What → HasMade eq v n What
  made_on s v n What led m = record {
    before = m.before;
    reached = m.reached;
    call = m.call;
    live = m.live;
    turn = m.turn;
    after = m.after;
    step = m.step;
    what = m.what;
    led = leads_more m.after s v m.led led;
  }

  -- each event keeps it, as it leads on
  pub record IsFollowed (I : State K V E → Type 0) : Type 0 where
    pub at : (s : State K V E) (moment : ℕ) → nat_lt moment s.world.desk.clock ≡ false →
        Leads eq s (at_moment s moment) → I s → I (at_moment s moment)
    pub start : (s : State K V E) (start : Start K V) → (s.world.desk.last == last_call) ≡ false →
        Leads eq s (started s start) → I s →
        I (started s start)
    pub step : (s t : State K V E) (n : ℕ) (turn : Turn K V E) → Leads eq s t → I s →
        Step eq s n turn t → I t
    pub tell : (s : State K V E) (n : ℕ) (given : Told V E) → is_taken s.world.desk n given ≡ true →
        Leads eq s (with_desk s (told_call s.world.desk n given)) → I s →
        I (with_desk s (told_call s.world.desk n given))
    pub hear : (s : State K V E) (n : ℕ) (off : Bool) → is_running s.world.desk n ≡ true →
        Leads eq s (with_desk s (heard s.world.desk n off)) → I s → I
        (with_desk s (heard s.world.desk n off))
    pub drop : (s : State K V E) (n : ℕ) (c : Call K V E) → s.calls n ≡ Some c → c.mode ≢ mode.Mid →
        Leads eq s (dropped s n c) → I s →
        I (dropped s n c)

  module _ (I : State K V E → Type 0) (kept : IsFollowed I) where
    refused : (s t : State K V E) (why : Refusal) (r : Reply K V E) → I s → Refuses s why r t → I t
    refused s t why r i h = subst (λ v. I v) (sym h.same) i

    becomes : (s next t : State K V E) (answer r : Reply K V E) → Leads eq s t →
        (Leads eq s next → I next) → Becomes next answer r t → I t
    becomes s next t answer r l f h = subst (λ v. I v) (sym h.after)
        (f (subst (Leads eq s) h.after l))

    goings : (k : ℕ) (s t : State K V E) (n : ℕ) → I s → Goings eq Any k s n t → I t
    unfolding Goings
    goings zero s t n i going = subst (λ v. I v) (sym going) i
    goings (suc k) s t n i going =
        kept.step going.0 t n _ (step_leads going.0 t n _ going.2)
        (goings k s going.0 n i going.1) going.2

    drops : (s t : State K V E) (n : ℕ) (c : Call K V E) (m : Mode) (r : Reply K V E) → s.calls n ≡
        Some c → c.mode ≡ m → Leads eq s t → I s →
        Drops s n c m r t → I t
    drops s t n c mode.Mid r live e l i h = refused s t _ r i h
    drops s t n c _ r live e l i h = becomes s (dropped s n c) t _ r l
        (λ k. kept.drop s n c live (λ f. cc) k i) h

    either : (t : State K V E) (b : Bool) (P Q : Type 0) → (b ≡ true → P → I t) →
        (b ≡ false → Q → I t) → MatchBool b P Q → I t
    either t true P Q on_true on_false h = on_true refl h
    either t false P Q on_true on_false h = on_false refl h

    looked : (t : State K V E) (o : Option (Call K V E)) (P : Type 0) (Q : Call K V E → Type 0) →
        (P → I t) →
        ((c : Call K V E) → o ≡ Some c → Q c → I t) → MatchOption o P Q → I t
    looked t None P Q none some h = none h
    looked t (Some c) P Q none some h = some c refl h

    is_told : (s : State K V E) (n : ℕ) (answer : Told V E) → is_asked s.world.desk n answer ≡ true →
        Leads eq s (with_desk s (tells s.world.desk n answer)) → I s → I
        (with_desk s (tells s.world.desk n answer))
    is_told s n told.Done e l i = kept.hear s n false e l i
    is_told s n told.Off e l i = kept.hear s n true e l i
    is_told s n one e l i = kept.tell s n one e l i

    happens : (s t : State K V E) (e : Event K V E) (r : Reply K V E) → I s → Leads eq s t →
        Happens eq Any s e r t → I t
    happens s t (event.At moment) r i l h =
        either t (nat_lt moment s.world.desk.clock) _ _ (λ _ b. refused s t _ r i b)
        (λ e b. becomes s (at_moment s moment) t _ r l (λ k. kept.at s moment e k i) b) h
    happens s t (event.Start start) r i l h =
        either t (s.world.desk.last == last_call) _ _ (λ _ b. refused s t _ r i b)
        (λ e b. becomes s (started s start) t _ r l (λ k. kept.start s start e k i) b) h
    happens s t (event.Step n) r i l h =
        looked t (s.calls n) _ (λ _. Steps eq s n r t) (refused s t _ r i)
        (λ c e steps. kept.step s t n steps.turn l i steps.step) h
    happens s t (event.Poll n) r i l h =
        looked t (s.calls n) _ (λ _. Polls eq Any s n r t) (refused s t _ r i)
        (λ c e polls. kept.step polls.mid t n polls.last.turn
        (step_leads polls.mid t n polls.last.turn polls.last.step)
        (goings polls.going s polls.mid n i polls.goes) polls.last.step) h
    happens s t (event.Tell n answer) r i l h =
        either t (is_asked s.world.desk n answer) _ _
        (λ e b. becomes s (with_desk s (tells s.world.desk n answer)) t _ r l
        (λ k. is_told s n answer e k i) b) (λ _ b. refused s t _ r i b) h
    happens s t (event.Drop n) r i l h =
        looked t (s.calls n) _ (λ c. Drops s n c c.mode r t) (refused s t _ r i)
        (λ c e d. drops s t n c c.mode r e refl l i d) h

    pub follow : (s t : State K V E) (es : List (Event K V E)) (rs : List (Reply K V E)) → I s →
        Run eq Any s es rs t → I t
    follow s t [] [] i run = subst (λ v. I v) (sym run) i
    follow s t (e ∷ es) (r ∷ rs) i run =
        follow run.0 t es rs (happens s run.0 e r i (one_leads s run.0 e r run.1) run.1) run.3
    follow s t [] (r ∷ rs) i run = absurd run
    follow s t (e ∷ es) [] i run = absurd run
