-- The replies of a run tell which calls are live.
use Rattle.std.proofs.Common.{◌≡◌, ℕ, ◌+◌, ◌==◌, Bool, true, false, cond, not, ◌&&◌, ◌||◌, [], ◌∷◌, Option, Some, None, MatchBool, MatchOption, is_some, nat_lt, refl, sym, ap, ◌∙◌, subst}
use Rattle.std.proofs.lemmas.Bool.{eqb-true}
use Rattle.moka_hist.specs.State.{Call, State}
use Rattle.moka_hist.specs.Dropping.{dropped}
use Rattle.moka_hist.specs.Run.{Any, Becomes, Drops, Happens, Polls, Refuses, Steps, at_moment, fresh_call, last_call, reply_of, started, with_desk}
use Rattle.moka_hist.specs.Step.{Step}
use Rattle.moka_hist.specs.Telling.{is_asked, told}
use Rattle.moka_hist.specs.declared.accesses.Turn.{Turn}
use Rattle.moka_hist.specs.declared.accesses.Turn.TheVariants as turn
use Rattle.moka_hist.specs.declared.events.Event.{Event}
use Rattle.moka_hist.specs.declared.events.Event.TheVariants as event
use Rattle.moka_hist.specs.declared.events.Start.{Start}
use Rattle.moka_hist.specs.declared.records.Mode.{Mode}
use Rattle.moka_hist.specs.declared.records.Mode.TheVariants as mode
use Rattle.moka_hist.specs.declared.replies.Refusal.{Refusal}
use Rattle.moka_hist.specs.declared.replies.Refusal.TheVariants as refusal
use Rattle.moka_hist.specs.declared.replies.Reply.{Reply}
use Rattle.moka_hist.specs.declared.replies.Reply.TheVariants as reply
use Rattle.moka_callers.specs.Living.{LivesByReplies, begins, ends, is_live_after}
use Rattle.moka_callers.proofs.Turning.{goes_on, live_still, others_going, others_still}

-- nothing begins and nothing ends
still : (b : Bool) → b ≡ ((b || false) && true)
still true = refl
still false = refl

came : (b : Bool) → true ≡ ((b || true) && true)
came true = refl
came false = refl

went : (b : Bool) → false ≡ ((b || false) && false)
went true = refl
went false = refl

module _ {K V E : Type 0} (eq : K → K → Bool) (s t : State K V E) (r : Reply K V E) (m : ℕ) where
  -- the call of that number is live, by this event and its reply
  abbrev LivesBy : Event K V E → Type 0
  LivesBy e =
      is_some (t.calls m) ≡ ((is_some (s.calls m) || begins m r) && not (ends m e r))

  refused : (e : Event K V E) (why : Refusal) → Refuses s why r t → LivesBy e
  refused e why h = rw (h.reply, h.same) (by e)
    where
      by : (e : Event K V E) → is_some (s.calls m) ≡
          ((is_some (s.calls m) || false) && not (ends m e (reply.Refused why)))
      by (event.At moment) = still (is_some (s.calls m))
      by (event.Start start) = still (is_some (s.calls m))
      by (event.Step n) = still (is_some (s.calls m))
      by (event.Poll n) = still (is_some (s.calls m))
      by (event.Tell n answer) = still (is_some (s.calls m))
      by (event.Drop n) = still (is_some (s.calls m))

  at_lives : (moment : ℕ) → Happens eq Any s (event.At moment) r t → LivesBy (event.At moment)
  at_lives moment h = by (nat_lt moment s.world.desk.clock) h
    where
      by : (b : Bool) → MatchBool b (Refuses s refusal.ClockBack r t)
          (Becomes (at_moment s moment) reply.At r t) → LivesBy (event.At moment)
      by true h = refused (event.At moment) refusal.ClockBack h
      by false h = rw (h.reply, h.after) (still (is_some (s.calls m)))

  start_lives : (start : Start K V) → Happens eq Any s (event.Start start) r t →
      LivesBy (event.Start start)
  start_lives start h = by (s.world.desk.last == last_call) h
    where
      new : Call K V E
      new = fresh_call s.world.table.division.parts s.world.desk.rules start

      given : (b : Bool) → is_some (cond b (Some new) (s.calls m)) ≡
          ((is_some (s.calls m) || b) && true)
      given true = came (is_some (s.calls m))
      given false = still (is_some (s.calls m))

      by : (b : Bool) → MatchBool b (Refuses s refusal.CallsSpent r t)
          (Becomes (started s start) (reply.Call (s.world.desk.last + 1)) r t) →
          LivesBy (event.Start start)
      by true h = refused (event.Start start) refusal.CallsSpent h
      by false h = rw (h.reply, h.after) (given (s.world.desk.last + 1 == m))

  tell_lives : (n : ℕ) (answer : _) → Happens eq Any s (event.Tell n answer) r t →
      LivesBy (event.Tell n answer)
  tell_lives n answer h = by (is_asked s.world.desk n answer) h
    where
      by : (b : Bool) → MatchBool b
          (Becomes (with_desk s (told s.world.desk n answer)) reply.Told r t)
          (Refuses s refusal.NotAsked r t) → LivesBy (event.Tell n answer)
      by true h = rw (h.reply, h.after) (still (is_some (s.calls m)))
      by false h = refused (event.Tell n answer) refusal.NotAsked h

  drop_lives : (n : ℕ) → Happens eq Any s (event.Drop n) r t → LivesBy (event.Drop n)
  drop_lives n h = by (s.calls n) h
    where
      here : (b : Bool) → is_some (cond b None (s.calls m)) ≡
          ((is_some (s.calls m) || false) && not b)
      here true = went (is_some (s.calls m))
      here false = still (is_some (s.calls m))

      gone : (c : Call K V E) → Becomes (dropped s n c) reply.Dropped r t → LivesBy (event.Drop n)
      gone c h = rw (h.reply, h.after) (here (n == m))

      live_so : (c : Call K V E) (in_mode : Mode) → Drops s n c in_mode r t → LivesBy (event.Drop n)
      live_so c mode.Mid h = refused (event.Drop n) refusal.NotParked h
      live_so c mode.Fresh h = gone c h
      live_so c mode.Parked h = gone c h

      by : (o : Option (Call K V E)) → MatchOption o (Refuses s refusal.UnknownCall r t)
          (λ c. Drops s n c c.mode r t) → LivesBy (event.Drop n)
      by None h = refused (event.Drop n) refusal.UnknownCall h
      by (Some c) h = live_so c c.mode h

module _ {K V E : Type 0} (m : ℕ) where
  -- what a call that was live, or wasn't, is by a step's reply
  abbrev by_turn : Bool → Bool → Turn K V E → Bool
  by_turn was same (turn.Answer a) = (was || false) && not same
  by_turn was same _ = (was || false) && true

  own_turn : (turn : Turn K V E) → goes_on turn ≡ by_turn true true turn
  own_turn turn.Going = refl
  own_turn turn.Wait = refl
  own_turn (turn.Ask ask) = refl
  own_turn (turn.Answer answer) = refl
  own_turn (turn.Item key value) = refl

  other_turn : (b : Bool) (turn : Turn K V E) → b ≡ by_turn b false turn
  other_turn b turn.Going = still b
  other_turn b turn.Wait = still b
  other_turn b (turn.Ask ask) = still b
  other_turn b (turn.Answer answer) = still b
  other_turn b (turn.Item key value) = still b

  step_reads : (was : Bool) (n : ℕ) (turn : Turn K V E) → by_turn was (n == m) turn ≡
      ((was || begins m (reply_of turn)) && not (ends m (event.Step n) (reply_of turn)))
  step_reads was n turn.Going = refl
  step_reads was n turn.Wait = refl
  step_reads was n (turn.Ask ask) = refl
  step_reads was n (turn.Answer answer) = refl
  step_reads was n (turn.Item key value) = refl

  poll_reads : (was : Bool) (n : ℕ) (turn : Turn K V E) → by_turn was (n == m) turn ≡
      ((was || begins m (reply_of turn)) && not (ends m (event.Poll n) (reply_of turn)))
  poll_reads was n turn.Going = refl
  poll_reads was n turn.Wait = refl
  poll_reads was n (turn.Ask ask) = refl
  poll_reads was n (turn.Answer answer) = refl
  poll_reads was n (turn.Item key value) = refl

module _ {K V E : Type 0} (eq : K → K → Bool) (s t : State K V E) (n m : ℕ) where
  -- the last step of an event of the call of this number, which was live before
  turned : (mid : State K V E) (turn : Turn K V E) → Step eq mid n turn t →
      is_some (s.calls n) ≡ true → ((n == m) ≡ false → mid.calls m ≡ s.calls m) →
      is_some (t.calls m) ≡ by_turn m (is_some (s.calls m)) (n == m) turn
  turned mid turn step live still_mid = by (n == m) refl
    where
      by : (b : Bool) → (n == m) ≡ b →
          is_some (t.calls m) ≡ by_turn m (is_some (s.calls m)) b turn
      by true same =
          subst (λ k. is_some (t.calls k) ≡ by_turn m (is_some (s.calls k)) true turn)
          (eqb-true n m same)
          (live_still eq mid t n turn step ∙ own_turn m turn ∙
          ap (λ b. by_turn m b true turn) (sym live))
      by false other =
          ap is_some (others_still eq mid t n m turn other step ∙ still_mid other) ∙
          other_turn m (is_some (s.calls m)) turn

  step_lives : (r : Reply K V E) → Happens eq Any s (event.Step n) r t →
      LivesBy eq s t r m (event.Step n)
  step_lives r h = by (s.calls n) refl h
    where
      by : (o : Option (Call K V E)) → s.calls n ≡ o →
          MatchOption o (Refuses s refusal.UnknownCall r t) (λ _. Steps eq s n r t) →
          LivesBy eq s t r m (event.Step n)
      by None is h = refused eq s t r m (event.Step n) refusal.UnknownCall h
      by (Some c) live h = rw h.reply
          (turned s h.turn h.step (ap is_some live) (λ other. refl) ∙
          step_reads m (is_some (s.calls m)) n h.turn)

  poll_lives : (r : Reply K V E) → Happens eq Any s (event.Poll n) r t →
      LivesBy eq s t r m (event.Poll n)
  poll_lives r h = by (s.calls n) refl h
    where
      by : (o : Option (Call K V E)) → s.calls n ≡ o →
          MatchOption o (Refuses s refusal.UnknownCall r t) (λ _. Polls eq Any s n r t) →
          LivesBy eq s t r m (event.Poll n)
      by None is h = refused eq s t r m (event.Poll n) refusal.UnknownCall h
      by (Some c) live h = rw h.last.reply
          (turned h.mid h.last.turn h.last.step (ap is_some live)
          (λ other. others_going eq h.going s h.mid n m other h.goes) ∙
          poll_reads m (is_some (s.calls m)) n h.last.turn)

module _ {K V E : Type 0} (eq : K → K → Bool) where
  event_lives : (s t : State K V E) (e : Event K V E) (r : Reply K V E) (m : ℕ) →
      Happens eq Any s e r t → LivesBy eq s t r m e
  event_lives s t (event.At moment) r m h = at_lives eq s t r m moment h
  event_lives s t (event.Start start) r m h = start_lives eq s t r m start h
  event_lives s t (event.Step n) r m h = step_lives eq s t n m r h
  event_lives s t (event.Poll n) r m h = poll_lives eq s t n m r h
  event_lives s t (event.Tell n answer) r m h = tell_lives eq s t r m n answer h
  event_lives s t (event.Drop n) r m h = drop_lives eq s t r m n h

  pub lives : LivesByReplies K V E eq
  lives s t n [] [] run = ap (λ (v : State K V E). is_some (v.calls n)) run
  lives s t n (e ∷ es) (r ∷ rs) run =
      lives run.0 t n es rs run.3 ∙
      ap (λ b. is_live_after n b es rs) (event_lives s run.0 e r n run.1)
  lives s t n [] (r ∷ rs) run = absurd run
  lives s t n (e ∷ es) [] run = absurd run
