-- A run gives the next numbers, in order.
use Rattle.std.proofs.Common.{◌≡◌, ◌⊎◌, inl, inr, ℕ, zero, suc, ◌+◌, ◌==◌, Bool, true, false, List, [], ◌∷◌, ◌++◌, length, Option, Some, None, MatchBool, MatchOption, nat_lt, refl, sym, ap, ◌∙◌, subst, arith}
use Rattle.moka_hist.specs.State.{Call, State}
use Rattle.moka_hist.specs.Dropping.{dropped}
use Rattle.moka_hist.specs.Run.{Any, Becomes, Drops, Goings, Happens, Polls, Refuses, Steps, at_moment, last_call, reply_of, started, with_desk}
use Rattle.moka_hist.specs.Telling.{is_asked, told}
use Rattle.moka_hist.specs.declared.accesses.Turn.{Turn}
use Rattle.moka_hist.specs.declared.accesses.Turn.TheVariants as turn
use Rattle.moka_hist.specs.declared.events.Event.{Event}
use Rattle.moka_hist.specs.declared.events.Event.TheVariants as event
use Rattle.moka_hist.specs.declared.events.Start.{Start}
use Rattle.moka_hist.specs.declared.events.Told.{Told}
use Rattle.moka_hist.specs.declared.events.Told.TheVariants as answer
use Rattle.moka_hist.specs.declared.records.Mode.{Mode}
use Rattle.moka_hist.specs.declared.records.Mode.TheVariants as mode
use Rattle.moka_hist.specs.declared.replies.Refusal.{Refusal}
use Rattle.moka_hist.specs.declared.replies.Refusal.TheVariants as refusal
use Rattle.moka_hist.specs.declared.replies.Reply.{Reply}
use Rattle.moka_hist.specs.declared.replies.Reply.TheVariants as reply
use Rattle.moka_laws.proofs.Steady.{step_last}
use Rattle.moka_callers.specs.Living.{GivesNext, NumbersGoUp, numbers_after, numbers_in}

-- these are the numbers after that one, in order
abbrev InOrder : ℕ → List ℕ → Type 0
InOrder last numbers = numbers ≡ numbers_after last (length numbers)

one_more : (last : ℕ) (numbers : List ℕ) → InOrder (last + 1) numbers →
    InOrder last ((last + 1) ∷ numbers)
one_more last numbers h = ap (λ v. (last + 1) ∷ v) h

module _ {K V E : Type 0} where
  -- the number that a reply gives, if any
  abbrev given_by : Reply K V E → List ℕ
  given_by (reply.Call n) = n ∷ []
  given_by _ = []

  first_of : (r : Reply K V E) (rs : List (Reply K V E)) →
      numbers_in (r ∷ rs) ≡ given_by r ++ numbers_in rs
  first_of (reply.Call n) rs = refl
  first_of _ rs = refl

  -- a step gives none
  none_given : (turn : Turn K V E) → given_by (reply_of turn) ≡ []
  none_given turn.Going = refl
  none_given turn.Wait = refl
  none_given (turn.Ask ask) = refl
  none_given (turn.Answer answer) = refl
  none_given (turn.Item key value) = refl

  -- an event gives no number, or the next one
  abbrev Gives : State K V E → Reply K V E → State K V E → Type 0
  Gives s r t =
      ((given_by r ≡ []) × (t.world.desk.last ≡ s.world.desk.last)) ⊎
      ((given_by r ≡ (s.world.desk.last + 1) ∷ []) × (t.world.desk.last ≡ s.world.desk.last + 1))

  told_last : (s : State K V E) (n : ℕ) (a : Told V E) →
      (told s.world.desk n a).last ≡ s.world.desk.last
  told_last s n (answer.Value value) = refl
  told_last s n answer.Nothing = refl
  told_last s n (answer.Err error) = refl
  told_last s n (answer.Op op) = refl
  told_last s n answer.Done = refl
  told_last s n answer.Off = refl

  module _ (s t : State K V E) (r : Reply K V E) where
    refused : (why : Refusal) → Refuses s why r t → Gives s r t
    refused why h = inl (
      ap (λ v. given_by v) h.reply,
      ap (λ (v : State K V E). v.world.desk.last) h.same,
    )

    becomes : (next : State K V E) (said : Reply K V E) → given_by said ≡ [] →
        next.world.desk.last ≡ s.world.desk.last → Becomes next said r t → Gives s r t
    becomes next said none last h = inl (
      ap (λ v. given_by v) h.reply ∙ none,
      ap (λ (v : State K V E). v.world.desk.last) h.after ∙ last,
    )

module _ {K V E : Type 0} (eq : K → K → Bool) where
  goings_last : (k : ℕ) (s t : State K V E) (n : ℕ) → Goings eq Any k s n t →
      t.world.desk.last ≡ s.world.desk.last
  unfolding Goings
  goings_last zero s t n going = ap (λ (v : State K V E). v.world.desk.last) going
  goings_last (suc k) s t n going =
      step_last eq going.0 t n _ going.2 ∙ goings_last k s going.0 n going.1

  module _ (s t : State K V E) (r : Reply K V E) where
    at_gives : (moment : ℕ) (b : Bool) → MatchBool b (Refuses s refusal.ClockBack r t)
        (Becomes (at_moment s moment) reply.At r t) → Gives s r t
    at_gives moment true h = refused s t r refusal.ClockBack h
    at_gives moment false h = becomes s t r (at_moment s moment) reply.At refl refl h

    start_gives : (start : Start K V) (b : Bool) → MatchBool b (Refuses s refusal.CallsSpent r t)
        (Becomes (started s start) (reply.Call (s.world.desk.last + 1)) r t) → Gives s r t
    start_gives start true h = refused s t r refusal.CallsSpent h
    start_gives start false h = inr (
      ap (λ v. given_by v) h.reply,
      ap (λ (v : State K V E). v.world.desk.last) h.after,
    )

    step_gives : (n : ℕ) (o : Option (Call K V E)) → MatchOption o
        (Refuses s refusal.UnknownCall r t) (λ _. Steps eq s n r t) → Gives s r t
    step_gives n None h = refused s t r refusal.UnknownCall h
    step_gives n (Some c) h = inl (
      ap (λ v. given_by v) h.reply ∙ none_given h.turn,
      step_last eq s t n h.turn h.step,
    )

    poll_gives : (n : ℕ) (o : Option (Call K V E)) → MatchOption o
        (Refuses s refusal.UnknownCall r t) (λ _. Polls eq Any s n r t) → Gives s r t
    poll_gives n None h = refused s t r refusal.UnknownCall h
    poll_gives n (Some c) h = inl (
      ap (λ v. given_by v) h.last.reply ∙ none_given h.last.turn,
      step_last eq h.mid t n h.last.turn h.last.step ∙ goings_last h.going s h.mid n h.goes,
    )

    tell_gives : (n : ℕ) (a : Told V E) (b : Bool) → MatchBool b
        (Becomes (with_desk s (told s.world.desk n a)) reply.Told r t)
        (Refuses s refusal.NotAsked r t) → Gives s r t
    tell_gives n a true h = becomes s t r (with_desk s (told s.world.desk n a)) reply.Told refl
        (told_last s n a) h
    tell_gives n a false h = refused s t r refusal.NotAsked h

    dropped_gives : (n : ℕ) (c : Call K V E) (in_mode : Mode) → Drops s n c in_mode r t →
        Gives s r t
    dropped_gives n c mode.Mid h = refused s t r refusal.NotParked h
    dropped_gives n c mode.Fresh h = becomes s t r (dropped s n c) reply.Dropped refl refl h
    dropped_gives n c mode.Parked h = becomes s t r (dropped s n c) reply.Dropped refl refl h

    drop_gives : (n : ℕ) (o : Option (Call K V E)) → MatchOption o
        (Refuses s refusal.UnknownCall r t) (λ c. Drops s n c c.mode r t) → Gives s r t
    drop_gives n None h = refused s t r refusal.UnknownCall h
    drop_gives n (Some c) h = dropped_gives n c c.mode h

  event_gives : (s t : State K V E) (e : Event K V E) (r : Reply K V E) →
      Happens eq Any s e r t → Gives s r t
  event_gives s t (event.At moment) r h = at_gives s t r moment (nat_lt moment s.world.desk.clock) h
  event_gives s t (event.Start start) r h =
      start_gives s t r start (s.world.desk.last == last_call) h
  event_gives s t (event.Step n) r h = step_gives s t r n (s.calls n) h
  event_gives s t (event.Poll n) r h = poll_gives s t r n (s.calls n) h
  event_gives s t (event.Tell n a) r h = tell_gives s t r n a (is_asked s.world.desk n a) h
  event_gives s t (event.Drop n) r h = drop_gives s t r n (s.calls n) h

  goes_up : (s mid t : State K V E) (r : Reply K V E) (rs : List (Reply K V E)) → Gives s r mid →
      GivesNext mid rs t → GivesNext s (r ∷ rs) t
  goes_up s mid t r rs (inl none) h =
      let same : numbers_in (r ∷ rs) ≡ numbers_in rs =
      first_of r rs ∙ ap (λ v. v ++ numbers_in rs) none.0 in
      record {
        in_order = subst (λ v. InOrder s.world.desk.last v) (sym same)
            (subst (λ k. InOrder k (numbers_in rs)) none.1 h.in_order);
        last = subst (λ v. t.world.desk.last ≡ s.world.desk.last + length v) (sym same)
            (subst (λ k. t.world.desk.last ≡ k + length (numbers_in rs)) none.1 h.last);
      }
  goes_up s mid t r rs (inr one) h =
      let same : numbers_in (r ∷ rs) ≡ (s.world.desk.last + 1) ∷ numbers_in rs =
      first_of r rs ∙ ap (λ v. v ++ numbers_in rs) one.0 in
      record {
        in_order = subst (λ v. InOrder s.world.desk.last v) (sym same)
            (one_more s.world.desk.last (numbers_in rs)
            (subst (λ k. InOrder k (numbers_in rs)) one.1 h.in_order));
        last = subst (λ v. t.world.desk.last ≡ s.world.desk.last + length v) (sym same)
            (omega (arith, h.last, one.1));
      }

  pub go_up : NumbersGoUp K V E eq
  go_up s t [] [] run =
      record { in_order = refl; last = omega (arith, ap (λ (v : State K V E). v.world.desk.last) run) }
  go_up s t (e ∷ es) (r ∷ rs) run =
      goes_up s run.0 t r rs (event_gives s run.0 e r run.1) (go_up run.0 t es rs run.3)
  go_up s t [] (r ∷ rs) run = absurd run
  go_up s t (e ∷ es) [] run = absurd run
