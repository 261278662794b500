-- Two runs from alike states reply the same, and end in alike states.
use Rattle.std.proofs.Common.{◌≡◌, ℕ, ◌+◌, ◌==◌, nat_lt, Bool, true, false, List, [], ◌∷◌, Option, Some, None, MatchBool, MatchOption, refl, sym, ap, ◌∙◌, subst}
use Rattle.std.specs.Cmp.{IsEquivalence}
use Rattle.std.specs.List.{AllByRecursion}
use Rattle.moka_hist.specs.Dropping.{dropped}
use Rattle.moka_hist.specs.Run.{Any, Becomes, Drops, Happens, IsReached, Polls, Refuses, Run, at_moment, last_call, started, with_desk}
use Rattle.moka_hist.specs.State.{Call, State, Stay}
use Rattle.moka_hist.specs.Telling.{is_asked, told}
use Rattle.moka_hist.specs.declared.events.Event.{Event}
use Rattle.moka_hist.specs.declared.events.Event.TheVariants as event
use Rattle.moka_hist.specs.declared.records.Mode.{Mode}
use Rattle.moka_hist.specs.declared.records.Mode.TheVariants as mode
use Rattle.moka_hist.specs.declared.replies.Refusal.{Refusal}
use Rattle.moka_hist.specs.declared.replies.Refusal.TheVariants as refusal
use Rattle.moka_hist.specs.declared.replies.Reply.{Reply}
use Rattle.moka_hist.specs.declared.replies.Reply.TheVariants as reply
use Rattle.moka_laws.proofs.Reached.{event_reached}
use Rattle.moka_same.specs.Alike.{Alike, IsWhole}
use Rattle.moka_same.specs.Determined.{EndsAlike, RunsAreDetermined}
use Rattle.moka_same.proofs.Polls.{Both, poll_same}
use Rattle.moka_same.proofs.Quiet.{QuietState, event_quiet, reached_quiet}
use Rattle.moka_same.proofs.Same.{alike_state, with_stay}

module _ {K V E : Type 0} where
  stays_alike : (s : State K V E) (stay : Stay) → Alike s (with_stay s stay)
  stays_alike s stay = record { table = refl; desk = refl; calls = refl }

  -- what equals alike states is alike
  alike_as : (s u t v : State K V E) → t ≡ s → v ≡ u → Alike s u → Alike t v
  alike_as s u t v e f h = subst (λ x. Alike x v) (sym e) (subst (λ x. Alike s x) (sym f) h)

  refused_same : (s u t v : State K V E) (why : Refusal) (r q : Reply K V E) → Alike s u →
      Refuses s why r t → Refuses u why q v → Both r q t v
  refused_same s u t v why r q alike h g = record {
    says = g.reply ∙ sym h.reply;
    states = alike_as s u t v h.same g.same alike;
  }

  becomes_same : (x y t v : State K V E) (said r q : Reply K V E) → Alike x y →
      Becomes x said r t → Becomes y said q v → Both r q t v
  becomes_same x y t v said r q alike h g = record {
    says = g.reply ∙ sym h.reply;
    states = alike_as x y t v h.after g.after alike;
  }

module _ {K V E : Type 0} (eq : K → K → Bool) (laws : IsEquivalence eq) where
  drops_same : (s t v : State K V E) (stay : Stay) (n : ℕ) (c : Call K V E) (m : Mode)
      (r q : Reply K V E) → Drops s n c m r t → Drops (with_stay s stay) n c m q v → Both r q t v
  drops_same s t v stay n c mode.Mid r q h g =
      refused_same s (with_stay s stay) t v refusal.NotParked r q (stays_alike s stay) h g
  drops_same s t v stay n c _ r q h g =
      becomes_same (dropped s n c) (dropped (with_stay s stay) n c) t v reply.Dropped r q
      (record { table = refl; desk = refl; calls = refl }) h g

  -- an event on a state, and on one that differs by how long an operation has stayed undecided
  happens_same : (s t v : State K V E) (stay : Stay) (e : Event K V E) (r q : Reply K V E) →
      IsReached eq s → IsReached eq (with_stay s stay) → QuietState s → IsWhole e →
      Happens eq Any s e r t → Happens eq Any (with_stay s stay) e q v → Both r q t v
  happens_same s t v stay (event.At moment) r q reached also quiet whole h g =
      by (nat_lt moment s.world.desk.clock) h g
    where
      u : State K V E
      u = with_stay s stay

      by : (b : Bool) → MatchBool b (Refuses s refusal.ClockBack r t)
          (Becomes (at_moment s moment) reply.At r t) →
          MatchBool b (Refuses u refusal.ClockBack q v)
          (Becomes (at_moment u moment) reply.At q v) → Both r q t v
      by true h g = refused_same s u t v refusal.ClockBack r q (stays_alike s stay) h g
      by false h g = becomes_same (at_moment s moment) (at_moment u moment) t v reply.At r q
          (record { table = refl; desk = refl; calls = refl }) h g
  happens_same s t v stay (event.Start begin) r q reached also quiet whole h g =
      by (s.world.desk.last == last_call) h g
    where
      u : State K V E
      u = with_stay s stay

      by : (b : Bool) → MatchBool b (Refuses s refusal.CallsSpent r t)
          (Becomes (started s begin) (reply.Call (s.world.desk.last + 1)) r t) →
          MatchBool b (Refuses u refusal.CallsSpent q v)
          (Becomes (started u begin) (reply.Call (s.world.desk.last + 1)) q v) → Both r q t v
      by true h g = refused_same s u t v refusal.CallsSpent r q (stays_alike s stay) h g
      by false h g = becomes_same (started s begin) (started u begin) t v
          (reply.Call (s.world.desk.last + 1)) r q
          (record { table = refl; desk = refl; calls = refl }) h g
  happens_same s t v stay (event.Tell n answer) r q reached also quiet whole h g =
      by (is_asked s.world.desk n answer) h g
    where
      u : State K V E
      u = with_stay s stay

      by : (b : Bool) → MatchBool b
          (Becomes (with_desk s (told s.world.desk n answer)) reply.Told r t)
          (Refuses s refusal.NotAsked r t) →
          MatchBool b (Becomes (with_desk u (told s.world.desk n answer)) reply.Told q v)
          (Refuses u refusal.NotAsked q v) → Both r q t v
      by true h g = becomes_same (with_desk s (told s.world.desk n answer))
          (with_desk u (told s.world.desk n answer)) t v reply.Told r q
          (record { table = refl; desk = refl; calls = refl }) h g
      by false h g = refused_same s u t v refusal.NotAsked r q (stays_alike s stay) h g
  happens_same s t v stay (event.Drop n) r q reached also quiet whole h g = by (s.calls n) h g
    where
      u : State K V E
      u = with_stay s stay

      by : (o : Option (Call K V E)) → MatchOption o (Refuses s refusal.UnknownCall r t)
          (λ c. Drops s n c c.mode r t) → MatchOption o (Refuses u refusal.UnknownCall q v)
          (λ c. Drops u n c c.mode q v) → Both r q t v
      by None h g = refused_same s u t v refusal.UnknownCall r q (stays_alike s stay) h g
      by (Some c) h g = drops_same s t v stay n c c.mode r q h g
  happens_same s t v stay (event.Poll n) r q reached also quiet whole h g = by (s.calls n) h g
    where
      u : State K V E
      u = with_stay s stay

      by : (o : Option (Call K V E)) → MatchOption o (Refuses s refusal.UnknownCall r t)
          (λ _. Polls eq Any s n r t) → MatchOption o (Refuses u refusal.UnknownCall q v)
          (λ _. Polls eq Any u n q v) → Both r q t v
      by None h g = refused_same s u t v refusal.UnknownCall r q (stays_alike s stay) h g
      by (Some c) h g =
          poll_same eq laws n s u t v r q reached also quiet (stays_alike s stay) h g
  happens_same s t v stay (event.Step n) r q reached also quiet whole h g = absurd whole

  event_same : (s u t v : State K V E) (e : Event K V E) (r q : Reply K V E) → IsReached eq s →
      IsReached eq u → QuietState s → Alike s u → IsWhole e → Happens eq Any s e r t →
      Happens eq Any u e q v → Both r q t v
  event_same s u t v e r q reached also quiet alike whole h g =
      happens_same s t v u.world.stay e r q reached
      (subst (λ x. IsReached eq x) (alike_state s u alike) also) quiet whole h
      (subst (λ x. Happens eq Any x e q v) (alike_state s u alike) g)

  runs_same : (s u t v : State K V E) (es : List (Event K V E)) (rs qs : List (Reply K V E)) →
      IsReached eq s → IsReached eq u → QuietState s → Alike s u → AllByRecursion IsWhole es →
      Run eq Any s es rs t → Run eq Any u es qs v → EndsAlike rs t qs v
  runs_same s u t v [] [] [] reached also quiet alike whole h g =
      record { replies = refl; states = alike_as s u t v h g alike }
  runs_same s u t v (e ∷ es) (r ∷ rs) (q ∷ qs) reached also quiet alike whole h g =
      let both = event_same s u h.0 g.0 e r q reached also quiet alike whole.0 h.1 g.1 in
      first_too r q h.0 g.0 both (runs_same h.0 g.0 t v es rs qs
      (event_reached eq s h.0 e r reached h.1) (event_reached eq u g.0 e q also g.1)
      (event_quiet eq s h.0 e r whole.0 quiet h.1) both.states whole.1 h.3 g.3)
    where
      first_too : (r q : Reply K V E) (m o : State K V E) → Both r q m o → EndsAlike rs t qs v →
          EndsAlike (r ∷ rs) t (q ∷ qs) v
      first_too r q m o both later = record {
        replies = ap (λ x. x ∷ qs) both.says ∙ ap (λ xs. r ∷ xs) later.replies;
        states = later.states;
      }
  runs_same s u t v [] (r ∷ rs) qs reached also quiet alike whole h g = absurd h
  runs_same s u t v (e ∷ es) [] qs reached also quiet alike whole h g = absurd h
  runs_same s u t v [] [] (q ∷ qs) reached also quiet alike whole h g = absurd g
  runs_same s u t v (e ∷ es) (r ∷ rs) [] reached also quiet alike whole h g = absurd g

  pub determined : RunsAreDetermined K V E eq
  determined s t u es rs qs reached none whole h g =
      runs_same s s t u es rs qs reached reached (reached_quiet eq s reached none)
      (record { table = refl; desk = refl; calls = refl }) whole h g
