-- What a run is made of.
use Rattle.std.proofs.Common.{◌≡◌, inl, inr, ℕ, zero, suc, Bool, List, [], ◌∷◌, ◌++◌, replicate, Option, Some, None, MatchOption, refl, ap, subst}
use Rattle.moka_hist.specs.State.{Call, State}
use Rattle.moka_hist.specs.Run.{Any, Goings, Happens, IsReached, Polls, Refuses, Run, Steps}
use Rattle.moka_hist.specs.declared.accesses.Turn.TheVariants as turn
use Rattle.moka_hist.specs.declared.events.Event.{Event}
use Rattle.moka_hist.specs.declared.events.Event.TheVariants as event
use Rattle.moka_hist.specs.declared.replies.Refusal.TheVariants as refusal
use Rattle.moka_hist.specs.declared.replies.Reply.{Reply}
use Rattle.moka_hist.specs.declared.replies.Reply.TheVariants as reply
use Rattle.moka_laws.proofs.Counting.{none_some}
use Rattle.moka_laws.proofs.Reached.{steps_reached}
use Rattle.moka_callers.specs.Running.{IsLastStep, PollsAreSteps, RepliesAreSteps, Splits, RunSplits, RunsJoin}

-- one more at the end of equal ones is one more at their beginning
shifted : {A : Type 0} (k : ℕ) (x : A) (xs : List A) →
    replicate k x ++ x ∷ xs ≡ x ∷ replicate k x ++ xs
shifted zero x xs = refl
shifted (suc k) x xs = ap (λ v. x ∷ v) (shifted k x xs)

module _ {K V E : Type 0} (eq : K → K → Bool) where
  pub splits : RunSplits K V E eq
  splits s t [] fs rs run = record {
    first = [];
    then = rs;
    whole = refl;
    mid = s;
    begins = refl;
    goes_on = run;
  }
  splits s t (e ∷ es) fs (r ∷ rs) run =
      let rest : Splits eq run.0 es fs rs t = splits run.0 t es fs rs run.3 in
      record {
        first = r ∷ rest.first;
        then = rest.then;
        whole = ap (λ v. r ∷ v) rest.whole;
        mid = rest.mid;
        begins = (run.0, run.1, run.2, rest.begins);
        goes_on = rest.goes_on;
      }
  splits s t (e ∷ es) fs [] run = absurd run

  pub joined : RunsJoin K V E eq
  joined s mid t [] fs [] then a b = subst (λ v. Run eq Any v fs then t) a b
  joined s mid t (e ∷ es) fs (r ∷ rs) then a b =
      (a.0, a.1, a.2, joined a.0 mid t es fs rs then a.3 b)
  joined s mid t [] fs (r ∷ rs) then a b = absurd a
  joined s mid t (e ∷ es) fs [] then a b = absurd a

  -- of a live call it is no refusal
  live_one : (o : Option (Call K V E)) (c : Call K V E) → o ≡ Some c → (P : Type 0)
      (Q : Call K V E → Type 0) → MatchOption o P Q → Q c
  live_one None c e P Q h = absurd (none_some e)
  live_one (Some b) c e P Q h = subst Q (by e) h
    where
      by : Some b ≡ Some c → b ≡ c
      by e = cc

  of_poll : (s t : State K V E) (n : ℕ) (r : Reply K V E) → IsReached eq s →
      Polls eq Any s n r t → IsLastStep eq s n r t
  of_poll s t n r reached p = record {
    going = p.going;
    before = p.mid;
    goes = p.goes;
    reached = steps_reached eq Any p.going s p.mid n reached p.goes;
    turn = p.last.turn;
    step = p.last.step;
    reply = p.last.reply;
  }

  of_step : (s t : State K V E) (n : ℕ) (r : Reply K V E) → IsReached eq s →
      Steps eq s n r t → IsLastStep eq s n r t
  unfolding Goings
  of_step s t n r reached p = record {
    going = 0;
    before = s;
    goes = refl;
    reached = reached;
    turn = p.turn;
    step = p.step;
    reply = p.reply;
  }

  pub steps : RepliesAreSteps K V E eq
  steps s t n c e r reached live (inl is) h =
      of_poll s t n r reached
      (live_one (s.calls n) c live (Refuses s refusal.UnknownCall r t) (λ _. Polls eq Any s n r t)
      (subst (λ v. Happens eq Any s v r t) is h))
  steps s t n c e r reached live (inr is) h =
      of_step s t n r reached
      (live_one (s.calls n) c live (Refuses s refusal.UnknownCall r t) (λ _. Steps eq s n r t)
      (subst (λ v. Happens eq Any s v r t) is h))

  -- a step is what its event makes
  stepped : (s t : State K V E) (n : ℕ) (r : Reply K V E) → Steps eq s n r t →
      Happens eq Any s (event.Step n) r t
  stepped s t n r steps = rw steps.step.live steps

  -- steps that leave the call going are a run of as many step events
  pub goings_run : (k : ℕ) (s m t : State K V E) (n : ℕ) (es : List (Event K V E))
      (rs : List (Reply K V E)) → Goings eq Any k s n m → Run eq Any m es rs t →
      Run eq Any s (replicate k (event.Step n) ++ es) (replicate k reply.Going ++ rs) t
  unfolding Goings
  goings_run zero s m t n es rs goes run = subst (λ v. Run eq Any v es rs t) goes run
  goings_run (suc k) s m t n es rs goes run =
      let one : Run eq Any goes.0 (event.Step n ∷ es) (reply.Going ∷ rs) t = (
        m,
        stepped goes.0 m n reply.Going (record { turn = turn.Going; step = goes.2; reply = refl }),
        tt,
        run,
      ) in
      subst (λ v. Run eq Any s v (reply.Going ∷ replicate k reply.Going ++ rs) t)
      (shifted k (event.Step n) es)
      (subst (λ v. Run eq Any s (replicate k (event.Step n) ++ event.Step n ∷ es) v t)
      (shifted k reply.Going rs)
      (goings_run k s goes.0 t n (event.Step n ∷ es) (reply.Going ∷ rs) goes.1 one))

  pub polls : PollsAreSteps K V E eq
  polls s t n c r live h =
      let p : Polls eq Any s n r t = live_one (s.calls n) c live
      (Refuses s refusal.UnknownCall r t) (λ _. Polls eq Any s n r t) h in
      record {
        going = p.going;
        run = goings_run p.going s p.mid t n (event.Step n ∷ []) (r ∷ []) p.goes
            (t, stepped p.mid t n r p.last, tt, refl);
        ends = p.ends;
      }
