-- Which states a run can reach, and how a run goes on.
use Rattle.std.proofs.Common.{◌<◌, ℕ, zero, suc, Bool, List, [], ◌∷◌, ◌++◌, refl, sym, subst}
use Rattle.moka_hist.specs.State.{Division, State, fresh, Handed}
use Rattle.moka_hist.specs.Step.{Step}
use Rattle.moka_hist.specs.Run.{Divides, Goings, Steps, Happens, Run, Any, IsReached, reply_of}
use Rattle.moka_hist.specs.declared.rules.Rules.{Rules}
use Rattle.moka_hist.specs.declared.events.Event.{Event}
use Rattle.moka_hist.specs.declared.events.Event.TheVariants as event
use Rattle.moka_hist.specs.declared.replies.Reply.{Reply}
use Rattle.moka_hist.specs.declared.accesses.Turn.{Turn}

module _ {K V E : Type 0} (eq : K → K → Bool) where
  pub fresh_reached : (division : Division K) → Divides eq division → (rules : Rules) (size : ℕ) (built : Handed K V) → 0 < size → IsReached {K = K} {V = V} {E = E} eq (fresh K V E division rules size built)
  fresh_reached division divides rules size built has_log = record { division = division; divides = divides; rules = rules; size = size; handed = built; has_log = has_log; events = []; replies = []; run = refl }

  -- a run goes on by one event at its end, through states that meet P
  pub go_on : (P : State K V E → Type 0) (s m t : State K V E) (es : List (Event K V E)) (rs : List (Reply K V E)) (e : Event K V E) (r : Reply K V E) →
      Run eq P s es rs m → Happens eq P m e r t → P t → Run eq P s (es ++ e ∷ []) (rs ++ r ∷ []) t
  go_on P s m t [] [] e r run h p = (t, subst (λ v. Happens eq P v e r t) run h, p, refl)
  go_on P s m t (e0 ∷ es) (r0 ∷ rs) e r run h p = (run.0, run.1, run.2, go_on P run.0 m t es rs e r run.3 h p)
  go_on P s m t [] (r0 ∷ rs) e r run h p = absurd run
  go_on P s m t (e0 ∷ es) [] e r run h p = absurd run

  pub event_reached : (s t : State K V E) (e : Event K V E) (r : Reply K V E) → IsReached eq s → Happens eq Any s e r t → IsReached eq t
  event_reached s t e r h step = record {
    division = h.division;
    divides = h.divides;
    rules = h.rules;
    size = h.size;
    handed = h.handed;
    has_log = h.has_log;
    events = h.events ++ e ∷ [];
    replies = h.replies ++ r ∷ [];
    run = go_on Any (fresh K V E h.division h.rules h.size h.handed) s t h.events h.replies e r h.run step tt;
  }

  pub step_reached : (s t : State K V E) (n : ℕ) (turn : Turn K V E) → IsReached eq s → Step eq s n turn t → IsReached eq t
  step_reached s t n turn h step =
      let steps : Steps eq s n (reply_of turn) t = record { turn = turn; step = step; reply = refl } in
      let happens : Happens eq Any s (event.Step n) (reply_of turn) t = rw step.live steps in
      event_reached s t (event.Step n) (reply_of turn) h happens

  -- the steps of one call, through states that meet P
  pub steps_reached : (P : State K V E → Type 0) (k : ℕ) (s t : State K V E) (n : ℕ) → IsReached eq s → Goings eq P k s n t → IsReached eq t
  unfolding Goings
  steps_reached P zero s t n h going = subst (λ v. IsReached eq v) (sym going) h
  steps_reached P (suc k) s t n h going = step_reached going.0 t n _ (steps_reached P k s going.0 n h going.1) going.2

  pub run_reached : (s t : State K V E) (es : List (Event K V E)) (rs : List (Reply K V E)) → IsReached eq s → Run eq Any s es rs t → IsReached eq t
  run_reached s t [] [] h run = subst (λ v. IsReached eq v) (sym run) h
  run_reached s t (e ∷ es) (r ∷ rs) h run = run_reached run.0 t es rs (event_reached s run.0 e r h run.1) run.3
  run_reached s t [] (r ∷ rs) h run = absurd run
  run_reached s t (e ∷ es) [] h run = absurd run
