-- No two calls of a run have one number.
use Rattle.std.proofs.Common.{◌≡◌, ℕ, ◌+◌, ◌<◌, ◌≤◌, ◌==◌, Bool, true, false, List, [], ◌∷◌, MatchBool, inl, inr, refl, sym, ◌∙◌, subst, arith}
use Rattle.moka_hist.specs.State.{State}
use Rattle.moka_hist.specs.Run.{Any, Becomes, Happens, Refuses, Run, last_call, started}
use Rattle.moka_hist.specs.declared.events.Event.{Event}
use Rattle.moka_hist.specs.declared.events.Event.TheVariants as event
use Rattle.moka_hist.specs.declared.events.Start.{Start}
use Rattle.moka_hist.specs.declared.replies.Refusal.TheVariants as refusal
use Rattle.moka_hist.specs.declared.replies.Reply.{Reply}
use Rattle.moka_hist.specs.declared.replies.Reply.TheVariants as reply
use Rattle.moka_laws.specs.Given.{HasStarted}
use Rattle.moka_laws.proofs.Kept.{IsStable, runs}
use Rattle.moka_laws.proofs.Starting.{no_refusal, same_call}
use Rattle.moka_laws.proofs.Steady.{step_last}

same_start : {K V E : Type 0} (a b : Start K V) →
    ◌≡◌ {A = Event K V E} (event.Start a) (event.Start b) → a ≡ b
same_start a b e = cc

module _ {K V E : Type 0} (eq : K → K → Bool) where
  numbers_grow : (k : ℕ) → IsStable {K = K} {V = V} {E = E} eq (λ v. k ≤ v.world.desk.last)
  numbers_grow k = record {
    at = λ s moment i. i;
    start = λ s start i. omega (arith, i);
    step = λ s t n turn i step. omega (arith, i, step_last eq s t n turn step);
    tell = λ s n value asked i. i;
    hear = λ s n off running i. i;
    drop = λ s n c live between i. i;
  }

  grows : (k : ℕ) (s t : State K V E) (e : Event K V E) (r : Reply K V E) →
      k ≤ s.world.desk.last → Happens eq Any s e r t → k ≤ t.world.desk.last
  grows k s t e r i h = runs eq (λ v. k ≤ v.world.desk.last) (numbers_grow k) s t (e ∷ []) (r ∷ []) i
      (t, h, tt, refl)

  -- a call that an event starts has the number after the last
  starts : (s t : State K V E) (e : Event K V E) (r : Reply K V E) (n : ℕ) (start : Start K V) →
      e ≡ event.Start start → r ≡ reply.Call n → Happens eq Any s e r t →
      (n ≡ s.world.desk.last + 1) × (t ≡ started s start)
  starts s t e r n start is says h =
      by (s.world.desk.last == last_call)
      (subst (λ v. Happens eq Any s (event.Start start) v t) says
      (subst (λ v. Happens eq Any s v r t) is h))
    where
      by : (b : Bool) →
          MatchBool b (Refuses s refusal.CallsSpent (reply.Call n) t)
          (Becomes (started s start) (reply.Call (s.world.desk.last + 1)) (reply.Call n) t) →
          (n ≡ s.world.desk.last + 1) × (t ≡ started s start)
      by true h = absurd (no_refusal {K = K} {V = V} {E = E} n refusal.CallsSpent h.reply)
      by false h =
          (same_call {K = K} {V = V} {E = E} n (s.world.desk.last + 1) h.reply, h.after)

  -- what a run starts has numbers after the last before it
  above : (k : ℕ) (s t : State K V E) (es : List (Event K V E)) (rs : List (Reply K V E)) (n : ℕ)
      (start : Start K V) → k ≤ s.world.desk.last → Run eq Any s es rs t → HasStarted n es rs start →
      k < n
  above k s t (e ∷ es) (r ∷ rs) n start i run (inl b) =
      let f = starts s run.0 e r n start b.0 b.1 run.1 in omega (arith, i, f.0)
  above k s t (e ∷ es) (r ∷ rs) n start i run (inr b) =
      above k run.0 t es rs n start (grows k s run.0 e r i run.1) run.3 b
  above k s t [] [] n start i run b = absurd b
  above k s t [] (r ∷ rs) n start i run b = absurd b
  above k s t (e ∷ es) [] n start i run b = absurd b

  -- one that is started now is not started later
  not_later : (s t : State K V E) (e : Event K V E) (r : Reply K V E) (es : List (Event K V E))
      (rs : List (Reply K V E)) (run : Run eq Any s (e ∷ es) (r ∷ rs) t) (n : ℕ) (a b : Start K V) →
      e ≡ event.Start a → r ≡ reply.Call n → HasStarted n es rs b → ⊥
  not_later s t e r es rs run n a b is says later =
      let f = starts s run.0 e r n a is says run.1 in
      let last : n ≤ run.0.world.desk.last =
      subst (λ (v : State K V E). n ≤ v.world.desk.last) (sym f.1) (omega (arith, f.0)) in
      let more : n < n = above n run.0 t es rs n b last run.3 later in omega (arith, more)

  pub started_once : (s t : State K V E) (es : List (Event K V E)) (rs : List (Reply K V E)) (n : ℕ)
      (a b : Start K V) → Run eq Any s es rs t → HasStarted n es rs a → HasStarted n es rs b → a ≡ b
  started_once s t (e ∷ es) (r ∷ rs) n a b run (inl x) (inl y) =
      same_start {E = E} a b (sym x.0 ∙ y.0)
  started_once s t (e ∷ es) (r ∷ rs) n a b run (inl x) (inr y) =
      absurd (not_later s t e r es rs run n a b x.0 x.1 y)
  started_once s t (e ∷ es) (r ∷ rs) n a b run (inr x) (inl y) =
      absurd (not_later s t e r es rs run n b a y.0 y.1 x)
  started_once s t (e ∷ es) (r ∷ rs) n a b run (inr x) (inr y) =
      started_once run.0 t es rs n a b run.3 x y
  started_once s t [] [] n a b run x y = absurd x
  started_once s t [] (r ∷ rs) n a b run x y = absurd x
  started_once s t (e ∷ es) [] n a b run x y = absurd x
