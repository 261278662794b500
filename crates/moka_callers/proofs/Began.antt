-- A start that gives a number made its call.
use Rattle.std.proofs.Common.{◌≡◌, ℕ, ◌+◌, ◌==◌, Bool, true, false, MatchBool}
use Rattle.moka_hist.specs.State.{State}
use Rattle.moka_hist.specs.Run.{Any, Becomes, Happens, Refuses, last_call, started}
use Rattle.moka_hist.specs.declared.events.Event.TheVariants as event
use Rattle.moka_hist.specs.declared.events.Start.{Start}
use Rattle.moka_hist.specs.declared.replies.Refusal.TheVariants as refusal
use Rattle.moka_hist.specs.declared.replies.Reply.TheVariants as reply
use Rattle.moka_laws.proofs.Starting.{no_refusal, same_call}

pub gives : {K V E : Type 0} (eq : K → K → Bool) (s b : State K V E) (m : ℕ) (begin : Start K V) →
    Happens eq Any s (event.Start begin) (reply.Call m) b →
    (m ≡ s.world.desk.last + 1) × (b ≡ started s begin)
gives {K} {V} {E} eq s b m begin h = by (s.world.desk.last == last_call) h
  where
    by : (x : Bool) → MatchBool x (Refuses s refusal.CallsSpent (reply.Call m) b)
        (Becomes (started s begin) (reply.Call (s.world.desk.last + 1)) (reply.Call m) b) →
        (m ≡ s.world.desk.last + 1) × (b ≡ started s begin)
    by true h = absurd (no_refusal {K = K} {V = V} {E = E} m refusal.CallsSpent h.reply)
    by false h = (same_call {K = K} {V = V} {E = E} m (s.world.desk.last + 1) h.reply, h.after)
