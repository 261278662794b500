-- What holds of a call from its start on.
use Rattle.std.proofs.Common.{◌≡◌, ℕ, ◌+◌, ◌==◌, Bool, true, false, MatchBool, sym, subst}
use Rattle.moka_hist.specs.State.{State}
use Rattle.moka_hist.specs.Run.{Refuses, Becomes, started, last_call}
use Rattle.moka_hist.specs.declared.events.Start.{Start}
use Rattle.moka_hist.specs.declared.replies.Refusal.{Refusal}
use Rattle.moka_hist.specs.declared.replies.Refusal.TheVariants as refusal
use Rattle.moka_hist.specs.declared.replies.Reply.{Reply}
use Rattle.moka_hist.specs.declared.replies.Reply.TheVariants as reply
use Rattle.moka_laws.specs.Starting.{WasStarted}
use Rattle.moka_laws.proofs.Following.{IsFollowed, follow}
use Rattle.moka_laws.proofs.Kept.{IsStable, runs}

pub no_refusal : {K V E : Type 0} (n : ℕ) (why : Refusal) → ◌≡◌ {A = Reply K V E} (reply.Call n)
    (reply.Refused why) → ⊥
no_refusal n why e = cc

pub same_call : {K V E : Type 0} (n m : ℕ) → ◌≡◌ {A = Reply K V E} (reply.Call n) (reply.Call m) → n ≡ m
same_call n m e = cc

module _ {K V E : Type 0} (eq : K → K → Bool) (start : Start K V) (n : ℕ) (t : State K V E)
    (w : WasStarted eq start n t) where
  -- the call got the next number
  pub begins_so : (n ≡ w.before.world.desk.last + 1) × (w.begun ≡ started w.before start)
  begins_so = by (w.before.world.desk.last == last_call) w.begins
    where
      by : (b : Bool) →
          MatchBool b (Refuses w.before refusal.CallsSpent (reply.Call n) w.begun)
          (Becomes (started w.before start) (reply.Call (w.before.world.desk.last + 1))
          (reply.Call n) w.begun) →
          (n ≡ w.before.world.desk.last + 1) × (w.begun ≡ started w.before start)
      by true h = absurd (no_refusal {K = K} {V = V} {E = E} n refusal.CallsSpent h.reply)
      by false h = (same_call {K = K} {V = V} {E = E} n (w.before.world.desk.last + 1) h.reply, h.after)

  -- what each event keeps, and is so once it was started, is so here
  pub from_start : (I : State K V E → Type 0) → IsStable eq I → I (started w.before start) → I t
  from_start I stable i = runs eq I stable w.begun t w.led.events w.led.replies
      (subst I (sym begins_so.1) i) w.led.run

  -- the same, where it is known that the events lead on
  pub follow_start : (I : State K V E → Type 0) → IsFollowed eq I → I (started w.before start) → I t
  follow_start I followed i = follow eq I followed w.begun t w.led.events w.led.replies
      (subst I (sym begins_so.1) i) w.led.run
