-- What a live call does by itself, as steps and polls of the state.
use Rattle.std.proofs.Common.{◌≡◌, ◌≢◌, ℕ, zero, suc, ◌==◌, Bool, true, false, cond, Some, refl, ap, ◌∙◌, subst}
use Rattle.moka_hist.specs.Finite.{put_at}
use Rattle.moka_hist.specs.State.{State, World, Call}
use Rattle.moka_hist.specs.Next.{Next}
use Rattle.moka_hist.specs.Step.{Step, CallMoves, MovesOn, state_after}
use Rattle.moka_hist.specs.Run.{Goings, Polls, Any, IsReached, reply_of}
use Rattle.moka_hist.specs.declared.replies.Reply.TheVariants as reply
use Rattle.moka_hist.specs.declared.accesses.Turn.{Turn}
use Rattle.moka_hist.specs.declared.accesses.Turn.TheVariants as turn
use Rattle.moka_laws.specs.Moving.{gone_on, MoveIsStep, MovesAreSteps, PolledIsPoll, CallsAreSafe}
use Rattle.moka_laws.proofs.Counting.{put_here}
use Rattle.moka_laws.proofs.Outcomes.{put_same}
use Rattle.moka_laws.proofs.Reached.{steps_reached}
use Rattle.moka_laws.proofs.Safe.{in_well, may_step}

-- what was put at a number is gone once another is put there
put_twice : {A : Type 0} (f : ℕ → A) (n : ℕ) (v w : A) → put_at (put_at f n v) n w ≡ put_at f n w
put_twice f n v w = λ i m. (at m (n == m)) i
  where
    at : (m : ℕ) (b : Bool) → cond b w (cond b v (f m)) ≡ cond b w (f m)
    at m true = refl
    at m false = refl

-- a step that isn't Going has not that reply
not_going : {K V E : Type 0} (t : Turn K V E) → t ≢ turn.Going → reply_of t ≢ reply.Going
not_going turn.Going h = absurd (h refl)
not_going _ h = λ e. cc

module _ {K V E : Type 0} (eq : K → K → Bool) where
  pub move_step : MoveIsStep K V E eq
  move_step s n c next new live m = record {
    call = c;
    live = live;
    given = m.given;
    world = new;
    gets = m.gets;
    turns = ap (λ v. v.turn) m.goes;
    after = ap (λ v. state_after s n new v) m.goes;
  }

  -- a step of the call that has gone on so far
  goes_on : (s : State K V E) (n : ℕ) (b : Call K V E) (mid new : World K V E) (next : Next K V E) → CallMoves eq n b mid next new →
      Step eq (gone_on s n b mid) n next.turn (state_after s n new next)
  goes_on s n b mid new next m =
      let twice : state_after (gone_on s n b mid) n new next ≡ state_after s n new next =
      ap (λ v. record { world = new; calls = v }) (put_twice s.calls n (Some b) next.left) in
      subst (λ v. Step eq (gone_on s n b mid) n next.turn v) twice
      (move_step (gone_on s n b mid) n b next new (put_here s.calls n (Some b)) m)

  pub moves_steps : MovesAreSteps K V E eq
  unfolding MovesOn Goings
  moves_steps s n zero c d new live m =
      ap (λ v. gone_on s n v new) m.0 ∙ ap (λ v. gone_on s n c v) m.1 ∙ ap (λ v. record s { calls = v }) (put_same s.calls n (Some c) live)
  moves_steps s n (suc k) c d new live m =
      (gone_on s n m.0 m.1, moves_steps s n k c m.0 m.1 live m.2, goes_on s n m.0 m.1 new _ m.3, tt)

  pub moved_poll : PolledIsPoll K V E eq
  moved_poll s n c next new live p =
      let polls : Polls eq Any s n (reply_of next.turn) (state_after s n new next) = record {
        going = p.going;
        mid = gone_on s n p.call p.mid;
        goes = moves_steps s n p.going c p.call p.mid live p.goes;
        last = record { turn = next.turn; step = goes_on s n p.call p.mid new next p.last; reply = refl };
        ends = not_going next.turn p.ends;
      } in
      rw live polls

  pub safe_calls : CallsAreSafe K V E eq
  safe_calls s n c h live k d mid m =
      let t : State K V E = gone_on s n d mid in
      let reached : IsReached eq t = steps_reached eq Any k s t n h (moves_steps s n k c d mid live m) in
      may_step eq t (in_well eq t reached) n d (put_here s.calls n (Some d))
