-- Steps of a call by itself, one after the other.
use Rattle.std.proofs.Common.{◌≡◌, ◌≢◌, ℕ, zero, suc, ◌<◌, Bool, Option, MatchOption, ◌+◌, refl, sym, ap, ◌∙◌, subst, add-one}
use Rattle.moka_hist.specs.State.{Call, World}
use Rattle.moka_hist.specs.Step.{Access, CallMoves, MovesOn, Polled, IsSafe, May, access_of, going_as}
use Rattle.moka_hist.specs.declared.accesses.Turn.{Turn}
use Rattle.moka_hist.specs.declared.accesses.Turn.TheVariants as turn
use Rattle.moka_bound.proofs.Size.{access_size}
use Rattle.moka_init.specs.declared.flow.Flow.{Flow}
use Rattle.moka_hist.specs.declared.accesses.Want.{Want}
use Rattle.moka_hist.specs.declared.tables.TableOp.{TableOp}
use Rattle.moka_init.specs.FlowPlan.{call_of, next_in, IsLive, Leaves}
use Rattle.moka_init.specs.Grounds.{Account, IsOn, HasBegun, MayWant, access_at, wish_of}

module _ {K V E : Type 0} where
  -- a flow that goes on is live
  pub live_going : (t : Turn K V E) (flow : Flow K V E) → t ≡ turn.Going → Leaves t flow → IsLive flow
  live_going t flow going leaves = subst (λ (u : Turn K V E). Leaves u flow) going leaves

  -- what the flow wants is allowed in a world that has what its step needs
  pub may_want : (begun : Option (TableOp K V)) (flow : Flow K V E) (w : World K V E) → HasBegun begun flow → May w (access_at flow) → MayWant w begun (wish_of flow)
  may_want begun flow w on may = subst (λ (o : Option (Access K V E)). MatchOption o ⊥ (λ access. May w access)) (sym on) may

-- What a flow wants fits its ground, where that stands for a world that has what the step needs.
pub may_fit : {K V E G : Type 0} (account : G → Account K V E) (stands : G → World K V E → Type 0) (fits : G → Want K V E → Type 0)
    → ((g : G) (w : World K V E) (wish : Want K V E) → stands g w → MayWant w (account g).begun wish → fits g wish)
    → (g : G) (flow : Flow K V E) (w : World K V E) → IsOn (account g) flow → stands g w → May w (access_at flow) → fits g (wish_of flow)
may_fit account stands fits allows g flow w on h may = allows g w (wish_of flow) h (may_want (account g).begun flow w on.begun may)

module _ {K V E : Type 0} (eq : K → K → Bool) where
  pub moves_none : (n : ℕ) (c : Call K V E) (w : World K V E) → MovesOn eq 0 n c w c w
  unfolding MovesOn
  moves_none n c w = (refl, refl)

  pub moves_more : (k n : ℕ) (c : Call K V E) (w : World K V E) (b : Call K V E) (mid : World K V E) (d : Call K V E) (new : World K V E)
      → MovesOn eq k n c w b mid → CallMoves eq n b mid (going_as d) new → MovesOn eq (k + 1) n c w d new
  unfolding MovesOn
  moves_more k n c w b mid d new before more =
      subst (λ (j : ℕ). MovesOn eq j n c w d new) (sym (add-one k)) (b, mid, before, more)

  -- the world has what the next step of a flow needs that has gone on so far
  pub safe_next : (k : ℕ) (first flow : Flow K V E) (w mid : World K V E) → flow.call ≡ first.call
      → MovesOn eq k first.call (call_of first) w (call_of flow) mid → IsSafe eq first.call (call_of first) w → May mid (access_at flow)
  safe_next k first flow w mid number before safe =
      subst (λ (n : ℕ). May mid (access_of n (call_of flow))) (sym number) (safe k (call_of flow) mid before)

  -- one more step
  pub flow_more : (k : ℕ) (first flow new : Flow K V E) (w mid after : World K V E) (t : Turn K V E) → flow.call ≡ first.call → t ≡ turn.Going
      → MovesOn eq k first.call (call_of first) w (call_of flow) mid → CallMoves eq flow.call (call_of flow) mid (next_in t new) after
      → MovesOn eq (k + 1) first.call (call_of first) w (call_of new) after
  flow_more k first flow new w mid after t number going before more =
      moves_more k first.call (call_of first) w (call_of flow) mid (call_of new) after before
      (subst (λ (u : Turn K V E). CallMoves eq first.call (call_of flow) mid (next_in u new) after) going
      (subst (λ (n : ℕ). CallMoves eq n (call_of flow) mid (next_in t new) after) number more))

  -- the last step
  pub flow_last : (k : ℕ) (first flow new : Flow K V E) (w mid after : World K V E) (t : Turn K V E) → flow.call ≡ first.call → t ≢ turn.Going
      → MovesOn eq k first.call (call_of first) w (call_of flow) mid → CallMoves eq flow.call (call_of flow) mid (next_in t new) after
      → Polled eq first.call (call_of first) w (next_in t new) after
  flow_last k first flow new w mid after t number ends before more =
      record {
        going = k;
        call = call_of flow;
        mid = mid;
        goes = before;
        last = subst (λ (n : ℕ). CallMoves eq n (call_of flow) mid (next_in t new) after) number more;
        ends = ends;
      }

  -- the log has room for as many writes as before
  size_still : (k n : ℕ) (c : Call K V E) (w : World K V E) (d : Call K V E) (mid : World K V E) → MovesOn eq k n c w d mid → mid.desk.size ≡ w.desk.size
  unfolding MovesOn
  size_still zero n c w d mid on = ap (λ v. v.desk.size) on.1
  size_still (suc k) n c w d mid on = access_size eq n on.1 mid (access_of n on.0) on.3.given on.3.gets ∙ size_still k n c w on.0 on.1 on.2

  pub has_log_still : (k n : ℕ) (c : Call K V E) (w : World K V E) (d : Call K V E) (mid : World K V E) → MovesOn eq k n c w d mid → 0 < w.desk.size → 0 < mid.desk.size
  has_log_still k n c w d mid on has_log = rw (size_still k n c w d mid on) has_log
