-- What a call may have to wait for.
use Rattle.std.specs.Prelude.{◌≡◌, ℕ, true, false, IsNone, IsSome}
use Rattle.moka_hist.specs.State.{DeskPart}
use Rattle.moka_hist.specs.Plan.{Item}
use Rattle.moka_hist.specs.Plan as plan
use Rattle.moka_hist.specs.Visits.{is_free_for, is_running, is_unlocked_for, settlement_for}

module _ {K V E : Type 0} where
  -- what the item needs is missing: the turn, which another call has; the key's lock, which is held
  -- under another number, by a live call or by the running notice of a dropped one; how the owner
  -- ended, which it has not; the answer to the own ask, which is open; how the listener answered the
  -- own notice or that of an owed write, which it still hears. No other item can miss what it needs.
  abbrev pub IsMissing : DeskPart K V E → ℕ → Item K V E → Type 0
  IsMissing w n plan.Turn = is_free_for w n ≡ false
  IsMissing w n (plan.Read sought) = IsNone (settlement_for w n)
  IsMissing w n (plan.Lock key) = is_unlocked_for w n key ≡ false
  IsMissing w n plan.Heard = is_running w n ≡ true
  IsMissing w n (plan.Ended number) = is_running w number ≡ true
  IsMissing w n (plan.Told load) = IsSome (w.asks n)
  IsMissing w n (plan.Read_key compute) = IsNone (settlement_for w n)
  IsMissing w n (plan.Told_op compute found) = IsSome (w.asks n)
  IsMissing w n _ = ⊥
