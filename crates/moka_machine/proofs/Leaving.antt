-- What a call that is dropped may leave.
use Rattle.std.proofs.Common.{◌≡◌, ℕ, Option, Some, sym, subst}
use Rattle.moka_hist.specs.Conditions.{MayLeave}
use Rattle.moka_hist.specs.Plan.{held_by}
use Rattle.moka_hist.specs.State.{Call, State}
use Rattle.moka_hist.specs.declared.writes.Write.{Write}
use Rattle.moka_laws.specs.Held.{MayAllLeave}

module _ {K V E : Type 0} where
  -- the call may leave what it holds
  pub may_leave : (s : State K V E) (n : ℕ) (c : Call K V E) (held : Option Write) → s.calls n ≡ Some c → held ≡ held_by c.plan → MayAllLeave s → MayLeave s.world.desk n held
  may_leave s n c held live is all = subst (λ (o : Option Write). MayLeave s.world.desk n o) (sym is) (all n c live)
