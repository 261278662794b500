-- How an owner may have ended whose end a call reads next.
use Rattle.std.specs.Prelude.{◌≡◌, ℕ, true, List, ◌∷◌, Option, Some, None, IfSome}
use Rattle.moka_hist.specs.Conditions.{may_end}
use Rattle.moka_hist.specs.Plan.{Item}
use Rattle.moka_hist.specs.Plan as plan
use Rattle.moka_hist.specs.State.{Call, DeskPart}
use Rattle.moka_hist.specs.Visits.{settlement_for}
use Rattle.moka_hist.specs.declared.loads.Kind.{Kind}
use Rattle.moka_hist.specs.declared.loads.Kind.TheVariants as kind

module _ {K V E : Type 0} where
  -- the kind of load whose end comes next in the plan, if one does
  abbrev pub kind_read : List (Item K V E) → Option Kind
  kind_read (plan.Read sought ∷ rest) = Some sought.load.kind
  kind_read (plan.Read_key compute ∷ rest) = Some kind.Compute
  kind_read _ = None

  -- the owner that the call waits for has not ended, or ended as one of this kind may
  abbrev pub EndedAs : DeskPart K V E → ℕ → Kind → Type 0
  EndedAs w n kind = IfSome (settlement_for w n) (λ with. may_end kind with ≡ true)

  -- where the call reads an end next, it is one of the kind that the call waits for
  abbrev pub ReadsItsKind : DeskPart K V E → ℕ → Call K V E → Type 0
  ReadsItsKind w n c = IfSome (kind_read c.plan) (EndedAs w n)
