-- What a flow's next access needs of the desk.
use Rattle.std.specs.Prelude.{Bool, true, false, Option, Some, None}
use Rattle.moka_hist.specs.Step.{Access, On_table, On_desk}
use Rattle.moka_needs.specs.Needs.{need_of}
use Rattle.moka_needs.specs.declared.needs.Need.{Need}
use Rattle.moka_needs.specs.declared.needs.Need.TheVariants as need

-- what such an access needs of the desk, where it is a visit
abbrev pub need_at : {K V E : Type 0} → Access K V E → Option (Need K)
need_at (On_table operation) = None
need_at (On_desk made) = Some (need_of made)

-- it is to claim a load, or the computes of a key
abbrev pub is_claim : {K : Type 0} → Option (Need K) → Bool
is_claim (Some (need.WaitOrOwn load)) = true
is_claim _ = false
