-- Frames from the last to the first.
use Rattle.std.proofs.Common.{◌≡◌, List, [], ◌∷◌, ◌++◌, refl, ap}
use Rattle.moka_evaluator.specs.declared.frames.Frame.{Frame}
use Rattle.moka_stacks.specs.Queries.{nearest_first}

-- the last one comes first
pub added : (fs : List Frame) (f : Frame) → nearest_first (fs ++ f ∷ []) ≡ f ∷ nearest_first fs
added [] f = refl
added (x ∷ fs) f = ap (λ rest. rest ++ x ∷ []) (added fs f)
