-- What a sink tells that keeps bytes as long as it has memory.
use Rattle.std.specs.Prelude.{ℕ, Bool, true, false, List, Option, Some, None}

-- the bytes, where all were kept
abbrev pub told_if : Bool → List ℕ → Option (List ℕ)
told_if true bytes = Some bytes
told_if false bytes = None
