-- Operations that fit a table, after a step of one of them.
use Rattle.std.proofs.Common.{ℕ, List, Result, Ok, Err, OnOk, set}
use Rattle.std.specs.List.{All}
use Rattle.std.proofs.lemmas.List.Elements.{All-set}

-- the one in this place fits after the step, and so do all others
pub all_after : {A X E : Type 0} (P Q : A → Type 0) (xs : List A) (i : ℕ) (y : A) (r : Result X E) → All P xs → ((x : A) → P x → Q x) →
    OnOk r (Q y) → OnOk r (All Q (set xs i y))
all_after P Q xs i y (Ok v) all step here = All-set Q xs i y here (λ k d h. step _ (all k d h))
all_after P Q xs i y (Err e) all step here = tt
