-- Who was handed out, and has not come back for what it had waited for.
use Rattle.std.specs.Prelude.{ℕ, ◌==◌, Bool, false, not, cond, ◌||◌, List, nat_eq}
use Rattle.std.specs.HashMap.{get}
use Rattle.std.specs.Option.{option_map_or}
use Rattle.moka_sync.specs.Waiting.{waits}
use Rattle.moka_desk.specs.Lines.{line_at}
use Rattle.moka_desk.specs.declared.asks.Asks.{Asks}
use Rattle.moka_desk.specs.declared.lines.Lines.{Lines}

-- the call has a place among those that wait for things of one kind, and is on no list of it
abbrev pub is_out : Lines → ℕ → Bool
is_out lines call =
    option_map_or (λ n. not (waits call (line_at lines.lists n)))
    (get nat_eq lines.places call) false

-- the call waited for the answer to its own ask, was told it, and has not taken it up
abbrev pub is_told : {V E : Type 0} → Asks V E → ℕ → Bool
is_told asks call = option_map_or (λ a. a.woken) (get nat_eq asks.told call) false

-- of calls that are woken: these calls are woken too; and this one no longer is
abbrev pub and_calls : List ℕ → (ℕ → Bool) → ℕ → Bool
and_calls calls woken call = waits call calls || woken call

abbrev pub all_but : ℕ → (ℕ → Bool) → ℕ → Bool
all_but call woken c = cond (call == c) false (woken c)
