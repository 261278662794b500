-- How the calls of a source are spelled.
use Rattle.std.specs.Prelude.{ℕ, ◌^◌, ◌<◌, List, ◌∷◌, ◌++◌, codes, decimal}
use Rattle.moka_behind_run.specs.declared.calls.Call.{Call}
use Rattle.moka_behind_run.specs.declared.calls.Call.TheVariants as call

-- the one spelling of a call
abbrev pub call_line : Call → List ℕ
call_line (call.Set key value) = codes "set " ++ (decimal key ++ 32 ∷ decimal value)
call_line (call.Del key) = codes "del " ++ decimal key
call_line (call.Get key) = codes "get " ++ decimal key
call_line call.Shed = codes "shed"
call_line call.Drain = codes "drain"

-- keys and values are of 32 bits
abbrev pub Fits : Call → Type 0
Fits (call.Set key value) = (key < 2 ^ 32) × (value < 2 ^ 32)
Fits (call.Del key) = key < 2 ^ 32
Fits (call.Get key) = key < 2 ^ 32
Fits call.Shed = Unit {0}
Fits call.Drain = Unit {0}

-- whichever calls came before
abbrev pub FitsAnywhere : List Call → Call → Type 0
FitsAnywhere before c = Fits c
