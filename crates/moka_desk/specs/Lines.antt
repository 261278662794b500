-- Lists of calls that wait, by number.
use Rattle.std.specs.Prelude.{ℕ, ◌==◌, Bool, false, cond, List, [], ◌∷◌, ◌++◌, Option, nat_eq}
use Rattle.std.specs.Option.{option_map_or}
use Rattle.std.specs.HashMap.{HashMap, get}
use Rattle.moka_sync.specs.Waiting.{Waiting, waits}

-- those that wait on the list, if there is one
abbrev pub calls_in : Option Waiting → List ℕ
calls_in list = option_map_or (λ l. l.calls) list []

-- those that wait on the list of this number, if there is one
abbrev pub line_at : {S : Type 0} → HashMap ℕ Waiting S → ℕ → List ℕ
line_at lists number = calls_in (get nat_eq lists number)

-- the place is on the list of this number
abbrev pub is_at : Option ℕ → ℕ → Bool
is_at place number = option_map_or (λ n. n == number) place false

-- the calls with this one, at their end where it wasn't among them
abbrev pub with_call : ℕ → List ℕ → List ℕ
with_call call calls = cond (waits call calls) calls (calls ++ call ∷ [])
