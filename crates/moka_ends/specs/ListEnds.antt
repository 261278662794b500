-- What contracts see of the source and the sink in memory whose calls may fail.
use Rattle.std.specs.Prelude.{◌≡◌, ℕ, Bool, ◌==◌, ◌+◌, ◌-◌, ◌^◌, List, min}
use Rattle.std.specs.List.{list_any}

-- the bytes that are left or were written, the most of them that a call moves, the numbers of the
-- calls that are to fail, the number of the next call, and how many calls failed
pub record ListEnd : Type 0 where
  pub bytes : List ℕ
  pub piece : ℕ
  pub failing : List ℕ
  pub calls : ℕ
  pub faults : ℕ

-- the number after this one, but the greatest of 64 bits after itself
abbrev pub next_call : ℕ → ℕ
next_call call = min (call + 1) (2 ^ 64 - 1)

-- the next call is to fail
abbrev pub fails_next : ListEnd → Bool
fails_next s = list_any (λ call. call == s.calls) s.failing

-- one call was made, and what is set for all calls stays
pub record IsCalled (old new : ListEnd) : Type 0 where
  pub counted : new.calls ≡ next_call old.calls
  pub piece : new.piece ≡ old.piece
  pub failing : new.failing ≡ old.failing
