-- The parts of a line that other programs' lines don't have: causes, and what stands from a mark on.
use Rattle.std.specs.Prelude.{ℕ, ◌==◌, List, drop, codes}
use Rattle.std.specs.List.{position_or_len}
use Rattle.moka_hist.specs.declared.rules.Cause.{Cause}
use Rattle.moka_hist.specs.declared.rules.Cause.TheVariants as cause

-- why a record left
abbrev pub cause_word : Cause → List ℕ
cause_word cause.Expired = codes "Expired"
cause_word cause.Explicit = codes "Explicit"
cause_word cause.Replaced = codes "Replaced"
cause_word cause.Size = codes "Size"

-- what stands from the first such byte on
abbrev pub from_byte : ℕ → List ℕ → List ℕ
from_byte mark bytes = drop (position_or_len (λ b. b == mark) bytes) bytes
