-- What `make` writes.
use Rattle.std.specs.Prelude.{ℕ, ◌≤◌, List, Option, length, take}
use Rattle.std.specs.declared.string.String.{String}
use Rattle.std.specs.declared.alloc.Global.{Global}
use Rattle.moka_ends.specs.Bytes.{Extends}
use Rattle.moka_lines.specs.declared.status.Status.{Status}
use Rattle.moka_lines.specs.declared.status.Status.TheVariants as status
use Rattle.moka_make.specs.Summing.{IsSummaryText}
use Rattle.moka_make.specs.Words.{AsksFor}

-- the whole summary was written of a run on the workload that the words ask for
pub record Makes (words : List (String Global)) (old new : Option (List ℕ)) : Type 0 where
  pub turns : ℕ
  pub seed : ℕ
  pub asks : AsksFor words turns seed
  pub text : List ℕ
  pub sums : IsSummaryText turns seed text
  pub writes : Extends old text new

-- some bytes off the front of such a summary were written, or none
pub record MakesFront (words : List (String Global)) (old new : Option (List ℕ)) : Type 0 where
  pub turns : ℕ
  pub seed : ℕ
  pub asks : AsksFor words turns seed
  pub text : List ℕ
  pub sums : IsSummaryText turns seed text
  pub count : ℕ
  pub within : count ≤ length text
  pub writes : Extends old (take count text) new

-- Two sinks were written one text, after what they were written before, as far as they tell.
pub record AreWrittenOne (old new old' new' : Option (List ℕ)) : Type 0 where
  pub text : List ℕ
  pub first : Extends old text new
  pub second : Extends old' text new'

-- two makes of the same words that are done write one text
abbrev pub MakesWriteOne : Type 0
MakesWriteOne =
    (words : List (String Global)) (old new old' new' : Option (List ℕ))
    → Makes words old new → Makes words old' new' → AreWrittenOne old new old' new'

-- how a make may end
abbrev pub IsMakeEnd : Status → Type 0
IsMakeEnd status.Done = Unit {0}
IsMakeEnd status.BadWords = Unit {0}
IsMakeEnd status.WriteFault = Unit {0}
IsMakeEnd status.Memory = Unit {0}
IsMakeEnd (status.BadLine line) = ⊥
IsMakeEnd status.TooLong = ⊥
IsMakeEnd status.ReadFault = ⊥
