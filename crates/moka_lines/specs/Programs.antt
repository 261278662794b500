-- What a program of lines reads and writes.
use Rattle.std.specs.Prelude.{◌≡◌, ◌⊎◌, ℕ, ◌<◌, ◌≤◌, List, [], ◌∷◌, map, length, take, Option}
use Rattle.std.specs.String.{string_bytes}
use Rattle.std.specs.declared.string.String.{String}
use Rattle.std.specs.declared.alloc.Global.{Global}
use Rattle.moka_ends.specs.Bytes.{GivesAll, Extends}
use Rattle.moka_ends.specs.declared.reads.ReadError.{ReadError}
use Rattle.moka_ends.specs.declared.reads.ReadError.TheVariants as read
use Rattle.moka_lines.specs.Lines.{Says, IsFirstBad}
use Rattle.moka_lines.specs.declared.reading.LineError.{LineError}
use Rattle.moka_lines.specs.declared.reading.LineError.TheVariants as lines
use Rattle.moka_lines.specs.declared.status.Status.{Status}
use Rattle.moka_lines.specs.declared.status.Status.TheVariants as status

-- the words of the command line are this one word
abbrev pub IsWord : List ℕ → List (String Global) → Type 0
IsWord word words = map string_bytes words ≡ word ∷ []

-- the most bytes that a source may give
abbrev pub most_bytes : ℕ
most_bytes = 16777216

-- The text answers the lines that the bytes say, and what the program was handed goes from its old
-- state to the new one.
pub record IsAnswer {L C : Type 0} (spell : L → List ℕ) (Fits : List L → L → Type 0)
    (Answers : C → List L → List ℕ → C → Type 0) (old new : C) (bytes text : List ℕ) : Type 0 where
  pub lines : List L
  pub says : Says spell Fits bytes lines
  pub answers : Answers old lines text new

-- all of the source was read, and these bytes are no more than it may give
pub record ReadsAll (old : Option (List ℕ)) (bytes : List ℕ) (new : Option (List ℕ)) : Type 0 where
  pub all : GivesAll old bytes new
  pub fits : length bytes ≤ most_bytes

-- a text that answers the bytes was written, the whole of it
pub record WritesAnswer (Answers : List ℕ → List ℕ → Type 0) (bytes : List ℕ)
    (old new : Option (List ℕ)) : Type 0 where
  pub text : List ℕ
  pub answers : Answers bytes text
  pub writes : Extends old text new

-- some bytes off the front of such a text were written, or none
pub record WritesFront (Answers : List ℕ → List ℕ → Type 0) (bytes : List ℕ)
    (old new : Option (List ℕ)) : Type 0 where
  pub text : List ℕ
  pub answers : Answers bytes text
  pub count : ℕ
  pub within : count ≤ length text
  pub writes : Extends old (take count text) new

-- the source was read to its end, and the whole text that answers it was written
pub record Responds (Answers : List ℕ → List ℕ → Type 0) (left left' written written' : Option (List ℕ))
    : Type 0 where
  pub bytes : List ℕ
  pub read : ReadsAll left bytes left'
  pub wrote : WritesAnswer Answers bytes written written'

-- the source was read to its end, and the front of the text that answers it was written
pub record BreaksOff (Answers : List ℕ → List ℕ → Type 0) (left left' written written' : Option (List ℕ))
    : Type 0 where
  pub bytes : List ℕ
  pub read : ReadsAll left bytes left'
  pub wrote : WritesFront Answers bytes written written'

-- the source was read to its end, and this is the first of its lines that is not in the grammar
pub record FindsBadLine {L : Type 0} (spell : L → List ℕ) (Fits : List L → L → Type 0)
    (left left' : Option (List ℕ)) (line : ℕ) : Type 0 where
  pub bytes : List ℕ
  pub read : ReadsAll left bytes left'
  pub first : IsFirstBad spell Fits bytes line

-- how a program may end once the source was read to its end
abbrev pub IsAfterReading : Status → Type 0
IsAfterReading status.Done = Unit {0}
IsAfterReading (status.BadLine line) = Unit {0}
IsAfterReading status.WriteFault = Unit {0}
IsAfterReading status.Memory = Unit {0}
IsAfterReading status.BadWords = ⊥
IsAfterReading status.TooLong = ⊥
IsAfterReading status.ReadFault = ⊥

-- how the writing of a text may end
abbrev pub IsWritten : Status → Type 0
IsWritten status.Done = Unit {0}
IsWritten status.WriteFault = Unit {0}
IsWritten (status.BadLine line) = ⊥
IsWritten status.Memory = ⊥
IsWritten status.BadWords = ⊥
IsWritten status.TooLong = ⊥
IsWritten status.ReadFault = ⊥

-- the program ended before it began to answer
abbrev pub IsBeforeAnswer : Status → Type 0
IsBeforeAnswer status.BadWords = Unit {0}
IsBeforeAnswer (status.BadLine line) = Unit {0}
IsBeforeAnswer status.TooLong = Unit {0}
IsBeforeAnswer status.ReadFault = Unit {0}
IsBeforeAnswer status.Done = ⊥
IsBeforeAnswer status.WriteFault = ⊥
IsBeforeAnswer status.Memory = ⊥

-- whatever the source gives, a program may end so: a call of its ends failed, or memory ran out
abbrev pub IsBroken : Status → Type 0
IsBroken status.ReadFault = Unit {0}
IsBroken status.WriteFault = Unit {0}
IsBroken status.Memory = Unit {0}
IsBroken status.Done = ⊥
IsBroken status.BadWords = ⊥
IsBroken (status.BadLine line) = ⊥
IsBroken status.TooLong = ⊥

-- the program ended as was due, or it broke off
abbrev pub EndsAs : Status → Status → Type 0
EndsAs due ended = (ended ≡ due) ⊎ IsBroken ended

-- How a program is due to end on these bytes: too long where they are, at the first bad line where
-- there is one, and done where they are its lines.
pub record IsDue {L : Type 0} (spell : L → List ℕ) (Fits : List L → L → Type 0) (bytes : List ℕ)
    (ended : Status) : Type 0 where
  pub too_long : most_bytes < length bytes → EndsAs status.TooLong ended
  pub bad_line : (line : ℕ) → length bytes ≤ most_bytes → IsFirstBad spell Fits bytes line
      → EndsAs (status.BadLine line) ended
  pub done : (said : List L) → length bytes ≤ most_bytes → Says spell Fits bytes said
      → EndsAs status.Done ended

-- the status after the source failed so
abbrev pub status_of_read : ReadError → Status
status_of_read read.TooLong = status.TooLong
status_of_read read.Fault = status.ReadFault
status_of_read read.Memory = status.Memory

-- the status where lines can't be read for this reason
abbrev pub status_of_lines : LineError → Status
status_of_lines (lines.BadLine line) = status.BadLine line
status_of_lines lines.Memory = status.Memory
