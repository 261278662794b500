-- How a play is due to end: by what the source gives alone, since no text both says a schedule and has a bad line.
use Rattle.std.proofs.Common.{◌≡◌, ℕ, ◌<◌, ◌≤◌, List, [], ◌∷◌, length, Option, Some, None, IfSome, inl, inr, refl, sym, ap, subst, arith}
use Rattle.moka_ends.specs.Bytes.{GivesAll, HasMoreThan}
use Rattle.moka_ends.specs.declared.reads.ReadError.{ReadError}
use Rattle.moka_ends.specs.declared.reads.ReadError.TheVariants as read
use Rattle.moka_hist.specs.declared.settings.Settings.{Settings}
use Rattle.moka_text.specs.ScheduleText.{Says, IsFirstBad}
use Rattle.moka_text.specs.ScheduleReading.{schedule, MayWantMemory, TextsAreRead, BadLinesAreRead}
use Rattle.moka_lines.specs.Programs.{IsAfterReading, most_bytes, status_of_read}
use Rattle.moka_run.specs.Playing.{IsDue, WritesReport}
use Rattle.moka_lines.specs.declared.status.Status.{Status}
use Rattle.moka_lines.specs.declared.status.Status.TheVariants as status

-- a text that both says a schedule and has a bad line is read as both
both_ways : TextsAreRead → BadLinesAreRead → {P : Type 0} (text : List ℕ) (log : ℕ) (settings : Settings) (events : List _) (line : ℕ) → Says text log settings events → IsFirstBad text line → P
both_ways texts bad text log settings events line s b =
    let ok = texts text log settings events s in
    let err = bad text line b in
    absurd cc

-- the first bad line is one
one_line : BadLinesAreRead → (text : List ℕ) (a b : ℕ) → IsFirstBad text a → IsFirstBad text b → a ≡ b
one_line bad text a b x y =
    let one = bad text a x in
    let other = bad text b y in
    cc

-- the bytes were read, and so many fit
due_of : TextsAreRead → BadLinesAreRead → (bytes : List ℕ) (s : Status) (old new : Option (List ℕ)) → length bytes ≤ most_bytes → (s ≡ status.Done → WritesReport bytes old new) → ((line : ℕ) → s ≡ status.BadLine line → IsFirstBad bytes line) → IsAfterReading s → IsDue bytes s
due_of texts bad bytes status.Done old new fits done line after =
    let says = (done refl).answers.says in
    record {
      too_long = λ more. absurd (omega arith);
      bad_line = λ n _ is. both_ways texts bad bytes _ _ _ n says is;
      done = λ log settings events _ _. inl refl;
    }
due_of texts bad bytes (status.BadLine n) old new fits done line after = record {
  too_long = λ more. absurd (omega arith);
  bad_line = λ m _ is. inl (ap status.BadLine (one_line bad bytes n m (line n refl) is));
  done = λ log settings events _ says. both_ways texts bad bytes log settings events n says (line n refl);
}
due_of texts bad bytes status.WriteFault old new fits done line after = record {
  too_long = λ more. inr tt;
  bad_line = λ n _ is. inr tt;
  done = λ log settings events _ says. inr tt;
}
due_of texts bad bytes status.Memory old new fits done line after = record {
  too_long = λ more. inr tt;
  bad_line = λ n _ is. inr tt;
  done = λ log settings events _ says. inr tt;
}
due_of texts bad bytes status.BadWords old new fits done line after = absurd after
due_of texts bad bytes status.TooLong old new fits done line after = absurd after
due_of texts bad bytes status.ReadFault old new fits done line after = absurd after

-- the source told its bytes, and these were read
pub due_after_reading : TextsAreRead → BadLinesAreRead → (left left' : Option (List ℕ)) (bytes : List ℕ) (s : Status) (old new : Option (List ℕ)) → GivesAll left bytes left' → length bytes ≤ most_bytes → (s ≡ status.Done → WritesReport bytes old new) → ((line : ℕ) → s ≡ status.BadLine line → IsFirstBad bytes line) → IsAfterReading s → IfSome left (λ told. IsDue told s)
due_after_reading texts bad None left' bytes s old new all fits done line after = tt
due_after_reading texts bad (Some told) left' bytes s old new all fits done line after =
    subst (λ (b : List ℕ). IsDue b s) (sym all.0) (due_of texts bad bytes s old new fits done line after)

-- the source failed
pub due_at_read_error : (left : Option (List ℕ)) (e : ReadError) → (e ≡ read.TooLong → HasMoreThan most_bytes left) → IfSome left (λ told. IsDue told (status_of_read e))
due_at_read_error None e more = tt
due_at_read_error (Some told) read.TooLong more =
    let long : most_bytes < length told = more refl in
    record {
      too_long = λ _. inl refl;
      bad_line = λ n fits _. absurd (omega arith);
      done = λ log settings events fits _. absurd (omega arith);
    }
due_at_read_error (Some told) read.Fault more = record {
  too_long = λ _. inr tt;
  bad_line = λ n _ _. inr tt;
  done = λ log settings events _ _. inr tt;
}
due_at_read_error (Some told) read.Memory more = record {
  too_long = λ _. inr tt;
  bad_line = λ n _ _. inr tt;
  done = λ log settings events _ _. inr tt;
}

-- no memory is taken to read a text of no bytes
pub some_taken : (text : List ℕ) → MayWantMemory (schedule text) → 0 < length text
unfolding schedule
some_taken [] takes = absurd (omega arith)
some_taken (b ∷ bytes) takes = omega arith

-- a text of no bytes says nothing
pub some_said : (text : List ℕ) (log : ℕ) (settings : Settings) (events : List _) → Says text log settings events → 0 < length text
some_said [] log settings events says =
    let none = says.split in
    absurd cc
some_said (b ∷ bytes) log settings events says = omega arith
