-- How a program is due to end: by what the source gives alone, since a text is read in one way.
use Rattle.std.proofs.Common.{◌≡◌, ℕ, ◌≤◌, List, length, Option, Some, None, IfSome, inl, inr, refl, sym, ap, subst, arith}
use Rattle.moka_ends.specs.Bytes.{GivesAll}
use Rattle.moka_lines.specs.Lines.{Says, IsFirstBad, AreReadOneWay}
use Rattle.moka_lines.specs.Programs.{IsAfterReading, IsDue, most_bytes}
use Rattle.moka_lines.specs.declared.status.Status.{Status}
use Rattle.moka_lines.specs.declared.status.Status.TheVariants as status

module _ {L : Type 0} (spell : L → List ℕ) (Fits : List L → L → Type 0) (one : AreReadOneWay spell Fits) where
  -- the bytes were read, and so many fit
  due_of : (bytes : List ℕ) (s : Status) → length bytes ≤ most_bytes → (s ≡ status.Done → (said : List L) × Says spell Fits bytes said) → ((line : ℕ) → s ≡ status.BadLine line → IsFirstBad spell Fits bytes line) → IsAfterReading s → IsDue spell Fits bytes s
  due_of bytes status.Done fits done line after =
      let says = done refl in
      record {
        too_long = λ more. absurd (omega arith);
        bad_line = λ n _ is. absurd (one.good bytes says.0 n says.1 is);
        done = λ said _ _. inl refl;
      }
  due_of bytes (status.BadLine n) fits done line after = record {
    too_long = λ more. absurd (omega arith);
    bad_line = λ m _ is. inl (ap status.BadLine (one.bad bytes n m (line n refl) is));
    done = λ said _ says. absurd (one.good bytes said n says (line n refl));
  }
  due_of bytes status.WriteFault fits done line after = record {
    too_long = λ more. inr tt;
    bad_line = λ n _ is. inr tt;
    done = λ said _ says. inr tt;
  }
  due_of bytes status.Memory fits done line after = record {
    too_long = λ more. inr tt;
    bad_line = λ n _ is. inr tt;
    done = λ said _ says. inr tt;
  }
  due_of bytes status.BadWords fits done line after = absurd after
  due_of bytes status.TooLong fits done line after = absurd after
  due_of bytes status.ReadFault fits done line after = absurd after

  -- the source told its bytes, and these were read
  pub due_after_reading : (left left' : Option (List ℕ)) (bytes : List ℕ) (s : Status) → GivesAll left bytes left' → length bytes ≤ most_bytes → (s ≡ status.Done → (said : List L) × Says spell Fits bytes said) → ((line : ℕ) → s ≡ status.BadLine line → IsFirstBad spell Fits bytes line) → IsAfterReading s → IfSome left (λ told. IsDue spell Fits told s)
  due_after_reading None left' bytes s all fits done line after = tt
  due_after_reading (Some told) left' bytes s all fits done line after =
      subst (λ (b : List ℕ). IsDue spell Fits b s) (sym all.0) (due_of bytes s fits done line after)
