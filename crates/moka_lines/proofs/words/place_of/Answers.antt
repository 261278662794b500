-- No byte before the place is the mark, and the one there is, or there is none.
use Rattle.std.proofs.Common.{◌≡◌, ℕ, ◌+◌, ◌<◌, ◌≤◌, Bool, true, false, eqb, List, length, get_or, refl, sym, below_more, arith}
use Rattle.std.specs.List.{position_or_len}
use Rattle.std.proofs.lemmas.List.Sums.{position_or_len_is}
use Rattle.std.proofs.lemmas.Bool.Decides.{Decides-eqb}
use Rattle.moka_lines.proofs.words.place_of.Goals as goal

-- no byte so far is the mark
abbrev Without : ℕ → List ℕ → ℕ → Type 0
Without mark bytes i = (k : ℕ) → k < i → eqb (get_or bytes k 0) mark ≡ false

other : (a b : ℕ) → (a ≡ b → ⊥) → eqb a b ≡ false
other a b h = by (eqb a b) refl where
  by : (t : Bool) → eqb a b ≡ t → t ≡ false
  by true e = absurd (h ((Decides-eqb a b).0 e))
  by false e = refl

more : (mark : ℕ) (bytes : List ℕ) (i : ℕ) → Without mark bytes i → (get_or bytes i 0 ≡ mark → ⊥) → Without mark bytes (i + 1)
more mark bytes i before h = below_more (λ k. eqb (get_or bytes k 0) mark ≡ false) i before (other _ mark h)

found : (mark : ℕ) (bytes : List ℕ) (i : ℕ) → Without mark bytes i → i ≤ length bytes → get_or bytes i 0 ≡ mark → i ≡ position_or_len (λ b. eqb b mark) bytes
found mark bytes i before within here = sym (position_or_len_is (λ b. eqb b mark) bytes i 0 within before (λ _. (Decides-eqb _ mark).1 here))

pub returns-then-bytes-first : goal.returns-then-bytes-first
returns-then-bytes-first c = found c.args.mark c.args.bytes.now _ c.loop-first.invariant.before c.loop-first.invariant.within c.if-bytes-first.true

pub returns-then-bytes-second : goal.returns-then-bytes-second
returns-then-bytes-second c =
    found c.args.mark c.args.bytes.now _ (more _ _ _ c.loop-first.invariant.before c.if-bytes-first.false) (omega arith) c.if-bytes-second.true

pub returns-then-bytes-third : goal.returns-then-bytes-third
returns-then-bytes-third c =
    found c.args.mark c.args.bytes.now _ (more _ _ _ (more _ _ _ c.loop-first.invariant.before c.if-bytes-first.false) c.if-bytes-second.false) (omega arith) c.if-bytes-third.true

pub returns-then-bytes-fourth : goal.returns-then-bytes-fourth
returns-then-bytes-fourth c =
    found c.args.mark c.args.bytes.now _ (more _ _ _ (more _ _ _ (more _ _ _ c.loop-first.invariant.before c.if-bytes-first.false) c.if-bytes-second.false) c.if-bytes-third.false) (omega arith) c.if-bytes-fourth.true

pub returns-else-bytes-first-2 : goal.returns-else-bytes-first-2
returns-else-bytes-first-2 c = found c.args.mark c.args.bytes.now _ c.loop-first-2.invariant.before c.loop-first-2.invariant.within c.if-bytes-first-2.false

pub returns-after-loop-first-2 : goal.returns-after-loop-first-2
returns-after-loop-first-2 c =
    sym (position_or_len_is (λ b. eqb b c.args.mark) c.args.bytes.now _ 0 c.loop-first-2.invariant.within c.loop-first-2.invariant.before (λ h. absurd (omega arith)))
