-- Other calls among those of a list.
use Rattle.std.proofs.Common.{◌≡◌, ℕ, suc, ◌+◌, ◌==◌, ◌||◌, ltb, nat_lt, not, Bool, true, false, cond, List, [], ◌∷◌, length, Option, refl, sym, ◌∙◌, arith}
use Rattle.std.proofs.lemmas.Bool.Decides.{nat_tests}
use Rattle.moka_hist.specs.Finite.{times}
use Rattle.moka_sync.specs.Waiting.{waits, AreOnce, without}
use Rattle.moka_sync.specs.Holders.{RwState, has_others}
use Rattle.moka_sync.proofs.Stands.{waits-times, length-without}

-- there are others where the list is longer than what the call has of it
pub has_others-times : (call : ℕ) (xs : List ℕ) → has_others call xs ≡ nat_lt (times call xs) (length xs)
has_others-times call [] = refl
has_others-times call (x ∷ xs) = by (call == x) (has_others-times call xs) (length-without call xs) where
  by : (b : Bool) → has_others call xs ≡ nat_lt (times call xs) (length xs) → length (without call xs) + times call xs ≡ length xs → (not b || has_others call xs) ≡ nat_lt (cond b (times call xs + 1) (times call xs)) (suc (length xs))
  by true e l = grind (arith, nat_tests)
  by false e l = grind (arith, nat_tests)

-- what the call has of the list where it waits
pub times-waiting : (call : ℕ) (xs : List ℕ) → AreOnce xs → waits call xs ≡ true → times call xs ≡ 1
times-waiting call xs once e =
    let some : ltb 0 (times call xs) ≡ true = sym (waits-times call xs) ∙ e in
    let most = once call in
    grind (arith, nat_tests)

-- what it has of the list where it does not wait
pub times-absent : (call : ℕ) (xs : List ℕ) → waits call xs ≡ false → times call xs ≡ 0
times-absent call xs e =
    let none : ltb 0 (times call xs) ≡ false = sym (waits-times call xs) ∙ e in
    grind (arith, nat_tests)

-- nothing is left of a list without others once the call is off
pub without-alone : (call : ℕ) (xs : List ℕ) → has_others call xs ≡ false → without call xs ≡ []
without-alone call [] e = refl
without-alone call (x ∷ xs) e = by (call == x) e (without-alone call xs) where
  by : (b : Bool) → (not b || has_others call xs) ≡ false → (has_others call xs ≡ false → without call xs ≡ []) → cond b (without call xs) (x ∷ without call xs) ≡ []
  by true e rest = rest e
  by false e rest = cc

-- where neither holds, the second does not
pub right-false : (a b : Bool) → (a || b) ≡ false → b ≡ false
right-false true b e = cc
right-false false b e = e

-- what a lock for readers and a writer shows, part by part
pub RwState-same : (writer : Option ℕ) (readers readers' waiting waiting' : List ℕ) (room room' : ℕ) → readers ≡ readers' → waiting ≡ waiting' → room ≡ room' → ◌≡◌ {A = RwState} (record { writer = writer; readers = readers; waiting = waiting; room = room }) (record { writer = writer; readers = readers'; waiting = waiting'; room = room' })
RwState-same writer readers readers' waiting waiting' room room' a b c = cc
