-- What the visits of these tests come to.
use Rattle.std.proofs.Common.{◌≡◌, ◌≢◌, ℕ, ◌==◌, Bool, true, false, ◌||◌, cond, Option, Some, None, is_some, unwrap_or, nat_eq, if◌then◌else◌, refl, ap}
use Rattle.std.proofs.lemmas.Bool.{eqb-false}
use Rattle.std.specs.declared.cmp.PartialEq as PartialEq
use Rattle.std.specs.declared.hash.Hash as Hash
use Rattle.std.specs.declared.hash.Hasher as Hasher
use Rattle.std.specs.declared.hash.BuildHasher as BuildHasher
use Rattle.moka_hist.specs.Finite.{put_at}
use Rattle.moka_hist.specs.State.{DeskPart}
use Rattle.moka_hist.specs.Telling.{told}
use Rattle.moka_hist.specs.declared.events.Told.{Told}
use Rattle.moka_hist.specs.declared.events.Told.TheVariants as answer
use Rattle.moka_hist.specs.declared.visits.Visit.TheVariants as visit
use Rattle.moka_desk.specs.StandsFor.{StandsFor, Can}
use Rattle.moka_desk.specs.declared.state.Desk.{Desk}

-- where all hold this, and one call holds something else for a while, all hold this then
pub put_back : {A : Type 0} (n : ℕ) (this other : A) → put_at (put_at (λ _. this) n other) n this ≡ (λ _. this)
put_back n this other = λ i m. by (n == m) i where
  by : (b : Bool) → cond b this (cond b other this) ≡ this
  by true = refl
  by false = refl

-- where all hold this, all do once one call holds it
pub put_same : {A : Type 0} (n : ℕ) (this : A) → put_at (λ _. this) n this ≡ (λ _. this)
put_same n this = λ i m. by (n == m) i where
  by : (b : Bool) → cond b this this ≡ this
  by true = refl
  by false = refl

-- two numbers are not one
pub differ : (n m : ℕ) → (n == m) ≡ false → Some n ≢ Some m
differ n m e same = eqb-false n m e (ap (λ o. unwrap_or o 0) same)

-- a call that asked can look for its answer, whatever its ask was told
pub answer_is_there : {S H : Type 0} {same : PartialEq.Ghosts ℕ} {hash : Hash.Ghosts ℕ} {build : BuildHasher.Ghosts S H} {hasher : Hasher.Ghosts H} {A : Type 0} (w : DeskPart ℕ ℕ ℕ) (call : ℕ) →
    (is_some (w.asks call) || is_some (w.told call)) ≡ true → (a : Told ℕ ℕ) (woken : Option A) (desk : Desk ℕ ℕ ℕ S H same hash build hasher) →
    StandsFor nat_eq desk (if is_some woken then told w call a else w) → Can nat_eq desk (visit.TakeTold call)
answer_is_there w call asked a woken desk stands = (if is_some woken then told w call a else w, stands, by (is_some woken) a) where
  self : (call == call) ≡ true
  self = other (call == call) refl where
    other : (b : Bool) → (call == call) ≡ b → b ≡ true
    other true e = refl
    other false e = absurd (eqb-false call call e refl)

  closed : (a : Told ℕ ℕ) (b : Bool) → b ≡ true → (is_some (cond b None (w.asks call)) || is_some (cond b (Some a) (w.told call))) ≡ true
  closed a true e = refl
  closed a false e = asked

  by : (b : Bool) (a : Told ℕ ℕ) → let after : DeskPart ℕ ℕ ℕ = if b then told w call a else w in (is_some (after.asks call) || is_some (after.told call)) ≡ true
  by false a = asked
  by true (answer.Value value) = closed (answer.Value value) (call == call) self
  by true answer.Nothing = closed answer.Nothing (call == call) self
  by true (answer.Err error) = closed (answer.Err error) (call == call) self
  by true (answer.Op op) = closed (answer.Op op) (call == call) self
  by true answer.Done = asked
  by true answer.Off = asked
