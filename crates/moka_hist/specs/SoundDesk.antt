-- What is true of the desk after any visits that it allows.
use Rattle.std.specs.Prelude.{◌≡◌, ◌≤◌, ℕ, Bool, true, Some, IsNone, IsSome, IsSomeAnd, map}
use Rattle.moka_hist.specs.Finite.{load_eq, times}
use Rattle.moka_hist.specs.State.{DeskPart}
use Rattle.moka_hist.specs.Conditions.{held_number, numbers_of}
use Rattle.moka_hist.specs.Visits.{is_running, key_under}
use Rattle.moka_hist.specs.declared.loads.Load.{Load}
use Rattle.moka_hist.specs.declared.writes.Holding.{Holding}

-- No write stands twice or with two calls, a load and its owner are one to one, a lock and the
-- number that it is held under too, a running notice keeps what is kept, and no two predicates are
-- registered under one id.
pub record SoundDesk {K V E : Type 0} (eq : K → K → Bool) (w : DeskPart K V E) : Type 0 where
  -- no number stands twice in what is owed, logged and applied together; none of them is that of a
  -- held write; and no two calls hold writes of one number
  pub once : (x : ℕ) → times x (numbers_of w) ≤ 1
  pub held_apart : (n : ℕ) (h : Holding) → w.holding n ≡ Some h →
      times (held_number n h) (numbers_of w) ≡ 0
  pub one_holder : (n m : ℕ) (g h : Holding) → w.holding n ≡ Some g → w.holding m ≡ Some h →
      held_number n g ≡ held_number m h → n ≡ m
  -- equal loads have one owner, which owns an equal load; and what a call owns it is the owner of
  pub one_owner : (a b : Load K) → load_eq eq a b ≡ true → w.owners a ≡ w.owners b
  pub owns : (l : Load K) (n : ℕ) → w.owners l ≡ Some n →
      IsSomeAnd (w.owning n) (λ own. load_eq eq own l ≡ true)
  pub owned : (l : Load K) (n : ℕ) → w.owning n ≡ Some l → w.owners l ≡ Some n
  -- the same of locks: those of equal keys are held under one number, which has the lock of an
  -- equal key, by its live call or by its notice, and no other; a notice that keeps one runs; and no
  -- number both holds and keeps
  pub one_locker : (a b : K) → eq a b ≡ true → w.locks a ≡ w.locks b
  pub locks : (k : K) (n : ℕ) → w.locks k ≡ Some n →
      IsSomeAnd (key_under w n) (λ own. eq own k ≡ true)
  pub locked : (k : K) (n : ℕ) → key_under w n ≡ Some k → w.locks k ≡ Some n
  pub keeps : (n : ℕ) → IsSome (w.kept n) → is_running w n ≡ true
  pub apart : (n : ℕ) → IsSome (w.locked n) → IsNone (w.kept n)
  -- no id stands twice among the registered predicates
  pub one_id : (id : ℕ) → times id (map (λ r. r.id) w.registered) ≤ 1
