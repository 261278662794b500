-- What the locks stand for.
use Rattle.std.specs.Prelude.{◌≡◌, ℕ, ◌==◌, Bool, true, false, cond, Option, Some, None, nat_eq, IsSomeAnd}
use Rattle.std.specs.HashMap.{get}
use Rattle.std.specs.Option.{option_and_then, option_map_or, option_or}
use Rattle.moka_hist.specs.State.{DeskPart}
use Rattle.moka_hist.specs.declared.visits.LockTaken.{LockTaken}
use Rattle.moka_hist.specs.declared.visits.LockTaken.TheVariants as taken
use Rattle.moka_desk.specs.Notices.{either}
use Rattle.moka_desk.specs.declared.locks.Locks.{Locks}
use Rattle.moka_desk.specs.declared.locks.OwnLock.{OwnLock}

-- What the desk's part says of locks.
pub record LockPart (K : Type 0) : Type 0 where
  pub locks : K → Option ℕ
  pub locked : ℕ → Option K
  pub kept : ℕ → Option K

-- that part of it
abbrev pub lock_part : {K V E : Type 0} → DeskPart K V E → LockPart K
lock_part w = record { locks = w.locks; locked = w.locked; kept = w.kept }

module _ {K : Type 0} where
  -- the key whose lock is held under the number
  abbrev pub key_in : LockPart K → ℕ → Option K
  key_in p number = option_or (p.locked number) (p.kept number)

  -- the keys that are locked but for that whose lock is held under this number
  abbrev pub locks_but : LockPart K → ℕ → K → Option ℕ
  locks_but p number k = cond (option_map_or (λ h. h == number) (p.locks k) false) None (p.locks k)

  -- the key of a lock that a live call holds, and of one that a notice keeps
  abbrev pub live_key : OwnLock K → Option K
  live_key own = cond own.kept None (Some own.key)

  abbrev pub kept_key : OwnLock K → Option K
  kept_key own = cond own.kept (Some own.key) None

  -- a notice keeps the lock from now on
  abbrev pub as_kept : OwnLock K → OwnLock K
  as_kept own = record own { kept = true }

  -- a notice keeps the lock, if there is one
  abbrev pub is_kept : Option (OwnLock K) → Bool
  is_kept own = option_map_or (λ o. o.kept) own false

  -- how another call finds this lock under the number
  abbrev pub taken_of : Option (OwnLock K) → ℕ → LockTaken
  taken_of own holder = cond (is_kept own) (taken.Kept holder) taken.Held

  -- the number under which the key's lock is held, by that which stands beside the maps
  abbrev pub first_holder : (K → K → Bool) → Option (ℕ × OwnLock K) → K → Option ℕ
  first_holder eq first key = option_and_then (λ l. cond (eq l.1.key key) (Some l.0) None) first

  -- the lock that stands beside the maps, where it is held under this number
  abbrev pub first_lock : Option (ℕ × OwnLock K) → ℕ → Option (OwnLock K)
  first_lock first number = option_and_then (λ l. cond (l.0 == number) (Some l.1) None) first

  -- that lock, once a notice keeps what is held under this number
  abbrev pub marked : ℕ → (ℕ × OwnLock K) → (ℕ × OwnLock K)
  marked number l = cond {A = ℕ × OwnLock K} (l.0 == number) (l.0, as_kept l.1) l

-- the number under which the key's lock is held: by that beside the maps, or by what they have
abbrev pub holder_of : {K S H : Type 0} → (K → K → Bool) → Locks K S H → K → Option ℕ
holder_of eq locks key = either (first_holder eq locks.first key) (get eq locks.holders key)

-- the lock that is held under the number
abbrev pub lock_under : {K S H : Type 0} → Locks K S H → ℕ → Option (OwnLock K)
lock_under locks number = either (first_lock locks.first number) (get nat_eq locks.locked number)

-- The locks are those of the part, and under each number the lock of that key is held, and no
-- other.
pub record LocksAre {K S H : Type 0} (eq : K → K → Bool) (locks : Locks K S H) (p : LockPart K)
    : Type 0 where
  pub holders : (k : K) → holder_of eq locks k ≡ p.locks k
  pub locked : (n : ℕ) → option_and_then live_key (lock_under locks n) ≡ p.locked n
  pub kept : (n : ℕ) → option_and_then kept_key (lock_under locks n) ≡ p.kept n
  pub holds : (k : K) (n : ℕ) → p.locks k ≡ Some n →
      IsSomeAnd (key_in p n) (λ own. eq own k ≡ true)
  pub held : (k : K) (n : ℕ) → key_in p n ≡ Some k → p.locks k ≡ Some n

-- the locks change as the part does, whatever they stand for
abbrev pub LocksBecome : {K S H : Type 0} → (K → K → Bool) → Locks K S H →
    (LockPart K → LockPart K) → Locks K S H → Type 0
LocksBecome {K} eq old change new =
    (p : LockPart K) → LocksAre eq old p → LocksAre eq new (change p)
