-- The lock that stands beside the maps.
use Rattle.std.proofs.Common.{◌≡◌, ◌==◌, ℕ, Bool, true, false, cond, Option, Some, None, is_some, refl, sym, ap, subst, ◌∙◌}
use Rattle.std.specs.Cmp.{IsEquivalence}
use Rattle.std.specs.HashMap.{get}
use Rattle.std.specs.Option.{option_map}
use Rattle.std.proofs.lemmas.Bool.{eqb-true, eqb-false}
use Rattle.moka_hist.proofs.Owners.{Owned, Owns, but, but_one}
use Rattle.moka_desk.specs.Notices.{either}
use Rattle.moka_desk.specs.Locks.{LockPart, as_kept, first_holder, first_lock, holder_of, key_in, marked}
use Rattle.moka_desk.specs.declared.locks.Locks.{Locks}
use Rattle.moka_desk.specs.declared.locks.OwnLock.{OwnLock}
use Rattle.moka_desk.proofs.Keys.{same_at}
use Rattle.moka_desk.proofs.WhoHolds.{same_number}

module _ {A : Type 0} where
  -- one that is put where none stands beside the map
  pub put_first : (b : Bool) (x : A) (m o : Option A) → m ≡ o → either (cond b (Some x) None) m ≡ cond b (Some x) o
  put_first true x m o e = refl
  put_first false x m o e = e

  -- one that is put in the map
  pub put_behind : (b : Bool) (x : A) (f m o : Option A) → either f m ≡ o → (b ≡ true → o ≡ None) → either f (cond b (Some x) m) ≡ cond b (Some x) o
  put_behind true x None m o e none = refl
  put_behind true x (Some y) m o e none = let gone : Some y ≡ None = e ∙ none refl in absurd (cc)
  put_behind false x f m o e none = e

  -- one that goes beside the map, and from the map too
  behind_first : (b : Bool) (x : A) (m o : Option A) → either (cond b (Some x) None) m ≡ o → cond b None m ≡ cond b None o
  behind_first true x m o e = refl
  behind_first false x m o e = e

  -- one that goes from the map
  pub out_behind : (b : Bool) (f m o : Option A) → either f m ≡ o → (b ≡ true → f ≡ None) → either f (cond b None m) ≡ cond b None o
  out_behind true None m o e none = refl
  out_behind true (Some y) m o e none = let gone : Some y ≡ None = none refl in absurd (cc)
  out_behind false f m o e none = e

  pub is_none_of : (o : Option A) → is_some o ≡ false → o ≡ None
  is_none_of None e = refl
  is_none_of (Some x) e = absurd (cc)

-- a lock that is held under the number is its
pub first_is : {K : Type 0} (lock : ℕ × OwnLock K) (number : ℕ) → is_some (first_lock (Some lock) number) ≡ true → (lock.0 == number) ≡ true
first_is lock number = by (lock.0 == number)
  where
    by : (b : Bool) → is_some (cond b (Some lock.1) None) ≡ true → b ≡ true
    by true is = refl
    by false is = is

module _ {K : Type 0} (eq : K → K → Bool) (laws : IsEquivalence eq) where
  first_same : (first : Option (ℕ × OwnLock K)) (l k : K) → eq l k ≡ true → first_holder eq first l ≡ first_holder eq first k
  first_same None l k same = refl
  first_same (Some lock) l k same = ap (λ b. cond b (Some lock.0) None) (laws.symm lock.1.key l ∙ laws.congr l k lock.1.key same ∙ laws.symm k lock.1.key)

  -- equal keys have one holder
  pub holder_same : {S H : Type 0} (locks : Locks K S H) (l k : K) → eq l k ≡ true → holder_of eq locks l ≡ holder_of eq locks k
  holder_same locks l k same =
      ap (λ o. either o (get eq locks.holders l)) (first_same locks.first l k same)
      ∙ ap (λ o. either (first_holder eq locks.first k) o) (same_at eq laws locks.holders l k same)

  -- the lock that stands beside the maps goes
  pub first_freed : (lock : ℕ × OwnLock K) (number : ℕ) (holders : K → Option ℕ) (locked : ℕ → Option (OwnLock K)) (p : LockPart K)
      → ((k : K) → either (first_holder eq (Some lock) k) (holders k) ≡ p.locks k) → key_in p number ≡ Some lock.1.key
      → Owns eq p.locks (key_in p) → Owned p.locks (key_in p) → (lock.0 == number) ≡ true
      → ((k : K) → cond (eq lock.1.key k) None (holders k) ≡ but eq p.locks (key_in p) number k)
      × ((n : ℕ) → cond (number == n) None (locked n) ≡ cond (number == n) None (either (first_lock (Some lock) n) (locked n)))
  first_freed lock number holders locked p hs one holds held is = (out, gone)
    where
      own : K
      own = lock.1.key

      its : (k : K) → eq own k ≡ true → p.locks k ≡ Some lock.0
      its k same = sym (hs k) ∙ ap (λ b. either (cond b (Some lock.0) None) (holders k)) same

      out : (k : K) → cond (eq own k) None (holders k) ≡ but eq p.locks (key_in p) number k
      out k = behind_first (eq own k) lock.0 (holders k) (p.locks k) (hs k)
          ∙ but_one eq p.locks (key_in p) number own holds held one (λ l same. its own (laws.refl own) ∙ sym (its l same)) k

      gone : (n : ℕ) → cond (number == n) None (locked n) ≡ cond (number == n) None (either (first_lock (Some lock) n) (locked n))
      gone n = by (number == n) refl
        where
          by : (b : Bool) → (number == n) ≡ b → cond b None (locked n) ≡ cond b None (either (first_lock (Some lock) n) (locked n))
          by true e = refl
          by false e = sym (ap (λ b. either (cond b (Some lock.1) None) (locked n)) (ap (λ m. m == n) (eqb-true lock.0 number is) ∙ e))

  -- a key whose lock is held by the map is not that of the lock beside it
  pub apart_first : (first : Option (ℕ × OwnLock K)) (k : K) (number : ℕ) (m o : Option ℕ) → either (first_holder eq first k) m ≡ o → o ≡ Some number → first_lock first number ≡ None
      → first_holder eq first k ≡ None
  apart_first None k number m o e is none = refl
  apart_first (Some lock) k number m o e is none = by (eq lock.1.key k) refl
    where
      by : (b : Bool) → eq lock.1.key k ≡ b → cond b (Some lock.0) None ≡ None
      by false s = refl
      by true s =
          let mine : Some lock.0 ≡ Some number = sym (ap (λ b. either (cond b (Some lock.0) None) m) s) ∙ e ∙ is in
          let one : lock.0 ≡ number = cc in
          let yes : (lock.0 == number) ≡ true = subst (λ m. (lock.0 == m) ≡ true) one (same_number lock.0) in
          let some : Some lock.1 ≡ None = sym (ap (λ b. cond b (Some lock.1) None) yes) ∙ none in
          absurd (cc)

-- ---- a notice keeps what is held under its number

module _ {K : Type 0} where
  -- the key's lock is held under the number that it was held under
  pub marked_holder : (eq : K → K → Bool) (first : Option (ℕ × OwnLock K)) (number : ℕ) (k : K) → first_holder eq (option_map (marked number) first) k ≡ first_holder eq first k
  marked_holder eq None number k = refl
  marked_holder eq (Some lock) number k = by (lock.0 == number)
    where
      by : (b : Bool) → first_holder eq (Some (cond {A = ℕ × OwnLock K} b (lock.0, as_kept lock.1) lock)) k ≡ first_holder eq (Some lock) k
      by true = refl
      by false = refl

  -- one that stands beside the maps
  marked_first : (first : Option (ℕ × OwnLock K)) (number n : ℕ) → first_lock (option_map (marked number) first) n ≡ cond (number == n) (option_map as_kept (first_lock first n)) (first_lock first n)
  marked_first None number n = by (number == n)
    where
      by : (b : Bool) → ◌≡◌ {A = Option (OwnLock K)} None (cond b None None)
      by true = refl
      by false = refl
  marked_first (Some lock) number n = by (lock.0 == number) refl
    where
      its : (b : Bool) → cond b (Some (as_kept lock.1)) None ≡ cond b (option_map as_kept (cond b (Some lock.1) None)) (cond b (Some lock.1) None)
      its true = refl
      its false = refl

      other : (b m : Bool) → (b ≡ true → m ≡ true → ⊥) → cond m (Some lock.1) None ≡ cond b (option_map as_kept (cond m (Some lock.1) None)) (cond m (Some lock.1) None)
      other false m apart = refl
      other true false apart = refl
      other true true apart = absurd (apart refl refl)

      by : (b : Bool) → (lock.0 == number) ≡ b → first_lock (Some (cond {A = ℕ × OwnLock K} b (lock.0, as_kept lock.1) lock)) n ≡ cond (number == n) (option_map as_kept (first_lock (Some lock) n)) (first_lock (Some lock) n)
      by true e =
          subst (λ (m : ℕ). cond (lock.0 == n) (Some (as_kept lock.1)) None ≡ cond (m == n) (option_map as_kept (cond (lock.0 == n) (Some lock.1) None)) (cond (lock.0 == n) (Some lock.1) None))
          (eqb-true lock.0 number e) (its (lock.0 == n))
      by false e = other (number == n) (lock.0 == n) (λ s t. eqb-false lock.0 number e (eqb-true lock.0 n t ∙ sym (eqb-true number n s)))

  pub marked_under : (number n : ℕ) (first : Option (ℕ × OwnLock K)) (m : Option (OwnLock K))
      → either (first_lock (option_map (marked number) first) n) (cond (number == n) (option_map as_kept m) m) ≡ cond (number == n) (option_map as_kept (either (first_lock first n) m)) (either (first_lock first n) m)
  marked_under number n first m = ap (λ o. either o (cond (number == n) (option_map as_kept m) m)) (marked_first first number n) ∙ by (number == n) (first_lock first n)
    where
      by : (b : Bool) (o : Option (OwnLock K)) → either (cond b (option_map as_kept o) o) (cond b (option_map as_kept m) m) ≡ cond b (option_map as_kept (either o m)) (either o m)
      by true None = refl
      by true (Some own) = refl
      by false None = refl
      by false (Some own) = refl
