-- What the locks say of the part that they stand for.
use Rattle.std.proofs.Common.{◌≡◌, ℕ, ◌==◌, Bool, true, false, not, cond, Option, Some, None, is_some, IsSome, IsNone, IsTrue, refl, sym, ap, ◌∙◌, subst}
use Rattle.std.specs.Prelude.{◌↔◌}
use Rattle.std.proofs.lemmas.Bool.{eqb-true, false≢true}
use Rattle.std.specs.Option.{option_and_then, option_map, option_map_or, option_or}
use Rattle.moka_hist.specs.Finite.{put_at, put_key}
use Rattle.moka_hist.specs.State.{DeskPart}
use Rattle.moka_hist.specs.Visits.{is_keeping, is_unlocked_for, keeper, lock_taken, taken_under}
use Rattle.moka_hist.specs.declared.visits.LockTaken.TheVariants as taken
use Rattle.moka_hist.proofs.Owners.{Owns, Owned, owns_fewer, owned_fewer, owns_more, owned_more}
use Rattle.moka_desk.specs.Notices.{either}
use Rattle.moka_desk.specs.Locks.{as_kept, is_kept, key_in, kept_key, live_key, lock_under, locks_but, taken_of, LockPart, LocksAre}
use Rattle.moka_desk.specs.declared.locks.Locks.{Locks}
use Rattle.moka_desk.specs.declared.locks.OwnLock.{OwnLock}

part_cond : {A B : Type 0} (f : A → Option B) (b : Bool) (o q : Option A) → option_and_then f (cond b o q) ≡ cond b (option_and_then f o) (option_and_then f q)
part_cond f true o q = refl
part_cond f false o q = refl

module _ {K : Type 0} where
  -- the key under a number is that of its lock
  under_is : (o : Option (OwnLock K)) → option_or (option_and_then live_key o) (option_and_then kept_key o) ≡ option_map (λ l. l.key) o
  under_is None = refl
  under_is (Some own) = by own.kept where
    by : (b : Bool) → option_or (cond b None (Some own.key)) (cond b (Some own.key) None) ≡ Some own.key
    by true = refl
    by false = refl

  -- no live call holds a lock that is kept, and no notice keeps one that isn't
  keeps_is : (o : Option (OwnLock K)) → is_kept o ≡ is_some (option_and_then kept_key o)
  keeps_is None = refl
  keeps_is (Some own) = by own.kept where
    by : (b : Bool) → b ≡ is_some (cond b (Some own.key) None)
    by true = refl
    by false = refl

  live_apart : (o : Option (OwnLock K)) → is_some (option_and_then live_key o) ≡ true → option_and_then kept_key o ≡ None
  live_apart None e = refl
  live_apart (Some own) e = by own.kept e where
    by : (b : Bool) → is_some (cond b None (Some own.key)) ≡ true → cond b (Some own.key) None ≡ None
    by true e = cc
    by false e = refl

  live_none : (o : Option (OwnLock K)) → is_kept o ≡ true → option_and_then live_key o ≡ None
  live_none None e = refl
  live_none (Some own) e = ap (λ b. cond b None (Some own.key)) e

  kept_some : (o : Option (OwnLock K)) → is_kept o ≡ true → is_some (option_and_then kept_key o) ≡ true
  kept_some None e = cc
  kept_some (Some own) e = ap (λ b. is_some (cond b (Some own.key) None)) e

  kept_none : (o : Option (OwnLock K)) → is_kept o ≡ false → option_and_then kept_key o ≡ None
  kept_none None e = refl
  kept_none (Some own) e = ap (λ b. cond b (Some own.key) None) e

  -- nothing is held under a number exactly where its live call holds none and its notice keeps none
  none_both : (o : Option (OwnLock K)) (b : Bool) → is_some (option_map (λ l. l.kept) o) ≡ not b → IsTrue b ↔ (IsNone (option_and_then live_key o) × IsNone (option_and_then kept_key o))
  none_both None true e = ((λ h. (refl, refl)), (λ h. refl))
  none_both None false e = absurd (false≢true e)
  none_both (Some own) true e = absurd (false≢true (sym e))
  none_both (Some own) false e = ((λ h. absurd (false≢true h)), (λ h. by own.kept h.0 h.1)) where
    by : (k : Bool) → is_some (cond k None (Some own.key)) ≡ false → is_some (cond k (Some own.key) None) ≡ false → IsTrue false
    by true f h = absurd (false≢true (sym h))
    by false f h = absurd (false≢true (sym f))

  live_some : (o : Option (OwnLock K)) (kept : Bool) → option_map (λ l. l.kept) o ≡ Some kept → IsTrue (not kept) ↔ IsSome (option_and_then live_key o)
  live_some None kept e = absurd (cc)
  live_some (Some own) kept e =
      let is : own.kept ≡ kept = cc in
      subst (λ (k : Bool). IsTrue (not k) ↔ IsSome (cond own.kept None (Some own.key))) is (by own.kept) where
        by : (k : Bool) → IsTrue (not k) ↔ IsSome (cond k None (Some own.key))
        by true = ((λ h. h), (λ h. h))
        by false = ((λ h. refl), (λ h. refl))

  live_nowhere : (o : Option (OwnLock K)) → option_map (λ l. l.kept) o ≡ None → IsTrue false ↔ IsSome (option_and_then live_key o)
  live_nowhere None e = ((λ h. h), (λ h. h))
  live_nowhere (Some own) e = absurd (cc)

  -- whether it is kept
  pub kept_some_so : (o : Option (OwnLock K)) (kept : Bool) → option_map (λ l. l.kept) o ≡ Some kept → kept ≡ is_kept o
  kept_some_so None kept e = absurd (cc)
  kept_some_so (Some own) kept e = let is : own.kept ≡ kept = cc in sym is

  pub kept_none_so : (o : Option (OwnLock K)) → option_map (λ l. l.kept) o ≡ None → false ≡ is_kept o
  kept_none_so None e = refl
  kept_none_so (Some own) e = absurd (cc)

  -- that which stands beside the maps, and else what the map has
  pub kept_first : (o m : Option (OwnLock K)) (kept : Bool) → option_map (λ l. l.kept) o ≡ Some kept → Some kept ≡ option_map (λ l. l.kept) (either o m)
  kept_first None m kept e = absurd (cc)
  kept_first (Some own) m kept e = sym e

  pub kept_behind : (o m : Option (OwnLock K)) → option_map (λ l. l.kept) o ≡ None → option_map (λ l. l.kept) m ≡ option_map (λ l. l.kept) (either o m)
  kept_behind None m e = refl
  kept_behind (Some own) m e = absurd (cc)

  none_of_both : (o : Option (OwnLock K)) → option_and_then live_key o ≡ None → option_and_then kept_key o ≡ None → o ≡ None
  none_of_both None e f = refl
  none_of_both (Some own) e f = by own.kept e f where
    by : (b : Bool) → cond b None (Some own.key) ≡ None → cond b (Some own.key) None ≡ None → Some own ≡ None
    by true e f = absurd (cc)
    by false e f = absurd (cc)

  -- once marked, it is kept
  live_marked : (o : Option (OwnLock K)) → option_and_then live_key (option_map as_kept o) ≡ None
  live_marked None = refl
  live_marked (Some own) = refl

  kept_marked : (o : Option (OwnLock K)) → option_and_then kept_key (option_map as_kept o) ≡ option_map (λ l. l.key) o
  kept_marked None = refl
  kept_marked (Some own) = refl

  none_under : (b : Bool) (x y : Option K) → option_or (cond b None x) (cond b None y) ≡ cond b None (option_or x y)
  none_under true x y = refl
  none_under false x y = refl

  more_under : (b : Bool) (key : K) (x y : Option K) → option_or (cond b (Some key) x) y ≡ cond b (Some key) (option_or x y)
  more_under true key x y = refl
  more_under false key x y = refl

-- another call finds a lock held under the number, or kept
pub taken_by_another : {K V E : Type 0} (w : DeskPart K V E) (call : ℕ) (key : K) (holder : ℕ) (keeps : Bool) → w.locks key ≡ Some holder →
    is_unlocked_for w call key ≡ false → keeps ≡ is_keeping w holder → lock_taken w call key ≡ cond keeps (taken.Kept holder) taken.Held
taken_by_another w call key holder keeps held other is =
    let apart : (holder == call) ≡ false = sym (ap (λ o. option_map_or (λ h. h == call) o true) held) ∙ other in
    ap (λ o. option_map_or (taken_under w call) o taken.Taken) held
    ∙ ap (λ b. cond b taken.Taken (cond (is_keeping w holder) (taken.Kept holder) taken.Held)) apart
    ∙ ap (λ b. cond b (taken.Kept holder) taken.Held) (sym is)

-- another call has not taken it
pub not_taken : {K : Type 0} (o : Option (OwnLock K)) (holder : ℕ) → taken_of o holder ≡ taken.Taken → ⊥
not_taken o holder e = by (is_kept o) e where
  by : (b : Bool) → cond b (taken.Kept holder) taken.Held ≡ taken.Taken → ⊥
  by true e = cc
  by false e = cc

-- the notice that keeps a lock, by the number that it is held under
pub keeper_is : {K V E : Type 0} (w : DeskPart K V E) (key : K) (holder : ℕ) (keeps : Bool) → w.locks key ≡ Some holder → keeps ≡ is_keeping w holder →
    cond keeps (Some holder) None ≡ keeper w key
keeper_is w key holder keeps held is =
    ap (λ b. cond b (Some holder) None) is ∙ ap (option_and_then (λ n. cond (is_keeping w n) (Some n) None)) (sym held)

-- no notice keeps a lock that is free
pub keeper_none : {K V E : Type 0} (w : DeskPart K V E) (key : K) → w.locks key ≡ None → None ≡ keeper w key
keeper_none w key free = ap (option_and_then (λ n. cond (is_keeping w n) (Some n) None)) (sym free)

-- what is put at a number is put where that stands
pub put_own : {A : Type 0} (f : ℕ → A) (g : A → A) (number n : ℕ) → cond (number == n) (g (f number)) (f n) ≡ cond (number == n) (g (f n)) (f n)
put_own f g number n = by (number == n) refl where
  by : (b : Bool) → (number == n) ≡ b → cond b (g (f number)) (f n) ≡ cond b (g (f n)) (f n)
  by true e = ap g (ap f (eqb-true number n e))
  by false e = refl

-- taken out where there is nothing, nothing changes
pub out_of_none : {A : Type 0} (f : ℕ → Option A) (number n : ℕ) → f number ≡ None → put_at f number None n ≡ f n
out_of_none f number n none = by (number == n) refl where
  by : (b : Bool) → (number == n) ≡ b → cond b None (f n) ≡ f n
  by true e = sym none ∙ ap f (eqb-true number n e)
  by false e = refl

module _ {K S H : Type 0} (eq : K → K → Bool) (locks : Locks K S H) (p : LockPart K) (h : LocksAre eq locks p) where
  pub key_at : (n : ℕ) → key_in p n ≡ option_map (λ l. l.key) (lock_under locks n)
  key_at n =
      ap (λ (o : Option K). option_or o (p.kept n)) (sym (h.locked n))
      ∙ ap (option_or (option_and_then live_key (lock_under locks n))) (sym (h.kept n))
      ∙ under_is (lock_under locks n)

  pub keeping_at : (n : ℕ) → is_kept (lock_under locks n) ≡ is_some (p.kept n)
  keeping_at n = keeps_is (lock_under locks n) ∙ ap is_some (h.kept n)

  pub live_keeps_none : (n : ℕ) → is_some (p.locked n) ≡ true → p.kept n ≡ None
  live_keeps_none n is = sym (h.kept n) ∙ live_apart (lock_under locks n) (ap is_some (h.locked n) ∙ is)

  pub nothing_under : (n : ℕ) (b : Bool) → is_some (option_map (λ l. l.kept) (lock_under locks n)) ≡ not b → IsTrue b ↔ (IsNone (p.locked n) × IsNone (p.kept n))
  nothing_under n b e =
      subst (λ (x : Option K). IsTrue b ↔ (IsNone x × IsNone (p.kept n))) (h.locked n)
      (subst (λ (y : Option K). IsTrue b ↔ (IsNone (option_and_then live_key (lock_under locks n)) × IsNone y)) (h.kept n)
      (none_both (lock_under locks n) b e))

  pub none_under_is : (n : ℕ) → p.locked n ≡ None → p.kept n ≡ None → lock_under locks n ≡ None
  none_under_is n none unkept = none_of_both (lock_under locks n) (h.locked n ∙ none) (h.kept n ∙ unkept)

  pub holds_live : (n : ℕ) (kept : Bool) → option_map (λ l. l.kept) (lock_under locks n) ≡ Some kept → IsTrue (not kept) ↔ IsSome (p.locked n)
  holds_live n kept e = subst (λ (x : Option K). IsTrue (not kept) ↔ IsSome x) (h.locked n) (live_some (lock_under locks n) kept e)

  pub holds_no_live : (n : ℕ) → option_map (λ l. l.kept) (lock_under locks n) ≡ None → IsTrue false ↔ IsSome (p.locked n)
  holds_no_live n e = subst (λ (x : Option K). IsTrue false ↔ IsSome x) (h.locked n) (live_nowhere (lock_under locks n) e)

  -- ---- what is held under a number is free

  abbrev pub without : ℕ → LockPart K
  without number = record {
    locks = locks_but p number;
    locked = put_at p.locked number None;
    kept = put_at p.kept number None;
  }

  without_under : (number n : ℕ) → put_at (key_in p) number None n ≡ key_in (without number) n
  without_under number n = sym (none_under (number == n) (p.locked n) (p.kept n))

  pub holds_without : (number : ℕ) → Owns eq (locks_but p number) (key_in (without number))
  holds_without number = subst (λ (f : ℕ → Option K). Owns eq (locks_but p number) f) (λ i n. without_under number n i)
      (owns_fewer eq p.locks (key_in p) number h.holds)

  pub held_without : (number : ℕ) → Owned (locks_but p number) (key_in (without number))
  held_without number = subst (λ (f : ℕ → Option K). Owned (locks_but p number) f) (λ i n. without_under number n i)
      (owned_fewer eq p.locks (key_in p) number h.held)

  pub live_without : (new : ℕ → Option (OwnLock K)) (number : ℕ) → ((n : ℕ) → new n ≡ cond (number == n) None (lock_under locks n)) →
      (n : ℕ) → option_and_then live_key (new n) ≡ put_at p.locked number None n
  live_without new number out n =
      ap (option_and_then live_key) (out n) ∙ part_cond live_key (number == n) None (lock_under locks n)
      ∙ ap (λ o. cond (number == n) None o) (h.locked n)

  pub kept_without : (new : ℕ → Option (OwnLock K)) (number : ℕ) → ((n : ℕ) → new n ≡ cond (number == n) None (lock_under locks n)) →
      (n : ℕ) → option_and_then kept_key (new n) ≡ put_at p.kept number None n
  kept_without new number out n =
      ap (option_and_then kept_key) (out n) ∙ part_cond kept_key (number == n) None (lock_under locks n)
      ∙ ap (λ o. cond (number == n) None o) (h.kept n)

  -- ---- a call takes the lock of a key

  module _ (call : ℕ) (key : K) (none : p.locked call ≡ None) (unkept : p.kept call ≡ None) where
    abbrev pub taking : LockPart K
    taking = record p { locks = put_key eq p.locks key (Some call); locked = put_at p.locked call (Some key) }

    taking_under : (n : ℕ) → put_at (key_in p) call (Some key) n ≡ key_in taking n
    taking_under n = sym (more_under (call == n) key (p.locked n) (p.kept n))

    free_under : key_in p call ≡ None
    free_under = ap (λ (o : Option K). option_or o (p.kept call)) none ∙ unkept

    pub holds_taking : Owns eq (put_key eq p.locks key (Some call)) (key_in taking)
    holds_taking = subst (λ (f : ℕ → Option K). Owns eq (put_key eq p.locks key (Some call)) f) (λ i n. taking_under n i)
        (owns_more eq p.locks (key_in p) call key free_under h.holds)

    pub held_taking : eq key key ≡ true → p.locks key ≡ None → ((l : K) → eq key l ≡ true → p.locks key ≡ p.locks l) →
        Owned (put_key eq p.locks key (Some call)) (key_in taking)
    held_taking itself free alike = subst (λ (f : ℕ → Option K). Owned (put_key eq p.locks key (Some call)) f) (λ i n. taking_under n i)
        (owned_more eq p.locks (key_in p) call key itself free alike h.held)

    pub live_taking : (new : ℕ → Option (OwnLock K)) → ((n : ℕ) → new n ≡ cond (call == n) (Some (record { key = key; kept = false })) (lock_under locks n)) →
        (n : ℕ) → option_and_then live_key (new n) ≡ put_at p.locked call (Some key) n
    live_taking new more n =
        ap (option_and_then live_key) (more n) ∙ part_cond live_key (call == n) (Some (record { key = key; kept = false })) (lock_under locks n)
        ∙ ap (λ o. cond (call == n) (Some key) o) (h.locked n)

    pub kept_taking : (new : ℕ → Option (OwnLock K)) → ((n : ℕ) → new n ≡ cond (call == n) (Some (record { key = key; kept = false })) (lock_under locks n)) →
        (n : ℕ) → option_and_then kept_key (new n) ≡ p.kept n
    kept_taking new more n =
        ap (option_and_then kept_key) (more n) ∙ part_cond kept_key (call == n) (Some (record { key = key; kept = false })) (lock_under locks n)
        ∙ ap (λ o. cond (call == n) None o) (h.kept n) ∙ out_of_none p.kept call n unkept

  -- ---- a notice keeps the lock of a call that leaves

  module _ (call : ℕ) where
    abbrev pub keeping : LockPart K
    keeping = record p { locked = put_at p.locked call None; kept = put_at p.kept call (key_in p call) }

    keeping_under : (n : ℕ) → key_in p n ≡ key_in keeping n
    keeping_under n = by (call == n) refl where
      by : (b : Bool) → (call == n) ≡ b → key_in p n ≡ option_or (cond b None (p.locked n)) (cond b (key_in p call) (p.kept n))
      by true e = ap (key_in p) (sym (eqb-true call n e))
      by false e = refl

    pub holds_keeping : Owns eq p.locks (key_in keeping)
    holds_keeping = subst (λ (f : ℕ → Option K). Owns eq p.locks f) (λ i n. keeping_under n i) h.holds

    pub held_keeping : Owned p.locks (key_in keeping)
    held_keeping = subst (λ (f : ℕ → Option K). Owned p.locks f) (λ i n. keeping_under n i) h.held

    pub live_keeping : (new : ℕ → Option (OwnLock K)) → ((n : ℕ) → new n ≡ cond (call == n) (option_map as_kept (lock_under locks n)) (lock_under locks n)) →
        (n : ℕ) → option_and_then live_key (new n) ≡ put_at p.locked call None n
    live_keeping new marked n =
        ap (option_and_then live_key) (marked n) ∙ part_cond live_key (call == n) (option_map as_kept (lock_under locks n)) (lock_under locks n)
        ∙ ap (λ (o : Option K). cond (call == n) o (option_and_then live_key (lock_under locks n))) (live_marked (lock_under locks n))
        ∙ ap (λ (o : Option K). cond (call == n) None o) (h.locked n)

    pub kept_keeping : (new : ℕ → Option (OwnLock K)) → ((n : ℕ) → new n ≡ cond (call == n) (option_map as_kept (lock_under locks n)) (lock_under locks n)) →
        (n : ℕ) → option_and_then kept_key (new n) ≡ put_at p.kept call (key_in p call) n
    kept_keeping new marked n =
        ap (option_and_then kept_key) (marked n) ∙ part_cond kept_key (call == n) (option_map as_kept (lock_under locks n)) (lock_under locks n)
        ∙ by (call == n) refl where
          by : (b : Bool) → (call == n) ≡ b → cond b (option_and_then kept_key (option_map as_kept (lock_under locks n))) (option_and_then kept_key (lock_under locks n))
              ≡ cond b (key_in p call) (p.kept n)
          by true e = kept_marked (lock_under locks n) ∙ sym (key_at n) ∙ ap (key_in p) (sym (eqb-true call n e))
          by false e = h.kept n

  -- ---- a notice ends

  pub kept_is : (number : ℕ) → is_kept (lock_under locks number) ≡ true → (p.locked number ≡ None) × (is_some (p.kept number) ≡ true)
  kept_is number e = (
    sym (h.locked number) ∙ live_none (lock_under locks number) e,
    ap is_some (sym (h.kept number)) ∙ kept_some (lock_under locks number) e,
  )

  pub unkept_is : (number : ℕ) → is_kept (lock_under locks number) ≡ false → p.kept number ≡ None
  unkept_is number e = sym (h.kept number) ∙ kept_none (lock_under locks number) e

  abbrev pub released : ℕ → LockPart K
  released number = record p {
    locks = cond (is_some (p.kept number)) (locks_but p number) p.locks;
    kept = put_at p.kept number None;
  }

  -- the lock that a notice kept is free
  pub released_kept : (new : Locks K S H) (number : ℕ) → is_kept (lock_under locks number) ≡ true → LocksAre eq new (without number) → LocksAre eq new (released number)
  released_kept new number e are =
      let is = kept_is number e in
      subst (λ (b : Bool). LocksAre eq new (record p { locks = cond b (locks_but p number) p.locks; kept = put_at p.kept number None })) (sym is.1)
      (subst (λ (f : ℕ → Option K). LocksAre eq new (record { locks = locks_but p number; locked = f; kept = put_at p.kept number None }))
      (λ i n. out_of_none p.locked number n is.0 i) are)

  -- where it kept none, nothing changes
  pub released_none : (number : ℕ) → is_kept (lock_under locks number) ≡ false → LocksAre eq locks (released number)
  released_none number e =
      let none = unkept_is number e in
      subst (λ (o : Option K). LocksAre eq locks (record p { locks = cond (is_some o) (locks_but p number) p.locks; kept = put_at p.kept number None })) (sym none)
      (subst (λ (f : ℕ → Option K). LocksAre eq locks (record p { kept = f })) (λ i n. sym (out_of_none p.kept number n none) i) h)
