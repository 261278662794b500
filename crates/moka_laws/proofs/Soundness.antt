-- A sound desk stays sound, visit by visit.
use Rattle.std.proofs.Common.{◌≡◌, ℕ, ◌+◌, ◌≤◌, ◌==◌, Bool, true, false, cond, List, [], ◌∷◌, ◌++◌, map, append-nil, Option, Some, None, is_some, refl, sym, ap, ◌∙◌, subst, arith, filter, not, zero, suc, ◌||◌}
use Rattle.std.proofs.lemmas.Bool.{eqb-true, false≢true, eq-eqb}
use Rattle.std.specs.Cmp.{IsEquivalence}
use Rattle.std.specs.Option.{IsSomeAnd, option_map, option_map_or, option_or}
use Rattle.moka_hist.specs.Finite.{load_eq, put_at, put_key, times}
use Rattle.moka_hist.specs.State.{DeskPart}
use Rattle.moka_hist.specs.Visits.{claimed_alone, cause_of, claimed, decided, gave_back, has_room, is_keeping, is_running, is_unlocked_for, key_under, locked_by, locks_without, makes, number_of, once_decided, opened_notice, unlocked, posted, settlement_for, took_owed, without_moment, free_id, is_named, is_registered, next_free, registered_by, registered_with, retired, runs}
use Rattle.moka_hist.specs.Conditions.{held_number, numbers_of, HoldsWrite, IsPlaceOf, IsUnused}
use Rattle.moka_hist.specs.SoundDesk.{SoundDesk}
use Rattle.moka_hist.specs.Dropping.{left, owed_with}
use Rattle.moka_hist.specs.Telling.{told_call, heard, with_end}
use Rattle.moka_hist.specs.declared.loads.Load.{Load}
use Rattle.moka_hist.specs.declared.events.Told.{Told}
use Rattle.moka_hist.specs.declared.events.Told.TheVariants as answer
use Rattle.moka_hist.specs.declared.notices.Notice.{Notice}
use Rattle.moka_hist.specs.declared.rules.Cause.{Cause}
use Rattle.moka_hist.specs.declared.visits.Visit.TheVariants as visit
use Rattle.moka_hist.specs.declared.writes.Holding.{Holding}
use Rattle.moka_hist.specs.declared.writes.Holding.TheVariants as holding
use Rattle.moka_hist.specs.declared.writes.Owed.{Owed}
use Rattle.moka_hist.specs.declared.writes.Write.{Write}
use Rattle.moka_hist.proofs.Owners.{Owns, Owned, is_none_of, owns_more, owned_more, owns_fewer, owned_fewer}
use Rattle.moka_laws.specs.Sound.{FreshIsSound, VisitsKeepSound, LeavingKeepsSound, DecidingKeepsSound, TellingKeepsSound, EnteringKeepsSound, ClockKeepsSound}
use Rattle.moka_laws.proofs.Counting.{none_some, some_same, put_cases, same_number}
use Rattle.moka_laws.proofs.Posts.{among, among_owed, once}
use Rattle.moka_laws.proofs.Balance.{times_first, among_last, owed_append}
use Rattle.moka_laws.proofs.Holding.{numbers_stand, place_number}
use Rattle.moka_laws.proofs.Outcomes.{computes_of}
use Rattle.moka_laws.proofs.Owning.{loads_self, loads_alike}
use Rattle.moka_hist.specs.declared.predicates.Registered.{Registered}
use Rattle.std.specs.List.{list_any}

-- ---- writes: what calls hold, and how often each number stands with the desk

record Apart (held : ℕ → Option Holding) (stands : ℕ → ℕ) : Type 0 where
  once : (x : ℕ) → stands x ≤ 1
  held_apart : (n : ℕ) (h : Holding) → held n ≡ Some h → stands (held_number n h) ≡ 0
  one_holder : (n m : ℕ) (g h : Holding) → held n ≡ Some g → held m ≡ Some h → held_number n g ≡ held_number m h → n ≡ m

once_other : (x y : ℕ) → (x ≡ y → ⊥) → once x y ≡ 0
once_other x y apart = by (x == y) refl
  where
    by : (b : Bool) → (x == y) ≡ b → cond {A = ℕ} b 1 0 ≡ 0
    by true e = absurd (apart (eqb-true x y e))
    by false e = refl

once_same : (x : ℕ) → once x x ≡ 1
once_same x = ap (λ b. cond {A = ℕ} b 1 0) (same_number x)

module _ (held : ℕ → Option Holding) (stands after : ℕ → ℕ) (call : ℕ) where
  -- a call holds nothing any more, and nothing else has changed
  clears : Apart held stands → ((x : ℕ) → after x ≡ stands x) → Apart (put_at held call None) after
  clears a same = record {
    once = λ x. omega (arith, a.once x, same x);
    held_apart = λ n h e. put_cases held call None n (Some h) (after (held_number n h) ≡ 0) e (λ here is. absurd (none_some is))
        (λ there is. same (held_number n h) ∙ a.held_apart n h is);
    one_holder = λ n m g h e f k. put_cases held call None n (Some g) (n ≡ m) e (λ here is. absurd (none_some is))
        (λ there is. put_cases held call None m (Some h) (n ≡ m) f (λ here no. absurd (none_some no)) (λ there yes. a.one_holder n m g h is yes k));
  }

  -- a call gives the write that it held to the desk
  gives : (x : Holding) → held call ≡ Some x → Apart held stands → ((y : ℕ) → after y ≡ stands y + once y (held_number call x)) →
      Apart (put_at held call None) after
  gives x holds a more = record {
    once = λ y. by y (y == held_number call x) refl;
    held_apart = λ n h e. put_cases held call None n (Some h) (after (held_number n h) ≡ 0) e (λ here is. absurd (none_some is))
        (λ there is. omega (
          arith,
          more (held_number n h),
          a.held_apart n h is,
          once_other (held_number n h) (held_number call x)
              (λ same. false≢true (sym there ∙ ap (λ v. call == v) (a.one_holder n call h x is holds same) ∙ same_number call)),
        ));
    one_holder = λ n m g h e f k. put_cases held call None n (Some g) (n ≡ m) e (λ here is. absurd (none_some is))
        (λ there is. put_cases held call None m (Some h) (n ≡ m) f (λ here no. absurd (none_some no)) (λ there yes. a.one_holder n m g h is yes k));
  }
    where
      by : (y : ℕ) (b : Bool) → (y == held_number call x) ≡ b → after y ≤ 1
      by y true e =
          let none : stands y ≡ 0 = ap stands (eqb-true y (held_number call x) e) ∙ a.held_apart call x holds in
          let one : once y (held_number call x) ≡ 1 = ap (λ b. cond {A = ℕ} b 1 0) e in
          omega (arith, more y)
      by y false e =
          let none : once y (held_number call x) ≡ 0 = ap (λ b. cond {A = ℕ} b 1 0) e in
          omega (arith, more y, a.once y)

  -- a call that held nothing holds this now; no other call holds its number, and what stands with
  -- the desk is fewer by what it took up
  takes : (x : Holding) → held call ≡ None → Apart held stands → ((y : ℕ) → after y ≤ stands y) → after (held_number call x) ≡ 0 →
      ((n : ℕ) (h : Holding) → held n ≡ Some h → held_number n h ≡ held_number call x → ⊥) → Apart (put_at held call (Some x)) after
  takes x none a fewer gone alone = record {
    once = λ y. omega (arith, fewer y, a.once y);
    held_apart = λ n h e. put_cases held call (Some x) n (Some h) (after (held_number n h) ≡ 0) e
        (λ here is. subst (λ v. after (held_number v h) ≡ 0) here (ap (λ v. after (held_number call v)) (sym (some_same is)) ∙ gone))
        (λ there is. omega (arith, fewer (held_number n h), a.held_apart n h is));
    one_holder = λ n m g h e f k. put_cases held call (Some x) n (Some g) (n ≡ m) e
        (λ here is. put_cases held call (Some x) m (Some h) (n ≡ m) f (λ there no. sym here ∙ there)
        (λ there no. absurd (alone m h no (sym k ∙ own n g here is))))
        (λ there is. put_cases held call (Some x) m (Some h) (n ≡ m) f (λ here no. absurd (alone n g is (k ∙ own m h here no)))
        (λ apart yes. a.one_holder n m g h is yes k));
  }
    where
      own : (n : ℕ) (g : Holding) → call ≡ n → Some x ≡ Some g → held_number n g ≡ held_number call x
      own n g here is = ap (λ v. held_number v g) (sym here) ∙ ap (held_number call) (sym (some_same is))

  -- no moment is pending with what a call holds, and nothing else has changed
  decides : Apart held stands → Apart (put_at held call (option_map without_moment (held call))) stands
  decides a = by (held call) refl
    where
      number : (n : ℕ) (x : Holding) → held_number n (without_moment x) ≡ held_number n x
      number n (holding.Own pending) = refl
      number n (holding.TookUp write) = refl

      by : (o : Option Holding) → held call ≡ o → Apart (put_at held call (option_map without_moment o)) stands
      by None e = record {
        once = a.once;
        held_apart = λ n h f. put_cases held call None n (Some h) (stands (held_number n h) ≡ 0) f (λ here is. absurd (none_some is))
            (λ there is. a.held_apart n h is);
        one_holder = λ n m g h f k same. put_cases held call None n (Some g) (n ≡ m) f (λ here is. absurd (none_some is))
            (λ there is. put_cases held call None m (Some h) (n ≡ m) k (λ here no. absurd (none_some no)) (λ there yes. a.one_holder n m g h is yes same));
      }
      by (Some x) e = record {
        once = a.once;
        held_apart = λ n h f. (was n h f).1.1 ∙ refl;
        one_holder = λ n m g h f k same.
            let p = was n g f in
            let q = was m h k in
            a.one_holder n m p.0 q.0 p.1.0 q.1.0 (p.1.2 ∙ same ∙ sym q.1.2);
      }
        where
          -- what a call holds now it held before, with the same number
          was : (n : ℕ) (h : Holding) → put_at held call (Some (without_moment x)) n ≡ Some h →
              (g : Holding) × ((held n ≡ Some g) × (stands (held_number n h) ≡ 0) × (held_number n g ≡ held_number n h))
          was n h f = put_cases held call (Some (without_moment x)) n (Some h)
              ((g : Holding) × ((held n ≡ Some g) × (stands (held_number n h) ≡ 0) × (held_number n g ≡ held_number n h))) f
              (λ here is.
              let same : held_number n x ≡ held_number n h = sym (number n x) ∙ ap (held_number n) (some_same is) in
              let holds : held n ≡ Some x = ap held (sym here) ∙ e in
              (x, (holds, ap stands (sym same) ∙ a.held_apart n x holds, same)))
              (λ there is. (h, (is, a.held_apart n h is, refl)))

-- ---- of a desk

-- equal things have one owner, and what is owned and who own are one to one
record OneToOne {L : Type 0} (same : L → L → Bool) (owners : L → Option ℕ) (owning : ℕ → Option L) : Type 0 where
  one_owner : (a b : L) → same a b ≡ true → owners a ≡ owners b
  owns : Owns same owners owning
  owned : Owned owners owning

module _ {L : Type 0} (same : L → L → Bool) (owners : L → Option ℕ) (owning : ℕ → Option L) where
  -- a call is no owner any more
  without_call : (call : ℕ) → OneToOne same owners owning →
      OneToOne same (λ l. cond (option_map_or (λ o. o == call) (owners l) false) None (owners l)) (put_at owning call None)
  without_call call o = record {
    one_owner = λ a b e. ap (λ v. cond (option_map_or (λ n. n == call) v false) None v) (o.one_owner a b e);
    owns = owns_fewer same owners owning call o.owns;
    owned = owned_fewer same owners owning call o.owned;
  }

  -- a call that owned nothing owns what nobody owned
  claims : (call : ℕ) (l : L) → same l l ≡ true → ((a b : L) → same a b ≡ true → same l a ≡ same l b) → owning call ≡ None → owners l ≡ None →
      OneToOne same owners owning → OneToOne same (put_key same owners l (Some call)) (put_at owning call (Some l))
  claims call l self alike idle free o = record {
    one_owner = λ a b e. by a b (same l a) (same l b) (alike a b e) e;
    owns = owns_more same owners owning call l idle o.owns;
    owned = owned_more same owners owning call l self free (λ k e. o.one_owner l k e) o.owned;
  }
    where
      by : (a b : L) (x y : Bool) → x ≡ y → same a b ≡ true → cond x (Some call) (owners a) ≡ cond y (Some call) (owners b)
      by a b true true h e = refl
      by a b false false h e = o.one_owner a b e
      by a b true false h e = absurd (false≢true (sym h))
      by a b false true h e = absurd (false≢true h)

-- ---- locks: the numbers that they are held under, and those that notices keep

-- what is kept is kept by a notice that runs, under a number that holds no lock
record Keeping {K V : Type 0} (locked kept : ℕ → Option K) (notices : ℕ → Option (Notice K V)) : Type 0 where
  keeps : (n : ℕ) → is_some (kept n) ≡ true → option_map_or (λ x. runs x.state) (notices n) false ≡ true
  apart : (n : ℕ) → is_some (locked n) ≡ true → is_some (kept n) ≡ false

record LocksWell {K V : Type 0} (eq : K → K → Bool) (locks : K → Option ℕ) (locked kept : ℕ → Option K) (notices : ℕ → Option (Notice K V)) : Type 0 where
  one : OneToOne eq locks (λ n. option_or (locked n) (kept n))
  keeping : Keeping locked kept notices

none_under : {A : Type 0} (b : Bool) (x y : Option A) → cond b None (option_or x y) ≡ option_or (cond b None x) (cond b None y)
none_under true x y = refl
none_under false x y = refl

more_under : {A : Type 0} (b : Bool) (a : A) (x y : Option A) → cond b (Some a) (option_or x y) ≡ option_or (cond b (Some a) x) y
more_under true a x y = refl
more_under false a x y = refl

or_none : {A : Type 0} (x y : Option A) → y ≡ None → option_or x None ≡ option_or x y
or_none x y e = ap (option_or x) (sym e)

-- nothing is there where nothing may be
held_by_none : {A : Type 0} (o : Option A) (kept : Bool) → (is_some o ≡ true → kept ≡ false) → kept ≡ true → o ≡ None
held_by_none None kept apart keeps = refl
held_by_none (Some a) kept apart keeps = absurd (false≢true (sym (apart refl) ∙ keeps))

-- ---- predicates: how often an id stands among those that are registered

abbrev ids_of : List Registered → List ℕ
ids_of registered = map (λ r. r.id) registered

abbrev OneId : List Registered → Type 0
OneId registered = (id : ℕ) → times id (ids_of registered) ≤ 1

filter_fewer : (keeps : Registered → Bool) (id : ℕ) (rs : List Registered) → times id (ids_of (filter keeps rs)) ≤ times id (ids_of rs)
filter_fewer keeps id [] = omega arith
filter_fewer keeps id (r ∷ rs) = by (keeps r) (filter_fewer keeps id rs)
  where
    by : (b : Bool) → times id (ids_of (filter keeps rs)) ≤ times id (ids_of rs) →
        times id (ids_of (cond b (r ∷ filter keeps rs) (filter keeps rs))) ≤ times id (ids_of (r ∷ rs))
    by true h = here (id == r.id)
      where
        here : (c : Bool) → cond c (times id (ids_of (filter keeps rs)) + 1) (times id (ids_of (filter keeps rs))) ≤
            cond c (times id (ids_of rs) + 1) (times id (ids_of rs))
        here true = omega (arith, h)
        here false = h
    by false h = here (id == r.id)
      where
        here : (c : Bool) → times id (ids_of (filter keeps rs)) ≤ cond c (times id (ids_of rs) + 1) (times id (ids_of rs))
        here true = omega (arith, h)
        here false = h

-- an id under which nothing is registered stands nowhere
unregistered : (rs : List Registered) (id : ℕ) → is_registered rs id ≡ false → times id (ids_of rs) ≡ 0
unregistered [] id e = refl
unregistered (r ∷ rs) id e = by (r.id == id) refl e (unregistered rs id)
  where
    other : (b : Bool) → (id == r.id) ≡ b → (r.id == id) ≡ false → b ≡ false
    other false f g = refl
    other true f g = absurd (false≢true (sym g ∙ eq-eqb r.id id (sym (eqb-true id r.id f))))

    by : (b : Bool) → (r.id == id) ≡ b → (b || is_registered rs id) ≡ false → (is_registered rs id ≡ false → times id (ids_of rs) ≡ 0) →
        times id (ids_of (r ∷ rs)) ≡ 0
    by true f g rest = absurd (false≢true (sym g))
    by false f g rest = rw (other (id == r.id) refl f) (rest g)

new_id : (rs : List Registered) (r : Registered) → OneId rs → is_registered rs r.id ≡ false → OneId (rs ++ r ∷ [])
new_id rs r one free id = by (id == r.id) refl (ends rs)
  where
    ends : (xs : List Registered) → times id (ids_of (xs ++ r ∷ [])) ≡ times id (ids_of xs) + once id r.id
    ends [] = omega arith
    ends (x ∷ xs) = more (id == x.id) (ends xs)
      where
        more : (b : Bool) → times id (ids_of (xs ++ r ∷ [])) ≡ times id (ids_of xs) + once id r.id →
            cond b (times id (ids_of (xs ++ r ∷ [])) + 1) (times id (ids_of (xs ++ r ∷ []))) ≡
            cond b (times id (ids_of xs) + 1) (times id (ids_of xs)) + once id r.id
        more true h = omega (arith, h)
        more false h = h

    by : (b : Bool) → (id == r.id) ≡ b → times id (ids_of (rs ++ r ∷ [])) ≡ times id (ids_of rs) + cond b 1 0 → times id (ids_of (rs ++ r ∷ [])) ≤ 1
    by true e h =
        let none : times id (ids_of rs) ≡ 0 = unregistered rs id (ap (is_registered rs) (eqb-true id r.id e) ∙ free) in omega (arith, h, none)
    by false e h = omega (arith, h, one id)

-- what is drawn is registered nowhere
free_none : (rs : List Registered) (ids : ℕ → ℕ) (from most number : ℕ) → free_id rs ids from most ≡ Some number → is_registered rs (ids number) ≡ false
free_none rs ids from zero number e = absurd (none_some e)
free_none rs ids from (suc rest) number e = by (is_registered rs (ids from)) refl e (free_none rs ids (suc from) rest number)
  where
    by : (b : Bool) → is_registered rs (ids from) ≡ b → cond b (free_id rs ids (suc from) rest) (Some from) ≡ Some number →
        (free_id rs ids (suc from) rest ≡ Some number → is_registered rs (ids number) ≡ false) → is_registered rs (ids number) ≡ false
    by true f g later = later g
    by false f g later = ap (λ n. is_registered rs (ids n)) (sym (some_same g)) ∙ f

module _ {K V E : Type 0} where
  -- how often a number stands with the desk
  abbrev stands : DeskPart K V E → ℕ → ℕ
  stands w x = times x (numbers_of w)

  module _ (eq : K → K → Bool) where
    both : (w : DeskPart K V E) → OneId w.registered → Apart w.holding (stands w) → OneToOne (load_eq eq) w.owners w.owning → LocksWell eq w.locks w.locked w.kept w.notices → SoundDesk eq w
    both w one a o k = record {
      once = a.once;
      held_apart = a.held_apart;
      one_holder = a.one_holder;
      one_owner = o.one_owner;
      owns = o.owns;
      owned = o.owned;
      one_locker = k.one.one_owner;
      locks = k.one.owns;
      locked = k.one.owned;
      keeps = k.keeping.keeps;
      apart = k.keeping.apart;
      one_id = one;
    }

    apart_in : (w : DeskPart K V E) → SoundDesk eq w → Apart w.holding (stands w)
    apart_in w h = record { once = h.once; held_apart = h.held_apart; one_holder = h.one_holder }

    loads_in : (w : DeskPart K V E) → SoundDesk eq w → OneToOne (load_eq eq) w.owners w.owning
    loads_in w h = record { one_owner = h.one_owner; owns = h.owns; owned = h.owned }

    locks_in : (w : DeskPart K V E) → SoundDesk eq w → LocksWell eq w.locks w.locked w.kept w.notices
    locks_in w h = record {
      one = record { one_owner = h.one_locker; owns = h.locks; owned = h.locked };
      keeping = record { keeps = h.keeps; apart = h.apart };
    }

    -- a call frees its lock, whose notice keeps none
    freed_locks : (w : DeskPart K V E) (call : ℕ) → w.kept call ≡ None → SoundDesk eq w →
        LocksWell eq (locks_without w call) (put_at w.locked call None) w.kept w.notices
    freed_locks w call unkept h = record {
      one = subst (λ (f : ℕ → Option K). OneToOne eq (locks_without w call) f) (λ i n. under n (call == n) refl i)
          (without_call eq w.locks (key_under w) call (locks_in w h).one);
      keeping = record { keeps = h.keeps; apart = λ n is. still n (call == n) is };
    }
      where
        under : (n : ℕ) (b : Bool) → (call == n) ≡ b → cond b None (key_under w n) ≡ option_or (cond b None (w.locked n)) (w.kept n)
        under n true e = sym (ap w.kept (sym (eqb-true call n e)) ∙ unkept)
        under n false e = refl

        still : (n : ℕ) (b : Bool) → is_some (cond b None (w.locked n)) ≡ true → is_some (w.kept n) ≡ false
        still n true is = absurd (false≢true is)
        still n false is = h.apart n is

    -- a call leaves: its notice keeps its lock where that runs
    left_locks : (w : DeskPart K V E) (call : ℕ) → SoundDesk eq w → (b : Bool) → is_running w call ≡ b →
        LocksWell eq (cond b w.locks (locks_without w call)) (put_at w.locked call None) (put_at w.kept call (cond b (key_under w call) None)) w.notices
    left_locks w call h true on = record {
      one = subst (λ (f : ℕ → Option K). OneToOne eq w.locks f) (λ i n. under n (call == n) refl i) (locks_in w h).one;
      keeping = record { keeps = λ n is. kept n (call == n) refl is; apart = λ n is. still n (call == n) is };
    }
      where
        under : (n : ℕ) (b : Bool) → (call == n) ≡ b → key_under w n ≡ option_or (cond b None (w.locked n)) (cond b (key_under w call) (w.kept n))
        under n true e = ap (key_under w) (sym (eqb-true call n e))
        under n false e = refl

        kept : (n : ℕ) (b : Bool) → (call == n) ≡ b → is_some (cond b (key_under w call) (w.kept n)) ≡ true → is_running w n ≡ true
        kept n true e is = ap (is_running w) (sym (eqb-true call n e)) ∙ on
        kept n false e is = h.keeps n is

        still : (n : ℕ) (b : Bool) → is_some (cond b None (w.locked n)) ≡ true → is_some (cond b (key_under w call) (w.kept n)) ≡ false
        still n true is = absurd (false≢true is)
        still n false is = h.apart n is
    left_locks w call h false on = record {
      one = subst (λ (f : ℕ → Option K). OneToOne eq (locks_without w call) f) (λ i n. none_under (call == n) (w.locked n) (w.kept n) i)
          (without_call eq w.locks (key_under w) call (locks_in w h).one);
      keeping = record { keeps = λ n is. kept n (call == n) is; apart = λ n is. still n (call == n) is };
    }
      where
        kept : (n : ℕ) (b : Bool) → is_some (cond b None (w.kept n)) ≡ true → is_running w n ≡ true
        kept n true is = absurd (false≢true is)
        kept n false is = h.keeps n is

        still : (n : ℕ) (b : Bool) → is_some (cond b None (w.locked n)) ≡ true → is_some (cond b None (w.kept n)) ≡ false
        still n true is = absurd (false≢true is)
        still n false is = h.apart n is

    -- a notice ends: the lock that it kept is free
    ended_locks : (w : DeskPart K V E) (number : ℕ) → SoundDesk eq w → (b : Bool) → is_keeping w number ≡ b →
        LocksWell eq (cond b (locks_without w number) w.locks) w.locked (put_at w.kept number None) (put_at w.notices number (option_map with_end (w.notices number)))
    ended_locks w number h b keeps = record {
      one = one b keeps;
      keeping = record { keeps = λ n is. kept n (number == n) is; apart = λ n is. still n (number == n) is };
    }
      where
        free : (n : ℕ) → is_keeping w number ≡ true → (c : Bool) → (number == n) ≡ c → cond c None (key_under w n) ≡ option_or (w.locked n) (cond c None (w.kept n))
        free n keeps true e =
            let none : w.locked number ≡ None = held_by_none (w.locked number) (is_keeping w number) (h.apart number) keeps in
            sym (ap (λ m. option_or (w.locked m) None) (sym (eqb-true number n e)) ∙ ap (λ o. option_or o None) none)
        free n keeps false e = refl

        same : (n : ℕ) → is_keeping w number ≡ false → (c : Bool) → (number == n) ≡ c → key_under w n ≡ option_or (w.locked n) (cond c None (w.kept n))
        same n unkept true e = sym (or_none (w.locked n) (w.kept n) (ap w.kept (sym (eqb-true number n e)) ∙ is_none_of (w.kept number) unkept))
        same n unkept false e = refl

        one : (b : Bool) → is_keeping w number ≡ b → OneToOne eq (cond b (locks_without w number) w.locks) (λ n. option_or (w.locked n) (put_at w.kept number None n))
        one true keeps = subst (λ (f : ℕ → Option K). OneToOne eq (locks_without w number) f) (λ i n. free n keeps (number == n) refl i)
            (without_call eq w.locks (key_under w) number (locks_in w h).one)
        one false unkept = subst (λ (f : ℕ → Option K). OneToOne eq w.locks f) (λ i n. same n unkept (number == n) refl i) (locks_in w h).one

        kept : (n : ℕ) (c : Bool) → is_some (cond c None (w.kept n)) ≡ true →
            option_map_or (λ x. runs x.state) (cond c (option_map with_end (w.notices number)) (w.notices n)) false ≡ true
        kept n true is = absurd (false≢true is)
        kept n false is = h.keeps n is

        still : (n : ℕ) (c : Bool) → is_some (w.locked n) ≡ true → is_some (cond c None (w.kept n)) ≡ false
        still n true is = refl
        still n false is = h.apart n is

    -- a notice is opened of a number that had none
    opened_locks : (w : DeskPart K V E) (call : ℕ) (told : Notice K V) → is_some (w.notices call) ≡ false → SoundDesk eq w →
        LocksWell eq w.locks w.locked w.kept (put_at w.notices call (Some told))
    opened_locks w call told none h = record {
      one = (locks_in w h).one;
      keeping = record { keeps = λ n is. kept n (call == n) refl (h.keeps n is); apart = h.apart };
    }
      where
        kept : (n : ℕ) (b : Bool) → (call == n) ≡ b → is_running w n ≡ true →
            option_map_or (λ x. runs x.state) (cond b (Some told) (w.notices n)) false ≡ true
        kept n true e is =
            let no : w.notices n ≡ None = ap w.notices (sym (eqb-true call n e)) ∙ is_none_of (w.notices call) none in
            absurd (false≢true (ap (λ (o : Option (Notice K V)). option_map_or (λ x. runs x.state) o false) (sym no) ∙ is))
        kept n false e is = is

    -- ---- each visit, in the order of their conditions

    pub fresh_sound : FreshIsSound K V E eq
    fresh_sound rules size built = record {
      once = λ x. omega arith;
      held_apart = λ n h e. absurd (none_some e);
      one_holder = λ n m g h e f k. absurd (none_some e);
      one_owner = λ a b e. refl;
      owns = λ l n e. absurd (none_some e);
      owned = λ l n e. absurd (none_some e);
      one_locker = λ a b e. refl;
      locks = λ l n e. absurd (none_some e);
      locked = λ l n e. absurd (none_some e);
      keeps = λ n is. absurd (false≢true is);
      apart = λ n is. absurd (false≢true is);
      one_id = λ id. omega arith;
    }

    took_sound : (w : DeskPart K V E) (call : ℕ) → w.holding call ≡ None → SoundDesk eq w → SoundDesk eq (took_owed w call)
    took_sound w call none h = by w.owed refl
      where
        by : (owed : List Owed) → w.owed ≡ owed → SoundDesk eq (took_owed w call)
        by [] e =
            let same : SoundDesk eq (record w { owed = [] }) = subst (λ v. SoundDesk eq (record w { owed = v })) e h in
            rw e same
        by (x ∷ xs) e =
            let less : (y : ℕ) → stands w y ≡ stands (record w { owed = xs }) y + once y (number_of x.write) = λ y. omega
            (arith, numbers_stand y w, numbers_stand y (record w { owed = xs }), ap (among_owed y) e, times_first y (number_of x.write) (map (λ o. number_of o.write) xs)) in
            rw e (both (record w { holding = put_at w.holding call (Some (holding.TookUp x.write)); owed = xs }) h.one_id
            (takes w.holding (stands w) (stands (record w { owed = xs })) call (holding.TookUp x.write) none (apart_in w h) (λ y. omega (arith, less y))
            (omega (arith, less (number_of x.write), h.once (number_of x.write), once_same (number_of x.write)))
            (λ n g is same. omega (arith, ap (stands w) same, h.held_apart n g is, less (number_of x.write), once_same (number_of x.write))))
            (loads_in w h) (locks_in w h))

    stamped_sound : (w : DeskPart K V E) (call : ℕ) → w.holding call ≡ None → IsUnused w call → SoundDesk eq w → SoundDesk eq (makes eq w (visit.StampMoment call))
    stamped_sound w call none unused h =
        both (makes eq w (visit.StampMoment call)) h.one_id
        (takes w.holding (stands w) (stands w) call (holding.Own (Some w.clock)) none (apart_in w h) (λ y. omega arith) unused.stands (λ n g is same. unused.held n g is same))
        (loads_in w h) (locks_in w h)

    pub decided_sound : DecidingKeepsSound K V E eq
    decided_sound w call h = both (decided w call) h.one_id (decides w.holding (stands w) (stands w) call (apart_in w h)) (loads_in w h) (locks_in w h)

    -- the call hands in a write that it holds
    given : (w v : DeskPart K V E) (call : ℕ) (write : Write) (o : Option Holding) → w.holding call ≡ o → IsPlaceOf o call write → SoundDesk eq w →
        ((y : ℕ) → stands v y ≡ stands w y + once y (number_of write)) → Apart (put_at w.holding call None) (stands v)
    given w v call write None e place h more = absurd place
    given w v call write (Some x) e place h more =
        gives w.holding (stands w) (stands v) call x e (apart_in w h) (λ y. more y ∙ ap (λ k. stands w y + once y k) (sym (place_number x call write place)))

    posted_sound : (w : DeskPart K V E) (call : ℕ) (write : Write) → HoldsWrite w call write → SoundDesk eq w → SoundDesk eq (posted w call write)
    posted_sound w call write holds h = by (has_room w) refl
      where
        by : (b : Bool) → has_room w ≡ b → SoundDesk eq (posted w call write)
        by true e =
            let v : DeskPart K V E = record w { log = w.log ++ write ∷ [] } in
            rw e (both (record v { holding = put_at w.holding call None }) h.one_id
            (given w v call write (w.holding call) refl holds h
            (λ y. omega (arith, numbers_stand y v, numbers_stand y w, among_last y write w.log))) (loads_in w h) (locks_in w h))
        by false e = rw e (decided_sound w call h)

    applied_sound : (w : DeskPart K V E) (call : ℕ) → SoundDesk eq w → SoundDesk eq (makes eq w (visit.ApplyOne call))
    applied_sound w call h = by w.log refl
      where
        by : (log : List Write) → w.log ≡ log → SoundDesk eq (makes eq w (visit.ApplyOne call))
        by [] e =
            let same : SoundDesk eq (record w { log = [] }) = subst (λ v. SoundDesk eq (record w { log = v })) e h in
            rw (e, append-nil w.applied) same
        by (x ∷ xs) e =
            let v : DeskPart K V E = record w { log = xs; applied = w.applied ++ x ∷ [] } in
            let same : (y : ℕ) → stands v y ≡ stands w y = λ y. omega
            (arith, numbers_stand y v, numbers_stand y w, ap (among y) e, times_first y (number_of x) (map number_of xs), among_last y x w.applied) in
            rw e (both v h.one_id (record {
              once = λ y. omega (arith, same y, h.once y);
              held_apart = λ n g is. same (held_number n g) ∙ h.held_apart n g is;
              one_holder = h.one_holder;
            }) (loads_in w h) (locks_in w h))

    claimed_sound : IsEquivalence eq → (w : DeskPart K V E) (call : ℕ) (load : Load K) → w.owning call ≡ None → (o : Option ℕ) → w.owners load ≡ o → SoundDesk eq w →
        SoundDesk eq (claimed eq w call load o)
    claimed_sound laws w call load idle None e h = both (claimed eq w call load None) h.one_id (apart_in w h) (claims (load_eq eq) w.owners w.owning call load (loads_self eq laws load) (loads_alike eq laws load) idle e (loads_in w h)) (locks_in w h)
    claimed_sound laws w call load idle (Some owner) e h = both (claimed eq w call load (Some owner)) h.one_id (apart_in w h) (loads_in w h) (locks_in w h)

    alone_sound : IsEquivalence eq → (w : DeskPart K V E) (call : ℕ) (load : Load K) →
        w.owning call ≡ None → (o : Option ℕ) → w.owners load ≡ o → SoundDesk eq w →
        SoundDesk eq (claimed_alone eq w call load o)
    alone_sound laws w call load idle None e h = claimed_sound laws w call load idle None e h
    alone_sound laws w call load idle (Some owner) e h = h

    read_sound : (w : DeskPart K V E) (call : ℕ) → SoundDesk eq w → SoundDesk eq (makes eq w (visit.ReadSettled call))
    read_sound w call h = by (is_some (settlement_for w call)) refl
      where
        by : (b : Bool) → is_some (settlement_for w call) ≡ b → SoundDesk eq (makes eq w (visit.ReadSettled call))
        by true e = rw e (both _ h.one_id (apart_in w h) (loads_in w h) (locks_in w h))
        by false e = rw e h

    pub left_sound : LeavingKeepsSound K V E eq
    left_sound w call None h may =
        both (left w call None) h.one_id
        (clears w.holding (stands w) (stands (left w call None)) call (apart_in w h)
        (λ y. ap (λ l. times y (numbers_of (record w { owed = l }))) (append-nil w.owed)))
        (without_call (load_eq eq) w.owners w.owning call (loads_in w h)) (left_locks w call h (is_running w call) refl)
    left_sound w call (Some held) h may =
        both (left w call (Some held)) h.one_id
        (given w (left w call (Some held)) call held (w.holding call) refl may h
        (λ y. omega (
          arith,
          numbers_stand y (left w call (Some held)),
          numbers_stand y w,
          owed_append y w.owed (owed_with w held ∷ []),
          times_first y (number_of held) [],
        )))
        (without_call (load_eq eq) w.owners w.owning call (loads_in w h)) (left_locks w call h (is_running w call) refl)

    pub heard_sound : (w : DeskPart K V E) (call : ℕ) (off : Bool) → SoundDesk eq w → SoundDesk eq (heard w call off)
    heard_sound w call off h = both (heard w call off) h.one_id (apart_in w h) (loads_in w h) (ended_locks w call h (is_keeping w call) refl)

    pub told_call_sound : (w : DeskPart K V E) (call : ℕ) (given : Told V E) → SoundDesk eq w →
        SoundDesk eq (told_call w call given)
    told_call_sound w call given h =
        both (told_call w call given) h.one_id (apart_in w h) (loads_in w h) (locks_in w h)

    pub told_sound : TellingKeepsSound K V E eq
    told_sound w call answer.Done h = heard_sound w call false h
    told_sound w call answer.Off h = heard_sound w call true h
    told_sound w call one h = told_call_sound w call one h

    pub entered_sound : EnteringKeepsSound K V E eq
    entered_sound w n h = both (record w { last = n }) h.one_id (apart_in w h) (loads_in w h) (locks_in w h)

    pub clock_sound : ClockKeepsSound K V E eq
    clock_sound w moment h = both (record w { clock = moment }) h.one_id (apart_in w h) (loads_in w h) (locks_in w h)

    locked_sound : IsEquivalence eq → (w : DeskPart K V E) (call : ℕ) (key : K) → w.locked call ≡ None → w.kept call ≡ None → (b : Bool) → is_unlocked_for w call key ≡ b → SoundDesk eq w →
        SoundDesk eq (locked_by eq w call key b)
    locked_sound laws w call key idle unkept false e h = h
    locked_sound laws w call key idle unkept true e h =
        both (locked_by eq w call key true) h.one_id (apart_in w h) (loads_in w h)
        (record {
          one = subst (λ (f : ℕ → Option K). OneToOne eq (put_key eq w.locks key (Some call)) f) (λ i n. more_under (call == n) key (w.locked n) (w.kept n) i)
              (claims eq w.locks (key_under w) call key (laws.refl key) (λ a b same. keys_alike key a b same) nothing (free (w.locks key) refl e) (locks_in w h).one);
          keeping = record { keeps = h.keeps; apart = λ n is. still n (call == n) refl is };
        })
      where
        nothing : key_under w call ≡ None
        nothing = ap (λ (o : Option K). option_or o (w.kept call)) idle ∙ unkept

        still : (n : ℕ) (b : Bool) → (call == n) ≡ b → is_some (cond b (Some key) (w.locked n)) ≡ true → is_some (w.kept n) ≡ false
        still n true e is = ap is_some (ap w.kept (sym (eqb-true call n e)) ∙ unkept)
        still n false e is = h.apart n is

        keys_alike : (k a b : K) → eq a b ≡ true → eq k a ≡ eq k b
        keys_alike k a b same = laws.symm k a ∙ laws.congr a b k same ∙ laws.symm b k

        -- no call that holds no lock holds this one
        tested : (holder : ℕ) (b : Bool) → (holder == call) ≡ b → w.locks key ≡ Some holder → b ≡ true → ⊥
        tested holder false is held ok = false≢true ok
        tested holder true is held ok =
            let none : key_under w holder ≡ None = ap (key_under w) (eqb-true holder call is) ∙ nothing in
            subst (λ o. IsSomeAnd o (λ own. eq own key ≡ true)) none (h.locks key holder held)

        free : (o : Option ℕ) → w.locks key ≡ o → option_map_or (λ holder. holder == call) o true ≡ true → o ≡ None
        free None held ok = refl
        free (Some holder) held ok = absurd (tested holder (holder == call) refl held ok)

    -- places that are given back are those of a write that stands nowhere
    gave_sound : (w : DeskPart K V E) (call : ℕ) → SoundDesk eq w → SoundDesk eq (gave_back w call)
    gave_sound w call h =
        both (gave_back w call) h.one_id (clears w.holding (stands w) (stands w) call (apart_in w h)
        (λ x. refl)) (loads_in w h)
        (locks_in w h)

    once_sound : (w : DeskPart K V E) (call : ℕ) (wrote : Bool) → SoundDesk eq w → SoundDesk eq
        (once_decided w call wrote)
    once_sound w call true h = decided_sound w call h
    once_sound w call false h = gave_sound w call h

    unlocked_sound : (w : DeskPart K V E) (call : ℕ) (wrote : Bool) → is_some (w.locked call) ≡ true → SoundDesk eq w → SoundDesk eq
        (unlocked w call wrote)
    unlocked_sound w call wrote locked h =
        let d = once_sound w call wrote h in
        both (unlocked w call wrote) h.one_id (apart_in (once_decided w call wrote) d)
        (loads_in (once_decided w call wrote) d)
        (freed_locks w call (is_none_of (w.kept call) (h.apart call locked)) h)

    opened_sound : (w : DeskPart K V E) (call : ℕ) (key : K) (value : V) (cause : Cause) → is_some (w.notices call) ≡ false → SoundDesk eq w → SoundDesk eq (opened_notice w call key value cause)
    opened_sound w call key value cause none h =
        let d = decided_sound w call h in
        both (opened_notice w call key value cause) h.one_id (apart_in (decided w call) d) (loads_in (decided w call) d) (opened_locks w call _ none h)

    -- a predicate is registered under an id that none has
    registered_sound : (w : DeskPart K V E) (test : ℕ) → SoundDesk eq w → SoundDesk eq (registered_with w test)
    registered_sound w test h =
        both (registered_with w test) (one w.rules.closures (next_free w) refl) (apart_in w h) (loads_in w h) (locks_in w h)
      where
        one : (b : Bool) (free : Option ℕ) → next_free w ≡ free → OneId (registered_by w test b free)
        one false free e = h.one_id
        one true None e = h.one_id
        one true (Some number) e = λ id. new_id w.registered (record { id = w.ids number; test = test; moment = w.clock }) h.one_id
            (free_none w.registered w.ids w.drawn 1000 number e) id

    pub visit_sound : IsEquivalence eq → VisitsKeepSound K V E eq
    visit_sound laws w (visit.Clock call) h may = gave_sound w call h
    visit_sound laws w (visit.TakeOwed call) h may = took_sound w call (is_none_of (w.holding call) may) h
    visit_sound laws w (visit.NoticeEnded call number) h may = h
    visit_sound laws w (visit.LockKey call key) h may =
        locked_sound laws w call key (is_none_of (w.locked call) may.0) (is_none_of (w.kept call) may.1) (is_unlocked_for w call key) refl h
    visit_sound laws w (visit.UnlockKey call wrote) h may = unlocked_sound w call wrote may.0 h
    visit_sound laws w (visit.OpenNotice call key value stamp modified cause upsert) h may =
        opened_sound w call key value (cause_of w stamp modified cause upsert) may h
    visit_sound laws w (visit.StampMoment call) h may = stamped_sound w call (is_none_of (w.holding call) may.0) may.1 h
    visit_sound laws w (visit.Holds key stored cause) h may = h
    visit_sound laws w (visit.WaitOrOwn call key kind) h may =
        let load : Load K = record { key = key; kind = kind } in
        claimed_sound laws w call load (is_none_of (w.owning call) may.0) (w.owners load) refl h
    visit_sound laws w (visit.OwnAlone call key) h may =
        let load : Load K = computes_of key in
        alone_sound laws w call load (is_none_of (w.owning call) may.0) (w.owners load) refl h
    visit_sound laws w (visit.ReadSettled call) h may = read_sound w call h
    visit_sound laws w (visit.Settle call with) h may = both (makes eq w (visit.Settle call with)) h.one_id (apart_in w h) (without_call (load_eq eq) w.owners w.owning call (loads_in w h)) (locks_in w h)
    visit_sound laws w (visit.PostWrite call write) h may = posted_sound w call write may h
    visit_sound laws w (visit.ApplyOne call) h may = applied_sound w call h
    visit_sound laws w (visit.Register test) h may = registered_sound w test h
    visit_sound laws w (visit.Retire ids) h may =
        both (retired w ids) (λ id. omega (arith, filter_fewer (λ r. not (list_any (λ named. is_named named r) ids)) id w.registered, h.one_id id))
        (apart_in w h) (loads_in w h) (locks_in w h)
    visit_sound laws w one h may = both (makes eq w one) h.one_id (apart_in w h) (loads_in w h) (locks_in w h)
