-- What a poll of a seat's call comes to, and which calls nobody waits for.
use Rattle.std.proofs.Common.{◌≡◌, ◌≢◌, ◌⊎◌, inl, inr, ◌<◌, ◌≤◌, ◌+◌, ℕ, nat_eq, nat_lt, ◌==◌, Bool, true, false, cond, ◌&&◌, Option, Some, None, is_some, IsSome, refl, sym, ap, ◌∙◌, subst, arith}
use Rattle.std.proofs.lemmas.Bool.{eqb-true, eq-eqb, false≢true, ltb-true, ltb-false}
use Rattle.std.specs.Option.{option_map, option_map_or, option_and_then}
use Rattle.moka_hist.specs.Finite.{put_at, put_key}
use Rattle.moka_hist.specs.State.{State}
use Rattle.moka_hist.specs.declared.events.Start.{Start}
use Rattle.moka_hist.specs.declared.loads.Load.{Load}
use Rattle.moka_small.specs.Polled.{claims, ends_with, gone_loading, gone_waiter, or_else, outcome_of, owner_of, owns, polled, reads, value_under}
use Rattle.moka_small.specs.Seen.{IsSeenAs}
use Rattle.moka_small.specs.Small.{End, With_value, Stand, Begun, Asks, Was_told, Waits, Small, owner_at, waiting, waits_for, with_stand}
use Rattle.moka_small.specs.Standing.{WaitersAreServed}
use Rattle.moka_small.specs.declared.outcome.Outcome.{Outcome}
use Rattle.moka_small.specs.declared.outcome.Outcome.TheVariants as outcome
use Rattle.moka_claims.specs.Claims.{Fits, load_of, sought, stand_by, stand_of}
use Rattle.moka_claims.specs.declared.claims.Seat.{Seat}
use Rattle.moka_claims.proofs.Basics.{and_left, and_right, greatest_none, greatest_passes, greatest_some, none_pass, none_some, put_same, put_twice, some_same}
use Rattle.moka_claims.proofs.Fitting.{Held, holder_owns, holding_fits, left, owner_holds, settled, waiting_fits}

-- the poll found the value of the seat's rule
pub record Found (m : Held) (calls : ℕ → Option ℕ) (seats : ℕ → Option Seat) (q : ℕ) (seat : Seat)
    (row : Outcome ℕ (Unit {0}) × Held) (v : ℕ) : Type 0 where
  pub known : value_under m seat.rule ≡ Some v
  pub says : row.0 ≡ outcome.Loaded v false
  pub fits : Fits calls (put_at seats q None) row.1
  pub values : (k : ℕ) → value_under row.1 k ≡ value_under m k

-- the call waits for the one that holds the rule
pub record Waiting (m : Held) (calls : ℕ → Option ℕ) (seats : ℕ → Option Seat) (q : ℕ) (seat : Seat)
    (row : Outcome ℕ (Unit {0}) × Held) : Type 0 where
  pub unknown : value_under m seat.rule ≡ None
  pub holder : ℕ
  pub held : calls seat.rule ≡ Some holder
  pub says : row.0 ≡ outcome.Waits
  pub fits : Fits calls (put_at seats q (Some (record seat { waits = true }))) row.1
  pub values : (k : ℕ) → value_under row.1 k ≡ value_under m k

-- the call holds the rule from now on
pub record Holding (m : Held) (calls : ℕ → Option ℕ) (seats : ℕ → Option Seat) (q : ℕ) (seat : Seat)
    (row : Outcome ℕ (Unit {0}) × Held) : Type 0 where
  pub unknown : value_under m seat.rule ≡ None
  pub free : calls seat.rule ≡ None
  pub says : row.0 ≡ outcome.Asks
  pub fits : Fits (put_at calls seat.rule (Some seat.call)) (put_at seats q None) row.1
  pub values : (k : ℕ) → value_under row.1 k ≡ value_under m k

module _ (m : Held) (calls : ℕ → Option ℕ) (seats : ℕ → Option Seat) (fits : Fits calls seats m)
    (state : State ℕ ℕ (Unit {0})) (seen : IsSeenAs nat_eq state m) (served : WaitersAreServed ℕ ℕ (Unit {0}) nat_eq) where
  -- of a live call no end is kept
  open_end : (o : ℕ) (stand : Stand ℕ ℕ (Unit {0})) → m.stands o ≡ Some stand → m.ends o ≡ None
  open_end o stand live = by (m.ends o) refl
    where
      by : (x : Option (End ℕ (Unit {0}))) → m.ends o ≡ x → x ≡ None
      by None e = refl
      by (Some end) e = absurd (none_some (sym (seen.views.orderly.ended o end e).0 ∙ live))

  is_numbered : (o : ℕ) (stand : Stand ℕ ℕ (Unit {0})) → m.stands o ≡ Some stand → o ≤ m.last
  is_numbered o stand live = by (nat_lt m.last o) refl
    where
      by : (b : Bool) → nat_lt m.last o ≡ b → o ≤ m.last
      by true e = absurd (none_some (sym (seen.views.orderly.numbered o (ltb-true m.last o e)) ∙ live))
      by false e = ltb-false m.last o e

  -- whom a call waits for owns an equal load, or its end is kept
  owner_asks : (r c n : ℕ) (load : Load ℕ) → calls r ≡ Some c → m.stands n ≡ Some (Waits c load) → r ≡ load.key
  owner_asks r c n load held at = by (served state m n c load seen at)
    where
      asks : m.stands c ≡ Some (Asks (load_of r))
      asks = fits.holds r c held

      by : (owns nat_eq (m.stands c) load ≡ true) ⊎ IsSome (m.ends c) → r ≡ load.key
      by (inl own) = eqb-true r load.key (and_left (r == load.key) _ (sym (ap (λ x. owns nat_eq x load) asks) ∙ own))
      by (inr some) = absurd (false≢true (sym (ap is_some (open_end c (Asks (load_of r)) asks)) ∙ some))

  -- nobody waits for a call
  alone : (n : ℕ) → ((k : ℕ) (load : Load ℕ) → m.stands k ≡ Some (Waits n load) → ⊥) → waiting m n ≡ 0
  alone n nobody = none_pass m.last (λ k. waits_for (m.stands k) n) (λ k. by k (m.stands k) refl)
    where
      other : (k o : ℕ) (load : Load ℕ) → m.stands k ≡ Some (Waits o load) → (b : Bool) → (o == n) ≡ b → b ≡ false
      other k o load is true e = absurd (nobody k load (is ∙ ap (λ i. Some (Waits i load)) (eqb-true o n e)))
      other k o load is false e = refl

      by : (k : ℕ) (x : Option (Stand ℕ ℕ (Unit {0}))) → m.stands k ≡ x → waits_for x n ≡ false
      by k None is = refl
      by k (Some (Begun start)) is = refl
      by k (Some (Asks load)) is = refl
      by k (Some (Was_told load end)) is = refl
      by k (Some (Waits o load)) is = other k o load is (o == n) refl

  -- ---- the call of a seat

  module _ (q : ℕ) (seat : Seat) (is : seats q ≡ Some seat) where
    seat_owns_not : (b : Bool) (o : ℕ) (load : Load ℕ) → owns nat_eq (Some (stand_by b seat.rule o)) load ≡ false
    seat_owns_not true o load = refl
    seat_owns_not false o load = refl

    pub seat_alone : waiting m seat.call ≡ 0
    seat_alone = alone seat.call (λ k load at. by load (served state m k seat.call load seen at))
      where
        by : (load : Load ℕ) → (owns nat_eq (m.stands seat.call) load ≡ true) ⊎ IsSome (m.ends seat.call) → ⊥
        by load (inl own) =
            let at = fits.seated q seat is in
            false≢true (sym (ap (λ x. owns nat_eq x load) at.1 ∙ seat_owns_not seat.waits at.0 load) ∙ own)
        by load (inr some) =
            let at = fits.seated q seat is in
            false≢true (sym (ap is_some (open_end seat.call (stand_of seat at.0) at.1)) ∙ some)

    abbrev pub Comes : Outcome ℕ (Unit {0}) × Held → Type 0
    Comes row =
        ((v : ℕ) × Found m calls seats q seat row v)
        ⊎ (Waiting m calls seats q seat row ⊎ Holding m calls seats q seat row)

    -- a call that has begun
    begun : (x y : Option ℕ) → value_under m seat.rule ≡ x → owner_of nat_eq m (load_of seat.rule) ≡ y →
        Comes (or_else m seat.call x (claims m seat.call (load_of seat.rule) y))
    begun (Some v) y known owner = inl (
      v,
      record {
        known = known;
        says = refl;
        fits = left m calls seats fits q seat is m.ends (λ o end e. e);
        values = λ k. refl;
      },
    )
    begun None (Some c) unknown owner =
        let held : calls seat.rule ≡ Some c =
        owner_holds m calls seats fits seat.rule c (greatest_passes m.last (λ n. owns nat_eq (m.stands n) (load_of seat.rule)) c owner) in
        inr (inl (record {
          unknown = unknown;
          holder = c;
          held = held;
          says = refl;
          fits = waiting_fits m calls seats fits q seat is c (open_end c (Asks (load_of seat.rule)) (fits.holds seat.rule c held));
          values = λ k. refl;
        }))
    begun None None unknown owner = inr (inr (record {
      unknown = unknown;
      free = free (calls seat.rule) refl;
      says = refl;
      fits = holding_fits m calls seats fits q seat is (free (calls seat.rule) refl) unknown;
      values = λ k. refl;
    }))
      where
        free : (z : Option ℕ) → calls seat.rule ≡ z → calls seat.rule ≡ None
        free None e = e
        free (Some c) e =
            let found = greatest_some m.last (λ n. owns nat_eq (m.stands n) (load_of seat.rule)) c
            (is_numbered c (Asks (load_of seat.rule)) (fits.holds seat.rule c e)) (holder_owns m calls seats fits seat.rule c e) in
            absurd (none_some (sym owner ∙ found.1.0))

    -- a call that waits
    waited : (o : ℕ) → m.stands seat.call ≡ Some (Waits o (load_of seat.rule)) → (x : Option (End ℕ (Unit {0}))) → m.ends o ≡ x →
        Comes (reads m seat.call x)
    waited o at (Some end) ended =
        let had = fits.ended seat.call o (load_of seat.rule) end at ended in
        inl (
          had.0,
          record {
            known = had.2;
            says = ap (λ x. outcome_of x false) had.1;
            fits = left m calls seats fits q seat is (gone_waiter m seat.call).ends (λ k other e.
                fewer k other (waits_for (m.stands seat.call) k && waiting m k == 1) e);
            values = λ k. refl;
          },
        )
      where
        fewer : (k : ℕ) (other : End ℕ (Unit {0})) (b : Bool) → cond b None (m.ends k) ≡ Some other → m.ends k ≡ Some other
        fewer k other true e = absurd (none_some e)
        fewer k other false e = e
    waited o at None unended =
        let held : calls seat.rule ≡ Some o = holds (served state m seat.call o (load_of seat.rule) seen at) in
        inr (inl (record {
          unknown = unknown held (value_under m seat.rule) refl;
          holder = o;
          held = held;
          says = refl;
          fits = subst (λ f. Fits calls (put_at seats q (Some (record seat { waits = true }))) (record m { stands = f }))
              (put_same m.stands seat.call (Some (Waits o (load_of seat.rule))) at)
              (waiting_fits m calls seats fits q seat is o unended);
          values = λ k. refl;
        }))
      where
        holds : (owns nat_eq (m.stands o) (load_of seat.rule) ≡ true) ⊎ IsSome (m.ends o) → calls seat.rule ≡ Some o
        holds (inl own) = owner_holds m calls seats fits seat.rule o own
        holds (inr some) = absurd (false≢true (sym (ap is_some unended) ∙ some))

        unknown : calls seat.rule ≡ Some o → (x : Option ℕ) → value_under m seat.rule ≡ x → value_under m seat.rule ≡ None
        unknown held None e = e
        unknown held (Some v) e = absurd (none_some (sym (fits.closed seat.rule v e) ∙ held))

    pub comes : (b : Bool) (o : ℕ) → m.stands seat.call ≡ Some (stand_by b seat.rule o) →
        Comes (polled nat_eq m seat.call (stand_by b seat.rule o))
    comes true o at = waited o at (m.ends o) refl
    comes false o at = begun (value_under m seat.rule) (owner_of nat_eq m (load_of seat.rule)) refl refl

  -- ---- the call that holds a rule

  module _ (r c : ℕ) (held : calls r ≡ Some c) where
    -- it is told a value, and polled
    abbrev pub told_at : ℕ → Held
    told_at v = with_stand m c (Some (Was_told (load_of r) (With_value v)))

    pub settles : (v : ℕ) → Fits (put_at calls r None) seats (gone_loading nat_eq (told_at v) c r v)
    settles v =
        subst (λ f. Fits (put_at calls r None) seats (record m {
          stored = put_key nat_eq m.stored r (Some (v, c));
          stands = f;
          ends = ends_with (told_at v) c (With_value v);
        }))
        (sym (put_twice m.stands c (Some (Was_told (load_of r) (With_value v))) None))
        (settled m calls seats fits r c held v (ends_with (told_at v) c (With_value v)) reads_so)
      where
        reads_so : (n o : ℕ) (load : Load ℕ) (end : End ℕ (Unit {0})) → m.stands n ≡ Some (Waits o load) →
            ends_with (told_at v) c (With_value v) o ≡ Some end → (m.ends o ≡ Some end) ⊎ ((r ≡ load.key) × (end ≡ With_value v))
        reads_so n o load end at ended = by (nat_lt 0 (waiting (told_at v) c) && c == o) refl ended
          where
            by : (b : Bool) → (nat_lt 0 (waiting (told_at v) c) && c == o) ≡ b → cond b (Some (With_value v)) (m.ends o) ≡ Some end →
                (m.ends o ≡ Some end) ⊎ ((r ≡ load.key) × (end ≡ With_value v))
            by false test e = inl e
            by true test e =
                let same : c ≡ o = eqb-true c o (and_right (nat_lt 0 (waiting (told_at v) c)) (c == o) test) in
                inr (owner_asks r o n load (held ∙ ap Some same) at, sym (some_same e))

    -- nobody waits for it, if no seat does for the rule
    pub holder_alone : ((q : ℕ) → option_map sought (seats q) ≢ Some (r, true)) → waiting m c ≡ 0
    holder_alone unawaited = alone c (λ k load at.
        let seat = fits.waits k c load at in
        let stands = fits.seated seat.0 seat.1 seat.2 in
        let is = waits_true c load seat.1.waits seat.1.rule stands.0 (sym stands.1 ∙ ap m.stands seat.3 ∙ at) in
        unawaited seat.0 (ap (option_map sought) seat.2 ∙
        (λ i. Some ((ap (λ l. l.key) is.1 ∙ sym (owner_asks r c k load held at)) i, is.0 i))))
      where
        begun_waits : (o : ℕ) (load : Load ℕ) (k p : ℕ) → Some (stand_by false k p) ≡ Some (Waits o load) → ⊥
        begun_waits o load k p e = cc

        waits_true : (o : ℕ) (load : Load ℕ) (b : Bool) (k p : ℕ) → Some (stand_by b k p) ≡ Some (Waits o load) →
            (b ≡ true) × (load_of k ≡ load)
        waits_true o load true k p e = (refl, cc)
        waits_true o load false k p e = absurd (begun_waits o load k p e)
