-- What polls, ends and drops of calls make of the calls that hold rules, and of those of seats.
use Rattle.std.proofs.Common.{◌≡◌, ◌≢◌, ◌⊎◌, inl, inr, ◌<◌, ◌≤◌, ◌+◌, ℕ, nat_eq, nat_lt, ◌==◌, Bool, true, false, cond, ◌&&◌, Option, Some, None, is_some, IsSome, refl, sym, ap, ◌∙◌, subst, arith}
use Rattle.std.proofs.lemmas.Bool.{eqb-true, eq-eqb, false≢true}
use Rattle.std.specs.Option.{option_map, option_map_or, option_and_then}
use Rattle.moka_hist.specs.Finite.{put_at, put_key}
use Rattle.moka_hist.specs.State.{State}
use Rattle.moka_hist.specs.declared.events.Start.TheVariants as start
use Rattle.moka_hist.specs.declared.loads.Load.{Load}
use Rattle.moka_small.specs.Laws.{may_end}
use Rattle.moka_small.specs.Polled.{claims, ends_with, gone_loading, gone_waiter, loads, or_else, owner_of, owns, polled, reads, value_under}
use Rattle.moka_small.specs.Seen.{IsSeenAs}
use Rattle.moka_small.specs.Small.{End, With_value, With_nothing, With_error, Stand, Begun, Asks, Was_told, Waits, Small, load_at, owner_at, started, waiting, waits_for, with_stand}
use Rattle.moka_small.specs.Standing.{WaitersAreServed}
use Rattle.moka_small.specs.declared.outcome.Outcome.{Outcome}
use Rattle.moka_small.specs.declared.outcome.Outcome.TheVariants as outcome
use Rattle.moka_claims.specs.Claims.{Fits, load_of, stand_by, stand_of}
use Rattle.moka_claims.specs.declared.claims.Seat.{Seat}
use Rattle.moka_claims.proofs.Basics.{and_left, and_right, greatest_none, greatest_some, none_pass, none_some, put_cases, put_here, put_holds, put_same, put_there, put_twice, same_number, some_same}

-- the small states of such caches
abbrev pub Held : Type 0
Held = Small ℕ ℕ (Unit {0})

-- a live call stands there
abbrev live : Stand ℕ ℕ (Unit {0}) → Option (Stand ℕ ℕ (Unit {0}))
live stand = Some stand

-- a call that asks stands nowhere else
asks_waits : {load other : Load ℕ} {o : ℕ} → live (Asks load) ≡ live (Waits o other) → ⊥
asks_waits e = cc

asks_same : {load other : Load ℕ} → live (Asks load) ≡ live (Asks other) → load ≡ other
asks_same e = cc

-- the call of a seat asks nothing, and was told nothing
seat_asks_not : (b : Bool) (r o : ℕ) (load : Load ℕ) → Some (stand_by b r o) ≡ Some (Asks load) → ⊥
seat_asks_not true r o load e = cc
seat_asks_not false r o load e = cc

module _ (m : Held) (calls : ℕ → Option ℕ) (seats : ℕ → Option Seat) (fits : Fits calls seats m) where
  -- an owner of the load holds the rule
  pub owner_holds : (r o : ℕ) → owns nat_eq (m.stands o) (load_of r) ≡ true → calls r ≡ Some o
  owner_holds r o e = by (m.stands o) refl e
    where
      by : (x : Option (Stand ℕ ℕ (Unit {0}))) → m.stands o ≡ x → owns nat_eq x (load_of r) ≡ true → calls r ≡ Some o
      by None is e = absurd (false≢true e)
      by (Some (Begun start)) is e = absurd (false≢true e)
      by (Some (Waits owner load)) is e = absurd (false≢true e)
      by (Some (Was_told load end)) is e = absurd (fits.untold o load end is)
      by (Some (Asks load)) is e =
          ap calls (sym (eqb-true load.key r (and_left (load.key == r) _ e))) ∙ (fits.asks o load is).1

  -- who holds the rule owns its load
  pub holder_owns : (r n : ℕ) → calls r ≡ Some n → owns nat_eq (m.stands n) (load_of r) ≡ true
  holder_owns r n e = ap (λ x. owns nat_eq x (load_of r)) (fits.holds r n e) ∙ ap (λ b. b && true) (same_number r)

  -- nobody owns the load of a rule that no call holds
  pub unheld : (r : ℕ) → calls r ≡ None → (k : ℕ) → owns nat_eq (m.stands k) (load_of r) ≡ false
  unheld r none k = by (owns nat_eq (m.stands k) (load_of r)) refl
    where
      by : (b : Bool) → owns nat_eq (m.stands k) (load_of r) ≡ b → b ≡ false
      by true e = absurd (none_some (sym none ∙ owner_holds r k e))
      by false e = refl

  -- a holder isn't the call of a seat
  pub holder_apart : (q r n : ℕ) (seat : Seat) → seats q ≡ Some seat → calls r ≡ Some n → seat.call ≢ n
  holder_apart q r n seat is held same =
      let at = fits.seated q seat is in
      seat_asks_not seat.waits seat.rule at.0 (load_of r) (sym at.1 ∙ ap m.stands same ∙ fits.holds r n held)

  -- ---- a seat is left

  module _ (q : ℕ) (seat : Seat) (is : seats q ≡ Some seat) where
    -- the other seats have other calls
    others : (p : ℕ) (other : Seat) → seats p ≡ Some other → q ≢ p → seat.call ≢ other.call
    others p other at apart same = apart (fits.one q p seat other is at same)

    -- a call of another seat is at that seat
    at_another : (n p : ℕ) (other : Seat) → seat.call ≢ n → seats p ≡ Some other → other.call ≡ n → q ≢ p
    at_another n p other apart at call same = apart (ap (λ t. t.call) (some_same (sym is ∙ ap seats same ∙ at)) ∙ call)

    -- the call stands elsewhere from now on, and the seat is this, or none
    module _ (stand : Option (Stand ℕ ℕ (Unit {0}))) (after : Option Seat) where
      seated_still : ((new : Seat) → after ≡ Some new → (owner : ℕ) × (put_at m.stands seat.call stand new.call ≡ Some (stand_of new owner))) →
          (p : ℕ) (other : Seat) → put_at seats q after p ≡ Some other →
          (owner : ℕ) × (put_at m.stands seat.call stand other.call ≡ Some (stand_of other owner))
      seated_still new p other at = put_cases seats q after p (Some other) _ at
          (λ same here. new other here)
          (λ apart there. let was = fits.seated p other there in
          (was.0, put_there m.stands seat.call stand other.call (others p other there apart) ∙ was.1))

      holds_still : (r n : ℕ) → calls r ≡ Some n → put_at m.stands seat.call stand n ≡ Some (Asks (load_of r))
      holds_still r n held =
          put_there m.stands seat.call stand n (holder_apart q r n seat is held) ∙ fits.holds r n held

      waits_still : (n p : ℕ) (other : Seat) → seat.call ≢ n → seats p ≡ Some other → other.call ≡ n →
          (p : ℕ) × (other : Seat) × (put_at seats q after p ≡ Some other) × (other.call ≡ n)
      waits_still n p other apart at call =
          (p, other, put_there seats q after p (at_another n p other apart at call) ∙ at, call)

      one_still : ((new : Seat) → after ≡ Some new → new.call ≡ seat.call) → (p k : ℕ) (a b : Seat) →
          put_at seats q after p ≡ Some a → put_at seats q after k ≡ Some b → a.call ≡ b.call → p ≡ k
      one_still same p k a b at there equal = put_cases seats q after p (Some a) (p ≡ k) at
          (λ here new. put_cases seats q after k (Some b) (p ≡ k) there
          (λ too other. sym here ∙ too)
          (λ apart old. absurd (others k b old apart (sym (same a new) ∙ equal))))
          (λ apart old. put_cases seats q after k (Some b) (p ≡ k) there
          (λ too other. absurd (others p a old apart (sym (same b other) ∙ sym equal)))
          (λ also other. fits.one p k a b old other equal))

    -- the seat is empty, its call is gone, and no more ends are kept
    pub left : (ends : ℕ → Option (End ℕ (Unit {0}))) → ((o : ℕ) (end : End ℕ (Unit {0})) → ends o ≡ Some end → m.ends o ≡ Some end) →
        Fits calls (put_at seats q None) (record m { stands = put_at m.stands seat.call None; ends = ends })
    left ends fewer = record {
      holds = holds_still None None;
      seated = seated_still None None (λ new none. absurd (none_some none));
      asks = λ n load at. put_cases m.stands seat.call None n (Some (Asks load)) _ at
          (λ same none. absurd (none_some none)) (λ apart old. fits.asks n load old);
      untold = λ n load end at. put_cases m.stands seat.call None n (Some (Was_told load end)) _ at
          (λ same none. absurd (none_some none)) (λ apart old. fits.untold n load end old);
      waits = λ n o load at. put_cases m.stands seat.call None n (Some (Waits o load)) _ at
          (λ same none. absurd (none_some none))
          (λ apart old. let was = fits.waits n o load old in waits_still None None n was.0 was.1 apart was.2 was.3);
      ended = λ n o load end at ended. put_cases m.stands seat.call None n (Some (Waits o load)) _ at
          (λ same none. absurd (none_some none)) (λ apart old. fits.ended n o load end old (fewer o end ended));
      one = one_still None None (λ new none. absurd (none_some none));
      closed = fits.closed;
    }

    -- the call waits for an owner whose end isn't kept
    pub waiting_fits : (c : ℕ) → m.ends c ≡ None → Fits calls (put_at seats q (Some (record seat { waits = true })))
        (record m { stands = put_at m.stands seat.call (Some (Waits c (load_of seat.rule))) })
    waiting_fits c unended = record {
      holds = holds_still stand (Some now);
      seated = seated_still stand (Some now) (λ new here. (
        c,
        subst (λ t. put_at m.stands seat.call stand t.call ≡ Some (stand_of t c)) (some_same here) (put_here m.stands seat.call stand),
      ));
      asks = λ n load at. put_cases m.stands seat.call stand n (Some (Asks load)) _ at
          (λ same wrong. absurd (asks_waits (sym wrong))) (λ apart old. fits.asks n load old);
      untold = λ n load end at. put_cases m.stands seat.call stand n (Some (Was_told load end)) _ at
          (λ same wrong. told_waits wrong) (λ apart old. fits.untold n load end old);
      waits = λ n o load at. put_cases m.stands seat.call stand n (Some (Waits o load)) _ at
          (λ same new. (q, now, put_here seats q (Some now), same))
          (λ apart old. let was = fits.waits n o load old in waits_still stand (Some now) n was.0 was.1 apart was.2 was.3);
      ended = λ n o load end at ended. put_cases m.stands seat.call stand n (Some (Waits o load)) _ at
          (λ same new. absurd (none_some (sym unended ∙ ap m.ends (owner_same new) ∙ ended)))
          (λ apart old. fits.ended n o load end old ended);
      one = one_still stand (Some now) (λ new here. ap (λ t. t.call) (sym (some_same here)));
      closed = fits.closed;
    }
      where
        now : Seat
        now = record seat { waits = true }

        stand : Option (Stand ℕ ℕ (Unit {0}))
        stand = Some (Waits c (load_of seat.rule))

        told_waits : {load : Load ℕ} {end : End ℕ (Unit {0})} → stand ≡ Some (Was_told load end) → ⊥
        told_waits e = cc

        owner_same : {o : ℕ} {load : Load ℕ} → stand ≡ Some (Waits o load) → c ≡ o
        owner_same e = cc

    -- the call holds the rule, which no other one held
    pub holding_fits : calls seat.rule ≡ None → value_under m seat.rule ≡ None →
        Fits (put_at calls seat.rule (Some seat.call)) (put_at seats q None)
        (record m { stands = put_at m.stands seat.call (Some (Asks (load_of seat.rule))) })
    holding_fits free unknown = record {
      holds = λ r n held. put_cases calls seat.rule (Some seat.call) r (Some n) _ held
          (λ same new. subst (λ k. put_at m.stands seat.call stand k ≡ Some (Asks (load_of r))) (some_same new)
          (put_here m.stands seat.call stand ∙ ap (λ k. Some (Asks (load_of k))) same))
          (λ apart old. holds_still stand None r n old);
      seated = seated_still stand None (λ new none. absurd (none_some none));
      asks = λ n load at. put_cases m.stands seat.call stand n (Some (Asks load)) _ at
          (λ same new. let equal = asks_same new in (
            sym equal ∙ ap (λ l. load_of l.key) equal,
            ap (put_at calls seat.rule (Some seat.call)) (sym (ap (λ l. l.key) equal)) ∙
                put_here calls seat.rule (Some seat.call) ∙ ap Some same,
          ))
          (λ apart old. let was = fits.asks n load old in (
            was.0,
            put_there calls seat.rule (Some seat.call) load.key
                (λ same. none_some (sym free ∙ ap calls same ∙ was.1)) ∙ was.1,
          ));
      untold = λ n load end at. put_cases m.stands seat.call stand n (Some (Was_told load end)) _ at
          (λ same wrong. told_asks wrong) (λ apart old. fits.untold n load end old);
      waits = λ n o load at. put_cases m.stands seat.call stand n (Some (Waits o load)) _ at
          (λ same wrong. absurd (asks_waits wrong))
          (λ apart old. let was = fits.waits n o load old in waits_still stand None n was.0 was.1 apart was.2 was.3);
      ended = λ n o load end at ended. put_cases m.stands seat.call stand n (Some (Waits o load)) _ at
          (λ same wrong. absurd (asks_waits wrong)) (λ apart old. fits.ended n o load end old ended);
      one = one_still stand None (λ new none. absurd (none_some none));
      closed = λ r v at. put_there calls seat.rule (Some seat.call) r
          (λ same. none_some (sym unknown ∙ ap (value_under m) same ∙ at)) ∙ fits.closed r v at;
    }
      where
        stand : Option (Stand ℕ ℕ (Unit {0}))
        stand = Some (Asks (load_of seat.rule))

        told_asks : {load : Load ℕ} {end : End ℕ (Unit {0})} → stand ≡ Some (Was_told load end) → ⊥
        told_asks e = cc

  -- ---- a seat is taken, with a call that is new

  pub seating : (state : State ℕ ℕ (Unit {0})) → IsSeenAs nat_eq state m → (q r : ℕ) → seats q ≡ None →
      Fits calls (put_at seats q (Some (record { rule = r; call = m.last + 1; waits = false }))) (started m (start.GetWith r None))
  seating state seen q r none = record {
    holds = λ k n held. put_there m.stands (m.last + 1) stand n
        (λ same. none_some (sym fresh ∙ ap m.stands same ∙ fits.holds k n held)) ∙ fits.holds k n held;
    seated = λ p other at. put_cases seats q (Some new) p (Some other) _ at
        (λ same here. (
          0,
          subst (λ t. put_at m.stands (m.last + 1) stand t.call ≡ Some (stand_of t 0)) (some_same here)
              (put_here m.stands (m.last + 1) stand),
        ))
        (λ apart old. let was = fits.seated p other old in
        (was.0, put_there m.stands (m.last + 1) stand other.call (new_call p other old) ∙ was.1));
    asks = λ n load at. put_cases m.stands (m.last + 1) stand n (Some (Asks load)) _ at
        (λ same wrong. absurd (begun_asks wrong)) (λ apart old. fits.asks n load old);
    untold = λ n load end at. put_cases m.stands (m.last + 1) stand n (Some (Was_told load end)) _ at
        (λ same wrong. begun_told wrong) (λ apart old. fits.untold n load end old);
    waits = λ n o load at. put_cases m.stands (m.last + 1) stand n (Some (Waits o load)) _ at
        (λ same wrong. absurd (begun_waits wrong))
        (λ apart old. let was = fits.waits n o load old in
        (was.0, was.1, put_there seats q (Some new) was.0 (λ same. none_some (sym none ∙ ap seats same ∙ was.2)) ∙ was.2, was.3));
    ended = λ n o load end at ended. put_cases m.stands (m.last + 1) stand n (Some (Waits o load)) _ at
        (λ same wrong. absurd (begun_waits wrong)) (λ apart old. fits.ended n o load end old ended);
    one = λ p k a b at there equal. put_cases seats q (Some new) p (Some a) (p ≡ k) at
        (λ here is. put_cases seats q (Some new) k (Some b) (p ≡ k) there
        (λ too other. sym here ∙ too)
        (λ apart old. absurd (new_call k b old (ap (λ t. t.call) (some_same is) ∙ equal))))
        (λ apart old. put_cases seats q (Some new) k (Some b) (p ≡ k) there
        (λ too other. absurd (new_call p a old (ap (λ t. t.call) (some_same other) ∙ sym equal)))
        (λ also other. fits.one p k a b old other equal));
    closed = fits.closed;
  }
    where
      new : Seat
      new = record { rule = r; call = m.last + 1; waits = false }

      stand : Option (Stand ℕ ℕ (Unit {0}))
      stand = Some (Begun (start.GetWith r None))

      fresh : m.stands (m.last + 1) ≡ None
      fresh = seen.views.orderly.numbered (m.last + 1) (omega arith)

      new_call : (p : ℕ) (other : Seat) → seats p ≡ Some other → m.last + 1 ≢ other.call
      new_call p other at same = none_some (sym fresh ∙ ap m.stands same ∙ (fits.seated p other at).1)

      begun_asks : {load : Load ℕ} → stand ≡ Some (Asks load) → ⊥
      begun_asks e = cc

      begun_told : {load : Load ℕ} {end : End ℕ (Unit {0})} → stand ≡ Some (Was_told load end) → ⊥
      begun_told e = cc

      begun_waits : {load : Load ℕ} {o : ℕ} → stand ≡ Some (Waits o load) → ⊥
      begun_waits e = cc

  -- ---- a rule is no longer held

  module _ (r c : ℕ) (held : calls r ≡ Some c) where
    -- another rule is held by another call
    held_apart : (k n : ℕ) → r ≢ k → calls k ≡ Some n → c ≢ n
    held_apart k n apart at same =
        apart (ap (λ l. l.key) (asks_same (sym (fits.holds r c held) ∙ ap m.stands same ∙ fits.holds k n at)))

    freed_holds : (k n : ℕ) → put_at calls r None k ≡ Some n → put_at m.stands c None n ≡ Some (Asks (load_of k))
    freed_holds k n at = put_cases calls r None k (Some n) _ at
        (λ same none. absurd (none_some none))
        (λ apart old. put_there m.stands c None n (held_apart k n apart old) ∙ fits.holds k n old)

    freed_seated : (q : ℕ) (seat : Seat) → seats q ≡ Some seat →
        (owner : ℕ) × (put_at m.stands c None seat.call ≡ Some (stand_of seat owner))
    freed_seated q seat at =
        let was = fits.seated q seat at in
        (was.0, put_there m.stands c None seat.call (λ same. holder_apart q r c seat at held (sym same)) ∙ was.1)

    freed_asks : (n : ℕ) (load : Load ℕ) → put_at m.stands c None n ≡ Some (Asks load) →
        (load ≡ load_of load.key) × (put_at calls r None load.key ≡ Some n)
    freed_asks n load at = put_cases m.stands c None n (Some (Asks load)) _ at
        (λ same none. absurd (none_some none))
        (λ apart old. let was = fits.asks n load old in (
          was.0,
          put_there calls r None load.key (λ same. apart (some_same (sym held ∙ ap calls same ∙ was.1))) ∙ was.1,
        ))

    freed_untold : (n : ℕ) (load : Load ℕ) (end : End ℕ (Unit {0})) → put_at m.stands c None n ≢ Some (Was_told load end)
    freed_untold n load end at = put_cases m.stands c None n (Some (Was_told load end)) ⊥ at
        (λ same none. none_some none) (λ apart old. fits.untold n load end old)

    freed_waits : (n o : ℕ) (load : Load ℕ) → put_at m.stands c None n ≡ Some (Waits o load) → m.stands n ≡ Some (Waits o load)
    freed_waits n o load at = put_cases m.stands c None n (Some (Waits o load)) _ at
        (λ same none. absurd (none_some none)) (λ apart old. old)

    -- its call is gone, and nothing is known of it
    pub freed : (ends : ℕ → Option (End ℕ (Unit {0}))) → ((o : ℕ) (end : End ℕ (Unit {0})) → ends o ≡ Some end → m.ends o ≡ Some end) →
        Fits (put_at calls r None) seats (record m { stands = put_at m.stands c None; ends = ends })
    freed ends fewer = record {
      holds = freed_holds;
      seated = freed_seated;
      asks = freed_asks;
      untold = freed_untold;
      waits = λ n o load at. fits.waits n o load (freed_waits n o load at);
      ended = λ n o load end at ended. fits.ended n o load end (freed_waits n o load at) (fewer o end ended);
      one = fits.one;
      closed = λ k v at. put_holds calls r None k (λ x. x ≡ None) (λ same. refl) (λ apart. fits.closed k v at);
    }

    -- the value of a rule whose value becomes known, and of another one
    abbrev known_then : ℕ → ℕ → Option ℕ
    known_then v k = option_map (λ kept. kept.0) (put_key nat_eq m.stored r (Some (v, c)) k)

    known_other : (v k : ℕ) → r ≢ k → known_then v k ≡ value_under m k
    known_other v k apart = ap (option_map (λ kept. kept.0)) (put_there m.stored r (Some (v, c)) k apart)

    -- its call is gone, and its value is known; who waits for the call reads that
    pub settled : (v : ℕ) (ends : ℕ → Option (End ℕ (Unit {0}))) →
        ((n o : ℕ) (load : Load ℕ) (end : End ℕ (Unit {0})) → m.stands n ≡ Some (Waits o load) → ends o ≡ Some end →
        (m.ends o ≡ Some end) ⊎ ((r ≡ load.key) × (end ≡ With_value v))) →
        Fits (put_at calls r None) seats
        (record m { stored = put_key nat_eq m.stored r (Some (v, c)); stands = put_at m.stands c None; ends = ends })
    settled v ends reads_so = record {
      holds = freed_holds;
      seated = freed_seated;
      asks = freed_asks;
      untold = freed_untold;
      waits = λ n o load at. fits.waits n o load (freed_waits n o load at);
      ended = λ n o load end at ended. let old = freed_waits n o load at in
          by n o load end old (reads_so n o load end old ended);
      one = fits.one;
      closed = λ k w at. put_holds calls r None k (λ x. x ≡ None) (λ same. refl)
          (λ apart. fits.closed k w (sym (known_other v k apart) ∙ at));
    }
      where
        by : (n o : ℕ) (load : Load ℕ) (end : End ℕ (Unit {0})) → m.stands n ≡ Some (Waits o load) →
            (m.ends o ≡ Some end) ⊎ ((r ≡ load.key) × (end ≡ With_value v)) →
            (w : ℕ) × (end ≡ With_value w) × (known_then v load.key ≡ Some w)
        by n o load end at (inl was) =
            let had = fits.ended n o load end at was in (
              had.0,
              had.1,
              known_other v load.key (λ same. none_some (sym (fits.closed load.key had.0 had.2) ∙ ap calls (sym same) ∙ held)) ∙ had.2,
            )
        by n o load end at (inr now) = (
          v,
          now.1,
          ap (known_then v) (sym now.0) ∙ ap (option_map (λ kept. kept.0)) (put_here m.stored r (Some (v, c))),
        )
