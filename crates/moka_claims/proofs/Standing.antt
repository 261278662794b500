-- Claims stand for what their calls make of them.
use Rattle.std.proofs.Common.{◌≡◌, ◌≢◌, ◌⊎◌, inl, inr, ◌+◌, ℕ, nat_eq, ◌==◌, Bool, true, false, cond, ◌&&◌, Option, Some, None, is_some, IsSome, refl, sym, ap, ◌∙◌, subst}
use Rattle.std.proofs.lemmas.Bool.{false≢true}
use Rattle.std.specs.HashMap.{get}
use Rattle.std.specs.Option.{option_map}
use Rattle.moka_hist.specs.Finite.{put_at}
use Rattle.moka_hist.specs.declared.events.Start.TheVariants as start
use Rattle.moka_polled.specs.Polled.{IsPolled}
use Rattle.moka_small.specs.Polled.{gone_loading, gone_waiter, polled, value_under}
use Rattle.moka_small.specs.Small.{End, Small, Stand, empty, started, waiting, waits_for}
use Rattle.moka_small.specs.Standing.{WaitersAreServed}
use Rattle.moka_small.specs.declared.outcome.Outcome.{Outcome}
use Rattle.moka_small.specs.declared.outcome.Outcome.TheVariants as outcome
use Rattle.moka_evaluator.specs.Claimed.{Claimed, no_claims}
use Rattle.moka_claims.specs.Claims.{Fits, IsClaims, looked_at, sought, stand_of}
use Rattle.moka_claims.specs.declared.claims.Claims.{Claims}
use Rattle.moka_claims.specs.declared.claims.Seat.{Seat}
use Rattle.moka_claims.specs.declared.look.Look.{Look}
use Rattle.moka_claims.specs.declared.look.Look.TheVariants as look
use Rattle.moka_claims.proofs.Basics.{none_some, put_mapped, some_same}
use Rattle.moka_claims.proofs.Fitting.{Held, freed, left, seating}
use Rattle.moka_claims.proofs.Rows.{Comes, Found, Holding, Waiting, comes, holder_alone, seat_alone, settles, told_at}

-- the same calls and seats
pub fits_so : (calls after : ℕ → Option ℕ) (seats then : ℕ → Option Seat) (m : Held) → ((r : ℕ) → after r ≡ calls r) →
    ((q : ℕ) → then q ≡ seats q) → Fits calls seats m → Fits after then m
fits_so calls after seats then m same too fits =
    subst (λ f. Fits f then m) (λ i r. sym (same r) i) (subst (λ f. Fits calls f m) (λ i q. sym (too q) i) fits)

-- a query that seeks nothing has no seat
pub no_seat : (x : Option Seat) → option_map sought x ≡ None → x ≡ None
no_seat None e = refl
no_seat (Some seat) e = absurd (none_some (sym e))

-- one that seeks has one
pub its_seat : (x : Option Seat) (r : ℕ) (waits : Bool) → option_map sought x ≡ Some (r, waits) →
    (seat : Seat) × ((x ≡ Some seat) × ((seat.rule ≡ r) × (seat.waits ≡ waits)))
its_seat None r waits e = absurd (none_some e)
its_seat (Some seat) r waits e =
    let same = some_same e in (seat, (refl, (ap (λ p. p.0) same, ap (λ p. p.1) same)))

pub some_seat : (x : Option Seat) → is_some (option_map sought x) ≡ true → (seat : Seat) × (x ≡ Some seat)
some_seat None e = absurd (false≢true e)
some_seat (Some seat) e = (seat, refl)

pub is_held : (x : Option ℕ) → is_some x ≡ true → (n : ℕ) × (x ≡ Some n)
is_held None e = absurd (false≢true e)
is_held (Some n) e = (n, refl)

-- of an empty cache
pub new_is : (claims : Claims) → IsPolled nat_eq claims.cache (empty None) → ((r : ℕ) → get nat_eq claims.calls r ≡ None) →
    ((q : ℕ) → get nat_eq claims.seats q ≡ None) → IsClaims claims no_claims
new_is claims polled calls seats = record {
  small = empty None;
  polled = polled;
  fits = record {
    holds = λ r n e. absurd (none_some (sym (calls r) ∙ e));
    seated = λ q seat e. absurd (none_some (sym (seats q) ∙ e));
    asks = λ n load e. absurd (none_some e);
    untold = λ n load end e. none_some e;
    waits = λ n o load e. absurd (none_some e);
    ended = λ n o load end e ended. absurd (none_some e);
    one = λ p q a b e there same. absurd (none_some (sym (seats p) ∙ e));
    closed = λ r v e. calls r;
  };
  known = λ r. refl;
  held = λ r. ap is_some (calls r);
  seeks = λ q. ap (option_map sought) (seats q);
}

-- fewer ends are kept once a call is gone
pub fewer_ends : (m : Held) (n k : ℕ) (end : End ℕ (Unit {0})) → (gone_waiter m n).ends k ≡ Some end → m.ends k ≡ Some end
fewer_ends m n k end e = by (waits_for (m.stands n) k && waiting m k == 1) e
  where
    by : (b : Bool) → cond b None (m.ends k) ≡ Some end → m.ends k ≡ Some end
    by true e = absurd (none_some e)
    by false e = e

-- what a look says and leaves at an unknown rule that is held, or isn't
abbrev when_held : Claimed → ℕ → ℕ → Bool → Bool → Look × Claimed
when_held claimed q r waits held =
    cond held
    (look.Waits waits, record claimed { seeks = put_at claimed.seeks q (Some (r, true)) })
    (look.Holds, record claimed { held = put_at claimed.held r true; seeks = put_at claimed.seeks q None })

-- ---- a look

module _ (old : Claims) (claimed : Claimed) (is : IsClaims old claimed) (q : ℕ) (seat : Seat) (at : get nat_eq old.seats q ≡ Some seat)
    (served : WaitersAreServed ℕ ℕ (Unit {0}) nat_eq) where
  -- where its call stands
  abbrev pub its_stand : Stand ℕ ℕ (Unit {0})
  its_stand = stand_of seat (is.fits.seated q seat at).0

  pub stands_so : is.small.stands seat.call ≡ Some its_stand
  stands_so = (is.fits.seated q seat at).1

  abbrev pub row : Outcome ℕ (Unit {0}) × Held
  row = polled nat_eq is.small seat.call its_stand

  comes_so : Comes is.small (get nat_eq old.calls) (get nat_eq old.seats) is.fits is.polled.state is.polled.seen served q seat at row
  comes_so = comes is.small (get nat_eq old.calls) (get nat_eq old.seats) is.fits is.polled.state is.polled.seen served q seat at
      seat.waits (is.fits.seated q seat at).0 (is.fits.seated q seat at).1

  -- so nothing else comes of it
  pub comes_to : (x : Outcome ℕ (Unit {0})) → x ≡ row.0 → ((v : ℕ) (fresh : Bool) → x ≡ outcome.Loaded v fresh → ⊥) →
      (x ≡ outcome.Asks → ⊥) → (x ≡ outcome.Waits → ⊥) → ⊥
  comes_to x came loaded asks waits = by comes_so
    where
      by : Comes is.small (get nat_eq old.calls) (get nat_eq old.seats) is.fits is.polled.state is.polled.seen served q seat at row → ⊥
      by (inl found) = loaded found.0 false (came ∙ found.1.says)
      by (inr (inl waiting)) = waits (came ∙ waiting.says)
      by (inr (inr holding)) = asks (came ∙ holding.says)

  -- what the look says and leaves
  abbrev pub LooksSo : Look → Claims → Option ℕ → Type 0
  LooksSo said new x =
      (said ≡ (looked_at claimed q seat.rule seat.waits x).0) × IsClaims new (looked_at claimed q seat.rule seat.waits x).1

  module _ (new : Claims) (polled : IsPolled nat_eq new.cache row.1) where
    loaded_waits : {v : ℕ} {fresh : Bool} → row.0 ≡ outcome.Waits → row.0 ≡ outcome.Loaded v fresh → ⊥
    loaded_waits a b = cc

    loaded_asks : {v : ℕ} {fresh : Bool} → row.0 ≡ outcome.Asks → row.0 ≡ outcome.Loaded v fresh → ⊥
    loaded_asks a b = cc

    asks_waits : row.0 ≡ outcome.Asks → row.0 ≡ outcome.Waits → ⊥
    asks_waits a b = cc

    loaded_same : {v w : ℕ} {a b : Bool} → row.0 ≡ outcome.Loaded v a → row.0 ≡ outcome.Loaded w b → v ≡ w
    loaded_same a b = cc

    pub found_is : (v : ℕ) (fresh : Bool) → row.0 ≡ outcome.Loaded v fresh →
        ((r : ℕ) → get nat_eq new.calls r ≡ get nat_eq old.calls r) →
        ((p : ℕ) → get nat_eq new.seats p ≡ put_at (get nat_eq old.seats) q None p) →
        LooksSo (look.Value v) new (claimed.known seat.rule)
    found_is v fresh says calls seats = by comes_so
      where
        by : Comes is.small (get nat_eq old.calls) (get nat_eq old.seats) is.fits is.polled.state is.polled.seen served q seat at row →
            LooksSo (look.Value v) new (claimed.known seat.rule)
        by (inr (inl waiting)) = absurd (loaded_waits waiting.says says)
        by (inr (inr holding)) = absurd (loaded_asks holding.says says)
        by (inl found) =
            let known : claimed.known seat.rule ≡ Some v =
            sym (is.known seat.rule) ∙ found.1.known ∙ ap Some (loaded_same found.1.says says) in
            subst (LooksSo (look.Value v) new) (sym known) (
              refl,
              record {
                small = row.1;
                polled = polled;
                fits = fits_so (get nat_eq old.calls) (get nat_eq new.calls) (put_at (get nat_eq old.seats) q None) (get nat_eq new.seats)
                    row.1 calls seats found.1.fits;
                known = λ r. found.1.values r ∙ is.known r;
                held = λ r. ap is_some (calls r) ∙ is.held r;
                seeks = λ p. ap (option_map sought) (seats p) ∙
                    put_mapped (option_map sought) (get nat_eq old.seats) claimed.seeks is.seeks q None None refl p;
              },
            )

    pub wait_is : row.0 ≡ outcome.Waits → ((r : ℕ) → get nat_eq new.calls r ≡ get nat_eq old.calls r) →
        ((p : ℕ) → get nat_eq new.seats p ≡ put_at (get nat_eq old.seats) q (Some (record seat { waits = true })) p) →
        LooksSo (look.Waits seat.waits) new (claimed.known seat.rule)
    wait_is says calls seats = by comes_so
      where
        by : Comes is.small (get nat_eq old.calls) (get nat_eq old.seats) is.fits is.polled.state is.polled.seen served q seat at row →
            LooksSo (look.Waits seat.waits) new (claimed.known seat.rule)
        by (inl found) = absurd (loaded_waits says found.1.says)
        by (inr (inr holding)) = absurd (asks_waits holding.says says)
        by (inr (inl waiting)) =
            let unknown : claimed.known seat.rule ≡ None = sym (is.known seat.rule) ∙ waiting.unknown in
            let held : claimed.held seat.rule ≡ true = sym (is.held seat.rule) ∙ ap is_some waiting.held in
            subst (LooksSo (look.Waits seat.waits) new) (sym unknown)
            (subst (λ b. (look.Waits seat.waits ≡ (when_held claimed q seat.rule seat.waits b).0) × IsClaims new (when_held claimed q seat.rule seat.waits b).1) (sym held) (
              refl,
              record {
                small = row.1;
                polled = polled;
                fits = fits_so (get nat_eq old.calls) (get nat_eq new.calls)
                    (put_at (get nat_eq old.seats) q (Some (record seat { waits = true }))) (get nat_eq new.seats)
                    row.1 calls seats waiting.fits;
                known = λ r. waiting.values r ∙ is.known r;
                held = λ r. ap is_some (calls r) ∙ is.held r;
                seeks = λ p. ap (option_map sought) (seats p) ∙
                    put_mapped (option_map sought) (get nat_eq old.seats) claimed.seeks is.seeks q
                    (Some (record seat { waits = true })) (Some (seat.rule, true)) refl p;
              },
            ))

    pub hold_is : row.0 ≡ outcome.Asks → ((r : ℕ) → get nat_eq new.calls r ≡ put_at (get nat_eq old.calls) seat.rule (Some seat.call) r) →
        ((p : ℕ) → get nat_eq new.seats p ≡ put_at (get nat_eq old.seats) q None p) →
        LooksSo look.Holds new (claimed.known seat.rule)
    hold_is says calls seats = by comes_so
      where
        by : Comes is.small (get nat_eq old.calls) (get nat_eq old.seats) is.fits is.polled.state is.polled.seen served q seat at row →
            LooksSo look.Holds new (claimed.known seat.rule)
        by (inl found) = absurd (loaded_asks says found.1.says)
        by (inr (inl waiting)) = absurd (asks_waits says waiting.says)
        by (inr (inr holding)) =
            let unknown : claimed.known seat.rule ≡ None = sym (is.known seat.rule) ∙ holding.unknown in
            let free : claimed.held seat.rule ≡ false = sym (is.held seat.rule) ∙ ap is_some holding.free in
            subst (LooksSo look.Holds new) (sym unknown)
            (subst (λ b. (look.Holds ≡ (when_held claimed q seat.rule seat.waits b).0) × IsClaims new (when_held claimed q seat.rule seat.waits b).1) (sym free) (
              refl,
              record {
                small = row.1;
                polled = polled;
                fits = fits_so (put_at (get nat_eq old.calls) seat.rule (Some seat.call)) (get nat_eq new.calls)
                    (put_at (get nat_eq old.seats) q None) (get nat_eq new.seats) row.1 calls seats holding.fits;
                known = λ r. holding.values r ∙ is.known r;
                held = λ r. ap is_some (calls r) ∙
                    put_mapped is_some (get nat_eq old.calls) claimed.held is.held seat.rule (Some seat.call) true refl r;
                seeks = λ p. ap (option_map sought) (seats p) ∙
                    put_mapped (option_map sought) (get nat_eq old.seats) claimed.seeks is.seeks q None None refl p;
              },
            ))

-- ---- seeking, leaving, settling and freeing

module _ (old : Claims) (claimed : Claimed) (is : IsClaims old claimed) (new : Claims) where
  pub seek_is : (q r n : ℕ) → claimed.seeks q ≡ None → n ≡ is.small.last + 1 →
      IsPolled nat_eq new.cache (started is.small (start.GetWith r None)) →
      ((k : ℕ) → get nat_eq new.calls k ≡ get nat_eq old.calls k) →
      ((p : ℕ) → get nat_eq new.seats p ≡ put_at (get nat_eq old.seats) q (Some (record { rule = r; call = n; waits = false })) p) →
      IsClaims new (record claimed { seeks = put_at claimed.seeks q (Some (r, false)) })
  seek_is q r n none number polled calls seats = record {
    small = started is.small (start.GetWith r None);
    polled = polled;
    fits = fits_so (get nat_eq old.calls) (get nat_eq new.calls)
        (put_at (get nat_eq old.seats) q (Some (record { rule = r; call = is.small.last + 1; waits = false }))) (get nat_eq new.seats)
        (started is.small (start.GetWith r None)) calls
        (λ p. seats p ∙ ap (λ n. put_at (get nat_eq old.seats) q (Some (record { rule = r; call = n; waits = false })) p) number)
        (seating is.small (get nat_eq old.calls) (get nat_eq old.seats) is.fits is.polled.state is.polled.seen q r
        (no_seat (get nat_eq old.seats q) (is.seeks q ∙ none)));
    known = is.known;
    held = λ k. ap is_some (calls k) ∙ is.held k;
    seeks = λ p. ap (option_map sought) (seats p) ∙
        put_mapped (option_map sought) (get nat_eq old.seats) claimed.seeks is.seeks q
        (Some (record { rule = r; call = n; waits = false })) (Some (r, false)) refl p;
  }

  pub leave_is : (q : ℕ) (seat : Seat) → get nat_eq old.seats q ≡ Some seat →
      IsPolled nat_eq new.cache (gone_waiter is.small seat.call) →
      ((k : ℕ) → get nat_eq new.calls k ≡ get nat_eq old.calls k) →
      ((p : ℕ) → get nat_eq new.seats p ≡ put_at (get nat_eq old.seats) q None p) →
      IsClaims new (record claimed { seeks = put_at claimed.seeks q None })
  leave_is q seat at polled calls seats = record {
    small = gone_waiter is.small seat.call;
    polled = polled;
    fits = fits_so (get nat_eq old.calls) (get nat_eq new.calls) (put_at (get nat_eq old.seats) q None) (get nat_eq new.seats)
        (gone_waiter is.small seat.call) calls seats
        (left is.small (get nat_eq old.calls) (get nat_eq old.seats) is.fits q seat at (gone_waiter is.small seat.call).ends
        (fewer_ends is.small seat.call));
    known = is.known;
    held = λ k. ap is_some (calls k) ∙ is.held k;
    seeks = λ p. ap (option_map sought) (seats p) ∙
        put_mapped (option_map sought) (get nat_eq old.seats) claimed.seeks is.seeks q None None refl p;
  }

  pub free_is : (r n : ℕ) → get nat_eq old.calls r ≡ Some n → IsPolled nat_eq new.cache (gone_waiter is.small n) →
      ((k : ℕ) → get nat_eq new.calls k ≡ put_at (get nat_eq old.calls) r None k) →
      ((p : ℕ) → get nat_eq new.seats p ≡ get nat_eq old.seats p) →
      IsClaims new (record claimed { held = put_at claimed.held r false })
  free_is r n held polled calls seats = record {
    small = gone_waiter is.small n;
    polled = polled;
    fits = fits_so (put_at (get nat_eq old.calls) r None) (get nat_eq new.calls) (get nat_eq old.seats) (get nat_eq new.seats)
        (gone_waiter is.small n) calls seats
        (freed is.small (get nat_eq old.calls) (get nat_eq old.seats) is.fits r n held (gone_waiter is.small n).ends
        (fewer_ends is.small n));
    known = is.known;
    held = λ k. ap is_some (calls k) ∙ put_mapped is_some (get nat_eq old.calls) claimed.held is.held r None false refl k;
    seeks = λ p. ap (option_map sought) (seats p) ∙ is.seeks p;
  }

  pub settle_is : (served : WaitersAreServed ℕ ℕ (Unit {0}) nat_eq) (r n v : ℕ) (held : get nat_eq old.calls r ≡ Some n) →
      IsPolled nat_eq new.cache (gone_loading nat_eq
      (told_at is.small (get nat_eq old.calls) (get nat_eq old.seats) is.fits is.polled.state is.polled.seen served r n held v) n r v) →
      ((k : ℕ) → get nat_eq new.calls k ≡ put_at (get nat_eq old.calls) r None k) →
      ((p : ℕ) → get nat_eq new.seats p ≡ get nat_eq old.seats p) →
      IsClaims new (record claimed { known = put_at claimed.known r (Some v); held = put_at claimed.held r false })
  settle_is served r n v held polled calls seats = record {
    small = gone_loading nat_eq (told_at is.small (get nat_eq old.calls) (get nat_eq old.seats) is.fits is.polled.state is.polled.seen served r n held v) n r v;
    polled = polled;
    fits = fits_so (put_at (get nat_eq old.calls) r None) (get nat_eq new.calls) (get nat_eq old.seats) (get nat_eq new.seats)
        (gone_loading nat_eq (told_at is.small (get nat_eq old.calls) (get nat_eq old.seats) is.fits is.polled.state is.polled.seen served r n held v) n r v) calls seats
        (settles is.small (get nat_eq old.calls) (get nat_eq old.seats) is.fits is.polled.state is.polled.seen served r n held v);
    known = put_mapped (option_map (λ kept. kept.0)) is.small.stored claimed.known is.known r (Some (v, n)) (Some v) refl;
    held = λ k. ap is_some (calls k) ∙ put_mapped is_some (get nat_eq old.calls) claimed.held is.held r None false refl k;
    seeks = λ p. ap (option_map sought) (seats p) ∙ is.seeks p;
  }
