-- The call that holds the rule is told the value, and polled to its end.
use Rattle.std.proofs.Common.{nat_eq, Some, None, is_some, refl, sym, ap, ◌∙◌}
use Rattle.std.proofs.lemmas.Bool.{false≢true}
use Rattle.std.specs.HashMap.{get}
use Rattle.moka_small.specs.Small.{With_value, Was_told}
use Rattle.moka_claims.specs.Claims.{load_of}
use Rattle.moka_claims.proofs.Basics.{put_here}
use Rattle.moka_claims.proofs.Rows.{told_at}
use Rattle.moka_claims.proofs.Standing.{settle_is}
use Rattle.moka_claims.proofs.claims.Claims.settle.Goals as goal

pub unreachable-requires : goal.unreachable-requires
unreachable-requires c =
    false≢true (sym (ap is_some (sym c.remove.ensures.value ∙ c.in-None.is)) ∙ c.requires.1.held c.args.rule ∙ c.requires.2)

pub tell-requires : goal.tell-requires
tell-requires c = record {
  asks = λ unspent. (
    c.requires.1.small,
    c.requires.1.polled,
    (
      load_of c.args.rule,
      With_value c.args.value,
      record {
        asks = c.requires.1.fits.holds c.args.rule c.in-Some.call (sym c.remove.ensures.value ∙ c.in-Some.is);
        is = refl;
        fits = refl;
      },
    ),
  );
}

pub poll-requires : goal.poll-requires
poll-requires c = record {
  live = λ unspent. let is = c.requires.1 in let held = sym c.remove.ensures.value ∙ c.in-Some.is in (
    told_at is.small (get nat_eq c.args.self.now.calls) (get nat_eq c.args.self.now.seats) is.fits is.polled.state is.polled.seen
        c.waiters_are_served.ensures.served c.args.rule c.in-Some.call held c.args.value,
    c.in_ok-tell-in-Some.ensures.told is.small (load_of c.args.rule) (With_value c.args.value) is.polled (record {
      asks = is.fits.holds c.args.rule c.in-Some.call held;
      is = refl;
      fits = refl;
    }),
    ap is_some (put_here is.small.stands c.in-Some.call (Some (Was_told (load_of c.args.rule) (With_value c.args.value)))),
  );
}

pub returns : goal.returns
returns c = λ claimed is was.
    let old = c.args.self.now in
    let served = c.waiters_are_served.ensures.served in
    let held = sym c.remove.ensures.value ∙ c.in-Some.is in
    let told = told_at is.small (get nat_eq old.calls) (get nat_eq old.seats) is.fits is.polled.state is.polled.seen served
    c.args.rule c.in-Some.call held c.args.value in
    let polled = c.in_ok-poll-in-Some.ensures.polled told (Was_told (load_of c.args.rule) (With_value c.args.value))
    (c.in_ok-tell-in-Some.ensures.told is.small (load_of c.args.rule) (With_value c.args.value) is.polled (record {
      asks = is.fits.holds c.args.rule c.in-Some.call held;
      is = refl;
      fits = refl;
    })) (put_here is.small.stands c.in-Some.call (Some (Was_told (load_of c.args.rule) (With_value c.args.value)))) in
    settle_is old claimed is
    (record { cache = c.poll.new.self; calls = c.remove.new.self; seats = old.seats })
    served c.args.rule c.in-Some.call c.args.value held polled.1 c.remove.ensures.updates.0 (λ p. refl)
