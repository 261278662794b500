-- Nobody waits for the call that holds the rule.
use Rattle.std.proofs.Common.{nat_eq, Some, None, true, is_some, refl, sym, ap, ◌∙◌}
use Rattle.std.proofs.lemmas.Bool.{false≢true}
use Rattle.std.specs.HashMap.{get}
use Rattle.moka_claims.proofs.Rows.{holder_alone}
use Rattle.moka_claims.proofs.Standing.{free_is}
use Rattle.moka_claims.proofs.claims.Claims.free.Goals as goal

pub unreachable-requires : goal.unreachable-requires
unreachable-requires c =
    false≢true (sym (ap is_some (sym c.remove.ensures.value ∙ c.in-None.is)) ∙ c.requires.1.held c.args.rule ∙ c.requires.2.0)

pub drop_call-requires : goal.drop_call-requires
drop_call-requires c = record {
  alone = λ unspent.
      let is = c.requires.1 in
      let held = sym c.remove.ensures.value ∙ c.in-Some.is in (
        is.small,
        is.polled,
        record {
          live = ap is_some (is.fits.holds c.args.rule c.in-Some.call held);
          alone = holder_alone is.small (get nat_eq c.args.self.now.calls) (get nat_eq c.args.self.now.seats) is.fits is.polled.state
              is.polled.seen c.waiters_are_served.ensures.served c.args.rule c.in-Some.call held
              (λ q sought. c.requires.2.1 q (sym (is.seeks q) ∙ sought));
        },
      );
}

pub returns : goal.returns
returns c = λ claimed is was unawaited.
    let held = sym c.remove.ensures.value ∙ c.in-Some.is in
    free_is c.args.self.now claimed is
    (record { cache = c.drop_call.new.self; calls = c.remove.new.self; seats = c.args.self.now.seats })
    c.args.rule c.in-Some.call held
    (c.drop_call.ensures.gone is.small is.polled (record {
      live = ap is_some (is.fits.holds c.args.rule c.in-Some.call held);
      alone = holder_alone is.small (get nat_eq c.args.self.now.calls) (get nat_eq c.args.self.now.seats) is.fits is.polled.state
          is.polled.seen c.waiters_are_served.ensures.served c.args.rule c.in-Some.call held
          (λ q sought. unawaited q (sym (is.seeks q) ∙ sought));
    }))
    c.remove.ensures.updates.0 (λ p. refl)
