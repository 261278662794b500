-- Nobody waits for the call of a seat.
use Rattle.std.proofs.Common.{nat_eq, Some, None, is_some, refl, sym, ap, ◌∙◌}
use Rattle.std.proofs.lemmas.Bool.{false≢true}
use Rattle.std.specs.HashMap.{get}
use Rattle.std.specs.Option.{option_map}
use Rattle.moka_claims.specs.Claims.{sought}
use Rattle.moka_claims.proofs.Rows.{seat_alone}
use Rattle.moka_claims.proofs.Standing.{leave_is, stands_so}
use Rattle.moka_claims.proofs.claims.Claims.leave.Goals as goal

pub unreachable-requires : goal.unreachable-requires
unreachable-requires c =
    false≢true (sym (ap (λ x. is_some (option_map sought x)) (sym c.remove.ensures.value ∙ c.in-None.is)) ∙
    ap is_some (c.requires.1.seeks c.args.query) ∙ c.requires.2)

pub drop_call-requires : goal.drop_call-requires
drop_call-requires c = record {
  alone = λ unspent.
      let is = c.requires.1 in
      let at = sym c.remove.ensures.value ∙ c.in-Some.is in (
        is.small,
        is.polled,
        record {
          live = ap is_some (stands_so c.args.self.now c.requires.0 is c.args.query c.in-Some.seat at c.waiters_are_served.ensures.served);
          alone = seat_alone is.small (get nat_eq c.args.self.now.calls) (get nat_eq c.args.self.now.seats) is.fits is.polled.state
              is.polled.seen c.waiters_are_served.ensures.served c.args.query c.in-Some.seat at;
        },
      );
}

pub returns : goal.returns
returns c = λ claimed is some.
    let at = sym c.remove.ensures.value ∙ c.in-Some.is in
    leave_is c.args.self.now claimed is
    (record { cache = c.drop_call.new.self; calls = c.args.self.now.calls; seats = c.remove.new.self })
    c.args.query c.in-Some.seat at
    (c.drop_call.ensures.gone is.small is.polled (record {
      live = ap is_some (stands_so c.args.self.now claimed is c.args.query c.in-Some.seat at c.waiters_are_served.ensures.served);
      alone = seat_alone is.small (get nat_eq c.args.self.now.calls) (get nat_eq c.args.self.now.seats) is.fits is.polled.state
          is.polled.seen c.waiters_are_served.ensures.served c.args.query c.in-Some.seat at;
    }))
    (λ k. refl) c.remove.ensures.updates.0
