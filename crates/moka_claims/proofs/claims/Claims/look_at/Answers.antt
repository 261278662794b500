-- What the poll came to is what the look says.
use Rattle.std.proofs.Common.{nat_eq, Some, None, true, false, is_some, refl, sym, ap, ◌∙◌, subst}
use Rattle.std.proofs.lemmas.Result.{IfOk-weaker}
use Rattle.std.specs.HashMap.{get}
use Rattle.moka_polled.specs.Polled.{IsPolled}
use Rattle.moka_claims.proofs.Standing.{comes_to, found_is, hold_is, its_stand, row, stands_so, wait_is}
use Rattle.moka_claims.proofs.claims.Claims.look_at.Goals as goal

pub poll-requires : goal.poll-requires
poll-requires c = record {
  live = λ unspent. (
    c.requires.1.small,
    c.requires.1.polled,
    ap is_some (stands_so c.args.self.now c.requires.0 c.requires.1 c.args.query c.args.seat c.requires.2 c.waiters_are_served.ensures.served),
  );
}

pub unreachable-requires : goal.unreachable-requires
unreachable-requires c =
    let old = c.args.self.now in
    let claimed = c.requires.0 in
    let is = c.requires.1 in
    let served = c.waiters_are_served.ensures.served in
    let came = c.in_ok-outcome.ensures.polled is.small (its_stand old claimed is c.args.query c.args.seat c.requires.2 served) is.polled
    (stands_so old claimed is c.args.query c.args.seat c.requires.2 served) in
    comes_to old claimed is c.args.query c.args.seat c.requires.2 served c.in_ok-outcome.outcome came.0
    c.in_default.not-Loaded c.in_default.not-Asks c.in_default.not-Waits

pub returns-in-Loaded : goal.returns-in-Loaded
returns-in-Loaded c = λ claimed is.
    let old = c.args.self.now in
    let served = c.waiters_are_served.ensures.served in
    let came = c.in_ok-outcome.ensures.polled is.small (its_stand old claimed is c.args.query c.args.seat c.requires.2 served) is.polled
    (stands_so old claimed is c.args.query c.args.seat c.requires.2 served) in
    let found = found_is old claimed is c.args.query c.args.seat c.requires.2 served c.found.new.self
    (subst (λ x. IsPolled nat_eq x (row old claimed is c.args.query c.args.seat c.requires.2 served).1)
    (sym (ap (λ x. x.cache) c.found.ensures.others)) came.1)
    c.in-Loaded.value c.in-Loaded.fresh (sym came.0 ∙ c.in-Loaded.is)
    (λ r. ap (λ x. get nat_eq x.calls r) c.found.ensures.others) c.found.ensures.seats in
    (c.found.ensures.look ∙ found.0, found.1)

pub returns-in-Asks : goal.returns-in-Asks
returns-in-Asks c = IfOk-weaker c.hold.result _ _ (λ look held claimed is.
    let old = c.args.self.now in
    let served = c.waiters_are_served.ensures.served in
    let came = c.in_ok-outcome.ensures.polled is.small (its_stand old claimed is c.args.query c.args.seat c.requires.2 served) is.polled
    (stands_so old claimed is c.args.query c.args.seat c.requires.2 served) in
    let holds = hold_is old claimed is c.args.query c.args.seat c.requires.2 served c.hold.new.self
    (subst (λ x. IsPolled nat_eq x (row old claimed is c.args.query c.args.seat c.requires.2 served).1) (sym held.3) came.1)
    (sym came.0 ∙ c.in-Asks.is) held.2 held.1 in
    (held.0 ∙ holds.0, holds.1))
    c.hold.ensures

pub returns-in-Waits : goal.returns-in-Waits
returns-in-Waits c = IfOk-weaker c.wait.result _ _ (λ look waited claimed is.
    let old = c.args.self.now in
    let served = c.waiters_are_served.ensures.served in
    let came = c.in_ok-outcome.ensures.polled is.small (its_stand old claimed is c.args.query c.args.seat c.requires.2 served) is.polled
    (stands_so old claimed is c.args.query c.args.seat c.requires.2 served) in
    let waits = wait_is old claimed is c.args.query c.args.seat c.requires.2 served c.wait.new.self
    (subst (λ x. IsPolled nat_eq x (row old claimed is c.args.query c.args.seat c.requires.2 served).1) (sym waited.3) came.1)
    (sym came.0 ∙ c.in-Waits.is) waited.2 waited.1 in
    (waited.0 ∙ waits.0, waits.1))
    c.wait.ensures
