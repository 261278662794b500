-- The query has a seat.
use Rattle.std.proofs.Common.{◌≡◌, nat_eq, Some, None, is_some, refl, sym, ap, ◌∙◌, subst}
use Rattle.std.proofs.lemmas.Bool.{false≢true}
use Rattle.std.proofs.lemmas.Result.{IfOk-weaker}
use Rattle.std.specs.HashMap.{get}
use Rattle.std.specs.Option.{option_map}
use Rattle.moka_claims.specs.Claims.{IsClaims, looked, sought}
use Rattle.moka_claims.proofs.Basics.{some_same}
use Rattle.moka_claims.proofs.Standing.{its_seat}
use Rattle.moka_claims.proofs.claims.Claims.look.Goals as goal

pub look_at-requires : goal.look_at-requires
look_at-requires c = (c.requires.0, c.requires.1, sym c.get.ensures.value ∙ sym c.copied.ensures ∙ c.in-Some.is)

pub unreachable-requires : goal.unreachable-requires
unreachable-requires c =
    false≢true (sym (ap (λ x. is_some (option_map sought x)) (sym c.get.ensures.value ∙ sym c.copied.ensures ∙ c.in-None.is)) ∙
    ap is_some (c.requires.1.seeks c.args.query) ∙ c.requires.2)

pub returns : goal.returns
returns c = IfOk-weaker c.look_at.result _ _ (λ look came claimed rule waits is at.
    let here = sym c.get.ensures.value ∙ sym c.copied.ensures ∙ c.in-Some.is in
    let its = its_seat (get nat_eq c.args.self.now.seats c.args.query) rule waits (is.seeks c.args.query ∙ at) in
    let same = some_same (sym here ∙ its.1.0) in
    let rows = came claimed is in
    let is_rule = ap (λ t. t.rule) same ∙ its.1.1.0 in
    let is_waits = ap (λ t. t.waits) same ∙ its.1.1.1 in
    let all : looked claimed c.args.query c.in-Some.seat.rule c.in-Some.seat.waits ≡ looked claimed c.args.query rule waits =
    λ i. looked claimed c.args.query (is_rule i) (is_waits i) in
    (rows.0 ∙ ap (λ x. x.0) all, subst (λ x. IsClaims c.look_at.new.self x.1) all rows.1))
    c.look_at.ensures
