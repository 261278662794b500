use Rattle.std.proofs.Common.{◌≡◌, ℕ, Some, None, nat_eq, refl, subst}
use Rattle.moka_hist.specs.State.{DeskPart}
use Rattle.moka_hist.specs.Visits.{claimed, settled_as}
use Rattle.moka_hist.specs.declared.loads.Kind.{Kind}
use Rattle.moka_hist.specs.declared.loads.Kind.TheVariants.{GetWith, Optional, Try, Compute}
use Rattle.moka_hist.specs.declared.loads.Load.{Load}
use Rattle.moka_hist.specs.declared.rules.Rules.{Rules}
use Rattle.moka_desk.specs.StandsFor.{StandsFor}
use Rattle.moka_desk_cases.specs.Rests.{untouched}
use Rattle.moka_desk_cases.proofs.loads.read_on.Goals as goal

abbrev load_of : Kind → Load ℕ
load_of kind = record { key = 5; kind = kind }

-- call 1 owns the load, and then call 2 waits for it
abbrev owned : Rules → Kind → DeskPart ℕ ℕ ℕ
owned rules kind = claimed nat_eq (untouched rules) 1 (load_of kind) None

abbrev joined : Rules → Kind → DeskPart ℕ ℕ ℕ
joined rules kind = claimed nat_eq (owned rules kind) 2 (load_of kind) (Some 1)

has_owner : (rules : Rules) (kind : Kind) → (owned rules kind).owners (load_of kind) ≡ Some 1
has_owner rules GetWith = refl
has_owner rules Optional = refl
has_owner rules Try = refl
has_owner rules Compute = refl

pub wait_or_own-requires : goal.wait_or_own-requires
wait_or_own-requires c = record { free = (untouched c.requires.new.0, c.requires.new.1, (refl, refl, λ owner e. refl)) }

pub wait_or_own-requires-2 : goal.wait_or_own-requires-2
wait_or_own-requires-2 c =
    let rules = c.requires.new.0 in
    record { free = (owned rules c.args.kind, c.in_ok-wait_or_own.ensures.makes (untouched rules) c.requires.new.1 (refl, refl, λ owner e. refl), (refl, refl, λ owner e. refl)) }

pub settle-requires : goal.settle-requires
settle-requires c =
    let rules = c.requires.new.0 in
    let kind = c.args.kind in
    let owns = c.in_ok-wait_or_own.ensures.makes (untouched rules) c.requires.new.1 (refl, refl, λ owner e. refl) in (
      joined rules kind,
      subst (λ o. StandsFor nat_eq c.wait_or_own-2.new.self (claimed nat_eq (owned rules kind) 2 (load_of kind) o)) (has_owner rules kind)
          (c.in_ok-wait_or_own-2.ensures.makes (owned rules kind) owns (refl, refl, λ owner e. refl)),
      c.requires.may,
    )

pub read_settled-requires : goal.read_settled-requires
read_settled-requires c =
    let rules = c.requires.new.0 in
    let kind = c.args.kind in
    let owns = c.in_ok-wait_or_own.ensures.makes (untouched rules) c.requires.new.1 (refl, refl, λ owner e. refl) in
    let joins = subst (λ o. StandsFor nat_eq c.wait_or_own-2.new.self (claimed nat_eq (owned rules kind) 2 (load_of kind) o)) (has_owner rules kind)
    (c.in_ok-wait_or_own-2.ensures.makes (owned rules kind) owns (refl, refl, λ owner e. refl)) in
    record { waits = (settled_as (joined rules kind) 1 c.args.with, c.settle.ensures.makes (joined rules kind) joins c.requires.may, refl) }
