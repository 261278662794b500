use Rattle.std.proofs.Common.{ℕ, None, nat_eq, refl}
use Rattle.moka_hist.specs.State.{DeskPart}
use Rattle.moka_hist.specs.Visits.{claimed, settled_as}
use Rattle.moka_hist.specs.declared.loads.Kind.TheVariants as kind
use Rattle.moka_hist.specs.declared.rules.Rules.{Rules}
use Rattle.moka_hist.specs.declared.visits.Settled.TheVariants as settled
use Rattle.moka_desk_cases.specs.Rests.{untouched}
use Rattle.moka_desk_cases.proofs.loads.owns_alone.Goals as goal

-- call 1 computes alone
abbrev alone : Rules → DeskPart ℕ ℕ ℕ
alone rules = claimed nat_eq (untouched rules) 1 (record { key = 5; kind = kind.Compute }) None

pub owned-requires : goal.owned-requires
owned-requires c = record { free = (untouched c.requires.0, c.requires.1, (refl, refl)) }

pub owned-requires-2 : goal.owned-requires-2
owned-requires-2 c =
    let rules = c.requires.0 in
    record { free = (alone rules, c.in_ok-alone.ensures.makes (untouched rules) c.requires.1 (refl, refl), (refl, refl)) }

pub settle-requires : goal.settle-requires
settle-requires c =
    let rules = c.requires.0 in
    let owns = c.in_ok-alone.ensures.makes (untouched rules) c.requires.1 (refl, refl) in
    (alone rules, c.in_ok-beside.ensures.makes (alone rules) owns (refl, refl), refl)

pub owned-requires-3 : goal.owned-requires-3
owned-requires-3 c =
    let rules = c.requires.0 in
    let owns = c.in_ok-alone.ensures.makes (untouched rules) c.requires.1 (refl, refl) in
    let beside = c.in_ok-beside.ensures.makes (alone rules) owns (refl, refl) in
    record { free = (settled_as (alone rules) 1 settled.Nothing, c.settle.ensures.makes (alone rules) beside refl, (refl, refl)) }
