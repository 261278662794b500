use Rattle.std.proofs.Common.{ℕ, true, None, nat_eq, refl}
use Rattle.moka_hist.specs.Dropping.{left}
use Rattle.moka_hist.specs.State.{DeskPart}
use Rattle.moka_hist.specs.Visits.{locked_by, makes}
use Rattle.moka_hist.specs.declared.rules.Rules.{Rules}
use Rattle.moka_hist.specs.declared.visits.Visit.TheVariants as visit
use Rattle.moka_desk_cases.specs.Rests.{untouched}
use Rattle.moka_desk_cases.proofs.waking.drop_while_told.Goals as goal

-- call 1 has the lock, and then tells the listener
abbrev locked : Rules → DeskPart ℕ ℕ ℕ
locked rules = locked_by nat_eq (untouched rules) 1 5 true

abbrev telling : Rules → DeskPart ℕ ℕ ℕ
telling rules = makes nat_eq (locked rules) (visit.OpenNotice 1 5 50 0 0 None true)

pub lock_key-requires : goal.lock_key-requires
lock_key-requires c = record { free = (untouched c.requires.0, c.requires.1, (refl, refl)) }

pub open_notice-requires : goal.open_notice-requires
open_notice-requires c =
    let rules = c.requires.0 in
    (locked rules, c.in_ok-lock_key.ensures.makes (untouched rules) c.requires.1 (refl, refl), refl)

pub leave-requires : goal.leave-requires
leave-requires c =
    let rules = c.requires.0 in
    let locks = c.in_ok-lock_key.ensures.makes (untouched rules) c.requires.1 (refl, refl) in
    (telling rules, c.in_ok-open_notice.ensures.makes (locked rules) locks refl, tt)

pub returns : goal.returns
returns c =
    let rules = c.requires.0 in
    let locks = c.in_ok-lock_key.ensures.makes (untouched rules) c.requires.1 (refl, refl) in
    let tells = c.in_ok-open_notice.ensures.makes (locked rules) locks refl in
    (left (telling rules) 1 None, c.leave.ensures.makes (telling rules) tells tt, refl, refl, refl)
