use Rattle.std.proofs.Common.{ℕ, true, Some, None, nat_eq, refl}
use Rattle.moka_hist.specs.State.{DeskPart}
use Rattle.moka_hist.specs.Visits.{claimed, locked_by}
use Rattle.moka_hist.specs.declared.loads.Kind.TheVariants as kind
use Rattle.moka_hist.specs.declared.loads.Load.{Load}
use Rattle.moka_hist.specs.declared.rules.Rules.{Rules}
use Rattle.moka_desk_cases.specs.Rests.{untouched}
use Rattle.moka_desk_cases.proofs.waking.wait_for_call_1.Goals as goal

abbrev load : Load ℕ
load = record { key = 5; kind = kind.GetWith }

-- call 1 owns the load, then locks the key, and then call 2 waits for it
abbrev owned : Rules → DeskPart ℕ ℕ ℕ
owned rules = claimed nat_eq (untouched rules) 1 load None

abbrev locked : Rules → DeskPart ℕ ℕ ℕ
locked rules = locked_by nat_eq (owned rules) 1 5 true

abbrev joined : Rules → DeskPart ℕ ℕ ℕ
joined rules = claimed nat_eq (locked rules) 2 load (Some 1)

pub wait_or_own-requires : goal.wait_or_own-requires
wait_or_own-requires c = record { free = (untouched c.requires.0, c.requires.1, (refl, refl, λ owner e. refl)) }

pub lock_key-requires : goal.lock_key-requires
lock_key-requires c =
    let rules = c.requires.0 in
    record { free = (owned rules, c.in_ok-wait_or_own.ensures.makes (untouched rules) c.requires.1 (refl, refl, λ owner e. refl), (refl, refl)) }

pub wait_or_own-requires-2 : goal.wait_or_own-requires-2
wait_or_own-requires-2 c =
    let rules = c.requires.0 in
    let owns = c.in_ok-wait_or_own.ensures.makes (untouched rules) c.requires.1 (refl, refl, λ owner e. refl) in
    record { free = (locked rules, c.in_ok-lock_key.ensures.makes (owned rules) owns (refl, refl), (refl, refl, λ owner e. refl)) }

pub read_settled-requires : goal.read_settled-requires
read_settled-requires c =
    let rules = c.requires.0 in
    let owns = c.in_ok-wait_or_own.ensures.makes (untouched rules) c.requires.1 (refl, refl, λ owner e. refl) in
    let locks = c.in_ok-lock_key.ensures.makes (owned rules) owns (refl, refl) in
    record { waits = (joined rules, c.in_ok-wait_or_own-2.ensures.makes (locked rules) locks (refl, refl, λ owner e. refl), refl) }

pub lock_key-requires-2 : goal.lock_key-requires-2
lock_key-requires-2 c =
    let rules = c.requires.0 in
    let owns = c.in_ok-wait_or_own.ensures.makes (untouched rules) c.requires.1 (refl, refl, λ owner e. refl) in
    let locks = c.in_ok-lock_key.ensures.makes (owned rules) owns (refl, refl) in
    let joins = c.in_ok-wait_or_own-2.ensures.makes (locked rules) locks (refl, refl, λ owner e. refl) in
    record { free = (joined rules, c.in_ok-read_settled.ensures.makes (joined rules) joins refl, (refl, refl)) }

pub returns : goal.returns
returns c =
    let rules = c.requires.0 in
    let owns = c.in_ok-wait_or_own.ensures.makes (untouched rules) c.requires.1 (refl, refl, λ owner e. refl) in
    let locks = c.in_ok-lock_key.ensures.makes (owned rules) owns (refl, refl) in
    let joins = c.in_ok-wait_or_own-2.ensures.makes (locked rules) locks (refl, refl, λ owner e. refl) in
    let reads = c.in_ok-read_settled.ensures.makes (joined rules) joins refl in
    (joined rules, c.in_ok-lock_key-2.ensures.makes (joined rules) reads (refl, refl))
