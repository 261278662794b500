-- A fresh get is safe on a fresh cache, and the poll notes each access.
use Rattle.std.proofs.Common.{ℕ, Some, map, refl, subst, arith}
use Rattle.moka_hist.specs.State.{Call, World, fresh}
use Rattle.moka_hist.specs.Run.{fresh_call}
use Rattle.moka_hist.specs.declared.events.Start.TheVariants as start
use Rattle.moka_desk_cases.specs.Rests.{none_handed}
use Rattle.moka_desk_cases.specs.EmptyCache.{IsBare, noted}
use Rattle.moka_init.specs.FlowPlan.{call_of, next_in}
use Rattle.moka_init.specs.Telling.{TellsPoll}
use Rattle.moka_desk_cases.proofs.EmptyCache.{get_is_safe, no_rules, on_ok_of}
use Rattle.moka_desk_cases.proofs.flows.bare.poll_get.Goals as goal

pub poll-polled-requires-clause-safe : goal.poll-polled-requires-clause-safe
poll-polled-requires-clause-safe g c =
    let w : World g.row.K.Denot g.row.V.Denot g.row.E.Denot = (fresh g.row.K.Denot g.row.V.Denot g.row.E.Denot (record { parts = 1; part_of = λ q. 0 }) no_rules 1 none_handed).world in
    let bare : IsBare c.args.ground.now.undecided w =
    record { owed = refl; holding = λ n. refl; log = refl; size = refl; joined = λ n. refl; stored = λ q. refl; patient = omega (arith, c.args.ground.now.few) } in
    (w, bare, get_is_safe g.K.PartialEq.eq c.args.ground.now.undecided c.new-flow.result.call 1 c.args.key no_rules (call_of c.new-flow.result) w c.new-flow.ensures.call refl bare, omega arith)

pub returns : goal.returns
returns g c =
    on_ok_of c.poll-polled.result _ _ (λ t tells.
    let now = map noted c.poll-polled.new.ground.notes.items in
    let told = tells (map noted c.args.ground.now.notes.items) refl in (
      1,
      no_rules,
      next_in t c.poll-polled.new.flow,
      subst (λ (n : ℕ). TellsPoll n (fresh_call 1 no_rules (start.Get c.args.key)) (next_in t c.poll-polled.new.flow) (map noted c.args.ground.now.notes.items) (Some now)) c.new-flow.ensures.number
          (subst (λ (d : Call g.row.K.Denot g.row.V.Denot g.row.E.Denot). TellsPoll c.new-flow.result.call d (next_in t c.poll-polled.new.flow) (map noted c.args.ground.now.notes.items) (Some now)) c.new-flow.ensures.call told),
    ))
    c.poll-polled.ensures.tells
