-- One more record is named, or stays.
use Rattle.std.proofs.Common.{sym, ◌∙◌, arith}
use Rattle.moka_engine.proofs.Naming.{named_one_more, named_no_more}
use Rattle.moka_engine.proofs.choice.name_on_sight.Goals as goal
use Rattle.moka_engine.proofs.choice.name_on_sight.Goals.{in-Some+in_ok-name+in_ok-push, in_default}

pub loop-record-preserved : goal.loop-record-preserved
loop-record-preserved g c =
    let rules = c.args.rules.now in
    let known = c.args.known.now in
    let x = c.record-item.result in
    elim c.match-cause_on_sight.branch [
      | in-Some+in_ok-name+in_ok-push w ↦
          rw (w.names-is, w.in_ok-push.ensures.items, w.in_ok-name.ensures)
          (named_one_more rules known c.loop-record.record-index x (omega arith) c.record-item.is w.in-Some.cause c.loop-record.names.items
          (sym c.cause_on_sight.ensures ∙ w.in-Some.is) c.loop-record.invariant)
      | in_default w ↦
          rw w.names-is
          (named_no_more rules known c.loop-record.record-index x (omega arith) c.record-item.is c.loop-record.names.items
          (sym c.cause_on_sight.ensures ∙ w.in_default.is) c.loop-record.invariant)
    ]
