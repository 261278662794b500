-- Each round makes the next call on what the cache stands for.
use Rattle.std.proofs.Common.{◌<◌, ◌≤◌, List, length, subst, arith}
use Rattle.std.proofs.lemmas.List.{take_all}
use Rattle.moka_behind_run.specs.declared.calls.Call.{Call}
use Rattle.moka_behind_run.specs.Playing.{SoFar}
use Rattle.moka_behind_run.proofs.Serving.{behaves_so, so_far_next, so_far_none}
use Rattle.moka_behind_run.proofs.playing.answer_calls.Goals as goal

pub loop-call-init : goal.loop-call-init
loop-call-init g c = record {
  so_far =
      so_far_none (record { told = g.Kp.Keeper.told c.args.keeper.now; faults = g.Kp.Keeper.faults c.args.keeper.now })
      c.new-text.result.items c.in_ok-behind.behind c.new-text.ensures.items
      (c.in_ok-behind.ensures.behind (g.Kp.Keeper.told c.args.keeper.now));
  usable = c.in_ok-behind.ensures.usable;
}

pub loop-call-preserved : goal.loop-call-preserved
loop-call-preserved g c =
    let within : c.loop-call.call-index < length c.args.calls.now = omega arith in
    record {
      so_far =
          so_far_next
          (record { told = g.Kp.Keeper.told c.args.keeper.now; faults = g.Kp.Keeper.faults c.args.keeper.now })
          (record { told = g.Kp.Keeper.told c.loop-call.keeper; faults = g.Kp.Keeper.faults c.loop-call.keeper })
          (record { told = g.Kp.Keeper.told c.serve.new.keeper; faults = g.Kp.Keeper.faults c.serve.new.keeper })
          c.args.calls.now c.loop-call.call-index _ c.loop-call.text.items c.push_reply.new.text.items c.loop-call.behind
          c.serve.new.behind c.in_ok-reply.reply within c.loop-call.invariant.so_far c.in_ok-reply.ensures.serves
          c.in_ok-push_reply.ensures;
      usable = c.serve.ensures.usable;
    }

pub returns : goal.returns
returns g c =
    let end : length c.args.calls.now ≤ c.loop-call.call-index = omega arith in
    behaves_so
    (record { told = g.Kp.Keeper.told c.args.keeper.now; faults = g.Kp.Keeper.faults c.args.keeper.now })
    (record { told = g.Kp.Keeper.told c.loop-call.keeper; faults = g.Kp.Keeper.faults c.loop-call.keeper })
    c.args.calls.now c.loop-call.text.items c.push_unsent.new.text.items c.loop-call.behind c.unsent.result
    (subst (λ (cs : List Call). SoFar
    (record { told = g.Kp.Keeper.told c.args.keeper.now; faults = g.Kp.Keeper.faults c.args.keeper.now })
    cs c.loop-call.text.items
    (record { told = g.Kp.Keeper.told c.loop-call.keeper; faults = g.Kp.Keeper.faults c.loop-call.keeper })
    c.loop-call.behind)
    (take_all c.loop-call.call-index c.args.calls.now end) c.loop-call.invariant.so_far)
    c.unsent.ensures c.in_ok-push_unsent.ensures
