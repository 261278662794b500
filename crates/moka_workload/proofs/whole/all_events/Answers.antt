-- No turn was made, and none has events.
use Rattle.std.proofs.Common.{◌∙◌, sym}
use Rattle.moka_workload.proofs.Workloads.{workload_none}
use Rattle.moka_workload.proofs.whole.all_events.Goals as goal

pub loop-init : goal.loop-init
loop-init c =
    (c.new-made.ensures, c.new-events.ensures.items ∙ sym (workload_none c.args.seed))
