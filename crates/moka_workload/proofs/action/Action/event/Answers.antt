-- A look-up and a removal have no value.
use Rattle.moka_workload.proofs.action.Action.event.Goals as goal

pub returns-in-Get : goal.returns-in-Get
returns-in-Get c = rw c.in-Get.is (c.get_event.ensures c.args.value)

pub returns-in-Remove : goal.returns-in-Remove
returns-in-Remove c = rw c.in-Remove.is (c.remove_event.ensures c.args.value)
