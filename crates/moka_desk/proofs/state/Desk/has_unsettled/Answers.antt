use Rattle.std.proofs.Common.{◌≡◌, Some, None, ap, sym, ◌∙◌, is_some}
use Rattle.moka_desk.proofs.SameLoads.{get_same}
use Rattle.moka_desk.proofs.Tested.{one_unsettled, none_unsettled}
use Rattle.moka_desk.proofs.state.Desk.has_unsettled.Goals as goal

pub returns-in-Some : goal.returns-in-Some
returns-in-Some g c = λ w s.
    let load = c.args.load.now in
    let owner = c.in-Some.owner.now in
    let owned : w.owners load ≡ Some owner =
    sym (s.loads.owners load) ∙ get_same g.K.PartialEq.eq c.args.self.now.loads.owners load ∙ sym c.in-Some.ensures.value in
    one_unsettled _ owner w.settled _ owned (c.has_at.ensures ∙ ap is_some (s.loads.settled owner))

pub returns-in-None : goal.returns-in-None
returns-in-None g c = λ w s.
    let load = c.args.load.now in
    let free : w.owners load ≡ None =
    sym (s.loads.owners load) ∙ get_same g.K.PartialEq.eq c.args.self.now.loads.owners load ∙ sym c.in-None.ensures.value in
    none_unsettled _ w.settled free
