use Rattle.std.proofs.Common.{sym, ◌∙◌}
use Rattle.moka_desk.proofs.SameLoads.{get_same}
use Rattle.moka_desk.proofs.loads.Loads.owner_of.Goals as goal

pub returns : goal.returns
returns g c = c.copied.ensures ∙ c.get.ensures.value ∙ sym (get_same g.K.PartialEq.eq c.args.self.now.owners c.args.load.now)
