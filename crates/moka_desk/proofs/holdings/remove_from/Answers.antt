-- What is kept is what others hold.
use Rattle.std.proofs.Common.{◌==◌, not, rules}
use Rattle.std.proofs.lemmas.Fn.{filter_same}
use Rattle.moka_desk.proofs.holdings.remove_from.Goals as goal

pub returns-clause-others : goal.returns-clause-others
returns-clause-others c = filter_same _ (λ h. not (h.0 == c.args.call)) _ (λ x b f called. search rules) _ _ c.retain.ensures.filtered
