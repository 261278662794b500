-- What is kept is what is found by its id.
use Rattle.std.proofs.Common.{is_some, nat_eq, rules}
use Rattle.std.specs.HashMap.{get}
use Rattle.std.proofs.lemmas.Fn.{filter_same}
use Rattle.moka_desk.proofs.predicates.keep_known.Goals as goal

pub returns : goal.returns
returns c = filter_same _ (λ r. is_some (get nat_eq c.args.ids.now r.id)) _ (λ x b f called. search rules) _ _ c.retain.ensures.filtered
