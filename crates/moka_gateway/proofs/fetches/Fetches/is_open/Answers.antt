-- A list is there where somebody waits.
use Rattle.std.proofs.Common.{◌∙◌, nat_eq}
use Rattle.std.specs.HashMap.{get}
use Rattle.moka_gateway.proofs.Lists.{open_is}
use Rattle.moka_gateway.proofs.fetches.Fetches.is_open.Goals as goal

pub returns : goal.returns
returns c = λ u f. c.contains_key.ensures ∙ open_is f.small (get nat_eq c.args.self.now.lists) u f.serves c.args.key
