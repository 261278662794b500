use Rattle.std.proofs.Common.{◌≡◌, List, Option, Some, None, sym, ◌∙◌}
use Rattle.moka_hist.specs.Tables.{answer_of}
use Rattle.moka_hist.specs.declared.records.Stored.{Stored}
use Rattle.moka_hist.specs.declared.tables.TableAnswer.TheVariants as found
use Rattle.moka_map.proofs.answers.pair_in.Goals as goal

-- a list of keys is no pair
no_pair : {K V : Type 0} (keys : List K) (o : Option (K × Stored V)) → found.Keys keys ≡ answer_of o → ⊥
no_pair keys None e = cc
no_pair keys (Some p) e = cc

pub returns-in-Keys : goal.returns-in-Keys
returns-in-Keys g c = λ o is. absurd (no_pair c.in-Keys.keys o (sym c.in-Keys.is ∙ is))
