use Rattle.std.proofs.Common.{Option, Some, None, cond, ap, ◌∙◌}
use Rattle.std.proofs.lemmas.Option.{MatchOption-at_none}
use Rattle.std.specs.Option.{option_map}
use Rattle.std.specs.Map.{lookup_entry}
use Rattle.moka_parts.specs.declared.held.Held.{Held}
use Rattle.moka_parts.specs.Pairs.{pair_of}
use Rattle.moka_parts.proofs.Entries.{lookup_none, lookup_added}
use Rattle.moka_parts.proofs.Holding.{mapped, none_mapped}
use Rattle.moka_parts.proofs.pairs.put_first.Goals as goal

pub returns : goal.returns
returns g c = record {
  map = λ q.
      let eq = g.K.PartialEq.eq in
      let held : Held g.row.K.Denot g.row.V.Denot = record { newer = None; value = c.args.value } in
      let made = c.in-Ok.ensures in
      let es = c.give_back.new.map.entries in
      let none = c.give_back.ensures.map c.args.key ∙ none_mapped pair_of _ c.requires.absent in
      let moved = MatchOption-at_none _ _ (made.old ∙ lookup_none (eq c.args.key) es none) made.entries in
      let added = lookup_added g.met.K.Eq.laws c.args.key q held es c.insert.new.self.entries made.unique moved in
      let put = added ∙ ap (λ (o : Option (g.row.K.Denot × Held g.row.K.Denot g.row.V.Denot)). cond (eq c.args.key q) (Some (c.args.key, held)) o) (c.give_back.ensures.map q) in
      ap (option_map pair_of) put ∙ mapped pair_of (eq c.args.key q) (Some (c.args.key, held)) (lookup_entry (eq q) c.args.map.now.entries);
}
