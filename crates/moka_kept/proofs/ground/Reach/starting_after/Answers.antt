-- A desk where nothing has happened but that numbers were given out, and an empty table, are those
-- of a sound world.
use Rattle.std.proofs.Common.{nat_eq, refl, sym, subst, arith}
use Rattle.std.proofs.lemmas.Option.{none-some}
use Rattle.std.specs.HashMap.{get}
use Rattle.moka_hist.specs.State.{empty_table, fresh_desk}
use Rattle.moka_table.specs.Plain.{plain_part, plain_parts}
use Rattle.moka_ids.specs.Drawn.{seeded}
use Rattle.moka_layers.proofs.Undrawn.{undrawn}
use Rattle.moka_kept.specs.Kept.{IsKept, none_handed}
use Rattle.moka_kept.proofs.ground.Reach.starting_after.Goals as goal

pub returns : goal.returns
returns g c =
    let empty = c.with_hasher.ensures.empty in
    let none = empty.peak in
    subst (λ layers. IsKept g.K.PartialEq.eq g.P.Fact.holds (get nat_eq c.over.result.ends) layers) (sym c.over.ensures.layers) (record {
      world = record {
        table = empty_table g.row.K.Denot g.row.V.Denot (record { parts = plain_parts; part_of = plain_part });
        desk = record (fresh_desk g.row.K.Denot g.row.V.Denot g.row.E.Denot c.args.rules 384 none_handed) { last = c.args.last };
        stay = record { call = 0; times = 0 };
      };
      stands = record {
        table = record { map = empty.map; keys = empty.count; peak = omega (arith, none); first = empty.first; parts = refl; part_of = λ q. refl };
        desk = c.in_ok-desk.ensures.stands none_handed;
        handed = record {
          tests = refl;
          predicates = refl;
          ids = undrawn (seeded 0) c.new.result c.new.ensures;
        };
        stay = omega arith;
      };
      sound = c.entering_keeps_sound.ensures.sound _ c.args.last (c.fresh_is_sound.ensures.sound c.args.rules 384 none_handed);
      log = omega arith;
      decided = refl;
      none_begun = refl;
      unlisted = λ n. refl;
      stored = λ q p is. absurd (none-some p is);
      ended = λ owner with value is. absurd (none-some with is);
    })
