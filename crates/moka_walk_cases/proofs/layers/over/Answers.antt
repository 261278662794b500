-- Layers that were just made stand for the fresh state, of which one number was given out.
use Rattle.std.proofs.Common.{ℕ, refl, arith}
use Rattle.moka_hist.specs.State.{empty_table, fresh_desk}
use Rattle.moka_ids.specs.Drawn.{seeded}
use Rattle.moka_layers.proofs.Undrawn.{undrawn}
use Rattle.moka_walk_cases.specs.Standing.{no_tests_handed}
use Rattle.moka_walk_cases.proofs.layers.over.Goals as goal

pub returns : goal.returns
returns g c =
    let empty = c.requires.empty in
    let first = empty.first in
    let peak = empty.peak in (
      record {
        table = empty_table ℕ ℕ (record { parts = g.T.Table.divided c.args.table; part_of = g.T.Table.part_of c.args.table });
        desk = record (fresh_desk ℕ ℕ ℕ c.args.rules 1 no_tests_handed) { last = 1 };
        stay = record { call = 0; times = 0 };
      },
      record {
        world = record {
          table = record { map = empty.map; keys = empty.count; peak = omega (arith, peak); first = first; parts = refl; part_of = λ q. refl };
          desk = c.in_ok-desk.ensures.stands no_tests_handed;
          handed = record {
            tests = refl;
            predicates = refl;
            ids = undrawn (seeded 0) c.new.result c.new.ensures;
          };
          stay = omega arith;
        };
        begun = record { fits = tt; within = omega arith; patient = omega (arith, first, peak); listing = refl };
        given = omega arith;
      },
    )
