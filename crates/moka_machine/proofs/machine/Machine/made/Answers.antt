-- A machine that was just built stands for the fresh state, which is reached.
use Rattle.std.proofs.Common.{◌≡◌, Option, Some, None, [], refl, sym, ap, subst, ◌∙◌, arith}
use Rattle.std.specs.Option.{option_map}
use Rattle.moka_hist.specs.State.{fresh}
use Rattle.moka_ids.specs.Drawn.{seeded}
use Rattle.moka_layers.proofs.Undrawn.{undrawn}
use Rattle.moka_machine.specs.Calls.{IsUsed, runs_in}
use Rattle.moka_machine.specs.Handed.{handed_with}
use Rattle.moka_machine.specs.Machine.{call_in}
use Rattle.moka_machine.specs.TheTable.{the_division}
use Rattle.moka_machine.specs.declared.call_places.Running.{Running}
use Rattle.moka_machine.proofs.machine.Machine.made.Goals as goal

pub returns-clause-fresh : goal.returns-clause-fresh
returns-clause-fresh g c =
    let empty = c.new-2.ensures.empty in
    let none = empty.peak in
    record {
      world = record {
        table = record {
          map = empty.map;
          keys = empty.count;
          peak = omega (arith, none);
          first = empty.first;
          parts = refl;
          part_of = λ q. refl;
        };
        desk = c.in_ok-desk.ensures.stands (handed_with g.T.Tests c.args.tests c.args.seed);
        handed = record {
          tests = refl;
          predicates = refl;
          ids = undrawn (seeded c.args.seed) c.new-3.result c.new-3.ensures;
        };
        stay = omega arith;
      };
      calls = λ n. ap (λ p. option_map call_in (runs_in p)) (c.new-4.ensures n);
      each = λ n r e. let f : None ≡ Some r = sym (ap runs_in (c.new-4.ensures n)) ∙ e in absurd (cc);
      used = λ n. subst (λ (p : Option (Option (Running g.row.K.Denot g.row.V.Denot g.row.E.Denot))). IsUsed p) (sym (c.new-4.ensures n)) (λ e. e);
      history = c.in_ok-desk.ensures.history;
    }

pub returns-clause-valid : goal.returns-clause-valid
returns-clause-valid g c =
    record {
      state = fresh g.row.K.Denot g.row.V.Denot g.row.E.Denot (the_division g.row.K.Denot) c.args.rules c.args.log (handed_with g.T.Tests c.args.tests c.args.seed);
      stands = returns-clause-fresh g c;
      reached = record {
        division = the_division g.row.K.Denot;
        divides = record { some = omega arith; few = omega arith; part = λ q. omega arith; alike = λ a b e. refl };
        rules = c.args.rules;
        size = c.args.log;
        handed = handed_with g.T.Tests c.args.tests c.args.seed;
        has_log = c.requires.least;
        events = [];
        replies = [];
        run = refl;
      };
    }
