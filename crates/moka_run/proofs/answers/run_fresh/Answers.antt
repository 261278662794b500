-- The run begins with a fresh cache, which no event has to reach.
use Rattle.std.proofs.Common.{ℕ, [], nat_eq, refl, sym, subst, arith}
use Rattle.moka_hist.specs.State.{fresh}
use Rattle.moka_hist.specs.Run.{IsReached}
use Rattle.moka_machine.specs.TheTable.{the_division}
use Rattle.moka_run.specs.Playing.{RunsFresh, numbers_handed}
use Rattle.moka_run.specs.declared.report.Report.{Report}
use Rattle.moka_run.proofs.answers.run_fresh.Goals as goal

pub returns : goal.returns
returns c =
    let rules = c.rules.result in
    let first = fresh ℕ ℕ ℕ (the_division ℕ) rules c.args.log (numbers_handed c.args.settings.seed) in
    let reached : IsReached nat_eq first = record {
      division = the_division ℕ;
      divides = record { some = omega arith; few = omega arith; part = λ q. omega arith; alike = λ a b e. refl };
      rules = rules;
      size = c.args.log;
      handed = numbers_handed c.args.settings.seed;
      has_log = c.requires.least;
      events = [];
      replies = [];
      run = refl;
    } in
    let ran = c.in_ok-replies.ensures first c.in_ok-machine.ensures.fresh reached in
    subst (λ (r : Report ℕ ℕ ℕ). RunsFresh c.args.settings c.args.log c.args.events.items r) (sym c.report_of.ensures)
    (record {
      rules = rules;
      ruled = c.rules.ensures;
      final = ran.final;
      run = ran.run;
      reports = c.in_ok-lists.ensures ran.final ran.stands;
      reached = c.reached_by_lawful_run.ensures.reached first ran.final _ _ reached ran.run;
    })
