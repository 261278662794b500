-- The summary of a run, and of what stands after it.
use Rattle.std.proofs.Common.{ℕ, None, nat_eq, refl, ap, ◌∙◌, arith, []}
use Rattle.std.specs.declared.cmp.PartialEq as PartialEq
use Rattle.std.specs.declared.hash.Hash as Hash
use Rattle.moka_hist.specs.Run.{IsReached}
use Rattle.moka_hist.specs.Settings.{AreRulesOf}
use Rattle.moka_hist.specs.State.{State, fresh}
use Rattle.moka_hist.specs.declared.rules.Rules.{Rules}
use Rattle.moka_machine.specs.Listed.{tests_in}
use Rattle.moka_machine.specs.TheTable.{the_division}
use Rattle.moka_machine.specs.declared.machine.Machine.{Machine}
use Rattle.moka_machine.specs.declared.number_tests.NumberTests.{NumberTests}
use Rattle.moka_run.specs.Playing.{numbers_handed}
use Rattle.moka_summary.specs.Counts.{Counts}
use Rattle.moka_summary.specs.declared.summary.Summary.{Summary}
use Rattle.moka_workload.specs.Workload.{workload}
use Rattle.moka_make.specs.Running.{Ran}
use Rattle.moka_make.specs.Summing.{IsSummary, Sums, made_log, made_on, summed}

-- the fresh state of these rules
abbrev pub made_first : Rules → State ℕ ℕ ℕ
made_first rules = fresh ℕ ℕ ℕ (the_division ℕ) rules made_log (numbers_handed None)

-- no event has to reach it
pub first_reached : (rules : Rules) → IsReached nat_eq (made_first rules)
first_reached rules = record {
  division = the_division ℕ;
  divides = record { some = omega arith; few = omega arith; part = λ q. omega arith; alike = λ a b e. refl };
  rules = rules;
  size = made_log;
  handed = numbers_handed None;
  has_log = omega arith;
  events = [];
  replies = [];
  run = refl;
}

-- a run of the workload is summed up
pub summed_up : {same : PartialEq.Ghosts ℕ} {hash : Hash.Ghosts ℕ} (turns seed : ℕ) (rules : Rules)
    (replies : Counts) (cache : Machine ℕ ℕ ℕ NumberTests same hash) (summary : Summary)
    → AreRulesOf made_on rules
    → (ran : Ran (made_first rules) (workload turns seed) replies cache)
    → Sums turns replies ran.final summary → IsSummary turns seed summary
summed_up turns seed rules replies cache summary ruled ran sums = record {
  report = record {
    replies = ran.replies;
    entries = sums.entries;
    places = sums.places;
    notices = sums.notices;
    tests = tests_in ran.final.world.desk;
  };
  runs = record {
    rules = rules;
    ruled = ruled;
    final = ran.final;
    run = ran.run;
    reports = sums.reports;
    reached = ran.reached;
  };
  is = sums.is ∙ ap (λ counts. summed turns counts sums.entries sums.places sums.notices) ran.counted;
}
