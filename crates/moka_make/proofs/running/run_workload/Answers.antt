-- No turn has run, and then one more.
use Rattle.std.proofs.Common.{◌≡◌, ℕ, ◌+◌, List, ◌++◌, sym, ap, ◌∙◌, subst, arith}
use Rattle.moka_hist.specs.declared.events.Event.{Event}
use Rattle.moka_workload.specs.Made.{Made}
use Rattle.moka_workload.specs.Turns.{events_in}
use Rattle.moka_workload.specs.Workload.{workload}
use Rattle.moka_workload.proofs.Workloads.{workload_none}
use Rattle.moka_make.specs.Running.{Ran}
use Rattle.moka_make.proofs.Runs.{ran_none}
use Rattle.moka_make.proofs.running.run_workload.Goals as goal

pub loop-init : goal.loop-init
loop-init c = record {
  made = c.new-made.ensures;
  valid = c.requires.valid;
  few = omega (arith, ap (λ t. t.events) c.new-replies.ensures);
  ran = λ first stands reached.
      ran_none first (workload 0 c.args.seed) c.new-replies.result c.args.cache.now
      (workload_none c.args.seed) c.new-replies.ensures stands reached;
}

pub loop-preserved : goal.loop-preserved
loop-preserved c =
    let i = c.loop.counter in
    let seed = c.args.seed in
    let was : c.loop.made ≡ record { seed = seed; turns = i } = c.loop.invariant.made in
    let is : c.next_turn.new.self ≡ record { seed = seed; turns = i + 1 } =
    c.next_turn.ensures.made ∙ ap (λ (m : Made). record m { turns = m.turns + 1 }) was
    in
    record {
      made = is;
      valid = c.in_ok-run_turn.ensures.valid;
      few = omega (arith, c.in_ok-run_turn.ensures.few, c.loop.invariant.few);
      ran = λ first stands reached.
          let next : workload i seed ++ events_in c.next_turn.result ≡ workload (i + 1) seed =
          sym (ap (λ (m : Made). workload m.turns m.seed ++ events_in c.next_turn.result) was)
          ∙ sym c.next_turn.ensures.goes_on ∙ ap (λ (m : Made). workload m.turns m.seed) is
          in
          subst (λ (es : List (Event ℕ ℕ ℕ)). Ran first es c.run_turn.new.replies c.run_turn.new.cache)
          next
          (c.in_ok-run_turn.ensures.goes_on first (workload i seed) (c.loop.invariant.ran first stands reached));
    }

pub returns : goal.returns
returns c = λ first stands reached.
    let all : c.loop.counter ≡ c.args.turns = omega (arith, c.loop.auto.counter-end, c.loop-test.false) in
    subst (λ n. Ran first (workload n c.args.seed) c.loop.replies c.loop.cache) all
    (c.loop.invariant.ran first stands reached)
