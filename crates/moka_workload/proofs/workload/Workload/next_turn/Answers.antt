-- The word drawn is the turn's, and the calls are counted on.
use Rattle.std.proofs.Common.{◌≡◌, ◌+◌, ◌++◌, ap, ◌∙◌, subst, sym}
use Rattle.moka_workload.specs.Turns.{events_in}
use Rattle.moka_workload.specs.Workload.{workload}
use Rattle.moka_workload.proofs.Workloads.{goes_next, turn_next, workload_next}
use Rattle.moka_workload.proofs.workload.Workload.next_turn.Goals as goal

pub invariant_of-self : goal.invariant_of-self
invariant_of-self c =
    let w = c.self.inside in
    goes_next w.seed w.turns c.next_word-word.result w.call c.calls.result w.words
    c.next_word-word.new.self c.by-turn.result c.self.invariant c.next_word-word.ensures
    c.by-turn.ensures c.calls.ensures.started c.calls.ensures.few

pub returns-clause-goes_on : goal.returns-clause-goes_on
returns-clause-goes_on c =
    let w = c.self.inside in
    let is = c.by-turn.ensures
    ∙ turn_next w.seed w.turns c.next_word-word.result w.call w.words
    c.next_word-word.new.self c.self.invariant c.next_word-word.ensures
    in
    let next = workload_next w.turns w.seed
    ∙ ap (λ t. workload w.turns w.seed ++ events_in t) (sym is)
    in
    subst (λ m. workload (w.turns + 1) w.seed ≡ workload m.turns m.seed ++ events_in c.by-turn.result)
    c.self.view_is next
