-- The sort is by the key.
use Rattle.std.proofs.Common.{ℕ, rules}
use Rattle.std.proofs.lemmas.List.Sorted.{answers_always}
use Rattle.moka_hist.specs.declared.records.Stored.{Stored}
use Rattle.moka_run.proofs.answers.sorted.Goals as goal

pub returns-clause-ascending : goal.returns-clause-ascending
returns-clause-ascending c =
    c.sort_unstable_by_key.ensures.sorted (λ (e : ℕ × Stored ℕ). e.0) (answers_always _ _ _ (λ f a r k q. search rules))
