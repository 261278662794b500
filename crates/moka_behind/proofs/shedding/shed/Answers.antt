-- The pairs that are listed are all that there are.
use Rattle.std.proofs.Common.{sym, subst, ℕ, List, ◌∙◌}
use Rattle.moka_hist.specs.declared.records.Stored.{Stored}
use Rattle.moka_behind.specs.Evicting.{HoldsPairs}
use Rattle.moka_behind.proofs.Evictions.{counts}
use Rattle.moka_behind.proofs.shedding.shed.Goals as goal

pub evict_all-requires : goal.evict_all-requires
evict_all-requires c =
    let h = c.requires.1 in
    subst (λ (es : List (ℕ × Stored ℕ)). HoldsPairs c.args.pairs.now es) (sym c.as_slice.ensures)
    (record { small = h.small; stands = h.stands; idle = h.such; lists = c.in_ok-entries.ensures.listed h.small h.stands })

pub returns-clause-count : goal.returns-clause-count
returns-clause-count c = λ ps h keys distinct same.
    c.len.ensures ∙ counts h.small ps c.in_ok-entries.entries h.values (c.in_ok-entries.ensures.listed h.small h.stands) keys distinct same
