-- What the layers were handed with their rules, and what of its ids is still to be drawn.
use Rattle.std.specs.Prelude.{◌≡◌, ℕ, ◌+◌}
use Rattle.moka_hist.specs.State.{DeskPart, Handed}
use Rattle.moka_hist.specs.declared.record_tests.Tests as Tests
use Rattle.moka_ids.specs.Drawn.{ids_from}
use Rattle.moka_ids.specs.declared.pcg_ids.PcgIds.{PcgIds}

-- the ids to come, by number
abbrev pub ids_of : PcgIds → ℕ → ℕ
ids_of ids = ids_from ids.words

-- what these tests and predicates answer, and these ids
abbrev pub handed_by : {K V Q : Type 0} → Tests.Ghosts Q K V → Q → (ℕ → ℕ) → Handed K V
handed_by q tests ids =
    record { tests = q.answers tests; predicates = q.hides tests; ids = ids }

-- what the desk's part was handed, of the ids those that it has still to draw
abbrev pub handed_to : {K V E : Type 0} → DeskPart K V E → Handed K V
handed_to w =
    record { tests = w.tests; predicates = w.predicates; ids = λ n. w.ids (w.drawn + n) }

-- The tests and the predicates answer alike, and the ids are the same.
pub record HandedAlike {K V : Type 0} (a b : Handed K V) : Type 0 where
  pub tests : a.tests ≡ b.tests
  pub predicates : a.predicates ≡ b.predicates
  pub ids : (n : ℕ) → a.ids n ≡ b.ids n

-- these are handed as the desk's part was
abbrev pub IsHanded : {K V E : Type 0} → Handed K V → DeskPart K V E → Type 0
IsHanded handed w = HandedAlike handed (handed_to w)
