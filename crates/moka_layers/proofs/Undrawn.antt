-- Before an id was drawn the ids to come are all of them.
use Rattle.std.proofs.Common.{◌≡◌, ℕ, ◌+◌, sym, ap, ◌∙◌, zero-add}
use Rattle.rand_pcg.specs.Lcg.{Lcg}
use Rattle.moka_ids.specs.Drawn.{ids_from}
use Rattle.moka_ids.specs.declared.pcg_ids.PcgIds.{PcgIds}
use Rattle.moka_layers.specs.Handing.{ids_of}

pub undrawn : (words : Lcg) (ids : PcgIds) → ids.words ≡ words → (n : ℕ) → ids_of ids n ≡ ids_from words (0 + n)
undrawn words ids is n = ap (λ these. ids_from these n) is ∙ ap (ids_from words) (sym (zero-add n))
