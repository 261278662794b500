-- Entries in one order after another.
use Rattle.std.proofs.Common.{Bool, ◌∙◌}
use Rattle.std.proofs.lemmas.List.Sorted.{IsPermutation-trans}
use Rattle.std.specs.HashMap as map
use Rattle.std.specs.HashSet as set

-- entries of a map that are moved twice are the same
pub map_twice : {K X S : Type 0} (eq : K → K → Bool) (m n o : map.HashMap K X S) →
    map.IsReordered eq m n → map.IsReordered eq n o → map.IsReordered eq m o
map_twice eq m n o first then =
    (IsPermutation-trans _ _ _ first.0 then.0, then.1 ∙ first.1, λ q. then.2 q ∙ first.2 q)

-- keys of a set that are moved twice are the same
pub set_twice : {K S : Type 0} (eq : K → K → Bool) (s t u : set.HashSet K S) →
    set.IsReordered eq s t → set.IsReordered eq t u → set.IsReordered eq s u
set_twice eq s t u first then =
    (IsPermutation-trans _ _ _ first.0 then.0, then.1 ∙ first.1, λ q. then.2 q ∙ first.2 q)
