-- A look-up by equal keys.
use Rattle.std.proofs.Common.{◌≡◌, Bool, true}
use Rattle.std.specs.Cmp.{IsEquivalence}
use Rattle.std.specs.HashMap.{HashMap, get, get_by}

-- equal keys have one value
pub same_at : {K X S : Type 0} (eq : K → K → Bool) → IsEquivalence eq → (m : HashMap K X S) (l k : K) → eq l k ≡ true → get eq m l ≡ get eq m k
same_at eq laws m l k same = λ i. get_by (λ x. laws.congr l k x same i) m
