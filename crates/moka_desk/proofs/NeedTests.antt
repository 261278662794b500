-- A test of what is known to be needed is one of the need.
use Rattle.std.proofs.Common.{◌≡◌, ℕ, ◌||◌, Bool, sym, subst}
use Rattle.std.specs.declared.cmp.PartialEq as PartialEq
use Rattle.std.specs.declared.hash.Hash as Hash
use Rattle.std.specs.declared.hash.Hasher as Hasher
use Rattle.std.specs.declared.hash.BuildHasher as BuildHasher
use Rattle.moka_hist.specs.State.{DeskPart}
use Rattle.moka_needs.specs.declared.needs.Need.{Need}
use Rattle.moka_desk.specs.History.{keeps_history}
use Rattle.moka_desk.specs.Meets.{Meets, Tests, is_recalled}
use Rattle.moka_desk.specs.Past.{AllowsAlike}
use Rattle.moka_desk.specs.declared.state.Desk.{Desk}

module _ {K V E S H : Type 0} {same : PartialEq.Ghosts K} {hash : Hash.Ghosts K} {build : BuildHasher.Ghosts S H} {hasher : Hasher.Ghosts H} (eq : K → K → Bool) (desk : Desk K V E S H same hash build hasher) (w : DeskPart K V E) (call : ℕ) (answer : Bool) where
  pub tests_as : (need known : Need K) → need ≡ known
      → Tests (is_recalled known || keeps_history desk) answer (Meets w call known) (AllowsAlike eq desk w (λ v. Meets v call known))
      → Tests (is_recalled need || keeps_history desk) answer (Meets w call need) (AllowsAlike eq desk w (λ v. Meets v call need))
  tests_as need known is = subst (λ n. Tests (is_recalled n || keeps_history desk) answer (Meets w call n) (AllowsAlike eq desk w (λ v. Meets v call n))) (sym is)
