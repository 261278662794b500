-- A gateway to which nothing has come, and a list of which all were answered.
use Rattle.std.proofs.Common.{◌≡◌, ◌<◌, ℕ, List, [], ◌∷◌, ◌++◌, length, map, Option, None, refl, sym, ap, ◌∙◌, append-nil, arith}
use Rattle.std.proofs.lemmas.Option.{none-some}
use Rattle.moka_small.specs.Small.{empty}
use Rattle.moka_collapsing.specs.declared.slot.Given.{Given}
use Rattle.moka_collapsing.specs.Standing.{Serves, requests_on}
use Rattle.moka_collapsing.specs.Upstream.{Waiter, no_requests}
use Rattle.moka_collapsing.specs.Waiting.{Waiting}

-- an empty cache serves no lists
pub serves_none : (lists : ℕ → Option Waiting) → ((k : ℕ) → lists k ≡ None) → Serves (empty None) lists no_requests
serves_none lists none = record {
  stored = λ key. refl;
  last = refl;
  waiting = λ key. ap requests_on (none key);
  listed = λ key w on. absurd (none-some w (sym (none key) ∙ on));
  only = λ n stand on. absurd (none-some stand on);
}

-- nobody is left
pub nobody_left : (ws : List Waiter) → (0 < length ws → ⊥) → ws ≡ []
nobody_left [] h = refl
nobody_left (w ∷ ws) h = absurd (h (omega arith))

-- what was given before is all
pub all_given : (f : Waiter → Given) (ws : List Waiter) (g whole : List Given) → ws ≡ [] → g ++ map f ws ≡ whole → g ≡ whole
all_given f ws g whole none is = sym (append-nil g) ∙ ap (λ l. g ++ map f l) (sym none) ∙ is
