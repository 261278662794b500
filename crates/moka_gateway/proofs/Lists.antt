-- The lists of those that wait, as requests leave them.
use Rattle.std.proofs.Common.{◌≡◌, ℕ, ◌<◌, ◌==◌, Bool, true, false, cond, List, [], ◌∷◌, length, Option, Some, None, is_some, not, refl, sym, ap, ◌∙◌, arith}
use Rattle.std.proofs.lemmas.Bool.{false≢true}
use Rattle.std.specs.Option.{option_map, option_and_then, option_map_or}
use Rattle.moka_laws.proofs.Counting.{differ, same_number}
use Rattle.moka_hist.specs.Finite.{put_at}
use Rattle.moka_collapsing.specs.Standing.{Cache, Serves, requests_on}
use Rattle.moka_collapsing.specs.Upstream.{Upstream, Waiter, is_left}
use Rattle.moka_collapsing.specs.Waiting.{Waiting, is_left_empty, less_waiter, without_waiter}

-- ---- the request left, and its list ends where it is left empty

module _ (f g : ℕ → Option Waiting) (key number : ℕ) (on : (k : ℕ) → g k ≡ put_at f key (option_map (less_waiter number) (f key)) k) where
  at_key : g key ≡ option_map (less_waiter number) (f key)
  at_key = on key ∙ here (key == key) refl
    where
      here : (b : Bool) → (key == key) ≡ b → cond b (option_map (less_waiter number) (f key)) (f key) ≡ option_map (less_waiter number) (f key)
      here true e = refl
      here false e = absurd (false≢true (sym e ∙ same_number key))

  by_list : (x : Option Waiting) (b : Bool) → option_map_or is_left_empty (option_map (less_waiter number) x) false ≡ b →
      cond b None (option_map (less_waiter number) x) ≡ option_and_then (without_waiter number) x
  by_list None true e = refl
  by_list None false e = refl
  by_list (Some w) b e = ap (λ t. cond t None (Some (less_waiter number w))) (sym e)

  -- nobody is left
  pub taken_left : (h : ℕ → Option Waiting) → option_map_or is_left_empty (g key) false ≡ true → ((k : ℕ) → h k ≡ put_at g key None k) →
      (k : ℕ) → h k ≡ put_at f key (option_and_then (without_waiter number) (f key)) k
  taken_left h left off k = off k ∙ by (key == k) (on k)
    where
      gone : None ≡ option_and_then (without_waiter number) (f key)
      gone = by_list (f key) true (sym (ap (λ x. option_map_or is_left_empty x false) at_key) ∙ left)

      by : (b : Bool) → g k ≡ cond b (option_map (less_waiter number) (f key)) (f k) → cond b None (g k) ≡ cond b (option_and_then (without_waiter number) (f key)) (f k)
      by true e = gone
      by false e = e

  -- somebody is, or there was no list
  pub taken_stays : option_map_or is_left_empty (g key) false ≡ false →
      (k : ℕ) → g k ≡ put_at f key (option_and_then (without_waiter number) (f key)) k
  taken_stays left k = on k ∙ ap (λ x. put_at f key x k) (by_list (f key) false (sym (ap (λ x. option_map_or is_left_empty x false) at_key) ∙ left))

-- ---- whether a list is there

pub open_is : (m : Cache) (lists : ℕ → Option Waiting) (u : Upstream) → Serves m lists u → (key : ℕ) → is_some (lists key) ≡ not (is_left u key)
open_is m lists u serves key = by (lists key) refl ∙ ap (λ x. not (length x == 0)) (serves.waiting key)
  where
    some_not : (ws : List Waiter) → 0 < length ws → true ≡ not (length ws == 0)
    some_not [] h = absurd (omega (arith, h))
    some_not (w ∷ ws) h = sym (ap not (differ (length (w ∷ ws)) 0 (λ e. omega (arith, h, e))))

    by : (x : Option Waiting) → lists key ≡ x → is_some x ≡ not (length (requests_on (lists key)) == 0)
    by None e = ap (λ x. not (length (requests_on x) == 0)) (sym e)
    by (Some w) e = some_not w.requests (serves.listed key w e).some ∙ ap (λ x. not (length (requests_on x) == 0)) (sym e)
