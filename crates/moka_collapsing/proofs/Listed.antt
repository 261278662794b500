-- Lists of requests that wait.
use Rattle.std.proofs.Common.{◌≡◌, ◌≢◌, ℕ, ◌<◌, ◌==◌, Bool, true, false, cond, List, [], ◌∷◌, ◌++◌, drop, Some, None, refl, sym, ap, ◌∙◌, subst, arith, nat_lt}
use Rattle.std.specs.Cmp.{unsigned_tied}
use Rattle.std.specs.Ordering.{nat_cmp, match_ordering}
use Rattle.std.specs.declared.cmp.Ordering.TheVariants.{Less, Equal, Greater}
use Rattle.std.specs.BTreeMap.{insert_entry, is_at}
use borrow.Author.Tests.{eqb-true, ltb-true}
use Rattle.moka_laws.proofs.Counting.{none_some, same_number, differ, differ_not}
use Rattle.moka_collapsing.specs.declared.slot.Place.{Place}
use Rattle.moka_collapsing.specs.Upstream.{Waiter, without}
use Rattle.moka_collapsing.specs.Waiting.{place_of}
use Rattle.moka_collapsing.specs.Standing.{AreDistinct, Each}

abbrev pub hits : ℕ → ℕ → Bool
hits number other = is_at (nat_cmp number) other

pub hit : (n m : ℕ) → hits n m ≡ true → n ≡ m
hit n m e = eqb-true n m (sym (unsigned_tied n m) ∙ e)

pub hit_self : (n : ℕ) → hits n n ≡ true
hit_self n = unsigned_tied n n ∙ same_number n

pub miss : (n m : ℕ) → n ≢ m → hits n m ≡ false
miss n m other = unsigned_tied n m ∙ differ n m other

pub missed : (n m : ℕ) → hits n m ≡ false → n ≢ m
missed n m e = differ_not n m (sym (unsigned_tied n m) ∙ e)

-- ---- of each

pub each_map : (P Q : Waiter → Type 0) → ((w : Waiter) → P w → Q w) → (ws : List Waiter) → Each P ws → Each Q ws
each_map P Q f [] h = tt
each_map P Q f (w ∷ ws) h = (f w h.0, each_map P Q f ws h.1)

pub each_both : (P Q R : Waiter → Type 0) → ((w : Waiter) → P w → Q w → R w) → (ws : List Waiter) → Each P ws → Each Q ws → Each R ws
each_both P Q R f [] h k = tt
each_both P Q R f (w ∷ ws) h k = (f w h.0 k.0, each_both P Q R f ws h.1 k.1)

pub each_append : (P : Waiter → Type 0) (ws : List Waiter) (w : Waiter) → Each P ws → P w → Each P (ws ++ w ∷ [])
each_append P [] w h p = (p, tt)
each_append P (v ∷ ws) w h p = (h.0, each_append P ws w h.1 p)

pub each_without : (P : Waiter → Type 0) (n : ℕ) (ws : List Waiter) → Each P ws → Each P (without n ws)
each_without P n [] h = tt
each_without P n (w ∷ ws) h = elim (hits n w.0) as (λ t. Each P (cond t ws (w ∷ without n ws))) [
  | true ↦ h.1
  | false ↦ (h.0, each_without P n ws h.1)
]

pub each_drop : (P : Waiter → Type 0) (ws : List Waiter) → Each P ws → Each P (drop 1 ws)
each_drop P [] h = tt
each_drop P (w ∷ ws) h = h.1

pub each_found : (P : ℕ → Type 0) (n : ℕ) (p : Place) (ws : List Waiter) → Each (λ w. P w.0) ws → place_of ws n ≡ Some p → P n
each_found P n p [] h e = absurd (none_some e)
each_found P n p (w ∷ ws) h e = by (hits n w.0) refl e (each_found P n p ws h.1)
  where
    by : (t : Bool) → hits n w.0 ≡ t → cond t (Some w.1) (place_of ws n) ≡ Some p → (place_of ws n ≡ Some p → P n) → P n
    by true is found rest = subst P (sym (hit n w.0 is)) h.0
    by false is found rest = rest found

-- ---- distinct numbers

pub distinct_append : (ws : List Waiter) (w : Waiter) → AreDistinct ws → Each (λ other. other.0 ≢ w.0) ws → AreDistinct (ws ++ w ∷ [])
distinct_append [] w h k = (tt, tt)
distinct_append (v ∷ ws) w h k =
    (each_append (λ other. other.0 ≢ v.0) ws w h.0 (λ e. k.0 (sym e)), distinct_append ws w h.1 k.1)

pub distinct_without : (n : ℕ) (ws : List Waiter) → AreDistinct ws → AreDistinct (without n ws)
distinct_without n [] h = tt
distinct_without n (w ∷ ws) h = elim (hits n w.0) as (λ t. AreDistinct (cond t ws (w ∷ without n ws))) [
  | true ↦ h.1
  | false ↦ (each_without (λ other. other.0 ≢ w.0) n ws h.0, distinct_without n ws h.1)
]

-- nobody else has the number of the one that has left
pub others_without : (n : ℕ) (ws : List Waiter) → AreDistinct ws → Each (λ other. other.0 ≢ n) (without n ws)
others_without n [] h = tt
others_without n (w ∷ ws) h = by (hits n w.0) refl (others_without n ws h.1)
  where
    by : (t : Bool) → hits n w.0 ≡ t → Each (λ other. other.0 ≢ n) (without n ws) → Each (λ other. other.0 ≢ n) (cond t ws (w ∷ without n ws))
    by true is rest = each_map (λ other. other.0 ≢ w.0) (λ other. other.0 ≢ n) (λ v other e. other (e ∙ hit n w.0 is)) ws h.0
    by false is rest = (λ e. missed n w.0 is (sym e), rest)

-- ---- looking one up

pub found_without : (n q : ℕ) (p : Place) (ws : List Waiter) → q ≢ n → place_of ws q ≡ Some p → place_of (without n ws) q ≡ Some p
found_without n q p [] other e = e
found_without n q p (w ∷ ws) other e = by (hits n w.0) refl (found_without n q p ws other)
  where
    past : (t : Bool) → hits q w.0 ≡ t → hits n w.0 ≡ true → cond t (Some w.1) (place_of ws q) ≡ Some p → place_of ws q ≡ Some p
    past true is here found = absurd (other (hit q w.0 is ∙ sym (hit n w.0 here)))
    past false is here found = found

    on : (t : Bool) → (place_of ws q ≡ Some p → place_of (without n ws) q ≡ Some p) → cond t (Some w.1) (place_of ws q) ≡ Some p → cond t (Some w.1) (place_of (without n ws) q) ≡ Some p
    on true rest found = found
    on false rest found = rest found

    by : (t : Bool) → hits n w.0 ≡ t → (place_of ws q ≡ Some p → place_of (without n ws) q ≡ Some p) → place_of (cond t ws (w ∷ without n ws)) q ≡ Some p
    by true is rest = past (hits q w.0) refl is e
    by false is rest = on (hits q w.0) rest e

pub found_append : (ws : List Waiter) (w : Waiter) (q : ℕ) (p : Place) → place_of ws q ≡ Some p → place_of (ws ++ w ∷ []) q ≡ Some p
found_append [] w q p e = absurd (none_some e)
found_append (v ∷ ws) w q p e = by (hits q v.0) (found_append ws w q p) e
  where
    by : (t : Bool) → (place_of ws q ≡ Some p → place_of (ws ++ w ∷ []) q ≡ Some p) → cond t (Some v.1) (place_of ws q) ≡ Some p → cond t (Some v.1) (place_of (ws ++ w ∷ []) q) ≡ Some p
    by true rest found = found
    by false rest found = rest found

pub found_last : (ws : List Waiter) (n : ℕ) (p : Place) → Each (λ other. other.0 ≢ n) ws → place_of (ws ++ (n, p) ∷ []) n ≡ Some p
found_last [] n p h = ap (λ t. cond t (Some p) None) (hit_self n)
found_last (v ∷ ws) n p h =
    ap (λ t. cond t (Some v.1) (place_of (ws ++ (n, p) ∷ []) n)) (miss n v.0 (λ e. h.0 (sym e))) ∙ found_last ws n p h.1

-- the greatest number comes last
pub insert_last : (ws : List Waiter) (n : ℕ) (p : Place) → Each (λ w. w.0 < n) ws → insert_entry nat_cmp ws n p ≡ ws ++ (n, p) ∷ []
insert_last [] n p h = refl
insert_last (w ∷ ws) n p h = by (nat_lt n w.0) refl (n == w.0) refl (insert_last ws n p h.1)
  where
    by : (t : Bool) → nat_lt n w.0 ≡ t → (s : Bool) → (n == w.0) ≡ s → insert_entry nat_cmp ws n p ≡ ws ++ (n, p) ∷ [] →
        match_ordering (cond t Less (cond s Equal Greater)) ((n, p) ∷ w ∷ ws) ((w.0, p) ∷ ws) (w ∷ insert_entry nat_cmp ws n p) ≡ w ∷ (ws ++ (n, p) ∷ [])
    by true e s f rest = absurd (omega (arith, h.0, ltb-true n w.0 e))
    by false e true f rest = absurd (omega (arith, h.0, eqb-true n w.0 f))
    by false e false f rest = ap (λ l. w ∷ l) rest
