-- Sums over the numbers up to a greatest.
use Rattle.std.proofs.Common.{add-one, ◌≡◌, ℕ, zero, suc, ◌+◌, ◌<◌, ◌≤◌, ◌==◌, Bool, true, false, refl, sym, subst, arith}
use Rattle.std.proofs.lemmas.Bool.{eqb-true}
use Rattle.moka_laws.proofs.Counting.{differ, differ_not}

-- f 0 + .. + f k
pub sum_to : ℕ → (ℕ → ℕ) → ℕ
sum_to zero f = f 0
sum_to (suc k) f = sum_to k f + f (suc k)

pub sum_zero : (f : ℕ → ℕ) → sum_to 0 f ≡ f 0
unfolding sum_to
sum_zero f = refl

pub sum_next : (k : ℕ) (f : ℕ → ℕ) → sum_to (k + 1) f ≡ sum_to k f + f (k + 1)
unfolding sum_to
sum_next k f = rw add-one refl

pub sum_suc : (k : ℕ) (f : ℕ → ℕ) → sum_to (suc k) f ≡ sum_to k f + f (suc k)
unfolding sum_to
sum_suc k f = refl

-- sums of what is the same are the same
pub sum_same : (k : ℕ) (f g : ℕ → ℕ) → ((m : ℕ) → m ≤ k → g m ≡ f m) → sum_to k g ≡ sum_to k f
unfolding sum_to
sum_same zero f g h = h 0 (omega arith)
sum_same (suc k) f g h =
    let below = sum_same k f g (λ m l. h m (omega arith)) in
    let here = h (suc k) (omega arith) in
    omega arith

-- a sum changes by what changes at one number
pub sum_change : (k : ℕ) (f g : ℕ → ℕ) (n : ℕ) → n ≤ k → ((m : ℕ) → (n == m) ≡ false → g m ≡ f m) → sum_to k g + f n ≡ sum_to k f + g n
unfolding sum_to
sum_change zero f g n l h = let e : n ≡ 0 = omega arith in subst (λ v. g 0 + f v ≡ f 0 + g v) (sym e) (omega arith)
sum_change (suc k) f g n l h = by (n == suc k) refl (λ below. sum_change k f g n below h)
  where
    by : (b : Bool) → (n == suc k) ≡ b → (n ≤ k → sum_to k g + f n ≡ sum_to k f + g n) →
        sum_to k g + g (suc k) + f n ≡ sum_to k f + f (suc k) + g n
    by true e below =
        let is = eqb-true n (suc k) e in
        let same = sum_same k f g (λ m small. h m (differ n m (omega arith))) in
        subst (λ v. sum_to k g + g (suc k) + f v ≡ sum_to k f + f (suc k) + g v) (sym is) (omega arith)
    by false e below =
        let not = differ_not n (suc k) e in
        let old = below (omega arith) in
        let here = h (suc k) e in
        omega arith

-- each number's part is within the sum, and that of two numbers is
pub sum_holds : (k : ℕ) (f : ℕ → ℕ) (n : ℕ) → n ≤ k → f n ≤ sum_to k f
unfolding sum_to
sum_holds zero f n l = let e : n ≡ 0 = omega arith in subst (λ v. f v ≤ f 0) (sym e) (omega arith)
sum_holds (suc k) f n l = by (n == suc k) refl (λ below. sum_holds k f n below)
  where
    by : (b : Bool) → (n == suc k) ≡ b → (n ≤ k → f n ≤ sum_to k f) → f n ≤ sum_to k f + f (suc k)
    by true e below = subst (λ v. f v ≤ sum_to k f + f (suc k)) (sym (eqb-true n (suc k) e)) (omega arith)
    by false e below = let not = differ_not n (suc k) e in let old = below (omega arith) in omega arith

pub sum_holds_two : (k : ℕ) (f : ℕ → ℕ) (n m : ℕ) → n ≤ k → m ≤ k → n < m → f n + f m ≤ sum_to k f
unfolding sum_to
sum_holds_two zero f n m ln lm less = absurd (omega arith)
sum_holds_two (suc k) f n m ln lm less = by (m == suc k) refl (sum_holds k f n (omega arith))
    (λ below. sum_holds_two k f n m (omega arith) below less)
  where
    by : (b : Bool) → (m == suc k) ≡ b → f n ≤ sum_to k f → (m ≤ k → f n + f m ≤ sum_to k f) → f n + f m ≤ sum_to k f + f (suc k)
    by true e one below = subst (λ v. f n + f v ≤ sum_to k f + f (suc k)) (sym (eqb-true m (suc k) e)) (omega arith)
    by false e one below = let not = differ_not m (suc k) e in let old = below (omega arith) in omega arith

-- a sum that is not 0 has a part that is not
pub sum_has : (k : ℕ) (f : ℕ → ℕ) → 0 < sum_to k f → (n : ℕ) × (0 < f n)
unfolding sum_to
sum_has zero f h = (0, h)
sum_has (suc k) f h = by (f (suc k)) refl (sum_has k f)
  where
    by : (v : ℕ) → f (suc k) ≡ v → (0 < sum_to k f → (n : ℕ) × (0 < f n)) → (n : ℕ) × (0 < f n)
    by zero e below = below (omega arith)
    by (suc v) e below = (suc k, omega arith)

-- a sum of less is less
pub sum_few : (k : ℕ) (f g : ℕ → ℕ) → ((m : ℕ) → f m ≤ g m) → sum_to k f ≤ sum_to k g
unfolding sum_to
sum_few zero f g h = h 0
sum_few (suc k) f g h = let e = sum_few k f g h in omega (arith, h (suc k))
