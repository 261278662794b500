-- Numbers in lists, and maps over numbers with one place changed.
use Rattle.std.proofs.Common.{◌≢◌, Some, None, ◌≡◌, ℕ, ◌+◌, ◌==◌, Bool, true, false, cond, List, [], ◌∷◌, ◌++◌, refl, sym, ap, ◌∙◌, arith}
use Rattle.std.proofs.lemmas.Bool.{eqb-true, eq-eqb, false≢true}
use Rattle.moka_hist.specs.Finite.{times, put_at}

pub none_some : {A : Type 0} {x : A} → None ≡ Some x → ⊥
none_some e = cc

pub some_same : {A : Type 0} {x y : A} → Some x ≡ Some y → x ≡ y
some_same e = cc

pub same_number : (n : ℕ) → (n == n) ≡ true
same_number n = eq-eqb n n refl

pub other_number : (n m : ℕ) → (n == m) ≡ false → (m == n) ≡ false
other_number n m h = by (m == n) refl
  where
    by : (b : Bool) → (m == n) ≡ b → b ≡ false
    by true e = absurd (false≢true (sym h ∙ eq-eqb n m (sym (eqb-true m n e))))
    by false e = refl

pub differ : (n m : ℕ) → n ≢ m → (n == m) ≡ false
differ n m h = by (n == m) refl
  where
    by : (b : Bool) → (n == m) ≡ b → b ≡ false
    by true e = absurd (h (eqb-true n m e))
    by false e = refl

pub differ_not : (n m : ℕ) → (n == m) ≡ false → n ≢ m
differ_not n m h e = false≢true (sym h ∙ eq-eqb n m e)

-- what a map has once something was put at a number: that there, and elsewhere what it had
pub put_cases : {A : Type 0} (f : ℕ → A) (n : ℕ) (v : A) (m : ℕ) (a : A) (P : Type 0) → put_at f n v m ≡ a → (n ≡ m → v ≡ a → P) →
    ((n == m) ≡ false → f m ≡ a → P) → P
put_cases f n v m a P e here there = by (n == m) refl e
  where
    by : (b : Bool) → (n == m) ≡ b → cond b v (f m) ≡ a → P
    by true h e = here (eqb-true n m h) e
    by false h e = there h e

pub put_here : {A : Type 0} (f : ℕ → A) (n : ℕ) (v : A) → put_at f n v n ≡ v
put_here f n v = ap (λ b. cond b v (f n)) (same_number n)

pub put_there : {A : Type 0} (f : ℕ → A) (n : ℕ) (v : A) (m : ℕ) → (n == m) ≡ false → put_at f n v m ≡ f m
put_there f n v m h = ap (λ b. cond b v (f m)) h

-- how often a number stands in a list that begins with it, or with another
pub times_same : (n : ℕ) (xs : List ℕ) → times n (n ∷ xs) ≡ times n xs + 1
times_same n xs = ap (λ b. cond b (times n xs + 1) (times n xs)) (same_number n)

pub times_other : (n m : ℕ) (xs : List ℕ) → (n == m) ≡ false → times m (n ∷ xs) ≡ times m xs
times_other n m xs h = ap (λ b. cond b (times m xs + 1) (times m xs)) (other_number n m h)

-- two lists one after the other
pub times_append : (n : ℕ) (xs ys : List ℕ) → times n (xs ++ ys) ≡ times n xs + times n ys
times_append n [] ys = omega arith
times_append n (x ∷ xs) ys = by (n == x) (times_append n xs ys)
  where
    by : (b : Bool) → times n (xs ++ ys) ≡ times n xs + times n ys →
        cond b (times n (xs ++ ys) + 1) (times n (xs ++ ys)) ≡ cond b (times n xs + 1) (times n xs) + times n ys
    by true e = omega arith
    by false e = e
