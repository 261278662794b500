-- Options, maps over numbers with one place changed, and the greatest number that passes a test.
use Rattle.std.proofs.Common.{◌≡◌, ◌≢◌, ◌≤◌, ℕ, zero, suc, ◌==◌, Bool, true, false, cond, ◌&&◌, Option, Some, None, refl, sym, ap, ◌∙◌, arith}
use Rattle.std.proofs.lemmas.Bool.{eqb-true, eq-eqb, false≢true}
use Rattle.moka_hist.specs.Finite.{put_at}
use Rattle.moka_laws.specs.Readers.{how_many}
use Rattle.moka_small.specs.Polled.{greatest}

pub none_some : {A : Type 0} {x : A} → None ≡ Some x → ⊥
none_some e = cc

pub some_same : {A : Type 0} {x y : A} → Some x ≡ Some y → x ≡ y
some_same e = cc

pub same_number : (n : ℕ) → (n == n) ≡ true
same_number n = eq-eqb n n refl

pub differ_not : (n m : ℕ) → (n == m) ≡ false → n ≢ m
differ_not n m h e = false≢true (sym h ∙ eq-eqb n m e)

pub differ : (n m : ℕ) → n ≢ m → (n == m) ≡ false
differ n m h = by (n == m) refl
  where
    by : (b : Bool) → (n == m) ≡ b → b ≡ false
    by true e = absurd (h (eqb-true n m e))
    by false e = refl

-- what a map has once something was put at a number: that there, and elsewhere what it had
pub put_cases : {A : Type 0} (f : ℕ → A) (n : ℕ) (v : A) (m : ℕ) (a : A) (P : Type 0) → put_at f n v m ≡ a → (n ≡ m → v ≡ a → P) →
    (n ≢ m → f m ≡ a → P) → P
put_cases f n v m a P e here there = by (n == m) refl e
  where
    by : (b : Bool) → (n == m) ≡ b → cond b v (f m) ≡ a → P
    by true h e = here (eqb-true n m h) e
    by false h e = there (differ_not n m h) e

pub put_here : {A : Type 0} (f : ℕ → A) (n : ℕ) (v : A) → put_at f n v n ≡ v
put_here f n v = ap (λ b. cond b v (f n)) (same_number n)

pub put_there : {A : Type 0} (f : ℕ → A) (n : ℕ) (v : A) (m : ℕ) → n ≢ m → put_at f n v m ≡ f m
put_there f n v m h = ap (λ b. cond b v (f m)) (differ n m h)

pub put_holds : {A : Type 0} (f : ℕ → A) (n : ℕ) (v : A) (m : ℕ) (P : A → Type 0) → (n ≡ m → P v) → (n ≢ m → P (f m)) →
    P (put_at f n v m)
put_holds f n v m P here there = by (n == m) refl
  where
    by : (b : Bool) → (n == m) ≡ b → P (cond b v (f m))
    by true h = here (eqb-true n m h)
    by false h = there (differ_not n m h)

-- a map is itself with what it has at a number put there
pub put_same : {A : Type 0} (f : ℕ → A) (n : ℕ) (v : A) → f n ≡ v → put_at f n v ≡ f
put_same f n v e = λ i m. (at m) i
  where
    at : (m : ℕ) → put_at f n v m ≡ f m
    at m = put_holds f n v m (λ x. x ≡ f m) (λ same. sym e ∙ ap f same) (λ other. refl)

-- what was put first is gone
pub put_twice : {A : Type 0} (f : ℕ → A) (n : ℕ) (v w : A) → put_at (put_at f n v) n w ≡ put_at f n w
put_twice f n v w = λ i m. (at m (n == m)) i
  where
    at : (m : ℕ) (b : Bool) → cond b w (cond b v (f m)) ≡ cond b w (f m)
    at m true = refl
    at m false = refl

-- a map of what a changed map has
pub put_mapped : {A B : Type 0} (h : A → B) (f : ℕ → A) (g : ℕ → B) → ((m : ℕ) → h (f m) ≡ g m) → (n : ℕ) (v : A) (w : B) → h v ≡ w →
    (m : ℕ) → h (put_at f n v m) ≡ put_at g n w m
put_mapped h f g same n v w e m = by (n == m)
  where
    by : (b : Bool) → h (cond b v (f m)) ≡ cond b w (g m)
    by true = e
    by false = same m

pub and_left : (a b : Bool) → (a && b) ≡ true → a ≡ true
and_left true b e = refl
and_left false b e = e

pub and_right : (a b : Bool) → (a && b) ≡ true → b ≡ true
and_right true b e = e
and_right false b e = absurd (false≢true e)

-- ---- the greatest that passes

pub greatest_none : (n : ℕ) (test : ℕ → Bool) → ((k : ℕ) → test k ≡ false) → greatest n test ≡ None
greatest_none zero test fails = ap (λ b. cond b (Some 0) None) (fails 0)
greatest_none (suc n) test fails =
    ap (λ b. cond b (Some (suc n)) (greatest n test)) (fails (suc n)) ∙ greatest_none n test fails

pub greatest_some : (n : ℕ) (test : ℕ → Bool) (k : ℕ) → k ≤ n → test k ≡ true →
    (c : ℕ) × ((greatest n test ≡ Some c) × (test c ≡ true))
greatest_some zero test k le passes =
    let here : test 0 ≡ true = ap test (sym (only k le)) ∙ passes in (0, (ap (λ b. cond b (Some 0) None) here, here))
  where
    only : (k : ℕ) → k ≤ 0 → k ≡ 0
    only k le = omega (arith, le)
greatest_some (suc n) test k le passes = by (greatest_some n test k) (test (suc n)) refl
  where
    by : (k ≤ n → test k ≡ true → (c : ℕ) × ((greatest n test ≡ Some c) × (test c ≡ true))) → (b : Bool) → test (suc n) ≡ b →
        (c : ℕ) × ((cond b (Some (suc n)) (greatest n test) ≡ Some c) × (test c ≡ true))
    by before true is = (suc n, (refl, is))
    by before false isnt = before (below (λ same. false≢true (sym isnt ∙ ap test (sym same) ∙ passes))) passes
      where
        below : k ≢ suc n → k ≤ n
        below other = omega (arith, le, other)

pub none_pass : (n : ℕ) (test : ℕ → Bool) → ((k : ℕ) → test k ≡ false) → how_many n test ≡ 0
none_pass zero test fails = let one : Bool → ℕ = λ b. cond b 1 0 in ap one (fails 0)
none_pass (suc n) test fails =
    let before : how_many n test ≡ 0 = none_pass n test fails in
    let here : ◌≡◌ {A = ℕ} (cond (test (suc n)) 1 0) 0 = let one : Bool → ℕ = λ b. cond b 1 0 in ap one (fails (suc n)) in omega (arith, before, here)

pub greatest_passes : (n : ℕ) (test : ℕ → Bool) (c : ℕ) → greatest n test ≡ Some c → test c ≡ true
greatest_passes zero test c e = by (test 0) refl e
  where
    by : (b : Bool) → test 0 ≡ b → cond b (Some 0) None ≡ Some c → test c ≡ true
    by true is e = ap test (sym (some_same e)) ∙ is
    by false is e = absurd (none_some e)
greatest_passes (suc n) test c e = by (greatest_passes n test c) (test (suc n)) refl e
  where
    by : (greatest n test ≡ Some c → test c ≡ true) → (b : Bool) → test (suc n) ≡ b →
        cond b (Some (suc n)) (greatest n test) ≡ Some c → test c ≡ true
    by before true is e = ap test (sym (some_same e)) ∙ is
    by before false is e = before e
