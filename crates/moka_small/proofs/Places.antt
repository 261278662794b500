-- Two maps over numbers of which one says what the other has, with one place changed.
use Rattle.std.proofs.Common.{◌≡◌, ℕ, ◌==◌, Bool, true, false, cond, refl, sym, ap, ◌∙◌}
use Rattle.std.proofs.lemmas.Bool.{eqb-true}
use Rattle.moka_hist.specs.Finite.{put_at, put_key}

module _ {A B : Type 0} (f : ℕ → A) (g : ℕ → B) (h : B → A) (all : (k : ℕ) → f k ≡ h (g k)) (n : ℕ) where
  -- both change
  pub both_put : (v : A) (x : B) → v ≡ h x → (k : ℕ) → put_at f n v k ≡ h (put_at g n x k)
  both_put v x e k = by (n == k)
    where
      by : (b : Bool) → cond b v (f k) ≡ h (cond b x (g k))
      by true = e
      by false = all k

  -- one changes to what it has
  pub left_put : (v : A) → v ≡ h (g n) → (k : ℕ) → put_at f n v k ≡ h (g k)
  left_put v e k = by (n == k) refl
    where
      by : (b : Bool) → (n == k) ≡ b → cond b v (f k) ≡ h (g k)
      by true same = e ∙ ap (λ i. h (g i)) (eqb-true n k same)
      by false same = all k

  pub right_put : (x : B) → f n ≡ h x → (k : ℕ) → f k ≡ h (put_at g n x k)
  right_put x e k = by (n == k) refl
    where
      by : (b : Bool) → (n == k) ≡ b → f k ≡ h (cond b x (g k))
      by true same = ap f (sym (eqb-true n k same)) ∙ e
      by false same = all k

-- the same of maps over keys
pub both_put_key : {K A B : Type 0} (eq : K → K → Bool) (f : K → A) (g : K → B) (h : A → B)
    (all : (q : K) → h (f q) ≡ g q) (key : K) (v : A) (x : B) → h v ≡ x → (q : K) →
    h (put_key eq f key v q) ≡ put_key eq g key x q
both_put_key eq f g h all key v x e q = by (eq key q)
  where
    by : (b : Bool) → h (cond b v (f q)) ≡ cond b x (g q)
    by true = e
    by false = all q
