-- Calls that are put into their places and taken out.
use Rattle.std.proofs.Common.{◌≡◌, ◌≢◌, ◌==◌, ℕ, Bool, true, false, cond, Option, Some, None, refl, sym, ap, subst, ◌∙◌, ◌⊎◌, inl, inr}
use Rattle.std.specs.Option.{option_map}
use Rattle.std.proofs.lemmas.Bool.Decides.{eqb_tells}
use Rattle.moka_hist.specs.Finite.{put_at}
use Rattle.moka_hist.specs.State.{Call}
use Rattle.moka_machine.specs.declared.call_places.Running.{Running}
use Rattle.moka_machine.specs.Calls.{IsUsed, emptied, runs_in}
use Rattle.moka_machine.specs.Machine.{call_in}

-- what is at the place that was set, or at another
pub set_or_other : {A : Type 0} (f : ℕ → A) (n : ℕ) (a : A) (k : ℕ) → ((n ≡ k) × (put_at f n a k ≡ a)) ⊎ ((n ≢ k) × (put_at f n a k ≡ f k))
set_or_other {A} f n a k = by (eqb_tells n k)
  where
    by : (((n == k) ≡ true) × (n ≡ k)) ⊎ (((n == k) ≡ false) × (n ≢ k)) → ((n ≡ k) × (put_at f n a k ≡ a)) ⊎ ((n ≢ k) × (put_at f n a k ≡ f k))
    by (inl e) = inl (e.1, ap (λ b. cond b a (f k)) e.0)
    by (inr e) = inr (e.1, ap (λ b. cond b a (f k)) e.0)

-- what is at a place that was not set
pub other_at : {A : Type 0} (f : ℕ → A) (n : ℕ) (a : A) (k : ℕ) → n ≢ k → put_at f n a k ≡ f k
other_at f n a k ne = by (set_or_other f n a k)
  where
    by : ((n ≡ k) × (put_at f n a k ≡ a)) ⊎ ((n ≢ k) × (put_at f n a k ≡ f k)) → put_at f n a k ≡ f k
    by (inl e) = absurd (ne e.0)
    by (inr e) = e.1

-- a place that was set is set
pub set_at : {A : Type 0} (f : ℕ → A) (n : ℕ) (a : A) → put_at f n a n ≡ a
set_at f n a = by (set_or_other f n a n)
  where
    by : ((n ≡ n) × (put_at f n a n ≡ a)) ⊎ ((n ≢ n) × (put_at f n a n ≡ f n)) → put_at f n a n ≡ a
    by (inl e) = e.1
    by (inr e) = absurd (e.0 refl)

module _ {K V E : Type 0} where
  -- the calls in the places, where one place was set
  pub set_calls : (old new : ℕ → Option (Running K V E)) (others : ℕ → Option (Call K V E)) (n : ℕ) (o : Option (Running K V E)) (out : Option (Call K V E))
      → option_map call_in o ≡ out → ((k : ℕ) → new k ≡ put_at old n o k) → ((k : ℕ) → n ≢ k → option_map call_in (old k) ≡ others k)
      → (k : ℕ) → option_map call_in (new k) ≡ put_at others n out k
  set_calls old new others n o out is news olds k = by (eqb_tells n k)
    where
      by : (((n == k) ≡ true) × (n ≡ k)) ⊎ (((n == k) ≡ false) × (n ≢ k)) → option_map call_in (new k) ≡ put_at others n out k
      by (inl e) = ap (option_map call_in) (news k ∙ ap (λ b. cond b o (old k)) e.0) ∙ is ∙ sym (ap (λ b. cond b out (others k)) e.0)
      by (inr e) = ap (option_map call_in) (news k ∙ ap (λ b. cond b o (old k)) e.0) ∙ olds k e.1 ∙ sym (ap (λ b. cond b out (others k)) e.0)

  -- what holds of each running call, where one place was set
  pub set_each : (Q : ℕ → Running K V E → Type 0) (old new : ℕ → Option (Running K V E)) (n : ℕ) (o : Option (Running K V E)) → ((x : Running K V E) → o ≡ Some x → Q n x)
      → ((k : ℕ) → new k ≡ put_at old n o k) → ((k : ℕ) (x : Running K V E) → old k ≡ Some x → Q k x)
      → (k : ℕ) (x : Running K V E) → new k ≡ Some x → Q k x
  set_each Q old new n o is news olds k x e = by (set_or_other old n o k)
    where
      by : ((n ≡ k) × (put_at old n o k ≡ o)) ⊎ ((n ≢ k) × (put_at old n o k ≡ old k)) → Q k x
      by (inl f) = subst (λ (m : ℕ). Q m x) f.0 (is x (sym f.1 ∙ sym (news k) ∙ e))
      by (inr f) = olds k x (sym f.1 ∙ sym (news k) ∙ e)

  -- the calls that run, where one place was set
  pub runs_at : (old new : ℕ → Option (Option (Running K V E))) (n : ℕ) (p : Option (Option (Running K V E))) → ((k : ℕ) → new k ≡ put_at old n p k)
      → (k : ℕ) → runs_in (new k) ≡ put_at (λ m. runs_in (old m)) n (runs_in p) k
  runs_at old new n p news k = ap runs_in (news k) ∙ by (n == k)
    where
      by : (b : Bool) → runs_in (cond b p (old k)) ≡ cond b (runs_in p) (runs_in (old k))
      by true = refl
      by false = refl

  -- where a place is it is used, where one was set
  pub set_used : (old new : ℕ → Option (Option (Running K V E))) (n : ℕ) (p : Option (Option (Running K V E))) → ((k : ℕ) → new k ≡ put_at old n p k) → IsUsed p
      → ((k : ℕ) → n ≢ k → IsUsed (old k)) → (k : ℕ) → IsUsed (new k)
  set_used old new n p news is olds k = subst (λ (x : Option (Option (Running K V E))). IsUsed x) (sym (news k)) (by (set_or_other old n p k))
    where
      by : ((n ≡ k) × (put_at old n p k ≡ p)) ⊎ ((n ≢ k) × (put_at old n p k ≡ old k)) → IsUsed (put_at old n p k)
      by (inl e) = subst (λ (x : Option (Option (Running K V E))). IsUsed x) (sym e.1) is
      by (inr e) = subst (λ (x : Option (Option (Running K V E))). IsUsed x) (sym e.1) (olds k e.0)

  -- no call runs in a place that was emptied
  pub none_runs : (p : Option (Option (Running K V E))) → runs_in (emptied p) ≡ None
  none_runs None = refl
  none_runs (Some r) = refl

  -- a place that is used and in which no call runs is none
  unused : (p : Option (Option (Running K V E))) → runs_in p ≡ None → IsUsed p → p ≡ emptied p
  unused None none is = refl
  unused (Some None) none is = let f : false ≡ true = is refl in absurd (cc)
  unused (Some (Some r)) none is = absurd (cc)

  -- taking what isn't there changes nothing
  pub untaken : (old new : ℕ → Option (Option (Running K V E))) (n : ℕ) → runs_in (old n) ≡ None → IsUsed (old n) → ((k : ℕ) → new k ≡ put_at old n (emptied (old n)) k)
      → (k : ℕ) → new k ≡ old k
  untaken old new n none is news k = by (set_or_other old n (emptied (old n)) k)
    where
      by : ((n ≡ k) × (put_at old n (emptied (old n)) k ≡ emptied (old n))) ⊎ ((n ≢ k) × (put_at old n (emptied (old n)) k ≡ old k)) → new k ≡ old k
      by (inl e) = news k ∙ e.1 ∙ sym (unused (old n) none is) ∙ ap old e.0
      by (inr e) = news k ∙ e.1
