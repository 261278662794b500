-- What calls hold, by the call and by the number of the write.
use Rattle.std.proofs.Common.{◌≡◌, ℕ, suc, ◌+◌, ◌≤◌, ◌==◌, Bool, true, false, not, cond, List, [], ◌∷◌, ◌++◌, length, drop, Option, Some, None, is_some, IsSome, refl, sym, ap, ◌∙◌, subst, arith}
use Rattle.std.specs.List.{filter}
use Rattle.std.specs.Map.{lookup}
use Rattle.std.proofs.lemmas.Map.Entries.{lookup-filter-keys}
use Rattle.std.specs.Prelude.{nat_eq}
use Rattle.std.proofs.lemmas.Bool.{eqb-true, eqb-false}
use Rattle.moka_hist.specs.Conditions.{held_number}
use Rattle.moka_hist.specs.declared.writes.Holding.{Holding}
use Rattle.moka_hist.specs.declared.writes.Holding.TheVariants as holding
use Rattle.moka_desk.specs.Notices.{either}
use Rattle.moka_desk.specs.Held.{decided_holding, holds_number, is_holder, owed_at}

pub differ : {A : Type 0} → true ≡ false → A
differ e = absurd (no e) where
  no : true ≡ false → ⊥
  no e = cc

pub same_number : (m : ℕ) → (m == m) ≡ true
same_number m = by (m == m) refl where
  by : (b : Bool) → (m == m) ≡ b → b ≡ true
  by true e = refl
  by false e = absurd (eqb-false m m e refl)

-- who holds nothing still holds none
pub free_at : {A : Type 0} (held : ℕ → Option A) (call : ℕ) → held call ≡ None → (n : ℕ) → held n ≡ cond (call == n) None (held n)
free_at held call none n = by (call == n) refl where
  by : (b : Bool) → (call == n) ≡ b → held n ≡ cond b None (held n)
  by true e = ap held (sym (eqb-true call n e)) ∙ none
  by false e = refl

module _ {A : Type 0} where
  either_none : (r : Option A) → either r None ≡ r
  either_none None = refl
  either_none (Some x) = refl

  -- the map has the new one
  pub put_in_map : (b : Bool) (x : A) (m r o : Option A) → either m r ≡ cond b None o → either (cond b (Some x) m) r ≡ cond b (Some x) o
  put_in_map true x m r o e = refl
  put_in_map false x m r o e = e

  -- the rest has it
  pub put_in_rest : (b : Bool) (x : A) (m r o : Option A) → either m r ≡ cond b None o → either m (either r (cond b (Some x) None)) ≡ cond b (Some x) o
  put_in_rest true x None None o e = refl
  put_in_rest true x None (Some y) o e = absurd (no e) where
    no : Some y ≡ None → ⊥
    no e = cc
  put_in_rest true x (Some y) r o e = absurd (no e) where
    no : Some y ≡ None → ⊥
    no e = cc
  put_in_rest false x m r o e = ap (either m) (either_none r) ∙ e

  -- what comes after it is none of what was there
  pub put_over : (b : Bool) (x o : Option A) → cond b x (cond b None o) ≡ cond b x o
  put_over true x o = refl
  put_over false x o = refl

  -- both lose it
  pub out_of_both : (b : Bool) (m r : Option A) → either (cond b None m) (cond b None r) ≡ cond b None (either m r)
  out_of_both true m r = refl
  out_of_both false m r = refl

  -- what comes last in a list is found where nothing before it is
  pub lookup_last : (n call : ℕ) (x : A) (es : List (ℕ × A)) → lookup (nat_eq n) (es ++ (call, x) ∷ []) ≡ either (lookup (nat_eq n) es) (cond (n == call) (Some x) None)
  lookup_last n call x [] = refl
  lookup_last n call x (e ∷ es) = by (n == e.0) (lookup_last n call x es) where
    by : (b : Bool) → lookup (nat_eq n) (es ++ (call, x) ∷ []) ≡ either (lookup (nat_eq n) es) (cond (n == call) (Some x) None) →
        cond b (Some e.1) (lookup (nat_eq n) (es ++ (call, x) ∷ [])) ≡ either (cond b (Some e.1) (lookup (nat_eq n) es)) (cond (n == call) (Some x) None)
    by true h = refl
    by false h = h

  -- how many are left of a map and a rest
  pub fewer : (m r : Option A) (a b c d : ℕ) → a + cond (is_some m) 1 0 ≡ b → c + cond (is_some r) 1 0 ≤ d → (a + c) + cond (is_some (either m r)) 1 0 ≤ b + d
  fewer None r a b c d e f = omega (arith, e, f)
  fewer (Some x) None a b c d e f = omega (arith, e, f)
  fewer (Some x) (Some y) a b c d e f = omega (arith, e, f)

-- who has a place is one call
one_holder : (place : Option (Option ℕ)) (call n : ℕ) → is_holder place call ≡ true → (call == n) ≡ false → is_holder place n ≡ false
one_holder None call n e f = refl
one_holder (Some None) call n e f = refl
one_holder (Some (Some m)) call n e f = subst (λ k. (k == n) ≡ false) (sym (eqb-true m call e)) f

-- what a call holds has one number
one_number : (call number x : ℕ) (o : Option Holding) → holds_number call number o ≡ true → (number == x) ≡ false → holds_number call x o ≡ false
one_number call number x None e f = refl
one_number call number x (Some h) e f = subst (λ k. (k == x) ≡ false) (sym (eqb-true (held_number call h) number e)) f

-- a write that is owed nobody holds, and one that is held isn't owed
pub owed_by_nobody : (place : Option (Option ℕ)) → owed_at place ≡ 1 → (n : ℕ) → is_holder place n ≡ false
owed_by_nobody None e n = refl
owed_by_nobody (Some None) e n = refl
owed_by_nobody (Some (Some m)) e n = absurd (omega (arith, e))

pub held_not_owed : (place : Option (Option ℕ)) (call : ℕ) → is_holder place call ≡ true → owed_at place ≡ 0
held_not_owed None call e = refl
held_not_owed (Some None) call e = differ (sym e)
held_not_owed (Some (Some m)) call e = refl

pub decided_number : (call x : ℕ) (o : Option Holding) → holds_number call x (decided_holding o) ≡ holds_number call x o
decided_number call x None = refl
decided_number call x (Some (holding.Own pending)) = refl
decided_number call x (Some (holding.TookUp write)) = refl

module _ (holders : ℕ → Option (Option ℕ)) (held : ℕ → Option Holding) (agree : (number n : ℕ) → is_holder (holders number) n ≡ holds_number n number (held n)) where
  -- a call that held nothing holds a write that nobody held
  pub given : (call : ℕ) (h : Holding) → held call ≡ None → ((n : ℕ) → is_holder (holders (held_number call h)) n ≡ false) → (number n : ℕ) →
      is_holder (cond (held_number call h == number) (Some (Some call)) (holders number)) n ≡ holds_number n number (cond (call == n) (Some h) (held n))
  given call h free nobody number n = by (held_number call h == number) refl (call == n) refl where
    by : (a : Bool) → (held_number call h == number) ≡ a → (b : Bool) → (call == n) ≡ b →
        is_holder (cond a (Some (Some call)) (holders number)) n ≡ holds_number n number (cond b (Some h) (held n))
    by true e true f = f ∙ sym (subst (λ m. (held_number m h == number) ≡ true) (eqb-true call n f) e)
    by true e false f = f ∙ sym (sym (agree number n) ∙ ap (λ m. is_holder (holders m) n) (sym (eqb-true _ _ e)) ∙ nobody n)
    by false e true f =
        agree number n ∙ ap (holds_number n number) (ap held (sym (eqb-true call n f)) ∙ free) ∙ sym (subst (λ m. (held_number m h == number) ≡ false) (eqb-true call n f) e)
    by false e false f = agree number n

  -- a call holds its write no longer, and nobody else does
  pub taken : (call number : ℕ) → holds_number call number (held call) ≡ true → (v : Option (Option ℕ)) → ((n : ℕ) → is_holder v n ≡ false) → (x n : ℕ) →
      is_holder (cond (number == x) v (holders x)) n ≡ holds_number n x (cond (call == n) None (held n))
  taken call number had v nobody x n = by (number == x) refl (call == n) refl where
    by : (a : Bool) → (number == x) ≡ a → (b : Bool) → (call == n) ≡ b → is_holder (cond a v (holders x)) n ≡ holds_number n x (cond b None (held n))
    by true e true f = nobody n
    by true e false f =
        nobody n ∙ sym (sym (agree x n) ∙ ap (λ m. is_holder (holders m) n) (sym (eqb-true _ _ e)) ∙ one_holder (holders number) call n (agree number call ∙ had) f)
    by false e true f =
        agree x n ∙ subst (λ m. holds_number m x (held m) ≡ false) (eqb-true call n f) (one_number call number x (held call) had e)
    by false e false f = agree x n

  -- the write of the call is decided
  pub now_decided : (call x n : ℕ) → is_holder (holders x) n ≡ holds_number n x (cond (call == n) (decided_holding (held call)) (held n))
  now_decided call x n = by (call == n) refl where
    by : (b : Bool) → (call == n) ≡ b → is_holder (holders x) n ≡ holds_number n x (cond b (decided_holding (held call)) (held n))
    by true f = agree x n ∙ sym (subst (λ m. holds_number m x (decided_holding (held call)) ≡ holds_number m x (held m)) (eqb-true call n f) (decided_number call x (held call)))
    by false f = agree x n

  -- the place of a write that a call holds is its own
  pub has_place : (call number : ℕ) → holds_number call number (held call) ≡ true → is_holder (holders number) call ≡ true
  has_place call number had = agree number call ∙ had

-- ---- how often a write is owed, as its place changes

pub owed_as_given : (holders : ℕ → Option (Option ℕ)) (call : ℕ) → holders call ≡ None → (n : ℕ) → owed_at (cond (call == n) (Some (Some call)) (holders n)) ≡ owed_at (holders n)
owed_as_given holders call none n = by (call == n) refl where
  by : (b : Bool) → (call == n) ≡ b → owed_at (cond b (Some (Some call)) (holders n)) ≡ owed_at (holders n)
  by true e = sym (ap owed_at (ap holders (sym (eqb-true call n e)) ∙ none))
  by false e = refl

module _ (holders : ℕ → Option (Option ℕ)) (number : ℕ) where
  -- one is the same either way round
  turned : (n : ℕ) (a : Bool) → (number == n) ≡ a → (n == number) ≡ a
  turned n true e = subst (λ m. (m == number) ≡ true) (eqb-true number n e) (itself (number == number) refl) where
    itself : (b : Bool) → (number == number) ≡ b → b ≡ true
    itself true e = refl
    itself false e = absurd (eqb-false number number e refl)
  turned n false e = by (n == number) refl where
    by : (b : Bool) → (n == number) ≡ b → b ≡ false
    by true f = absurd (eqb-false number n e (sym (eqb-true n number f)))
    by false f = refl

  pub owed_less : (call : ℕ) → owed_at (holders number) ≡ 1 → (n : ℕ) → owed_at (cond (number == n) (Some (Some call)) (holders n)) + cond (n == number) 1 0 ≡ owed_at (holders n)
  owed_less call owed n = by (number == n) refl where
    by : (a : Bool) → (number == n) ≡ a → owed_at (cond a (Some (Some call)) (holders n)) + cond (n == number) 1 0 ≡ owed_at (holders n)
    by true e = let here : owed_at (holders n) ≡ 1 = ap (λ m. owed_at (holders m)) (sym (eqb-true number n e)) ∙ owed in rw (turned n true e) (omega (arith, here))
    by false e = rw (turned n false e) (omega arith)

  pub owed_more : (call : ℕ) → is_holder (holders number) call ≡ true → (n : ℕ) → owed_at (cond (number == n) (Some None) (holders n)) ≡ owed_at (holders n) + cond (n == number) 1 0
  owed_more call is n = by (number == n) refl where
    by : (a : Bool) → (number == n) ≡ a → owed_at (cond a (Some None) (holders n)) ≡ owed_at (holders n) + cond (n == number) 1 0
    by true e = let none : owed_at (holders n) ≡ 0 = ap (λ m. owed_at (holders m)) (sym (eqb-true number n e)) ∙ held_not_owed (holders number) call is in rw (turned n true e) (omega (arith, none))
    by false e = rw (turned n false e) (omega arith)

  pub owed_same : (call : ℕ) → is_holder (holders number) call ≡ true → (n : ℕ) → owed_at (cond (number == n) None (holders n)) ≡ owed_at (holders n)
  owed_same call is n = by (number == n) refl where
    by : (a : Bool) → (number == n) ≡ a → owed_at (cond a None (holders n)) ≡ owed_at (holders n)
    by true e = sym (ap (λ m. owed_at (holders m)) (sym (eqb-true number n e)) ∙ held_not_owed (holders number) call is)
    by false e = refl

-- ---- what stands beside the map

-- a look-up goes on past one that is another's
pub lookup_past : {A : Type 0} (call : ℕ) (es : List (ℕ × A)) (i : ℕ) (e : ℕ × A) → drop i es ≡ e ∷ drop (i + 1) es → (call == e.0) ≡ false →
    lookup (nat_eq call) (drop i es) ≡ lookup (nat_eq call) (drop (i + 1) es)
lookup_past {A} call es i e is away = ap (lookup (nat_eq call)) is ∙ ap (λ b. cond b (Some e.1) (lookup (nat_eq call) (drop (i + 1) es))) away

-- fewer are left where the call is taken out that is among them
pub others_fewer : {A : Type 0} (call : ℕ) (es : List (ℕ × A)) → length (filter (λ h. not (h.0 == call)) es) + cond (is_some (lookup (nat_eq call) es)) 1 0 ≤ length es
others_fewer call [] = omega arith
others_fewer call (e ∷ es) = by (call == e.0) refl (e.0 == call) refl (others_fewer call es) where
  some_or_not : {B : Type 0} (o : Option B) → cond (is_some o) 1 0 ≤ 1
  some_or_not None = omega arith
  some_or_not (Some x) = omega arith

  by : (a : Bool) → (call == e.0) ≡ a → (b : Bool) → (e.0 == call) ≡ b → length (filter (λ h. not (h.0 == call)) es) + cond (is_some (lookup (nat_eq call) es)) 1 0 ≤ length es →
      length (cond (not b) (e ∷ filter (λ h. not (h.0 == call)) es) (filter (λ h. not (h.0 == call)) es)) + cond (is_some (cond a (Some e.1) (lookup (nat_eq call) es))) 1 0 ≤ suc (length es)
  by true p true q h = let most = some_or_not (lookup (nat_eq call) es) in omega (arith, h)
  by true p false q h = absurd (eqb-false _ _ q (sym (eqb-true _ _ p)))
  by false p true q h = omega (arith, h)
  by false p false q h = omega (arith, h)

-- the look-up of what others hold
pub others_hold : {A : Type 0} (call n : ℕ) (es : List (ℕ × A)) → lookup (nat_eq n) (filter (λ h. not (h.0 == call)) es) ≡ cond (call == n) None (lookup (nat_eq n) es)
others_hold call n es = by (call == n) refl where
  by : (b : Bool) → (call == n) ≡ b → lookup (nat_eq n) (filter (λ h. not (h.0 == call)) es) ≡ cond b None (lookup (nat_eq n) es)
  by true e = lookup-filter-keys (nat_eq n) (λ k. not (k == call)) false
      (λ k is. let here : k ≡ call = sym (eqb-true n k is) ∙ sym (eqb-true call n e) in ap not (subst (λ m. (m == call) ≡ true) (sym here) (same_number call))) es
  by false e = lookup-filter-keys (nat_eq n) (λ k. not (k == call)) true
      (λ k is. ap not (it k (k == call) refl is)) es
    where
      it : (k : ℕ) (b : Bool) → (k == call) ≡ b → (n == k) ≡ true → b ≡ false
      it k true f is = absurd (eqb-false call n e (sym (eqb-true n k is ∙ eqb-true k call f)))
      it k false f is = refl

-- what is owed, or held, has a place
pub owed_is : (place : Option (Option ℕ)) → owed_at place ≡ 1 → IsSome place
owed_is None e = absurd (omega (arith, e))
owed_is (Some p) e = refl

pub holder_is : (place : Option (Option ℕ)) (n : ℕ) → is_holder place n ≡ true → IsSome place
holder_is None n e = differ (sym e)
holder_is (Some p) n e = refl

-- who holds a write holds something
pub holds_some : (call number : ℕ) (o : Option Holding) → holds_number call number o ≡ true → is_some o ≡ true
holds_some call number None e = differ (sym e)
holds_some call number (Some h) e = refl

-- two numbers are one either way round
pub flip : (m n : ℕ) → (m == n) ≡ (n == m)
flip m n = by (m == n) refl (n == m) refl where
  by : (a : Bool) → (m == n) ≡ a → (b : Bool) → (n == m) ≡ b → a ≡ b
  by true e true f = refl
  by true e false f = absurd (eqb-false n m f (sym (eqb-true m n e)))
  by false e true f = absurd (eqb-false m n e (sym (eqb-true n m f)))
  by false e false f = refl
