-- Who waits, as calls are listed and leave.
use Rattle.std.proofs.Common.{◌≡◌, ℕ, ◌==◌, Bool, true, false, cond, ◌||◌, List, [], ◌∷◌, ◌++◌, length, Option, Some, None, nat_eq, refl, sym, ap, ◌∙◌, arith}
use Rattle.std.specs.HashMap.{HashMap, get, hash_map_len}
use Rattle.std.specs.Map.{lookup}
use Rattle.std.specs.Option.{option_map_or}
use Rattle.std.proofs.lemmas.Bool.{eqb-true, eqb-false}
use Rattle.moka_sync.specs.Waiting.{waits, without}
use Rattle.moka_desk.specs.Lines.{is_at, with_call}

no : false ≡ true → ⊥
no e = cc

pub same_test : (a b : ℕ) (x y : Bool) → (a == b) ≡ x → (b == a) ≡ y → x ≡ y
same_test a b true true e f = refl
same_test a b false false e f = refl
same_test a b true false e f = absurd (eqb-false b a f (sym (eqb-true a b e)))
same_test a b false true e f = absurd (eqb-false a b e (sym (eqb-true b a f)))

-- a list that a call isn't on is the same without it
pub without_absent : (call : ℕ) (xs : List ℕ) → waits call xs ≡ false → without call xs ≡ xs
without_absent call [] e = refl
without_absent call (x ∷ xs) e = by (call == x) e (without_absent call xs) where
  by : (b : Bool) → (b || waits call xs) ≡ false → (waits call xs ≡ false → without call xs ≡ xs) → cond b (without call xs) (x ∷ without call xs) ≡ x ∷ xs
  by true e rest = absurd (no (sym e))
  by false e rest = ap (λ ys. x ∷ ys) (rest e)

-- who waits without a call waited with it, and is another
pub waits_still : (c call : ℕ) (xs : List ℕ) → waits c (without call xs) ≡ true → waits c xs ≡ true
waits_still c call [] e = e
waits_still c call (x ∷ xs) e = by (call == x) (c == x) e refl (waits_still c call xs) where
  by : (a b : Bool) → waits c (cond a (without call xs) (x ∷ without call xs)) ≡ true → (c == x) ≡ b → (waits c (without call xs) ≡ true → waits c xs ≡ true) → (b || waits c xs) ≡ true
  by a true e f rest = refl
  by true false e f rest = rest e
  by false false e f rest = rest (ap (λ b. b || waits c (without call xs)) (sym f) ∙ e)

pub waits_no_more : (call : ℕ) (xs : List ℕ) → waits call (without call xs) ≡ false
waits_no_more call [] = refl
waits_no_more call (x ∷ xs) = by (call == x) refl (waits_no_more call xs) where
  by : (a : Bool) → (call == x) ≡ a → waits call (without call xs) ≡ false → waits call (cond a (without call xs) (x ∷ without call xs)) ≡ false
  by true e rest = rest
  by false e rest = rw e rest

-- who waits with one more call waited before, or is that call
pub waits_before : (c call : ℕ) (xs : List ℕ) → (call == c) ≡ false → waits c (with_call call xs) ≡ true → waits c xs ≡ true
waits_before c call xs other e = by (waits call xs) e where
  more : (ys : List ℕ) → waits c (ys ++ call ∷ []) ≡ true → waits c ys ≡ true
  more [] e = absurd (no (sym (same_test c call (c == call) false refl other) ∙ last (c == call) e)) where
    last : (b : Bool) → (b || false) ≡ true → b ≡ true
    last true e = refl
    last false e = e
  more (y ∷ ys) e = front (c == y) e (more ys) where
    front : (b : Bool) → (b || waits c (ys ++ call ∷ [])) ≡ true → (waits c (ys ++ call ∷ []) ≡ true → waits c ys ≡ true) → (b || waits c ys) ≡ true
    front true e rest = refl
    front false e rest = rest e

  by : (b : Bool) → waits c (cond b xs (xs ++ call ∷ [])) ≡ true → waits c xs ≡ true
  by true e = e
  by false e = more xs e

module _ (line : ℕ → List ℕ) (place : ℕ → Option ℕ) (placed : (number call : ℕ) → waits call (line number) ≡ true → place call ≡ Some number) where
  -- a call is on no list but that of its place
  pub elsewhere : (call n : ℕ) → is_at (place call) n ≡ false → waits call (line n) ≡ false
  elsewhere call n away = by (waits call (line n)) refl where
    here : (m : ℕ) (b : Bool) → (m == m) ≡ b → (m == m) ≡ true
    here m true e = e
    here m false e = absurd (eqb-false m m e refl)

    by : (w : Bool) → waits call (line n) ≡ w → w ≡ false
    by false e = refl
    by true e = absurd (no (sym away ∙ ap (λ o. is_at o n) (placed n call e) ∙ here n (n == n) refl))

  -- once its place is off, a call is on no list
  pub off : (call n : ℕ) → cond (is_at (place call) n) (without call (line n)) (line n) ≡ without call (line n)
  off call n = by (is_at (place call) n) refl where
    by : (b : Bool) → is_at (place call) n ≡ b → cond b (without call (line n)) (line n) ≡ without call (line n)
    by true e = refl
    by false e = sym (without_absent call (line n) (elsewhere call n e))

  pub off_none : (call : ℕ) → place call ≡ None → (n : ℕ) → line n ≡ without call (line n)
  off_none call none n = ap (λ o. cond (is_at o n) (without call (line n)) (line n)) (sym none) ∙ off call n

  -- the lines once a call is listed
  abbrev pub listed : ℕ → ℕ → ℕ → List ℕ
  listed number call n = cond (number == n) (with_call call (line n)) (without call (line n))

  -- one that is listed already stays so, and on no other list
  pub listed_already : (number call : ℕ) → waits call (line number) ≡ true → (n : ℕ) → line n ≡ listed number call n
  listed_already number call is n = by (number == n) refl where
    away : (number == n) ≡ false → (w : Bool) → waits call (line n) ≡ w → w ≡ false
    away e false f = refl
    away e true f = absurd (eqb-false number n e (ap (λ o. option_map_or (λ m. m) o number) (sym (placed number call is) ∙ placed n call f)))

    by : (b : Bool) → (number == n) ≡ b → line n ≡ cond b (with_call call (line n)) (without call (line n))
    by true e = sym (ap (λ b. cond b (line n) (line n ++ call ∷ [])) (ap (λ m. waits call (line m)) (sym (eqb-true number n e)) ∙ is))
    by false e = sym (without_absent call (line n) (away e (waits call (line n)) refl))

  pub listed_placed : (number call : ℕ) → (n c : ℕ) → waits c (listed number call n) ≡ true → cond (call == c) (Some number) (place c) ≡ Some n
  listed_placed number call n c is = by (call == c) refl (number == n) refl is where
    by : (a : Bool) → (call == c) ≡ a → (b : Bool) → (number == n) ≡ b → waits c (cond b (with_call call (line n)) (without call (line n))) ≡ true → cond a (Some number) (place c) ≡ Some n
    by true e true f is = ap Some (eqb-true number n f)
    by true e false f is = absurd (no (sym (waits_no_more call (line n)) ∙ ap (λ k. waits k (without call (line n))) (eqb-true call c e) ∙ is))
    by false e true f is = placed n c (waits_before c call (line n) e is)
    by false e false f is = placed n c (waits_still c call (line n) is)

  pub left_placed : (call : ℕ) → (n c : ℕ) → waits c (without call (line n)) ≡ true → cond (call == c) None (place c) ≡ Some n
  left_placed call n c is = by (call == c) refl where
    by : (a : Bool) → (call == c) ≡ a → cond a None (place c) ≡ Some n
    by true e = absurd (no (sym (waits_no_more call (line n)) ∙ ap (λ k. waits k (without call (line n))) (eqb-true call c e) ∙ is))
    by false e = placed n c (waits_still c call (line n) is)

  pub taken_placed : (number n c : ℕ) → waits c (cond (number == n) [] (line n)) ≡ true → place c ≡ Some n
  taken_placed number n c is = by (number == n) is where
    by : (b : Bool) → waits c (cond b [] (line n)) ≡ true → place c ≡ Some n
    by true e = absurd (no e)
    by false e = placed n c e

  -- a call is listed here, and taken off where it was listed before
  pub listed_is : (number call : ℕ) (mid new : ℕ → List ℕ) (before : Option ℕ) → before ≡ place call → ((n : ℕ) → mid n ≡ cond (number == n) (with_call call (line n)) (line n)) →
      ((n : ℕ) → new n ≡ cond (number == n) (mid n) (cond (is_at before n) (without call (mid n)) (mid n))) → (n : ℕ) → new n ≡ listed number call n
  listed_is number call mid new before was mid_is new_is n = new_is n ∙ by (number == n) refl (mid_is n) where
    by : (b : Bool) → (number == n) ≡ b → mid n ≡ cond b (with_call call (line n)) (line n) →
        cond b (mid n) (cond (is_at before n) (without call (mid n)) (mid n)) ≡ cond b (with_call call (line n)) (without call (line n))
    by true e is = is
    by false e is = rw (is, was) (off call n)

-- nothing stands in a map of no entries
pub nobody_placed : {A S : Type 0} (places : HashMap ℕ A S) → hash_map_len places ≡ 0 → (call : ℕ) → get nat_eq places call ≡ None
nobody_placed {A} places none call = by places.entries none where
  by : (entries : List (ℕ × A)) → length entries ≡ 0 → lookup (nat_eq call) entries ≡ None
  by [] e = refl
  by (x ∷ xs) e = absurd (omega arith)
