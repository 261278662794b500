-- Who is woken, as calls are listed, handed out and leave.
use Rattle.std.proofs.Common.{◌≡◌, ℕ, ◌==◌, Bool, true, false, not, cond, ◌||◌, List, [], ◌∷◌, ◌++◌, Option, Some, None, refl, sym, ap, ◌∙◌}
use Rattle.std.specs.Option.{option_map_or}
use Rattle.std.proofs.lemmas.Bool.{eqb-true, eqb-false}
use Rattle.moka_sync.specs.Waiting.{waits, without}
use Rattle.moka_desk.specs.Lines.{with_call}
use Rattle.moka_desk.proofs.Listed.{listed, same_test, waits_no_more}

-- a number is itself
pub itself : (n : ℕ) → (n == n) ≡ true
itself n = by (n == n) refl where
  by : (b : Bool) → (n == n) ≡ b → (n == n) ≡ true
  by true e = e
  by false e = absurd (eqb-false n n e refl)

-- what differs one way differs the other way
other : (call c : ℕ) → (call == c) ≡ false → (c == call) ≡ false
other call c e = same_test c call (c == call) false refl e

-- another call waits after one has left the list exactly where it waited before
pub others_without : (c call : ℕ) (xs : List ℕ) → (call == c) ≡ false →
    waits c (without call xs) ≡ waits c xs
others_without c call [] e = refl
others_without c call (x ∷ xs) e = by (call == x) refl (others_without c call xs e) where
  by : (b : Bool) → (call == x) ≡ b → waits c (without call xs) ≡ waits c xs →
      waits c (cond b (without call xs) (x ∷ without call xs)) ≡ (c == x || waits c xs)
  by true f rest =
      let apart : (c == x) ≡ false = ap (λ k. c == k) (sym (eqb-true call x f)) ∙ other call c e in
      rest ∙ sym (ap (λ b. b || waits c xs) apart)
  by false f rest = ap (λ b. c == x || b) rest

-- and after one has come to the list
pub others_with : (c call : ℕ) (xs : List ℕ) → (call == c) ≡ false →
    waits c (with_call call xs) ≡ waits c xs
others_with c call xs e = by (waits call xs) where
  more : (ys : List ℕ) → waits c (ys ++ call ∷ []) ≡ waits c ys
  more [] = ap (λ b. b || false) (other call c e)
  more (y ∷ ys) = ap (λ b. c == y || b) (more ys)

  by : (b : Bool) → waits c (cond b xs (xs ++ call ∷ [])) ≡ waits c xs
  by true = refl
  by false = more xs

-- a call that has come to the list waits
pub waits_with : (call : ℕ) (xs : List ℕ) → waits call (with_call call xs) ≡ true
waits_with call xs = by (waits call xs) refl where
  either : (b c : Bool) → c ≡ true → (b || c) ≡ true
  either true c e = refl
  either false c e = e

  last : (ys : List ℕ) → waits call (ys ++ call ∷ []) ≡ true
  last [] = ap (λ b. b || false) (itself call)
  last (y ∷ ys) = either (call == y) (waits call (ys ++ call ∷ [])) (last ys)

  by : (b : Bool) → waits call xs ≡ b → waits call (cond b xs (xs ++ call ∷ [])) ≡ true
  by true e = e
  by false e = last xs

-- a call of these places, on these lines, is woken
abbrev pub out_at : (ℕ → List ℕ) → Option ℕ → ℕ → Bool
out_at line place call = option_map_or (λ n. not (waits call (line n))) place false

-- the lines and the place stay
pub out_same : (line new : ℕ → List ℕ) (place then : Option ℕ) (call : ℕ) →
    ((n : ℕ) → new n ≡ line n) → then ≡ place → out_at new then call ≡ out_at line place call
out_same line new place then call same is = ap (λ o. out_at new o call) is ∙ by place where
  by : (o : Option ℕ) → out_at new o call ≡ out_at line o call
  by None = refl
  by (Some n) = ap (λ xs. not (waits call xs)) (same n)

-- a call without a place is not woken
pub out_absent : (line : ℕ → List ℕ) (place : ℕ → Option ℕ) (call : ℕ) → place call ≡ None →
    (c : ℕ) → out_at line (place c) c ≡ cond (call == c) false (out_at line (place c) c)
out_absent line place call none c = by (call == c) refl where
  by : (b : Bool) → (call == c) ≡ b →
      out_at line (place c) c ≡ cond b false (out_at line (place c) c)
  by true e = ap (λ k. out_at line (place k) c) (sym (eqb-true call c e)) ∙ ap (λ o. out_at line o c) none
  by false e = refl

module _ (line : ℕ → List ℕ) (place : ℕ → Option ℕ)
    (placed : (number call : ℕ) → waits call (line number) ≡ true → place call ≡ Some number) where
  -- who is listed is not woken
  pub listed_asleep : (n c : ℕ) → waits c (line n) ≡ true → out_at line (place c) c ≡ false
  listed_asleep n c is = ap (λ o. out_at line o c) (placed n c is) ∙ ap not is

  -- one that is listed isn't woken, and is not from then on
  pub out_already : (number call : ℕ) → waits call (line number) ≡ true →
      (c : ℕ) → out_at line (place c) c ≡ cond (call == c) false (out_at line (place c) c)
  out_already number call is c = by (call == c) refl where
    by : (b : Bool) → (call == c) ≡ b → out_at line (place c) c ≡ cond b false (out_at line (place c) c)
    by true e = listed_asleep number c (ap (λ k. waits k (line number)) (sym (eqb-true call c e)) ∙ is)
    by false e = refl

  -- a call is listed: it is not woken any more
  pub out_listed : (number call : ℕ) (new : ℕ → List ℕ) (then : ℕ → Option ℕ) →
      ((n : ℕ) → new n ≡ listed line place placed number call n) →
      ((c : ℕ) → then c ≡ cond (call == c) (Some number) (place c)) →
      (c : ℕ) → out_at new (then c) c ≡ cond (call == c) false (out_at line (place c) c)
  out_listed number call new then lines places c =
      ap (λ o. out_at new o c) (places c) ∙ by (call == c) refl where
        stays : (n : ℕ) → (call == c) ≡ false → (b : Bool) →
            waits c (cond b (with_call call (line n)) (without call (line n))) ≡ waits c (line n)
        stays n e true = others_with c call (line n) e
        stays n e false = others_without c call (line n) e

        else : (o : Option ℕ) → (call == c) ≡ false → out_at new o c ≡ out_at line o c
        else None e = refl
        else (Some n) e = ap (λ xs. not (waits c xs)) (lines n) ∙ ap not (stays n e (number == n))

        here : waits call (new number) ≡ true
        here = ap (waits call) (lines number)
            ∙ ap (λ b. waits call (cond b (with_call call (line number)) (without call (line number))))
            (itself number)
            ∙ waits_with call (line number)

        by : (b : Bool) → (call == c) ≡ b →
            out_at new (cond b (Some number) (place c)) c ≡ cond b false (out_at line (place c) c)
        by true e = ap (λ k. not (waits k (new number))) (sym (eqb-true call c e)) ∙ ap not here
        by false e = else (place c) e

  -- a call leaves the lists and gives its place up: it is not woken any more
  pub out_left : (call : ℕ) (new : ℕ → List ℕ) (then : ℕ → Option ℕ) →
      ((n : ℕ) → new n ≡ without call (line n)) →
      ((c : ℕ) → then c ≡ cond (call == c) None (place c)) →
      (c : ℕ) → out_at new (then c) c ≡ cond (call == c) false (out_at line (place c) c)
  out_left call new then lines places c =
      ap (λ o. out_at new o c) (places c) ∙ by (call == c) refl where
        else : (o : Option ℕ) → (call == c) ≡ false → out_at new o c ≡ out_at line o c
        else None e = refl
        else (Some n) e =
            ap (λ xs. not (waits c xs)) (lines n) ∙ ap not (others_without c call (line n) e)

        by : (b : Bool) → (call == c) ≡ b →
            out_at new (cond b None (place c)) c ≡ cond b false (out_at line (place c) c)
        by true e = refl
        by false e = else (place c) e

  -- all of one list are handed out: they are woken
  pub out_taken : (number : ℕ) (new : ℕ → List ℕ) →
      ((n : ℕ) → new n ≡ cond (number == n) [] (line n)) →
      (c : ℕ) → out_at new (place c) c ≡ (waits c (line number) || out_at line (place c) c)
  out_taken number new lines c = by (waits c (line number)) refl where
    gone : new number ≡ []
    gone = lines number ∙ ap (λ b. cond b [] (line number)) (itself number)

    at_other : (n : ℕ) → waits c (line number) ≡ false → (b : Bool) → (number == n) ≡ b →
        not (waits c (cond b [] (line n))) ≡ not (waits c (line n))
    at_other n e true f =
        sym (ap not (ap (λ k. waits c (line k)) (sym (eqb-true number n f)) ∙ e))
    at_other n e false f = refl

    else : (o : Option ℕ) → waits c (line number) ≡ false → out_at new o c ≡ out_at line o c
    else None e = refl
    else (Some n) e =
        ap (λ xs. not (waits c xs)) (lines n) ∙ at_other n e (number == n) refl

    by : (b : Bool) → waits c (line number) ≡ b →
        out_at new (place c) c ≡ (b || out_at line (place c) c)
    by true e = ap (λ o. out_at new o c) (placed number c e) ∙ ap (λ xs. not (waits c xs)) gone
    by false e = else (place c) e

-- a call leaves before those on a list are handed out, which it was not left on
pub left_taken : (call c : ℕ) (xs : List ℕ) (was : Bool) →
    (waits c (without call xs) || cond (call == c) false was)
    ≡ cond (call == c) false (waits c xs || was)
left_taken call c xs was = by (call == c) refl where
  by : (b : Bool) → (call == c) ≡ b →
      (waits c (without call xs) || cond b false was) ≡ cond b false (waits c xs || was)
  by true e = ap (λ b. b || false)
      (ap (λ k. waits k (without call xs)) (sym (eqb-true call c e)) ∙ waits_no_more call xs)
  by false e = ap (λ b. b || was) (others_without c call xs e)

-- they are handed out unless the call's notice runs
pub left_if : (call : ℕ) (xs : List ℕ) (runs : Bool) → cond (not runs) (without call xs) [] ≡ without call (cond runs [] xs)
left_if call xs true = refl
left_if call xs false = refl

pub left_taken_if : (call c : ℕ) (xs : List ℕ) (was runs : Bool) →
    (waits c (cond (not runs) (without call xs) []) || cond (call == c) false was)
    ≡ cond (call == c) false (waits c (cond runs [] xs) || was)
left_taken_if call c xs was true = refl
left_taken_if call c xs was false = left_taken call c xs was

-- the one call that waits for an answer is handed out with it
pub told_out : (call n : ℕ) (waiting was : Bool) → ((call == n) ≡ true → was ≡ false) →
    cond (call == n) waiting was ≡ (waits n (cond waiting (call ∷ []) []) || was)
told_out call n waiting was untold = by (call == n) refl waiting where
  one : (b : Bool) → (call == n) ≡ b → waits n (call ∷ []) ≡ b
  one b e = ap (λ c. c || false) (same_test n call (n == call) b refl e) ∙ alone b where
    alone : (b : Bool) → (b || false) ≡ b
    alone true = refl
    alone false = refl

  by : (b : Bool) → (call == n) ≡ b → (w : Bool) →
      cond b w was ≡ (waits n (cond w (call ∷ []) []) || was)
  by true e true = sym (ap (λ c. c || was) (one true e))
  by true e false = sym (untold e)
  by false e true = sym (ap (λ c. c || was) (one false e))
  by false e false = refl
