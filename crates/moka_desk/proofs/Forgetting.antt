-- Applied writes without those of one number, as far as the stamps can tell that are kept.
use Rattle.std.proofs.Common.{◌≡◌, ℕ, ◌+◌, ◌≤◌, ◌<◌, ◌==◌, Bool, true, false, not, cond, ◌&&◌, ◌||◌, List, [], ◌∷◌, map, nat_eq, Option, Some, None, refl, sym, ap, ◌∙◌, subst, arith}
use Rattle.std.specs.Map.{lookup}
use Rattle.std.specs.List.{list_any}
use Rattle.std.specs.Option.{option_map_or}
use Rattle.std.proofs.Math.Bool.{and-false}
use Rattle.std.proofs.lemmas.Bool.{eqb-true}
use Rattle.std.proofs.lemmas.List.Sums.{sum_by-cons}
use Rattle.moka_hist.specs.Finite.{times}
use Rattle.moka_hist.specs.Visits.{is_replaced, is_upsert, number_of}
use Rattle.moka_hist.specs.declared.writes.Write.{Write}
use Rattle.moka_hist.specs.declared.writes.Write.TheVariants.{Upsert, Remove}
use Rattle.moka_desk.proofs.WhoHolds.{flip}
use Rattle.moka_desk.specs.Records.{count_of, is_made, standing_but}

contra : {A : Type 0} (b : Bool) → b ≡ true → b ≡ false → A
contra b t f = cc

abbrev weight : Bool → ℕ
weight b = cond b 1 0

abbrev unless_so : Bool → ℕ → ℕ
unless_so b n = cond b 0 n

-- ---- a number that is used nowhere

abbrev pub total : List ℕ → ℕ
total [] = 0
total (x ∷ xs) = x + total xs

abbrev pub total_keys : {X : Type 0} → List (ℕ × X) → ℕ
total_keys [] = 0
total_keys (e ∷ es) = e.0 + total_keys es

pub greater : (k x : ℕ) → x < k → (k == x) ≡ false
greater k x h = by (k == x) refl where
  by : (b : Bool) → (k == x) ≡ b → b ≡ false
  by true e = let same : k ≡ x = eqb-true k x e in absurd (omega (arith, same, h))
  by false e = refl

pub not_in : (k : ℕ) (xs : List ℕ) → total xs < k → list_any (nat_eq k) xs ≡ false
not_in k [] h = refl
not_in k (x ∷ xs) h = let rest : total xs < k = omega (arith, h) in let here : x < k = omega (arith, h) in rw (greater k x here) (not_in k xs rest)

pub no_key : {X : Type 0} (k : ℕ) (es : List (ℕ × X)) → total_keys es < k → lookup (nat_eq k) es ≡ None
no_key k [] h = refl
no_key k (e ∷ es) h = let rest : total_keys es < k = omega (arith, h) in let here : e.0 < k = omega (arith, h) in rw (greater k e.0 here) (no_key k es rest)

pub no_time : (k : ℕ) (xs : List ℕ) → total xs < k → times k xs ≡ 0
no_time k [] h = refl
no_time k (x ∷ xs) h = let rest : total xs < k = omega (arith, h) in let here : x < k = omega (arith, h) in rw (greater k x here) (no_time k xs rest)

-- ---- lists with one more at their front

times_cons : (x m : ℕ) (xs : List ℕ) → times x (m ∷ xs) ≡ cond (x == m) 1 0 + times x xs
times_cons x m xs = by (x == m) where
  by : (b : Bool) → cond b (times x xs + 1) (times x xs) ≡ cond b 1 0 + times x xs
  by true = omega arith
  by false = omega arith

times_with : (x m : ℕ) (xs : List ℕ) → (x == m) ≡ true → times x (m ∷ xs) ≡ 1 + times x xs
times_with x m xs e = times_cons x m xs ∙ ap (λ b. cond b 1 0 + times x xs) e

times_without : (x m : ℕ) (xs : List ℕ) → (x == m) ≡ false → times x (m ∷ xs) ≡ times x xs
times_without x m xs e = ap (λ b. cond b (times x xs + 1) (times x xs)) e

but_cons : (gone : ℕ → Bool) (w : Write) (ws : List Write) → standing_but gone (w ∷ ws) ≡ cond (is_upsert w && not (gone (number_of w))) 1 0 + standing_but gone ws
but_cons gone w ws = sum_by-cons (λ v. cond (is_upsert v && not (gone (number_of v))) 1 0) w ws

count_cons : (x : ℕ) (w : Write) (ws : List Write) → count_of x (w ∷ ws) ≡ cond (is_upsert w && number_of w == x) 1 0 + count_of x ws
count_cons x w ws = sum_by-cons (λ v. cond (is_upsert v && number_of v == x) 1 0) w ws

-- ---- the writes without those of the number n: what they replaced is so by removals of the number
-- k, and where `kept` is false nothing replaced n

module _ (n k : ℕ) (kept : Bool) where
  abbrev pub left_old : Option ℕ → Option ℕ
  left_old None = None
  left_old (Some o) = cond ((o == n) && not kept) None (Some o)

  abbrev pub removed_by : ℕ → Option ℕ → List Write → List Write
  removed_by number None writes = writes
  removed_by number (Some o) writes = Remove number o ∷ writes

  abbrev pub forget : List Write → List Write
  forget [] = []
  forget (Upsert m old ∷ ws) = cond (m == n) (removed_by k (left_old old) (forget ws)) (Upsert m (left_old old) ∷ forget ws)
  forget (Remove m o ∷ ws) = removed_by (cond (m == n) k m) (left_old (Some o)) (forget ws)

  -- whether they let the record of this stamp go
  abbrev pub still_gone : (ℕ → Bool) → ℕ → Bool
  still_gone gone x = gone x && not ((n == x) && not kept)

  -- removals make nothing
  made_by : (x number : ℕ) (o : Option ℕ) (ws : List Write) → is_made (removed_by number o ws) x ≡ is_made ws x
  made_by x number None ws = refl
  made_by x number (Some o) ws = refl

  made_one : (m x : ℕ) (b r r' : Bool) → (m == n) ≡ b → r' ≡ (r && not (n == x)) → cond b r' ((m == x) || r') ≡ (((m == x) || r) && not (n == x))
  made_one m x true r r' e h = by (m == x) refl (n == x) refl h where
    by : (p : Bool) → (m == x) ≡ p → (q : Bool) → (n == x) ≡ q → r' ≡ (r && not q) → r' ≡ ((p || r) && not q)
    by true f true g h = h ∙ and-false r
    by true f false g h = contra (m == x) f (ap (λ y. y == x) (eqb-true m n e) ∙ g)
    by false f q g h = h
  made_one m x false r r' e h = by (m == x) refl (n == x) refl h where
    by : (p : Bool) → (m == x) ≡ p → (q : Bool) → (n == x) ≡ q → r' ≡ (r && not q) → (p || r') ≡ ((p || r) && not q)
    by true f true g h = contra (m == n) (ap (λ y. m == y) (eqb-true n x g) ∙ f) e
    by true f false g h = refl
    by false f q g h = h

  if_made : (b : Bool) (x : ℕ) (xs ys : List Write) → is_made (cond b xs ys) x ≡ cond b (is_made xs x) (is_made ys x)
  if_made true x xs ys = refl
  if_made false x xs ys = refl

  pub made_still : (writes : List Write) (x : ℕ) → is_made (forget writes) x ≡ (is_made writes x && not (n == x))
  made_still [] x = refl
  made_still (Upsert m old ∷ ws) x =
      if_made (m == n) x (removed_by k (left_old old) (forget ws)) (Upsert m (left_old old) ∷ forget ws)
      ∙ ap (λ b. cond (m == n) b ((m == x) || is_made (forget ws) x)) (made_by x k (left_old old) (forget ws))
      ∙ made_one m x (m == n) (is_made ws x) (is_made (forget ws) x) refl (made_still ws x)
  made_still (Remove m o ∷ ws) x = made_by x (cond (m == n) k m) (left_old (Some o)) (forget ws) ∙ made_still ws x

  -- what is replaced
  abbrev names : Option ℕ → ℕ → Bool
  names old x = option_map_or (λ o. o == x) old false

  names_left : (old : Option ℕ) (x : ℕ) → names (left_old old) x ≡ (names old x && not ((n == x) && not kept))
  names_left None x = refl
  names_left (Some o) x = by (o == n) refl kept (o == x) refl (n == x) refl where
    by : (a : Bool) → (o == n) ≡ a → (c p : Bool) → (o == x) ≡ p → (q : Bool) → (n == x) ≡ q → names (cond (a && not c) None (Some o)) x ≡ (p && not (q && not c))
    by true e true p f q g = f ∙ keep p q where
      keep : (p q : Bool) → p ≡ (p && not (q && false))
      keep true true = refl
      keep true false = refl
      keep false q = refl
    by true e false true f true g = refl
    by true e false true f false g = contra (o == x) f (ap (λ y. y == x) (eqb-true o n e) ∙ g)
    by true e false false f q g = refl
    by false e c true f true g = contra (o == n) (ap (λ y. o == y) (eqb-true n x g) ∙ f) e
    by false e c true f false g = f
    by false e c false f q g = f

  both_go : (a b q : Bool) → ((a && q) || (b && q)) ≡ ((a || b) && q)
  both_go true true true = refl
  both_go true true false = refl
  both_go true false true = refl
  both_go true false false = refl
  both_go false b q = refl

  gone_by : (x number : ℕ) (o : Option ℕ) (ws : List Write) → is_replaced (removed_by number o ws) x ≡ (names o x || is_replaced ws x)
  gone_by x number None ws = refl
  gone_by x number (Some o) ws = refl

  if_gone : (b : Bool) (x : ℕ) (xs ys : List Write) → is_replaced (cond b xs ys) x ≡ cond b (is_replaced xs x) (is_replaced ys x)
  if_gone true x xs ys = refl
  if_gone false x xs ys = refl

  either_way : (b c : Bool) → cond b c c ≡ c
  either_way true c = refl
  either_way false c = refl

  pub gone_still : (writes : List Write) (x : ℕ) → is_replaced (forget writes) x ≡ still_gone (is_replaced writes) x
  gone_still [] x = refl
  gone_still (Upsert m old ∷ ws) x =
      let left = names_left old x in
      let rest = gone_still ws x in
      if_gone (m == n) x (removed_by k (left_old old) (forget ws)) (Upsert m (left_old old) ∷ forget ws)
      ∙ ap (λ b. cond (m == n) b (names (left_old old) x || is_replaced (forget ws) x)) (gone_by x k (left_old old) (forget ws))
      ∙ either_way (m == n) (names (left_old old) x || is_replaced (forget ws) x)
      ∙ (λ i. left i || rest i) ∙ both_go (names old x) (is_replaced ws x) (not ((n == x) && not kept))
  gone_still (Remove m o ∷ ws) x =
      let left = names_left (Some o) x in
      let rest = gone_still ws x in
      gone_by x (cond (m == n) k m) (left_old (Some o)) (forget ws)
      ∙ (λ i. left i || rest i) ∙ both_go (names (Some o) x) (is_replaced ws x) (not ((n == x) && not kept))

  -- how many stand
  stand_by : (g : ℕ → Bool) (number : ℕ) (o : Option ℕ) (ws : List Write) → standing_but g (removed_by number o ws) ≡ standing_but g ws
  stand_by g number None ws = refl
  stand_by g number (Some o) ws = let cons = but_cons g (Remove number o) ws in omega (arith, cons)

  not_other : (gone : ℕ → Bool) (m : ℕ) → (m == n) ≡ false → still_gone gone m ≡ gone m
  not_other gone m e = ap (λ b. gone m && not (b && not kept)) (flip n m ∙ e) ∙ and_true (gone m) where
    and_true : (b : Bool) → (b && true) ≡ b
    and_true true = refl
    and_true false = refl

  or_true : (a b : Bool) → b ≡ true → (a || b) ≡ true
  or_true true b e = refl
  or_true false b e = e

  pub standing_still : (gone : ℕ → Bool) (writes : List Write) → (is_made writes n ≡ true → gone n ≡ true) → standing_but (still_gone gone) (forget writes) ≡ standing_but gone writes
  standing_still gone [] h = refl
  standing_still gone (Upsert m old ∷ ws) h =
      by (m == n) refl (standing_still gone ws (λ e. h (or_true (m == n) (is_made ws n) e))) h
    where
      by : (b : Bool) → (m == n) ≡ b → standing_but (still_gone gone) (forget ws) ≡ standing_but gone ws → ((b || is_made ws n) ≡ true → gone n ≡ true) →
          standing_but (still_gone gone) (cond b (removed_by k (left_old old) (forget ws)) (Upsert m (left_old old) ∷ forget ws)) ≡ standing_but gone (Upsert m old ∷ ws)
      by true e rest here =
          let none : weight (not (gone m)) ≡ 0 = ap (λ y. weight (not (gone y))) (eqb-true m n e) ∙ ap (λ b. weight (not b)) (here refl) in
          let cons = but_cons gone (Upsert m old) ws in
          let left = stand_by (still_gone gone) k (left_old old) (forget ws) in
          omega (arith, none, cons, left, rest)
      by false e rest here =
          let same : weight (not (still_gone gone m)) ≡ weight (not (gone m)) = ap (λ b. weight (not b)) (not_other gone m e) in
          let cons = but_cons gone (Upsert m old) ws in
          let left = but_cons (still_gone gone) (Upsert m (left_old old)) (forget ws) in
          omega (arith, same, cons, left, rest)
  standing_still gone (Remove m o ∷ ws) h =
      let cons = but_cons gone (Remove m o) ws in
      let left = stand_by (still_gone gone) (cond (m == n) k m) (left_old (Some o)) (forget ws) in
      let rest = standing_still gone ws h in
      omega (arith, cons, left, rest)

  -- how many of a number made a record
  counted_by : (x number : ℕ) (o : Option ℕ) (ws : List Write) → count_of x (removed_by number o ws) ≡ count_of x ws
  counted_by x number None ws = refl
  counted_by x number (Some o) ws = let cons = count_cons x (Remove number o) ws in omega (arith, cons)

  pub count_still : (writes : List Write) (x : ℕ) → count_of x (forget writes) ≡ cond (n == x) 0 (count_of x writes)
  count_still [] x = sym (either_zero (n == x)) where
    either_zero : (b : Bool) → unless_so b 0 ≡ 0
    either_zero true = refl
    either_zero false = refl
  count_still (Upsert m old ∷ ws) x = by (m == n) refl (n == x) refl (m == x) refl (count_cons x (Upsert m old) ws) (count_still ws x) where
    by : (a : Bool) → (m == n) ≡ a → (q : Bool) → (n == x) ≡ q → (p : Bool) → (m == x) ≡ p → count_of x (Upsert m old ∷ ws) ≡ cond p 1 0 + count_of x ws →
        count_of x (forget ws) ≡ cond q 0 (count_of x ws) →
        count_of x (cond a (removed_by k (left_old old) (forget ws)) (Upsert m (left_old old) ∷ forget ws)) ≡ cond q 0 (count_of x (Upsert m old ∷ ws))
    by true e true g p f cons rest = let left = counted_by x k (left_old old) (forget ws) in left ∙ rest
    by true e false g true f cons rest = contra (m == x) f (ap (λ y. y == x) (eqb-true m n e) ∙ g)
    by true e false g false f cons rest = let left = counted_by x k (left_old old) (forget ws) in omega (arith, left, rest, cons)
    by false e true g true f cons rest = contra (m == n) (ap (λ y. m == y) (eqb-true n x g) ∙ f) e
    by false e true g false f cons rest =
        let left : count_of x (Upsert m (left_old old) ∷ forget ws) ≡ cond (m == x) 1 0 + count_of x (forget ws) = count_cons x (Upsert m (left_old old)) (forget ws) in
        let none : weight (m == x) ≡ 0 = ap weight f in
        omega (arith, left, none, rest)
    by false e false g p f cons rest =
        let left : count_of x (Upsert m (left_old old) ∷ forget ws) ≡ cond (m == x) 1 0 + count_of x (forget ws) = count_cons x (Upsert m (left_old old)) (forget ws) in
        let same : weight (m == x) ≡ weight p = ap weight f in
        omega (arith, left, same, rest, cons)
  count_still (Remove m o ∷ ws) x =
      counted_by x (cond (m == n) k m) (left_old (Some o)) (forget ws) ∙ count_still ws x ∙ ap (unless_so (n == x)) (sym (plain (count_cons x (Remove m o) ws)))
    where
      plain : count_of x (Remove m o ∷ ws) ≡ 0 + count_of x ws → count_of x (Remove m o ∷ ws) ≡ count_of x ws
      plain e = omega (arith, e)

  -- ---- which numbers are left

  times_by : (x number : ℕ) (o : Option ℕ) (ws : List Write) → times x (map number_of (removed_by number o ws)) ≤ cond (x == number) 1 0 + times x (map number_of ws)
  times_by x number None ws = omega arith
  times_by x number (Some o) ws = by (x == number) where
    by : (b : Bool) → cond b (times x (map number_of ws) + 1) (times x (map number_of ws)) ≤ cond b 1 0 + times x (map number_of ws)
    by true = omega arith
    by false = omega arith

  -- those of n are k's
  fewer_upsert : (m : ℕ) (old : Option ℕ) (ws : List Write) (x : ℕ) (a q : Bool) → (m == n) ≡ a → (x == k) ≡ q →
      times x (map number_of (forget ws)) ≤ times x (map number_of ws) + cond q (times n (map number_of ws)) 0 →
      times x (map number_of (cond a (removed_by k (left_old old) (forget ws)) (Upsert m (left_old old) ∷ forget ws)))
      ≤ times x (m ∷ map number_of ws) + cond q (times n (m ∷ map number_of ws)) 0
  fewer_upsert m old ws x true true e g h =
      let left : times x (map number_of (removed_by k (left_old old) (forget ws))) ≤ 1 + times x (map number_of (forget ws)) =
      subst (λ b. times x (map number_of (removed_by k (left_old old) (forget ws))) ≤ cond b 1 0 + times x (map number_of (forget ws))) g (times_by x k (left_old old) (forget ws)) in
      let here = times_cons x m (map number_of ws) in
      let one = times_with n m (map number_of ws) (flip n m ∙ e) in
      omega (arith, left, here, one, h)
  fewer_upsert m old ws x true false e g h =
      let left : times x (map number_of (removed_by k (left_old old) (forget ws))) ≤ 0 + times x (map number_of (forget ws)) =
      subst (λ b. times x (map number_of (removed_by k (left_old old) (forget ws))) ≤ cond b 1 0 + times x (map number_of (forget ws))) g (times_by x k (left_old old) (forget ws)) in
      let here = times_cons x m (map number_of ws) in
      omega (arith, left, here, h)
  fewer_upsert m old ws x false true e g h =
      let left = times_cons x m (map number_of (forget ws)) in
      let here = times_cons x m (map number_of ws) in
      let none = times_without n m (map number_of ws) (flip n m ∙ e) in
      omega (arith, left, here, none, h)
  fewer_upsert m old ws x false false e g h =
      let left = times_cons x m (map number_of (forget ws)) in
      let here = times_cons x m (map number_of ws) in
      omega (arith, left, here, h)

  fewer_remove : (m o : ℕ) (ws : List Write) (x : ℕ) (a q : Bool) → (m == n) ≡ a → (x == k) ≡ q →
      times x (map number_of (forget ws)) ≤ times x (map number_of ws) + cond q (times n (map number_of ws)) 0 →
      times x (map number_of (removed_by (cond a k m) (left_old (Some o)) (forget ws)))
      ≤ times x (m ∷ map number_of ws) + cond q (times n (m ∷ map number_of ws)) 0
  fewer_remove m o ws x true true e g h =
      let left : times x (map number_of (removed_by k (left_old (Some o)) (forget ws))) ≤ 1 + times x (map number_of (forget ws)) =
      subst (λ b. times x (map number_of (removed_by k (left_old (Some o)) (forget ws))) ≤ cond b 1 0 + times x (map number_of (forget ws))) g (times_by x k (left_old (Some o)) (forget ws)) in
      let here = times_cons x m (map number_of ws) in
      let one = times_with n m (map number_of ws) (flip n m ∙ e) in
      omega (arith, left, here, one, h)
  fewer_remove m o ws x true false e g h =
      let left : times x (map number_of (removed_by k (left_old (Some o)) (forget ws))) ≤ 0 + times x (map number_of (forget ws)) =
      subst (λ b. times x (map number_of (removed_by k (left_old (Some o)) (forget ws))) ≤ cond b 1 0 + times x (map number_of (forget ws))) g (times_by x k (left_old (Some o)) (forget ws)) in
      let here = times_cons x m (map number_of ws) in
      omega (arith, left, here, h)
  fewer_remove m o ws x false true e g h =
      let left = times_by x m (left_old (Some o)) (forget ws) in
      let here = times_cons x m (map number_of ws) in
      let none = times_without n m (map number_of ws) (flip n m ∙ e) in
      omega (arith, left, here, none, h)
  fewer_remove m o ws x false false e g h =
      let left = times_by x m (left_old (Some o)) (forget ws) in
      let here = times_cons x m (map number_of ws) in
      omega (arith, left, here, h)

  pub fewer_times : (writes : List Write) (x : ℕ) →
      times x (map number_of (forget writes)) ≤ times x (map number_of writes) + cond (x == k) (times n (map number_of writes)) 0
  fewer_times [] x = omega arith
  fewer_times (Upsert m old ∷ ws) x = fewer_upsert m old ws x (m == n) (x == k) refl refl (fewer_times ws x)
  fewer_times (Remove m o ∷ ws) x = fewer_remove m o ws x (m == n) (x == k) refl refl (fewer_times ws x)

  -- none is left of n
  module _ (apart : (n == k) ≡ false) where
    none_by : (number : ℕ) (o : Option ℕ) (ws : List Write) → (n == number) ≡ false → times n (map number_of ws) ≡ 0 → times n (map number_of (removed_by number o ws)) ≡ 0
    none_by number None ws e h = h
    none_by number (Some o) ws e h = rw e h

    other_number : (m : ℕ) (a : Bool) → (m == n) ≡ a → (n == cond a k m) ≡ false
    other_number m true e = apart
    other_number m false e = flip n m ∙ e

    none_upsert : (m : ℕ) (old : Option ℕ) (ws : List Write) (a : Bool) → (m == n) ≡ a → times n (map number_of (forget ws)) ≡ 0 →
        times n (map number_of (cond a (removed_by k (left_old old) (forget ws)) (Upsert m (left_old old) ∷ forget ws))) ≡ 0
    none_upsert m old ws true e h = none_by k (left_old old) (forget ws) apart h
    none_upsert m old ws false e h = rw (flip n m ∙ e) h

    pub none_left : (writes : List Write) → times n (map number_of (forget writes)) ≡ 0
    none_left [] = refl
    none_left (Upsert m old ∷ ws) = none_upsert m old ws (m == n) refl (none_left ws)
    none_left (Remove m o ∷ ws) = none_by (cond (m == n) k m) (left_old (Some o)) (forget ws) (other_number m (m == n) refl) (none_left ws)
