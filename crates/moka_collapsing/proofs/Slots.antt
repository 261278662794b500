-- Lists of slots and of requests that wait: what stands where, and who is among them.
use Rattle.std.proofs.Common.{◌≡◌, ◌≢◌, inl, inr, ℕ, zero, suc, ◌+◌, ◌-◌, ◌≤◌, Bool, true, false, cond, List, [], ◌∷◌, ◌++◌, map, length, Some, slice_get, slice_set, refl, sym, ap, ◌∙◌, subst, arith}
use Rattle.std.specs.BTreeSet.{insert_key}
use Rattle.std.specs.Ordering.{nat_cmp, match_ordering, is_eq}
use Rattle.std.specs.declared.cmp.Ordering.{Ordering}
use Rattle.std.specs.declared.cmp.Ordering.TheVariants as ordering
use Rattle.moka_laws.proofs.Counting.{none_some, some_same}
use Rattle.moka_collapsing.specs.declared.answer.Answer.{Answer}
use Rattle.moka_collapsing.specs.declared.slot.Slot.{Slot}
use Rattle.moka_collapsing.specs.declared.slot.Slot.TheVariants.{Waits, Answered}
use Rattle.moka_collapsing.specs.Folds.{folded}
use Rattle.moka_collapsing.specs.Served.{IsAmong, all_slots}
use Rattle.moka_collapsing.specs.Upstream.{Waiter, without}
use Rattle.moka_collapsing.proofs.Listed.{hit, hits}

-- ---- what stands at an index

pub get_front : {X : Type 0} (xs ys : List X) (i : ℕ) (x : X) → slice_get xs i ≡ Some x → slice_get (xs ++ ys) i ≡ Some x
get_front [] ys i x e = absurd (none_some e)
get_front (y ∷ xs) ys zero x e = e
get_front (y ∷ xs) ys (suc i) x e = get_front xs ys i x e

pub get_last : {X : Type 0} (xs : List X) (x : X) → slice_get (xs ++ x ∷ []) (length xs) ≡ Some x
get_last [] x = refl
get_last (y ∷ xs) x = get_last xs x

-- in a list with one more: it stood there before, or it is that one
pub get_more : {X : Type 0} (xs : List X) (y : X) (i : ℕ) (x : X) (P : Type 0) → slice_get (xs ++ y ∷ []) i ≡ Some x →
    (slice_get xs i ≡ Some x → P) → (i ≡ length xs → y ≡ x → P) → P
get_more [] y zero x P e old new = new refl (some_same e)
get_more [] y (suc i) x P e old new = absurd (none_some e)
get_more (z ∷ xs) y zero x P e old new = old e
get_more (z ∷ xs) y (suc i) x P e old new = get_more xs y i x P e old (λ s t. new (ap suc s) t)

not_next : (n : ℕ) → zero ≡ suc n → ⊥
not_next n e = omega (arith, e)

one_less : (i j : ℕ) → suc i ≡ suc j → i ≡ j
one_less i j e = omega (arith, e)

-- in a list with one changed: it is that one, or it stood there before
pub get_set : {X : Type 0} (xs : List X) (i j : ℕ) (x y : X) (P : Type 0) → slice_get (slice_set xs i x) j ≡ Some y →
    (i ≡ j → x ≡ y → P) → (i ≢ j → slice_get xs j ≡ Some y → P) → P
get_set [] i j x y P e here there = absurd (none_some e)
get_set (z ∷ xs) zero zero x y P e here there = here refl (some_same e)
get_set (z ∷ xs) zero (suc j) x y P e here there = there (not_next j) e
get_set (z ∷ xs) (suc i) zero x y P e here there = there (λ s. not_next i (sym s)) e
get_set (z ∷ xs) (suc i) (suc j) x y P e here there = get_set xs i j x y P e (λ s t. here (ap suc s) t) (λ n t. there (λ s. n (one_less i j s)) t)

pub set_there : {X : Type 0} (xs : List X) (i j : ℕ) (x y : X) → i ≢ j → slice_get xs j ≡ Some y → slice_get (slice_set xs i x) j ≡ Some y
set_there [] i j x y other e = e
set_there (z ∷ xs) zero zero x y other e = absurd (other refl)
set_there (z ∷ xs) zero (suc j) x y other e = e
set_there (z ∷ xs) (suc i) zero x y other e = e
set_there (z ∷ xs) (suc i) (suc j) x y other e = set_there xs i j x y (λ s. other (ap suc s)) e

pub length_set : {X : Type 0} (xs : List X) (i : ℕ) (x : X) → length (slice_set xs i x) ≡ length xs
length_set [] i x = refl
length_set (y ∷ xs) zero x = refl
length_set (y ∷ xs) (suc i) x = ap suc (length_set xs i x)

-- ---- the slots of a client, from its first

pub map_append : (xs ys : List Answer) → map Answered (xs ++ ys) ≡ map Answered xs ++ map Answered ys
map_append [] ys = refl
map_append (x ∷ xs) ys = ap (λ l. Answered x ∷ l) (map_append xs ys)

-- one that waits hasn't left
pub waits_on : (answers : List Answer) (slots : List Slot) (i k n : ℕ) → slice_get (all_slots answers slots) i ≡ Some (Waits k n) → length answers ≤ i
waits_on [] slots i k n e = omega arith
waits_on (a ∷ answers) slots zero k n e = absurd (not_waits (some_same e))
  where
    not_waits : Answered a ≡ Waits k n → ⊥
    not_waits e = cc
waits_on (a ∷ answers) slots (suc i) k n e = omega (arith, waits_on answers slots i k n e)

-- one is changed that hasn't left
pub set_after : (answers : List Answer) (slots : List Slot) (i : ℕ) (s : Slot) → length answers ≤ i →
    all_slots answers (slice_set slots (i - length answers) s) ≡ slice_set (all_slots answers slots) i s
set_after [] slots i s h = ap (λ k. slice_set slots k s) (omega arith)
set_after (a ∷ answers) slots zero s h = absurd (omega (arith, h))
set_after (a ∷ answers) slots (suc i) s h =
    let less : suc i - length (a ∷ answers) ≡ i - length answers = omega arith in
    ap (λ k. Answered a ∷ all_slots answers (slice_set slots k s)) less ∙ ap (λ l. Answered a ∷ l) (set_after answers slots i s (omega (arith, h)))

-- one that has left was answered
pub left_answered : (answers : List Answer) (i : ℕ) (s : Slot) (P : Type 0) → slice_get (all_slots answers []) i ≡ Some s →
    ((a : Answer) → slice_get answers i ≡ Some a → Answered a ≡ s → P) → P
left_answered [] i s P e of = absurd (none_some e)
left_answered (a ∷ answers) zero s P e of = of a refl (some_same e)
left_answered (a ∷ answers) (suc i) s P e of = left_answered answers i s P e of

pub answered_at : (answers : List Answer) (slots : List Slot) (i : ℕ) (a : Answer) → slice_get answers i ≡ Some a → slice_get (all_slots answers slots) i ≡ Some (Answered a)
answered_at [] slots i a e = absurd (none_some e)
answered_at (b ∷ answers) slots zero a e = ap (λ x. Some (Answered x)) (some_same e)
answered_at (b ∷ answers) slots (suc i) a e = answered_at answers slots i a e

-- one that hasn't left
pub get_after : (answers : List Answer) (slots : List Slot) (i : ℕ) → slice_get (all_slots answers slots) (length answers + i) ≡ slice_get slots i
get_after [] slots i = ap (slice_get slots) (omega arith)
get_after (a ∷ answers) slots i =
    let more : length (a ∷ answers) + i ≡ suc (length answers + i) = omega arith in
    ap (slice_get (Answered a ∷ all_slots answers slots)) more ∙ get_after answers slots i

-- ---- who is among them

pub among_more : {X : Type 0} (xs ys : List X) (x : X) → IsAmong x xs → IsAmong x (xs ++ ys)
among_more [] ys x h = absurd h
among_more (z ∷ xs) ys x (inl e) = inl e
among_more (z ∷ xs) ys x (inr h) = inr (among_more xs ys x h)

pub among_last : {X : Type 0} (xs : List X) (x : X) → IsAmong x (xs ++ x ∷ [])
among_last [] x = inl refl
among_last (z ∷ xs) x = inr (among_last xs x)

pub among_either : {X : Type 0} (xs : List X) (y x : X) (P : Type 0) → IsAmong x (xs ++ y ∷ []) → (IsAmong x xs → P) → (y ≡ x → P) → P
among_either [] y x P (inl e) old new = new e
among_either [] y x P (inr h) old new = absurd h
among_either (z ∷ xs) y x P (inl e) old new = old (inl e)
among_either (z ∷ xs) y x P (inr h) old new = among_either xs y x P h (λ k. old (inr k)) new

pub among_map : {X Y : Type 0} (f : X → Y) (xs : List X) (x : X) → IsAmong x xs → IsAmong (f x) (map f xs)
among_map f [] x h = absurd h
among_map f (y ∷ xs) x (inl e) = inl (ap f e)
among_map f (y ∷ xs) x (inr h) = inr (among_map f xs x h)

pub among_back : {X Y : Type 0} (f : X → Y) (xs : List X) (y : Y) (P : Type 0) → IsAmong y (map f xs) → ((x : X) → IsAmong x xs → f x ≡ y → P) → P
among_back f [] y P h of = absurd h
among_back f (x ∷ xs) y P (inl e) of = of x (inl refl) e
among_back f (x ∷ xs) y P (inr h) of = among_back f xs y P h (λ z k e. of z (inr k) e)

-- one leaves a list
pub among_without : (n : ℕ) (ws : List Waiter) (v : Waiter) → IsAmong v (without n ws) → IsAmong v ws
among_without n [] v h = h
among_without n (w ∷ ws) v h = by (hits n w.0) h (among_without n ws v)
  where
    by : (t : Bool) → IsAmong v (cond t ws (w ∷ without n ws)) → (IsAmong v (without n ws) → IsAmong v ws) → IsAmong v (w ∷ ws)
    by true h rest = inr h
    by false (inl e) rest = inl e
    by false (inr h) rest = inr (rest h)

pub among_stays : (n : ℕ) (ws : List Waiter) (v : Waiter) → n ≢ v.0 → IsAmong v ws → IsAmong v (without n ws)
among_stays n [] v other h = h
among_stays n (w ∷ ws) v other h = by (hits n w.0) refl h (among_stays n ws v other)
  where
    by : (t : Bool) → hits n w.0 ≡ t → IsAmong v (w ∷ ws) → (IsAmong v ws → IsAmong v (without n ws)) → IsAmong v (cond t ws (w ∷ without n ws))
    by true is (inl e) rest = absurd (other (hit n w.0 is ∙ ap (λ x. x.0) e))
    by true is (inr h) rest = h
    by false is (inl e) rest = inl e
    by false is (inr h) rest = inr (rest h)

-- ---- ascending numbers

insert_keeps : (xs : List ℕ) (x n : ℕ) → IsAmong n xs → IsAmong n (insert_key nat_cmp xs x)
insert_keeps [] x n h = absurd h
insert_keeps (y ∷ xs) x n h = by (nat_cmp x y) h (insert_keeps xs x n)
  where
    by : (o : Ordering) → IsAmong n (y ∷ xs) → (IsAmong n xs → IsAmong n (insert_key nat_cmp xs x)) →
        IsAmong n (match_ordering o (x ∷ y ∷ xs) (y ∷ xs) (y ∷ insert_key nat_cmp xs x))
    by ordering.Less h rest = inr h
    by ordering.Equal h rest = h
    by ordering.Greater (inl e) rest = inl e
    by ordering.Greater (inr h) rest = inr (rest h)

insert_here : (xs : List ℕ) (x : ℕ) → IsAmong x (insert_key nat_cmp xs x)
insert_here [] x = inl refl
insert_here (y ∷ xs) x = by (nat_cmp x y) refl (insert_here xs x)
  where
    by : (o : Ordering) → nat_cmp x y ≡ o → IsAmong x (insert_key nat_cmp xs x) → IsAmong x (match_ordering o (x ∷ y ∷ xs) (y ∷ xs) (y ∷ insert_key nat_cmp xs x))
    by ordering.Less e rest = inl refl
    by ordering.Equal e rest = inl (sym (hit x y (ap is_eq e)))
    by ordering.Greater e rest = inr rest

-- who was there, and each that is put in
pub inserted_keep : (xs ys : List ℕ) (n : ℕ) → IsAmong n ys → IsAmong n (folded (insert_key nat_cmp) ys xs)
inserted_keep [] ys n h = h
inserted_keep (x ∷ xs) ys n h = inserted_keep xs (insert_key nat_cmp ys x) n (insert_keeps ys x n h)

pub inserted_all : (xs ys : List ℕ) (n : ℕ) → IsAmong n xs → IsAmong n (folded (insert_key nat_cmp) ys xs)
inserted_all [] ys n h = absurd h
inserted_all (x ∷ xs) ys n (inl e) = subst (λ m. IsAmong m (folded (insert_key nat_cmp) ys (x ∷ xs))) e (inserted_keep xs (insert_key nat_cmp ys x) x (insert_here ys x))
inserted_all (x ∷ xs) ys n (inr h) = inserted_all xs (insert_key nat_cmp ys x) n h
