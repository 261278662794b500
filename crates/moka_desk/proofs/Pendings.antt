-- The earliest moment that is pending among the calls up to some number.
use Rattle.std.proofs.Common.{◌≡◌, ◌≢◌, ◌≤◌, ◌<◌, ◌+◌, ◌==◌, nat_le, nat_lt, not, cond, map, filter, length, take, get_or, ℕ, zero, suc, Bool, true, false, ◌&&◌, ◌||◌, List, [], ◌∷◌, Option, Some, None, is_some, nat_eq, ◌⊎◌, inl, inr, arith, refl, sym, ap, ◌∙◌, subst}
use Rattle.std.specs.HashMap.{get}
use Rattle.std.specs.List.{list_any}
use Rattle.std.specs.Map.{lookup}
use Rattle.std.specs.Option.{option_and_then, option_map_or}
use Rattle.std.proofs.lemmas.Bool.{and_parts, eqb-true, eq-eqb, false≢true, le-leb, leb-true, or_cases, or_left, or_right}
use Rattle.std.proofs.lemmas.List.Elements.{filter_agree}
use Rattle.std.proofs.lemmas.List.Folds.{list_any_more}
use Rattle.moka_hist.specs.State.{DeskPart}
use Rattle.moka_hist.specs.Visits.{candidates, is_candidate, moment_of, named_of, some_pending_by}
use Rattle.moka_hist.specs.declared.predicates.Registered.{Registered}
use Rattle.moka_hist.specs.declared.writes.Holding.{Holding}
use Rattle.moka_desk.specs.Held.{held_by, pends_by, pends_up_to, some_pends_by}
use Rattle.moka_desk.specs.Notices.{either}
use Rattle.moka_desk.specs.Predicates.{is_over_by}
use Rattle.moka_desk.specs.declared.holdings.Holdings.{Holdings}

module _ (h : Holdings) (moment : ℕ) where
  -- what holds of some call up to a number, holds of one
  some_is : (last n : ℕ) → n ≤ last → pends_by h moment n ≡ true → some_pends_by h moment last ≡ true
  unfolding some_pends_by
  some_is zero n low e = subst (λ v. pends_by h moment v ≡ true) (omega (arith, low)) e
  some_is (suc last) n low e = by (n == suc last) refl (λ less. some_is last n less e)
    where
      by : (b : Bool) → (n == suc last) ≡ b → (n ≤ last → some_pends_by h moment last ≡ true) →
          (pends_by h moment (suc last) || some_pends_by h moment last) ≡ true
      by true same more = or_left (pends_by h moment (suc last)) (some_pends_by h moment last) (subst (λ v. pends_by h moment v ≡ true) (eqb-true n (suc last) same) e)
      by false differs more = or_right (pends_by h moment (suc last)) (some_pends_by h moment last)
          (more (less (λ same. false≢true (sym differs ∙ eq-eqb n (suc last) same))))
        where
          less : n ≢ suc last → n ≤ last
          less apart = omega (arith, low, apart)

  one_of : (last : ℕ) → some_pends_by h moment last ≡ true → (n : ℕ) × (n ≤ last) × (pends_by h moment n ≡ true)
  unfolding some_pends_by
  one_of zero e = (0, omega arith, e)
  one_of (suc last) e = by (or_cases (pends_by h moment (suc last)) (some_pends_by h moment last) e) (one_of last)
    where
      by : (pends_by h moment (suc last) ≡ true) ⊎ (some_pends_by h moment last ≡ true) →
          (some_pends_by h moment last ≡ true → (n : ℕ) × (n ≤ last) × (pends_by h moment n ≡ true)) →
          (n : ℕ) × (n ≤ suc last) × (pends_by h moment n ≡ true)
      by (inl this) more = (suc last, omega arith, this)
      by (inr other) more = let k = more other in (k.0, omega (arith, k.1), k.2)

module _ {A : Type 0} (f : A → Bool) where
  any_one : (xs : List A) → list_any f xs ≡ true → (x : A) × (f x ≡ true)
  any_one [] e = absurd (false≢true e)
  any_one (x ∷ xs) e = by (f x) refl e (any_one xs)
    where
      by : (b : Bool) → f x ≡ b → (b || list_any f xs) ≡ true → (list_any f xs ≡ true → (y : A) × (f y ≡ true)) → (y : A) × (f y ≡ true)
      by true is h more = (x, is)
      by false is h more = more h

-- a number that is among those holds for some of them
any_member : (f : ℕ → Bool) (n : ℕ) (xs : List ℕ) → list_any (nat_eq n) xs ≡ true → f n ≡ true → list_any f xs ≡ true
any_member f n [] is e = is
any_member f n (x ∷ xs) is e = by (or_cases (nat_eq n x) (list_any (nat_eq n) xs) is) (λ later. any_member f n xs later e)
  where
    by : (nat_eq n x ≡ true) ⊎ (list_any (nat_eq n) xs ≡ true) → (list_any (nat_eq n) xs ≡ true → list_any f xs ≡ true) → (f x || list_any f xs) ≡ true
    by (inl this) more = or_left (f x) (list_any f xs) (ap f (sym (eqb-true n x this)) ∙ e)
    by (inr later) more = or_right (f x) (list_any f xs) (more later)

any_held : (f : ℕ → Bool) (n : ℕ) (xs : List (ℕ × Holding)) → is_some (lookup (nat_eq n) xs) ≡ true → f n ≡ true → list_any (λ h. f h.0) xs ≡ true
any_held f n [] is e = is
any_held f n (x ∷ xs) is e = by (nat_eq n x.0) refl is (λ later. any_held f n xs later e)
  where
    by : (b : Bool) → nat_eq n x.0 ≡ b → is_some (cond b (Some x.1) (lookup (nat_eq n) xs)) ≡ true →
        (is_some (lookup (nat_eq n) xs) ≡ true → list_any (λ h. f h.0) xs ≡ true) → (f x.0 || list_any (λ h. f h.0) xs) ≡ true
    by true this h more = or_left (f x.0) (list_any (λ v. f v.0) xs) (ap f (sym (eqb-true n x.0 this)) ∙ e)
    by false other h more = or_right (f x.0) (list_any (λ v. f v.0) xs) (more h)

same_bool : (a b : Bool) → (a ≡ true → b ≡ true) → (b ≡ true → a ≡ true) → a ≡ b
same_bool true b there back = sym (there refl)
same_bool false true there back = back refl
same_bool false false there back = refl

-- some call up to the number has a moment pending, where one of those does that hold something
pub some_listed : (h : Holdings) (moment last : ℕ) (calls : List ℕ) → ((q : ℕ) → is_some (get nat_eq h.by_call q) ≡ list_any (nat_eq q) calls) →
    some_pends_by h moment last ≡ (list_any (pends_up_to h last moment) calls || list_any (λ v. pends_up_to h last moment v.0) h.rest.items)
some_listed h moment last calls are = same_bool _ _ there back
  where
    f : ℕ → Bool
    f = pends_up_to h last moment

    pending_held : (o : Option Holding) → option_map_or (λ taken. nat_le taken moment) (option_and_then moment_of o) false ≡ true → is_some o ≡ true
    pending_held None e = e
    pending_held (Some held) e = refl

    one : (a b : Option Holding) → is_some (either a b) ≡ true → (is_some a ≡ true) ⊎ (is_some b ≡ true)
    one None b e = inr e
    one (Some x) b e = inl refl

    there : some_pends_by h moment last ≡ true → (list_any f calls || list_any (λ v. f v.0) h.rest.items) ≡ true
    there e = by (one_of h moment last e)
      where
        by : (n : ℕ) × (n ≤ last) × (pends_by h moment n ≡ true) → (list_any f calls || list_any (λ v. f v.0) h.rest.items) ≡ true
        by k = in_one (one (get nat_eq h.by_call k.0) (lookup (nat_eq k.0) h.rest.items) (pending_held (held_by h k.0) k.2))
          where
            holds : f k.0 ≡ true
            holds = ap (λ b. b && pends_by h moment k.0) (le-leb k.0 last k.1) ∙ k.2

            in_one : (is_some (get nat_eq h.by_call k.0) ≡ true) ⊎ (is_some (lookup (nat_eq k.0) h.rest.items) ≡ true) →
                (list_any f calls || list_any (λ v. f v.0) h.rest.items) ≡ true
            in_one (inl m) = or_left (list_any f calls) (list_any (λ v. f v.0) h.rest.items) (any_member f k.0 calls (sym (are k.0) ∙ m) holds)
            in_one (inr m) = or_right (list_any f calls) (list_any (λ v. f v.0) h.rest.items) (any_held f k.0 h.rest.items m holds)

    of_one : (n : ℕ) → f n ≡ true → some_pends_by h moment last ≡ true
    of_one n e = let k = and_parts (nat_le n last) (pends_by h moment n) e in some_is h moment last n (leb-true n last k.0) k.1

    back : (list_any f calls || list_any (λ v. f v.0) h.rest.items) ≡ true → some_pends_by h moment last ≡ true
    back e = by (or_cases (list_any f calls) (list_any (λ v. f v.0) h.rest.items) e)
      where
        by : (list_any f calls ≡ true) ⊎ (list_any (λ v. f v.0) h.rest.items ≡ true) → some_pends_by h moment last ≡ true
        by (inl m) = let k = any_one f calls m in of_one k.0 k.1
        by (inr m) = let k = any_one (λ (v : ℕ × Holding). f v.0) h.rest.items m in of_one k.0.0 k.1

-- one more call was looked at
pub one_more_looked : (before this new rest all : Bool) → (before || (this || rest)) ≡ all → new ≡ (before || this) → (new || rest) ≡ all
one_more_looked true this new rest all was is = ap (λ b. b || rest) is ∙ was
one_more_looked false this new rest all was is = ap (λ b. b || rest) is ∙ was

-- and so one more of a list, beside others
pub one_more_listed : (f : ℕ → Bool) (others before new : Bool) (read held : List (ℕ × Holding)) (i : ℕ) (d : ℕ × Holding) → read ≡ held → i < length held →
    before ≡ (others || list_any (λ v. f v.0) (take i held)) → new ≡ (before || f (get_or read i d).0) → new ≡ (others || list_any (λ v. f v.0) (take (i + 1) held))
one_more_listed f others before new read held i d same within was is =
    is ∙ ap (λ xs. before || f (get_or xs i d).0) same ∙ ap (λ b. b || f (get_or held i d).0) was ∙ by others ∙ ap (λ b. others || b) (sym (list_any_more (λ (v : ℕ × Holding). f v.0) held i d within))
  where
    by : (b : Bool) → ((b || list_any (λ v. f v.0) (take i held)) || f (get_or held i d).0) ≡ (b || (list_any (λ v. f v.0) (take i held) || f (get_or held i d).0))
    by true = refl
    by false = refl

-- and so it is in the state for which they stand
pub pending_there : {K V E : Type 0} (h : Holdings) (w : DeskPart K V E) → ((n : ℕ) → held_by h n ≡ w.holding n) → (moment last : ℕ) →
    some_pends_by h moment last ≡ some_pending_by w moment last
unfolding some_pends_by
pending_there h w are moment zero = ap (λ o. option_map_or (λ taken. nat_le taken moment) (option_and_then moment_of o) false) (are 0)
pending_there h w are moment (suc last) =
    ap (λ o. option_map_or (λ taken. nat_le taken moment) (option_and_then moment_of o) false || some_pends_by h moment last) (are (suc last))
    ∙ ap (λ b. option_map_or (λ taken. nat_le taken moment) (option_and_then moment_of (w.holding (suc last))) false || b) (pending_there h w are moment last)

-- those that are over at the clock, before the earliest moment that is pending, are the candidates
pub over_are : {K V E : Type 0} (h : Holdings) (w : DeskPart K V E) (clock last : ℕ) (pending : Option ℕ) (kept : List Registered) (over : List (ℕ × ℕ)) →
    clock ≡ w.clock → last ≡ w.last → kept ≡ w.registered → ((n : ℕ) → held_by h n ≡ w.holding n) →
    ((moment : ℕ) → some_pends_by h moment last ≡ option_map_or (λ taken. nat_le taken moment) pending false) →
    over ≡ map named_of (filter (is_over_by clock pending) kept) → over ≡ candidates w
over_are h w clock last pending kept over now latest same are earliest is =
    is ∙ ap (λ rs. map named_of (filter (is_over_by clock pending) rs)) same
    ∙ ap (map named_of) (filter_agree (is_over_by clock pending) (is_candidate w) each w.registered)
  where
    each : (r : Registered) → is_over_by clock pending r ≡ is_candidate w r
    each r =
        ap (λ k. is_over_by k pending r) now
        ∙ ap (λ b. nat_lt r.moment w.clock && not b) (sym (earliest r.moment) ∙ ap (some_pends_by h r.moment) latest ∙ pending_there h w are r.moment w.last)
