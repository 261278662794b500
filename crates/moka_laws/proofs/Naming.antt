-- Of lists: what is in them, and of which some holds.
use Rattle.std.proofs.Common.{◌≡◌, ℕ, zero, suc, ◌<◌, Bool, true, false, cond, ◌&&◌, ◌||◌, List, [], ◌∷◌, ◌++◌, map, filter, length, Contains, slice_index_or, ◌⊎◌, inl, inr, refl, sym, ap, ◌∙◌, arith}
use Rattle.std.specs.List.{list_any}
use Rattle.std.proofs.lemmas.Bool.{false≢true}

pub and_first : (a b : Bool) → (a && b) ≡ true → a ≡ true
and_first true b h = refl
and_first false b h = h

pub and_second : (a b : Bool) → (a && b) ≡ true → b ≡ true
and_second true b h = h
and_second false b h = absurd (false≢true h)

module _ {A : Type 0} where
  -- it stands in the list
  abbrev pub IsIn : List A → A → Type 0
  IsIn [] x = ⊥
  IsIn (y ∷ ys) x = (y ≡ x) ⊎ IsIn ys x

  pub contains_in : (xs : List A) (x : A) → Contains xs x → IsIn xs x
  contains_in [] x h = absurd (omega (arith, h.1))
  contains_in (y ∷ ys) x h = by h.0 h.1 h.2 (contains_in ys x)
    where
      by : (k : ℕ) → k < length (y ∷ ys) → slice_index_or (y ∷ ys) k x ≡ x → (Contains ys x → IsIn ys x) → IsIn (y ∷ ys) x
      by zero l e more = inl e
      by (suc k) l e more = inr (more (k, omega (arith, l), e))

  pub in_contains : (xs : List A) (x : A) → IsIn xs x → Contains xs x
  in_contains [] x h = absurd h
  in_contains (y ∷ ys) x (inl e) = (0, omega arith, e)
  in_contains (y ∷ ys) x (inr h) = let k = in_contains ys x h in (suc k.0, omega (arith, k.1), k.2)

  -- what stands in a longer list stood in it, or is its last
  pub in_front : (xs : List A) (x y : A) → IsIn xs x → IsIn (xs ++ y ∷ []) x
  in_front [] x y h = absurd h
  in_front (z ∷ zs) x y (inl e) = inl e
  in_front (z ∷ zs) x y (inr h) = inr (in_front zs x y h)

  pub in_last : (xs : List A) (x y : A) → y ≡ x → IsIn (xs ++ y ∷ []) x
  in_last [] x y e = inl e
  in_last (z ∷ zs) x y e = inr (in_last zs x y e)

  module _ (f : A → Bool) where
    -- some holds where it holds of one that stands there, and there is one where some does
    pub any_holds : (xs : List A) (x : A) → IsIn xs x → f x ≡ true → list_any f xs ≡ true
    any_holds [] x h e = absurd h
    any_holds (y ∷ ys) x (inl same) e = first (f y) (ap f same ∙ e)
      where
        first : (b : Bool) → b ≡ true → (b || list_any f ys) ≡ true
        first true h = refl
        first false h = absurd (false≢true h)
    any_holds (y ∷ ys) x (inr h) e = later (f y) (any_holds ys x h e)
      where
        later : (b : Bool) → list_any f ys ≡ true → (b || list_any f ys) ≡ true
        later true h = refl
        later false h = h

    pub any_found : (xs : List A) → list_any f xs ≡ true → (x : A) × IsIn xs x × (f x ≡ true)
    any_found [] h = absurd (false≢true h)
    any_found (y ∷ ys) h = by (f y) refl h (any_found ys)
      where
        by : (b : Bool) → f y ≡ b → (b || list_any f ys) ≡ true → (list_any f ys ≡ true → (x : A) × IsIn ys x × (f x ≡ true)) →
            (x : A) × IsIn (y ∷ ys) x × (f x ≡ true)
        by true e h more = (y, inl refl, e)
        by false e h more = let k = more h in (k.0, inr k.1, k.2)

    -- what a filter keeps stood there, and passes
    pub filter_in : (xs : List A) (x : A) → IsIn xs x → f x ≡ true → IsIn (filter f xs) x
    filter_in [] x h e = absurd h
    filter_in (y ∷ ys) x (inl same) e = by (f y) (ap f same ∙ e)
      where
        by : (b : Bool) → b ≡ true → IsIn (cond b (y ∷ filter f ys) (filter f ys)) x
        by true h = inl same
        by false h = absurd (false≢true h)
    filter_in (y ∷ ys) x (inr h) e = by (f y) (filter_in ys x h e)
      where
        by : (b : Bool) → IsIn (filter f ys) x → IsIn (cond b (y ∷ filter f ys) (filter f ys)) x
        by true k = inr k
        by false k = k

    pub in_filter : (xs : List A) (x : A) → IsIn (filter f xs) x → IsIn xs x × (f x ≡ true)
    in_filter [] x h = absurd h
    in_filter (y ∷ ys) x h = by (f y) refl h (in_filter ys x)
      where
        by : (b : Bool) → f y ≡ b → IsIn (cond b (y ∷ filter f ys) (filter f ys)) x → (IsIn (filter f ys) x → IsIn ys x × (f x ≡ true)) →
            IsIn (y ∷ ys) x × (f x ≡ true)
        by true e (inl same) more = (inl same, ap f (sym same) ∙ e)
        by true e (inr k) more = let i = more k in (inr i.0, i.1)
        by false e k more = let i = more k in (inr i.0, i.1)

    -- some of those that a filter keeps, or of all but a last of which it doesn't hold
    pub any_kept : (g : A → Bool) (xs : List A) → list_any f (filter g xs) ≡ true → list_any f xs ≡ true
    any_kept g [] h = h
    any_kept g (y ∷ ys) h = by (g y) h (any_kept g ys)
      where
        or_more : (b c d : Bool) → (c ≡ true → d ≡ true) → (b || c) ≡ true → (b || d) ≡ true
        or_more true c d more h = refl
        or_more false c d more h = more h

        or_later : (b c : Bool) → c ≡ true → (b || c) ≡ true
        or_later true c h = refl
        or_later false c h = h

        by : (b : Bool) → list_any f (cond b (y ∷ filter g ys) (filter g ys)) ≡ true → (list_any f (filter g ys) ≡ true → list_any f ys ≡ true) →
            (f y || list_any f ys) ≡ true
        by true h more = or_more (f y) (list_any f (filter g ys)) (list_any f ys) more h
        by false h more = or_later (f y) (list_any f ys) (more h)

    pub any_first : (xs : List A) (y : A) → f y ≡ false → list_any f (xs ++ y ∷ []) ≡ true → list_any f xs ≡ true
    any_first [] y none h = absurd (by (f y) none h)
      where
        by : (b : Bool) → b ≡ false → (b || false) ≡ true → ⊥
        by true e h = false≢true (sym e)
        by false e h = false≢true h
    any_first (x ∷ xs) y none h = by (f x) h (any_first xs y none)
      where
        by : (b : Bool) → (b || list_any f (xs ++ y ∷ [])) ≡ true → (list_any f (xs ++ y ∷ []) ≡ true → list_any f xs ≡ true) →
            (b || list_any f xs) ≡ true
        by true h more = refl
        by false h more = more h

module _ {A B : Type 0} (f : A → B) where
  -- what stands in a list of what comes of others is of one of them, and what comes of one does
  pub in_map : (xs : List A) (y : B) → IsIn (map f xs) y → (x : A) × IsIn xs x × (f x ≡ y)
  in_map [] y h = absurd h
  in_map (x ∷ xs) y (inl e) = (x, inl refl, e)
  in_map (x ∷ xs) y (inr h) = let k = in_map xs y h in (k.0, inr k.1, k.2)
