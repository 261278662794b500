-- The place of the newest call, beside those of the others.
use Rattle.std.proofs.Common.{◌≡◌, ◌≢◌, ◌<◌, ◌==◌, ◌++◌, ℕ, Bool, true, false, not, cond, List, [], ◌∷◌, Option, Some, None, IsSome, OnSome, nat_eq, refl, sym, ap, subst, ◌∙◌, append_assoc, append-nil, arith, option_to_list}
use Rattle.std.specs.List.{IsDistinct, AllByRecursion, filter, filter_map, cons_option}
use Rattle.std.specs.Map.{lookup, keys_of, values_of}
use Rattle.std.specs.Option.{option_and_then, option_map}
use Rattle.std.proofs.lemmas.Bool.{eqb-true, eqb-false}
use Rattle.std.proofs.lemmas.Map.Made.{IsDistinct-keys_filter}
use Rattle.moka_hist.specs.State.{Call}
use Rattle.moka_hist.specs.declared.visits.Visit.{Visit}
use Rattle.moka_desk.proofs.WhoHolds.{flip, others_hold, same_number}
use Rattle.moka_machine.specs.declared.call_places.Running.{Running}
use Rattle.moka_machine.specs.Calls.{AreDue, AreNumbered, due_in, emptied, held_in, of_others, runs_in}
use Rattle.moka_machine.specs.Listed.{AreHeld}
use Rattle.moka_machine.specs.Machine.{call_in}
use Rattle.moka_machine.proofs.LiveCalls.{live_due, live_hold}

module _ {A : Type 0} where
  -- one place that is set before the newest one
  pub set_before : (last call n : ℕ) (newest place before : A) → call < last
      → cond (last == n) newest (cond (call == n) place before) ≡ cond (call == n) place (cond (last == n) newest before)
  set_before last call n newest place before less = by (last == n) refl (call == n) refl
    where
      by : (a : Bool) → (last == n) ≡ a → (b : Bool) → (call == n) ≡ b
          → cond a newest (cond b place before) ≡ cond b place (cond a newest before)
      by true e true f = let l = eqb-true last n e in let c = eqb-true call n f in absurd (omega (arith, less, l, c))
      by true e false f = refl
      by false e true f = refl
      by false e false f = refl

  -- one place that is set beside the newest one
  pub set_beside : (last call n : ℕ) (newest place before : A) → call ≢ last
      → cond (last == n) newest (cond (call == n) place before) ≡ cond (call == n) place (cond (last == n) newest before)
  set_beside last call n newest place before apart = by (last == n) refl (call == n) refl
    where
      by : (a : Bool) → (last == n) ≡ a → (b : Bool) → (call == n) ≡ b → cond a newest (cond b place before) ≡ cond b place (cond a newest before)
      by true e true f = absurd (apart (eqb-true call n f ∙ sym (eqb-true last n e)))
      by true e false f = refl
      by false e true f = refl
      by false e false f = refl

  -- what is set last stands
  set_over : (b : Bool) (place first second : A) → cond b place second ≡ cond b place (cond b first second)
  set_over true place first second = refl
  set_over false place first second = refl

  -- the newest place is set
  pub set_newest : (last call n : ℕ) (place newest before : A) → call ≡ last → cond (last == n) place before ≡ cond (call == n) place (cond (last == n) newest before)
  set_newest last call n place newest before is =
      subst (λ (m : ℕ). cond (m == n) place before ≡ cond (call == n) place (cond (m == n) newest before)) is (set_over (call == n) place newest before)

  -- the newest place is set, and the others stay
  pub set_latest : (last call n : ℕ) (place newest before old : A) → last ≡ call → (n ≢ call → cond (last == n) newest before ≡ old)
      → cond (last == n) place before ≡ cond (call == n) place old
  set_latest last call n place newest before old is others = ap (λ (m : ℕ). cond (m == n) place before) is ∙ by (call == n) refl
    where
      by : (b : Bool) → (call == n) ≡ b → cond b place before ≡ cond b place old
      by true e = refl
      by false e = sym (ap (λ b. cond b newest before) (ap (λ (m : ℕ). m == n) is ∙ e)) ∙ others (λ h. eqb-false call n e (sym h))

  -- what the newest call has, and another
  pub newest_has : (last call : ℕ) (newest other : A) → call ≡ last → cond (last == call) newest other ≡ newest
  newest_has last call newest other is = subst (λ (m : ℕ). cond (m == call) newest other ≡ newest) is (ap (λ b. cond b newest other) (same_number call))

  pub other_has : (last call : ℕ) (newest other : A) → call ≢ last → cond (last == call) newest other ≡ other
  other_has last call newest other apart = by (last == call) refl
    where
      by : (b : Bool) → (last == call) ≡ b → cond b newest other ≡ other
      by true e = absurd (apart (sym (eqb-true last call e)))
      by false e = refl

-- one more was listed, if there was one
pub one_more : {A B : Type 0} (f : B → Option A) (so_far : List A) (x : B) (rest : List B) (now all : List A) → now ≡ so_far ++ option_to_list (f x)
    → so_far ++ filter_map f (x ∷ rest) ≡ all → now ++ filter_map f rest ≡ all
one_more {A} f so_far x rest now all is e = ap (λ v. v ++ filter_map f rest) is ∙ by (f x) ∙ e
  where
    by : (o : Option A) → (so_far ++ option_to_list o) ++ filter_map f rest ≡ so_far ++ cons_option o (filter_map f rest)
    by None = ap (λ v. v ++ filter_map f rest) (append-nil so_far)
    by (Some a) = append_assoc so_far (a ∷ []) (filter_map f rest)

module _ {K V E : Type 0} where
  pub left_some : (place left : Option (Option (Running K V E))) (out : Option (Running K V E)) → out ≡ runs_in place → left ≡ emptied place → OnSome out (IsSome left)
  left_some place left out is are = subst (λ (o : Option (Running K V E)). OnSome o (IsSome left)) (sym is) (subst (λ (l : Option (Option (Running K V E))). OnSome (runs_in place) (IsSome l)) (sym are) (by place))
    where
      by : (p : Option (Option (Running K V E))) → OnSome (runs_in p) (IsSome (emptied p))
      by None = tt
      by (Some None) = tt
      by (Some (Some r)) = refl

  -- ---- the lists of calls

  -- the places but that of this number
  abbrev others : ℕ → List (ℕ × Option (Running K V E)) → List (ℕ × Option (Running K V E))
  others last es = filter (λ e. not (e.0 == last)) es

  -- these places, after that of the newest call, if it has one
  abbrev with_newest : ℕ → Option (Option (Running K V E)) → List (ℕ × Option (Running K V E)) → List (ℕ × Option (Running K V E))
  with_newest last None es = es
  with_newest last (Some place) es = (last, place) ∷ es

  placed : (last : ℕ) (newest : Option (Option (Running K V E))) (es : List (ℕ × Option (Running K V E))) (n : ℕ)
      → lookup (nat_eq n) (with_newest last newest (others last es)) ≡ cond (last == n) newest (lookup (nat_eq n) es)
  placed last None es n = others_hold last n es
  placed last (Some place) es n =
      ap (λ o. cond (nat_eq n last) (Some place) o) (others_hold last n es)
      ∙ ap (λ b. cond b (Some place) (cond (last == n) None (lookup (nat_eq n) es))) (flip n last)
      ∙ by (last == n)
    where
      by : (b : Bool) → cond b (Some place) (cond b None (lookup (nat_eq n) es)) ≡ cond b (Some place) (lookup (nat_eq n) es)
      by true = refl
      by false = refl

  newest_apart : (last : ℕ) (es : List (ℕ × Option (Running K V E))) → AllByRecursion (λ y. nat_eq last y ≡ false) (keys_of (others last es))
  newest_apart last [] = tt
  newest_apart last (e ∷ es) = by (e.0 == last) refl (newest_apart last es)
    where
      by : (b : Bool) → (e.0 == last) ≡ b → AllByRecursion (λ y. nat_eq last y ≡ false) (keys_of (others last es))
          → AllByRecursion (λ y. nat_eq last y ≡ false) (keys_of (cond (not b) (e ∷ others last es) (others last es)))
      by true is apart = apart
      by false is apart = (flip last e.0 ∙ is, apart)

  all_apart : (last : ℕ) (newest : Option (Option (Running K V E))) (es : List (ℕ × Option (Running K V E))) → IsDistinct nat_eq (keys_of es)
      → IsDistinct nat_eq (keys_of (with_newest last newest (others last es)))
  unfolding IsDistinct
  all_apart last None es unique = IsDistinct-keys_filter nat_eq (λ (e : ℕ × Option (Running K V E)). not (e.0 == last)) es unique
  all_apart last (Some place) es unique =
      (newest_apart last es, IsDistinct-keys_filter nat_eq (λ (e : ℕ × Option (Running K V E)). not (e.0 == last)) es unique)

  same_held : (numbers : List ℕ) (f g : ℕ → Option (Call K V E)) → ((n : ℕ) → f n ≡ g n) → AreHeld numbers f → AreHeld numbers g
  same_held numbers f g same h =
      record { calls = h.calls; lists = record { distinct = h.lists.distinct; same = λ q. h.lists.same q ∙ same q }; are = h.are }

  same_due : (visits : List (Visit K V E)) (f g : ℕ → Option (Call K V E)) → ((n : ℕ) → f n ≡ g n) → AreDue visits f → AreDue visits g
  same_due visits f g same h =
      record { calls = h.calls; lists = record { distinct = h.lists.distinct; same = λ q. h.lists.same q ∙ same q }; are = h.are }

-- what all places tell, by that of the newest call and those of the others
module _ {K V E A : Type 0} (tells : Option (Running K V E) → Option A) where
  tell_others : (last : ℕ) (es : List (ℕ × Option (Running K V E))) → filter_map (of_others last tells) es ≡ filter_map tells (values_of (others last es))
  tell_others last [] = refl
  tell_others last (e ∷ es) = by (e.0 == last) (tell_others last es)
    where
      by : (b : Bool) → filter_map (of_others last tells) es ≡ filter_map tells (values_of (others last es))
          → cons_option (cond b None (tells e.1)) (filter_map (of_others last tells) es) ≡ filter_map tells (values_of (cond (not b) (e ∷ others last es) (others last es)))
      by true same = same
      by false same = ap (cons_option (tells e.1)) same

  tell_first : (last : ℕ) (newest : Option (Option (Running K V E))) (es : List (ℕ × Option (Running K V E)))
      → option_to_list (option_and_then tells newest) ++ filter_map tells (values_of es) ≡ filter_map tells (values_of (with_newest last newest es))
  tell_first last None es = refl
  tell_first last (Some place) es = by (tells place)
    where
      by : (o : Option A) → option_to_list o ++ filter_map tells (values_of es) ≡ cons_option o (filter_map tells (values_of es))
      by None = refl
      by (Some a) = refl

  tell_all : (last : ℕ) (newest : Option (Option (Running K V E))) (es : List (ℕ × Option (Running K V E)))
      → option_to_list (option_and_then tells newest) ++ filter_map (of_others last tells) es ≡ filter_map tells (values_of (with_newest last newest (others last es)))
  tell_all last newest es =
      ap (λ xs. option_to_list (option_and_then tells newest) ++ xs) (tell_others last es) ∙ tell_first last newest (others last es)

module _ {K V E : Type 0} where
  -- the numbers that all calls hold
  pub all_hold : (last : ℕ) (newest : Option (Option (Running K V E))) (es : List (ℕ × Option (Running K V E))) → IsDistinct nat_eq (keys_of es)
      → (numbers : List ℕ) → numbers ≡ option_to_list (option_and_then held_in newest) ++ filter_map (of_others last held_in) es
      → AreHeld numbers (λ n. option_map call_in (runs_in (cond (last == n) newest (lookup (nat_eq n) es))))
  all_hold last newest es unique numbers e =
      same_held numbers (λ n. option_map call_in (runs_in (lookup (nat_eq n) (with_newest last newest (others last es))))) (λ n. option_map call_in (runs_in (cond (last == n) newest (lookup (nat_eq n) es))))
      (λ n. ap (λ p. option_map call_in (runs_in p)) (placed last newest es n))
      (live_hold (with_newest last newest (others last es)) (all_apart last newest es unique) numbers (e ∙ tell_all held_in last newest es))

  -- the visits that open the notices of all calls that are due
  pub all_due : (last : ℕ) (newest : Option (Option (Running K V E))) (es : List (ℕ × Option (Running K V E))) → IsDistinct nat_eq (keys_of es)
      → (visits : List (Visit K V E)) → visits ≡ option_to_list (option_and_then due_in newest) ++ filter_map (of_others last due_in) es
      → AreNumbered (λ n. runs_in (cond (last == n) newest (lookup (nat_eq n) es)))
      → AreDue visits (λ n. option_map call_in (runs_in (cond (last == n) newest (lookup (nat_eq n) es))))
  all_due last newest es unique visits e numbered =
      same_due visits (λ n. option_map call_in (runs_in (lookup (nat_eq n) (with_newest last newest (others last es))))) (λ n. option_map call_in (runs_in (cond (last == n) newest (lookup (nat_eq n) es))))
      (λ n. ap (λ p. option_map call_in (runs_in p)) (placed last newest es n))
      (live_due (with_newest last newest (others last es)) (all_apart last newest es unique) visits (e ∙ tell_all due_in last newest es)
      (λ n r f. numbered n r (ap runs_in (sym (placed last newest es n)) ∙ f)))
