-- The lists of two reports on one state are of the same lengths.
use Rattle.std.proofs.Common.{◌≡◌, ℕ, ◌+◌, Bool, true, false, cond, List, [], ◌∷◌, ◌++◌, map, length, Option, Some, None, is_some, unwrap_or, nat_eq, refl, sym, ap, ◌∙◌, subst, arith}
use Rattle.std.specs.Cmp.{nat_eq_equiv}
use Rattle.std.specs.List.{AllByRecursion, IsDistinct, cons_option, count_by, filter_map, sum_by}
use Rattle.std.specs.Map.{keys_of, lookup, remove_entry, values_of}
use Rattle.std.specs.Option.{option_map}
use Rattle.std.proofs.lemmas.Bool.{eqb-true}
use Rattle.std.proofs.lemmas.List.{length-append, length-map}
use Rattle.std.proofs.lemmas.List.Sorted.{length_permutation, sum_by-IsPermutation}
use Rattle.std.proofs.lemmas.List.Sums.{sum_by-append, sum_by-cons}
use Rattle.std.proofs.lemmas.Map.{lookup-remove_entry}
use Rattle.std.proofs.lemmas.Map.Entries.{lookup_head, sum_by-remove_entry}
use Rattle.moka_hist.specs.Finite.{Lists}
use Rattle.moka_hist.specs.State.{Call, DeskPart, State}
use Rattle.moka_hist.specs.Visits.{number_of}
use Rattle.moka_hist.specs.declared.notices.Notice.{Notice}
use Rattle.moka_hist.specs.declared.records.Stored.{Stored}
use Rattle.moka_hist.specs.declared.writes.Place.{Place}
use Rattle.moka_hist.specs.declared.writes.Place.TheVariants as place
use Rattle.moka_laws.proofs.Counting.{none_some}
use Rattle.moka_machine.specs.Calls.{opening_of}
use Rattle.moka_machine.specs.Listed.{AreNotices, ArePlaces, all_places, at_place, held_number, opened_in, waiting}
use Rattle.moka_table.specs.Map.{ListsPairs, Pairs}

-- what stands in the lists of one map adds up to the same
module _ {X : Type 0} where
  all_without : (P : ℕ → Type 0) (test : ℕ → Bool) (es : List (ℕ × X)) →
      AllByRecursion P (keys_of es) → AllByRecursion P (keys_of (remove_entry test es))
  all_without P test [] a = tt
  all_without P test (e ∷ es) a = by (test e.0) (all_without P test es a.1)
    where
      by : (b : Bool) → AllByRecursion P (keys_of (remove_entry test es)) →
          AllByRecursion P (keys_of (cond b es (e ∷ remove_entry test es)))
      by true h = a.1
      by false h = (a.0, h)

  distinct_without : (test : ℕ → Bool) (es : List (ℕ × X)) → IsDistinct nat_eq (keys_of es) →
      IsDistinct nat_eq (keys_of (remove_entry test es))
  unfolding IsDistinct
  distinct_without test [] d = d
  distinct_without test (e ∷ es) d = by (test e.0) (distinct_without test es d.1)
    where
      by : (b : Bool) → IsDistinct nat_eq (keys_of (remove_entry test es)) →
          IsDistinct nat_eq (keys_of (cond b es (e ∷ remove_entry test es)))
      by true h = d.1
      by false h = (all_without (λ y. nat_eq e.0 y ≡ false) test es d.0, h)

  tail_distinct : (x : ℕ × X) (xs : List (ℕ × X)) → IsDistinct nat_eq (keys_of (x ∷ xs)) →
      IsDistinct nat_eq (keys_of xs)
  unfolding IsDistinct
  tail_distinct x xs d = d.1

  values_same : (f : X → ℕ) (es fs : List (ℕ × X)) → IsDistinct nat_eq (keys_of es) →
      IsDistinct nat_eq (keys_of fs) → ((q : ℕ) → lookup (nat_eq q) es ≡ lookup (nat_eq q) fs) →
      sum_by f (values_of es) ≡ sum_by f (values_of fs)
  values_same f [] [] c d h = refl
  values_same f [] (y ∷ ys) c d h =
      absurd (none_some (h y.0 ∙ lookup_head (nat_eq y.0) y ys (nat_eq_equiv.refl y.0)))
  values_same f (x ∷ xs) fs c d h =
      let gone : remove_entry (nat_eq x.0) (x ∷ xs) ≡ xs =
      ap (λ b. cond b xs (x ∷ remove_entry (nat_eq x.0) xs)) (nat_eq_equiv.refl x.0) in
      let others : sum_by f (values_of xs) ≡
      sum_by f (values_of (remove_entry (nat_eq x.0) fs)) =
      values_same f xs (remove_entry (nat_eq x.0) fs) (tail_distinct x xs c)
      (distinct_without (nat_eq x.0) fs d)
      (λ q. ap (lookup (nat_eq q)) (sym gone) ∙
      lookup-remove_entry nat_eq_equiv (nat_eq x.0) (nat_eq_equiv.congr x.0) q (x ∷ xs) c ∙
      ap (cond (nat_eq x.0 q) None) (h q) ∙
      sym (lookup-remove_entry nat_eq_equiv (nat_eq x.0) (nat_eq_equiv.congr x.0) q fs d)) in
      let here : unwrap_or (option_map f (lookup (nat_eq x.0) fs)) 0 ≡ f x.1 =
      ap (λ o. unwrap_or (option_map f o) 0)
      (sym (h x.0) ∙ lookup_head (nat_eq x.0) x xs (nat_eq_equiv.refl x.0)) in
      let taken = sum_by-remove_entry f (nat_eq x.0) fs in
      let added = sum_by-cons f x.1 (values_of xs) in
      omega (arith, others, here, taken, added)

module _ {A : Type 0} where
  -- each pair, under its number
  numbered : List (ℕ × A) → List (ℕ × (ℕ × A))
  numbered [] = []
  numbered (e ∷ es) = (e.0, e) ∷ numbered es

  numbered_keys : (es : List (ℕ × A)) → keys_of (numbered es) ≡ keys_of es
  unfolding numbered
  numbered_keys [] = refl
  numbered_keys (e ∷ es) = ap (λ ks. e.0 ∷ ks) (numbered_keys es)

  numbered_values : (es : List (ℕ × A)) → values_of (numbered es) ≡ es
  unfolding numbered
  numbered_values [] = refl
  numbered_values (e ∷ es) = ap (λ vs. e ∷ vs) (numbered_values es)

  numbered_found : (q : ℕ) (es : List (ℕ × A)) → lookup (nat_eq q) (numbered es) ≡
      option_map {T = A} (λ v. (q, v)) (lookup (nat_eq q) es)
  unfolding numbered
  numbered_found q [] = refl
  numbered_found q (e ∷ es) = by (nat_eq q e.0) refl (numbered_found q es)
    where
      by : (b : Bool) → nat_eq q e.0 ≡ b → lookup (nat_eq q) (numbered es) ≡
          option_map {T = A} (λ v. (q, v)) (lookup (nat_eq q) es) →
          cond b (Some e) (lookup (nat_eq q) (numbered es)) ≡
          option_map {T = A} (λ v. (q, v)) (cond b (Some e.1) (lookup (nat_eq q) es))
      by true same h = λ i. Some (sym (eqb-true q e.0 same) i, e.1)
      by false same h = h

  pub pairs_same : (weight : ℕ × A → ℕ) (f : ℕ → Option A) (xs ys : List (ℕ × A)) →
      Lists nat_eq xs f → Lists nat_eq ys f → sum_by weight xs ≡ sum_by weight ys
  pairs_same weight f xs ys h k =
      ap (sum_by weight) (sym (numbered_values xs)) ∙
      values_same weight (numbered xs) (numbered ys)
      (subst (IsDistinct nat_eq) (sym (numbered_keys xs)) h.distinct)
      (subst (IsDistinct nat_eq) (sym (numbered_keys ys)) k.distinct)
      (λ q. numbered_found q xs ∙
      ap (option_map {T = A} (λ v. (q, v))) (h.same q ∙ sym (k.same q)) ∙
      sym (numbered_found q ys)) ∙ ap (sum_by weight) (numbered_values ys)

  -- so there are as many in each
  as_many : (xs : List (ℕ × A)) → length xs ≡ sum_by (λ x. 1) xs
  as_many [] = refl
  as_many (x ∷ xs) = let h = as_many xs in let k = sum_by-cons (λ (y : ℕ × A). 1) x xs in omega arith

-- as many pairs stand in each list of a map
pub entries_same : {V : Type 0} (stored : Pairs ℕ V) (xs ys : List (ℕ × Stored V)) →
    ListsPairs nat_eq xs stored → ListsPairs nat_eq ys stored → length xs ≡ length ys
entries_same stored xs ys h k =
    ap length h.are ∙ length-map h.entries _ ∙ as_many h.entries ∙
    pairs_same (λ x. 1) stored h.entries k.entries h.lists k.lists ∙ sym (as_many k.entries) ∙
    sym (length-map k.entries _) ∙ sym (ap length k.are)

module _ (test : ℕ × Place → Bool) (never : (n : ℕ) → test (n, place.Held) ≡ false) where
  held_none : (numbers : List ℕ) → count_by test (at_place place.Held numbers) ≡ 0
  held_none [] = refl
  held_none (n ∷ numbers) =
      let here : cond {A = ℕ} (test (n, place.Held)) 1 0 ≡ 0 = ap (λ b. cond {A = ℕ} b 1 0) (never n) in
      omega (
        arith,
        here,
        held_none numbers,
        sum_by-cons (λ x. cond {A = ℕ} (test x) 1 0) (n, place.Held) (at_place place.Held numbers),
      )

  module _ {K V E : Type 0} where
    -- of how many writes that no call holds the test holds
    abbrev pub stand_by : DeskPart K V E → ℕ
    stand_by d =
        count_by test (at_place place.Applied (map number_of d.applied)) +
        (count_by test (at_place place.Logged (map number_of d.log)) +
        count_by test (at_place place.Owed (map (λ o. number_of o.write) d.owed)))

    pub places_count : (s : State K V E) (places : List (ℕ × Place)) → ArePlaces places s →
        count_by test places ≡ stand_by s.world.desk
    places_count s places h =
        sum_by-IsPermutation weight (all_places h.calls s) places h.all ∙ all
      where
        weight : ℕ × Place → ℕ
        weight x = cond {A = ℕ} (test x) 1 0

        applied : List (ℕ × Place)
        applied = at_place place.Applied (map number_of s.world.desk.applied)

        logged : List (ℕ × Place)
        logged = at_place place.Logged (map number_of s.world.desk.log)

        owed : List (ℕ × Place)
        owed = at_place place.Owed (map (λ o. number_of o.write) s.world.desk.owed)

        held : List (ℕ × Place)
        held = at_place place.Held (filter_map held_number h.calls)

        all : sum_by weight (((applied ++ logged) ++ owed) ++ held) ≡
            sum_by weight applied + (sum_by weight logged + sum_by weight owed)
        all = omega (
          arith,
          sum_by-append weight ((applied ++ logged) ++ owed) held,
          sum_by-append weight (applied ++ logged) owed,
          sum_by-append weight applied logged,
          held_none (filter_map held_number h.calls),
        )

module _ {X Y Z : Type 0} (f : X → Option Y) (g : Y → Option Z) where
  -- how many come of one
  abbrev come_of : Option Y → ℕ
  come_of None = 0
  come_of (Some y) = cond {A = ℕ} (is_some (g y)) 1 0

  length_both : (xs : List X) →
      length (filter_map g (filter_map f xs)) ≡ sum_by (λ x. come_of (f x)) xs
  length_both [] = refl
  length_both (x ∷ xs) = by (f x) (length_both xs) ∙ sym (sum_by-cons (λ x. come_of (f x)) x xs)
    where
      one : (y : Y) (o : Option Z) (rest : List Z) (n : ℕ) → length rest ≡ n →
          length (cons_option o rest) ≡ cond {A = ℕ} (is_some o) 1 0 + n
      one y None rest n h = omega arith
      one y (Some z) rest n h = omega arith

      by : (o : Option Y) →
          length (filter_map g (filter_map f xs)) ≡ sum_by (λ x. come_of (f x)) xs →
          length (filter_map g (cons_option o (filter_map f xs))) ≡
          come_of o + sum_by (λ x. come_of (f x)) xs
      by None h = omega (arith, h)
      by (Some y) h = one y (g y) (filter_map g (filter_map f xs)) _ h

module _ {K V E : Type 0} where
  -- the notices of a state, of these calls
  noticed : (s : State K V E) (notices : List (Notice K V)) (h : AreNotices notices s) →
      length notices ≡ length (opened_in s.world.desk) +
      sum_by (λ (c : ℕ × Call K V E). come_of opening_of (waiting s.world.desk) (opening_of c))
      h.calls
  noticed s notices h =
      length_permutation _ _ h.all ∙ length-append (opened_in s.world.desk) _ ∙
      ap (λ n. length (opened_in s.world.desk) + n)
      (length_both opening_of (waiting s.world.desk) h.calls)

  -- two lists of the notices of one state are as long
  pub notices_same : (s : State K V E) (xs ys : List (Notice K V)) → AreNotices xs s →
      AreNotices ys s → length xs ≡ length ys
  notices_same s xs ys h k =
      noticed s xs h ∙
      ap (λ n. length (opened_in s.world.desk) + n)
      (pairs_same _ s.calls h.calls k.calls h.live k.live) ∙
      sym (noticed s ys k)
