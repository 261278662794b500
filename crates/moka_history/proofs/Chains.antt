-- Arrays of a segment: its first one, and those that were linked.
use Rattle.std.proofs.Common.{◌≡◌, ◌≢◌, ◌⊎◌, ℕ, ◌<◌, ◌≤◌, ◌==◌, Bool, true, false, cond, ◌∷◌, Option, Some, None, zero, suc, inl, inr, refl, sym, ap, subst, ◌∙◌, arith}
use Rattle.std.proofs.lemmas.Bool.{cases_eq, cases_lt}
use Rattle.std.specs.List.{slice_get}
use Rattle.moka_pairs.specs.Keys.{Agrees}
use Rattle.moka_history.specs.States.{Array, Next, Root, Plan, State, chain, no_next}
use Rattle.moka_history.specs.Rules.{AreLinked, named, root_named}
use Rattle.moka_history.proofs.Lists.{one_item}
use Rattle.moka_history.proofs.Owners.{Stays}

-- the number that names none is none of those of arrays that were linked
no_next_low : (i a : ℕ) → no_next i a ≤ 1
no_next_low i a = by (a == suc i)
  where
    by : (b : Bool) → cond b 0 1 ≤ 1
    by true = omega arith
    by false = omega arith

-- one plan is that of one segment
one_plan : (o : Option Plan) (p q : Plan) (i j : ℕ) → o ≡ Some p → o ≡ Some q → p.segment ≡ i → q.segment ≡ j → i ≡ j
one_plan o p q i j at there is is_yet = sym is ∙ (ap (λ x. x.segment) (one_item (sym at ∙ there)) ∙ is_yet)

module _ {K V : Type 0} (s : State K V) (linked : AreLinked s) where
  -- an array that was linked has a higher number than each first one
  pub link_high : (i p a : ℕ) → slice_get (s.links i) p ≡ Some a → (s.segments < a) × (a ≤ s.last)
  link_high i p a at = let (k, there) = linked.home i p a at in linked.numbers k a true there

  pub one_segment : (i j p q a : ℕ) → slice_get (s.links i) p ≡ Some a → slice_get (s.links j) q ≡ Some a → i ≡ j
  one_segment i j p q a at there =
      let (x, is, own) = linked.planned i p a at in
      let (y, is_yet, own_yet) = linked.planned j q a there in
      one_plan (s.plans a) x y i j is is_yet own own_yet

  -- an array is of one segment
  pub first_apart : (i j p a : ℕ) → i ≢ j → j < s.segments → slice_get (suc i ∷ s.links i) p ≡ Some a → a ≢ suc j
  first_apart i j zero a other below at same = other (let is = one_item at in omega (arith, is, same))
  first_apart i j (suc p) a other below at same = absurd (let high = (link_high i p a at).0 in omega (arith, high, below, same))

  pub link_apart : (i j p q a b : ℕ) → i ≢ j → i < s.segments → slice_get (suc i ∷ s.links i) p ≡ Some a → slice_get (s.links j) q ≡ Some b → a ≢ b
  link_apart i j zero q a b other below at there same = absurd (let is = one_item at in let high = (link_high j q b there).0 in omega (arith, is, high, below, same))
  link_apart i j (suc p) q a b other below at there same = other (one_segment i j p q a at (there ∙ ap Some (sym same)))

  -- an array is of one segment, as which place it ever stands
  pub chain_one : (i j p q a : ℕ) → i < s.segments → j < s.segments → slice_get (chain s i) p ≡ Some a → slice_get (chain s j) q ≡ Some a → i ≡ j
  chain_one i j zero zero a low below at there = let is = one_item at in let is_yet = one_item there in omega (arith, is, is_yet)
  chain_one i j zero (suc q) a low below at there = absurd (let is = one_item at in let high = (link_high j q a there).0 in omega (arith, is, high, low))
  chain_one i j (suc p) zero a low below at there = absurd (let is = one_item there in let high = (link_high i p a at).0 in omega (arith, is, high, below))
  chain_one i j (suc p) (suc q) a low below at there = one_segment i j p q a at there

  -- and has one place there, as numbers rise
  pub place_one : (i p q a : ℕ) → i < s.segments → slice_get (chain s i) p ≡ Some a → slice_get (chain s i) q ≡ Some a → p ≡ q
  place_one i p q a low at there = elim (cases_eq p q) [
    | inl same ↦ same
    | inr other ↦ elim (cases_lt p q) [
      | inl less ↦ absurd (let rise = linked.rise i p q a a low less at there in omega (arith, rise))
      | inr more ↦ absurd (let rise = linked.rise i q p a a low (omega (arith, more, other)) there at in omega (arith, rise))
    ]
  ]

  -- nothing was linked after an array where its word names none
  pub unlinked : (k i p a : ℕ) → i < s.segments → slice_get (chain s i) p ≡ Some a → slice_get s.cells k ≡ Some (Next a (no_next i a)) →
      slice_get (s.links i) p ≡ None
  unlinked k i p a low there at =
      let (j, q, below, place, names) = linked.nexts k a (no_next i a) at in
      let same : j ≡ i = chain_one j i q p a below low place there in
      let here : slice_get (chain s i) q ≡ Some a = subst (λ n. slice_get (chain s n) q ≡ Some a) same place in
      let one : q ≡ p = place_one i q p a low here there in
      by (slice_get (s.links i) p) refl (names ∙ (ap (λ n. named (no_next n a) (slice_get (s.links n) q)) same
      ∙ ap (λ r. named (no_next i a) (slice_get (s.links i) r)) one))
    where
      by : (o : Option ℕ) → slice_get (s.links i) p ≡ o → no_next i a ≡ named (no_next i a) (slice_get (s.links i) p) → o ≡ None
      by None next_at is = refl
      by (Some b) next_at is = absurd (
          let none = is ∙ ap (named (no_next i a)) next_at in
          let low_number = no_next_low i a in
          let high = (link_high i p b next_at).0 in
          omega (arith, none, low_number, high, low))

  -- where neither links nor words of arrays change, and new cells of arrays are those of later tickets
  pub links_stay : (new : State K V) → new.segments ≡ s.segments → s.last ≤ new.last → s.segments ≤ s.last → ((i : ℕ) → new.links i ≡ s.links i) →
      ((a : ℕ) → new.arrays a ≡ s.arrays a) → Agrees new.plans s.plans → Stays Array s.cells new.cells →
      ((k n : ℕ) (b : Bool) → slice_get new.cells k ≡ Some (Array n b) → (slice_get s.cells k ≡ Some (Array n b)) ⊎ ((s.last < n) × (n ≤ new.last))) →
      ((k a t : ℕ) → slice_get new.cells k ≡ Some (Next a t) → slice_get s.cells k ≡ Some (Next a t)) →
      ((k i t : ℕ) → slice_get new.cells k ≡ Some (Root i t) → slice_get s.cells k ≡ Some (Root i t)) → ((i : ℕ) → new.rooted i ≡ s.rooted i) →
      ((n g : ℕ) (plan : Plan) → new.plans n ≡ Some plan → plan.grown ≡ Some g → g < n) → AreLinked new
  links_stay new segments last low links arrays plans stays was was_next was_root rooted grown = record {
    numbers = λ k n b at. elim (was k n b at) [
      | inl old ↦ (let high = linked.numbers k n b old in let h = high.0 in let l = high.1 in (omega (arith, segments, h), omega (arith, last, l)))
      | inr late ↦ (let h = late.0 in (omega (arith, segments, low, h), late.1))
    ];
    home = λ i p a at.
        let (k, there) = linked.home i p a (ap (λ xs. slice_get xs p) (sym (links i)) ∙ at) in
        let (c, then, home) = stays k a true there in
        (k, then ∙ ap (λ b. Some (Array a b)) (home refl));
    planned = λ i p a at.
        let (x, is, own) = linked.planned i p a (ap (λ xs. slice_get xs p) (sym (links i)) ∙ at) in
        (x, plans a x is, own);
    unmade = λ k n at. elim (was k n false at) [
      | inl old ↦ arrays n ∙ linked.unmade k n old
      | inr late ↦ arrays n ∙ linked.past n late.0
    ];
    past = λ n high. arrays n ∙ linked.past n (omega (arith, last, high));
    nexts = λ k a t at. (
        let (i, p, below, place, names) = linked.nexts k a t (was_next k a t at) in (
          i,
          p,
          subst (λ m. i < m) (sym segments) below,
          ap (λ xs. slice_get (suc i ∷ xs) p) (links i) ∙ place,
          names ∙ ap (λ xs. named (no_next i a) (slice_get xs p)) (sym (links i)),
        ));
    roots = λ k i t at. (
        let (below, names) = linked.roots k i t (was_root k i t at) in
        (subst (λ m. i < m) (sym segments) below, names ∙ (ap (λ xs. root_named xs (s.rooted i)) (sym (links i)) ∙ ap (root_named (new.links i)) (sym (rooted i)))));
    some = λ i below. subst (λ n. 0 < n) (sym (rooted i)) (linked.some i (subst (λ m. i < m) segments below));
    rise = λ i p q a b below less at there. linked.rise i p q a b (subst (λ m. i < m) segments below) less
        (ap (λ xs. slice_get (suc i ∷ xs) p) (sym (links i)) ∙ at) (ap (λ xs. slice_get (suc i ∷ xs) q) (sym (links i)) ∙ there);
    grown = grown;
  }
