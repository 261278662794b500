-- Small states stay orderly.
use Rattle.std.proofs.Common.{◌≡◌, ◌⊎◌, inl, inr, ◌<◌, ◌≤◌, ℕ, ◌==◌, nat_lt, Bool, true, false, cond, ◌&&◌, Option, Some, None, refl, sym, ap, ◌∙◌, subst, arith}
use Rattle.std.proofs.lemmas.Bool.{eqb-true, eq-eqb, ltb-true, ltb-false}
use Rattle.moka_hist.specs.Finite.{put_at}
use Rattle.moka_hist.specs.declared.events.Start.{Start}
use Rattle.moka_laws.proofs.Counting.{none_some, put_cases}
use Rattle.moka_small.specs.Small.{End, Stand, Begun, Small, is_plain_start, waiting}
use Rattle.moka_small.specs.Polled.{ends_with}
use Rattle.moka_small.specs.Seen.{IsOrderly}

module _ {K V E : Type 0} (m : Small K V E) (orderly : IsOrderly m) (n : ℕ) where
  -- the number of a live call was given out
  pub live_numbered : (stand : Stand K V E) → m.stands n ≡ Some stand → n ≤ m.last
  live_numbered stand live = by (nat_lt m.last n) refl
    where
      by : (b : Bool) → nat_lt m.last n ≡ b → n ≤ m.last
      by true e = absurd (none_some (sym (orderly.numbered n (ltb-true m.last n e)) ∙ live))
      by false e = ltb-false m.last n e

  -- the end was kept before, or is that of this call, which is gone
  abbrev pub EndsBy : Option (Stand K V E) → (ℕ → Option (End V E)) → Type 0
  EndsBy x ends = (k : ℕ) (end : End V E) → ends k ≡ Some end →
      (m.ends k ≡ Some end) ⊎ ((n ≡ k) × (x ≡ None))

  -- ends that are as before, or fewer
  pub as_before : (x : Option (Stand K V E)) → EndsBy x m.ends
  as_before x k end e = inl e

  pub fewer : (x : Option (Stand K V E)) (test : ℕ → Bool) → EndsBy x (λ k. cond (test k) None (m.ends k))
  fewer x test k end e = by (test k) e
    where
      by : (b : Bool) → cond b None (m.ends k) ≡ Some end → (m.ends k ≡ Some end) ⊎ ((n ≡ k) × (x ≡ None))
      by true e = absurd (none_some e)
      by false e = inl e

  -- ends with that of the call
  pub one_more : (end : End V E) (x : Option (Stand K V E)) → x ≡ None → EndsBy x (ends_with m n end)
  one_more own x none k end e = by (nat_lt 0 (waiting m n)) (n == k) refl e
    where
      by : (a b : Bool) → (n == k) ≡ b → cond (a && b) (Some own) (m.ends k) ≡ Some end →
          (m.ends k ≡ Some end) ⊎ ((n ≡ k) × (x ≡ None))
      by true true same e = inr (eqb-true n k same, none)
      by true false same e = inl e
      by false true same e = inl e
      by false false same e = inl e

  -- a call that is live goes to where none begins, or is gone
  pub stays_orderly : (stand : Stand K V E) → m.stands n ≡ Some stand → (stored : K → Option (V × ℕ)) →
      (x : Option (Stand K V E)) → ((start : Start K V) → x ≡ Some (Begun start) → is_plain_start start ≡ true) →
      (ends : ℕ → Option (End V E)) → EndsBy x ends →
      IsOrderly (record { stored = stored; stands = put_at m.stands n x; ends = ends; last = m.last; capacity = m.capacity })
  stays_orderly stand live stored x plain ends by_ends = record {
    begun = λ k start e. put_cases m.stands n x k (Some (Begun start)) _ e
        (λ same is. plain start is) (λ other is. orderly.begun k start is);
    numbered = λ k above. unnumbered k above (n == k) refl;
    ended = λ k end e. are_gone k end (by_ends k end e);
  }
    where
      unnumbered : (k : ℕ) → m.last < k → (b : Bool) → (n == k) ≡ b → cond b x (m.stands k) ≡ None
      unnumbered k above true same =
          let is : n ≡ k = eqb-true n k same in
          let at_most : n ≤ m.last = live_numbered stand live in
          absurd (omega (arith, above, is, at_most))
      unnumbered k above false same = orderly.numbered k above

      left : (k : ℕ) → m.stands k ≡ None → (b : Bool) → (n == k) ≡ b → cond b x (m.stands k) ≡ None
      left k none true same =
          absurd (none_some (sym none ∙ ap m.stands (sym (eqb-true n k same)) ∙ live))
      left k none false same = none

      are_gone : (k : ℕ) (end : End V E) → (m.ends k ≡ Some end) ⊎ ((n ≡ k) × (x ≡ None)) →
          (put_at m.stands n x k ≡ None) × (k ≤ m.last)
      are_gone k end (inl e) =
          let was = orderly.ended k end e in (left k was.0 (n == k) refl, was.1)
      are_gone k end (inr here) = (
        ap (λ b. cond b x (m.stands k)) (eq-eqb n k here.0) ∙ here.1,
        subst (λ i. i ≤ m.last) here.0 (live_numbered stand live),
      )

-- a call that is gone begins in no way
pub none_begins : {K V E : Type 0} (start : Start K V) (x : Option (Stand K V E)) → x ≡ None →
    x ≡ Some (Begun start) → is_plain_start start ≡ true
none_begins start x none e = absurd (none_some (sym none ∙ e))
