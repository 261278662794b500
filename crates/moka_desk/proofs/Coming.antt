-- Records that come and go, as the stamps say that are kept.
use Rattle.std.proofs.Common.{◌≡◌, ℕ, ◌+◌, ◌==◌, Bool, true, false, not, cond, ◌&&◌, ◌||◌, List, [], ◌∷◌, ◌++◌, length, nat_eq, Option, Some, None, refl, sym, ap, subst, ◌∙◌, arith}
use Rattle.std.proofs.Math.Bool.{and-false, or-false}
use Rattle.std.proofs.lemmas.Bool.{eqb-true}
use Rattle.std.specs.HashSet.{contains, hash_set_len, keys}
use Rattle.std.specs.List.{list_any}
use Rattle.moka_hist.specs.Visits.{old_of, is_replaced}
use Rattle.moka_hist.specs.declared.writes.Write.{Write}
use Rattle.moka_hist.specs.declared.writes.Write.TheVariants.{Upsert, Remove}
use Rattle.moka_desk.proofs.Standing.{but_then, count_then, falling_is, gone_then, made_then}
use Rattle.moka_desk.specs.Records.{RecordsAre, and_this, count_of, is_made, standing_but}
use Rattle.moka_desk.specs.declared.records.Records.{Records}

no : {A : Type 0} (b : Bool) → b ≡ true → b ≡ false → A
no b t f = cc

neither : (a b : Bool) → (a || b) ≡ false → (a ≡ false) × (b ≡ false)
neither false false e = (refl, refl)
neither false true e = cc
neither true b e = cc

-- ---- a record comes

-- one that is gone stands nowhere
comes_gone : (made gone : ℕ → Bool) (number n : ℕ) (b : Bool) → (number == n) ≡ b → made number ≡ false → gone number ≡ true →
    (made n && not (gone n)) ≡ ((made n || b) && not (gone n))
comes_gone made gone number n false e unmade g = ap (λ x. x && not (gone n)) (sym (or-false (made n)))
comes_gone made gone number n true e unmade g =
    let m : made n ≡ false = ap made (sym (eqb-true number n e)) ∙ unmade in
    let h : gone n ≡ true = ap gone (sym (eqb-true number n e)) ∙ g in
    rw (m, h) refl

-- one that isn't gone stands
comes_here : (made gone : ℕ → Bool) (number n : ℕ) (b : Bool) → (number == n) ≡ b → made number ≡ false → gone number ≡ false →
    ((made n && not (gone n)) || b) ≡ ((made n || b) && not (gone n))
comes_here made gone number n false e unmade g = or-false (made n && not (gone n)) ∙ ap (λ x. x && not (gone n)) (sym (or-false (made n)))
comes_here made gone number n true e unmade g =
    let m : made n ≡ false = ap made (sym (eqb-true number n e)) ∙ unmade in
    let h : gone n ≡ false = ap gone (sym (eqb-true number n e)) ∙ g in
    rw (m, h) refl

-- each was made once
once_more : (m b : Bool) (count : ℕ) → count ≡ cond m 1 0 → (b ≡ true → m ≡ false) → count + cond b 1 0 ≡ cond (m || b) 1 0
once_more true true count e apart = no true refl (apart refl)
once_more true false count e apart = omega (arith, e)
once_more false true count e apart = omega (arith, e)
once_more false false count e apart = omega (arith, e)

module _ (old new : Records) (number : ℕ) (o : Option ℕ) (writes : List Write) (gone : ℕ → Bool) (h : RecordsAre old writes gone) (unmade : is_made writes number ≡ false) where
  abbrev pub all : List Write
  all = writes ++ Upsert number o ∷ []

  apart : (n : ℕ) → (number == n) ≡ true → is_made writes n ≡ false
  apart n e = ap (is_made writes) (sym (eqb-true number n e)) ∙ unmade

  once_then : (n : ℕ) → count_of n all ≡ cond (is_made all n) 1 0
  once_then n =
      count_then n writes (Upsert number o)
      ∙ once_more (is_made writes n) (number == n) (count_of n writes) (h.once n) (apart n)
      ∙ ap (λ b. cond b 1 0) (sym (made_then writes (Upsert number o) n))

  before : (n : ℕ) → is_made all n ≡ false → (is_made writes n ≡ false) × ((number == n) ≡ false)
  before n e = neither (is_made writes n) (number == n) (sym (made_then writes (Upsert number o) n) ∙ e)

  is_gone : contains nat_eq old.early number ≡ gone number
  is_gone = h.early number unmade

  stands_not : contains nat_eq old.standing number ≡ false
  stands_not = h.standing number ∙ ap (λ b. b && not (gone number)) unmade

  -- it was gone before
  pub came_late : contains nat_eq old.early number ≡ true → keys new.standing ≡ keys old.standing →
      ((n : ℕ) → contains nat_eq new.early n ≡ cond (number == n) false (contains nat_eq old.early n)) → RecordsAre new all gone
  came_late early same out =
      let g : gone number ≡ true = sym is_gone ∙ early in
      record {
        standing = λ n. ap (list_any (nat_eq n)) same ∙ h.standing n ∙ comes_gone (is_made writes) gone number n (number == n) refl unmade g
            ∙ ap (λ b. b && not (gone n)) (sym (made_then writes (Upsert number o) n));
        early = λ n e. let b = before n e in out n ∙ ap (λ x. cond x false (contains nat_eq old.early n)) b.1 ∙ h.early n b.0;
        count = ap length same ∙ h.count ∙ sym (but_then gone writes (Upsert number o) ∙ ap (λ b. standing_but gone writes + cond (not b) 1 0) g ∙ add_none);
        once = once_then;
      }
    where
      add_none : standing_but gone writes + 0 ≡ standing_but gone writes
      add_none = omega arith

  -- it stands
  pub came : contains nat_eq old.early number ≡ false → keys new.early ≡ keys old.early →
      ((n : ℕ) → contains nat_eq new.standing n ≡ (contains nat_eq old.standing n || (number == n))) →
      hash_set_len new.standing ≡ hash_set_len old.standing + cond (contains nat_eq old.standing number) 0 1 → RecordsAre new all gone
  came early same has len =
      let g : gone number ≡ false = sym is_gone ∙ early in
      record {
        standing = λ n. has n ∙ ap (λ b. b || (number == n)) (h.standing n) ∙ comes_here (is_made writes) gone number n (number == n) refl unmade g
            ∙ ap (λ b. b && not (gone n)) (sym (made_then writes (Upsert number o) n));
        early = λ n e. ap (list_any (nat_eq n)) same ∙ h.early n (before n e).0;
        count = len ∙ ap (λ b. hash_set_len old.standing + cond b 0 1) stands_not ∙ ap (λ k. k + 1) h.count
            ∙ sym (but_then gone writes (Upsert number o) ∙ ap (λ b. standing_but gone writes + cond (not b) 1 0) g);
        once = once_then;
      }

-- ---- a record goes

both : (a b : Bool) → (a && b) ≡ true → (a ≡ true) × (b ≡ true)
both true true e = (refl, refl)
both true false e = cc
both false b e = cc

pub is_false : (b : Bool) → not b ≡ true → b ≡ false
is_false true e = cc
is_false false e = refl

-- what stands once this stamp's record is gone
goes_from : (m g b : Bool) → cond b false (m && not g) ≡ (m && not (g || b))
goes_from m g true = sym (ap (λ x. m && not x) (true_or g) ∙ and-false m) where
  true_or : (g : Bool) → (g || true) ≡ true
  true_or true = refl
  true_or false = refl
goes_from m g false = ap (λ x. m && not x) (sym (or-false g))

-- where it stood nowhere, nothing changes
goes_unseen : (made gone : ℕ → Bool) (stamp n : ℕ) → (made stamp && not (gone stamp)) ≡ false → (made n && not (gone n)) ≡ (made n && not (gone n || (stamp == n)))
goes_unseen made gone stamp n none = by (stamp == n) refl where
  by : (b : Bool) → (stamp == n) ≡ b → (made n && not (gone n)) ≡ (made n && not (gone n || b))
  by true e = ap (λ k. made k && not (gone k)) (sym (eqb-true stamp n e)) ∙ none ∙ goes_from (made n) (gone n) true
  by false e = goes_from (made n) (gone n) false

module _ (old new : Records) (stamp : ℕ) (writes : List Write) (gone : ℕ → Bool) (h : RecordsAre old writes gone) where
  -- it stood
  pub went : contains nat_eq old.standing stamp ≡ true → keys new.early ≡ keys old.early →
      ((n : ℕ) → contains nat_eq new.standing n ≡ cond (stamp == n) false (contains nat_eq old.standing n)) →
      hash_set_len new.standing + 1 ≡ hash_set_len old.standing → RecordsAre new writes (and_this gone (Some stamp))
  went stood same out len =
      let s = both (is_made writes stamp) (not (gone stamp)) (sym (h.standing stamp) ∙ stood) in
      let g : gone stamp ≡ false = is_false (gone stamp) s.1 in
      record {
        standing = λ n. out n ∙ ap (λ b. cond (stamp == n) false b) (h.standing n) ∙ goes_from (is_made writes n) (gone n) (stamp == n);
        early = λ n e. ap (list_any (nat_eq n)) same ∙ h.early n e ∙ other n e s.0;
        count =
            let one : count_of stamp writes ≡ 1 = h.once stamp ∙ ap (λ b. cond b 1 0) s.0 in
            let falls = falling_is gone writes stamp false g in
            omega (arith, one, falls, len, h.count);
        once = h.once;
      }
    where
      other : (n : ℕ) → is_made writes n ≡ false → is_made writes stamp ≡ true → gone n ≡ (gone n || (stamp == n))
      other n e made = by (stamp == n) refl where
        by : (b : Bool) → (stamp == n) ≡ b → gone n ≡ (gone n || b)
        by true f = no (is_made writes n) (ap (is_made writes) (sym (eqb-true stamp n f)) ∙ made) e
        by false f = sym (or-false (gone n))

  -- it stood nowhere
  pub went_unseen : contains nat_eq old.standing stamp ≡ false → keys new.standing ≡ keys old.standing →
      ((n : ℕ) → contains nat_eq new.early n ≡ (contains nat_eq old.early n || (stamp == n))) → RecordsAre new writes (and_this gone (Some stamp))
  went_unseen none same has =
      let nowhere : (is_made writes stamp && not (gone stamp)) ≡ false = sym (h.standing stamp) ∙ none in
      record {
        standing = λ n. ap (list_any (nat_eq n)) same ∙ h.standing n ∙ goes_unseen (is_made writes) gone stamp n nowhere;
        early = λ n e. has n ∙ ap (λ b. b || (stamp == n)) (h.early n e);
        count = ap length same ∙ h.count ∙ sym (still (is_made writes stamp) (gone stamp) refl refl nowhere);
        once = h.once;
      }
    where
      still : (m g : Bool) → is_made writes stamp ≡ m → gone stamp ≡ g → (m && not g) ≡ false → standing_but (and_this gone (Some stamp)) writes ≡ standing_but gone writes
      still m true made e none = let falls = falling_is gone writes stamp true e in omega (arith, falls)
      still true false made e none = cc
      still false false made e none =
          let zero : count_of stamp writes ≡ 0 = h.once stamp ∙ ap (λ b. cond b 1 0) made in
          let falls = falling_is gone writes stamp false e in
          omega (arith, zero, falls)

-- ---- a write is applied

-- a removal makes no record
pub removed : (records : Records) (number stamp : ℕ) (writes : List Write) (gone : ℕ → Bool) → RecordsAre records writes gone → RecordsAre records (writes ++ Remove number stamp ∷ []) gone
removed records number stamp writes gone h =
    record {
      standing = λ n. h.standing n ∙ ap (λ b. b && not (gone n)) (sym (made n));
      early = λ n e. h.early n (sym (made n) ∙ e);
      count = let then = but_then gone writes (Remove number stamp) in omega (arith, then, h.count);
      once = λ n. let then = count_then n writes (Remove number stamp) in more n then ∙ h.once n ∙ ap (λ b. cond b 1 0) (sym (made n));
    }
  where
    made : (n : ℕ) → is_made (writes ++ Remove number stamp ∷ []) n ≡ is_made writes n
    made n = made_then writes (Remove number stamp) n ∙ or-false (is_made writes n)

    more : (n : ℕ) → count_of n (writes ++ Remove number stamp ∷ []) ≡ count_of n writes + 0 → count_of n (writes ++ Remove number stamp ∷ []) ≡ count_of n writes
    more n e = omega (arith, e)

-- the gone are those that the writes replaced or removed
pub replaced : (records : Records) (writes : List Write) (w : Write) → RecordsAre records (writes ++ w ∷ []) (and_this (is_replaced writes) (old_of w)) →
    RecordsAre records (writes ++ w ∷ []) (is_replaced (writes ++ w ∷ []))
replaced records writes w h =
    subst (λ (g : ℕ → Bool). RecordsAre records (writes ++ w ∷ []) g) (λ i n. sym (gone_then writes w n) i) h

-- no record goes
pub and_none : (records : Records) (writes : List Write) (gone : ℕ → Bool) (old : Option ℕ) → old ≡ None → RecordsAre records writes gone → RecordsAre records writes (and_this gone old)
and_none records writes gone old e h =
    subst (λ (o : Option ℕ). RecordsAre records writes (and_this gone o)) (sym e)
    (subst (λ (g : ℕ → Bool). RecordsAre records writes g) (λ i n. sym (or-false (gone n)) i) h)
