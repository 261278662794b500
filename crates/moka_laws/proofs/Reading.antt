-- What the desk keeps of owners and of those that wait for them, and how one call's visit changes it.
use Rattle.std.proofs.Common.{◌≡◌, ℕ, ◌+◌, ◌-◌, ◌<◌, ◌≤◌, ◌==◌, nat_lt, Bool, true, false, cond, ◌&&◌, Option, Some, None, is_some, IsSome, ◌⊎◌, inl, inr, refl, sym, ap, ◌∙◌, subst, arith}
use Rattle.std.proofs.lemmas.Bool.{eqb-true}
use Rattle.std.proofs.lemmas.Bool.Decides.{nat_tests}
use Rattle.std.specs.Option.{option_map_or}
use Rattle.moka_hist.specs.Finite.{put_at, load_eq}
use Rattle.moka_hist.specs.State.{DeskPart}
use Rattle.moka_hist.specs.Visits.{is_reader_of, readers_without, settled_without, settled_with}
use Rattle.moka_hist.specs.declared.loads.Load.{Load}
use Rattle.moka_hist.specs.declared.visits.Settled.{Settled}
use Rattle.moka_laws.proofs.Counting.{same_number, put_there}

-- 1 where the call with this entry waits for the owner
abbrev pub joins : ℕ → Option ℕ → ℕ
joins o None = 0
joins o (Some owner) = cond (owner == o) 1 0

pub joins_self : (o : ℕ) (j : Option ℕ) → j ≡ Some o → joins o j ≡ 1
joins_self o j e = ap (joins o) e ∙ ap (λ b. cond {A = ℕ} b 1 0) (same_number o)

module _ {K V E : Type 0} where
  -- where the call waits for the owner it counts once
  pub reader_joins : (d : DeskPart K V E) (n o : ℕ) → joins o (d.joined n) ≡ cond (is_reader_of d n o) 1 0
  reader_joins d n o = by (d.joined n)
    where
      by : (j : Option ℕ) → joins o j ≡ cond (option_map_or (λ v. v == o) j false) 1 0
      by None = refl
      by (Some v) = refl

  -- a call that leaves its owner is one less to wait for it
  pub fewer_readers : (d : DeskPart K V E) (n o : ℕ) → joins o (d.joined n) ≤ d.readers o →
      readers_without d n o + joins o (d.joined n) ≡ d.readers o
  fewer_readers d n o h = by (is_reader_of d n o) (reader_joins d n o)
    where
      by : (b : Bool) → joins o (d.joined n) ≡ cond b 1 0 → cond b (d.readers o - 1) (d.readers o) + joins o (d.joined n) ≡ d.readers o
      by true e = omega arith
      by false e = omega arith

  -- how an owner ended is kept while another call waits for it
  pub kept_settled : (d : DeskPart K V E) (n o : ℕ) → joins o (d.joined n) + 1 ≤ d.readers o → IsSome (d.settled o) →
      IsSome (settled_without d n o)
  kept_settled d n o more some = by (is_reader_of d n o) (d.readers o == 1) (reader_joins d n o) refl
    where
      by : (a b : Bool) → joins o (d.joined n) ≡ cond a 1 0 → (d.readers o == 1) ≡ b → is_some (cond (a && b) None (d.settled o)) ≡ true
      by false b e f = some
      by true false e f = some
      by true true e f = let one = eqb-true (d.readers o) 1 f in absurd (omega arith)

  -- an owner's end is kept where somebody waits for it, and another's stays
  pub settles_some : (d : DeskPart K V E) (n : ℕ) (with : Settled V E) (kept : ℕ → Option (Settled V E)) (o : ℕ) → IsSome (kept o) →
      IsSome (settled_with d n with kept o)
  settles_some d n with kept o some = by _
    where
      by : (b : Bool) → is_some (cond b (Some with) (kept o)) ≡ true
      by true = refl
      by false = some

  pub settles_own : (d : DeskPart K V E) (n : ℕ) (with : Settled V E) (kept : ℕ → Option (Settled V E)) (l : Load K) → d.owning n ≡ Some l →
      0 < d.readers n → IsSome (settled_with d n with kept n)
  settles_own d n with kept l own some =
      let waited : nat_lt 0 (d.readers n) ≡ true = grind (arith, nat_tests) in
      rw (own, waited, same_number n) refl

-- the call of this number owns an equal load
abbrev pub OwnerOf : {K : Type 0} → (K → K → Bool) → (ℕ → Option (Load K)) → ℕ → Load K → Type 0
OwnerOf {K = K} eq owning o load = (l : Load K) × (owning o ≡ Some l) × (load_eq eq l load ≡ true)

-- that, or how it ended is there to be read
abbrev pub Answered : {K V E : Type 0} → (K → K → Bool) → (ℕ → Option (Load K)) → (ℕ → Option (Settled V E)) → ℕ → Load K → Type 0
Answered eq owning settled o load = OwnerOf eq owning o load ⊎ IsSome (settled o)

module _ {K V E : Type 0} (eq : K → K → Bool) (d : DeskPart K V E) (n : ℕ) where
  -- ---- what is answered stays so, where the call leaves its owner, and where it ends its own ownership

  pub answered_without : (o : ℕ) (load : Load K) → joins o (d.joined n) + 1 ≤ d.readers o → Answered eq d.owning d.settled o load →
      Answered eq d.owning (settled_without d n) o load
  answered_without o load more (inl own) = inl own
  answered_without o load more (inr some) = inr (kept_settled d n o more some)

  pub answered_with : (with : Settled V E) (kept : ℕ → Option (Settled V E)) (o : ℕ) (load : Load K) → 0 < d.readers o →
      Answered eq d.owning kept o load → Answered eq (put_at d.owning n None) (settled_with d n with kept) o load
  answered_with with kept o load some (inr k) = inr (settles_some d n with kept o k)
  answered_with with kept o load some (inl own) = by (n == o) refl
    where
      by : (b : Bool) → (n == o) ≡ b → Answered eq (put_at d.owning n None) (settled_with d n with kept) o load
      by true e =
          let here = eqb-true n o e in
          inr (subst (λ v. IsSome (settled_with d n with kept v)) here
          (settles_own d n with kept own.0 (ap d.owning here ∙ own.1) (subst (λ v. 0 < d.readers v) (sym here) some)))
      by false e = inl (own.0, put_there d.owning n None o e ∙ own.1, own.2)
