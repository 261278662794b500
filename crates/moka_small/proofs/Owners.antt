-- The owner of a load, as the small state finds it.
use Rattle.std.proofs.Common.{◌≡◌, ◌≢◌, ◌≤◌, ℕ, zero, suc, Bool, true, false, cond, Option, Some, None, IsSomeAnd, nat_lt, refl, sym, ap, ◌∙◌, subst, arith}
use Rattle.std.specs.Option.{option_map, option_and_then, option_map_or}
use Rattle.std.proofs.lemmas.Bool.{false≢true, ltb-true, ltb-false}
use Rattle.moka_hist.specs.Finite.{load_eq}
use Rattle.moka_hist.specs.SoundDesk.{SoundDesk}
use Rattle.moka_hist.specs.State.{State}
use Rattle.moka_hist.specs.declared.loads.Load.{Load}
use Rattle.moka_laws.proofs.Counting.{none_some, some_same}
use Rattle.moka_small.specs.Small.{End, Small, load_at}
use Rattle.moka_small.specs.Polled.{greatest, owns, owner_of}
use Rattle.moka_small.specs.Seen.{Views, settled_as}

-- where no number passes the test none is the greatest
pub none_passes : (last : ℕ) (test : ℕ → Bool) → ((k : ℕ) → test k ≡ false) →
    greatest last test ≡ None
none_passes zero test fails = ap (λ b. cond b (Some 0) None) (fails 0)
none_passes (suc k) test fails =
    ap (λ b. cond b (Some (suc k)) (greatest k test)) (fails (suc k)) ∙ none_passes k test fails

-- where one number passes it, that is the greatest
pub one_passes : (last : ℕ) (test : ℕ → Bool) (n : ℕ) → test n ≡ true → n ≤ last →
    ((k : ℕ) → test k ≡ true → k ≡ n) → greatest last test ≡ Some n
one_passes zero test n passes le only =
    let zero_is : 0 ≡ n = omega (arith, le) in
    ap (λ b. cond b (Some 0) None) (ap test zero_is ∙ passes) ∙ ap Some zero_is
one_passes (suc k) test n passes le only =
    by (test (suc k)) refl (λ below. one_passes k test n passes below only)
  where
    by : (b : Bool) → test (suc k) ≡ b → (n ≤ k → greatest k test ≡ Some n) →
        cond b (Some (suc k)) (greatest k test) ≡ Some n
    by true e more = ap Some (only (suc k) e)
    by false e more =
        let other : suc k ≢ n = λ same. false≢true (sym e ∙ ap test same ∙ passes) in
        more (omega (arith, le, other))

module _ {K V E : Type 0} (eq : K → K → Bool) (s : State K V E) (m : Small K V E) (views : Views s m)
    (sound : SoundDesk eq s.world.desk) (load : Load K) where
  abbrev test : ℕ → Bool
  test k = owns eq (m.stands k) load

  -- who passes the test owns an equal load
  passes_owns : (k : ℕ) → test k ≡ true → s.world.desk.owners load ≡ Some k
  passes_owns k = by (option_and_then load_at (m.stands k)) (views.owning k)
    where
      by : (x : Option (Load K)) → s.world.desk.owning k ≡ x →
          option_map_or (λ own. load_eq eq own load) x false ≡ true → s.world.desk.owners load ≡ Some k
      by None e h = absurd (false≢true h)
      by (Some own) e h = sym (sound.one_owner own load h) ∙ sound.owned own k e

  -- the owner passes it
  owner_passes : (n : ℕ) → s.world.desk.owners load ≡ Some n → test n ≡ true
  owner_passes n e = by (option_and_then load_at (m.stands n)) (views.owning n) (sound.owns load n e)
    where
      by : (x : Option (Load K)) → s.world.desk.owning n ≡ x →
          IsSomeAnd (s.world.desk.owning n) (λ own. load_eq eq own load ≡ true) →
          option_map_or (λ own. load_eq eq own load) x false ≡ true
      by None o h = absurd (subst (λ x. IsSomeAnd x (λ own. load_eq eq own load ≡ true)) o h)
      by (Some own) o h = subst (λ x. IsSomeAnd x (λ own. load_eq eq own load ≡ true)) o h

  -- who passes the test is live, and has a number that was given out
  passes_numbered : (n : ℕ) → test n ≡ true → n ≤ m.last
  passes_numbered n h = by (nat_lt m.last n) refl
    where
      by : (b : Bool) → nat_lt m.last n ≡ b → n ≤ m.last
      by true e = absurd (false≢true
          (sym (ap (λ x. owns eq x load) (views.orderly.numbered n (ltb-true m.last n e))) ∙ h))
      by false e = ltb-false m.last n e

  -- the owner of the load is whom the small state finds
  pub owner_found : owner_of eq m load ≡ s.world.desk.owners load
  owner_found = by (s.world.desk.owners load) refl
    where
      fails : s.world.desk.owners load ≡ None → (k : ℕ) (b : Bool) → test k ≡ b → test k ≡ false
      fails e k true h = absurd (none_some (sym e ∙ passes_owns k h))
      fails e k false h = h

      by : (x : Option ℕ) → s.world.desk.owners load ≡ x → owner_of eq m load ≡ x
      by None e = none_passes m.last test (λ k. fails e k (test k) refl)
      by (Some n) e = one_passes m.last test n (owner_passes n e)
          (passes_numbered n (owner_passes n e))
          (λ k h. some_same (sym (passes_owns k h) ∙ e))

  -- it hasn't ended
  pub owner_open : (n : ℕ) → s.world.desk.owners load ≡ Some n → s.world.desk.settled n ≡ None
  owner_open n e = by (m.ends n) refl
    where
      by : (x : Option (End V E)) → m.ends n ≡ x → s.world.desk.settled n ≡ None
      by None none = views.settled n ∙ ap (option_map settled_as) none
      by (Some end) some = absurd (false≢true
          (sym (ap (λ x. owns eq x load) (views.orderly.ended n end some).0) ∙ owner_passes n e))
