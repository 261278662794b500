-- What notices keep is kept under the numbers of calls that are gone.
use Rattle.std.proofs.Common.{◌≡◌, ℕ, ◌+◌, ◌≤◌, ◌==◌, Bool, true, false, cond, Option, Some, None, is_some, IsSome, refl, sym, ap, ◌∙◌, subst, arith}
use Rattle.std.proofs.lemmas.Bool.{eqb-true, false≢true}
use Rattle.moka_hist.specs.Finite.{put_at}
use Rattle.moka_hist.specs.State.{State, World, Call, DeskPart}
use Rattle.moka_hist.specs.Visits.{claimed, claimed_alone, is_running, is_unlocked_for, key_under, locked_by, makes, settlement_for}
use Rattle.moka_hist.specs.Step.{Access, On_table, On_desk, Gets, Step, access_of, next_of}
use Rattle.moka_hist.specs.Run.{fresh_call}
use Rattle.moka_hist.specs.declared.accesses.Got.{Got}
use Rattle.moka_hist.specs.declared.accesses.Got.TheVariants as got
use Rattle.moka_hist.specs.declared.accesses.Turn.{Turn}
use Rattle.moka_hist.specs.declared.tables.TableTurn.TheVariants as table
use Rattle.moka_hist.specs.declared.visits.Visit.{Visit}
use Rattle.moka_hist.specs.declared.visits.Visit.TheVariants as visit
use Rattle.moka_laws.proofs.Counting.{none_some, put_there}
use Rattle.moka_laws.proofs.Balance.{IsBalanced}
use Rattle.moka_laws.proofs.Balanced.{balanced_kept}
use Rattle.moka_laws.proofs.Kept.{IsInvariant, in_reached}
use Rattle.moka_laws.proofs.Outcomes.{computes_of}
use Rattle.moka_laws.proofs.Unsettled.{access_last}
use Rattle.moka_hist.specs.Run.{IsReached}

not_next : (last m : ℕ) → m ≤ last → (last + 1 == m) ≡ false
not_next last m h = by (last + 1 == m) refl
  where
    by : (b : Bool) → (last + 1 == m) ≡ b → b ≡ false
    by true e = let is : last + 1 ≡ m = eqb-true (last + 1) m e in absurd (omega (arith, is, h))
    by false e = refl

-- what is kept once a notice has ended was kept before
out : {K : Type 0} (kept : ℕ → Option K) (n m : ℕ) → IsSome (put_at kept n None m) → IsSome (kept m)
out kept n m some = by (n == m) some
  where
    by : (b : Bool) → is_some (cond b None (kept m)) ≡ true → is_some (kept m) ≡ true
    by true some = absurd (false≢true some)
    by false some = some

module _ {K V E : Type 0} where
  -- What a notice keeps is kept under the number of a call that was given it, and is gone.
  pub record IsKeeping (s : State K V E) : Type 0 where
    pub balanced : IsBalanced s
    pub gone : (m : ℕ) → IsSome (s.world.desk.kept m) → s.calls m ≡ None
    pub given_out : (m : ℕ) → IsSome (s.world.desk.kept m) → m ≤ s.world.desk.last

  -- the notice of a live call keeps nothing
  pub keeps_none : (s : State K V E) → IsKeeping s → (n : ℕ) (c : Call K V E) → s.calls n ≡ Some c → is_some (s.world.desk.kept n) ≡ false
  keeps_none s i n c live = by (is_some (s.world.desk.kept n)) refl
    where
      by : (b : Bool) → is_some (s.world.desk.kept n) ≡ b → b ≡ false
      by false e = refl
      by true e = absurd (none_some (sym (i.gone n e) ∙ live))

module _ {K V E : Type 0} (eq : K → K → Bool) where
  -- no visit changes what is kept
  visit_kept : (d : DeskPart K V E) (made : Visit K V E) → (makes eq d made).kept ≡ d.kept
  visit_kept d (visit.WaitOrOwn call key kind) = by (d.owners (record { key = key; kind = kind }))
    where
      by : (o : Option ℕ) → (claimed eq d call (record { key = key; kind = kind }) o).kept ≡ d.kept
      by None = refl
      by (Some owner) = refl
  visit_kept d (visit.OwnAlone call key) = by (d.owners (computes_of key))
    where
      by : (o : Option ℕ) → (claimed_alone eq d call (computes_of key) o).kept ≡ d.kept
      by None = refl
      by (Some owner) = refl
  visit_kept d (visit.ReadSettled call) = by (is_some (settlement_for d call)) refl
    where
      by : (b : Bool) → is_some (settlement_for d call) ≡ b →
          (makes eq d (visit.ReadSettled call)).kept ≡ d.kept
      by true e = rw e refl
      by false e = rw e refl
  visit_kept d (visit.LockKey call key) = by (is_unlocked_for d call key)
    where
      by : (b : Bool) → (locked_by eq d call key b).kept ≡ d.kept
      by true = refl
      by false = refl
  visit_kept d _ = refl

  pub access_kept : (n : ℕ) (w new : World K V E) (a : Access K V E) (g : Got K V E) →
      Gets eq n w a g new → new.desk.kept ≡ w.desk.kept
  access_kept n w new (On_table o) (got.Table table.Going) gets =
      ap (λ (v : World K V E). v.desk.kept) gets.1
  access_kept n w new (On_table o) (got.Table (table.Decided answer)) gets =
      ap (λ (v : World K V E). v.desk.kept) gets.2
  access_kept n w new (On_desk made) (got.Desk f) gets =
      ap (λ (v : World K V E). v.desk.kept) gets.1 ∙ visit_kept w.desk made
  access_kept n w new (On_table o) (got.Desk f) gets = absurd gets
  access_kept n w new (On_desk made) (got.Table turn) gets = absurd gets

  -- nor does a step
  pub step_kept : (s t : State K V E) (n : ℕ) (turn : Turn K V E) → Step eq s n turn t → t.world.desk.kept ≡ s.world.desk.kept
  step_kept s t n turn step =
      ap (λ (v : State K V E). v.world.desk.kept) step.after
      ∙ access_kept n s.world step.world (access_of n step.call) step.given step.gets

  keeping_step : (s t : State K V E) (n : ℕ) (turn : Turn K V E) → IsKeeping s → Step eq s n turn t → IsKeeping t
  keeping_step s t n turn i step = record {
    balanced = (balanced_kept eq).step s t n turn i.balanced step;
    gone = λ m some. subst (λ (v : State K V E). v.calls m ≡ None) (sym step.after) (still m (i.gone m (was m some)));
    given_out = λ m some. omega (
      arith,
      ap (λ (v : State K V E). v.world.desk.last) step.after,
      access_last eq n s.world step.world (access_of n step.call) step.given step.gets,
      i.given_out m (was m some),
    );
  }
    where
      was : (m : ℕ) → IsSome (t.world.desk.kept m) → IsSome (s.world.desk.kept m)
      was m some = ap (λ (f : ℕ → Option K). is_some (f m)) (sym (step_kept s t n turn step)) ∙ some

      still : (m : ℕ) → s.calls m ≡ None → put_at s.calls n (next_of n step.call step.given).left m ≡ None
      still m none = by (n == m) refl
        where
          by : (b : Bool) → (n == m) ≡ b → cond b (next_of n step.call step.given).left (s.calls m) ≡ None
          by true e = absurd (none_some (sym none ∙ ap s.calls (sym (eqb-true n m e)) ∙ step.live))
          by false e = none

  pub keeping_kept : IsInvariant eq (IsKeeping {K = K} {V = V} {E = E})
  keeping_kept = record {
    fresh = λ division divides rules size built has_log. record {
      balanced = (balanced_kept eq).fresh division divides rules size built has_log;
      gone = λ m some. refl;
      given_out = λ m some. absurd (false≢true some);
    };
    at = λ s moment i. record { balanced = (balanced_kept eq).at s moment i.balanced; gone = i.gone; given_out = i.given_out };
    start = λ s start i. record {
      balanced = (balanced_kept eq).start s start i.balanced;
      gone = λ m some.
          put_there s.calls (s.world.desk.last + 1)
          (Some (fresh_call s.world.table.division.parts s.world.desk.rules start)) m (not_next s.world.desk.last m (i.given_out m some))
          ∙ i.gone m some;
      given_out = λ m some. omega (arith, i.given_out m some);
    };
    step = keeping_step;
    tell = λ s n given asked i. record { balanced = (balanced_kept eq).tell s n given asked i.balanced; gone = i.gone; given_out = i.given_out };
    hear = λ s n off running i. record {
      balanced = (balanced_kept eq).hear s n off running i.balanced;
      gone = λ m some. i.gone m (out s.world.desk.kept n m some);
      given_out = λ m some. i.given_out m (out s.world.desk.kept n m some);
    };
    drop = λ s n c live between i. record {
      balanced = (balanced_kept eq).drop s n c live between i.balanced;
      gone = λ m some. gone_left s n i m (n == m) some;
      given_out = λ m some. given_left s n c live i m (n == m) refl some;
    };
  }
    where
      gone_left : (s : State K V E) (n : ℕ) → IsKeeping s → (m : ℕ) (b : Bool) →
          is_some (cond b (cond (is_running s.world.desk n) (key_under s.world.desk n) None) (s.world.desk.kept m)) ≡ true → cond b None (s.calls m) ≡ None
      gone_left s n i m true some = refl
      gone_left s n i m false some = i.gone m some

      given_left : (s : State K V E) (n : ℕ) (c : Call K V E) → s.calls n ≡ Some c → IsKeeping s → (m : ℕ) (b : Bool) → (n == m) ≡ b →
          is_some (cond b (cond (is_running s.world.desk n) (key_under s.world.desk n) None) (s.world.desk.kept m)) ≡ true → m ≤ s.world.desk.last
      given_left s n c live i m true e some = subst (λ v. v ≤ s.world.desk.last) (eqb-true n m e) (i.balanced.numbered n c live)
      given_left s n c live i m false e some = i.given_out m some

  pub in_keeping : (s : State K V E) → IsReached eq s → IsKeeping s
  in_keeping s h = in_reached eq IsKeeping keeping_kept s h
