-- Notices, as one is opened or ends.
use Rattle.std.proofs.Common.{◌≡◌, ◌≤◌, ◌||◌, ℕ, zero, suc, ◌==◌, Bool, true, false, cond, Option, Some, None, IfSome, is_some, refl, sym, ap, ◌∙◌, subst, arith}
use Rattle.std.specs.Option.{option_map}
use Rattle.std.proofs.lemmas.Bool.{eqb-true, eqb-false, false≢true}
use Rattle.moka_hist.specs.Finite.{put_at}
use Rattle.moka_hist.specs.Telling.{MayEnd, was_asked, with_end}
use Rattle.moka_hist.specs.Visits.{runs}
use Rattle.moka_hist.specs.declared.notices.Notice.{Notice}
use Rattle.moka_hist.specs.declared.notices.NoticeState.{NoticeState}
use Rattle.moka_hist.specs.declared.notices.NoticeState.TheVariants as notice
use Rattle.moka_desk.specs.Notices.{either, heard_in, running, runs_in, if_running, if_past}
use Rattle.moka_desk.specs.declared.notices.Heard.{Heard}

-- what holds of what is there
pub if_some : {A : Type 0} (P : A → Type 0) (o : Option A) (a : A) → o ≡ Some a → IfSome o P → P a
if_some {A} P o a is holds = subst (λ (o : Option A). IfSome o P) is holds

-- none are left where one can't be taken
pub none_left : (n : ℕ) → (1 ≤ n → ⊥) → n ≡ 0
none_left zero cannot = refl
none_left (suc n) cannot = absurd (cannot (omega arith))

module _ {K V : Type 0} where
  -- a notice that runs is there
  pub some_runs : (o : Option (Notice K V)) → runs_in o ≡ true → (x : Notice K V) × (o ≡ Some x)
  some_runs None is = absurd (false≢true is)
  some_runs (Some x) is = (x, refl)

  -- what is kept of a notice that runs is what the listener hears by it
  pub kept_runs : (call : ℕ) (was : Option (Heard K V)) (o : Option (Notice K V)) → option_map (running call) was ≡ if_running o → runs_in o ≡ true
      → (h : Heard K V) × (was ≡ Some h) × (o ≡ Some (running call h))
  kept_runs call was None e is = absurd (false≢true is)
  kept_runs call was (Some x) e is = by was (runs x.state) is e where
    by : (was : Option (Heard K V)) (b : Bool) → b ≡ true → option_map (running call) was ≡ cond b (Some x) None → (h : Heard K V) × (was ≡ Some h) × (Some x ≡ Some (running call h))
    by None true is e = cc
    by (Some h) true is e = (h, refl, sym e)
    by was false is e = absurd (false≢true is)

  -- one that may end, and doesn't run, has ended
  pub ended_still : (o : Option (Notice K V)) → MayEnd o → runs_in o ≡ false → option_map with_end o ≡ o
  ended_still None may quiet = absurd may
  ended_still (Some x) may quiet = by x.state refl may quiet where
    by : (s : NoticeState) → x.state ≡ s → was_asked s ≡ true → runs s ≡ false → Some (with_end x) ≡ Some x
    by notice.Waiting e may quiet = absurd (false≢true may)
    by notice.Running e may quiet = absurd (false≢true (sym quiet))
    by notice.Ended e may quiet = ap (λ s. Some (record x { state = s })) (sym e)
    by notice.Skipped e may quiet = absurd (false≢true may)

  -- one was opened where it runs, or is among those of the past
  pub recalled : (r past : Bool) (o : Option (Notice K V)) → r ≡ runs_in o → past ≡ is_some (if_past o) → (r || past) ≡ is_some o
  recalled r past None e f = rw (e, f) refl
  recalled r past (Some x) e f = rw (e, f) (by (runs x.state)) where
    by : (b : Bool) → (b || is_some (cond b None (Some x))) ≡ true
    by true = refl
    by false = refl

  -- a number's notice that stays as it is changes nothing
  pub put_same : (notices : ℕ → Option (Notice K V)) (call : ℕ) (o : Option (Notice K V)) → o ≡ notices call → (n : ℕ) → put_at notices call o n ≡ notices n
  put_same notices call o same n = by (call == n) refl where
    by : (b : Bool) → (call == n) ≡ b → cond b o (notices n) ≡ notices n
    by true e = same ∙ ap notices (eqb-true call n e)
    by false e = refl

  module _ (told : ℕ → Option (Option (Heard K V))) (notices : ℕ → Option (Notice K V)) (call : ℕ) where
    -- which notices run
    module _ (now : (n : ℕ) → is_some (told n) ≡ runs_in (notices n)) where
      -- a notice is opened, and runs
      pub opened_runs : (kept : Option (Heard K V)) (x : Notice K V) → runs x.state ≡ true → (n : ℕ) → is_some (cond (call == n) (Some kept) (told n)) ≡ runs_in (put_at notices call (Some x) n)
      opened_runs kept x on n = by (call == n) where
        by : (b : Bool) → is_some (cond b (Some kept) (told n)) ≡ runs_in (cond b (Some x) (notices n))
        by true = sym on
        by false = now n

      -- a notice runs no more
      pub listed_runs : (x : Notice K V) → runs x.state ≡ false → (new : ℕ → Option (Option (Heard K V))) → new call ≡ None → ((n : ℕ) → (call == n) ≡ false → new n ≡ told n) →
          (n : ℕ) → is_some (new n) ≡ runs_in (put_at notices call (Some x) n)
      listed_runs x over new none same n = by (call == n) refl where
        by : (b : Bool) → (call == n) ≡ b → is_some (new n) ≡ runs_in (cond b (Some x) (notices n))
        by true e = ap is_some (ap new (sym (eqb-true call n e)) ∙ none) ∙ sym over
        by false e = ap is_some (same n e) ∙ now n

      -- a notice that doesn't run may as well not have been opened
      pub unopened_runs : told call ≡ None → (n : ℕ) → is_some (told n) ≡ runs_in (put_at notices call None n)
      unopened_runs none n = by (call == n) refl where
        by : (b : Bool) → (call == n) ≡ b → is_some (told n) ≡ runs_in (cond b None (notices n))
        by true e = ap is_some (ap told (sym (eqb-true call n e)) ∙ none)
        by false e = now n

      pub none_told : notices call ≡ None → told call ≡ None
      none_told none = by (told call) (now call ∙ ap runs_in none) where
        by : (o : Option (Option (Heard K V))) → is_some o ≡ false → o ≡ None
        by None e = refl
        by (Some h) e = absurd (false≢true (sym e))

    -- what the listener hears by them
    module _ (now : (n : ℕ) → heard_in n (told n) ≡ if_running (notices n)) where
      -- a notice is opened, and runs
      pub opened_heard : (h : Heard K V) (n : ℕ) → heard_in n (cond (call == n) (Some (Some h)) (told n)) ≡ if_running (put_at notices call (Some (running call h)) n)
      opened_heard h n = by (call == n) refl where
        by : (b : Bool) → (call == n) ≡ b → heard_in n (cond b (Some (Some h)) (told n)) ≡ if_running (cond b (Some (running call h)) (notices n))
        by true e = ap (λ m. Some (running m h)) (sym (eqb-true call n e))
        by false e = now n

      -- a notice runs no more
      pub listed_heard : (x : Notice K V) → runs x.state ≡ false → (new : ℕ → Option (Option (Heard K V))) → new call ≡ None → ((n : ℕ) → (call == n) ≡ false → new n ≡ told n) →
          (n : ℕ) → heard_in n (new n) ≡ if_running (put_at notices call (Some x) n)
      listed_heard x over new none same n = by (call == n) refl where
        by : (b : Bool) → (call == n) ≡ b → heard_in n (new n) ≡ if_running (cond b (Some x) (notices n))
        by true e = ap (heard_in n) (ap new (sym (eqb-true call n e)) ∙ none) ∙ rw over refl
        by false e = ap (heard_in n) (same n e) ∙ now n

      -- a notice that doesn't run may as well not have been opened
      pub unopened_heard : told call ≡ None → (n : ℕ) → heard_in n (told n) ≡ if_running (put_at notices call None n)
      unopened_heard none n = by (call == n) refl where
        by : (b : Bool) → (call == n) ≡ b → heard_in n (told n) ≡ if_running (cond b None (notices n))
        by true e = ap (heard_in n) (ap told (sym (eqb-true call n e)) ∙ none)
        by false e = now n

  module _ (past : ℕ → Option (Notice K V)) (notices : ℕ → Option (Notice K V)) (then : (n : ℕ) → past n ≡ if_past (notices n)) (call : ℕ) where
    -- a notice is opened, and runs
    pub opened_past : (h : Heard K V) → notices call ≡ None → (n : ℕ) → past n ≡ if_past (put_at notices call (Some (running call h)) n)
    opened_past h none n = by (call == n) refl where
      by : (b : Bool) → (call == n) ≡ b → past n ≡ if_past (cond b (Some (running call h)) (notices n))
      by true e = then n ∙ ap if_past (ap notices (sym (eqb-true call n e)) ∙ none)
      by false e = then n

    pub unopened_past : past call ≡ None → (n : ℕ) → past n ≡ if_past (put_at notices call None n)
    unopened_past none n = by (call == n) refl where
      by : (b : Bool) → (call == n) ≡ b → past n ≡ if_past (cond b None (notices n))
      by true e = ap past (sym (eqb-true call n e)) ∙ none
      by false e = then n

    -- a notice is listed among those of the past
    pub listed_past : (x : Notice K V) → runs x.state ≡ false → (n : ℕ) → cond (call == n) (Some x) (past n) ≡ if_past (put_at notices call (Some x) n)
    listed_past x over n = by (call == n) where
      by : (b : Bool) → cond b (Some x) (past n) ≡ if_past (cond b (Some x) (notices n))
      by true = rw over refl
      by false = then n

-- what is taken out is gone, and the rest stays
pub gone_at : {A : Type 0} (f g : ℕ → Option A) (k : ℕ) → ((n : ℕ) → g n ≡ cond (k == n) None (f n)) → g k ≡ None
gone_at {A} f g k is = by (k == k) refl (is k) where
  by : (b : Bool) → (k == k) ≡ b → g k ≡ cond b None (f k) → g k ≡ None
  by true e h = h
  by false e h = absurd (eqb-false k k e refl)

pub gone_else : {A : Type 0} (f g : ℕ → Option A) (k : ℕ) → ((n : ℕ) → g n ≡ cond (k == n) None (f n)) → (n : ℕ) → (k == n) ≡ false → g n ≡ f n
gone_else f g k is n e = is n ∙ ap (λ b. cond b None (f n)) e

-- where nothing is taken out all stays
pub gone_none : {A : Type 0} (f g : ℕ → Option A) (k : ℕ) → ((n : ℕ) → g n ≡ cond (k == n) None (f n)) → f k ≡ None → (n : ℕ) → g n ≡ f n
gone_none {A} f g k is none n = is n ∙ by (k == n) refl where
  by : (b : Bool) → (k == n) ≡ b → cond b None (f n) ≡ f n
  by true e = sym (ap f (sym (eqb-true k n e)) ∙ none)
  by false e = refl

-- a notice is found where it runs, or among those of the past
pub found_either : {K V : Type 0} (running_now past o : Option (Notice K V)) → running_now ≡ if_running o → past ≡ if_past o → either running_now past ≡ o
found_either r q None e f = rw (e, f) refl
found_either r q (Some x) e f = rw (e, f) (by (runs x.state)) where
  by : (b : Bool) → either (cond b (Some x) None) (cond b None (Some x)) ≡ Some x
  by true = refl
  by false = refl
