-- What is counted of committed writes holds of every reached state.
use Rattle.std.proofs.Common.{Option, ◌≡◌, ◌≢◌, ℕ, ◌+◌, ◌<◌, ◌≤◌, ◌==◌, Bool, true, false, Some, None, refl, sym, ap, ◌∙◌, subst, arith}
use Rattle.std.specs.Option.{option_map, option_to_list}
use Rattle.std.proofs.lemmas.Bool.{eqb-true}
use Rattle.moka_hist.specs.Finite.{times, put_at}
use Rattle.moka_hist.specs.State.{State, World, Call}
use Rattle.moka_hist.specs.Plan.{held_by}
use Rattle.moka_hist.specs.Next.{Next}
use Rattle.moka_hist.specs.Dropping.{dropped, owed_with}
use Rattle.moka_hist.specs.Step.{Step, state_after}
use Rattle.moka_hist.specs.Run.{IsReached, started, fresh_call}
use Rattle.moka_hist.specs.declared.events.Start.{Start}
use Rattle.moka_hist.specs.declared.writes.Write.{Write}
use Rattle.moka_hist.specs.declared.accesses.Turn.{Turn}
use Rattle.moka_laws.proofs.Counting.{none_some, put_cases, put_here, put_there, differ}
use Rattle.moka_laws.proofs.Sums.{sum_zero, sum_next, sum_to, sum_same, sum_change}
use Rattle.moka_laws.proofs.Weights.{weigh, weigh_call}
use Rattle.moka_laws.proofs.Posts.{among, among_owed, post_of, may_write, late, late_call, posts_held, fresh_clear}
use Rattle.moka_laws.proofs.Kept.{IsInvariant, in_reached}
use Rattle.moka_laws.proofs.StepCases.{step_cases}
use Rattle.moka_laws.proofs.Balance.{IsBalanced, Balances, on_plan, owed_append}

module _ {K V E : Type 0} where
  -- the next number is that of no call
  pub next_free : (s : State K V E) → IsBalanced s → s.calls (s.world.desk.last + 1) ≡ None
  next_free s b = by (s.calls (s.world.desk.last + 1)) refl
    where
      by : (o : Option (Call K V E)) → s.calls (s.world.desk.last + 1) ≡ o → o ≡ None
      by None e = refl
      by (Some c) e = absurd (omega (arith, b.numbered (s.world.desk.last + 1) c e))

  -- ---- of a state

  -- a step that balances keeps what is counted
  balanced : (s : State K V E) (n : ℕ) (c : Call K V E) → s.calls n ≡ Some c → IsBalanced s → (w : World K V E) (next : Next K V E) →
      Balances s.world n c.plan w next → IsBalanced (state_after s n w next)
  balanced s n c live i w next b = record {
    numbered = λ m d lives. put_cases s.calls n next.left m (Some d) (m ≤ w.desk.last) lives
        (λ here is. omega (arith, i.numbered n c live, b.last)) (λ there is. omega (arith, i.numbered m d is, b.last));
    tidy = λ m d lives. put_cases s.calls n next.left m (Some d) (late d.plan ≡ 0) lives (λ here is. sym (ap late_call is) ∙ b.tidy)
        (λ there is. i.tidy m d is);
    unspent = λ m d lives.
        put_cases s.calls n next.left m (Some d) (times m w.table.committed + weigh may_write d.plan ≤ 1) lives
        (λ here is. subst (λ v. times v w.table.committed + weigh may_write d.plan ≤ 1) here (omega (arith, ap (weigh_call may_write) is, b.spent)))
        (λ there is. omega (arith, i.unspent m d is, b.others m there));
    unborn = λ m beyond. omega (arith, i.unborn m (omega (arith, b.last)), b.others m (differ n m (apart m beyond)));
    once = λ x. by_number x (n == x) refl;
    balance = λ x.
        let change = sum_change s.world.desk.last (λ m. weigh_call (post_of x) (s.calls m))
        (λ m. weigh_call (post_of x) (put_at s.calls n next.left m)) n (i.numbered n c live)
        (λ m h. ap (weigh_call (post_of x)) (put_there s.calls n next.left m h)) in
        let before = ap (weigh_call (post_of x)) live in
        let after = ap (weigh_call (post_of x)) (put_here s.calls n next.left) in
        let sums = ap (λ v. sum_to v (λ m. weigh_call (post_of x) (put_at s.calls n next.left m))) b.last in
        omega (arith, i.balance x, b.balance x);
  }
    where
      apart : (m : ℕ) → w.desk.last < m → n ≢ m
      apart m beyond = λ e. omega (arith, i.numbered n c live, b.last)

      by_number : (x : ℕ) (t : Bool) → (n == x) ≡ t → times x w.table.committed ≤ 1
      by_number x true e = subst (λ v. times v w.table.committed ≤ 1) (eqb-true n x e) (omega (arith, b.spent))
      by_number x false e = omega (arith, i.once x, b.others x e)

module _ {K V E : Type 0} (eq : K → K → Bool) where
  balanced_step : (s t : State K V E) (n : ℕ) (turn : Turn K V E) → IsBalanced s → Step eq s n turn t → IsBalanced t
  balanced_step s t n turn i step =
      let c : Call K V E = step.call in
      step_cases eq (Balances s.world n c.plan) (λ v _. IsBalanced v) s t n turn step
      (on_plan eq s.world n c c.plan refl (i.tidy n c step.live) (i.unspent n c step.live))
      (λ w next. balanced s n c step.live i w next)

  -- a new call has nothing to post, and the next number
  balanced_start : (s : State K V E) (start : Start K V) → IsBalanced s → IsBalanced (started s start)
  balanced_start s start i =
      let new : ℕ = s.world.desk.last + 1 in
      let clear = fresh_clear s.world.table.division.parts s.world.desk.rules start in
      record {
        numbered = λ m d lives. put_cases s.calls new (Some (fresh_call s.world.table.division.parts s.world.desk.rules start)) m (Some d) (m ≤ new) lives (λ here is. omega arith)
            (λ there is. omega (arith, i.numbered m d is));
        tidy = λ m d lives. put_cases s.calls new (Some (fresh_call s.world.table.division.parts s.world.desk.rules start)) m (Some d) (late d.plan ≡ 0) lives
            (λ here is. sym (ap late_call is) ∙ clear.late) (λ there is. i.tidy m d is);
        unspent = λ m d lives.
            put_cases s.calls new (Some (fresh_call s.world.table.division.parts s.world.desk.rules start)) m (Some d) (times m s.world.table.committed + weigh may_write d.plan ≤ 1) lives
            (λ here is. omega (arith, i.unborn m (omega arith), ap (weigh_call may_write) is, clear.may))
            (λ there is. i.unspent m d is);
        unborn = λ m beyond. i.unborn m (omega arith);
        once = i.once;
        balance = λ x.
            let f : ℕ → ℕ = λ m. weigh_call (post_of x) (s.calls m) in
            let g : ℕ → ℕ = λ m. weigh_call (post_of x) (put_at s.calls new (Some (fresh_call s.world.table.division.parts s.world.desk.rules start)) m) in
            let old = sum_same s.world.desk.last f g
            (λ m small. ap (weigh_call (post_of x))
            (put_there s.calls new (Some (fresh_call s.world.table.division.parts s.world.desk.rules start)) m (differ new m (λ e. omega arith)))) in
            let last = sum_next s.world.desk.last g in
            let here = ap (weigh_call (post_of x)) (put_here s.calls new (Some (fresh_call s.world.table.division.parts s.world.desk.rules start))) in
            omega (arith, i.balance x, clear.posts x);
      }

  -- what a dropped call leaves is the write that it held
  pub gives_up : (s : State K V E) (x : ℕ) (o : Option Write) →
      among_owed x (option_to_list (option_map (owed_with s.world.desk) o)) ≡ among x (option_to_list o)
  gives_up s x None = refl
  gives_up s x (Some v) = refl

  -- a dropped call leaves the write that it holds
  balanced_drop : (s : State K V E) (n : ℕ) (c : Call K V E) → s.calls n ≡ Some c → IsBalanced s → IsBalanced (dropped s n c)
  balanced_drop s n c live i = record {
    numbered = λ m d lives. put_cases s.calls n None m (Some d) (m ≤ s.world.desk.last) lives (λ here is. absurd (none_some is))
        (λ there is. i.numbered m d is);
    tidy = λ m d lives. put_cases s.calls n None m (Some d) (late d.plan ≡ 0) lives (λ here is. absurd (none_some is)) (λ there is. i.tidy m d is);
    unspent = λ m d lives. put_cases s.calls n None m (Some d) (times m s.world.table.committed + weigh may_write d.plan ≤ 1) lives
        (λ here is. absurd (none_some is)) (λ there is. i.unspent m d is);
    unborn = i.unborn;
    once = i.once;
    balance = λ x.
        let f : ℕ → ℕ = λ m. weigh_call (post_of x) (s.calls m) in
        let g : ℕ → ℕ = λ m. weigh_call (post_of x) (put_at s.calls n None m) in
        let change = sum_change s.world.desk.last f g n (i.numbered n c live) (λ m h. ap (weigh_call (post_of x)) (put_there s.calls n None m h)) in
        let before = ap (weigh_call (post_of x)) live in
        let after = ap (weigh_call (post_of x)) (put_here s.calls n None) in
        let new = option_to_list (option_map (owed_with s.world.desk) (held_by c.plan)) in
        omega (arith, i.balance x, posts_held x c.plan (i.tidy n c live), owed_append x s.world.desk.owed new, gives_up s x (held_by c.plan));
  }

  pub balanced_kept : IsInvariant eq (IsBalanced {K = K} {V = V} {E = E})
  balanced_kept = record {
    fresh = λ division divides rules size built has_log. record {
      numbered = λ n c live. absurd (none_some live);
      tidy = λ n c live. absurd (none_some live);
      unspent = λ n c live. absurd (none_some live);
      unborn = λ n beyond. refl;
      once = λ x. omega arith;
      balance = λ x. omega (arith, sum_zero (λ n. 0));
    };
    at = λ s moment i. record { numbered = i.numbered; tidy = i.tidy; unspent = i.unspent; unborn = i.unborn; once = i.once; balance = i.balance };
    start = balanced_start;
    step = balanced_step;
    tell = λ s n given asked i. record {
      numbered = i.numbered;
      tidy = i.tidy;
      unspent = i.unspent;
      unborn = i.unborn;
      once = i.once;
      balance = i.balance;
    };
    hear = λ s n off running i. record {
      numbered = i.numbered;
      tidy = i.tidy;
      unspent = i.unspent;
      unborn = i.unborn;
      once = i.once;
      balance = i.balance;
    };
    drop = λ s n c live between i. balanced_drop s n c live i;
  }

  pub in_balance : (s : State K V E) → IsReached eq s → IsBalanced s
  in_balance s h = in_reached eq IsBalanced balanced_kept s h
