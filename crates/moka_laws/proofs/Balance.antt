-- Committed writes are counted: each stands as often as it was committed, which is at most once.
use Rattle.std.proofs.Common.{◌≡◌, ℕ, ◌+◌, ◌<◌, ◌≤◌, ◌==◌, Bool, true, false, cond, List, [], ◌∷◌, ◌++◌, map, Option, Some, None, refl, ap, ◌∙◌, arith}
use Rattle.std.proofs.lemmas.List.{map-append}
use Rattle.moka_hist.specs.Finite.{times}
use Rattle.moka_hist.specs.State.{Stay, State, World, Call, DeskPart, Listed}
use Rattle.moka_hist.specs.Plan.{Item, Aim, held_by, plan_of, lists_from}
use Rattle.moka_hist.specs.Plan as plan
use Rattle.moka_hist.specs.Visits.{number_of}
use Rattle.moka_hist.specs.declared.replies.Answer.TheVariants as reply
use Rattle.moka_hist.specs.Next.{Next, goes, stays, gives, answers}
use Rattle.moka_hist.specs.declared.records.Mode.{Mode}
use Rattle.moka_hist.specs.declared.records.Mode.TheVariants as mode
use Rattle.moka_hist.specs.Tables.{removed, written}
use Rattle.moka_hist.specs.Bound.{decided_by}
use Rattle.moka_hist.specs.declared.writes.Owed.{Owed}
use Rattle.moka_hist.specs.declared.writes.Write.{Write}
use Rattle.moka_hist.specs.declared.writes.Write.TheVariants.{Remove, Upsert}
use Rattle.moka_hist.specs.declared.accesses.Turn.{Turn}
use Rattle.moka_hist.specs.declared.accesses.Turn.TheVariants as turn
use Rattle.moka_laws.proofs.Counting.{times_append, same_number, other_number}
use Rattle.moka_laws.proofs.Sums.{sum_to}
use Rattle.moka_laws.proofs.Weights.{weigh, weigh_call, weigh_goes}
use Rattle.moka_hist.specs.Computing.{end_compute}
use Rattle.moka_hist.specs.Writing.{cause_handed, nothing_answer, removed_answer}
use Rattle.moka_laws.proofs.Rules.{said_next}
use Rattle.moka_laws.proofs.Outcomes.{taken_out}
use Rattle.moka_laws.proofs.Posts.{any_post, once, among, among_owed, post_of, may_write, late, late_call, late_goes, late_none, posts_none, IsClear, keeps_clear, misses_clear, finds_clear, hits_clear, read_clear, told_clear, read_key_clear, told_op_clear}
use Rattle.moka_laws.proofs.StepCases.{OnStep}
use Rattle.moka_laws.proofs.Outcomes.{Outcomes, outcomes, passes_by}
use Rattle.moka_laws.proofs.Walks.{walked, weigh_finds, weigh_retiring}
use Rattle.moka_hist.specs.Maintenance.{carrying}

-- a number stands once more in a list with one more
pub times_first : (x y : ℕ) (ys : List ℕ) → times x (y ∷ ys) ≡ once x y + times x ys
times_first x y ys = by (x == y)
  where
    by : (b : Bool) → cond b (times x ys + 1) (times x ys) ≡ cond b 1 0 + times x ys
    by true = omega arith
    by false = omega arith

pub times_last : (x y : ℕ) (ys : List ℕ) → times x (ys ++ y ∷ []) ≡ times x ys + once x y
times_last x y ys = omega (arith, times_append x ys (y ∷ []), times_first x y [])

pub among_append : (x : ℕ) (xs ys : List Write) → among x (xs ++ ys) ≡ among x xs + among x ys
among_append x xs ys = ap (times x) (map-append number_of xs ys) ∙ times_append x (map number_of xs) (map number_of ys)

pub among_last : (x : ℕ) (w : Write) (xs : List Write) → among x (xs ++ w ∷ []) ≡ among x xs + once x (number_of w)
among_last x w xs = omega (arith, among_append x xs (w ∷ []), times_first x (number_of w) [])

pub owed_append : (x : ℕ) (xs ys : List Owed) → among_owed x (xs ++ ys) ≡ among_owed x xs + among_owed x ys
owed_append x xs ys =
    ap (times x) (map-append (λ o. number_of o.write) xs ys) ∙ times_append x (map (λ o. number_of o.write) xs) (map (λ o. number_of o.write) ys)

-- the numbers of owed writes are those of the writes
pub owed_numbers : (owed : List Owed) → map number_of (map (λ o. o.write) owed) ≡ map (λ o. number_of o.write) owed
owed_numbers [] = refl
owed_numbers (o ∷ owed) = ap (λ v. number_of o.write ∷ v) (owed_numbers owed)

module _ {K V E : Type 0} where
  -- how often the write of the number stands with the desk: owed, logged or applied
  abbrev pub on_desk : ℕ → DeskPart K V E → ℕ
  on_desk x d = among_owed x d.owed + among x d.log + among x d.applied

  -- how often live calls hold the write of the number
  abbrev pub with_calls : ℕ → State K V E → ℕ
  with_calls x s = sum_to s.world.desk.last (λ n. weigh_call (post_of x) (s.calls n))

  -- What is counted of a state.
  pub record IsBalanced (s : State K V E) : Type 0 where
    -- each live call has a number that was given out; it holds its one write where it can be found
    pub numbered : (n : ℕ) (c : Call K V E) → s.calls n ≡ Some c → n ≤ s.world.desk.last
    pub tidy : (n : ℕ) (c : Call K V E) → s.calls n ≡ Some c → late c.plan ≡ 0
    -- a call that may still write has committed nothing, and nothing was committed by no call
    pub unspent : (n : ℕ) (c : Call K V E) → s.calls n ≡ Some c → times n s.world.table.committed + weigh may_write c.plan ≤ 1
    pub unborn : (n : ℕ) → s.world.desk.last < n → times n s.world.table.committed ≡ 0
    -- each write was committed at most once, and stands as often as it was committed
    pub once : (x : ℕ) → times x s.world.table.committed ≤ 1
    pub balance : (x : ℕ) → with_calls x s + on_desk x s.world.desk ≡ times x s.world.table.committed

  -- what a step of a call with this plan has to show
  pub record Balances (w : World K V E) (n : ℕ) (plan : List (Item K V E)) (new : World K V E) (next : Next K V E) : Type 0 where
    pub last : new.desk.last ≡ w.desk.last
    pub tidy : late_call next.left ≡ 0
    pub spent : times n new.table.committed + weigh_call may_write next.left ≤ 1
    pub others : (m : ℕ) → (n == m) ≡ false → times m new.table.committed ≡ times m w.table.committed
    pub balance : (x : ℕ) → weigh_call (post_of x) next.left + on_desk x new.desk + times x w.table.committed ≡ weigh
        (post_of x) plan + on_desk x w.desk + times x new.table.committed

  module _ (w : World K V E) (n : ℕ) (plan : List (Item K V E)) where
    -- the world and the call's plan are as they were, but for how long an operation has stayed undecided
    stays_put : (stay : Stay) (c : Call K V E) → c.plan ≡ plan → late plan ≡ 0 → times n w.table.committed + weigh may_write plan ≤ 1 →
        (mode : Mode) (turn : Turn K V E) → Balances w n plan (record w { stay = stay }) (record { left = Some (record c { mode = mode }); turn = turn })
    stays_put stay c e t spent mode turn = record {
      last = refl;
      tidy = ap late e ∙ t;
      spent = omega (arith, ap (weigh may_write) e);
      others = λ m h. refl;
      balance = λ x. omega (arith, ap (weigh (post_of x)) e);
    }

    -- a step of a walk posts nothing, and makes no write
    walks_put : (listings : ℕ → Option (Listed K)) (stay : Stay) (next : Next K V E) → late_call next.left ≡ 0 →
        times n w.table.committed + weigh_call may_write next.left ≤ 1 →
        ((x : ℕ) → weigh_call (post_of x) next.left ≡ weigh (post_of x) plan) → Balances w n plan (walked w listings stay) next
    walks_put listings stay next tidy spent posts =
        record { last = refl; tidy = tidy; spent = spent; others = λ m h. refl; balance = λ x. omega (arith, posts x) }

    -- a call with nothing to post is clear
    was_clear : (c : Call K V E) → c.plan ≡ plan → late plan ≡ 0 → times n w.table.committed + weigh may_write plan ≤ 1 →
        ((x : ℕ) → weigh (post_of x) plan ≡ 0) → IsClear (Some c)
    was_clear c e t spent posts = record {
      late = ap late e ∙ t;
      posts = λ x. ap (weigh (post_of x)) e ∙ posts x;
      may = omega
          (arith, ap (weigh may_write) e);
    }

    -- the call goes on, or has ended, with no write of its own
    clears : {new : World K V E} {next : Next K V E} → new.desk.last ≡ w.desk.last → new.table.committed ≡ w.table.committed →
        ((x : ℕ) → on_desk x new.desk ≡ on_desk x w.desk) → IsClear next.left → ((x : ℕ) → weigh (post_of x) plan ≡ 0) →
        times n w.table.committed + 1 ≤ 1 → Balances w n plan new next
    clears l t d clear posts spent = record {
      last = l;
      tidy = clear.late;
      spent = omega (arith, ap (times n) t, clear.may);
      others = λ m h. ap (times m) t;
      balance = λ x. omega (arith, clear.posts x, posts x, d x, ap (times x) t);
    }

  module _ (w : World K V E) (n : ℕ) (c : Call K V E) (item : Item K V E) (rest : List (Item K V E)) where
    -- the call goes on with the rest of its plan, and the item had no part in its writes
    goes_on : {new : World K V E} → new.desk.last ≡ w.desk.last → new.table.committed ≡ w.table.committed →
        ((x : ℕ) → on_desk x new.desk ≡ on_desk x w.desk) → late rest ≡ 0 → ((x : ℕ) → post_of x item ≡ 0) →
        times n w.table.committed + weigh may_write rest ≤ 1 → Balances w n (item ∷ rest) new (goes c rest)
    goes_on l t d late posts spent = record {
      last = l;
      tidy = late_goes c rest ∙ late;
      spent = omega (arith, ap (times n) t, weigh_goes may_write c rest (λ a. refl));
      others = λ m h. ap (times m) t;
      balance = λ x. omega (arith, weigh_goes (post_of x) c rest (λ a. refl), posts x, d x, ap (times x) t);
    }

  module _ (eq : K → K → Bool) (w : World K V E) (n : ℕ) (c : Call K V E) where
    on_item : (item : Item K V E) (rest : List (Item K V E)) → c.plan ≡ item ∷ rest → late (item ∷ rest) ≡ 0 →
        times n w.table.committed + weigh may_write (item ∷ rest) ≤ 1 → Outcomes eq (Balances w n (item ∷ rest)) w n c item rest
    on_item plan.Drain rest e t sp = (
      λ none. goes_on w n c plan.Drain rest refl refl (λ x. refl) (late_none rest t) (λ x. refl) (omega arith),
      λ y ys some. record {
        last = refl;
        tidy = omega arith;
        spent = omega arith;
        others = λ m h. refl;
        balance = λ x. omega (arith, ap (among_owed x) some, times_first x (number_of y) (map (λ o. number_of o.write) ys));
      },
      λ y number ys some. record {
        last = refl;
        tidy = omega arith;
        spent = omega arith;
        others = λ m h. refl;
        balance = λ x. omega (arith, ap (among_owed x) some, times_first x (number_of y) (map (λ o. number_of o.write) ys));
      },
    )
    on_item (plan.Notice key old cause upsert) rest e t sp = (
      λ off. goes_on w n c (plan.Notice key old cause upsert) rest refl refl (λ x. refl) t
          (λ x. refl) (omega arith),
      λ on. record { last = refl; tidy = t; spent = omega arith; others = λ m h. refl; balance = λ x. omega arith },
    )
    on_item (plan.Post write) rest e t sp = (
      λ room. record {
        last = refl;
        tidy = late_goes c rest ∙ late_none rest t;
        spent = omega (arith, weigh_goes may_write c rest (λ a. refl));
        others = λ m h. refl;
        balance = λ x. omega (arith, weigh_goes (post_of x) c rest (λ a. refl), among_last x write w.desk.log);
      },
      λ full. record {
        last = refl;
        tidy = t;
        spent = omega arith;
        others = λ m h. refl;
        balance = λ x. omega arith;
      },
    )
    on_item plan.Apply rest e t sp = (
      λ none. goes_on w n c plan.Apply rest refl refl (λ x. refl) t (λ x. refl) (omega arith),
      λ y ys some. record {
        last = refl;
        tidy = t;
        spent = omega arith;
        others = λ m h. refl;
        balance = λ x. omega (arith, ap (among x) some, times_first x (number_of y) (map number_of ys), among_last x y w.desk.applied);
      },
    )
    on_item (plan.Get aim key) rest e t sp = (
      λ more. stays_put w n (plan.Get aim key ∷ rest) _ c e t sp mode.Mid turn.Going,
      λ none. clears w n (plan.Get aim key ∷ rest) refl refl (λ x. refl) (misses_clear c aim)
          (λ x. omega (arith, posts_none x rest t)) (omega arith),
      λ k stored some. clears w n (plan.Get aim key ∷ rest) refl refl (λ x. refl)
          (finds_clear c aim k stored)
          (λ x. omega (arith, posts_none x rest t)) (omega arith),
    )
    on_item (plan.Judge aim key stored) rest e t sp = (
      λ seen. clears w n (plan.Judge aim key stored ∷ rest) refl refl (λ x. refl)
          (hits_clear c aim key stored.value
          (was_clear w n (plan.Judge aim key stored ∷ rest) c e t sp
          (λ x. omega (arith, posts_none x rest t))))
          (λ x. omega (arith, posts_none x rest t)) (omega arith),
      λ unseen. clears w n (plan.Judge aim key stored ∷ rest) refl refl (λ x. refl)
          (misses_clear c aim)
          (λ x. omega (arith, posts_none x rest t)) (omega arith),
    )
    on_item (plan.Own sought) rest e t sp = (
      λ able none. clears w n (plan.Own sought ∷ rest) refl refl (λ x. refl)
          (record { late = refl; posts = λ x. refl; may = omega arith })
          (λ x. omega (arith, posts_none x rest t)) (omega arith),
      λ not none. clears w n (plan.Own sought ∷ rest) refl refl (λ x. refl)
          (record { late = refl; posts = λ x. refl; may = omega arith })
          (λ x. omega (arith, posts_none x rest t)) (omega arith),
      λ owner some. clears w n (plan.Own sought ∷ rest) refl refl (λ x. refl)
          (record { late = refl; posts = λ x. refl; may = omega arith })
          (λ x. omega (arith, posts_none x rest t)) (omega arith),
    )
    on_item (plan.Own_key compute) rest e t sp = (
      (
        (λ able none. clears w n (plan.Own_key compute ∷ rest) refl refl (λ x. refl)
            (record { late = refl; posts = λ x. refl; may = omega arith })
            (λ x. omega (arith, posts_none x rest t)) (omega arith)),
        λ not none. clears w n (plan.Own_key compute ∷ rest) refl refl (λ x. refl)
            (record { late = refl; posts = λ x. refl; may = omega arith })
            (λ x. omega (arith, posts_none x rest t)) (omega arith),
      ),
      λ owner some. clears w n (plan.Own_key compute ∷ rest) refl refl (λ x. refl)
          (record { late = refl; posts = λ x. refl; may = omega arith })
          (λ x. omega (arith, posts_none x rest t)) (omega arith),
    )
    on_item (plan.Own_alone key) rest e t sp = (
      (
        (λ able none. clears w n (plan.Own_alone key ∷ rest) refl refl (λ x. refl)
            (record { late = refl; posts = λ x. refl; may = omega arith })
            (λ x. omega (arith, posts_none x rest t)) (omega arith)),
        λ not none. clears w n (plan.Own_alone key ∷ rest) refl refl (λ x. refl)
            (record { late = refl; posts = λ x. refl; may = omega arith })
            (λ x. omega (arith, posts_none x rest t)) (omega arith),
      ),
      λ owner some. (
        (λ able. clears w n (plan.Own_alone key ∷ rest) refl refl (λ x. refl)
            (record { late = refl; posts = λ x. refl; may = omega arith })
            (λ x. omega (arith, posts_none x rest t)) (omega arith)),
        λ not. clears w n (plan.Own_alone key ∷ rest) refl refl (λ x. refl)
            (record { late = refl; posts = λ x. refl; may = omega arith })
            (λ x. omega (arith, posts_none x rest t)) (omega arith),
      ),
    )
    on_item (plan.Read sought) rest e t sp = (
      λ none. stays_put w n (plan.Read sought ∷ rest) w.stay c e t sp mode.Parked turn.Wait,
      λ with some. clears w n (plan.Read sought ∷ rest) refl refl (λ x. refl)
          (read_clear c sought with (was_clear w n (plan.Read sought ∷ rest) c e t sp (λ x. omega (arith, posts_none x rest t))))
          (λ x. omega (arith, posts_none x rest t)) (omega arith),
    )
    on_item (plan.Read_key compute) rest e t sp = (
      λ none. stays_put w n (plan.Read_key compute ∷ rest) w.stay c e t sp mode.Parked turn.Wait,
      λ with some. clears w n (plan.Read_key compute ∷ rest) refl refl (λ x. refl)
          (read_key_clear c compute with (was_clear w n (plan.Read_key compute ∷ rest) c e t sp (λ x. omega (arith, posts_none x rest t))))
          (λ x. omega (arith, posts_none x rest t)) (omega arith),
    )
    on_item (plan.Ask load) rest e t sp =
        clears w n (plan.Ask load ∷ rest) refl refl (λ x. refl) (record { late = refl; posts = λ x. refl; may = omega arith })
        (λ x. omega (arith, posts_none x rest t)) (omega arith)
    on_item (plan.Ask_op compute pair) rest e t sp =
        clears w n (plan.Ask_op compute pair ∷ rest) refl refl (λ x. refl)
        (record { late = refl; posts = λ x. refl; may = omega arith })
        (λ x. omega (arith, posts_none x rest t)) (omega arith)
    on_item (plan.Told load) rest e t sp = (
      λ none. stays_put w n (plan.Told load ∷ rest) w.stay c e t sp mode.Parked turn.Wait,
      λ given some. clears w n (plan.Told load ∷ rest) refl refl (λ x. refl)
          (told_clear c load given (was_clear w n (plan.Told load ∷ rest) c e t sp (λ x. omega (arith, posts_none x rest t))))
          (λ x. omega (arith, posts_none x rest t)) (omega arith),
    )
    on_item (plan.Told_op compute pair) rest e t sp = (
      λ none. stays_put w n (plan.Told_op compute pair ∷ rest) w.stay c e t sp mode.Parked turn.Wait,
      λ given some. clears w n (plan.Told_op compute pair ∷ rest) refl refl (λ x. refl)
          (told_op_clear c compute pair given (was_clear w n (plan.Told_op compute pair ∷ rest) c e t sp (λ x. omega (arith, posts_none x rest t))))
          (λ x. omega (arith, posts_none x rest t)) (omega arith),
    )
    on_item (plan.Holds key stamp cause there stored) rest e t sp = (
      λ leaves. clears w n (plan.Holds key stamp cause there stored ∷ rest) refl refl (λ x. refl)
          (record { late = refl; posts = λ x. refl; may = omega arith })
          (λ x. omega (arith, posts_none x rest t)) (omega arith),
      λ stays. clears w n (plan.Holds key stamp cause there stored ∷ rest) refl refl (λ x. refl)
          (keeps_clear c)
          (λ x. omega (arith, posts_none x rest t)) (omega arith),
    )
    on_item (plan.Moment (plan.To_store key value)) rest e t sp =
        record {
          last = refl;
          tidy = t;
          spent = omega arith;
          others = λ m h. refl;
          balance = λ x. omega arith;
        }
    on_item (plan.Moment (plan.To_take_out removal key)) rest e t sp =
        record {
          last = refl;
          tidy = t;
          spent = omega arith;
          others = λ m h. refl;
          balance = λ x. omega arith;
        }
    on_item (plan.Write key value moment) rest e t sp = (
      λ more. stays_put w n (plan.Write key value moment ∷ rest) _ c e t sp mode.Mid turn.Going,
      λ off old. commits (plan.Post (Upsert n old) ∷ rest) t (omega arith) (λ x. refl),
      λ on. commits (plan.Unlock true ∷ plan.Post (Upsert n None) ∷ rest) t (omega arith)
          (λ x. omega arith),
      λ k old on some. commits
          (plan.Notice key old None true ∷ plan.Unlock true ∷ plan.Post (Upsert n (Some old.stamp))
          ∷ rest) t
          (omega arith) (λ x. omega arith),
    )
      where
        -- the write is committed, and the call goes on with a plan that posts it
        commits : (p : List (Item K V E)) → late p ≡ 0 → weigh may_write p ≡ weigh may_write rest →
            ((x : ℕ) → weigh (post_of x) p ≡ once x n + weigh (post_of x) rest) →
            Balances w n (plan.Write key value moment ∷ rest)
            (record w { table = written eq n w.table key (record { value = value; stamp = n; modified = moment }); stay = decided_by n })
            (record { left = Some (record c { mode = mode.Mid; plan = p }); turn = turn.Going })
        commits p tidy may posts = record {
          last = refl;
          tidy = tidy;
          spent = omega (arith, may, times_last n n w.table.committed, ap (λ b. cond {A = ℕ} b 1 0) (same_number n));
          others = λ m h. omega (arith, times_last m n w.table.committed, ap (λ b. cond {A = ℕ} b 1 0) (other_number n m h));
          balance = λ x. omega (arith, posts x, times_last x n w.table.committed);
        }
    on_item (plan.Out removal key) rest e t sp = (
      (λ more. stays_put w n (plan.Out removal key ∷ rest) _ c e t sp mode.Mid turn.Going),
      (λ off none. clears w n (plan.Out removal key ∷ rest) refl refl (λ x. refl)
          (said_next (λ v. IsClear v.left) c (λ q. plan.Idle ∷ q) removal (nothing_answer removal)
          (record { late = refl; posts = λ x. refl; may = omega arith })
          (record { late = refl; posts = λ x. refl; may = omega arith }))
          (λ x. omega (arith, posts_none x rest t)) (omega arith)),
      (λ on none. clears w n (plan.Out removal key ∷ rest) refl refl (λ x. refl)
          (said_next (λ v. IsClear v.left) c (λ q. plan.Unlock false ∷ q) removal (nothing_answer removal)
          (record { late = refl; posts = λ x. refl; may = omega arith })
          (record { late = refl; posts = λ x. refl; may = omega arith }))
          (λ x. omega (arith, posts_none x rest t)) (omega arith)),
      (λ k old off some. said_next (Balances w n (plan.Out removal key ∷ rest)
          (taken_out eq w n key)) c
          (λ q. plan.Post (Remove n old.stamp) ∷ q) removal (removed_answer removal old.value)
          (commits (plan.Post (Remove n old.stamp) ∷ plan.Reply _ ∷ []) refl refl (λ x. omega arith))
          (commits (plan.Post (Remove n old.stamp) ∷ end_compute _) refl refl (λ x. omega arith))),
      λ k old on some. said_next (Balances w n (plan.Out removal key ∷ rest)
          (taken_out eq w n key)) c
          (λ q. plan.Notice key old (cause_handed removal) false ∷ plan.Unlock true ∷ plan.Post (Remove n old.stamp) ∷ q)
          removal (removed_answer removal old.value)
          (commits (plan.Notice key old _ false ∷ plan.Unlock true ∷ plan.Post (Remove n old.stamp) ∷ plan.Reply _ ∷ [])
          refl refl (λ x. omega arith))
          (commits (plan.Notice key old _ false ∷ plan.Unlock true ∷ plan.Post (Remove n old.stamp) ∷ end_compute _)
          refl refl (λ x. omega arith)),
    )
      where
        -- the removal is committed, and the call goes on with a plan that posts it
        commits : (p : List (Item K V E)) → late p ≡ 0 → weigh may_write p ≡ 0 →
            ((x : ℕ) → weigh (post_of x) p ≡ once x n) →
            Balances w n (plan.Out removal key ∷ rest)
            (record w { table = removed eq n w.table key; stay = decided_by n })
            (record { left = Some (record c { mode = mode.Mid; plan = p }); turn = turn.Going })
        commits p tidy may posts = record {
          last = refl;
          tidy = tidy;
          spent = omega (
            arith,
            may,
            times_last n n w.table.committed,
            ap (λ b. cond {A = ℕ} b 1 0)
                (same_number n),
          );
          others = λ m h. omega (
            arith,
            times_last m n w.table.committed,
            ap (λ b. cond {A = ℕ} b 1 0)
                (other_number n m h),
          );
          balance = λ x. omega
              (arith, posts x, posts_none x rest t, times_last x n w.table.committed);
        }
    on_item (plan.Register test) rest e t sp = record {
      last = refl;
      tidy = refl;
      spent = omega arith;
      others = λ m h. refl;
      balance = λ x. omega (arith, posts_none x rest t);
    }
    on_item (plan.Reply answer) rest e t sp = record {
      last = refl;
      tidy = refl;
      spent = omega arith;
      others = λ m h. refl;
      balance = λ x. omega (arith, posts_none x rest t);
    }
    on_item (plan.Settle with) rest e t sp = goes_on w n c (plan.Settle with) rest refl refl
        (λ x. refl) (late_none rest t) (λ x. refl) (omega arith)
    on_item (plan.Lock key) rest e t sp = (
      λ free. goes_on w n c (plan.Lock key) rest refl refl (λ x. refl) (late_none rest t) (λ x. refl) (omega arith),
      λ held. stays_put w n (plan.Lock key ∷ rest) w.stay c e t sp mode.Parked turn.Wait,
    )
    on_item (plan.List_keys part) rest e t sp = (
      (λ more. walks_put w n (plan.List_keys part ∷ rest) _ _ (stays c) (ap late e ∙ t) (omega (arith, ap (weigh may_write) e))
          (λ x. ap (weigh (post_of x)) e)),
      λ listed keys is gives. walks_put w n (plan.List_keys part ∷ rest) _ _ (goes c (map plan.Find keys ++ rest))
          (late_goes c (map plan.Find keys ++ rest) ∙ late_none (map plan.Find keys ++ rest) (weigh_finds any_post (λ key. refl) keys rest ∙ t))
          (omega (arith, weigh_goes may_write c (map plan.Find keys ++ rest) (λ a. refl), weigh_finds {E = E} may_write (λ key. refl) keys rest))
          (λ x. omega (arith, weigh_goes (post_of x) c (map plan.Find keys ++ rest) (λ a. refl), weigh_finds {E = E} (post_of x) (λ key. refl) keys rest)),
    )
    on_item (plan.Find key) rest e t sp = (
      (λ more. stays_put w n (plan.Find key ∷ rest) _ c e t sp mode.Mid turn.Going),
      (λ none. goes_on w n c (plan.Find key) rest refl refl (λ x. refl) (late_none rest t) (λ x. refl) (omega arith)),
      (λ k stored some none. walks_put w n (plan.Find key ∷ rest) w.table.listings (decided_by n) (goes c (plan.Scan k stored ∷ rest)) t
          (omega arith) (λ x. omega arith)),
      λ k stored ids some is. walks_put w n (plan.Find key ∷ rest) w.table.listings (decided_by n) (goes c (plan.Strike k stored ∷ rest)) t
          (omega arith) (λ x. omega arith),
    )
    on_item (plan.Scan there stored) rest e t sp = (
      (λ seen. walks_put w n (plan.Scan there stored ∷ rest) w.table.listings w.stay (gives c there stored.value rest) (late_none rest t)
          (omega arith) (λ x. omega arith)),
      λ unseen. goes_on w n c (plan.Scan there stored) rest refl refl (λ x. refl) (late_none rest t) (λ x. refl) (omega arith),
    )
    on_item (plan.Candidates parts) rest e t sp = (
      (λ none. walks_put w n (plan.Candidates parts ∷ rest) w.table.listings w.stay (answers reply.Done) refl (omega arith)
          (λ x. omega (arith, posts_none x rest t))),
      λ id more some.
          let lists : List (Item K V E) = lists_from 0 parts (plan.Retire ∷ []) in
          let on : Call K V E = carrying c (id ∷ more) in
          walks_put w n (plan.Candidates parts ∷ rest) w.table.listings w.stay (goes on lists)
          (late_goes on lists ∙ late_none lists (weigh_retiring any_post (λ part. refl) refl parts))
          (omega (arith, weigh_goes may_write on lists (λ a. refl), weigh_retiring {K = K} {V = V} {E = E} may_write (λ part. refl) refl parts))
          (λ x. omega (
            arith,
            posts_none x rest t,
            weigh_goes (post_of x) on lists (λ a. refl),
            weigh_retiring {K = K} {V = V} {E = E} (post_of x) (λ part. refl) refl parts,
          )),
    )
    on_item (plan.Strike there stored) rest e t sp =
        goes_on w n (carrying c _) (plan.Strike there stored) rest refl refl (λ x. refl) (late_none rest t) (λ x. refl) (omega arith)
    on_item plan.Retire rest e t sp = record {
      last = refl;
      tidy = refl;
      spent = omega arith;
      others = λ m h. refl;
      balance = λ x. omega (arith, posts_none x rest t);
    }
    on_item plan.Idle rest e t sp = goes_on w n c plan.Idle rest refl refl (λ x. refl)
        (late_none rest t) (λ x. refl) (omega arith)
    on_item plan.Invalidate_all rest e t sp = goes_on w n c plan.Invalidate_all rest refl refl
        (λ x. refl) (late_none rest t) (λ x. refl) (omega arith)
    on_item item rest e t sp = passes_by eq (Balances w n (item ∷ rest)) w n c item rest tt
        (λ d a. goes_on w n c item rest a.last refl (λ x. rw (a.owed, a.log, a.applied) refl) t
        (λ x. refl) (omega arith))
        (stays_put w n (item ∷ rest) w.stay c e t sp mode.Parked turn.Wait)

    pub on_plan : (plan : List (Item K V E)) → c.plan ≡ plan → late plan ≡ 0 → times n w.table.committed + weigh may_write plan ≤ 1 →
        OnStep eq (Balances w n plan) w n c plan
    on_plan [] e t sp = record {
      last = refl;
      tidy = ap late e ∙ t;
      spent = omega (arith, ap (weigh may_write) e, sp);
      others = λ m h. refl;
      balance = λ x. omega (arith, ap (weigh (post_of x)) e);
    }
    on_plan (item ∷ rest) e t sp = outcomes eq (Balances w n (item ∷ rest)) w n c item rest (on_item item rest e t sp)
