-- A call that answers leaves its write logged or applied, for good.
use Rattle.std.proofs.Common.{◌≡◌, ℕ, zero, suc, ◌+◌, ◌<◌, ◌≤◌, ◌==◌, Bool, true, false, cond, List, [], ◌∷◌, ◌++◌, map, take, drop, append-nil, Option, Some, None, Contains, inl, inr, refl, sym, ap, ◌∙◌, subst, arith}
use Rattle.std.proofs.lemmas.Bool.{eqb-true}
use Rattle.std.specs.Option.{option_map, option_to_list}
use Rattle.moka_hist.specs.Finite.{put_at}
use Rattle.moka_hist.specs.State.{State, World, Call, DeskPart}
use Rattle.moka_hist.specs.Plan.{Item, Aim, held_by, lists_from}
use Rattle.moka_hist.specs.Plan as plan
use Rattle.moka_hist.specs.Visits.{claimed_alone, claimed, has_room, is_unlocked_for, locked_by, makes, number_of, settlement_for}
use Rattle.moka_hist.specs.Next.{Next, goes}
use Rattle.moka_hist.specs.Looking.{hits, misses, keeps, finds_pair}
use Rattle.moka_hist.specs.Loading.{after_read, after_told, after_abort, retries}
use Rattle.moka_hist.specs.Step.{Access, On_table, On_desk, Gets, access_of, state_after}
use Rattle.moka_hist.specs.Dropping.{dropped, owed_with}
use Rattle.moka_hist.specs.Run.{Any, started, fresh_call}
use Rattle.moka_hist.specs.Places.{IsLawful}
use Rattle.moka_hist.specs.declared.accesses.Got.{Got}
use Rattle.moka_hist.specs.declared.accesses.Got.TheVariants as got
use Rattle.moka_hist.specs.declared.accesses.Turn.TheVariants as turn
use Rattle.moka_hist.specs.declared.events.Start.{Start}
use Rattle.moka_hist.specs.declared.events.Told.{Told}
use Rattle.moka_hist.specs.declared.events.Told.TheVariants as answer
use Rattle.moka_hist.specs.declared.loads.Load.{Load}
use Rattle.moka_hist.specs.declared.loads.Sought.{Sought}
use Rattle.moka_hist.specs.declared.replies.Answer.{Answer}
use Rattle.moka_hist.specs.declared.tables.TableTurn.TheVariants as table
use Rattle.moka_hist.specs.declared.records.Stored.{Stored}
use Rattle.moka_hist.specs.declared.visits.Settled.{Settled}
use Rattle.moka_hist.specs.declared.visits.Settled.TheVariants as settled
use Rattle.moka_hist.specs.declared.visits.Found.TheVariants as found
use Rattle.moka_hist.specs.declared.visits.Visit.{Visit}
use Rattle.moka_hist.specs.declared.visits.Visit.TheVariants as visit
use Rattle.moka_hist.specs.declared.writes.Write.{Write}
use Rattle.moka_laws.specs.Answered.{AnsweredIsPosted, IsPosted, PostedStays}
use Rattle.moka_laws.proofs.Counting.{none_some, put_cases, put_there, other_number}
use Rattle.moka_laws.proofs.Sums.{sum_has, sum_holds}
use Rattle.moka_hist.specs.Writing.{nothing_answer, removed_answer, said}
use Rattle.moka_laws.proofs.Weights.{weigh, weigh_call, weigh_goes, weigh_said}
use Rattle.moka_laws.proofs.Posts.{among, among_owed, post_of, posts_held, fresh_clear}
use Rattle.moka_laws.proofs.Balance.{IsBalanced, owed_append, among_last, times_first, with_calls}
use Rattle.moka_laws.proofs.Balanced.{balanced_kept, gives_up}
use Rattle.moka_laws.proofs.Rules.{put_plans, loaded_plans, kept_next, chosen_by, read_key_next, told_op_next}
use Rattle.moka_laws.proofs.Between.{run_more}
use Rattle.moka_laws.proofs.OnePlace.{contains_times}
use Rattle.moka_laws.proofs.Kept.{IsInvariant, IsStable, in_reached, runs}
use Rattle.moka_laws.proofs.StepCases.{OnStep, step_cases}
use Rattle.moka_laws.proofs.Outcomes.{Outcomes, outcomes, computes_of, passes_by}
use Rattle.moka_hist.specs.declared.loads.Compute.{Compute}
use Rattle.moka_hist.specs.Computing.{after_told_op, after_read_key}
use Rattle.moka_laws.proofs.Walks.{weigh_finds, weigh_retiring}
use Rattle.moka_hist.specs.Maintenance.{carrying}

module _ {K V E : Type 0} where
  -- ---- the write of a live call is with no other call, and isn't owed

  -- How a call with this plan goes on: it posts no other call's write but one that it posted before
  -- or that was owed, and it is gone where it answers.
  record Parts (owed : ℕ → ℕ) (n : ℕ) (plan : List (Item K V E)) (next : Next K V E) : Type 0 where
    posts : (x : ℕ) → (n == x) ≡ false → weigh_call (post_of x) next.left ≤ weigh (post_of x) plan + owed x
    gone : (a : Answer K V E) → next.turn ≡ turn.Answer a → next.left ≡ None

  module _ (owed : ℕ → ℕ) (n : ℕ) (before : List (Item K V E)) where
    goes_parts : (c : Call K V E) (rest : List (Item K V E)) → ((x : ℕ) → (n == x) ≡ false → weigh (post_of x) rest ≤ weigh (post_of x) before + owed x) →
        Parts owed n before (goes c rest)
    goes_parts c rest h = record {
      posts = λ x d. omega (arith, h x d, weigh_goes (post_of x) c rest (λ a. refl));
      gone = by rest;
    }
      where
        by : (rest : List (Item K V E)) → (a : Answer K V E) → (goes c rest).turn ≡ turn.Answer a →
            (goes c rest).left ≡ None
        by (plan.Reply b ∷ []) a e = refl
        by _ a e = cc

    -- the call goes on with nothing to post
    clear_parts : {next : Next K V E} → ((x : ℕ) → weigh_call (post_of x) next.left ≡ 0) →
        ((a : Answer K V E) → next.turn ≡ turn.Answer a → next.left ≡ None) →
        Parts owed n before next
    clear_parts h g = record { posts = λ x d. omega (arith, h x); gone = g }

    -- the call is as it was
    still_parts : (next : Next K V E) →
        ((x : ℕ) → weigh_call (post_of x) next.left ≡ weigh (post_of x) before) →
        ((a : Answer K V E) → next.turn ≡ turn.Answer a → next.left ≡ None) →
        Parts owed n before next
    still_parts next h g = record { posts = λ x d. omega (arith, h x); gone = g }

  module _ (owed : ℕ → ℕ) (n : ℕ) (before : List (Item K V E)) (c : Call K V E) where
    keeps_parts : Parts owed n before (keeps c)
    keeps_parts = kept_next (Parts owed n before) c
        (λ off. clear_parts owed n before (λ x. refl) (λ a e. refl))
        (λ on. clear_parts owed n before (λ x. refl) (λ a e. cc))

    misses_parts : (aim : Aim K V) → Parts owed n before (misses c aim)
    misses_parts (plan.To_show form) = clear_parts owed n before (λ x. refl) (λ a e. refl)
    misses_parts (plan.To_insert key value) =
        put_plans (λ p. Parts owed n before (goes c p)) c.rules key value _
        (clear_parts owed n before (λ x. refl) (λ a e. cc))
        (clear_parts owed n before (λ x. refl) (λ a e. cc))
    misses_parts (plan.To_evict key stamp cause) = keeps_parts
    misses_parts _ = clear_parts owed n before (λ x. refl) (λ a e. cc)

    finds_parts : (aim : Aim K V) (there : K) (stored : Stored V) → Parts owed n before
        (finds_pair c aim there stored)
    finds_parts (plan.To_evict key stamp cause) there stored =
        chosen_by (Parts owed n before) c key stamp cause there stored (λ other. keeps_parts)
        (λ same. clear_parts owed n before (λ x. refl) (λ a e. cc))
    finds_parts _ there stored = clear_parts owed n before (λ x. refl) (λ a e. cc)

  hits_parts : (owed : ℕ → ℕ) (n : ℕ) (c : Call K V E) (aim : Aim K V) (there : K) (value : V) →
      Parts owed n c.plan
      (hits c aim there value)
  hits_parts owed n c (plan.To_own sought) there value =
      clear_parts owed n c.plan (λ x. refl) (λ a e. cc)
  hits_parts owed n c (plan.To_compute compute) there value =
      clear_parts owed n c.plan (λ x. refl) (λ a e. cc)
  hits_parts owed n c (plan.To_evict key stamp cause) there value = still_parts owed n c.plan _
      (λ x. refl) (λ a e. cc)
  hits_parts owed n c _ there value =
      clear_parts owed n c.plan (λ x. refl) (λ a e. refl)

  read_parts : (owed : ℕ → ℕ) (n : ℕ) (c : Call K V E) (sought : Sought K) (with : Settled V E) → Parts owed n c.plan (after_read c sought (found.ReadSettled with))
  read_parts owed n c sought settled.NotYet = still_parts owed n c.plan _ (λ x. refl) (λ a e. cc)
  read_parts owed n c sought settled.Aborted = by (c.aborts + 1 == retries) refl
    where
      by : (b : Bool) → (c.aborts + 1 == retries) ≡ b → Parts owed n c.plan (after_abort c sought)
      by true e = rw e (clear_parts owed n c.plan (λ x. refl) (λ a e. refl))
      by false e = rw e (clear_parts owed n c.plan (λ x. refl) (λ a e. cc))
  read_parts owed n c sought _ = clear_parts owed n c.plan (λ x. refl) (λ a e. refl)

  read_key_parts : (owed : ℕ → ℕ) (n : ℕ) (c : Call K V E) (compute : Compute K)
      (with : Settled V E) → Parts owed n c.plan (after_read_key c compute (found.ReadSettled with))
  read_key_parts owed n c compute with = read_key_next (λ v. Parts owed n c.plan v) c compute with
      (still_parts owed n c.plan _ (λ x. refl) (λ a e. cc))
      (clear_parts owed n c.plan (λ x. refl) (λ a e. cc))

  told_parts : (owed : ℕ → ℕ) (n : ℕ) (c : Call K V E) (load : Load K) (given : Told V E) → Parts owed n c.plan (after_told c load (found.TakeTold (Some given)))
  told_parts owed n c load (answer.Value value) =
      loaded_plans (λ p. Parts owed n c.plan (goes c p)) c.rules load value
      (clear_parts owed n c.plan (λ x. refl) (λ a e. cc))
      (clear_parts owed n c.plan (λ x. refl) (λ a e. cc)) (clear_parts owed n c.plan (λ x. refl) (λ a e. cc))
  told_parts owed n c load answer.Nothing = clear_parts owed n c.plan (λ x. refl) (λ a e. cc)
  told_parts owed n c load (answer.Err error) = clear_parts owed n c.plan (λ x. refl) (λ a e. cc)
  told_parts owed n c load _ = still_parts owed n c.plan _ (λ x. refl) (λ a e. cc)

  told_op_parts : (owed : ℕ → ℕ) (n : ℕ) (c : Call K V E) (compute : Compute K)
      (pair : Option (K × V)) (given : Told V E) →
      Parts owed n c.plan (after_told_op c compute pair (found.TakeTold (Some given)))
  told_op_parts owed n c compute pair given =
      told_op_next (λ v. Parts owed n c.plan v) c compute pair given
      (λ a. clear_parts owed n c.plan (λ x. refl) (λ a e. cc))
      (λ value able off. (clear_parts owed n c.plan (λ x. refl) (λ a e. cc)))
      (λ value able on. (clear_parts owed n c.plan (λ x. refl) (λ a e. cc)))
      (λ off. (clear_parts owed n c.plan (λ x. refl) (λ a e. cc)))
      (λ on. (clear_parts owed n c.plan (λ x. refl) (λ a e. cc)))
      (still_parts owed n c.plan _ (λ x. refl) (λ a e. cc))

  -- what a step has to show
  record Leaves (w : World K V E) (n : ℕ) (plan : List (Item K V E)) (new : World K V E) (next : Next K V E) : Type 0 where
    owed : (x : ℕ) → among_owed x new.desk.owed ≤ among_owed x w.desk.owed
    last : new.desk.last ≡ w.desk.last
    parts : Parts (λ x. among_owed x w.desk.owed) n plan next

  module _ (eq : K → K → Bool) (w : World K V E) (n : ℕ) (c : Call K V E) where
    abbrev owes : ℕ → ℕ
    owes x = among_owed x w.desk.owed

    as_owed : {new : World K V E} {next : Next K V E} → new.desk.owed ≡ w.desk.owed → new.desk.last ≡ w.desk.last → Parts owes n c.plan next → Leaves w n c.plan new next
    as_owed e l p = record { owed = λ x. omega (arith, ap (among_owed x) e); last = l; parts = p }

    -- the call goes on with the rest, and with what it posts
    goes_on : (item : Item K V E) (rest : List (Item K V E)) → c.plan ≡ item ∷ rest → Parts owes n c.plan (goes c rest)
    goes_on item rest e = goes_parts owes n c.plan c rest (λ x d. omega (arith, ap (weigh (post_of x)) e))

    -- the call goes on with another plan
    moves : {next : Next K V E} → ((a : Answer K V E) → next.turn ≡ turn.Answer a → ⊥) →
        ((x : ℕ) → (n == x) ≡ false →
        weigh_call (post_of x) next.left ≤ weigh (post_of x) c.plan + owes x) →
        Parts owes n c.plan next
    moves going h = record { posts = h; gone = λ a e. absurd (going a e) }

    on_item : (item : Item K V E) (rest : List (Item K V E)) → c.plan ≡ item ∷ rest → Outcomes eq (Leaves w n c.plan) w n c item rest
    on_item plan.Drain rest e = (
      λ none. as_owed refl refl (goes_on plan.Drain rest e),
      λ y ys some. record {
        owed = λ x. omega (arith, ap (among_owed x) some, times_first x (number_of y) (map (λ o. number_of o.write) ys));
        last = refl;
        parts = goes_parts owes n c.plan c (plan.Post y ∷ plan.Drain ∷ rest)
            (λ x d. omega (arith, ap (weigh (post_of x)) e, ap (among_owed x) some, times_first x (number_of y) (map (λ o. number_of o.write) ys)));
      },
      λ y number ys some. record {
        owed = λ x. omega (arith, ap (among_owed x) some, times_first x (number_of y) (map (λ o. number_of o.write) ys));
        last = refl;
        parts = goes_parts owes n c.plan c (plan.Ended number ∷ plan.Post y ∷ plan.Drain ∷ rest)
            (λ x d. omega (arith, ap (weigh (post_of x)) e, ap (among_owed x) some, times_first x (number_of y) (map (λ o. number_of o.write) ys)));
      },
    )
    on_item (plan.Notice key old cause upsert) rest e = (
      λ off. as_owed refl refl (goes_on (plan.Notice key old cause upsert) rest e),
      λ on. as_owed refl refl (moves (λ a e. cc) (λ x d. omega (arith, ap (weigh (post_of x)) e))),
    )
    on_item (plan.Post write) rest e = (
      λ room. as_owed refl refl (goes_on (plan.Post write) rest e),
      λ full. as_owed refl refl (moves (λ a e. cc) (λ x d. omega (arith, ap (weigh (post_of x)) e))),
    )
    on_item plan.Apply rest e = (
      λ none. as_owed refl refl (goes_on plan.Apply rest e),
      λ y ys some. as_owed refl refl (moves (λ a e. cc) (λ x d. omega (arith, ap (weigh (post_of x)) e))),
    )
    on_item (plan.Get aim key) rest e = (
      λ more. as_owed refl refl (still_parts owes n c.plan _ (λ x. refl) (λ a e. cc)),
      λ none. as_owed refl refl (misses_parts owes n c.plan c aim),
      λ k stored some. as_owed refl refl (finds_parts owes n c.plan c aim k stored),
    )
    on_item (plan.Judge aim key stored) rest e = (
      λ seen. as_owed refl refl (hits_parts owes n c aim key stored.value),
      λ unseen. as_owed refl refl (misses_parts owes n c.plan c aim),
    )
    on_item (plan.Own sought) rest e = (
      λ able none. as_owed refl refl (clear_parts owes n c.plan (λ x. refl) (λ a e. cc)),
      λ disabled none. as_owed refl refl (clear_parts owes n c.plan (λ x. refl) (λ a e. cc)),
      λ owner some. as_owed refl refl (clear_parts owes n c.plan (λ x. refl) (λ a e. cc)),
    )
    on_item (plan.Own_key compute) rest e = (
      (
        (λ able none. as_owed refl refl (clear_parts owes n c.plan (λ x. refl) (λ a e. cc))),
        λ disabled none. as_owed refl refl (clear_parts owes n c.plan (λ x. refl) (λ a e. cc)),
      ),
      λ owner some. as_owed refl refl (clear_parts owes n c.plan (λ x. refl) (λ a e. cc)),
    )
    on_item (plan.Own_alone key) rest e = (
      (
        (λ able none. as_owed refl refl (clear_parts owes n c.plan (λ x. refl) (λ a e. cc))),
        λ disabled none. as_owed refl refl (clear_parts owes n c.plan (λ x. refl) (λ a e. cc)),
      ),
      λ owner some. (
        (λ able. as_owed refl refl (clear_parts owes n c.plan (λ x. refl)
            (λ a e. cc))),
        λ not. as_owed refl refl (clear_parts owes n c.plan (λ x. refl) (λ a e. cc)),
      ),
    )
    on_item (plan.Read sought) rest e = (
      λ none. as_owed refl refl (still_parts owes n c.plan _ (λ x. refl) (λ a e. cc)),
      λ with some. as_owed refl refl (read_parts owes n c sought with),
    )
    on_item (plan.Read_key compute) rest e = (
      λ none. as_owed refl refl (still_parts owes n c.plan _ (λ x. refl) (λ a e. cc)),
      λ with some. as_owed refl refl (read_key_parts owes n c compute with),
    )
    on_item (plan.Ask load) rest e = as_owed refl refl (clear_parts owes n c.plan (λ x. refl) (λ a e. cc))
    on_item (plan.Ask_op compute pair) rest e =
        as_owed refl refl (clear_parts owes n c.plan (λ x. refl) (λ a e. cc))
    on_item (plan.Told load) rest e = (
      λ none. as_owed refl refl (still_parts owes n c.plan _ (λ x. refl) (λ a e. cc)),
      λ given some. as_owed refl refl (told_parts owes n c load given),
    )
    on_item (plan.Told_op compute pair) rest e = (
      λ none. as_owed refl refl (still_parts owes n c.plan _ (λ x. refl) (λ a e. cc)),
      λ given some. as_owed refl refl (told_op_parts owes n c compute pair given),
    )
    on_item (plan.Holds key stamp cause there stored) rest e = (
      λ holds. as_owed refl refl (clear_parts owes n c.plan (λ x. refl) (λ a e. cc)),
      λ not. as_owed refl refl (keeps_parts owes n c.plan c),
    )
    on_item (plan.Moment (plan.To_store key value)) rest e =
        as_owed refl refl (moves (λ a e. cc) (λ x d. omega (arith, ap (weigh (post_of x)) e)))
    on_item (plan.Moment (plan.To_take_out removal key)) rest e =
        as_owed refl refl (moves (λ a e. cc) (λ x d. omega (arith, ap (weigh (post_of x)) e)))
    on_item (plan.Out removal key) rest e = (
      λ more. as_owed refl refl (still_parts owes n c.plan _ (λ x. refl) (λ a e. cc)),
      λ off none. as_owed refl refl (clear_parts owes n c.plan
          (λ x. omega (arith, out x (nothing_answer removal))) (λ a e. cc)),
      λ on none. as_owed refl refl (clear_parts owes n c.plan
          (λ x. omega (arith, out x (nothing_answer removal))) (λ a e. cc)),
      λ k old off some. as_owed refl refl (moves (λ a e. cc)
          (λ x d. omega (
            arith,
            ap (λ b. cond {A = ℕ} b 1 0) (other_number n x d),
            out x (removed_answer removal old.value),
          ))),
      λ k old on some. as_owed refl refl (moves (λ a e. cc)
          (λ x d. omega (
            arith,
            ap (λ b. cond {A = ℕ} b 1 0) (other_number n x d),
            out x (removed_answer removal old.value),
          ))),
    )
      where
        out : (x : ℕ) (a : Answer K V E) → weigh (post_of x) (said removal a) ≡ 0
        out x a = weigh_said (post_of x) removal a refl refl
    on_item (plan.Write key value moment) rest e = (
      λ more. as_owed refl refl (still_parts owes n c.plan _ (λ x. refl) (λ a e. cc)),
      λ off old. as_owed refl refl (moves (λ a e. cc)
          (λ x d. omega (arith, ap (weigh (post_of x)) e, ap (λ b. cond {A = ℕ} b 1 0) (other_number n x d)))),
      λ on. as_owed refl refl (moves (λ a e. cc)
          (λ x d. omega (arith, ap (weigh (post_of x)) e, ap (λ b. cond {A = ℕ} b 1 0) (other_number n x d)))),
      λ k old on some. as_owed refl refl (moves (λ a e. cc)
          (λ x d. omega (arith, ap (weigh (post_of x)) e, ap (λ b. cond {A = ℕ} b 1 0) (other_number n x d)))),
    )
    on_item (plan.List_keys part) rest e = (
      λ more. as_owed refl refl (still_parts owes n c.plan _ (λ x. refl) (λ a e. cc)),
      λ listed keys is gives. as_owed refl refl (goes_parts owes n c.plan c (map plan.Find keys ++ rest)
          (λ x d. omega (arith, ap (weigh (post_of x)) e, weigh_finds {E = E} (post_of x) (λ key. refl) keys rest))),
    )
    on_item (plan.Find key) rest e = (
      λ more. as_owed refl refl (still_parts owes n c.plan _ (λ x. refl) (λ a e. cc)),
      λ none. as_owed refl refl (goes_on (plan.Find key) rest e),
      λ k stored some none. as_owed refl refl (moves (λ a e. cc) (λ x d. omega (arith, ap (weigh (post_of x)) e))),
      λ k stored ids some is. as_owed refl refl (moves (λ a e. cc) (λ x d. omega (arith, ap (weigh (post_of x)) e))),
    )
    on_item (plan.Scan there stored) rest e = (
      λ seen. as_owed refl refl (moves (λ a e. cc) (λ x d. omega (arith, ap (weigh (post_of x)) e))),
      λ unseen. as_owed refl refl (goes_on (plan.Scan there stored) rest e),
    )
    on_item (plan.Register test) rest e = as_owed refl refl (clear_parts owes n c.plan (λ x. refl) (λ a e. refl))
    on_item (plan.Candidates parts) rest e = (
      λ none. as_owed refl refl (clear_parts owes n c.plan (λ x. refl) (λ a e. refl)),
      λ id more some. as_owed refl refl (goes_parts owes n c.plan (carrying c (id ∷ more)) (lists_from 0 parts (plan.Retire ∷ []))
          (λ x d. omega (arith, ap (weigh (post_of x)) e, weigh_retiring {K = K} {V = V} {E = E} (post_of x) (λ part. refl) refl parts))),
    )
    on_item (plan.Strike there stored) rest e = as_owed refl refl
        (goes_parts owes n c.plan (carrying c _) rest (λ x d. omega (arith, ap (weigh (post_of x)) e)))
    on_item plan.Retire rest e = as_owed refl refl (clear_parts owes n c.plan (λ x. refl) (λ a e. refl))
    on_item (plan.Reply reply) rest e = as_owed refl refl (clear_parts owes n c.plan (λ x. refl) (λ a e. refl))
    on_item (plan.Settle with) rest e = as_owed refl refl (goes_on (plan.Settle with) rest e)
    on_item item rest e = passes_by eq (Leaves w n c.plan) w n c item rest tt
        (λ d a. as_owed a.owed a.last (goes_on item rest e))
        (as_owed refl refl (still_parts owes n c.plan _ (λ x. refl) (λ a e. cc)))

    on_plan : (plan : List (Item K V E)) → c.plan ≡ plan → OnStep eq (Leaves w n c.plan) w n c plan
    on_plan [] e = as_owed refl refl (still_parts owes n c.plan _ (λ x. refl) (λ a e. cc))
    on_plan (item ∷ rest) e = outcomes eq (Leaves w n c.plan) w n c item rest (on_item item rest e)

  -- The write of a live call isn't owed, and no other call posts it.
  record IsAlone (s : State K V E) (n : ℕ) : Type 0 where
    owed : among_owed n s.world.desk.owed ≡ 0
    others : (m : ℕ) → (n == m) ≡ false → weigh_call (post_of n) (s.calls m) ≡ 0

  record AreAlone (s : State K V E) : Type 0 where
    balanced : IsBalanced s
    alone : (n : ℕ) (c : Call K V E) → s.calls n ≡ Some c → IsAlone s n

  -- no live call is alone, once another has gone on
  still_alone : (s : State K V E) (n : ℕ) (c : Call K V E) → s.calls n ≡ Some c → AreAlone s → (w : World K V E) (next : Next K V E) → Leaves s.world n c.plan w next →
      (m : ℕ) (d : Call K V E) → put_at s.calls n next.left m ≡ Some d → IsAlone (state_after s n w next) m
  still_alone s n c live i w next l m d lives = by (n == m) refl
    where
      -- what another call posts of m, this one or a third
      posts : IsAlone s m → (n == m) ≡ false → (k : ℕ) → (m == k) ≡ false → weigh_call (post_of m) (put_at s.calls n next.left k) ≡ 0
      posts a apart k other = at (n == k) refl
        where
          at : (b : Bool) → (n == k) ≡ b → weigh_call (post_of m) (cond b next.left (s.calls k)) ≡ 0
          at true e = omega (arith, l.parts.posts m apart, a.others n (other_number n m apart), ap (weigh_call (post_of m)) live, a.owed)
          at false e = a.others k other

      by : (b : Bool) → (n == m) ≡ b → IsAlone (state_after s n w next) m
      by true e =
          let a = subst (IsAlone s) (eqb-true n m e) (i.alone n c live) in
          record {
            owed = omega (arith, l.owed m, a.owed);
            others = λ k other. ap (weigh_call (post_of m)) (put_there s.calls n next.left k (subst (λ v. (v == k) ≡ false) (sym (eqb-true n m e)) other)) ∙ a.others k other;
          }
      by false e =
          let a = i.alone m d (sym (put_there s.calls n next.left m e) ∙ lives) in
          record { owed = omega (arith, l.owed m, a.owed); others = posts a e }

module _ {K V E : Type 0} (eq : K → K → Bool) where
  alone_start : (s : State K V E) (start : Start K V) → AreAlone s → (m : ℕ) (d : Call K V E) → (started s start).calls m ≡ Some d → IsAlone (started s start) m
  alone_start s start i m d lives = by (s.world.desk.last + 1 == m) refl
    where
      new : ℕ
      new = s.world.desk.last + 1

      fresh : (k x : ℕ) → weigh_call (post_of x) (s.calls k) ≡ 0 → weigh_call (post_of x) (put_at s.calls (s.world.desk.last + 1) (Some (fresh_call s.world.table.division.parts s.world.desk.rules start)) k) ≡ 0
      fresh k x h = at (s.world.desk.last + 1 == k)
        where
          at : (b : Bool) → weigh_call (post_of x) (cond b (Some (fresh_call s.world.table.division.parts s.world.desk.rules start)) (s.calls k)) ≡ 0
          at true = (fresh_clear s.world.table.division.parts s.world.desk.rules start).posts x
          at false = h

      -- nothing of a number that was not given out stands anywhere
      unborn : (k : ℕ) (o : Option (Call K V E)) → s.calls k ≡ o → weigh_call (post_of (s.world.desk.last + 1)) o ≡ 0
      unborn k None e = refl
      unborn k (Some c) e =
          let all = i.balanced.balance (s.world.desk.last + 1) in
          let none = i.balanced.unborn (s.world.desk.last + 1) (omega arith) in
          let part = sum_holds s.world.desk.last (λ v. weigh_call (post_of (s.world.desk.last + 1)) (s.calls v)) k (i.balanced.numbered k c e) in
          omega (arith, ap (weigh_call (post_of (s.world.desk.last + 1))) e)

      by : (b : Bool) → (s.world.desk.last + 1 == m) ≡ b → IsAlone (started s start) m
      by true e =
          let is = eqb-true (s.world.desk.last + 1) m e in
          let none = i.balanced.unborn (s.world.desk.last + 1) (omega arith) in
          subst (IsAlone (started s start)) is (record {
            owed = omega (arith, i.balanced.balance (s.world.desk.last + 1));
            others = λ k other. fresh k (s.world.desk.last + 1) (unborn k (s.calls k) refl);
          })
      by false e =
          let a = i.alone m d (sym (put_there s.calls (s.world.desk.last + 1) (Some (fresh_call s.world.table.division.parts s.world.desk.rules start)) m e) ∙ lives) in
          record { owed = a.owed; others = λ k other. fresh k m (a.others k other) }

  alone_drop : (s : State K V E) (n : ℕ) (c : Call K V E) → s.calls n ≡ Some c → AreAlone s → (m : ℕ) (d : Call K V E) → put_at s.calls n None m ≡ Some d →
      IsAlone (dropped s n c) m
  alone_drop s n c live i m d lives =
      put_cases s.calls n None m (Some d) (IsAlone (dropped s n c) m) lives (λ here is. absurd (none_some is)) (λ there is.
      let a = i.alone m d is in
      record {
        owed = omega (
          arith,
          owed_append m s.world.desk.owed (option_to_list (option_map (owed_with s.world.desk) (held_by c.plan))),
          gives_up eq s m (held_by c.plan),
          posts_held m c.plan (i.balanced.tidy n c live),
          a.owed,
          a.others n (other_number n m there),
          ap (weigh_call (post_of m)) live,
        );
        others = λ k other. gone k (n == k) (a.others k other);
      })
    where
      gone : (k : ℕ) (b : Bool) → weigh_call (post_of m) (s.calls k) ≡ 0 → weigh_call (post_of m) (cond b None (s.calls k)) ≡ 0
      gone k true h = refl
      gone k false h = h

  alone_kept : IsInvariant eq (AreAlone {K = K} {V = V} {E = E})
  alone_kept = record {
    fresh = λ division divides rules size built has_log. record { balanced = (balanced_kept eq).fresh division divides rules size built has_log; alone = λ n c live. absurd (none_some live) };
    at = λ s moment i. record {
      balanced = (balanced_kept eq).at s moment i.balanced;
      alone = λ m d live. let a = i.alone m d live in record { owed = a.owed; others = a.others };
    };
    start = λ s start i. record { balanced = (balanced_kept eq).start s start i.balanced; alone = alone_start s start i };
    step = λ s t n turn i step. record {
      balanced = (balanced_kept eq).step s t n turn i.balanced step;
      alone = step_cases eq (Leaves s.world n step.call.plan) (λ v _. (m : ℕ) (d : Call K V E) → v.calls m ≡ Some d → IsAlone v m) s t n turn step
          (on_plan eq s.world n step.call step.call.plan refl) (λ w next l. still_alone s n step.call step.live i w next l);
    };
    tell = λ s n given asked i. record {
      balanced = (balanced_kept eq).tell s n given asked i.balanced;
      alone = λ m d live. let a = i.alone m d live in record { owed = a.owed; others = a.others };
    };
    hear = λ s n off running i. record {
      balanced = (balanced_kept eq).hear s n off running i.balanced;
      alone = λ m d live. let a = i.alone m d live in record { owed = a.owed; others = a.others };
    };
    drop = λ s n c live between i. record { balanced = (balanced_kept eq).drop s n c live between i.balanced; alone = alone_drop s n c live i };
  }

  -- ---- a call that answers

  -- where nothing is posted nor owed, what is committed is logged or applied
  parted : (t : State K V E) (n : ℕ) → IsBalanced t → among_owed n t.world.desk.owed ≡ 0 → ((m : ℕ) → weigh_call (post_of n) (t.calls m) ≡ 0) →
      Contains t.world.table.committed n → IsPosted t n
  parted t n b none_owed none has =
      let was = contains_times n t.world.table.committed has in
      let nothing : with_calls n t ≡ 0 = zero_sum (with_calls n t) refl in
      by (among n t.world.desk.log) refl (omega (arith, was, b.balance n, none_owed, nothing))
    where
      zero_sum : (k : ℕ) → with_calls n t ≡ k → k ≡ 0
      zero_sum zero e = refl
      zero_sum (suc k) e =
          let some = sum_has t.world.desk.last (λ m. weigh_call (post_of n) (t.calls m)) (omega arith) in
          absurd (omega (arith, some.1, none some.0))

      by : (k : ℕ) → among n t.world.desk.log ≡ k → 0 < among n t.world.desk.log + among n t.world.desk.applied → IsPosted t n
      by zero e h = inr (omega arith)
      by (suc k) e h = inl (omega arith)

  pub answered_posted : AnsweredIsPosted K V E eq
  answered_posted s t n a h step has =
      let i : AreAlone s = in_reached eq AreAlone alone_kept s h in
      let alone = i.alone n step.call step.live in
      let b = (balanced_kept eq).step s t n (turn.Answer a) i.balanced step in
      let shown : (among_owed n t.world.desk.owed ≡ 0) × ((m : ℕ) → weigh_call (post_of n) (t.calls m) ≡ 0) =
      step_cases eq (Leaves s.world n step.call.plan)
      (λ v r. r ≡ turn.Answer a → (among_owed n v.world.desk.owed ≡ 0) × ((m : ℕ) → weigh_call (post_of n) (v.calls m) ≡ 0)) s t n (turn.Answer a) step
      (on_plan eq s.world n step.call step.call.plan refl) (λ w next l e. (omega (arith, l.owed n, alone.owed), λ m. gone alone next (l.parts.gone a e) m (n == m) refl)) refl in
      parted t n b shown.0 shown.1 has
    where
      gone : IsAlone s n → (next : Next K V E) → next.left ≡ None → (m : ℕ) (b : Bool) → (n == m) ≡ b → weigh_call (post_of n) (cond b next.left (s.calls m)) ≡ 0
      gone alone next none m true e = ap (weigh_call (post_of n)) none
      gone alone next none m false e = alone.others m e

  -- ---- for good

  -- how often the write of the number is logged or applied
  abbrev posted_in : ℕ → DeskPart K V E → ℕ
  posted_in x d = among x d.log + among x d.applied

  visit_posted : (x : ℕ) (d : DeskPart K V E) (made : Visit K V E) → posted_in x d ≤ posted_in x (makes eq d made)
  visit_posted x d (visit.PostWrite call write) = by (has_room d)
    where
      by : (b : Bool) → posted_in x d ≤ among x (cond b (d.log ++ write ∷ []) d.log) + among x d.applied
      by true = omega (arith, among_last x write d.log)
      by false = omega arith
  visit_posted x d (visit.ApplyOne call) = by d.log
    where
      by : (log : List Write) → among x log + among x d.applied ≤ among x (drop 1 log) + among x (d.applied ++ take 1 log)
      by [] = omega (arith, ap (among x) (append-nil d.applied))
      by (y ∷ ys) = omega (arith, times_first x (number_of y) (map number_of ys), among_last x y d.applied)
  visit_posted x d (visit.WaitOrOwn call key kind) = by (d.owners (record { key = key; kind = kind }))
    where
      by : (o : Option ℕ) → posted_in x d ≤ posted_in x (claimed eq d call (record { key = key; kind = kind }) o)
      by None = omega arith
      by (Some owner) = omega arith
  visit_posted x d (visit.OwnAlone call key) = by (d.owners (computes_of key))
    where
      by : (o : Option ℕ) →
          posted_in x d ≤ posted_in x (claimed_alone eq d call (computes_of key) o)
      by None = omega arith
      by (Some owner) = omega arith
  visit_posted x d (visit.ReadSettled call) = by (settlement_for d call) refl
    where
      by : (o : Option (Settled V E)) → settlement_for d call ≡ o → posted_in x d ≤ posted_in x (makes eq d (visit.ReadSettled call))
      by None e = rw e (omega arith)
      by (Some with) e = rw e (omega arith)
  visit_posted x d (visit.LockKey call key) = by (is_unlocked_for d call key)
    where
      by : (b : Bool) → posted_in x d ≤ posted_in x (locked_by eq d call key b)
      by true = omega arith
      by false = omega arith
  visit_posted x d _ = omega arith

  access_posted : (x n : ℕ) (w new : World K V E) (a : Access K V E) (g : Got K V E) → Gets eq n w a g new → 0 < posted_in x w.desk → 0 < posted_in x new.desk
  access_posted x n w new (On_table o) (got.Table table.Going) gets h = subst (λ (v : World K V E). 0 < posted_in x v.desk) (sym gets.1) h
  access_posted x n w new (On_table o) (got.Table (table.Decided answer)) gets h = subst (λ (v : World K V E). 0 < posted_in x v.desk) (sym gets.2) h
  access_posted x n w new (On_desk made) (got.Desk f) gets h =
      subst (λ (v : World K V E). 0 < posted_in x v.desk) (sym gets.1) (let more = visit_posted x w.desk made in omega arith)
  access_posted x n w new (On_table o) (got.Desk f) gets h = absurd gets
  access_posted x n w new (On_desk made) (got.Table turn) gets h = absurd gets

  posted_stable : (x : ℕ) → IsStable eq (λ (s : State K V E). 0 < posted_in x s.world.desk)
  posted_stable x = record {
    at = λ s moment h. h;
    start = λ s start h. h;
    step = λ s t n turn h step. subst (λ (v : State K V E). 0 < posted_in x v.world.desk) (sym step.after)
        (access_posted x n s.world step.world (access_of n step.call) step.given step.gets h);
    tell = λ s n given asked h. h;
    hear = λ s n off running h. h;
    drop = λ s n c live between h. h;
  }

  pub posted_for_good : PostedStays K V E eq
  posted_for_good s t es rs n h run posted =
      split (runs eq (λ (v : State K V E). 0 < posted_in n v.world.desk) (posted_stable n) s t es rs (joined posted)
      (run_more eq (IsLawful eq) Any (λ v i p. tt) s t es rs h run))
    where
      joined : IsPosted s n → 0 < posted_in n s.world.desk
      joined (inl k) = omega arith
      joined (inr k) = omega arith

      split : 0 < posted_in n t.world.desk → IsPosted t n
      split h = by (among n t.world.desk.log) refl h
        where
          by : (k : ℕ) → among n t.world.desk.log ≡ k → 0 < posted_in n t.world.desk → IsPosted t n
          by zero e h = inr (omega arith)
          by (suc k) e h = inl (omega arith)
