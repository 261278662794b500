-- The ask of a call is open until it is answered, and the answer is kept until the call takes it.
use Rattle.std.proofs.Common.{◌≡◌, ℕ, ◌+◌, ◌≤◌, ◌==◌, Bool, true, false, cond, List, [], ◌∷◌, Option, Some, None, is_some, IsSome, refl, sym, ap, ◌∙◌, subst, arith}
use Rattle.std.proofs.lemmas.Bool.{eqb-true, false≢true}
use Rattle.moka_hist.specs.Finite.{put_at}
use Rattle.moka_hist.specs.State.{State, World, Call, DeskPart}
use Rattle.moka_hist.specs.Plan.{Item, Aim, plan_of}
use Rattle.moka_hist.specs.Plan as plan
use Rattle.moka_hist.specs.Next.{Next, goes}
use Rattle.moka_hist.specs.Looking.{hits, misses, keeps, finds_pair}
use Rattle.moka_hist.specs.Loading.{after_read, after_told}
use Rattle.moka_hist.specs.Telling.{is_taken, does_take}
use Rattle.moka_hist.specs.Dropping.{dropped}
use Rattle.std.specs.Option.{option_map_or}
use Rattle.moka_hist.specs.Step.{Step, takes_of}
use Rattle.moka_hist.specs.Run.{IsReached, started, fresh_call}
use Rattle.moka_hist.specs.declared.replies.Answer.TheVariants as said_as
use Rattle.moka_hist.specs.declared.loads.Load.{Load}
use Rattle.moka_hist.specs.declared.loads.Sought.{Sought}
use Rattle.moka_hist.specs.declared.records.Stored.{Stored}
use Rattle.moka_hist.specs.declared.rules.Rules.{Rules}
use Rattle.moka_hist.specs.declared.events.Start.{Start}
use Rattle.moka_hist.specs.declared.events.Told.{Told}
use Rattle.moka_hist.specs.declared.events.Told.TheVariants as answer
use Rattle.moka_hist.specs.declared.visits.Takes.{Takes}
use Rattle.moka_hist.specs.declared.visits.Settled.{Settled}
use Rattle.moka_hist.specs.declared.visits.Settled.TheVariants as settled
use Rattle.moka_hist.specs.declared.visits.Found.TheVariants as found
use Rattle.moka_hist.specs.declared.accesses.Turn.{Turn}
use Rattle.moka_hist.specs.Plan.{Removal}
use Rattle.moka_hist.specs.declared.replies.Answer.{Answer}
use Rattle.moka_hist.specs.Writing.{nothing_answer, removed_answer, said}
use Rattle.moka_laws.proofs.Rules.{abort_next, put_plans, loaded_plans, kept_next, chosen_next, IsFresh, Disabled, fresh_plan, read_key_next, told_op_next_by, IsLoad, IsComputes, Walks_over}
use Rattle.moka_laws.proofs.Counting.{put_here, put_there}
use Rattle.moka_laws.proofs.Weights.{weigh, weigh_call, weigh_goes}
use Rattle.moka_laws.proofs.Plans.{IsLook, IsTail, Answering, Settling, IsDrained, Looking, Owning, Giving, Putting, Removing, Locking_out, IsPosted, Draining, Ended, Locking, IsPlan, Posted, Drained, Posting, Hearing, Noticing, Listening, Unlocking, Turning, Applying, Ending, Judging, Reading, Asking, Telling, Writing, Choosing, Finding, Chosen, Taking, Freeing, Hiding, Registering, Idling, IsKnown, known_kept, Asking_op, Owning_key, Owning_alone, Reading_key, Telling_op, Walking, Maintaining, Applying_all, Ending_all}
use Rattle.moka_laws.proofs.Balance.{IsBalanced}
use Rattle.moka_laws.proofs.Balanced.{balanced_kept, next_free}
use Rattle.moka_laws.proofs.Kept.{IsInvariant, in_reached}
use Rattle.moka_laws.proofs.StepCases.{OnStep, step_cases}
use Rattle.moka_laws.proofs.Outcomes.{outcomes}
use Rattle.moka_laws.proofs.TakesFit.{AllTake, ToldFits, IsTaking, taking_kept, load_takes_no_op, compute_loses_none}
use Rattle.moka_hist.specs.declared.loads.Compute.{Compute}
use Rattle.moka_hist.specs.Computing.{after_told_op, after_read_key}
use Rattle.moka_laws.proofs.Walks.{IsLight, on_walk, walks_weigh, weigh_walk, walk_is_walk}

-- how many there are of an open ask and an answer
abbrev pub opened : {V E : Type 0} → Option Takes → Option (Told V E) → ℕ
opened ask told = cond (is_some ask) 1 0 + cond (is_some told) 1 0

module _ {K V E : Type 0} where
  -- the item takes the answer to an ask
  abbrev pub takes_told : Item K V E → ℕ
  takes_told (plan.Told load) = 1
  takes_told (plan.Told_op compute pair) = 1
  takes_told _ = 0

  keeps_takes : (c : Call K V E) → weigh_call takes_told (keeps c).left ≡ 0
  keeps_takes c = kept_next (λ v. weigh_call takes_told v.left ≡ 0) c (λ off. refl) (λ on. refl)

  misses_takes : (c : Call K V E) (aim : Aim K V) → weigh_call takes_told (misses c aim).left ≡ 0
  misses_takes c (plan.To_insert key value) =
      put_plans (λ p. weigh_call takes_told (goes c p).left ≡ 0) c.rules key value _ refl refl
  misses_takes c (plan.To_evict key stamp cause) = keeps_takes c
  misses_takes c _ = refl

  finds_take : (c : Call K V E) (aim : Aim K V) (k : K) (stored : Stored V) →
      weigh_call takes_told (finds_pair c aim k stored).left ≡ 0
  finds_take c (plan.To_evict key stamp cause) k stored =
      chosen_next (λ v. weigh_call takes_told v.left ≡ 0) c key stamp cause k stored (λ off. refl)
      (λ on. refl) refl
  finds_take c _ k stored = refl

  hits_takes : (c : Call K V E) (aim : Aim K V) (there : K) (value : V) → IsLook aim →
      weigh_call takes_told (hits c aim there value).left ≡ 0
  hits_takes c (plan.To_evict key stamp cause) there value l = absurd l
  hits_takes c _ there value l = refl

  reads_take : (c : Call K V E) (sought : Sought K) (with : Settled V E) → weigh takes_told c.plan ≡ 0 →
      weigh_call takes_told (after_read c sought (found.ReadSettled with)).left ≡ 0
  reads_take c sought settled.NotYet e = e
  reads_take c sought settled.Aborted e = abort_next (λ v. weigh_call takes_told v.left ≡ 0) c sought refl refl
  reads_take c sought _ e = refl

  reads_take_key : (c : Call K V E) (compute : Compute K) (with : Settled V E) →
      weigh takes_told c.plan ≡ 0 →
      weigh_call takes_told (after_read_key c compute (found.ReadSettled with)).left ≡ 0
  reads_take_key c compute with e =
      read_key_next (λ v. weigh_call takes_told v.left ≡ 0) c compute with
      (e)
      (refl)

  told_takes : (c : Call K V E) (load : Load K) (given : Told V E) → IsLoad load.kind →
      does_take (takes_of load.kind) given ≡ true →
      weigh_call takes_told (after_told c load (found.TakeTold (Some given))).left ≡ 0
  told_takes c load (answer.Value value) one is =
      loaded_plans (λ p. weigh_call takes_told (goes c p).left ≡ 0)
      c.rules load value refl refl refl
  told_takes c load answer.Done one is = absurd (false≢true is)
  told_takes c load (answer.Op op) one is = absurd (load_takes_no_op load.kind one is)
  told_takes c load answer.Off one is = absurd (false≢true is)
  told_takes c load _ one is = refl

  told_op_takes : (c : Call K V E) (compute : Compute K) (pair : Option (K × V))
      (given : Told V E) → IsComputes compute.takes →
      does_take compute.takes given ≡ true →
      weigh_call takes_told (after_told_op c compute pair (found.TakeTold (Some given))).left ≡ 0
  told_op_takes c compute pair given one is =
      told_op_next_by (λ v. weigh_call takes_told v.left ≡ 0) c compute pair given
      refl
      (λ error e. refl)
      (λ value off. refl)
      (λ value able off. refl)
      (λ value able on. refl)
      (λ off. refl)
      (λ on. refl)
      (λ lost. absurd (compute_loses_none compute.takes given one is lost))

  fresh_none : (rules : Rules) (p : List (Item K V E)) → IsFresh rules p → weigh takes_told p ≡ 0
  fresh_none rules p (Disabled a d plain) = refl
  fresh_none rules p (Walks_over parts able) = weigh_walk takes_told (record { list = λ part. refl; find = λ key. refl; scan = λ there stored. refl; end = refl; choose = λ parts. refl; strike = λ there stored. refl; retire = refl }) p (walk_is_walk 0 parts)
  fresh_none rules p _ = refl

  said_takes : (removal : Removal K) (a : Answer K V E) → weigh takes_told (said removal a) ≡ 0
  said_takes (plan.To_remove_as_told key) a = refl
  said_takes _ a = refl

  -- no plan takes two answers
  tail_few : (p : List (Item K V E)) → IsTail p → weigh takes_told p ≤ 1
  tail_few p (Answering a) = omega arith
  tail_few p (Settling with a) = omega arith

  drained_few : (p : List (Item K V E)) → IsDrained p → weigh takes_told p ≤ 1
  drained_few p (Putting key value rest t) = omega (arith, tail_few rest t)
  drained_few p (Locking key value rest t) = omega (arith, tail_few rest t)
  drained_few p _ = omega arith

  posted_few : (p : List (Item K V E)) → IsPosted p → weigh takes_told p ≤ 1
  posted_few p (Draining rest d) = omega (arith, drained_few rest d)
  posted_few p (Ended rest t) = tail_few rest t

  pub plan_few : (p : List (Item K V E)) → IsPlan p → weigh takes_told p ≤ 1
  plan_few p (Posted rest d) = posted_few rest d
  plan_few p (Drained rest d) = drained_few rest d
  plan_few p (Posting x rest d) = omega (arith, posted_few rest d)
  plan_few p (Hearing number x rest d) = omega (arith, posted_few rest d)
  plan_few p (Noticing key old cause upsert x rest t) = omega (arith, tail_few rest t)
  plan_few p (Listening x rest t) = omega (arith, tail_few rest t)
  plan_few p (Unlocking x rest t) = omega (arith, tail_few rest t)
  plan_few p (Turning x rest d) = omega (arith, posted_few rest d)
  plan_few p (Applying x rest d) = omega (arith, posted_few rest d)
  plan_few p (Ending x rest d) = omega (arith, posted_few rest d)
  plan_few p (Writing key value moment rest t) = omega (arith, tail_few rest t)
  plan_few p (Freeing rest t) = omega (arith, tail_few rest t)
  plan_few p (Idling rest t) = omega (arith, tail_few rest t)
  plan_few p (Walking rest walk) = omega (arith, weigh_walk takes_told (record { list = λ part. refl; find = λ key. refl; scan = λ there stored. refl; end = refl; choose = λ parts. refl; strike = λ there stored. refl; retire = refl }) p walk)
  plan_few p _ = omega arith

  -- ---- what a step has to show

  -- The call has an ask or an answer exactly where it is to take one, and the others' are as they were.
  record Asks (d : DeskPart K V E) (n : ℕ) (asks : ℕ → Option Takes) (told : ℕ → Option (Told V E)) (left : Option (Call K V E)) : Type 0 where
    own : opened (asks n) (told n) ≡ weigh_call takes_told left
    others : (m : ℕ) → (n == m) ≡ false → (asks m ≡ d.asks m) × (told m ≡ d.told m)

  module _ (eq : K → K → Bool) (w : World K V E) (n : ℕ) (c : Call K V E)
      (takes : AllTake (w.desk.asks n) (w.desk.told n) c.plan)
      (was : opened (w.desk.asks n) (w.desk.told n) ≡ weigh takes_told c.plan) where
    abbrev Leaves : World K V E → Next K V E → Type 0
    Leaves new next = Asks w.desk n new.desk.asks new.desk.told next.left

    -- the asks are as they were, and the call's plan takes as many answers
    still : {left : Option (Call K V E)} → weigh_call takes_told left ≡ weigh takes_told c.plan → Asks w.desk n w.desk.asks w.desk.told left
    still e = record { own = was ∙ sym e; others = λ m d. (refl, refl) }

    goes_on : (rest : List (Item K V E)) → weigh takes_told rest ≡ weigh takes_told c.plan → Asks w.desk n w.desk.asks w.desk.told (goes c rest).left
    goes_on rest e = still (weigh_goes takes_told c rest (λ a. refl) ∙ e)

    on_tail : (p : List (Item K V E)) → c.plan ≡ p → IsTail p → OnStep eq Leaves w n c p
    on_tail p e (Answering a) = outcomes eq Leaves w n c (plan.Reply a) [] (still (omega (arith, ap (weigh takes_told) e)))
    on_tail p e (Settling with a) = outcomes eq Leaves w n c (plan.Settle with) (plan.Reply a ∷ []) (still (omega (arith, ap (weigh takes_told) e)))

    on_drained : (p : List (Item K V E)) → c.plan ≡ p → IsDrained p → OnStep eq Leaves w n c p
    on_drained p e (Looking aim key l) = outcomes eq Leaves w n c (plan.Get aim key) [] (
      (λ more. still refl),
      (λ none. still (omega (arith, misses_takes c aim, ap (weigh takes_told) e))),
      λ k stored some. still (omega (arith, finds_take c aim k stored, ap (weigh takes_told) e)),
    )
    on_drained p e (Owning sought) = outcomes eq Leaves w n c (plan.Own sought) [] (
      (λ able none. still (omega (arith, ap (weigh takes_told) e))),
      (λ not none. still (omega (arith, ap (weigh takes_told) e))),
      λ owner some. still (omega (arith, ap (weigh takes_told) e)),
    )
    on_drained p e (Putting key value rest t) =
        outcomes eq Leaves w n c (plan.Moment (plan.To_store key value)) rest
        (still (omega (arith, ap (weigh takes_told) e)))
    on_drained p e (Locking key value rest t) =
        outcomes eq Leaves w n c (plan.Lock key) (plan.Moment (plan.To_store key value) ∷ rest)
        ((λ free. still (omega (arith, ap (weigh takes_told) e))), λ held. still refl)
    on_drained p e (Asking_op compute pair) =
        outcomes eq Leaves w n c (plan.Ask_op compute pair) [] (record {
          own = ap (λ a. opened a (put_at w.desk.told n None n))
              (put_here w.desk.asks n _) ∙ ap (λ t. 1 + cond {A = ℕ} (is_some t) 1 0)
              (put_here w.desk.told n None);
          others = λ m d. (put_there w.desk.asks n _ m d, put_there w.desk.told n None m d);
        })
    on_drained p e (Giving a) = outcomes eq Leaves w n c (plan.Reply a) []
        (still (omega (arith, ap (weigh takes_told) e)))
    on_drained p e (Removing removal key) =
        outcomes eq Leaves w n c (plan.Moment (plan.To_take_out removal key)) []
        (still (omega (arith, ap (weigh takes_told) e)))
    on_drained p e (Locking_out removal key) =
        outcomes eq Leaves w n c (plan.Lock key) (plan.Moment (plan.To_take_out removal key) ∷ [])
        ((λ free. still (omega (arith, ap (weigh takes_told) e))), λ held. still refl)
    on_drained p e (Maintaining parts) = outcomes eq Leaves w n c plan.Turn (plan.Apply ∷ plan.End ∷ plan.Candidates parts ∷ [])
        ((λ free. still (omega (arith, ap (weigh takes_told) e))), λ taken. still refl)

    on_posted : (p : List (Item K V E)) → c.plan ≡ p → IsPosted p → OnStep eq Leaves w n c p
    on_posted p e (Draining rest d) = outcomes eq Leaves w n c plan.Drain rest (
      (λ none. goes_on rest (omega (arith, ap (weigh takes_told) e))),
      (λ x xs some. still (omega (arith, ap (weigh takes_told) e))),
      λ x number xs some. still (omega (arith, ap (weigh takes_told) e)),
    )
    on_posted p e (Ended rest t) = on_tail rest e t

    on_plan : (p : List (Item K V E)) → c.plan ≡ p → IsPlan p → OnStep eq Leaves w n c p
    on_plan p e (Posted rest d) = on_posted rest e d
    on_plan p e (Drained rest d) = on_drained rest e d
    on_plan p e (Posting x rest d) = outcomes eq Leaves w n c (plan.Post x) rest
        ((λ room. goes_on rest (omega (arith, ap (weigh takes_told) e))), λ full. still (omega (arith, ap (weigh takes_told) e)))
    on_plan p e (Hearing number x rest d) = outcomes eq Leaves w n c (plan.Ended number) (plan.Post x ∷ rest)
        ((λ ended. still (omega (arith, ap (weigh takes_told) e))), λ runs. still refl)
    on_plan p e (Noticing key old cause upsert x rest t) =
        outcomes eq Leaves w n c (plan.Notice key old cause upsert)
        (plan.Unlock true ∷ plan.Post x ∷ rest)
        ((λ off. still (omega (arith, ap (weigh takes_told) e))), λ on. still (omega (arith, ap (weigh takes_told) e)))
    on_plan p e (Listening x rest t) =
        outcomes eq Leaves w n c plan.Heard (plan.Unlock true ∷ plan.Post x ∷ rest)
        ((λ ended. still (omega (arith, ap (weigh takes_told) e))), λ runs. still refl)
    on_plan p e (Unlocking x rest t) = outcomes eq Leaves w n c (plan.Unlock true)
        (plan.Post x ∷ rest) (still (omega (arith, ap (weigh takes_told) e)))
    on_plan p e (Turning x rest d) = outcomes eq Leaves w n c plan.Turn (plan.Apply ∷ plan.End ∷ plan.Post x ∷ rest)
        ((λ free. still (omega (arith, ap (weigh takes_told) e))), λ taken. still refl)
    on_plan p e (Applying x rest d) = outcomes eq Leaves w n c plan.Apply (plan.End ∷ plan.Post x ∷ rest)
        ((λ none. still (omega (arith, ap (weigh takes_told) e))), λ y ys some. still (omega (arith, ap (weigh takes_told) e)))
    on_plan p e (Ending x rest d) = outcomes eq Leaves w n c plan.End (plan.Post x ∷ rest) (still (omega (arith, ap (weigh takes_told) e)))
    on_plan p e (Judging aim key stored l) = outcomes eq Leaves w n c (plan.Judge aim key stored) [] (
      (λ seen. still (omega (arith, hits_takes c aim key stored.value l, ap (weigh takes_told) e))),
      λ unseen. still (omega (arith, misses_takes c aim, ap (weigh takes_told) e)),
    )
    on_plan p e (Reading sought) = outcomes eq Leaves w n c (plan.Read sought) [] (
      λ none. still refl,
      λ with some.
          let zero : weigh takes_told c.plan ≡ 0 = ap (weigh takes_told) e in
          still (reads_take c sought with zero ∙ sym zero),
    )
    on_plan p e (Asking load) = outcomes eq Leaves w n c (plan.Ask load) [] (record {
      own = ap (λ a. opened a (put_at w.desk.told n None n)) (put_here w.desk.asks n _) ∙ ap (λ t. 1 + cond {A = ℕ} (is_some t) 1 0) (put_here w.desk.told n None);
      others = λ m d. (put_there w.desk.asks n _ m d, put_there w.desk.told n None m d);
    })
    on_plan p e (Telling load) = outcomes eq Leaves w n c (plan.Told load) [] (
      λ none. still refl,
      λ given some.
          let fits = (subst (AllTake (w.desk.asks n) (w.desk.told n)) e takes).0 in
          let one : weigh takes_told c.plan ≡ 1 = ap (weigh takes_told) e in
          let told : cond {A = ℕ} (is_some (w.desk.told n)) 1 0 ≡ 1 = ap (λ t. cond {A = ℕ} (is_some t) 1 0) some in
          let gone : cond {A = ℕ} (is_some (put_at w.desk.told n None n)) 1 0 ≡ 0 = ap (λ t. cond {A = ℕ} (is_some t) 1 0) (put_here w.desk.told n None) in
          record {
            own = omega (arith, was, told_takes c load given fits.0 (subst (ToldFits (takes_of load.kind)) some fits.2));
            others = λ m d. (refl, put_there w.desk.told n None m d);
          },
    )
    on_plan p e (Owning_key compute) = outcomes eq Leaves w n c (plan.Own_key compute) [] (
      (
        λ able none. still (omega (arith, ap (weigh takes_told) e)),
        λ not none. still (omega (arith, ap (weigh takes_told) e)),
      ),
      λ owner some. still (omega (arith, ap (weigh takes_told) e)),
    )
    on_plan p e (Owning_alone key) = outcomes eq Leaves w n c (plan.Own_alone key) [] (
      (
        λ able none. still (omega (arith, ap (weigh takes_told) e)),
        λ not none. still (omega (arith, ap (weigh takes_told) e)),
      ),
      λ owner some. (
        λ able. still (omega (arith, ap (weigh takes_told) e)),
        λ not. still (omega (arith, ap (weigh takes_told) e)),
      ),
    )
    on_plan p e (Reading_key compute) = outcomes eq Leaves w n c (plan.Read_key compute) [] (
      λ none. still refl,
      λ with some.
          let zero : weigh takes_told c.plan ≡ 0 = ap (weigh takes_told) e in
          still (reads_take_key c compute with zero ∙ sym zero),
    )
    on_plan p e (Telling_op compute pair) =
        outcomes eq Leaves w n c (plan.Told_op compute pair) [] (
          λ none. still refl,
          λ given some.
              let fits = (subst (AllTake (w.desk.asks n) (w.desk.told n)) e takes).0 in
              let one : weigh takes_told c.plan ≡ 1 = ap (weigh takes_told) e in
              let told : cond {A = ℕ} (is_some (w.desk.told n)) 1 0 ≡ 1 = ap (λ t. cond {A = ℕ} (is_some t) 1 0) some in
              let gone : cond {A = ℕ} (is_some (put_at w.desk.told n None n)) 1 0 ≡ 0 = ap (λ t. cond {A = ℕ} (is_some t) 1 0) (put_here w.desk.told n None) in
              record {
                own = omega (arith, was, told_op_takes c compute pair given fits.0 (subst (ToldFits compute.takes) some fits.2));
                others = λ m d. (refl, put_there w.desk.told n None m d);
              },
        )
    on_plan p e (Writing key value moment rest t) = outcomes eq Leaves w n c (plan.Write key value moment) rest (
      (λ more. still refl),
      (λ off old. still (omega (arith, ap (weigh takes_told) e))),
      (λ on. still (omega (arith, ap (weigh takes_told) e))),
      λ k old on some. still (omega (arith, ap (weigh takes_told) e)),
    )
    on_plan p e (Choosing key stamp cause) =
        outcomes eq Leaves w n c (plan.Lock key) (plan.Get (plan.To_evict key stamp cause) key ∷ [])
        ((λ free. still (omega (arith, ap (weigh takes_told) e))), λ held. still refl)
    on_plan p e (Finding key stamp cause) =
        outcomes eq Leaves w n c (plan.Get (plan.To_evict key stamp cause) key) [] (
          (λ more. still refl),
          (λ none. still (omega (arith, keeps_takes c, ap (weigh takes_told) e))),
          λ k stored some. still
              (omega (
                arith,
                finds_take c (plan.To_evict key stamp cause) k stored,
                ap (weigh takes_told)
                    e,
              )),
        )
    on_plan p e (Chosen key stamp cause there stored) =
        outcomes eq Leaves w n c (plan.Holds key stamp cause there stored) [] (
          (λ leaves. still (omega (arith, ap (weigh takes_told) e))),
          λ stays. still (omega (arith, keeps_takes c, ap (weigh takes_told) e)),
        )
    on_plan p e (Taking removal key) = outcomes eq Leaves w n c (plan.Out removal key) [] (
      (λ more. still refl),
      (λ off none. still (omega (arith, ap (weigh takes_told) e, said_takes removal (nothing_answer removal)))),
      (λ on none. still (omega (arith, ap (weigh takes_told) e, said_takes removal (nothing_answer removal)))),
      (λ k old off some. still (omega (arith, ap (weigh takes_told) e, said_takes removal (removed_answer removal old.value)))),
      λ k old on some. still (omega (arith, ap (weigh takes_told) e, said_takes removal (removed_answer removal old.value))),
    )
    on_plan p e (Freeing rest t) = outcomes eq Leaves w n c (plan.Unlock false) rest
        (goes_on rest (omega (arith, ap (weigh takes_told) e)))
    on_plan p e Hiding = outcomes eq Leaves w n c plan.Invalidate_all (plan.Reply said_as.Done ∷ [])
        (still (omega (arith, ap (weigh takes_told) e)))
    on_plan p e (Registering test) = outcomes eq Leaves w n c (plan.Register test) []
        (still (omega (arith, ap (weigh takes_told) e)))
    on_plan p e (Walking rest walk) =
        let light : IsLight {K = K} {V = V} {E = E} takes_told = (record { list = λ part. refl; find = λ key. refl; scan = λ there stored. refl; end = refl; choose = λ parts. refl; strike = λ there stored. refl; retire = refl }) in
        let z : weigh takes_told c.plan ≡ 0 = ap (weigh takes_told) e ∙ weigh_walk takes_told light p walk in
        on_walk eq Leaves w n c rest walk
        (λ listings stay next on. still (walks_weigh takes_told light (λ a. refl) c z next on ∙ sym z)) (still (sym z)) (λ ids. still (sym z))
    on_plan p e (Applying_all parts) = outcomes eq Leaves w n c plan.Apply (plan.End ∷ plan.Candidates parts ∷ [])
        ((λ none. still (omega (arith, ap (weigh takes_told) e))), λ y ys some. still (omega (arith, ap (weigh takes_told) e)))
    on_plan p e (Ending_all parts) = outcomes eq Leaves w n c plan.End (plan.Candidates parts ∷ []) (still (omega (arith, ap (weigh takes_told) e)))
    on_plan p e (Idling rest t) = outcomes eq Leaves w n c plan.Idle rest
        (goes_on rest (omega (arith, ap (weigh takes_told) e)))

  -- ---- of a state

  -- Each call has an ask or an answer exactly where it is to take one.
  pub record IsAsking (s : State K V E) : Type 0 where
    pub balanced : IsBalanced s
    pub taking : IsTaking s
    pub known : (n : ℕ) (c : Call K V E) → s.calls n ≡ Some c → IsKnown c
    pub asked : (n : ℕ) → opened (s.world.desk.asks n) (s.world.desk.told n) ≡ weigh_call takes_told (s.calls n)

  asks_on : (s : State K V E) (n : ℕ) (w : World K V E) (left : Option (Call K V E)) → IsAsking s →
      Asks s.world.desk n w.desk.asks w.desk.told left → (m : ℕ) →
      opened (w.desk.asks m) (w.desk.told m) ≡ weigh_call takes_told (put_at s.calls n left m)
  asks_on s n w left i b m = by (n == m) refl
    where
      by : (t : Bool) → (n == m) ≡ t → opened (w.desk.asks m) (w.desk.told m) ≡ weigh_call takes_told (put_at s.calls n left m)
      by true e =
          subst (λ v. opened (w.desk.asks v) (w.desk.told v) ≡ weigh_call takes_told (put_at s.calls n left v)) (eqb-true n m e)
          (b.own ∙ ap (weigh_call takes_told) (sym (put_here s.calls n left)))
      by false e =
          let same = b.others m e in
          ap (λ a. opened a (w.desk.told m)) same.0 ∙ ap (λ t. opened (s.world.desk.asks m) t) same.1 ∙ i.asked m ∙ ap (weigh_call takes_told) (sym (put_there s.calls n left m e))

  -- an ask that takes the answer is open
  is_open : (d : DeskPart K V E) (n : ℕ) (given : Told V E) → is_taken d n given ≡ true → is_some (d.asks n) ≡ true
  is_open d n given e = by (d.asks n) e
    where
      by : (a : Option Takes) → option_map_or (λ t. does_take t given) a false ≡ true → is_some a ≡ true
      by None e = e
      by (Some t) e = refl

module _ {K V E : Type 0} (eq : K → K → Bool) where
  asking_step : (s t : State K V E) (n : ℕ) (turn : Turn K V E) → IsAsking s → Step eq s n turn t → IsAsking t
  asking_step s t n turn i step =
      let c : Call K V E = step.call in
      let was : opened (s.world.desk.asks n) (s.world.desk.told n) ≡ weigh takes_told c.plan = i.asked n ∙ ap (weigh_call takes_told) step.live in
      record {
        balanced = (balanced_kept eq).step s t n turn i.balanced step;
        taking = (taking_kept eq).step s t n turn i.taking step;
        known = (known_kept eq).step s t n turn i.known step;
        asked = step_cases eq (λ new next. Asks s.world.desk n new.desk.asks new.desk.told next.left)
            (λ v _. (m : ℕ) → opened (v.world.desk.asks m) (v.world.desk.told m) ≡ weigh_call takes_told (v.calls m)) s t n turn step
            (on_plan eq s.world n c (i.taking.take n c step.live) was c.plan refl (i.known n c step.live).plan) (λ w next b. asks_on s n w next.left i b);
      }

  asking_start : (s : State K V E) (start : Start K V) → IsAsking s → IsAsking (started s start)
  asking_start s start i =
      let new : ℕ = s.world.desk.last + 1 in
      record {
        balanced = (balanced_kept eq).start s start i.balanced;
        taking = (taking_kept eq).start s start i.taking;
        known = (known_kept eq).start s start i.known;
        asked = asks_on s new s.world (Some (fresh_call s.world.table.division.parts s.world.desk.rules start)) i (record {
          own = i.asked new ∙ ap (weigh_call takes_told) (next_free s i.balanced) ∙ sym (fresh_none s.world.desk.rules _ (fresh_plan s.world.table.division.parts s.world.desk.rules start));
          others = λ m d. (refl, refl);
        });
      }

  asking_tell : (s : State K V E) (n : ℕ) (given : Told V E) → is_taken s.world.desk n given ≡ true → IsAsking s → (m : ℕ) →
      opened (put_at s.world.desk.asks n None m) (put_at s.world.desk.told n (Some given) m) ≡ weigh_call takes_told (s.calls m)
  asking_tell s n given asked i m = by (n == m) refl
    where
      by : (b : Bool) → (n == m) ≡ b →
          opened (cond b None (s.world.desk.asks m)) (cond b (Some given) (s.world.desk.told m)) ≡ weigh_call takes_told (s.calls m)
      by false e = i.asked m
      by true e =
          let here : is_some (s.world.desk.asks m) ≡ true = subst (λ v. is_some (s.world.desk.asks v) ≡ true) (eqb-true n m e) (is_open s.world.desk n given asked) in
          let one : cond {A = ℕ} (is_some (s.world.desk.asks m)) 1 0 ≡ 1 = ap (λ b. cond {A = ℕ} b 1 0) here in
          omega (arith, i.asked m, few m (s.calls m) refl)
        where
          few : (m : ℕ) (o : Option (Call K V E)) → s.calls m ≡ o → weigh_call takes_told o ≤ 1
          few m None e = omega arith
          few m (Some c) e = plan_few c.plan (i.known m c e).plan

  pub asking_kept : IsInvariant eq (IsAsking {K = K} {V = V} {E = E})
  asking_kept = record {
    fresh = λ division divides rules size built has_log. record {
      balanced = (balanced_kept eq).fresh division divides rules size built has_log;
      taking = (taking_kept eq).fresh division divides rules size built has_log;
      known = (known_kept eq).fresh division divides rules size built has_log;
      asked = λ n. refl;
    };
    at = λ s moment i. record {
      balanced = (balanced_kept eq).at s moment i.balanced;
      taking = (taking_kept eq).at s moment i.taking;
      known = (known_kept eq).at s moment i.known;
      asked = i.asked;
    };
    start = asking_start;
    step = asking_step;
    tell = λ s n given told i. record {
      balanced = (balanced_kept eq).tell s n given told i.balanced;
      taking = (taking_kept eq).tell s n given told i.taking;
      known = (known_kept eq).tell s n given told i.known;
      asked = asking_tell s n given told i;
    };
    hear = λ s n off running i. record {
      balanced = (balanced_kept eq).hear s n off running i.balanced;
      taking = (taking_kept eq).hear s n off running i.taking;
      known = (known_kept eq).hear s n off running i.known;
      asked = i.asked;
    };
    drop = λ s n c live between i. record {
      balanced = (balanced_kept eq).drop s n c live between i.balanced;
      taking = (taking_kept eq).drop s n c live between i.taking;
      known = (known_kept eq).drop s n c live between i.known;
      asked = asks_on s n (dropped s n c).world None i (record {
        own = ap (λ a. opened a (put_at s.world.desk.told n None n)) (put_here s.world.desk.asks n None) ∙ ap (λ t. opened {V = V} {E = E} None t) (put_here s.world.desk.told n None);
        others = λ m e. (put_there s.world.desk.asks n None m e, put_there s.world.desk.told n None m e);
      });
    };
  }

  pub in_asking : (s : State K V E) → IsReached eq s → IsAsking s
  in_asking s h = in_reached eq IsAsking asking_kept s h

module _ {K V E : Type 0} where
  -- The call with this plan has an ask or an answer exactly where it is to take one, and it takes one at most.
  pub record AsksWhole (d : DeskPart K V E) (n : ℕ) (plan : List (Item K V E)) : Type 0 where
    pub asked : opened (d.asks n) (d.told n) ≡ weigh takes_told plan
    pub few : weigh takes_told plan ≤ 1

  module _ (d : DeskPart K V E) (n : ℕ) where
    -- where the answer isn't there the ask is open, and where it is the ask is closed
    pub ask_open : (load : Load K) (rest : List (Item K V E)) → AsksWhole d n (plan.Told load ∷ rest) → is_some (d.told n) ≡ false → IsSome (d.asks n)
    ask_open load rest a none = by (is_some (d.asks n)) refl
      where
        by : (b : Bool) → is_some (d.asks n) ≡ b → b ≡ true
        by true e = refl
        by false e =
            let ask = ap (λ b. cond {A = ℕ} b 1 0) e in
            let told = ap (λ b. cond {A = ℕ} b 1 0) none in
            absurd (omega (arith, a.asked))

    pub op_open : (compute : Compute K) (pair : Option (K × V)) (rest : List (Item K V E)) →
        AsksWhole d n (plan.Told_op compute pair ∷ rest) → is_some (d.told n) ≡ false →
        IsSome (d.asks n)
    op_open compute pair rest a none = by (is_some (d.asks n)) refl
      where
        by : (b : Bool) → is_some (d.asks n) ≡ b → b ≡ true
        by true e = refl
        by false e =
            let ask = ap (λ b. cond {A = ℕ} b 1 0) e in
            let told = ap (λ b. cond {A = ℕ} b 1 0) none in
            absurd (omega (arith, a.asked))

    pub ask_closed : (load : Load K) (rest : List (Item K V E)) → AsksWhole d n (plan.Told load ∷ rest) → is_some (d.told n) ≡ true → ¬ IsSome (d.asks n)
    ask_closed load rest a some = λ opens.
        let ask = ap (λ b. cond {A = ℕ} b 1 0) opens in
        let told = ap (λ b. cond {A = ℕ} b 1 0) some in
        omega (arith, a.asked, a.few)

    pub op_closed : (compute : Compute K) (pair : Option (K × V)) (rest : List (Item K V E)) →
        AsksWhole d n (plan.Told_op compute pair ∷ rest) → is_some (d.told n) ≡ true →
        ¬ IsSome (d.asks n)
    op_closed compute pair rest a some = λ opens.
        let ask = ap (λ b. cond {A = ℕ} b 1 0) opens in
        let told = ap (λ b. cond {A = ℕ} b 1 0) some in
        omega (arith, a.asked, a.few)

    -- a call that is to take none has neither
    pub none_asked : (plan : List (Item K V E)) → opened (d.asks n) (d.told n) ≡ weigh takes_told plan → weigh takes_told plan ≡ 0 →
        (is_some (d.asks n) ≡ false) × (is_some (d.told n) ≡ false)
    none_asked plan e zero = by (is_some (d.asks n)) (is_some (d.told n)) refl refl
      where
        by : (a t : Bool) → is_some (d.asks n) ≡ a → is_some (d.told n) ≡ t → (a ≡ false) × (t ≡ false)
        by false false f g = (refl, refl)
        by true t f g = let ask = ap (λ b. cond {A = ℕ} b 1 0) f in absurd (omega (arith, e))
        by false true f g = let told = ap (λ b. cond {A = ℕ} b 1 0) g in absurd (omega (arith, e))

module _ {K V E : Type 0} where
  pub whole : (s : State K V E) → IsAsking s → (n : ℕ) (c : Call K V E) → s.calls n ≡ Some c → AsksWhole s.world.desk n c.plan
  whole s i n c live = record { asked = i.asked n ∙ ap (weigh_call takes_told) live; few = plan_few c.plan (i.known n c live).plan }
