-- A call that doesn't walk never comes to, and gives no record.
use Rattle.std.proofs.Common.{◌≡◌, ℕ, Bool, true, List, [], ◌∷◌, ◌++◌, map, Option, Some, None, refl, ap, ◌∙◌, arith}
use Rattle.moka_hist.specs.State.{Call, World}
use Rattle.moka_hist.specs.Maintenance.{carrying}
use Rattle.moka_hist.specs.Plan.{Item, Aim, Removal, lists_from}
use Rattle.moka_hist.specs.Plan as plan
use Rattle.moka_hist.specs.Next.{Next, goes, stays, waits}
use Rattle.moka_hist.specs.Looking.{finds_pair, hits, keeps, misses}
use Rattle.moka_hist.specs.Loading.{after_read, after_told}
use Rattle.moka_hist.specs.Computing.{after_told_op, after_read_key}
use Rattle.moka_hist.specs.Writing.{nothing_answer, removed_answer, said}
use Rattle.moka_hist.specs.declared.accesses.Turn.TheVariants as turn
use Rattle.moka_hist.specs.declared.events.Told.{Told}
use Rattle.moka_hist.specs.declared.events.Told.TheVariants as told
use Rattle.moka_hist.specs.declared.loads.Compute.{Compute}
use Rattle.moka_hist.specs.declared.loads.Load.{Load}
use Rattle.moka_hist.specs.declared.loads.Sought.{Sought}
use Rattle.moka_hist.specs.declared.records.Stored.{Stored}
use Rattle.moka_hist.specs.declared.replies.Answer.{Answer}
use Rattle.moka_hist.specs.declared.replies.Answer.TheVariants as reply
use Rattle.moka_hist.specs.declared.visits.Found.TheVariants as found
use Rattle.moka_hist.specs.declared.visits.Settled.{Settled}
use Rattle.moka_hist.specs.declared.visits.Settled.TheVariants as settled
use Rattle.moka_laws.proofs.Outcomes.{Outcomes, outcomes, passes_on}
use Rattle.moka_laws.proofs.Rules.{abort_next, chosen_next, kept_next, loaded_plans, put_plans, read_key_next, told_op_next}
use Rattle.moka_laws.proofs.StepCases.{OnStep, more_step}
use Rattle.moka_laws.proofs.Weights.{weigh, weigh_call, weigh_goes, weigh_said}

module _ {K V E : Type 0} where
  -- the item is one of a walk
  abbrev pub walking : Item K V E → ℕ
  walking (plan.List_keys part) = 1
  walking (plan.Find key) = 1
  walking (plan.Scan there found) = 1
  walking (plan.Candidates parts) = 1
  walking (plan.Strike there found) = 1
  walking plan.Retire = 1
  walking _ = 0

  -- the call, if it is still live, carries what the other did
  abbrev pub CarriesSame : Call K V E → Option (Call K V E) → Type 0
  CarriesSame c None = Unit {0}
  CarriesSame c (Some d) = d.carried ≡ c.carried

  -- how a call goes on that had this rest behind its first item: it gives no record, has no item of a
  -- walk, where it had none, and carries what it did
  pub record Quiet (c : Call K V E) (rest : List (Item K V E)) (next : Next K V E) : Type 0 where
    pub silent : (key : K) (value : V) → next.turn ≡ turn.Item key value → ⊥
    pub calm : weigh walking c.plan ≡ 0 → weigh walking rest ≡ 0 → weigh_call walking next.left ≡ 0
    pub carries : CarriesSame c next.left

  module _ (c : Call K V E) (rest : List (Item K V E)) where
    goes_silent : (p : List (Item K V E)) (key : K) (value : V) → (goes c p).turn ≡ turn.Item key value → ⊥
    goes_silent (plan.Reply a ∷ []) key value e = cc
    goes_silent _ key value e = cc

    goes_carries : (p : List (Item K V E)) → CarriesSame c (goes c p).left
    goes_carries (plan.Reply a ∷ []) = tt
    goes_carries _ = refl

    goes_quiet : (p : List (Item K V E)) → (weigh walking rest ≡ 0 → weigh walking p ≡ 0) → Quiet c rest (goes c p)
    goes_quiet p h = record {
      silent = goes_silent p;
      calm = λ was q. weigh_goes walking c p (λ a. refl) ∙ h q;
      carries = goes_carries p;
    }

    stays_quiet : Quiet c rest (stays c)
    stays_quiet = record { silent = λ k v e. cc; calm = λ was q. was; carries = search }

    waits_quiet : Quiet c rest (waits c)
    waits_quiet = record { silent = λ k v e. cc; calm = λ was q. was; carries = search }

    keeps_quiet : Quiet c rest (keeps c)
    keeps_quiet = kept_next (Quiet c rest) c (λ off. record { silent = λ k v e. cc; calm = λ was q. refl; carries = search })
        (λ on. record { silent = λ k v e. cc; calm = λ was q. refl; carries = search })

    misses_quiet : (aim : Aim K V) → Quiet c rest (misses c aim)
    misses_quiet (plan.To_insert key value) =
        put_plans (λ p. Quiet c rest (goes c p)) c.rules key value (plan.Reply (reply.Loaded value true) ∷ [])
        (record { silent = λ k v e. cc; calm = λ was q. refl; carries = search }) (record { silent = λ k v e. cc; calm = λ was q. refl; carries = search })
    misses_quiet (plan.To_evict key stamp cause) = keeps_quiet
    misses_quiet _ = record { silent = λ k v e. cc; calm = λ was q. refl; carries = search }

    finds_quiet : (aim : Aim K V) (there : K) (stored : Stored V) → Quiet c rest (finds_pair c aim there stored)
    finds_quiet (plan.To_evict key stamp cause) there stored =
        chosen_next (Quiet c rest) c key stamp cause there stored (λ off. record { silent = λ k v e. cc; calm = λ was q. refl; carries = search })
        (λ on. record { silent = λ k v e. cc; calm = λ was q. refl; carries = search }) (record { silent = λ k v e. cc; calm = λ was q. refl; carries = search })
    finds_quiet _ there stored = record { silent = λ k v e. cc; calm = λ was q. refl; carries = search }

    hits_quiet : (aim : Aim K V) (there : K) (value : V) → Quiet c rest (hits c aim there value)
    hits_quiet (plan.To_evict key stamp cause) there value = waits_quiet
    hits_quiet _ there value = record { silent = λ k v e. cc; calm = λ was q. refl; carries = search }

    read_quiet : (sought : Sought K) (with : Settled V E) → Quiet c rest (after_read c sought (found.ReadSettled with))
    read_quiet sought settled.NotYet = waits_quiet
    read_quiet sought settled.Aborted =
        abort_next (Quiet c rest) c sought (record { silent = λ k v e. cc; calm = λ was q. refl; carries = search }) (record { silent = λ k v e. cc; calm = λ was q. refl; carries = search })
    read_quiet sought _ = record { silent = λ k v e. cc; calm = λ was q. refl; carries = search }

    read_key_quiet : (compute : Compute K) (with : Settled V E) → Quiet c rest (after_read_key c compute (found.ReadSettled with))
    read_key_quiet compute with = read_key_next (Quiet c rest) c compute with waits_quiet (record { silent = λ k v e. cc; calm = λ was q. refl; carries = search })

    told_quiet : (load : Load K) (given : Told V E) → Quiet c rest (after_told c load (found.TakeTold (Some given)))
    told_quiet load (told.Value value) = loaded_plans (λ p. Quiet c rest (goes c p)) c.rules load value
        (record { silent = λ k v e. cc; calm = λ was q. refl; carries = search }) (record { silent = λ k v e. cc; calm = λ was q. refl; carries = search })
        (record { silent = λ k v e. cc; calm = λ was q. refl; carries = search })
    told_quiet load told.Nothing = record { silent = λ k v e. cc; calm = λ was q. refl; carries = search }
    told_quiet load (told.Err error) = record { silent = λ k v e. cc; calm = λ was q. refl; carries = search }
    told_quiet load _ = waits_quiet

    told_op_quiet : (compute : Compute K) (pair : Option (K × V)) (given : Told V E) →
        Quiet c rest (after_told_op c compute pair (found.TakeTold (Some given)))
    told_op_quiet compute pair given = told_op_next (Quiet c rest) c compute pair given
        (λ a. record { silent = λ k v e. cc; calm = λ was q. refl; carries = search })
        (λ value able off. record { silent = λ k v e. cc; calm = λ was q. refl; carries = search })
        (λ value able on. record { silent = λ k v e. cc; calm = λ was q. refl; carries = search })
        (λ off. record { silent = λ k v e. cc; calm = λ was q. refl; carries = search })
        (λ on. record { silent = λ k v e. cc; calm = λ was q. refl; carries = search })
        waits_quiet

    said_calm : (removal : Removal K) (a : Answer K V E) → weigh walking (said removal a) ≡ 0
    said_calm removal a = weigh_said walking removal a refl refl

  module _ (eq : K → K → Bool) (w : World K V E) (n : ℕ) (c : Call K V E) where
    -- the step of an item that isn't one of a walk
    abbrev After : List (Item K V E) → World K V E → Next K V E → Type 0
    After rest new next = Quiet c rest next

    on_item : (item : Item K V E) (rest : List (Item K V E)) → walking item ≡ 0 → Outcomes eq (After rest) w n c item rest
    on_item plan.Drain rest free = (
      λ e. goes_quiet c rest rest (λ q. q),
      λ x xs e. goes_quiet c rest (plan.Post x ∷ plan.Drain ∷ rest) (λ q. omega (arith, q)),
      λ x number xs e. goes_quiet c rest (plan.Ended number ∷ plan.Post x ∷ plan.Drain ∷ rest) (λ q. omega (arith, q)),
    )
    on_item (plan.Notice key old cause upsert) rest free = (
      λ e. goes_quiet c rest rest (λ q. q),
      λ e. record { silent = λ k v e. cc; calm = λ was q. omega (arith, q); carries = search },
    )
    on_item (plan.Post write) rest free = (
      λ e. goes_quiet c rest rest (λ q. q),
      λ e. goes_quiet c rest (plan.Turn ∷ plan.Apply ∷ plan.End ∷ plan.Post write ∷ rest) (λ q. omega (arith, q)),
    )
    on_item plan.Apply rest free =
        (λ e. goes_quiet c rest rest (λ q. q), λ x xs e. goes_quiet c rest (plan.Apply ∷ rest) (λ q. omega (arith, q)))
    on_item (plan.Get aim key) rest free =
        (λ more. stays_quiet c rest, λ none. misses_quiet c rest aim, λ k stored some. finds_quiet c rest aim k stored)
    on_item (plan.Judge aim key stored) rest free =
        (λ seen. hits_quiet c rest aim key stored.value, λ unseen. misses_quiet c rest aim)
    on_item (plan.Own sought) rest free = (
      λ able e. record { silent = λ k v e. cc; calm = λ was q. refl; carries = search },
      λ disabled e. record { silent = λ k v e. cc; calm = λ was q. refl; carries = search },
      λ owner e. record { silent = λ k v e. cc; calm = λ was q. refl; carries = search },
    )
    on_item (plan.Own_key compute) rest free = (
      (
        λ able e. record { silent = λ k v e. cc; calm = λ was q. refl; carries = search },
        λ disabled e. record { silent = λ k v e. cc; calm = λ was q. refl; carries = search },
      ),
      λ owner e. record { silent = λ k v e. cc; calm = λ was q. refl; carries = search },
    )
    on_item (plan.Own_alone key) rest free = (
      (
        λ able e. record { silent = λ k v e. cc; calm = λ was q. refl; carries = search },
        λ disabled e. record { silent = λ k v e. cc; calm = λ was q. refl; carries = search },
      ),
      λ owner e. (
        λ able. record { silent = λ k v e. cc; calm = λ was q. refl; carries = search },
        λ disabled. record { silent = λ k v e. cc; calm = λ was q. refl; carries = search },
      ),
    )
    on_item (plan.Read sought) rest free = (λ e. waits_quiet c rest, λ with e. read_quiet c rest sought with)
    on_item (plan.Read_key compute) rest free = (λ e. waits_quiet c rest, λ with e. read_key_quiet c rest compute with)
    on_item (plan.Ask load) rest free = record { silent = λ k v e. cc; calm = λ was q. refl; carries = search }
    on_item (plan.Ask_op compute pair) rest free = record { silent = λ k v e. cc; calm = λ was q. refl; carries = search }
    on_item (plan.Told load) rest free = (λ e. waits_quiet c rest, λ given e. told_quiet c rest load given)
    on_item (plan.Told_op compute pair) rest free = (λ e. waits_quiet c rest, λ given e. told_op_quiet c rest compute pair given)
    on_item (plan.Holds key stamp cause there stored) rest free =
        (λ e. record { silent = λ k v e. cc; calm = λ was q. refl; carries = search }, λ e. keeps_quiet c rest)
    on_item (plan.Moment (plan.To_store key value)) rest free = record { silent = λ k v e. cc; calm = λ was q. omega (arith, q); carries = search }
    on_item (plan.Moment (plan.To_take_out removal key)) rest free = record { silent = λ k v e. cc; calm = λ was q. omega (arith, q); carries = search }
    on_item (plan.Write key value moment) rest free = (
      λ more. stays_quiet c rest,
      λ off old. record { silent = λ k v e. cc; calm = λ was q. omega (arith, q); carries = search },
      λ on. record { silent = λ k v e. cc; calm = λ was q. omega (arith, q); carries = search },
      λ k old on some. record { silent = λ k v e. cc; calm = λ was q. omega (arith, q); carries = search },
    )
    on_item (plan.Out removal key) rest free = (
      λ more. stays_quiet c rest,
      λ off none. record { silent = λ k v e. cc; calm = λ was q. omega (arith, said_calm c rest removal (nothing_answer removal)); carries = search },
      λ on none. record { silent = λ k v e. cc; calm = λ was q. omega (arith, said_calm c rest removal (nothing_answer removal)); carries = search },
      λ k old off some. record { silent = λ k v e. cc; calm = λ was q. omega (arith, said_calm c rest removal (removed_answer removal old.value)); carries = search },
      λ k old on some. record { silent = λ k v e. cc; calm = λ was q. omega (arith, said_calm c rest removal (removed_answer removal old.value)); carries = search },
    )
    on_item (plan.Register test) rest free = record { silent = λ k v e. cc; calm = λ was q. refl; carries = search }
    on_item (plan.Reply a) rest free = record { silent = λ k v e. cc; calm = λ was q. refl; carries = search }
    on_item (plan.List_keys part) rest free = absurd (omega (arith, free))
    on_item (plan.Find key) rest free = absurd (omega (arith, free))
    on_item (plan.Scan there stored) rest free = absurd (omega (arith, free))
    on_item (plan.Candidates parts) rest free = absurd (omega (arith, free))
    on_item (plan.Strike there stored) rest free = absurd (omega (arith, free))
    on_item plan.Retire rest free = absurd (omega (arith, free))
    on_item item rest free = passes_on eq (After rest) w n c item rest tt (λ d. goes_quiet c rest rest (λ q. q)) (waits_quiet c rest)

    -- a call without an item of a walk has none after its step
    pub on_calm : (p : List (Item K V E)) → c.plan ≡ p → weigh walking p ≡ 0 →
        OnStep eq (λ (new : World K V E) (next : Next K V E). weigh_call walking next.left ≡ 0) w n c p
    on_calm [] e calm = ap (weigh walking) e ∙ calm
    on_calm (item ∷ rest) e calm =
        let none : walking item ≡ 0 = omega (arith, calm) in
        let less : weigh walking rest ≡ 0 = omega (arith, calm) in
        more_step eq (After rest) (λ new next. weigh_call walking next.left ≡ 0) (λ new next q. q.calm (ap (weigh walking) e ∙ calm) less)
        w n c (item ∷ rest) (outcomes eq (After rest) w n c item rest (on_item item rest none))

    -- nor does it carry anything else then
    pub on_carries : (p : List (Item K V E)) → c.plan ≡ p → weigh walking p ≡ 0 →
        OnStep eq (λ (new : World K V E) (next : Next K V E). CarriesSame c next.left) w n c p
    on_carries [] e calm = refl
    on_carries (item ∷ rest) e calm =
        let none : walking item ≡ 0 = omega (arith, calm) in
        more_step eq (After rest) (λ new next. CarriesSame c next.left) (λ new next q. q.carries)
        w n c (item ∷ rest) (outcomes eq (After rest) w n c item rest (on_item item rest none))

    -- the step replies no item
    abbrev Silent : World K V E → Next K V E → Type 0
    Silent new next = (key : K) (value : V) → next.turn ≡ turn.Item key value → ⊥

    -- a step replies an item only of a call that judges a record first
    pub on_silent : (p : List (Item K V E)) → ((there : K) (found : Stored V) (rest : List (Item K V E)) → p ≡ plan.Scan there found ∷ rest → ⊥) →
        OnStep eq (λ (new : World K V E) (next : Next K V E). (key : K) (value : V) → next.turn ≡ turn.Item key value → ⊥) w n c p
    on_silent [] free = λ key value e. cc
    on_silent (item ∷ rest) free = by item rest free
      where
        by : (item : Item K V E) (rest : List (Item K V E)) →
            ((there : K) (found : Stored V) (more : List (Item K V E)) → item ∷ rest ≡ plan.Scan there found ∷ more → ⊥) →
            OnStep eq Silent w n c (item ∷ rest)
        by (plan.List_keys part) rest free = outcomes eq Silent w n c (plan.List_keys part) rest (
          λ more key value e. cc,
          λ listed keys is gives. goes_silent c rest (map plan.Find keys ++ rest),
        )
        by (plan.Find k) rest free = outcomes eq Silent w n c (plan.Find k) rest (
          λ more key value e. cc,
          λ none. goes_silent c rest rest,
          λ there stored some none key value e. cc,
          λ there stored ids some is key value e. cc,
        )
        by (plan.Candidates parts) rest free = outcomes eq Silent w n c (plan.Candidates parts) rest (
          λ none key value e. cc,
          λ id more some. goes_silent (carrying c (id ∷ more)) rest (lists_from 0 parts (plan.Retire ∷ [])),
        )
        by (plan.Strike there found) rest free =
            outcomes eq Silent w n c (plan.Strike there found) rest (goes_silent (carrying c _) rest rest)
        by plan.Retire rest free = outcomes eq Silent w n c plan.Retire rest (λ key value e. cc)
        by (plan.Scan there found) rest free = absurd (free there found rest refl)
        by item rest free = more_step eq (After rest) Silent (λ new next q. q.silent) w n c (item ∷ rest) (outcomes eq (After rest) w n c item rest (on_item item rest refl))
