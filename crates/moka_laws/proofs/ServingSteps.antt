-- Each item of a plan keeps what those that wait for owners count on.
use Rattle.std.proofs.Common.{ap, ◌≡◌, ℕ, ◌+◌, ◌≤◌, ◌==◌, Bool, true, false, List, [], ◌∷◌, Option, Some, None, is_some, refl, sym, ◌∙◌, subst, arith, map, ◌++◌}
use Rattle.moka_hist.specs.State.{World, Call}
use Rattle.moka_hist.specs.Plan.{Item, Aim, lists_from}
use Rattle.moka_hist.specs.Plan as plan
use Rattle.moka_hist.specs.Looking.{hits}
use Rattle.moka_hist.specs.Next.{Next, goes}
use Rattle.moka_hist.specs.declared.records.Stored.{Stored}
use Rattle.moka_hist.specs.Loading.{after_told}
use Rattle.moka_hist.specs.declared.loads.Load.{Load}
use Rattle.moka_hist.specs.declared.events.Told.{Told}
use Rattle.moka_hist.specs.declared.events.Told.TheVariants as answer
use Rattle.moka_hist.specs.declared.visits.Found.TheVariants as found
use Rattle.moka_laws.proofs.Rules.{loaded_plans, told_op_next}
use Rattle.moka_laws.proofs.Weights.{weigh}
use Rattle.moka_laws.proofs.StepCases.{OnStep}
use Rattle.moka_laws.proofs.Outcomes.{Outcomes, outcomes, computes_of, passes_by}
use Rattle.moka_laws.proofs.Answering.{HasAnswers, settlement_ready}
use Rattle.moka_laws.proofs.Owning.{plan_left}
use Rattle.moka_laws.proofs.Roles.{IsLast, owners, Fits, awaited, goes_fits, keeps_fits, misses_fits, unseen_fits, finds_fits, hits_fits, told_fits, read_fits, read_key_fits, goes_awaits, keeps_awaits, misses_awaits, finds_awaits, hits_awaits, finds_last, finds_await, walk_last, walk_awaits}
use Rattle.moka_laws.proofs.Reading.{joins, Answered, OwnerOf}
use Rattle.moka_laws.proofs.Serving.{ServesPart, part, no_load, no_owner, at_most_one, keeps, keeps_none, claims, joins_owner, joins_key_owner, leaves_owner, ends_own}
use Rattle.moka_hist.specs.declared.loads.Compute.{Compute}
use Rattle.moka_hist.specs.Computing.{after_told_op}
use Rattle.moka_laws.proofs.Walks.{weigh_finds, IsWalk, retiring_walk, weigh_retiring}
use Rattle.moka_hist.specs.Maintenance.{carrying}

module _ {K V E : Type 0} (eq : K → K → Bool) (w : World K V E) (n : ℕ) (c : Call K V E)
    (owner : (load : Load K) (o : ℕ) → w.desk.owners load ≡ Some o → OwnerOf eq w.desk.owning o load)
    (enough : (m o : ℕ) → (n == m) ≡ false → w.desk.joined m ≡ Some o → joins o (w.desk.joined n) + 1 ≤ w.desk.readers o)
    (enough_own : (o : ℕ) → joins o (w.desk.joined n) ≤ w.desk.readers o)
    (ready : HasAnswers w.desk) where
  -- the call fits a plan, and what this plan awaits is answered
  record Plans (plan : List (Item K V E)) : Type 0 where
    fits : Fits {E = E} (w.desk.owning n) (w.desk.joined n) plan
    own : (o : ℕ) (load : Load K) → w.desk.joined n ≡ Some o → awaited plan ≡ Some load → Answered eq w.desk.owning w.desk.settled o load

  abbrev Leaves : World K V E → Next K V E → Type 0
  Leaves new next = ServesPart eq w.desk n (part new.desk) next.left

  -- the call goes on with this plan, or as it was, and nothing else has changed
  goes_with : (left : Option (Call K V E)) → Plans (plan_left left) → ServesPart eq w.desk n (part w.desk) left
  goes_with left p = keeps eq w.desk n owner enough enough_own p.fits p.own

  -- the call goes on with a plan that awaits no load
  goes_free : {left : Option (Call K V E)} → Fits {E = E} (w.desk.owning n) (w.desk.joined n) (plan_left left) → awaited (plan_left left) ≡ None →
      ServesPart eq w.desk n (part w.desk) left
  goes_free f none = keeps_none eq w.desk n owner enough enough_own f none

  rest_plans : (d : Call K V E) (rest : List (Item K V E)) → Plans rest → Plans (plan_left (goes d rest).left)
  rest_plans d rest p = record { fits = goes_fits _ _ d rest p.fits; own = λ o load j a. p.own o load j (sym (goes_awaits d rest) ∙ a) }

  goes_as : (d : Call K V E) (rest : List (Item K V E)) → Plans rest → ServesPart eq w.desk n (part w.desk) (goes d rest).left
  goes_as d rest p = goes_with (goes d rest).left (rest_plans d rest p)

  goes_rest : (rest : List (Item K V E)) → Plans rest → ServesPart eq w.desk n (part w.desk) (goes c rest).left
  goes_rest rest p = goes_as c rest p

  -- the plan's one item, where that is the last
  alone : (item : Item K V E) (rest : List (Item K V E)) → rest ≡ [] → Plans (item ∷ rest) →
      Fits {E = E} (w.desk.owning n) (w.desk.joined n) (item ∷ [])
  alone item rest e p = subst (λ v. Fits {E = E} (w.desk.owning n) (w.desk.joined n) (item ∷ v)) e p.fits

  takes_told : (load : Load K) (given : Told V E) → Plans c.plan → Fits {V = V} {E = E} (w.desk.owning n) (w.desk.joined n) (plan.Told load ∷ []) →
      ServesPart eq w.desk n (part w.desk) (after_told c load (found.TakeTold (Some given))).left
  takes_told load (answer.Value value) p f =
      goes_free (told_fits _ _ c load (answer.Value value) p.fits f)
      (loaded_plans (λ q. awaited (plan_left (goes c q).left) ≡ None)
      c.rules load value refl refl refl)
  takes_told load answer.Nothing p f = goes_free (told_fits _ _ c load answer.Nothing p.fits f) refl
  takes_told load (answer.Err error) p f =
      goes_free (told_fits _ _ c load (answer.Err error) p.fits f) refl
  takes_told load _ p f = goes_with _ p

  takes_told_op : (compute : Compute K) (pair : Option (K × V)) (given : Told V E) → Plans c.plan →
      Fits {V = V} {E = E} (w.desk.owning n) (w.desk.joined n) (plan.Told_op compute pair ∷ []) →
      ServesPart eq w.desk n (part w.desk)
      (after_told_op c compute pair (found.TakeTold (Some given))).left
  takes_told_op compute pair given p f =
      told_op_next (λ v. ServesPart eq w.desk n (part w.desk) v.left) c compute pair given
      (λ a. goes_free (record { last = refl; owning = omega (arith, f.owning); waiting = f.waiting }) refl)
      (λ value able off. goes_free (record { last = refl; owning = omega (arith, f.owning); waiting = f.waiting }) refl)
      (λ value able on. goes_free (record { last = refl; owning = omega (arith, f.owning); waiting = f.waiting }) refl)
      (λ off. goes_free (record { last = refl; owning = omega (arith, f.owning); waiting = f.waiting }) refl)
      (λ on. goes_free (record { last = refl; owning = omega (arith, f.owning); waiting = f.waiting }) refl)
      (goes_with _ p)

  -- a call fits a plan that tells as much as one that it fits
  like : (plan old : List (Item K V E)) → Plans old → IsLast plan → weigh owners plan ≡ weigh owners old → awaited plan ≡ awaited old → Plans plan
  like plan old p last weight alike = record {
    fits = record { last = last; owning = weight ∙ p.fits.owning; waiting = p.fits.waiting ∙ ap is_some (sym alike) };
    own = λ o load j a. p.own o load j (sym alike ∙ a);
  }

  -- a call that judges what may be seen goes on with a plan that awaits no load
  judges : (aim : Aim K V) (key : K) (stored : Stored V) → Plans c.plan →
      Fits {E = E} (w.desk.owning n) (w.desk.joined n) (plan.Judge aim key stored ∷ []) →
      ServesPart eq w.desk n (part w.desk) (hits c aim key stored.value).left
  judges (plan.To_evict there stamp cause) key stored p f = goes_with _ p
  judges aim key stored p f =
      goes_free (hits_fits _ _ c aim key stored stored.value p.fits f)
      (hits_awaits c aim key stored.value tt)

  on_item : (item : Item K V E) (rest : List (Item K V E)) → Plans c.plan → Plans (item ∷ rest) → Outcomes eq Leaves w n c item rest
  on_item plan.Drain rest p q = (
    λ e. goes_rest rest (like rest _ q q.fits.last (omega arith) refl),
    λ x xs e. goes_with _ (like (plan.Post x ∷ plan.Drain ∷ rest) _ q q.fits.last (omega arith) refl),
    λ x number xs e. goes_with _ (like (plan.Ended number ∷ plan.Post x ∷ plan.Drain ∷ rest) _ q q.fits.last (omega arith) refl),
  )
  on_item (plan.Notice key old cause upsert) rest p q = (
    λ e. goes_rest rest (like rest _ q q.fits.last (omega arith) refl),
    λ e. goes_with _ (like (plan.Heard ∷ rest) _ q q.fits.last (omega arith) refl),
  )
  on_item (plan.Post write) rest p q = (
    λ e. goes_rest rest (like rest _ q q.fits.last (omega arith) refl),
    λ e. goes_with _ (like (plan.Turn ∷ plan.Apply ∷ plan.End ∷ plan.Post write ∷ rest) _ q q.fits.last (omega arith) refl),
  )
  on_item plan.Apply rest p q = (λ e. goes_rest rest (like rest _ q q.fits.last (omega arith) refl), λ x xs e. goes_with _ q)
  on_item (plan.Get aim key) rest p q =
      let f = alone (plan.Get aim key) rest q.fits.last q in (
        λ more. goes_with _ p,
        λ none. goes_free (misses_fits _ _ c aim key f) (misses_awaits c aim),
        λ k stored some. goes_free (finds_fits _ _ c aim key k stored f)
            (finds_awaits c aim k stored),
      )
  on_item (plan.Judge aim key stored) rest p q =
      let f = alone (plan.Judge aim key stored) rest q.fits.last q in (
        λ seen. judges aim key stored p f,
        λ unseen. goes_free (unseen_fits _ _ c aim key stored f)
            (misses_awaits c aim),
      )
  on_item (plan.Own sought) rest p q =
      let f = alone (plan.Own sought) rest q.fits.last q in
      let none = no_load (w.desk.owning n) (sym f.owning) in (
        λ able e. claims eq w.desk n owner enough enough_own sought.load none refl refl refl f.waiting,
        λ not e. claims eq w.desk n owner enough enough_own sought.load none refl refl refl f.waiting,
        λ who e. joins_owner eq w.desk n owner enough enough_own sought who e refl none (no_owner (w.desk.joined n) f.waiting),
      )
  on_item (plan.Own_key compute) rest p q =
      let f = alone (plan.Own_key compute) rest q.fits.last q in
      let none = no_load (w.desk.owning n) (sym f.owning) in (
        (
          λ able e. claims eq w.desk n owner enough enough_own (computes_of compute.key) none refl refl refl f.waiting,
          λ not e. claims eq w.desk n owner enough enough_own (computes_of compute.key) none refl refl refl f.waiting,
        ),
        λ who e. joins_key_owner eq w.desk n owner enough enough_own compute who e refl none (no_owner (w.desk.joined n) f.waiting),
      )
  on_item (plan.Own_alone key) rest p q =
      let f = alone (plan.Own_alone key) rest q.fits.last q in
      let none = no_load (w.desk.owning n) (sym f.owning) in (
        (
          λ able e. claims eq w.desk n owner enough enough_own (computes_of key) none refl refl refl f.waiting,
          λ not e. claims eq w.desk n owner enough enough_own (computes_of key) none refl refl refl f.waiting,
        ),
        λ who e. (
          λ able. goes_free (record { last = refl; owning = f.owning; waiting = f.waiting }) refl,
          λ not. goes_free (record { last = refl; owning = f.owning; waiting = f.waiting }) refl,
        ),
      )
  on_item (plan.Read sought) rest p q = (
    λ e. goes_with _ p,
    λ with e. leaves_owner eq w.desk n owner enough enough_own
        (read_fits _ _ c sought with (settlement_ready w.desk n with ready e) (alone (plan.Read sought) rest q.fits.last q)),
  )
  on_item (plan.Read_key compute) rest p q = (
    λ e. goes_with _ p,
    λ with e. leaves_owner eq w.desk n owner enough enough_own
        (read_key_fits _ _ c compute with (settlement_ready w.desk n with ready e)
        (alone (plan.Read_key compute) rest q.fits.last q)),
  )
  on_item (plan.Settle with) rest p q =
      let f : Fits None (w.desk.joined n) rest = record {
        last = q.fits.last;
        owning = omega (arith, q.fits.owning, at_most_one (is_some (w.desk.owning n)));
        waiting = q.fits.waiting;
      } in
      ends_own eq w.desk n owner enough enough_own with (goes_fits _ _ c rest f) (λ o load j a. q.own o load j (sym (goes_awaits c rest) ∙ a))
  on_item (plan.Ask load) rest p q =
      let f = alone (plan.Ask load) rest q.fits.last q in
      goes_free (record { last = refl; owning = f.owning; waiting = f.waiting }) refl
  on_item (plan.Ask_op compute pair) rest p q =
      let f = alone (plan.Ask_op compute pair) rest q.fits.last q in
      goes_free (record { last = refl; owning = f.owning; waiting = f.waiting }) refl
  on_item (plan.Told load) rest p q = (
    λ e. goes_with _ p,
    λ given e. takes_told load given p (alone (plan.Told load) rest q.fits.last q),
  )
  on_item (plan.Told_op compute pair) rest p q = (
    λ e. goes_with _ p,
    λ given e. takes_told_op compute pair given p (alone (plan.Told_op compute pair) rest q.fits.last q),
  )
  on_item (plan.Holds key stamp cause there stored) rest p q =
      let f = alone (plan.Holds key stamp cause there stored) rest q.fits.last q in (
        λ e. goes_free (record { last = refl; owning = f.owning; waiting = f.waiting }) refl,
        λ e. goes_free (keeps_fits _ _ c (sym f.owning) f.waiting) (keeps_awaits c),
      )
  on_item (plan.Moment (plan.To_store key value)) rest p q =
      goes_with _ (like (plan.Write key value w.desk.clock ∷ rest) _ q q.fits.last refl refl)
  on_item (plan.Moment (plan.To_take_out removal key)) rest p q =
      goes_with _ (like (plan.Out removal key ∷ rest) _ q q.fits.last refl refl)
  on_item (plan.Write key value moment) rest p q = (
    λ more. goes_with _ p,
    λ off old. goes_with _ (like (plan.Post _ ∷ rest) _ q q.fits.last refl refl),
    λ on. goes_with _
        (like (plan.Unlock true ∷ plan.Post _ ∷ rest) (plan.Write key value moment ∷ rest)
        q q.fits.last (omega arith) refl),
    λ k old on some. goes_with _
        (like (plan.Notice key old None true ∷ plan.Unlock true ∷ plan.Post _ ∷ rest)
        (plan.Write key value moment ∷ rest) q q.fits.last (omega arith) refl),
  )
  on_item (plan.Out plan.To_invalidate key) rest p q =
      let f = alone (plan.Out plan.To_invalidate key) rest q.fits.last q in (
        (λ more. goes_with _ p),
        (λ off none. goes_free (record { last = refl; owning = f.owning; waiting = f.waiting })
            refl),
        (λ on none. goes_free (record { last = refl; owning = f.owning; waiting = f.waiting })
            refl),
        (λ k old off some. goes_free
            (record { last = refl; owning = f.owning; waiting = f.waiting }) refl),
        λ k old on some. goes_free (record { last = refl; owning = f.owning; waiting = f.waiting })
            refl,
      )
  on_item (plan.Out plan.To_remove key) rest p q =
      let f = alone (plan.Out plan.To_remove key) rest q.fits.last q in (
        (λ more. goes_with _ p),
        (λ off none. goes_free (record { last = refl; owning = f.owning; waiting = f.waiting })
            refl),
        (λ on none. goes_free (record { last = refl; owning = f.owning; waiting = f.waiting })
            refl),
        (λ k old off some. goes_free
            (record { last = refl; owning = f.owning; waiting = f.waiting }) refl),
        λ k old on some. goes_free (record { last = refl; owning = f.owning; waiting = f.waiting })
            refl,
      )
  on_item (plan.Out (plan.To_evict_chosen stamp cause) key) rest p q =
      let f = alone (plan.Out (plan.To_evict_chosen stamp cause) key) rest q.fits.last q in (
        (λ more. goes_with _ p),
        (λ off none. goes_free (record { last = refl; owning = f.owning; waiting = f.waiting })
            refl),
        (λ on none. goes_free (record { last = refl; owning = f.owning; waiting = f.waiting })
            refl),
        (λ k old off some. goes_free
            (record { last = refl; owning = f.owning; waiting = f.waiting }) refl),
        λ k old on some. goes_free (record { last = refl; owning = f.owning; waiting = f.waiting })
            refl,
      )
  on_item (plan.Out (plan.To_remove_as_told own) key) rest p q =
      let f = alone (plan.Out (plan.To_remove_as_told own) key) rest q.fits.last q in (
        (λ more. goes_with _ p),
        (λ off none. goes_free (record { last = refl; owning = f.owning; waiting = f.waiting })
            refl),
        (λ on none. goes_free (record { last = refl; owning = f.owning; waiting = f.waiting })
            refl),
        (λ k old off some. goes_free
            (record { last = refl; owning = f.owning; waiting = f.waiting }) refl),
        λ k old on some. goes_free (record { last = refl; owning = f.owning; waiting = f.waiting })
            refl,
      )
  on_item (plan.List_keys part) rest p q = (
    λ more. goes_with _ p,
    λ listed keys e gives. goes_rest (map plan.Find keys ++ rest)
        (like (map plan.Find keys ++ rest) _ q (finds_last keys rest q.fits.last) (omega (arith, weigh_finds {E = E} owners (λ key. refl) keys rest))
        (finds_await keys rest)),
  )
  on_item (plan.Find key) rest p q = (
    λ more. goes_with _ p,
    λ none. goes_rest rest (like rest _ q q.fits.last (omega arith) refl),
    λ k stored some none. goes_with _ (like (plan.Scan k stored ∷ rest) _ q q.fits.last (omega arith) refl),
    λ k stored ids some is. goes_with _ (like (plan.Strike k stored ∷ rest) _ q q.fits.last (omega arith) refl),
  )
  on_item (plan.Scan there stored) rest p q = (
    λ seen. goes_with _ (like rest _ q q.fits.last (omega arith) refl),
    λ unseen. goes_rest rest (like rest _ q q.fits.last (omega arith) refl),
  )
  on_item (plan.Register test) rest p q =
      let f = alone (plan.Register test) rest q.fits.last q in
      goes_free (record { last = tt; owning = omega (arith, f.owning); waiting = f.waiting }) refl
  on_item (plan.Candidates parts) rest p q =
      let f = alone (plan.Candidates parts) rest q.fits.last q in (
        λ none. goes_free (record { last = tt; owning = omega (arith, f.owning); waiting = f.waiting }) refl,
        λ id more some.
            let lists : List (Item K V E) = lists_from 0 parts (plan.Retire ∷ []) in
            let walk : IsWalk lists = retiring_walk parts in
            goes_free
            (goes_fits _ _ (carrying c (id ∷ more)) lists (record {
              last = walk_last lists walk;
              owning = omega (arith, f.owning, weigh_retiring {K = K} {V = V} {E = E} owners (λ part. refl) refl parts);
              waiting = f.waiting ∙ sym (ap is_some (walk_awaits lists walk));
            }))
            (goes_awaits (carrying c (id ∷ more)) lists ∙ walk_awaits lists walk),
      )
  on_item (plan.Strike there stored) rest p q = goes_as (carrying c _) rest (like rest _ q q.fits.last (omega arith) refl)
  on_item plan.Retire rest p q =
      let f = alone plan.Retire rest q.fits.last q in
      goes_free (record { last = tt; owning = omega (arith, f.owning); waiting = f.waiting }) refl
  on_item (plan.Reply answer) rest p q =
      let f = alone (plan.Reply answer) rest q.fits.last q in
      goes_free (record { last = tt; owning = omega (arith, f.owning); waiting = f.waiting }) refl
  on_item item rest p q = passes_by eq Leaves w n c item rest tt
      (λ d a. rw (a.owners, a.owning, a.joined, a.readers, a.settled, a.last)
      (goes_rest rest (like rest _ q q.fits.last (omega arith) refl)))
      (goes_with _ p)

  pub on_plan : (plan : List (Item K V E)) → c.plan ≡ plan → Fits {E = E} (w.desk.owning n) (w.desk.joined n) c.plan →
      ((o : ℕ) (load : Load K) → w.desk.joined n ≡ Some o → awaited c.plan ≡ Some load → Answered eq w.desk.owning w.desk.settled o load) →
      OnStep eq Leaves w n c plan
  on_plan [] e f own = goes_with _ (record { fits = f; own = own })
  on_plan (item ∷ rest) e f own =
      let p : Plans c.plan = record { fits = f; own = own } in
      outcomes eq Leaves w n c item rest (on_item item rest p (subst Plans e p))
