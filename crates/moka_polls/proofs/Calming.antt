-- A whole poll leaves a calm cache calm.
use Rattle.std.proofs.Common.{◌≡◌, ◌+◌, ◌==◌, ℕ, Bool, true, false, cond, List, [], ◌∷◌, ◌++◌, map, Option, Some, None, refl, sym, ap, ◌∙◌, subst, inl, zero, suc}
use Rattle.std.proofs.lemmas.Bool.{false≢true}
use Rattle.moka_hist.specs.Visits.{registering}
use Rattle.moka_hist.specs.Invalidating.{registering_answer}
use Rattle.moka_hist.specs.State.{World, Call, DeskPart, TablePart}
use Rattle.moka_hist.specs.Plan.{Item, Aim, Change, Removal, is_disabled, load_rest, loaded, put, take_out, told_on, lists_from, pending_plan}
use Rattle.moka_hist.specs.Plan as plan
use Rattle.moka_hist.specs.Next.{Next, goes, waits, gives, asks, answers}
use Rattle.moka_hist.specs.Looking.{misses, hits, shown, finds_pair, chosen_or_not, kept_rest}
use Rattle.moka_hist.specs.Loading.{after_read, after_told, retries}
use Rattle.moka_hist.specs.Computing.{after_read_key, after_told_op, end_compute, put_told}
use Rattle.moka_hist.specs.Writing.{nothing_answer, removed_answer, said}
use Rattle.moka_hist.specs.Entries.{unchanged}
use Rattle.moka_hist.specs.declared.accesses.Turn.TheVariants as turn
use Rattle.moka_hist.specs.declared.events.Told.{Told}
use Rattle.moka_hist.specs.declared.events.Told.TheVariants as told
use Rattle.moka_hist.specs.declared.events.Op.TheVariants as op
use Rattle.moka_hist.specs.declared.loads.Compute.{Compute}
use Rattle.moka_hist.specs.declared.loads.Load.{Load}
use Rattle.moka_hist.specs.declared.loads.Sought.{Sought}
use Rattle.moka_hist.specs.declared.records.Mode.{Mode}
use Rattle.moka_hist.specs.declared.records.Mode.TheVariants as mode
use Rattle.moka_hist.specs.declared.records.Stored.{Stored}
use Rattle.moka_hist.specs.declared.replies.Answer.{Answer}
use Rattle.moka_hist.specs.declared.replies.Answer.TheVariants as answer
use Rattle.moka_hist.specs.declared.replies.Ask.{Ask}
use Rattle.moka_hist.specs.declared.replies.Ask.TheVariants as ask
use Rattle.moka_hist.specs.declared.rules.Rules.{Rules}
use Rattle.moka_hist.specs.declared.rules.Cause.{Cause}
use Rattle.moka_hist.specs.declared.visits.Found.TheVariants as found
use Rattle.moka_hist.specs.declared.visits.Settled.{Settled}
use Rattle.moka_hist.specs.declared.visits.Settled.TheVariants as settled
use Rattle.moka_hist.specs.declared.writes.Write.{Write}
use Rattle.moka_hist.specs.declared.writes.Write.TheVariants.{Upsert, Remove}
use Rattle.moka_laws.proofs.Counting.{some_same}
use Rattle.moka_laws.proofs.StepCases.{OnStep, more_step}
use Rattle.moka_laws.proofs.Outcomes.{Outcomes, OwnsKey, alone_of, outcomes}
use Rattle.moka_polls.specs.Calm.{IsApart, HoldsNothing, IsAtRest}
use Rattle.moka_polls.proofs.Phases.{Comes, Goes, along, on, stops}
use Rattle.moka_polls.proofs.Posting.{Posts, Posting, posts_steps}
use Rattle.moka_polls.proofs.Putting.{plain_put}
use Rattle.moka_polls.proofs.Removing.{plain_take_out}
use Rattle.moka_hist.specs.Maintenance.{carrying}
use Rattle.moka_hist.specs.declared.writes.Owed.{Owed}
use Rattle.std.specs.Option.{option_map_or}

module _ {K V E : Type 0} where
  -- what calls store, take out, and say at the end holds nothing, where no listener is set
  pub put_holds : (rules : Rules) (key : K) (value : V) (rest : List (Item K V E)) →
      rules.listener ≡ false → HoldsNothing rest → HoldsNothing (put rules key value rest)
  put_holds rules key value rest unheard h =
      plain_put HoldsNothing rules key value rest unheard (tt, (tt, h))

  -- so do the lists of parts, and the looks for listed keys
  lists_hold : (rest : List (Item K V E)) → HoldsNothing rest → (part left : ℕ) → HoldsNothing (lists_from part left rest)
  lists_hold rest h part zero = h
  lists_hold rest h part (suc left) = (tt, lists_hold rest h (part + 1) left)

  finds_hold : (keys : List K) (rest : List (Item K V E)) → HoldsNothing rest →
      HoldsNothing (map plan.Find keys ++ rest)
  finds_hold [] rest h = h
  finds_hold (key ∷ keys) rest h = (tt, finds_hold keys rest h)

  said_holds : (removal : Removal K) (a : Answer K V E) → HoldsNothing (said removal a)
  said_holds plan.To_invalidate a = (tt, tt)
  said_holds plan.To_remove a = (tt, tt)
  said_holds (plan.To_evict_chosen stamp cause) a = (tt, tt)
  said_holds (plan.To_remove_as_told key) a = (tt, (tt, tt))

  put_told_holds : (b : Bool) (c : Call K V E) (key : K) (pair : Option (K × V)) (value : V) →
      c.rules.listener ≡ false → HoldsNothing (put_told b c key pair value)
  put_told_holds true c key pair value unheard = (tt, (tt, tt))
  put_told_holds false c key pair value unheard =
      put_holds c.rules key value (end_compute _) unheard (tt, (tt, tt))

pub take_out_holds : {K : Type 0} (V E : Type 0) (rules : Rules) (removal : Removal K) (key : K) →
    rules.listener ≡ false → HoldsNothing (take_out {V = V} {E = E} rules removal key)
take_out_holds V E rules removal key unheard =
    plain_take_out (HoldsNothing {V = V} {E = E}) rules removal key unheard (tt, (tt, tt))

loaded_holds : {K V : Type 0} (E : Type 0) (b : Bool) (rules : Rules) (key : K) (value : V) →
    rules.listener ≡ false → HoldsNothing (load_rest {E = E} b rules key value)
loaded_holds E true rules key value unheard = (tt, (tt, tt))
loaded_holds E false rules key value unheard =
    put_holds rules key value (told_on {E = E} value) unheard (tt, (tt, tt))

some_owed : (x : Owed) (xs : List Owed) → [] ≡ x ∷ xs → ⊥
some_owed x xs e = cc

module _ {K V E : Type 0} (eq : K → K → Bool) (n : ℕ) (rules : Rules)
    (unheard : rules.listener ≡ false) where
  -- the desk is of these rules, nobody has the turn, and no write is owed
  pub record Still (w : World K V E) : Type 0 where
    pub of_these : w.desk.rules ≡ rules
    pub free : w.desk.turn ≡ None
    pub owes : w.desk.owed ≡ []

  -- the turn is with this call, and nothing else has changed
  pub record Turned (w : World K V E) : Type 0 where
    pub of_these : w.desk.rules ≡ rules
    pub owes : w.desk.owed ≡ []

  pub data Maintaining (parts : ℕ) (w : World K V E) : List (Item K V E) → Type 0 where
    Gathering : Still w → Maintaining parts w (pending_plan false parts)
    Turning : Still w → Maintaining parts w (plan.Turn ∷ plan.Apply ∷ plan.End ∷ plan.Candidates parts ∷ [])
    Applying : Turned w → Maintaining parts w (plan.Apply ∷ plan.End ∷ plan.Candidates parts ∷ [])
    Ending : Turned w → Maintaining parts w (plan.End ∷ plan.Candidates parts ∷ [])

  -- the call holds nothing, or is about its own write and holds nothing after that
  pub data Plans (w : World K V E) : List (Item K V E) → Type 0 where
    Rests : (p : List (Item K V E)) → HoldsNothing p → w.desk.rules ≡ rules →
        w.desk.turn ≡ None → w.desk.owed ≡ [] → Plans w p
    -- maintenance takes up nothing, takes the turn, applies the log, and ends the turn
    Maintains : (parts : ℕ) (p : List (Item K V E)) → Maintaining parts w p → Plans w p
    Posted : (t : TablePart K V) (d : DeskPart K V E) (write : Write) (rest : List (Item K V E)) →
        HoldsNothing rest → d.rules ≡ rules → d.turn ≡ None → d.owed ≡ [] →
        (p : List (Item K V E)) → Posts t d n write rest w p → Plans w p

  abbrev pub Phase : World K V E → Call K V E → Type 0
  Phase w b = (b.rules ≡ rules) × Plans w b.plan

  -- the poll has ended, and left the cache calm
  pub record Fin (w : World K V E) (next : Next K V E) : Type 0 where
    pub still : Still w
    pub rest : (b : Call K V E) → next.left ≡ Some b → IsAtRest rules b

  -- ---- how the call goes on

  goes_on : (w : World K V E) (b : Call K V E) (m : Mode) (p rest : List (Item K V E)) →
      HoldsNothing rest → Still w → Goes b Plans Fin w (goes (along b m p) rest)
  goes_on w b m p (plan.Reply a ∷ []) h still =
      stops b Plans Fin w _ (λ f. cc) (record { still = still; rest = λ d e. absurd (cc) })
  goes_on w b m p (plan.Reply a ∷ x ∷ rest) h still =
      on b Plans Fin w mode.Mid _ (Rests _ h still.of_these still.free still.owes)
  goes_on w b m p [] h still =
      on b Plans Fin w mode.Mid _ (Rests _ h still.of_these still.free still.owes)
  goes_on w b m p (item ∷ rest) h still =
      on b Plans Fin w mode.Mid _ (Rests _ h still.of_these still.free still.owes)

  comes : (b : Call K V E) → b.rules ≡ rules → (w : World K V E) (next : Next K V E) →
      Goes b Plans Fin w next → Comes Phase Fin w next
  comes b these w next g = record {
    going = λ e. let d = g.going e in (along b d.0 d.1, d.2, (these, d.3));
    ends = g.ends;
  }

  go : (w : World K V E) (b : Call K V E) (rest : List (Item K V E)) → b.rules ≡ rules →
      HoldsNothing rest → Still w → Comes Phase Fin w (goes b rest)
  go w b rest these h still = comes b these w _ (goes_on w b b.mode b.plan rest h still)

  -- its table operation stays undecided
  undecided : (w : World K V E) (b : Call K V E) → b.rules ≡ rules → HoldsNothing b.plan →
      Still w → Comes Phase Fin w
      (record { left = Some (record b { mode = mode.Mid }); turn = turn.Going })
  undecided w b these h still = comes b these w _
      (on b Plans Fin w mode.Mid b.plan (Rests _ h still.of_these still.free still.owes))

  -- it is about to post its write
  posts : (w : World K V E) (b : Call K V E) (write : Write) (rest : List (Item K V E)) →
      b.rules ≡ rules → HoldsNothing rest → Still w →
      Comes Phase Fin w (goes b (plan.Post write ∷ rest))
  posts w b write rest these h still = comes b these w _ (on b Plans Fin w mode.Mid _
      (Posted w.table w.desk write rest h still.of_these still.free still.owes _
      (Posting (record { table = refl; desk = refl }))))

  parks : (w : World K V E) (b : Call K V E) → b.rules ≡ rules → HoldsNothing b.plan → Still w →
      Comes Phase Fin w (waits b)
  parks w b these h still = comes b these w _ (stops b Plans Fin w _ (λ f. cc) (record {
    still = still;
    rest = λ d e. subst (IsAtRest rules) (some_same e)
        (record { rules = these; mode = λ f. cc; plan = inl h });
  }))

  asks_so : (w : World K V E) (b : Call K V E) (asked : Ask K V) (rest : List (Item K V E)) →
      b.rules ≡ rules → HoldsNothing rest → Still w → Comes Phase Fin w (asks b asked rest)
  asks_so w b asked rest these h still = comes b these w _ (stops b Plans Fin w _ (λ f. cc) (record {
    still = still;
    rest = λ d e. subst (IsAtRest rules) (some_same e)
        (record { rules = these; mode = λ f. cc; plan = inl h });
  }))

  -- it gives a record
  gives_so : (w : World K V E) (b : Call K V E) (key : K) (value : V) (rest : List (Item K V E)) →
      b.rules ≡ rules → HoldsNothing rest → Still w → Comes Phase Fin w (gives b key value rest)
  gives_so w b key value rest these h still = comes b these w _ (stops b Plans Fin w _ (λ f. cc) (record {
    still = still;
    rest = λ d e. subst (IsAtRest rules) (some_same e)
        (record { rules = these; mode = λ f. cc; plan = inl h });
  }))

  replies : (w : World K V E) (b : Call K V E) (a : Answer K V E) → b.rules ≡ rules → Still w →
      Comes Phase Fin w (answers a)
  replies w b a these still = go w b (plan.Reply a ∷ []) these (tt, tt) still

  -- it goes on with one such item
  to : (w : World K V E) (b : Call K V E) (item : Item K V E) → b.rules ≡ rules → IsApart item →
      Still w → Comes Phase Fin w (goes b (item ∷ []))
  to w b item these i still = go w b (item ∷ []) these (i, tt) still

  -- it is to tell those that wait for it, and to answer
  ends_so : (w : World K V E) (b : Call K V E) (with : Settled V E) (a : Answer K V E) →
      b.rules ≡ rules → Still w → Comes Phase Fin w (goes b (plan.Settle with ∷ plan.Reply a ∷ []))
  ends_so w b with a these still =
      go w b (plan.Settle with ∷ plan.Reply a ∷ []) these (tt, (tt, tt)) still

  -- it drains, and goes on with one such item
  drains_to : (w : World K V E) (b : Call K V E) (item : Item K V E) → b.rules ≡ rules →
      IsApart item → Still w → Comes Phase Fin w (goes b (plan.Drain ∷ item ∷ []))
  drains_to w b item these i still = go w b (plan.Drain ∷ item ∷ []) these (tt, (i, tt)) still

  quiet_call : (b : Call K V E) → b.rules ≡ rules → b.rules.listener ≡ false
  quiet_call b these = ap (λ v. v.listener) these ∙ unheard

  -- ---- what follows from what the call found

  keeps_it : (w : World K V E) (b : Call K V E) → b.rules ≡ rules → Still w →
      Comes Phase Fin w (goes b (kept_rest b.rules.listener))
  keeps_it w b these still = go w b (kept_rest b.rules.listener) these
      (subst (λ l. HoldsNothing (kept_rest {K = K} {V = V} {E = E} l)) (sym (quiet_call b these)) (tt, tt)) still

  missed : (w : World K V E) (b : Call K V E) (aim : Aim K V) → b.rules ≡ rules → Still w →
      Comes Phase Fin w (misses b aim)
  missed w b (plan.To_show form) these still = replies w b (shown form None) these still
  missed w b (plan.To_load sought) these still = to w b (plan.Own sought) these tt still
  missed w b (plan.To_own sought) these still = to w b (plan.Ask sought.load) these tt still
  missed w b (plan.To_insert key value) these still = go w b
      (put b.rules key value (plan.Reply (answer.Loaded value true) ∷ [])) these
      (put_holds b.rules key value (plan.Reply (answer.Loaded value true) ∷ [])
      (quiet_call b these) (tt, tt)) still
  missed w b (plan.To_compute compute) these still = to w b (plan.Ask_op compute None) these tt still
  missed w b (plan.To_evict key stamp cause) these still = keeps_it w b these still

  chose : (w : World K V E) (b : Call K V E) (is : Bool) (key : K) (stamp : ℕ) (cause : Cause)
      (there : K) (found : Stored V) → b.rules ≡ rules → Still w →
      Comes Phase Fin w (chosen_or_not b is key stamp cause there found)
  chose w b true key stamp cause there found these still =
      to w b (plan.Holds key stamp cause there found) these tt still
  chose w b false key stamp cause there found these still = keeps_it w b these still

  saw : (w : World K V E) (b : Call K V E) (aim : Aim K V) (there : K) (found : Stored V) →
      b.rules ≡ rules → Still w → Comes Phase Fin w (finds_pair b aim there found)
  saw w b (plan.To_show form) there found these still =
      to w b (plan.Judge (plan.To_show form) there found) these tt still
  saw w b (plan.To_load sought) there found these still =
      to w b (plan.Judge (plan.To_load sought) there found) these tt still
  saw w b (plan.To_own sought) there found these still =
      to w b (plan.Judge (plan.To_own sought) there found) these tt still
  saw w b (plan.To_insert key value) there found these still =
      to w b (plan.Judge (plan.To_insert key value) there found) these tt still
  saw w b (plan.To_compute compute) there found these still =
      to w b (plan.Judge (plan.To_compute compute) there found) these tt still
  saw w b (plan.To_evict key stamp cause) there found these still =
      chose w b (found.stamp == stamp) key stamp cause there found these still

  hit : (w : World K V E) (b : Call K V E) (aim : Aim K V) (there : K) (value : V) →
      b.rules ≡ rules → HoldsNothing b.plan → Still w → Comes Phase Fin w (hits b aim there value)
  hit w b (plan.To_show form) there value these h still =
      replies w b (shown form (Some (there, value))) these still
  hit w b (plan.To_load sought) there value these h still =
      replies w b (answer.Loaded value false) these still
  hit w b (plan.To_own sought) there value these h still =
      ends_so w b (settled.Ready value) (answer.Loaded value false) these still
  hit w b (plan.To_insert key unused) there value these h still =
      replies w b (answer.Loaded value false) these still
  hit w b (plan.To_compute compute) there value these h still =
      to w b (plan.Ask_op compute (Some (there, value))) these tt still
  hit w b (plan.To_evict key stamp cause) there value these h still = parks w b these h still

  -- the owner was dropped
  aborted : (w : World K V E) (b : Call K V E) (sought : Sought K) (last : Bool) →
      b.rules ≡ rules → Still w → Comes Phase Fin w (cond last (answers answer.RetriesExhausted)
      (goes (record b { aborts = b.aborts + 1 }) (plan.Own sought ∷ [])))
  aborted w b sought true these still = replies w b answer.RetriesExhausted these still
  aborted w b sought false these still =
      go w (record b { aborts = b.aborts + 1 }) (plan.Own sought ∷ []) these (tt, tt) still

  reads : (w : World K V E) (b : Call K V E) (sought : Sought K) (with : Settled V E) →
      b.rules ≡ rules → HoldsNothing b.plan → Still w →
      Comes Phase Fin w (after_read b sought (found.ReadSettled with))
  reads w b sought (settled.Ready value) these h still =
      replies w b (answer.Loaded value false) these still
  reads w b sought (settled.Err error) these h still = replies w b (answer.InitErr error) these still
  reads w b sought settled.Nothing these h still = replies w b answer.Nothing these still
  reads w b sought settled.Aborted these h still =
      aborted w b sought (b.aborts + 1 == retries) these still
  reads w b sought settled.NotYet these h still = parks w b these h still

  reads_key : (w : World K V E) (b : Call K V E) (compute : Compute K) (with : Settled V E) →
      b.rules ≡ rules → HoldsNothing b.plan → Still w →
      Comes Phase Fin w (after_read_key b compute (found.ReadSettled with))
  reads_key w b compute (settled.Ready value) these h still =
      to w b (plan.Own_key compute) these tt still
  reads_key w b compute (settled.Err error) these h still =
      to w b (plan.Own_key compute) these tt still
  reads_key w b compute settled.Nothing these h still =
      to w b (plan.Own_key compute) these tt still
  reads_key w b compute settled.Aborted these h still =
      to w b (plan.Own_key compute) these tt still
  reads_key w b compute settled.NotYet these h still = parks w b these h still

  was_told : (w : World K V E) (b : Call K V E) (load : Load K) (given : Told V E) →
      b.rules ≡ rules → HoldsNothing b.plan → Still w →
      Comes Phase Fin w (after_told b load (found.TakeTold (Some given)))
  was_told w b load (told.Value value) these h still = go w b (loaded b.rules load value) these
      (loaded_holds E (is_disabled b.rules) b.rules load.key value (quiet_call b these)) still
  was_told w b load (told.Err error) these h still =
      ends_so w b (settled.Err error) (answer.InitErr error) these still
  was_told w b load told.Nothing these h still =
      ends_so w b settled.Nothing answer.Nothing these still
  was_told w b load (told.Op operation) these h still = parks w b these h still
  was_told w b load told.Done these h still = parks w b these h still
  was_told w b load told.Off these h still = parks w b these h still

  was_told_op : (w : World K V E) (b : Call K V E) (compute : Compute K) (pair : Option (K × V))
      (given : Told V E) → b.rules ≡ rules → HoldsNothing b.plan → Still w →
      Comes Phase Fin w (after_told_op b compute pair (found.TakeTold (Some given)))
  was_told_op w b compute pair (told.Op op.Nop) these h still =
      ends_so w b settled.Nothing (unchanged compute.key pair) these still
  was_told_op w b compute pair (told.Op (op.Put value)) these h still = go w b
      (put_told (is_disabled b.rules) b compute.key pair value) these
      (put_told_holds (is_disabled b.rules) b compute.key pair value (quiet_call b these)) still
  was_told_op w b compute pair (told.Op op.Remove) these h still = go w b
      (take_out b.rules (plan.To_remove_as_told compute.key) compute.key) these
      (take_out_holds V E b.rules (plan.To_remove_as_told compute.key) compute.key (quiet_call b these))
      still
  was_told_op w b compute pair (told.Value value) these h still = go w b
      (put_told (is_disabled b.rules) b compute.key pair value) these
      (put_told_holds (is_disabled b.rules) b compute.key pair value (quiet_call b these)) still
  was_told_op w b compute pair (told.Err error) these h still =
      ends_so w b settled.Nothing (answer.ComputeErr error) these still
  was_told_op w b compute pair told.Nothing these h still = parks w b these h still
  was_told_op w b compute pair told.Done these h still = parks w b these h still
  was_told_op w b compute pair told.Off these h still = parks w b these h still

  -- ---- each item

  -- what the visits of a call that holds nothing leave: nobody has the turn, and no write is owed
  same : (w v : World K V E) → v.desk.rules ≡ w.desk.rules → v.desk.turn ≡ w.desk.turn →
      v.desk.owed ≡ w.desk.owed → Still w → Still v
  same w v these turn owed still = record {
    of_these = these ∙ still.of_these;
    free = turn ∙ still.free;
    owes = owed ∙ still.owes;
  }

  owns_key : (w : World K V E) (b : Call K V E) (compute : Compute K) → b.rules ≡ rules →
      Still w → OwnsKey eq (Comes Phase Fin) w n b compute
  owns_key w b compute these still = (
    λ able none. drains_to _ b (plan.Get (plan.To_compute compute) compute.key) these tt
        (same w _ refl refl refl still),
    λ disabled none. drains_to _ b (plan.Ask_op compute None) these tt
        (same w _ refl refl refl still),
  )

  item_steps : (w : World K V E) (b : Call K V E) (item : Item K V E) (rest : List (Item K V E)) →
      b.rules ≡ rules → HoldsNothing b.plan → IsApart item → HoldsNothing rest → Still w →
      Outcomes eq (Comes Phase Fin) w n b item rest
  item_steps w b plan.Drain rest these p i h still = (
    λ e. go w b rest these h still,
    λ x xs e. absurd (cc (still.owes)),
    λ x number xs e. absurd (cc (still.owes)),
  )
  item_steps w b (plan.Get aim key) rest these p i h still = (
    λ more. undecided _ b these p (same w _ refl refl refl still),
    λ none. missed _ b aim these (same w _ refl refl refl still),
    λ there found some. saw _ b aim there found these (same w _ refl refl refl still),
  )
  item_steps w b (plan.Judge aim key stored) rest these p i h still = (
    λ sees. hit _ b aim key stored.value these p (same w _ refl refl refl still),
    λ unseen. missed _ b aim these (same w _ refl refl refl still),
  )
  item_steps w b (plan.Own sought) rest these p i h still = (
    λ able none. to _ b (plan.Get (plan.To_own sought) sought.load.key) these tt
        (same w _ refl refl refl still),
    λ disabled none. to _ b (plan.Ask sought.load) these tt (same w _ refl refl refl still),
    λ owner some. to _ b (plan.Read sought) these tt (same w _ refl refl refl still),
  )
  item_steps w b (plan.Read sought) rest these p i h still = (
    λ none. parks w b these p still,
    λ with some. reads _ b sought with these p (same w _ refl refl refl still),
  )
  item_steps w b (plan.Settle with) rest these p i h still =
      go _ b rest these h (same w _ refl refl refl still)
  item_steps w b (plan.Ask load) rest these p i h still =
      asks_so _ b ask.Init (plan.Told load ∷ []) these (tt, tt) (same w _ refl refl refl still)
  item_steps w b (plan.Told load) rest these p i h still = (
    λ none. parks w b these p still,
    λ given some. was_told _ b load given these p (same w _ refl refl refl still),
  )
  item_steps w b (plan.Own_key compute) rest these p i h still = (
    owns_key w b compute these still,
    λ owner some. to _ b (plan.Read_key compute) these tt (same w _ refl refl refl still),
  )
  item_steps w b (plan.Own_alone key) rest these p i h still = (
    owns_key w b (alone_of key) these still,
    λ owner some. (
      λ able. drains_to w b (plan.Get (plan.To_show (plan.As_report key)) key) these tt still,
      λ disabled. drains_to w b (plan.Reply (unchanged key None)) these tt still,
    ),
  )
  item_steps w b (plan.Read_key compute) rest these p i h still = (
    λ none. parks w b these p still,
    λ with some. reads_key _ b compute with these p (same w _ refl refl refl still),
  )
  item_steps w b (plan.Ask_op compute pair) rest these p i h still =
      asks_so _ b (ask.Compute pair) (plan.Told_op compute pair ∷ []) these (tt, tt)
      (same w _ refl refl refl still)
  item_steps w b (plan.Told_op compute pair) rest these p i h still = (
    λ none. parks w b these p still,
    λ given some. was_told_op _ b compute pair given these p (same w _ refl refl refl still),
  )
  item_steps w b (plan.Holds key stamp cause there stored) rest these p i h still = (
    λ leaves. to w b (plan.Moment (plan.To_take_out (plan.To_evict_chosen stamp cause) key)) these
        tt still,
    λ remains. keeps_it w b these still,
  )
  item_steps w b (plan.Moment (plan.To_store key value)) rest these p i h still =
      go _ b (plan.Write key value w.desk.clock ∷ rest) these (tt, h)
      (same w _ refl refl refl still)
  item_steps w b (plan.Moment (plan.To_take_out removal key)) rest these p i h still =
      go _ b (plan.Out removal key ∷ rest) these (tt, h) (same w _ refl refl refl still)
  item_steps w b (plan.Write key value moment) rest these p i h still = (
    λ more. undecided _ b these p (same w _ refl refl refl still),
    λ off old. posts _ b (Upsert n old) rest these h (same w _ refl refl refl still),
    λ on. absurd (false≢true (sym (quiet_call b these) ∙ on)),
    λ k old on some. absurd (false≢true (sym (quiet_call b these) ∙ on)),
  )
  item_steps w b (plan.Out removal key) rest these p i h still = (
    λ more. undecided _ b these p (same w _ refl refl refl still),
    λ off none. go _ b (plan.Idle ∷ said removal (nothing_answer removal)) these
        (tt, said_holds removal (nothing_answer removal)) (same w _ refl refl refl still),
    λ on none. absurd (false≢true (sym (quiet_call b these) ∙ on)),
    λ k old off some. posts _ b (Remove n old.stamp)
        (said removal (removed_answer removal old.value)) these
        (said_holds removal (removed_answer removal old.value)) (same w _ refl refl refl still),
    λ k old on some. absurd (false≢true (sym (quiet_call b these) ∙ on)),
  )
  item_steps w b plan.Idle rest these p i h still =
      go _ b rest these h (same w _ refl refl refl still)
  item_steps w b plan.Invalidate_all rest these p i h still =
      go _ b rest these h (same w _ refl refl refl still)
  item_steps w b (plan.Register test) rest these p i h still =
      replies _ b (registering_answer (registering w.desk)) these (same w _ refl refl refl still)
  item_steps w b (plan.List_keys part) rest these p i h still = (
    λ more. undecided _ b these p (same w _ refl refl refl still),
    λ listed keys is given. go _ b (map plan.Find keys ++ rest) these (finds_hold keys rest h)
        (same w _ refl refl refl still),
  )
  item_steps w b (plan.Find key) rest these p i h still = (
    λ more. undecided _ b these p (same w _ refl refl refl still),
    λ none. go _ b rest these h (same w _ refl refl refl still),
    λ there stored some none. go _ b (plan.Scan there stored ∷ rest) these (tt, h)
        (same w _ refl refl refl still),
    λ there stored ids some is. go _ b (plan.Strike there stored ∷ rest) these (tt, h)
        (same w _ refl refl refl still),
  )
  item_steps w b (plan.Scan there stored) rest these p i h still =
      (λ seen. gives_so w b there stored.value rest these h still, λ unseen. go w b rest these h still)
  item_steps w b (plan.Candidates parts) rest these p i h still = (
    λ none. replies w b answer.Done these still,
    λ id more some. go w (carrying b (id ∷ more)) (lists_from 0 parts (plan.Retire ∷ [])) these
        (lists_hold (plan.Retire ∷ []) (tt, tt) 0 parts) still,
  )
  item_steps w b (plan.Strike there stored) rest these p i h still = go w (carrying b _) rest these h still
  item_steps w b plan.Retire rest these p i h still = replies _ b answer.Done these (same w _ refl refl refl still)
  item_steps w b (plan.Reply a) rest these p i h still =
      replies _ b a these (same w _ refl refl refl still)
  item_steps w b _ rest these p i h still = absurd i

  -- ---- the poll

  at_rest : (w : World K V E) (b : Call K V E) (p : List (Item K V E)) → b.plan ≡ p →
      b.rules ≡ rules → HoldsNothing p → Still w → OnStep eq (Comes Phase Fin) w n b p
  at_rest w b [] e these h still =
      parks _ b these (subst HoldsNothing (sym e) h) (same w _ refl refl refl still)
  at_rest w b (item ∷ rest) e these h still =
      outcomes eq (Comes Phase Fin) w n b item rest
      (item_steps w b item rest these (subst HoldsNothing (sym e) h) h.0 h.1 still)

  -- the call goes on in such a phase
  moves : (w : World K V E) (b : Call K V E) (p : List (Item K V E)) → b.rules ≡ rules → Plans w p →
      Comes Phase Fin w (record { left = Some (record b { mode = mode.Mid; plan = p }); turn = turn.Going })
  moves w b p these i = record { going = λ e. (_, refl, (these, i)); ends = λ h. absurd (h refl) }

  maintains : (w : World K V E) (b : Call K V E) (parts : ℕ) (p : List (Item K V E)) → b.rules ≡ rules → Maintaining parts w p →
      OnStep eq (Comes Phase Fin) w n b p
  maintains w b parts p these (Gathering still) =
      outcomes eq (Comes Phase Fin) w n b plan.Drain (plan.Turn ∷ plan.Apply ∷ plan.End ∷ plan.Candidates parts ∷ []) (
        λ none. moves w b _ these (Maintains parts _ (Turning still)),
        λ x xs some. absurd (some_owed _ xs (sym still.owes ∙ some)),
        λ x number xs some. absurd (some_owed _ xs (sym still.owes ∙ some)),
      )
  maintains w b parts p these (Turning still) =
      outcomes eq (Comes Phase Fin) w n b plan.Turn (plan.Apply ∷ plan.End ∷ plan.Candidates parts ∷ []) (
        λ free. moves _ b _ these (Maintains parts _ (Applying (record { of_these = still.of_these; owes = still.owes }))),
        λ taken. absurd (false≢true (sym taken ∙ ap (λ o. option_map_or (λ h. h == n) o true) still.free)),
      )
  maintains w b parts p these (Applying t) =
      outcomes eq (Comes Phase Fin) w n b plan.Apply (plan.End ∷ plan.Candidates parts ∷ []) (
        λ empty. moves w b _ these (Maintains parts _ (Ending t)),
        λ x xs more. moves _ b _ these (Maintains parts _ (Applying (record { of_these = t.of_these; owes = t.owes }))),
      )
  maintains w b parts p these (Ending t) =
      outcomes eq (Comes Phase Fin) w n b plan.End (plan.Candidates parts ∷ [])
      (go _ b (plan.Candidates parts ∷ []) these (tt, tt) (record { of_these = t.of_these; free = refl; owes = t.owes }))

  steps_of : (w : World K V E) (b : Call K V E) (p : List (Item K V E)) → b.plan ≡ p →
      b.rules ≡ rules → Plans w p → OnStep eq (Comes Phase Fin) w n b p
  steps_of w b p e these (Rests q h r f o) =
      at_rest w b p e these h (record { of_these = r; free = f; owes = o })
  steps_of w b p e these (Maintains parts q i) = maintains w b parts p these i
  steps_of w b p e these (Posted t d write rest h r f o q i) =
      more_step eq (Goes b Plans Fin) (Comes Phase Fin) (comes b these) w n b p
      (subst (λ x. OnStep eq (Goes b Plans Fin) w n x p) (sym (ap (λ x. along b b.mode x) e))
      (posts_steps eq n b Plans Fin t d f write rest
      (λ v x j. Posted t d write rest h r f o x j)
      (λ v m x at. goes_on v b m x rest h (record {
        of_these = ap (λ y. y.rules) at.desk ∙ r;
        free = ap (λ y. y.turn) at.desk ∙ f;
        owes = ap (λ y. y.owed) at.desk ∙ o;
      })) w b.mode p i))

  pub calm_steps : (w : World K V E) (b : Call K V E) → Phase w b →
      OnStep eq (Comes Phase Fin) w n b b.plan
  calm_steps w b i = steps_of w b b.plan refl i.0 i.1
