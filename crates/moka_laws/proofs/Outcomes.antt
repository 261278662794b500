-- What a step may make, item by item.
use Rattle.std.specs.Option.{option_map, option_map_or}
use Rattle.std.proofs.Common.{append-nil, ◌<◌, ◌≡◌, ℕ, suc, Bool, true, false, cond, nat_lt, not, ◌==◌, List, [], ◌∷◌, ◌++◌, map, length, drop, take, Option, Some, None, is_some, unwrap_or, refl, sym, ap, ◌∙◌, subst, arith}
use Rattle.std.proofs.lemmas.Bool.{eqb-true}
use Rattle.std.proofs.lemmas.Bool.Decides.{nat_tests}
use Rattle.moka_hist.specs.Finite.{put_at}
use Rattle.moka_hist.specs.State.{Call, Listed, TablePart, World, DeskPart}
use Rattle.moka_hist.specs.Plan.{Item, Aim, Change, Removal, lists_from, look, is_disabled}
use Rattle.moka_hist.specs.Plan as plan
use Rattle.moka_hist.specs.Causes.{chosen_holds}
use Rattle.moka_hist.specs.Visits.{is_seen, cause_of, gave_back, decided, is_keeping, is_running, is_unlocked_for, locked_by, taken_under, times_at, unlocked, with_notice, without_moment, first_of, holding_with, claimed, claimed_alone, claim_of, finds, has_room, is_free_for, settlement_for, readers_without, settled_without, stamped, judged, settled_as, opened, took_told, ended_turn, invalidated_all, is_hit, registered_with, registering, candidates, struck, retired}
use Rattle.moka_hist.specs.Tables.{GivesKeys, answer_of, begun, by_pair, removed, taken_by, written}
use Rattle.moka_hist.specs.Bound.{times_of, stayed, decided_by, most_undecided}
use Rattle.moka_hist.specs.Next.{Next, goes, stays, waits, gives, asks, answers}
use Rattle.moka_hist.specs.Listening.{after_hearing, after_lock, after_notice}
use Rattle.moka_hist.specs.Posting.{once_ended, after_drain, after_post, after_turn, after_apply}
use Rattle.moka_hist.specs.Looking.{misses, hits, keeps, finds_pair, after_get, after_judge, after_holds}
use Rattle.moka_hist.specs.Loading.{owner_rest, after_own, after_read, after_told}
use Rattle.moka_hist.specs.Writing.{cause_handed, nothing_answer, nothing_rest, old_stamp, once_told, removed_answer, removed_rest, said, stamp_asked, after_out}
use Rattle.moka_hist.specs.Entries.{unchanged}
use Rattle.moka_hist.specs.Invalidating.{registering_answer}
use Rattle.moka_hist.specs.Maintenance.{after_candidates, carrying}
use Rattle.moka_hist.specs.Walking.{after_find, after_scan, judging}
use Rattle.moka_hist.specs.Computing.{compute_rest, report_rest, after_own_key, after_own_alone, after_read_key, after_told_op}
use Rattle.moka_hist.specs.Step.{access_for, replace_of, takes_of}
use Rattle.moka_hist.specs.declared.records.Stored.{Stored}
use Rattle.moka_hist.specs.declared.events.Told.{Told}
use Rattle.moka_hist.specs.declared.loads.Load.{Load}
use Rattle.moka_hist.specs.declared.loads.Sought.{Sought}
use Rattle.moka_hist.specs.declared.loads.Compute.{Compute}
use Rattle.moka_hist.specs.declared.loads.Kind.TheVariants as kind
use Rattle.moka_hist.specs.declared.visits.LockTaken.TheVariants as lock
use Rattle.moka_hist.specs.declared.visits.Takes.TheVariants as takes
use Rattle.moka_hist.specs.declared.writes.Holding.TheVariants as holding
use Rattle.moka_hist.specs.declared.notices.NoticeState.{NoticeState}
use Rattle.moka_hist.specs.declared.notices.NoticeState.TheVariants as notice
use Rattle.moka_hist.specs.declared.writes.Owed.{Owed}
use Rattle.moka_hist.specs.declared.writes.Write.{Write}
use Rattle.moka_hist.specs.declared.writes.Write.TheVariants.{Remove, Upsert}
use Rattle.moka_hist.specs.declared.rules.Cause.{Cause}
use Rattle.moka_hist.specs.declared.replies.Answer.TheVariants as reply
use Rattle.moka_hist.specs.declared.replies.Ask.TheVariants as ask
use Rattle.moka_hist.specs.declared.visits.Settled.{Settled}
use Rattle.moka_hist.specs.declared.visits.Settled.TheVariants as settled
use Rattle.moka_hist.specs.declared.visits.Visit.TheVariants as visit
use Rattle.moka_hist.specs.declared.visits.Found.TheVariants as found
use Rattle.moka_hist.specs.declared.tables.TableOp.TheVariants as table_op
use Rattle.moka_hist.specs.declared.tables.TableTurn.TheVariants as table
use Rattle.moka_laws.proofs.StepCases.{OnAccess}

some_left : (k : ℕ) → nat_lt 0 (suc k) ≡ true
some_left k = grind (arith, nat_tests)

-- a map is itself with what it has at a number put there
put_same_at : {A : Type 0} (f : ℕ → A) (n : ℕ) (v : A) → f n ≡ v → (m : ℕ) → put_at f n v m ≡ f m
put_same_at f n v e m = by (n == m) refl
  where
    by : (b : Bool) → (n == m) ≡ b → cond b v (f m) ≡ f m
    by true h = sym e ∙ ap f (eqb-true n m h)
    by false h = refl

pub put_same : {A : Type 0} (f : ℕ → A) (n : ℕ) (v : A) → f n ≡ v → put_at f n v ≡ f
put_same f n v e = λ i m. (put_same_at f n v e m) i

-- what an owner of a key's computes owns, and the compute that one goes on as that owns them alone
abbrev pub computes_of : {K : Type 0} → K → Load K
computes_of key = record { key = key; kind = kind.Compute }

abbrev pub alone_of : {K : Type 0} → K → Compute K
alone_of key = record { key = key; takes = takes.TryOp }

module _ {K V E : Type 0} where
  -- an item with which a call goes on with the rest, or waits
  abbrev pub IsPassing : Item K V E → Type 0
  IsPassing (plan.Ended number) = Unit {0}
  IsPassing plan.Turn = Unit {0}
  IsPassing plan.End = Unit {0}
  IsPassing (plan.Settle with) = Unit {0}
  IsPassing (plan.Lock key) = Unit {0}
  IsPassing (plan.Unlock wrote) = Unit {0}
  IsPassing plan.Heard = Unit {0}
  IsPassing plan.Idle = Unit {0}
  IsPassing plan.Invalidate_all = Unit {0}
  IsPassing _ = ⊥

  -- such an item by which no call ends what it owns
  abbrev pub IsPassingBy : Item K V E → Type 0
  IsPassingBy (plan.Settle with) = ⊥
  IsPassingBy item = IsPassing item

  -- what such an item leaves alone of the desk
  pub record LeavesAlone (old new : DeskPart K V E) : Type 0 where
    pub owed : new.owed ≡ old.owed
    pub log : new.log ≡ old.log
    pub applied : new.applied ≡ old.applied
    pub last : new.last ≡ old.last
    pub owners : new.owners ≡ old.owners
    pub owning : new.owning ≡ old.owning
    pub joined : new.joined ≡ old.joined
    pub readers : new.readers ≡ old.readers
    pub settled : new.settled ≡ old.settled
    pub asks : new.asks ≡ old.asks
    pub told : new.told ≡ old.told

module _ {K V E : Type 0} (eq : K → K → Bool) where
  abbrev pub on_desk : World K V E → DeskPart K V E → World K V E
  on_desk w d = record w { desk = d }

  -- the desk once the call took up the first owed write, posted its write, applied the first logged
  -- write, or read how its owner ended
  abbrev pub was_owed : DeskPart K V E → ℕ → Write → List Owed → DeskPart K V E
  was_owed d n first rest = record d { holding = put_at d.holding n (Some (holding.TookUp first)); owed = rest }

  abbrev pub was_posted : DeskPart K V E → ℕ → Write → DeskPart K V E
  was_posted d n write = record d { holding = put_at d.holding n None; log = d.log ++ write ∷ [] }

  abbrev pub not_posted : DeskPart K V E → ℕ → DeskPart K V E
  not_posted d n = record d { holding = put_at d.holding n (option_map without_moment (d.holding n)) }

  abbrev pub was_applied : DeskPart K V E → Write → List Write → DeskPart K V E
  was_applied d first rest = record d { log = rest; applied = d.applied ++ first ∷ [] }

  -- the desk once the call has opened its notice, in this state
  abbrev pub was_opened : DeskPart K V E → ℕ → K → Stored V → Option Cause → Bool → NoticeState →
      DeskPart K V E
  was_opened d n key old cause upsert state = with_notice (decided d n) n (record {
    number = n;
    key = key;
    value = old.value;
    cause = cause_of d old.stamp old.modified cause upsert;
    state = state;
  })

  abbrev pub was_read : DeskPart K V E → ℕ → DeskPart K V E
  was_read d n = record d { joined = put_at d.joined n None; readers = readers_without d n; settled = settled_without d n }

  -- the world once a look of this call has decided
  abbrev pub done : World K V E → ℕ → World K V E
  done w n = record w { stay = decided_by n }

  -- the world once this call has taken out what stood under the key
  abbrev pub taken_out : World K V E → ℕ → K → World K V E
  taken_out w n key = record w { table = removed eq n w.table key; stay = decided_by n }

  -- the chosen record has still to leave for this cause
  abbrev pub has_to_leave : DeskPart K V E → K → Stored V → Cause → Bool
  has_to_leave d there stored cause =
      chosen_holds d.rules (times_at d stored.stamp stored.modified) (is_hit d there stored) cause

  -- M holds where the operation stays undecided once more
  abbrev pub Undecided : (World K V E → Next K V E → Type 0) → World K V E → ℕ → Call K V E → Type 0
  Undecided M w n c = times_of w.stay n < most_undecided w.table → M (record w { stay = stayed w.stay n }) (stays c)

  -- M holds where the call becomes the owner of the compute's key
  abbrev pub OwnsKey : (World K V E → Next K V E → Type 0) → World K V E → ℕ → Call K V E →
      Compute K → Type 0
  OwnsKey M w n c compute =
      (is_disabled c.rules ≡ false → w.desk.owners (computes_of compute.key) ≡ None →
      M (on_desk w (claimed eq w.desk n (computes_of compute.key) None))
      (goes c (plan.Drain ∷ plan.Get (plan.To_compute compute) compute.key ∷ []))) ×
      (is_disabled c.rules ≡ true → w.desk.owners (computes_of compute.key) ≡ None →
      M (on_desk w (claimed eq w.desk n (computes_of compute.key) None))
      (goes c (plan.Drain ∷ plan.Ask_op compute None ∷ [])))

  -- M holds of each outcome of the item, with what is known there
  abbrev pub Outcomes : (World K V E → Next K V E → Type 0) → World K V E → ℕ → Call K V E → Item K V E → List (Item K V E) → Type 0
  Outcomes M w n c plan.Drain rest =
      (w.desk.owed ≡ [] → M w (goes c rest)) ×
      ((x : Write) (xs : List Owed) → w.desk.owed ≡ record { write = x; notice = None } ∷ xs →
      M (on_desk w (was_owed w.desk n x xs)) (goes c (plan.Post x ∷ plan.Drain ∷ rest))) ×
      ((x : Write) (number : ℕ) (xs : List Owed) → w.desk.owed ≡ record { write = x; notice = Some number } ∷ xs →
      M (on_desk w (was_owed w.desk n x xs)) (goes c (plan.Ended number ∷ plan.Post x ∷ plan.Drain ∷ rest)))
  Outcomes M w n c (plan.Ended number) rest =
      (is_running w.desk number ≡ false → M w (goes c rest)) × (is_running w.desk number ≡ true → M w (waits c))
  Outcomes M w n c (plan.Post write) rest =
      (has_room w.desk ≡ true → M (on_desk w (was_posted w.desk n write)) (goes c rest)) ×
      (has_room w.desk ≡ false →
      M (on_desk w (not_posted w.desk n)) (goes c (plan.Turn ∷ plan.Apply ∷ plan.End ∷ plan.Post write ∷ rest)))
  Outcomes M w n c plan.Turn rest =
      (is_free_for w.desk n ≡ true → M (on_desk w (record w.desk { turn = Some n })) (goes c rest)) ×
      (is_free_for w.desk n ≡ false → M w (waits c))
  Outcomes M w n c plan.Apply rest =
      (w.desk.log ≡ [] → M w (goes c rest)) ×
      ((x : Write) (xs : List Write) → w.desk.log ≡ x ∷ xs → M (on_desk w (was_applied w.desk x xs)) (goes c (plan.Apply ∷ rest)))
  Outcomes M w n c plan.End rest = M (on_desk w (ended_turn w.desk)) (goes c rest)
  Outcomes M w n c (plan.Get aim key) rest =
      Undecided M w n c ×
      (w.table.stored key ≡ None → M (done w n) (misses c aim)) ×
      ((k : K) (stored : Stored V) → w.table.stored key ≡ Some (k, stored) →
      M (done w n) (finds_pair c aim k stored))
  Outcomes M w n c (plan.Judge aim key stored) rest =
      (is_seen w.desk (replace_of aim) key stored ≡ true →
      M (on_desk w (judged w.desk stored.stamp stored.modified true))
      (hits c aim key stored.value)) ×
      (is_seen w.desk (replace_of aim) key stored ≡ false →
      M (on_desk w (judged w.desk stored.stamp stored.modified false)) (misses c aim))
  Outcomes M w n c (plan.Own sought) rest =
      (is_disabled c.rules ≡ false → w.desk.owners sought.load ≡ None →
      M (on_desk w (claimed eq w.desk n sought.load None))
      (goes c (look (plan.To_own sought) sought.load.key))) ×
      (is_disabled c.rules ≡ true → w.desk.owners sought.load ≡ None →
      M (on_desk w (claimed eq w.desk n sought.load None)) (goes c (plan.Ask sought.load ∷ []))) ×
      ((owner : ℕ) → w.desk.owners sought.load ≡ Some owner →
      M (on_desk w (claimed eq w.desk n sought.load (Some owner)))
      (goes c (plan.Read sought ∷ [])))
  Outcomes M w n c (plan.Own_key compute) rest =
      OwnsKey M w n c compute ×
      ((owner : ℕ) → w.desk.owners (computes_of compute.key) ≡ Some owner →
      M (on_desk w (claimed eq w.desk n (computes_of compute.key) (Some owner)))
      (goes c (plan.Read_key compute ∷ [])))
  Outcomes M w n c (plan.Own_alone key) rest =
      OwnsKey M w n c (alone_of key) ×
      ((owner : ℕ) → w.desk.owners (computes_of key) ≡ Some owner →
      (is_disabled c.rules ≡ false →
      M w (goes c (plan.Drain ∷ plan.Get (plan.To_show (plan.As_report key)) key ∷ []))) ×
      (is_disabled c.rules ≡ true →
      M w (goes c (plan.Drain ∷ plan.Reply (unchanged key None) ∷ []))))
  Outcomes M w n c (plan.Read sought) rest =
      (settlement_for w.desk n ≡ None → M w (waits c)) ×
      ((with : Settled V E) → settlement_for w.desk n ≡ Some with →
      M (on_desk w (was_read w.desk n)) (after_read c sought (found.ReadSettled with)))
  Outcomes M w n c (plan.Read_key compute) rest =
      (settlement_for w.desk n ≡ None → M w (waits c)) ×
      ((with : Settled V E) → settlement_for w.desk n ≡ Some with →
      M (on_desk w (was_read w.desk n)) (after_read_key c compute (found.ReadSettled with)))
  Outcomes M w n c (plan.Settle with) rest = M (on_desk w (settled_as w.desk n with)) (goes c rest)
  Outcomes M w n c (plan.Ask load) rest = M (on_desk w (opened w.desk n (takes_of load.kind))) (asks c ask.Init (plan.Told load ∷ []))
  Outcomes M w n c (plan.Ask_op compute pair) rest =
      M (on_desk w (opened w.desk n compute.takes))
      (asks c (ask.Compute pair) (plan.Told_op compute pair ∷ []))
  Outcomes M w n c (plan.Told load) rest =
      (w.desk.told n ≡ None → M w (waits c)) ×
      ((given : Told V E) → w.desk.told n ≡ Some given → M (on_desk w (took_told w.desk n)) (after_told c load (found.TakeTold (Some given))))
  Outcomes M w n c (plan.Told_op compute pair) rest =
      (w.desk.told n ≡ None → M w (waits c)) ×
      ((given : Told V E) → w.desk.told n ≡ Some given → M (on_desk w (took_told w.desk n))
      (after_told_op c compute pair (found.TakeTold (Some given))))
  Outcomes M w n c (plan.Lock key) rest =
      (is_unlocked_for w.desk n key ≡ true → M (on_desk w (locked_by eq w.desk n key true)) (goes c rest)) ×
      (is_unlocked_for w.desk n key ≡ false → M w (waits c))
  Outcomes M w n c (plan.Unlock wrote) rest = M (on_desk w (unlocked w.desk n wrote)) (goes c rest)
  Outcomes M w n c (plan.Notice key old cause upsert) rest =
      (w.desk.off ≡ true → M (on_desk w (was_opened w.desk n key old cause upsert notice.Skipped))
      (goes c rest)) ×
      (w.desk.off ≡ false → M (on_desk w (was_opened w.desk n key old cause upsert notice.Running))
      (asks c (ask.Listener key old.value (cause_of w.desk old.stamp old.modified cause upsert))
      (plan.Heard ∷ rest)))
  Outcomes M w n c plan.Heard rest =
      (is_running w.desk n ≡ false → M w (goes c rest)) × (is_running w.desk n ≡ true → M w (waits c))
  Outcomes M w n c (plan.Holds key stamp cause there stored) rest =
      (has_to_leave w.desk there stored cause ≡ true →
      M w (goes c (plan.Moment (plan.To_take_out (plan.To_evict_chosen stamp cause) key) ∷ []))) ×
      (has_to_leave w.desk there stored cause ≡ false → M w (keeps c))
  Outcomes M w n c (plan.Moment (plan.To_store key value)) rest =
      M (on_desk w (stamped w.desk n)) (goes c (plan.Write key value w.desk.clock ∷ rest))
  Outcomes M w n c (plan.Moment (plan.To_take_out removal key)) rest =
      M (on_desk w (stamped w.desk n)) (goes c (plan.Out removal key ∷ rest))
  Outcomes M w n c (plan.Write key value moment) rest =
      let stored : Stored V = record { value = value; stamp = n; modified = moment } in
      let new : World K V E = record w { table = written eq n w.table key stored; stay = decided_by n } in
      Undecided M w n c ×
      (c.rules.listener ≡ false → (old : Option ℕ) → M new (goes c (plan.Post (Upsert n old) ∷ rest))) ×
      (c.rules.listener ≡ true →
      M new (goes c (plan.Unlock true ∷ plan.Post (Upsert n None) ∷ rest))) ×
      ((k : K) (old : Stored V) → c.rules.listener ≡ true → w.table.stored key ≡ Some (k, old) →
      M new (goes c (plan.Notice key old None true ∷ plan.Unlock true ∷ plan.Post
      (Upsert n (Some old.stamp)) ∷ rest)))
  Outcomes M w n c (plan.Out removal key) rest =
      let out : Option (K × Stored V) = taken_by (stamp_asked removal) (w.table.stored key) in
      Undecided M w n c ×
      (c.rules.listener ≡ false → out ≡ None →
      M (done w n) (goes c (plan.Idle ∷ said removal (nothing_answer removal)))) ×
      (c.rules.listener ≡ true → out ≡ None →
      M (done w n) (goes c (plan.Unlock false ∷ said removal (nothing_answer removal)))) ×
      ((k : K) (old : Stored V) → c.rules.listener ≡ false → out ≡ Some (k, old) →
      M (taken_out w n key)
      (goes c (plan.Post (Remove n old.stamp) ∷ said removal (removed_answer removal old.value)))) ×
      ((k : K) (old : Stored V) → c.rules.listener ≡ true → out ≡ Some (k, old) →
      M (taken_out w n key)
      (goes c (plan.Notice key old (cause_handed removal) false ∷ plan.Unlock true ∷
      plan.Post (Remove n old.stamp) ∷ said removal (removed_answer removal old.value))))
  Outcomes M w n c plan.Idle rest = M (on_desk w (gave_back w.desk n)) (goes c rest)
  Outcomes M w n c plan.Invalidate_all rest = M (on_desk w (invalidated_all w.desk)) (goes c rest)
  Outcomes M w n c (plan.Register test) rest =
      M (on_desk w (registered_with w.desk test)) (answers (registering_answer (registering w.desk)))
  Outcomes M w n c (plan.List_keys part) rest =
      let t : TablePart K V = begun w.table n (table_op.Keys part) in
      (times_of w.stay n < most_undecided w.table → M (record w { table = t; stay = stayed w.stay n }) (stays c)) ×
      ((listed : Listed K) (keys : List K) → t.listings n ≡ Some listed → GivesKeys eq t listed keys →
      M (record w { table = record t { listings = put_at t.listings n None }; stay = decided_by n })
      (goes c (map plan.Find keys ++ rest)))
  Outcomes M w n c (plan.Find key) rest =
      Undecided M w n c ×
      (w.table.stored key ≡ None → M (done w n) (goes c rest)) ×
      ((k : K) (stored : Stored V) → w.table.stored key ≡ Some (k, stored) →
      c.carried ≡ None → M (done w n) (goes c (plan.Scan k stored ∷ rest))) ×
      ((k : K) (stored : Stored V) (ids : List (ℕ × ℕ)) → w.table.stored key ≡ Some (k, stored) →
      c.carried ≡ Some ids → M (done w n) (goes c (plan.Strike k stored ∷ rest)))
  Outcomes M w n c (plan.Scan there stored) rest =
      (is_seen w.desk None there stored ≡ true → M w (gives c there stored.value rest)) ×
      (is_seen w.desk None there stored ≡ false → M w (goes c rest))
  Outcomes M w n c (plan.Candidates parts) rest =
      (candidates w.desk ≡ [] → M w (answers reply.Done)) ×
      ((id : ℕ × ℕ) (more : List (ℕ × ℕ)) → candidates w.desk ≡ id ∷ more →
      M w (goes (carrying c (id ∷ more)) (lists_from 0 parts (plan.Retire ∷ []))))
  Outcomes M w n c (plan.Strike there stored) rest =
      M w (goes (carrying c (struck w.desk (unwrap_or c.carried []) there stored)) rest)
  Outcomes M w n c plan.Retire rest =
      M (on_desk w (retired w.desk (unwrap_or c.carried []))) (answers reply.Done)
  Outcomes M w n c (plan.Reply answer) rest = M (on_desk w (gave_back w.desk n)) (answers answer)

  -- the desk once the call has tried to post its write
  abbrev posted_if : DeskPart K V E → ℕ → Write → Bool → DeskPart K V E
  posted_if d n write b = record d {
    holding = put_at d.holding n (cond b None (option_map without_moment (d.holding n)));
    log = cond b (d.log ++ write ∷ []) d.log;
  }

  module _ (M : World K V E → Next K V E → Type 0) (w : World K V E) (n : ℕ) (c : Call K V E) where
    drained : (rest : List (Item K V E)) (owed : List Owed) → w.desk.owed ≡ owed → Outcomes M w n c plan.Drain rest →
        M (on_desk w (record w.desk { holding = holding_with w.desk.holding n (option_map (λ o. o.write) (first_of owed)); owed = drop 1 owed }))
        (after_drain c rest (finds (record w.desk { owed = owed }) (visit.TakeOwed n)))
    drained rest [] e o = subst (λ v. M (on_desk w (record w.desk { owed = v })) (goes c rest)) e (o.0 e)
    drained rest (x ∷ xs) e o = by x.notice refl
      where
        by : (notice : Option ℕ) → x.notice ≡ notice →
            M (on_desk w (was_owed w.desk n x.write xs)) (goes c (once_ended notice (plan.Post x.write ∷ plan.Drain ∷ rest)))
        by None is = o.1 x.write xs (e ∙ ap (λ v. record { write = x.write; notice = v } ∷ xs) is)
        by (Some number) is = o.2 x.write number xs (e ∙ ap (λ v. record { write = x.write; notice = v } ∷ xs) is)

    heard : (rest : List (Item K V E)) (number : ℕ) (b : Bool) → is_running w.desk number ≡ b →
        (is_running w.desk number ≡ false → M w (goes c rest)) × (is_running w.desk number ≡ true → M w (waits c)) →
        M w (after_hearing c rest (found.NoticeEnded (not b)))
    heard rest number false e o = o.0 e
    heard rest number true e o = o.1 e

    -- the lock is held under another number, by a live call or by a notice, and either way waited for
    locks_under : (key : K) (rest : List (Item K V E)) (holder : ℕ) (b : Bool) → (holder == n) ≡ b → is_unlocked_for w.desk n key ≡ b → Outcomes M w n c (plan.Lock key) rest →
        M (on_desk w (locked_by eq w.desk n key b)) (after_lock c rest (found.LockKey (cond b lock.Taken (cond (is_keeping w.desk holder) (lock.Kept holder) lock.Held))))
    locks_under key rest holder true is e o = o.0 e
    locks_under key rest holder false is e o = by (is_keeping w.desk holder) (o.1 e)
      where
        by : (kept : Bool) → M w (waits c) → M w (after_lock c rest (found.LockKey (cond kept (lock.Kept holder) lock.Held)))
        by true m = m
        by false m = m

    locks : (key : K) (rest : List (Item K V E)) (o : Option ℕ) → w.desk.locks key ≡ o → Outcomes M w n c (plan.Lock key) rest →
        M (on_desk w (locked_by eq w.desk n key (option_map_or (λ holder. holder == n) o true))) (after_lock c rest (found.LockKey (option_map_or (taken_under w.desk n) o lock.Taken)))
    locks key rest None e o = o.0 (ap (λ v. option_map_or (λ holder. holder == n) v true) e)
    locks key rest (Some holder) e o = locks_under key rest holder (holder == n) refl (ap (λ v. option_map_or (λ h. h == n) v true) e) o

    tells : (key : K) (old : Stored V) (cause : Option Cause) (upsert : Bool)
        (rest : List (Item K V E)) (b : Bool) →
        w.desk.off ≡ b → Outcomes M w n c (plan.Notice key old cause upsert) rest →
        M (on_desk w (was_opened w.desk n key old cause upsert
        (cond b notice.Skipped notice.Running)))
        (after_notice c key old rest
        (found.OpenNotice (cond b None
        (Some (cause_of w.desk old.stamp old.modified cause upsert)))))
    tells key old cause upsert rest true e o = o.0 e
    tells key old cause upsert rest false e o = o.1 e

    wrote : (key : K) (value : V) (moment : ℕ) (rest : List (Item K V E)) (pair : Option (K × Stored V)) → w.table.stored key ≡ pair →
        Outcomes M w n c (plan.Write key value moment) rest →
        M (record w { table = written eq n w.table key (record { value = value; stamp = n; modified = moment }); stay = decided_by n })
        (goes c (once_told c.rules.listener key (answer_of pair) (plan.Post (Upsert n (old_stamp (answer_of pair))) ∷ rest)))
    wrote key value moment rest pair e o = by c.rules.listener refl pair e
      where
        by : (listener : Bool) → c.rules.listener ≡ listener → (pair : Option (K × Stored V)) → w.table.stored key ≡ pair →
            M (record w { table = written eq n w.table key (record { value = value; stamp = n; modified = moment }); stay = decided_by n })
            (goes c (once_told listener key (answer_of pair) (plan.Post (Upsert n (old_stamp (answer_of pair))) ∷ rest)))
        by false is pair e = o.1 is (old_stamp (answer_of pair))
        by true is None e = o.2 is
        by true is (Some pair) e = o.3 pair.0 pair.1 is e

    posts : (write : Write) (rest : List (Item K V E)) (b : Bool) → has_room w.desk ≡ b → Outcomes M w n c (plan.Post write) rest →
        M (on_desk w (posted_if w.desk n write b)) (after_post c write rest (found.PostWrite b))
    posts write rest true e o = o.0 e
    posts write rest false e o = o.1 e

    turned : (rest : List (Item K V E)) (b : Bool) → is_free_for w.desk n ≡ b → Outcomes M w n c plan.Turn rest →
        M (on_desk w (record w.desk { turn = cond b (Some n) w.desk.turn })) (after_turn c rest (found.TakeTurn b))
    turned rest true e o = o.0 e
    turned rest false e o = o.1 e

    applied : (rest : List (Item K V E)) (log : List Write) → w.desk.log ≡ log → Outcomes M w n c plan.Apply rest →
        M (on_desk w (record w.desk { log = drop 1 log; applied = w.desk.applied ++ take 1 log }))
        (after_apply c rest (found.ApplyOne (nat_lt 0 (length log))))
    applied rest [] e o =
        subst (λ v. M (on_desk w (record w.desk { log = v; applied = w.desk.applied ++ [] })) (goes c rest)) e
        (subst (λ v. M (on_desk w (record w.desk { applied = v })) (goes c rest)) (sym (append-nil w.desk.applied)) (o.0 e))
    applied rest (x ∷ xs) e o = subst
        (λ b. M (on_desk w (record w.desk { log = xs; applied = w.desk.applied ++ x ∷ [] })) (after_apply c rest (found.ApplyOne b)))
        (sym (some_left (length xs))) (o.1 x xs e)

    got : (aim : Aim K V) (key : K) (rest : List (Item K V E)) (pair : Option (K × Stored V)) →
        w.table.stored key ≡ pair → Outcomes M w n c (plan.Get aim key) rest →
        M (done w n) (after_get c aim (table.Decided (answer_of pair)))
    got aim key rest None e o = o.1 e
    got aim key rest (Some pair) e o = o.2 pair.0 pair.1 e

    looked_up : (key : K) (rest : List (Item K V E)) (pair : Option (K × Stored V)) →
        w.table.stored key ≡ pair → Outcomes M w n c (plan.Find key) rest →
        M (done w n) (after_find c rest (table.Decided (answer_of pair)))
    looked_up key rest None e o = o.1 e
    looked_up key rest (Some pair) e o = by c.carried refl
      where
        by : (ids : Option (List (ℕ × ℕ))) → c.carried ≡ ids → M (done w n) (goes c (judging ids pair.0 pair.1 ∷ rest))
        by None is = o.2 pair.0 pair.1 e is
        by (Some ids) is = o.3 pair.0 pair.1 ids e is

    chose : (parts : ℕ) (rest : List (Item K V E)) (ids : List (ℕ × ℕ)) → candidates w.desk ≡ ids →
        Outcomes M w n c (plan.Candidates parts) rest → M w (after_candidates c parts (found.Candidates ids))
    chose parts rest [] e o = o.0 e
    chose parts rest (id ∷ more) e o = o.1 id more e

    scanned : (there : K) (stored : Stored V) (rest : List (Item K V E)) (b : Bool) →
        is_seen w.desk None there stored ≡ b → Outcomes M w n c (plan.Scan there stored) rest →
        M w (after_scan c there stored rest (found.Scan b))
    scanned there stored rest true e o = o.0 e
    scanned there stored rest false e o = o.1 e

    judged_so : (key : K) (stamp : ℕ) (cause : Cause) (there : K) (stored : Stored V)
        (rest : List (Item K V E))
        (b : Bool) → has_to_leave w.desk there stored cause ≡ b →
        Outcomes M w n c (plan.Holds key stamp cause there stored) rest →
        M w (after_holds c key stamp cause (found.Holds b))
    judged_so key stamp cause there stored rest true e o = o.0 e
    judged_so key stamp cause there stored rest false e o = o.1 e

    took : (removal : Removal K) (key : K) (rest : List (Item K V E))
        (out : Option (K × Stored V)) →
        taken_by (stamp_asked removal) (w.table.stored key) ≡ out →
        Outcomes M w n c (plan.Out removal key) rest →
        M (record w { table = by_pair out (removed eq n w.table key) w.table; stay = decided_by n })
        (after_out n c removal key (table.Decided (answer_of out)))
    took removal key rest None e o = by c.rules.listener refl
      where
        by : (listener : Bool) → c.rules.listener ≡ listener →
            M (done w n) (goes c (nothing_rest listener removal))
        by false is = o.1 is e
        by true is = o.2 is e
    took removal key rest (Some pair) e o = by c.rules.listener refl
      where
        by : (listener : Bool) → c.rules.listener ≡ listener →
            M (taken_out w n key) (goes c (removed_rest listener n removal key pair.1))
        by false is = o.3 pair.0 pair.1 is e
        by true is = o.4 pair.0 pair.1 is e

    -- the record that was found is seen, or not
    judged_as : (aim : Aim K V) (key : K) (stored : Stored V) (rest : List (Item K V E)) (b : Bool) →
        is_seen w.desk (replace_of aim) key stored ≡ b →
        Outcomes M w n c (plan.Judge aim key stored) rest →
        M (on_desk w (judged w.desk stored.stamp stored.modified b))
        (after_judge c aim key stored (found.Judge b))
    judged_as aim key stored rest true e o = o.0 e
    judged_as aim key stored rest false e o = o.1 e

    owned : (sought : Sought K) (rest : List (Item K V E)) (owner : Option ℕ) →
        w.desk.owners sought.load ≡ owner → Outcomes M w n c (plan.Own sought) rest →
        M (on_desk w (claimed eq w.desk n sought.load owner))
        (after_own c sought (found.WaitOrOwn (claim_of owner)))
    owned sought rest None e o = by (is_disabled c.rules) refl
      where
        by : (b : Bool) → is_disabled c.rules ≡ b →
            M (on_desk w (claimed eq w.desk n sought.load None)) (goes c (owner_rest b sought))
        by false is = o.0 is e
        by true is = o.1 is e
    owned sought rest (Some owner) e o = o.2 owner e

    was_told : (sought : Sought K) (rest : List (Item K V E)) (with : Option (Settled V E)) →
        settlement_for w.desk n ≡ with → Outcomes M w n c (plan.Read sought) rest →
        M (on_desk w (cond (is_some with) (was_read w.desk n) w.desk))
        (after_read c sought (found.ReadSettled (unwrap_or with settled.NotYet)))
    was_told sought rest None e o = o.0 e
    was_told sought rest (Some with) e o = o.1 with e

    taken : (load : Load K) (rest : List (Item K V E)) (given : Option (Told V E)) → w.desk.told n ≡ given →
        Outcomes M w n c (plan.Told load) rest →
        M (on_desk w (took_told w.desk n)) (after_told c load (found.TakeTold given))
    taken load rest None e o = subst (λ v. M (on_desk w (record w.desk { told = v })) (waits c)) (sym (put_same w.desk.told n None e)) (o.0 e)
    taken load rest (Some given) e o = o.1 given e

    owns_key : (compute : Compute K) (b : Bool) → is_disabled c.rules ≡ b →
        w.desk.owners (computes_of compute.key) ≡ None →
        OwnsKey M w n c compute →
        M (on_desk w (claimed eq w.desk n (computes_of compute.key) None))
        (goes c (compute_rest b compute))
    owns_key compute false is e o = o.0 is e
    owns_key compute true is e o = o.1 is e

    owned_key : (compute : Compute K) (rest : List (Item K V E)) (owner : Option ℕ) →
        w.desk.owners (computes_of compute.key) ≡ owner →
        Outcomes M w n c (plan.Own_key compute) rest →
        M (on_desk w (claimed eq w.desk n (computes_of compute.key) owner))
        (after_own_key c compute (found.WaitOrOwn (claim_of owner)))
    owned_key compute rest None e o = owns_key compute (is_disabled c.rules) refl e o.0
    owned_key compute rest (Some owner) e o = o.1 owner e

    owned_alone : (key : K) (rest : List (Item K V E)) (owner : Option ℕ) →
        w.desk.owners (computes_of key) ≡ owner → Outcomes M w n c (plan.Own_alone key) rest →
        M (on_desk w (claimed_alone eq w.desk n (computes_of key) owner))
        (after_own_alone c key (found.OwnAlone (is_some owner)))
    owned_alone key rest None e o = owns_key (alone_of key) (is_disabled c.rules) refl e o.0
    owned_alone key rest (Some owner) e o = by (is_disabled c.rules) refl
      where
        by : (b : Bool) → is_disabled c.rules ≡ b → M w (goes c (report_rest b key))
        by false is = (o.1 owner e).0 is
        by true is = (o.1 owner e).1 is

    read_end : (compute : Compute K) (rest : List (Item K V E)) (with : Option (Settled V E)) →
        settlement_for w.desk n ≡ with → Outcomes M w n c (plan.Read_key compute) rest →
        M (on_desk w (cond (is_some with) (was_read w.desk n) w.desk))
        (after_read_key c compute (found.ReadSettled (unwrap_or with settled.NotYet)))
    read_end compute rest None e o = o.0 e
    read_end compute rest (Some with) e o = o.1 with e

    taken_op : (compute : Compute K) (pair : Option (K × V)) (rest : List (Item K V E))
        (given : Option (Told V E)) → w.desk.told n ≡ given →
        Outcomes M w n c (plan.Told_op compute pair) rest →
        M (on_desk w (took_told w.desk n)) (after_told_op c compute pair (found.TakeTold given))
    taken_op compute pair rest None e o =
        subst (λ v. M (on_desk w (record w.desk { told = v })) (waits c))
        (sym (put_same w.desk.told n None e)) (o.0 e)
    taken_op compute pair rest (Some given) e o = o.1 given e

  pub outcomes : (M : World K V E → Next K V E → Type 0) (w : World K V E) (n : ℕ) (c : Call K V E) (item : Item K V E) (rest : List (Item K V E)) →
      Outcomes M w n c item rest → OnAccess eq M w n c item rest (access_for n c.carried item)
  outcomes M w n c plan.Drain rest o = drained M w n c rest w.desk.owed refl o
  outcomes M w n c (plan.Ended number) rest o = heard M w n c rest number (is_running w.desk number) refl o
  outcomes M w n c plan.Heard rest o = heard M w n c rest n (is_running w.desk n) refl o
  outcomes M w n c (plan.Lock key) rest o = locks M w n c key rest (w.desk.locks key) refl o
  outcomes M w n c (plan.Unlock wrote) rest o = o
  outcomes M w n c (plan.Notice key old cause upsert) rest o =
      tells M w n c key old cause upsert rest w.desk.off refl o
  outcomes M w n c (plan.Post write) rest o = posts M w n c write rest (has_room w.desk) refl o
  outcomes M w n c plan.Turn rest o = turned M w n c rest (is_free_for w.desk n) refl o
  outcomes M w n c plan.Apply rest o = applied M w n c rest w.desk.log refl o
  outcomes M w n c plan.End rest o = o
  outcomes M w n c (plan.Get aim key) rest o =
      (o.0, λ answer t h. rw (h.1, h.0) (got M w n c aim key rest (w.table.stored key) refl o))
  outcomes M w n c (plan.Judge aim key stored) rest o =
      judged_as M w n c aim key stored rest (is_seen w.desk (replace_of aim) key stored) refl o
  outcomes M w n c (plan.Own sought) rest o =
      owned M w n c sought rest (w.desk.owners sought.load) refl o
  outcomes M w n c (plan.Own_key compute) rest o =
      owned_key M w n c compute rest (w.desk.owners (computes_of compute.key)) refl o
  outcomes M w n c (plan.Own_alone key) rest o =
      owned_alone M w n c key rest (w.desk.owners (computes_of key)) refl o
  outcomes M w n c (plan.Read sought) rest o =
      was_told M w n c sought rest (settlement_for w.desk n) refl o
  outcomes M w n c (plan.Read_key compute) rest o =
      read_end M w n c compute rest (settlement_for w.desk n) refl o
  outcomes M w n c (plan.Settle with) rest o = o
  outcomes M w n c (plan.Ask load) rest o = o
  outcomes M w n c (plan.Ask_op compute pair) rest o = o
  outcomes M w n c (plan.Told load) rest o = taken M w n c load rest (w.desk.told n) refl o
  outcomes M w n c (plan.Told_op compute pair) rest o =
      taken_op M w n c compute pair rest (w.desk.told n) refl o
  outcomes M w n c (plan.Holds key stamp cause there stored) rest o =
      judged_so M w n c key stamp cause there stored rest (has_to_leave w.desk there stored cause) refl o
  outcomes M w n c (plan.Moment (plan.To_store key value)) rest o = o
  outcomes M w n c (plan.Moment (plan.To_take_out removal key)) rest o = o
  outcomes M w n c (plan.Write key value moment) rest o =
      (o.0, λ answer t h. rw (h.1, h.0) (wrote M w n c key value moment rest (w.table.stored key) refl o))
  outcomes M w n c (plan.Out removal key) rest o = (
    o.0,
    λ answer t h. rw (h.1, h.0)
        (took M w n c removal key rest (taken_by (stamp_asked removal) (w.table.stored key))
        refl o),
  )
  outcomes M w n c plan.Idle rest o = o
  outcomes M w n c plan.Invalidate_all rest o = o
  outcomes M w n c (plan.Register test) rest o = o
  outcomes M w n c (plan.List_keys part) rest o = (o.0, λ answer t h. rw (h.5, h.4) (o.1 h.0 h.1 h.2 h.3))
  outcomes M w n c (plan.Find key) rest o =
      (o.0, λ answer t h. rw (h.1, h.0) (looked_up M w n c key rest (w.table.stored key) refl o))
  outcomes M w n c (plan.Scan there stored) rest o =
      scanned M w n c there stored rest (is_seen w.desk None there stored) refl o
  outcomes M w n c (plan.Candidates parts) rest o = chose M w n c parts rest (candidates w.desk) refl o
  outcomes M w n c (plan.Strike there stored) rest o = o
  outcomes M w n c plan.Retire rest o = o
  outcomes M w n c (plan.Reply answer) rest o = o

  module _ (M : World K V E → Next K V E → Type 0) (w : World K V E) (n : ℕ) (c : Call K V E) where
    -- what holds wherever the call goes on or waits holds of each outcome of such an item
    pub passes_on : (item : Item K V E) (rest : List (Item K V E)) → IsPassing item →
        ((d : DeskPart K V E) → M (on_desk w d) (goes c rest)) → M w (waits c) →
        Outcomes M w n c item rest
    passes_on (plan.Ended number) rest one on waits = (λ e. on w.desk, λ e. waits)
    passes_on plan.Turn rest one on waits = (λ e. on _, λ e. waits)
    passes_on (plan.Lock key) rest one on waits = (λ e. on _, λ e. waits)
    passes_on plan.Heard rest one on waits = (λ e. on w.desk, λ e. waits)
    passes_on plan.End rest one on waits = on _
    passes_on (plan.Settle with) rest one on waits = on _
    passes_on (plan.Unlock wrote) rest one on waits = on _
    passes_on plan.Idle rest one on waits = on _
    passes_on plan.Invalidate_all rest one on waits = on _
    passes_on _ rest one on waits = absurd one

    -- so where it is known what the item leaves alone
    pub passes_by : (item : Item K V E) (rest : List (Item K V E)) → IsPassingBy item →
        ((d : DeskPart K V E) → LeavesAlone w.desk d → M (on_desk w d) (goes c rest)) →
        M w (waits c) → Outcomes M w n c item rest
    passes_by (plan.Ended number) rest one on waits = (λ e. on w.desk search, λ e. waits)
    passes_by plan.Turn rest one on waits = (λ e. on _ search, λ e. waits)
    passes_by (plan.Lock key) rest one on waits = (λ e. on _ search, λ e. waits)
    passes_by plan.Heard rest one on waits = (λ e. on w.desk search, λ e. waits)
    passes_by plan.End rest one on waits = on _ search
    passes_by (plan.Unlock wrote) rest one on waits = on _ search
    passes_by plan.Idle rest one on waits = on _ search
    passes_by plan.Invalidate_all rest one on waits = on _ search
    passes_by _ rest one on waits = absurd one
