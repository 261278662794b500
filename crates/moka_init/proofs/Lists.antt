-- How many lists a call has still to make.
use Rattle.std.proofs.Common.{◌≡◌, ℕ, zero, suc, ◌+◌, ◌==◌, ◌<◌, ◌≤◌, Bool, true, false, cond, List, [], ◌∷◌, ◌++◌, map, Option, Some, None, refl, ap, arith}
use Rattle.moka_hist.specs.State.{Call}
use Rattle.moka_hist.specs.Maintenance.{after_candidates, after_retire, after_strike, carrying}
use Rattle.moka_hist.specs.Plan.{Item, Aim, Change, Removal, is_disabled, lists_from, loaded, load_rest, put, take_out, under_lock}
use Rattle.moka_hist.specs.Plan as plan
use Rattle.moka_hist.specs.Entries.{put_answer}
use Rattle.moka_hist.specs.Next.{Next, answers, goes}
use Rattle.moka_hist.specs.Posting.{once_ended, after_drain, after_post, after_turn, after_apply, after_end}
use Rattle.moka_hist.specs.Looking.{kept_rest, keeps, misses, hits, chosen_or_not, finds_pair, after_get, after_judge, after_holds}
use Rattle.moka_hist.specs.Loading.{retries, owner_rest, after_own, after_abort, after_read, after_ask, after_told, after_settle}
use Rattle.moka_hist.specs.Computing.{compute_rest, report_rest, put_told, end_compute, after_own_key, after_own_alone, after_read_key, after_ask_op, after_told_op}
use Rattle.moka_hist.specs.Listening.{after_lock, after_unlock, after_notice, after_hearing}
use Rattle.moka_hist.specs.Invalidating.{after_invalidate_all, after_register}
use Rattle.moka_hist.specs.Walking.{after_list, after_find, after_scan, judging}
use Rattle.moka_hist.specs.Writing.{nothing_answer, nothing_rest, old_stamp, once_told, removed_answer, removed_rest, said, after_moment, after_write, after_out, after_idle}
use Rattle.moka_hist.specs.Step.{access_of, after_table, after_visit, next_of}
use Rattle.moka_hist.specs.declared.accesses.Got.{Got}
use Rattle.moka_hist.specs.declared.accesses.Got.TheVariants as got
use Rattle.moka_hist.specs.declared.events.Op.TheVariants as op
use Rattle.moka_hist.specs.declared.events.Told.TheVariants as told
use Rattle.moka_hist.specs.declared.loads.Compute.{Compute}
use Rattle.moka_hist.specs.declared.loads.Load.{Load}
use Rattle.moka_hist.specs.declared.loads.Sought.{Sought}
use Rattle.moka_hist.specs.declared.records.Mode.{Mode}
use Rattle.moka_hist.specs.declared.records.Stored.{Stored}
use Rattle.moka_hist.specs.declared.replies.Answer.{Answer}
use Rattle.moka_hist.specs.declared.replies.Answer.TheVariants as answer
use Rattle.moka_hist.specs.declared.rules.Cause.{Cause}
use Rattle.moka_hist.specs.declared.rules.Rules.{Rules}
use Rattle.moka_hist.specs.declared.tables.TableAnswer.{TableAnswer}
use Rattle.moka_hist.specs.declared.tables.TableAnswer.TheVariants as table_answer
use Rattle.moka_hist.specs.declared.tables.TableTurn.{TableTurn}
use Rattle.moka_hist.specs.declared.tables.TableTurn.TheVariants as table
use Rattle.moka_hist.specs.declared.visits.Claim.TheVariants as claim
use Rattle.moka_hist.specs.declared.visits.Found.{Found}
use Rattle.moka_hist.specs.declared.visits.Found.TheVariants as found
use Rattle.moka_hist.specs.declared.visits.LockTaken.TheVariants as taken
use Rattle.moka_hist.specs.declared.visits.Settled.TheVariants as settled
use Rattle.moka_hist.specs.declared.writes.Write.{Write}
use Rattle.moka_bound.specs.Falling.{raised}
use Rattle.moka_init.specs.declared.flow.Flow.{Flow}
use Rattle.moka_init.specs.declared.points.Ending.{Ending}
use Rattle.moka_init.specs.declared.points.Ending.TheVariants as ending
use Rattle.moka_init.specs.declared.points.Locked.{Locked}
use Rattle.moka_init.specs.declared.points.Locked.TheVariants as locked
use Rattle.moka_init.specs.declared.points.Looking.TheVariants as looking
use Rattle.moka_init.specs.declared.points.Loading.TheVariants as loading
use Rattle.moka_init.specs.declared.points.Computing.TheVariants as computing
use Rattle.moka_init.specs.declared.points.Listening.TheVariants as listening
use Rattle.moka_init.specs.declared.points.Point.{Point}
use Rattle.moka_init.specs.declared.points.Point.TheVariants as point
use Rattle.moka_init.specs.declared.points.Maintenance.TheVariants as maintenance
use Rattle.moka_init.specs.declared.points.PostStep.TheVariants as step
use Rattle.moka_init.specs.declared.points.Posting.TheVariants as posting
use Rattle.moka_init.specs.declared.points.Put.{Put}
use Rattle.moka_init.specs.declared.points.Removal as removals
use Rattle.moka_init.specs.declared.points.Removal.TheVariants as removal
use Rattle.moka_init.specs.declared.points.Removing.TheVariants as removing
use Rattle.moka_init.specs.declared.points.TakeOut.{TakeOut}
use Rattle.moka_init.specs.declared.points.Then.{Then}
use Rattle.moka_init.specs.declared.points.Then.TheVariants as thens
use Rattle.moka_init.specs.declared.points.Walk.TheVariants as walk
use Rattle.moka_init.specs.declared.points.Writing.TheVariants as writing
use Rattle.moka_init.specs.FlowPlan.{call_of}
use Rattle.moka_init.specs.Grounds.{access_at, lists_in}
use Rattle.moka_init.specs.PointPlan.{locked_rest, plan_at, put_rest, says_nothing, settles}

-- ---- a step adds none

-- as many as the parts that are listed
lists_listed : (K V E : Type 0) (part parts : ℕ) → lists_in {K = K} {V = V} {E = E} (lists_from part parts (plan.Retire ∷ [])) ≡ parts
lists_listed K V E part zero = refl
lists_listed K V E part (suc parts) = ap suc (lists_listed K V E (part + 1) parts)

module _ {K V E : Type 0} where
  -- how many are left to a call that goes on, if it does
  abbrev pub left_lists : Option (Call K V E) → ℕ
  left_lists None = 0
  left_lists (Some c) = lists_in c.plan

  -- the call that is left, if any, makes at most so many lists
  abbrev pub Few : ℕ → Next K V E → Type 0
  Few b next = left_lists next.left ≤ b

  -- looks for listed keys are no lists
  pub finds_none : (keys : List K) (rest : List (Item K V E)) → lists_in (map plan.Find keys ++ rest) ≡ lists_in rest
  finds_none [] rest = refl
  finds_none (key ∷ keys) rest = finds_none keys rest

  pub goes_few : (b : ℕ) (c : Call K V E) (p : List (Item K V E)) → lists_in p ≤ b → Few b (goes c p)
  goes_few b c [] h = h
  goes_few b c (plan.Reply a ∷ []) h = omega arith
  goes_few b c (plan.Reply a ∷ x ∷ rest) h = h
  goes_few b c (item ∷ rest) h = h

  -- how many lists an item is followed by that the plan doesn't have yet
  abbrev lists_of : Item K V E → ℕ
  lists_of (plan.Candidates parts) = parts
  lists_of _ = 0

  module _ (b : ℕ) (c : Call K V E) (was : lists_in c.plan ≤ b) where
    end_few : (removal : Removal K) (a : Answer K V E) → lists_in (said removal a) ≡ 0
    end_few (plan.To_remove_as_told key) a = refl
    end_few _ a = refl

    keeps_few : Few b (keeps c)
    keeps_few = by c.rules.listener
      where
        by : (listener : Bool) → Few b (goes c (kept_rest listener))
        by true = goes_few b c (kept_rest true) (omega arith)
        by false = goes_few b c (kept_rest false) (omega arith)

    puts_few : (rules : Rules) (key : K) (value : V) (rest : List (Item K V E)) → lists_in rest ≡ 0 → Few b (goes c (put rules key value rest))
    puts_few rules key value rest none = by rules.listener
      where
        by : (listener : Bool) → Few b (goes c (put (record rules { listener = listener }) key value rest))
        by true = goes_few b c (put (record rules { listener = true }) key value rest) (omega (arith, none))
        by false = goes_few b c (put (record rules { listener = false }) key value rest) (omega (arith, none))

    misses_few : (aim : Aim K V) → Few b (misses c aim)
    misses_few (plan.To_insert key value) = puts_few c.rules key value _ refl
    misses_few (plan.To_evict key stamp cause) = keeps_few
    misses_few _ = omega arith

    hits_few : (aim : Aim K V) (there : K) (value : V) → Few b (hits c aim there value)
    hits_few (plan.To_evict key stamp cause) there value = was
    hits_few _ there value = omega arith

    chosen_few : (is : Bool) (key : K) (stamp : ℕ) (cause : Cause) (there : K) (stored : Stored V) → Few b (chosen_or_not c is key stamp cause there stored)
    chosen_few true key stamp cause there stored = omega arith
    chosen_few false key stamp cause there stored = keeps_few

    finds_few : (aim : Aim K V) (there : K) (stored : Stored V) → Few b (finds_pair c aim there stored)
    finds_few (plan.To_evict key stamp cause) there stored = chosen_few (stored.stamp == stamp) key stamp cause there stored
    finds_few _ there stored = omega arith

    get_few : (aim : Aim K V) (t : TableTurn K V) → Few b (after_get c aim t)
    get_few aim table.Going = was
    get_few aim (table.Decided table_answer.None) = misses_few aim
    get_few aim (table.Decided (table_answer.Some there stored)) = finds_few aim there stored
    get_few aim (table.Decided (table_answer.Keys keys)) = was

    write_few : (n : ℕ) (key : K) (rest : List (Item K V E)) → lists_in rest ≤ b → (t : TableTurn K V) → Few b (after_write n c key rest t)
    write_few n key rest h table.Going = was
    write_few n key rest h (table.Decided answer) = by c.rules.listener answer (old_stamp answer)
      where
        by : (listener : Bool) (answer : TableAnswer K V) (old : Option ℕ) → Few b (goes c (once_told listener key answer (plan.Post (Write.Upsert n old) ∷ rest)))
        by false answer old = goes_few b c (plan.Post (Write.Upsert n old) ∷ rest) h
        by true table_answer.None old = h
        by true (table_answer.Some there stored) old = h
        by true (table_answer.Keys keys) old = h

    nothing_few : (listener : Bool) (removal : Removal K) → Few b (goes c (nothing_rest listener removal))
    nothing_few true removal = omega (arith, end_few removal (nothing_answer removal))
    nothing_few false removal = omega (arith, end_few removal (nothing_answer removal))

    removed_few : (listener : Bool) (n : ℕ) (removal : Removal K) (key : K) (stored : Stored V) → Few b (goes c (removed_rest listener n removal key stored))
    removed_few true n removal key stored = omega (arith, end_few removal (removed_answer removal stored.value))
    removed_few false n removal key stored = omega (arith, end_few removal (removed_answer removal stored.value))

    out_few : (n : ℕ) (removal : Removal K) (key : K) (t : TableTurn K V) → Few b (after_out n c removal key t)
    out_few n removal key table.Going = was
    out_few n removal key (table.Decided table_answer.None) = nothing_few c.rules.listener removal
    out_few n removal key (table.Decided (table_answer.Some there stored)) = removed_few c.rules.listener n removal key stored
    out_few n removal key (table.Decided (table_answer.Keys keys)) = was

    -- ---- visits, by the item

    module _ (rest : List (Item K V E)) (less : lists_in rest ≤ b) where
      drain_few : (f : Found V E) → Few b (after_drain c rest f)
      drain_few (found.TakeOwed None) = goes_few b c rest less
      drain_few (found.TakeOwed (Some owed)) = by owed.notice owed.write
        where
          by : (notice : Option ℕ) (write : Write) → Few b (goes c (once_ended notice (plan.Post write ∷ plan.Drain ∷ rest)))
          by None write = less
          by (Some number) write = less
      drain_few _ = was

      post_few : (write : Write) (f : Found V E) → Few b (after_post c write rest f)
      post_few write (found.PostWrite true) = goes_few b c rest less
      post_few write (found.PostWrite false) = less
      post_few write _ = was

      turn_few : (f : Found V E) → Few b (after_turn c rest f)
      turn_few (found.TakeTurn true) = goes_few b c rest less
      turn_few (found.TakeTurn false) = was
      turn_few _ = was

      apply_few : (f : Found V E) → Few b (after_apply c rest f)
      apply_few (found.ApplyOne true) = less
      apply_few (found.ApplyOne false) = goes_few b c rest less
      apply_few _ = was

      ends_few : (f : Found V E) → Few b (after_end c rest f)
      ends_few found.EndTurn = goes_few b c rest less
      ends_few _ = was

      settle_few : (f : Found V E) → Few b (after_settle c rest f)
      settle_few found.Settle = goes_few b c rest less
      settle_few _ = was

      lock_few : (f : Found V E) → Few b (after_lock c rest f)
      lock_few (found.LockKey taken.Taken) = goes_few b c rest less
      lock_few (found.LockKey taken.Held) = was
      lock_few (found.LockKey (taken.Kept notice)) = was
      lock_few _ = was

      unlock_few : (f : Found V E) → Few b (after_unlock c rest f)
      unlock_few found.UnlockKey = goes_few b c rest less
      unlock_few _ = was

      notice_few : (key : K) (old : Stored V) (f : Found V E) → Few b (after_notice c key old rest f)
      notice_few key old (found.OpenNotice None) = goes_few b c rest less
      notice_few key old (found.OpenNotice (Some cause)) = less
      notice_few key old _ = was

      hearing_few : (f : Found V E) → Few b (after_hearing c rest f)
      hearing_few (found.NoticeEnded true) = goes_few b c rest less
      hearing_few (found.NoticeEnded false) = was
      hearing_few _ = was

      moment_few : (change : Change K V) (f : Found V E) → Few b (after_moment c change rest f)
      moment_few (plan.To_store key value) (found.StampMoment moment) = less
      moment_few (plan.To_take_out removal key) (found.StampMoment moment) = less
      moment_few change _ = was

      idle_few : (f : Found V E) → Few b (after_idle c rest f)
      idle_few (found.Clock moment) = goes_few b c rest less
      idle_few _ = was

      all_few : (f : Found V E) → Few b (after_invalidate_all c rest f)
      all_few found.InvalidateAll = goes_few b c rest less
      all_few _ = was

      register_few : (f : Found V E) → Few b (after_register c f)
      register_few (found.Register registering) = omega arith
      register_few _ = was

      scan_few : (there : K) (stored : Stored V) (f : Found V E) → Few b (after_scan c there stored rest f)
      scan_few there stored (found.Scan true) = less
      scan_few there stored (found.Scan false) = goes_few b c rest less
      scan_few there stored _ = was

      strike_few : (f : Found V E) → Few b (after_strike c rest f)
      strike_few (found.Strike left) = goes_few b (carrying c left) rest less
      strike_few _ = was

      retire_few : (f : Found V E) → Few b (after_retire c f)
      retire_few found.Retire = omega arith
      retire_few _ = was

      find_few : (t : TableTurn K V) → Few b (after_find c rest t)
      find_few table.Going = was
      find_few (table.Decided table_answer.None) = goes_few b c rest less
      find_few (table.Decided (table_answer.Some there stored)) = by c.carried
        where
          by : (ids : Option (List (ℕ × ℕ))) → Few b (goes c (judging ids there stored ∷ rest))
          by None = less
          by (Some ids) = less
      find_few (table.Decided (table_answer.Keys keys)) = was

      list_few : (t : TableTurn K V) → Few b (after_list c rest t)
      list_few table.Going = was
      list_few (table.Decided table_answer.None) = was
      list_few (table.Decided (table_answer.Some there stored)) = was
      list_few (table.Decided (table_answer.Keys keys)) =
          goes_few b c (map plan.Find keys ++ rest) (omega (arith, less, finds_none keys rest))

    candidates_few : (parts : ℕ) → parts ≤ b → (f : Found V E) → Few b (after_candidates c parts f)
    candidates_few parts all (found.Candidates []) = omega arith
    candidates_few parts all (found.Candidates (id ∷ more)) =
        goes_few b (carrying c (id ∷ more)) (lists_from 0 parts (plan.Retire ∷ [])) (omega (arith, all, lists_listed K V E 0 parts))
    candidates_few parts all _ = was

    judge_few : (aim : Aim K V) (there : K) (stored : Stored V) (f : Found V E) → Few b (after_judge c aim there stored f)
    judge_few aim there stored (found.Judge true) = hits_few aim there stored.value
    judge_few aim there stored (found.Judge false) = misses_few aim
    judge_few aim there stored _ = was

    holds_few : (key : K) (stamp : ℕ) (cause : Cause) (f : Found V E) → Few b (after_holds c key stamp cause f)
    holds_few key stamp cause (found.Holds true) = omega arith
    holds_few key stamp cause (found.Holds false) = keeps_few
    holds_few key stamp cause _ = was

    own_few : (sought : Sought K) (f : Found V E) → Few b (after_own c sought f)
    own_few sought (found.WaitOrOwn claim.Owner) = by (is_disabled c.rules)
      where
        by : (disabled : Bool) → Few b (goes c (owner_rest disabled sought))
        by true = omega arith
        by false = omega arith
    own_few sought (found.WaitOrOwn (claim.Waits owner)) = omega arith
    own_few sought _ = was

    abort_few : (sought : Sought K) → Few b (after_abort c sought)
    abort_few sought = by (c.aborts + 1 == retries)
      where
        by : (spent : Bool) → Few b (cond spent (answers answer.RetriesExhausted) (goes (record c { aborts = c.aborts + 1 }) (plan.Own sought ∷ [])))
        by true = omega arith
        by false = omega arith

    read_few : (sought : Sought K) (f : Found V E) → Few b (after_read c sought f)
    read_few sought (found.ReadSettled settled.Aborted) = abort_few sought
    read_few sought (found.ReadSettled settled.NotYet) = was
    read_few sought (found.ReadSettled with) = omega arith
    read_few sought _ = was

    ask_few : (load : Load K) (f : Found V E) → Few b (after_ask c load f)
    ask_few load found.OpenAsk = omega arith
    ask_few load _ = was

    loaded_few : (load : Load K) (value : V) → Few b (goes c (loaded c.rules load value))
    loaded_few load value = by (is_disabled c.rules)
      where
        by : (disabled : Bool) → Few b (goes c (load_rest disabled c.rules load.key value))
        by true = omega arith
        by false = puts_few c.rules load.key value _ refl

    told_few : (load : Load K) (f : Found V E) → Few b (after_told c load f)
    told_few load (found.TakeTold (Some (told.Value value))) = loaded_few load value
    told_few load (found.TakeTold (Some (told.Err error))) = omega arith
    told_few load (found.TakeTold (Some told.Nothing)) = omega arith
    told_few load (found.TakeTold None) = was
    told_few load (found.TakeTold (Some (told.Op o))) = was
    told_few load (found.TakeTold (Some told.Done)) = was
    told_few load (found.TakeTold (Some told.Off)) = was
    told_few load _ = was

    compute_few : (compute : Compute K) → Few b (goes c (compute_rest (is_disabled c.rules) compute))
    compute_few compute = by (is_disabled c.rules)
      where
        by : (disabled : Bool) → Few b (goes c (compute_rest disabled compute))
        by true = omega arith
        by false = omega arith

    report_few : (key : K) → Few b (goes c (report_rest (is_disabled c.rules) key))
    report_few key = by (is_disabled c.rules)
      where
        by : (disabled : Bool) → Few b (goes c (report_rest disabled key))
        by true = omega arith
        by false = omega arith

    own_key_few : (compute : Compute K) (f : Found V E) → Few b (after_own_key c compute f)
    own_key_few compute (found.WaitOrOwn claim.Owner) = compute_few compute
    own_key_few compute (found.WaitOrOwn (claim.Waits owner)) = omega arith
    own_key_few compute _ = was

    own_alone_few : (key : K) (f : Found V E) → Few b (after_own_alone c key f)
    own_alone_few key (found.OwnAlone true) = report_few key
    own_alone_few key (found.OwnAlone false) = compute_few _
    own_alone_few key _ = was

    read_key_few : (compute : Compute K) (f : Found V E) → Few b (after_read_key c compute f)
    read_key_few compute (found.ReadSettled settled.NotYet) = was
    read_key_few compute (found.ReadSettled with) = omega arith
    read_key_few compute _ = was

    ask_op_few : (compute : Compute K) (pair : Option (K × V)) (f : Found V E) → Few b (after_ask_op c compute pair f)
    ask_op_few compute pair found.OpenAsk = omega arith
    ask_op_few compute pair _ = was

    put_told_few : (key : K) (pair : Option (K × V)) (value : V) → Few b (goes c (put_told (is_disabled c.rules) c key pair value))
    put_told_few key pair value = by (is_disabled c.rules)
      where
        by : (disabled : Bool) → Few b (goes c (put_told disabled c key pair value))
        by true = omega arith
        by false = puts_few c.rules key value (end_compute (put_answer key pair value)) refl

    takes_out_few : (key : K) → Few b (goes c (take_out c.rules (plan.To_remove_as_told key) key))
    takes_out_few key = by c.rules.listener
      where
        by : (listener : Bool) → Few b (goes c (take_out (record c.rules { listener = listener }) (plan.To_remove_as_told key) key))
        by true = omega arith
        by false = omega arith

    told_op_few : (compute : Compute K) (pair : Option (K × V)) (f : Found V E) → Few b (after_told_op c compute pair f)
    told_op_few compute pair (found.TakeTold (Some (told.Op op.Nop))) = omega arith
    told_op_few compute pair (found.TakeTold (Some (told.Op (op.Put value)))) = put_told_few compute.key pair value
    told_op_few compute pair (found.TakeTold (Some (told.Value value))) = put_told_few compute.key pair value
    told_op_few compute pair (found.TakeTold (Some (told.Op op.Remove))) = takes_out_few compute.key
    told_op_few compute pair (found.TakeTold (Some (told.Err error))) = omega arith
    told_op_few compute pair (found.TakeTold None) = was
    told_op_few compute pair (found.TakeTold (Some told.Nothing)) = was
    told_op_few compute pair (found.TakeTold (Some told.Done)) = was
    told_op_few compute pair (found.TakeTold (Some told.Off)) = was
    told_op_few compute pair _ = was

    -- ---- any step

    module _ (rest : List (Item K V E)) (less : lists_in rest ≤ b) where
      table_few : (n : ℕ) (item : Item K V E) (t : TableTurn K V) → Few b (after_table n c item rest t)
      table_few n (plan.Get aim key) t = get_few aim t
      table_few n (plan.Write key value moment) t = write_few n key rest less t
      table_few n (plan.Out removal key) t = out_few n removal key t
      table_few n (plan.List_keys part) t = list_few rest less t
      table_few n (plan.Find key) t = find_few rest less t
      table_few n _ t = was

      visit_few : (item : Item K V E) (f : Found V E) → lists_of item ≤ b → Few b (after_visit c item rest f)
      visit_few plan.Drain f all = drain_few rest less f
      visit_few (plan.Ended number) f all = hearing_few rest less f
      visit_few (plan.Post write) f all = post_few rest less write f
      visit_few plan.Turn f all = turn_few rest less f
      visit_few plan.Apply f all = apply_few rest less f
      visit_few plan.End f all = ends_few rest less f
      visit_few (plan.Judge aim key stored) f all = judge_few aim key stored f
      visit_few (plan.Own sought) f all = own_few sought f
      visit_few (plan.Read sought) f all = read_few sought f
      visit_few (plan.Settle with) f all = settle_few rest less f
      visit_few (plan.Ask load) f all = ask_few load f
      visit_few (plan.Told load) f all = told_few load f
      visit_few (plan.Own_key compute) f all = own_key_few compute f
      visit_few (plan.Own_alone key) f all = own_alone_few key f
      visit_few (plan.Read_key compute) f all = read_key_few compute f
      visit_few (plan.Ask_op compute pair) f all = ask_op_few compute pair f
      visit_few (plan.Told_op compute pair) f all = told_op_few compute pair f
      visit_few (plan.Lock key) f all = lock_few rest less f
      visit_few (plan.Unlock wrote) f all = unlock_few rest less f
      visit_few (plan.Notice key old cause upsert) f all = notice_few rest less key old f
      visit_few plan.Heard f all = hearing_few rest less f
      visit_few (plan.Holds key stamp cause there stored) f all = holds_few key stamp cause f
      visit_few (plan.Moment change) f all = moment_few rest less change f
      visit_few plan.Idle f all = idle_few rest less f
      visit_few plan.Invalidate_all f all = all_few rest less f
      visit_few (plan.Register test) f all = register_few rest less f
      visit_few (plan.Candidates parts) f all = candidates_few parts all f
      visit_few (plan.Strike there stored) f all = strike_few rest less f
      visit_few plan.Retire f all = retire_few rest less f
      visit_few (plan.Scan there stored) f all = scan_few rest less there stored f
      visit_few (plan.Reply a) f all = omega arith
      visit_few _ f all = was

  -- as many lists as the rest of the plan are at most those of the plan
  rest_few : (item : Item K V E) (rest : List (Item K V E)) → lists_in rest ≤ lists_in (item ∷ rest)
  rest_few (plan.List_keys part) rest = omega arith
  rest_few (plan.Candidates parts) rest = omega arith
  rest_few _ rest = omega arith

  of_few : (item : Item K V E) (rest : List (Item K V E)) → lists_of item ≤ lists_in (item ∷ rest)
  of_few (plan.Candidates parts) rest = omega arith
  of_few _ rest = omega arith

  pub step_few : (n : ℕ) (r : Rules) (m : Mode) (items : List (Item K V E)) (aborts : ℕ) (ids : Option (List (ℕ × ℕ))) (given : Got K V E) →
      Few (lists_in items) (next_of n (record { rules = r; mode = m; plan = items; aborts = aborts; carried = ids }) given)
  step_few n r m [] aborts ids given = omega arith
  step_few n r m (item ∷ rest) aborts ids (got.Table t) =
      table_few (lists_in (item ∷ rest)) (record { rules = r; mode = m; plan = item ∷ rest; aborts = aborts; carried = ids }) (omega arith) rest (rest_few item rest) n item t
  step_few n r m (item ∷ rest) aborts ids (got.Desk f) =
      visit_few (lists_in (item ∷ rest)) (record { rules = r; mode = m; plan = item ∷ rest; aborts = aborts; carried = ids }) (omega arith) rest (rest_few item rest) item f (of_few item rest)

  -- one fewer after a list that gave keys
  pub listed_fewer : (c : Call K V E) (rest : List (Item K V E)) (keys : List K) → Few (lists_in rest) (after_list c rest (table.Decided (table_answer.Keys keys)))
  listed_fewer c rest keys = goes_few (lists_in rest) c (map plan.Find keys ++ rest) (omega (arith, finds_none keys rest))

-- ---- what follows a write, an end or nothing found makes none

module _ (K V E : Type 0) where
  settles_none : (e : Ending V E) → lists_in (settles {K = K} e) ≡ 0
  settles_none (ending.Ready value fresh) = refl
  settles_none (ending.Err error) = refl
  settles_none ending.Nothing = refl

  put_none : (p : Put K V) → lists_in {E = E} (put_rest p) ≡ 0
  put_none p = by p.then
    where
      by : (t : Then) → lists_in {E = E} (put_rest (record p { then = t })) ≡ 0
      by thens.Done = refl
      by thens.Settle = refl
      by thens.Loaded = refl
      by (thens.Compute replaced) = refl

  says_none : (t : TakeOut K) → lists_in {V = V} {E = E} (says_nothing t) ≡ 0
  says_none t = by t.removal
    where
      by : (r : removals.Removal) → lists_in {V = V} {E = E} (says_nothing (record t { removal = r })) ≡ 0
      by removal.Invalidate = refl
      by removal.Remove = refl
      by (removal.Evict stamp cause) = refl
      by removal.Compute = refl

  locked_none : (l : Locked K V) → lists_in {E = E} (locked_rest l) ≡ 0
  locked_none (locked.Put p) = put_none p
  locked_none (locked.TakeOut t) = refl
  locked_none (locked.Find c) = refl

  -- ---- a call that may add a key has none to make

  -- only a write may add a key
  only_writes : (n : ℕ) (c : Call K V E) (given : Got K V E) → 0 < raised (access_of n c) given →
      (key : K) × (value : V) × (moment : ℕ) × (rest : List (Item K V E)) × (c.plan ≡ plan.Write key value moment ∷ rest)
  only_writes n c given adds = by c.plan refl adds
    where
      by : (p : List (Item K V E)) → c.plan ≡ p → 0 < raised (access_of n (record c { plan = p })) given →
          (key : K) × (value : V) × (moment : ℕ) × (rest : List (Item K V E)) × (c.plan ≡ plan.Write key value moment ∷ rest)
      by (plan.Write key value moment ∷ rest) e more = (key, value, moment, rest, e)
      by [] e more = absurd (omega (arith, more))
      by (_ ∷ rest) e more = absurd (omega (arith, more))

  write_alone : (p : Point K V E) (key : K) (value : V) (moment : ℕ) (rest : List (Item K V E)) → plan_at p ≡ plan.Write key value moment ∷ rest → lists_in (plan_at p) ≡ 0
  write_alone (point.Writing (writing.Write q at)) key value moment rest e = put_none q
  write_alone (point.Writing (writing.Moment q)) key value moment rest e = put_none q
  write_alone (point.Posting (posting.Drain then)) key value moment rest e = absurd cc
  write_alone (point.Posting (posting.Held step.Hear write then)) key value moment rest e = absurd cc
  write_alone (point.Posting (posting.Held step.Unlock write then)) key value moment rest e = absurd cc
  write_alone (point.Posting (posting.Held step.Post write then)) key value moment rest e = absurd cc
  write_alone (point.Posting (posting.Held step.Turn write then)) key value moment rest e = absurd cc
  write_alone (point.Posting (posting.Held step.Apply write then)) key value moment rest e = absurd cc
  write_alone (point.Posting (posting.Held step.End write then)) key value moment rest e = absurd cc
  write_alone (point.Looking (looking.Get l)) key value moment rest e = refl
  write_alone (point.Looking (looking.Judge l there stored)) key value moment rest e = refl
  write_alone (point.Loading (loading.Settle ends)) key value moment rest e = settles_none ends
  write_alone (point.Loading _) key value moment rest e = refl
  write_alone (point.Computing (computing.Own compute)) key value moment rest e = refl
  write_alone (point.Computing (computing.OwnAlone there)) key value moment rest e = refl
  write_alone (point.Computing (computing.Read compute)) key value moment rest e = refl
  write_alone (point.Computing (computing.Ask compute found copy)) key value moment rest e = refl
  write_alone (point.Computing (computing.Told compute found)) key value moment rest e = refl
  write_alone (point.Computing (computing.Settle answer)) key value moment rest e = refl
  write_alone (point.Removing (removing.Idle t)) key value moment rest e = says_none t
  write_alone (point.Removing _) key value moment rest e = refl
  write_alone (point.Listening (listening.Ended number write then)) key value moment rest e = absurd cc
  write_alone (point.Listening (listening.Lock l)) key value moment rest e = locked_none l
  write_alone (point.Listening (listening.Notice there old cause upsert write then)) key value moment rest e = absurd cc
  write_alone (point.Listening (listening.Uncopied there old write then)) key value moment rest e = absurd cc
  write_alone (point.Listening (listening.Release t)) key value moment rest e = says_none t
  write_alone (point.Walking (walk.List part)) key value moment rest e = absurd cc
  write_alone (point.Walking (walk.Find there more)) key value moment rest e = absurd cc
  write_alone (point.Walking (walk.Scan there stored more)) key value moment rest e = absurd cc
  write_alone (point.Maintaining (maintenance.Turn parts)) key value moment rest e = absurd cc
  write_alone (point.Maintaining (maintenance.Apply parts)) key value moment rest e = absurd cc
  write_alone (point.Maintaining (maintenance.End parts)) key value moment rest e = absurd cc
  write_alone (point.Maintaining (maintenance.Candidates parts)) key value moment rest e = absurd cc
  write_alone (point.Maintaining (maintenance.List part ids)) key value moment rest e = absurd cc
  write_alone (point.Maintaining (maintenance.Find there more ids)) key value moment rest e = absurd cc
  write_alone (point.Maintaining (maintenance.Strike there stored more ids)) key value moment rest e = absurd cc
  write_alone (point.Maintaining (maintenance.Retire ids)) key value moment rest e = absurd cc
  write_alone point.InvalidatingAll key value moment rest e = refl
  write_alone (point.Registering test) key value moment rest e = refl
  write_alone (point.Answering a) key value moment rest e = refl
  write_alone point.Spent key value moment rest e = refl

  pub adds_none : (flow : Flow K V E) (given : Got K V E) → 0 < raised (access_at flow) given → lists_in (call_of flow).plan ≡ 0
  adds_none flow given adds =
      let w = only_writes flow.call (call_of flow) given adds in write_alone flow.point w.0 w.1 w.2 w.3 w.4
