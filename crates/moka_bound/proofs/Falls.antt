-- Each step that leaves a call going lowers how many it may still make.
use Rattle.std.proofs.Common.{◌≡◌, ◌≢◌, ℕ, zero, suc, ◌+◌, ◌*◌, ◌<◌, ◌≤◌, ◌==◌, nat_lt, not, Bool, true, false, cond, List, [], ◌∷◌, ◌++◌, length, map, drop, Option, Some, None, is_some, unwrap_or, refl, sym, ap, ◌∙◌, subst, arith}
use Rattle.std.proofs.lemmas.List.{length-append}
use Rattle.std.proofs.lemmas.Bool.{eq-eqb}
use Rattle.std.proofs.lemmas.Bool.Decides.{nat_tests}
use Rattle.moka_hist.specs.State.{Call, DeskPart, World}
use Rattle.moka_hist.specs.Plan.{Item, Aim, Change, Removal, look, loaded, load_rest, end_load, put, take_out, under_lock, is_disabled, lists_from, walks}
use Rattle.moka_hist.specs.Plan as plan
use Rattle.moka_hist.specs.Next.{Next, goes, stays, waits, gives, asks, answers}
use Rattle.moka_hist.specs.Visits.{claimed, claimed_alone, unlocked, is_running, is_unlocked_for, lock_taken, locked_by, settlement_for, is_free_for, finds, claim_of, has_room, is_seen, registering, candidates, struck}
use Rattle.moka_hist.specs.Posting.{once_ended, after_drain, after_post, after_turn, after_apply}
use Rattle.moka_hist.specs.Looking.{hits, misses, keeps, kept_rest, chosen_or_not, finds_pair, after_get, after_judge, after_holds}
use Rattle.moka_hist.specs.Loading.{retries, owner_rest, after_own, after_read, after_told}
use Rattle.moka_hist.specs.Writing.{old_stamp, once_told, changes, nothing_answer, nothing_rest, removed_answer, removed_rest, said, after_out}
use Rattle.moka_hist.specs.Entries.{unchanged}
use Rattle.moka_hist.specs.Conditions.{HasUnsettled}
use Rattle.moka_hist.specs.Computing.{compute_rest, report_rest, end_compute, put_told, after_own_key, after_own_alone, after_read_key, after_told_op}
use Rattle.moka_hist.specs.Listening.{after_lock, after_hearing, after_notice}
use Rattle.moka_hist.specs.Invalidating.{registering_answer}
use Rattle.moka_hist.specs.Maintenance.{after_candidates, carrying}
use Rattle.moka_hist.specs.Walking.{after_list, after_find, after_scan, judging}
use Rattle.moka_hist.specs.Step.{Access, Gets, May, access_of, access_for, replace_of, next_of, after_table, after_visit, going_as}
use Rattle.moka_hist.specs.declared.records.Mode.{Mode}
use Rattle.moka_hist.specs.declared.records.Stored.{Stored}
use Rattle.moka_hist.specs.declared.rules.Cause.{Cause}
use Rattle.moka_hist.specs.declared.rules.Rules.{Rules}
use Rattle.moka_hist.specs.declared.writes.Owed.{Owed}
use Rattle.moka_hist.specs.declared.records.Mode.TheVariants as mode
use Rattle.moka_hist.specs.declared.loads.Load.{Load}
use Rattle.moka_hist.specs.declared.loads.Sought.{Sought}
use Rattle.moka_hist.specs.declared.loads.Compute.{Compute}
use Rattle.moka_hist.specs.declared.loads.Kind.TheVariants as kind
use Rattle.moka_hist.specs.declared.visits.Takes.TheVariants as takes
use Rattle.moka_hist.specs.declared.events.Op.TheVariants as op
use Rattle.moka_hist.specs.declared.replies.Answer.{Answer}
use Rattle.moka_hist.specs.declared.events.Told.{Told}
use Rattle.moka_hist.specs.declared.events.Told.TheVariants as told
use Rattle.moka_hist.specs.declared.writes.Write.{Write}
use Rattle.moka_hist.specs.declared.writes.Write.TheVariants.{Upsert}
use Rattle.moka_hist.specs.declared.replies.Ask.TheVariants as ask
use Rattle.moka_hist.specs.declared.visits.Claim.{Claim}
use Rattle.moka_hist.specs.declared.visits.Claim.TheVariants as claim
use Rattle.moka_hist.specs.declared.visits.Settled.{Settled}
use Rattle.moka_hist.specs.declared.visits.Settled.TheVariants as settled
use Rattle.moka_hist.specs.declared.visits.Visit.TheVariants as visit
use Rattle.moka_hist.specs.declared.visits.Found.{Found}
use Rattle.moka_hist.specs.declared.visits.Found.TheVariants as found
use Rattle.moka_hist.specs.declared.visits.LockTaken.{LockTaken}
use Rattle.moka_hist.specs.declared.visits.LockTaken.TheVariants as taken
use Rattle.moka_hist.specs.declared.replies.Answer.TheVariants as answer
use Rattle.moka_hist.specs.declared.tables.TableAnswer.{TableAnswer}
use Rattle.moka_hist.specs.declared.tables.TableAnswer.TheVariants as table_answer
use Rattle.moka_hist.specs.declared.tables.TableTurn.TheVariants as table
use Rattle.moka_hist.specs.declared.accesses.Got.{Got}
use Rattle.moka_hist.specs.declared.accesses.Got.TheVariants as got
use Rattle.moka_hist.specs.declared.accesses.Turn.TheVariants as turn
use Rattle.moka_bound.specs.Ahead.{Work, growth, post_steps, judge_steps, own_key_steps, steps_of, holds_steps, ahead, ahead_of_plan}
use Rattle.moka_bound.specs.Falling.{Counts, Shortens, GoingFalls, raised, keys_in}
use Rattle.moka_bound.proofs.More.{more, judge_more, ended_worst, post_worst}

-- whether the log has room for a write
abbrev room_in : Work → Bool
room_in work = nat_lt work.logged work.size

-- no more is owed than before, and operations stay undecided for no longer
record Eases (old new : Work) : Type 0 where
  owed : new.owed ≤ old.owed
  most : new.most ≤ old.most
  within : new.left ≤ new.most

-- nothing else has changed either
record Same (old new : Work) : Type 0 where
  eases : Eases old new
  logged : new.logged ≡ old.logged
  size : new.size ≡ old.size

same_rooms : (old new : Work) → Same old new → post_steps (room_in new) ≤ post_steps (room_in old)
same_rooms old new s = rw (s.logged, s.size) (omega arith)

some_left : (k : ℕ) → nat_lt 0 (suc k) ≡ true
some_left k = grind (arith, nat_tests)

some_room : (size : ℕ) → 0 < size → nat_lt 0 size ≡ true
some_room size h = grind (arith, nat_tests)

product_more : (a b c d : ℕ) → a ≤ b → c ≤ d → a * (c + 2) ≤ b * (d + 2)
product_more a b c d h k = grind arith

product_none : (a b c : ℕ) → a ≡ 0 → a * b ≤ c
product_none a b c e = rw e (omega arith)

-- so many keys fewer are yet to be listed after a list that gave them
listed_less : (k given j most less : ℕ) → k + given ≤ j → less ≤ most → k * (less + 2) + given * (less + 2) ≤ j * (most + 2)
listed_less k given j most less h m =
    let p : (k + given) * (less + 2) ≤ j * (most + 2) = product_more (k + given) j less most h m in omega arith

module _ {K V E : Type 0} where
  -- the item lists, and its operation gave keys
  abbrev lists : Item K V E → Got K V E → Bool
  lists (plan.List_keys part) (got.Table (table.Decided (table_answer.Keys keys))) = true
  lists _ _ = false

  -- the call, if it goes on, has fewer steps ahead than so many, but for keys that are yet to be listed
  abbrev Falls : Work → ℕ → Next K V E → Type 0
  Falls new bound next = next.turn ≡ turn.Going → (d : Call K V E) × (next ≡ going_as d) × (ahead_of_plan new d < bound)

  never : (new : Work) (bound : ℕ) (next : Next K V E) → next.turn ≢ turn.Going → Falls new bound next
  never new bound next h e = absurd (h e)

  falls_on : (new : Work) (bound : ℕ) (c : Call K V E) → ahead_of_plan new c < bound → Falls new bound (record { left = Some c; turn = turn.Going })
  falls_on new bound c h e = (c, refl, h)

  falls_goes : (new : Work) (bound : ℕ) (c : Call K V E) (rest : List (Item K V E)) →
      new.logged + steps_of new.owed new.most c.aborts (room_in new) new.left new.ended rest < bound → Falls new bound (goes c rest)
  falls_goes new bound c [] h = falls_on new bound (record c { mode = mode.Mid; plan = [] }) h
  falls_goes new bound c (plan.Reply a ∷ []) h = never new bound (answers a) (λ e. cc)
  falls_goes new bound c (plan.Reply a ∷ x ∷ rest) h = falls_on new bound (record c { mode = mode.Mid; plan = plan.Reply a ∷ x ∷ rest }) h
  falls_goes new bound c (item ∷ rest) h = falls_on new bound (record c { mode = mode.Mid; plan = item ∷ rest }) h

  -- the plan takes no more steps than before, with this room in the log
  eased : (old new : Work) (aborts : ℕ) (room : Bool) (p : List (Item K V E)) → Eases old new → post_steps (room_in new) ≤ post_steps room →
      steps_of new.owed new.most aborts (room_in new) new.left new.ended p ≤ steps_of old.owed old.most aborts room old.most true p
  eased old new aborts room p e r = more p new.owed old.owed new.most old.most aborts new.left old.most (room_in new) room new.ended true e.owed e.most (omega (arith, e.most, e.within)) r (ended_worst new.ended)

  -- where nothing has changed, the call goes on with a plan that takes fewer steps
  same_falls : (old new : Work) (bound : ℕ) (c : Call K V E) (rest : List (Item K V E)) → Same old new →
      old.logged + steps_of old.owed old.most c.aborts (room_in old) old.most true rest < bound → Falls new bound (goes c rest)
  same_falls old new bound c rest s h =
      let e = eased old new c.aborts (room_in old) rest s.eases (same_rooms old new s) in
      falls_goes new bound c rest (omega (arith, e, h, s.logged))

  -- ---- the items that may leave the call going

  module _ (old new : Work) (c : Call K V E) (young : c.aborts < retries) where
    -- what a plan takes, where the call stands at its first item
    abbrev bound_of : List (Item K V E) → ℕ
    bound_of p = old.logged + steps_of old.owed old.most c.aborts (room_in old) old.left old.ended p

    drains : (rest : List (Item K V E)) → Same old new → Falls new (bound_of (plan.Drain ∷ rest)) (goes c rest)
    drains rest s =
        let e = eased old new c.aborts false rest s.eases (post_worst (room_in new)) in
        falls_goes new _ c rest (omega (arith, e, s.logged))

    takes_up : (x : Owed) (rest : List (Item K V E)) → Eases old new → new.logged ≡ old.logged → new.owed + 1 ≡ old.owed →
        Falls new (bound_of (plan.Drain ∷ rest)) (goes c (once_ended x.notice (plan.Post x.write ∷ plan.Drain ∷ rest)))
    takes_up x rest e l o =
        let h = more rest new.owed old.owed new.most old.most c.aborts new.most old.most false false true true e.owed e.most e.most (post_worst false) (ended_worst true) in
        by x.notice h (post_worst (room_in new))
      where
        by : (notice : Option ℕ) → steps_of new.owed new.most c.aborts false new.most true rest ≤ steps_of old.owed old.most c.aborts false old.most true rest →
            post_steps (room_in new) ≤ post_steps false →
            Falls new (bound_of (plan.Drain ∷ rest)) (goes c (once_ended notice (plan.Post x.write ∷ plan.Drain ∷ rest)))
        by None h r = falls_goes new _ c (plan.Post x.write ∷ plan.Drain ∷ rest) (omega (arith, h, r, l, o))
        by (Some notice) h r = falls_goes new _ c (plan.Ended notice ∷ plan.Post x.write ∷ plan.Drain ∷ rest) (omega (arith, h, r, l, o))

    posts : (x : Write) (rest : List (Item K V E)) → Eases old new → new.logged ≡ old.logged + 1 → room_in old ≡ true →
        Falls new (bound_of (plan.Post x ∷ rest)) (goes c rest)
    posts x rest e l room =
        let h = eased old new c.aborts false rest e (post_worst (room_in new)) in
        falls_goes new _ c rest (omega (arith, h, l, ap post_steps room))

    applies_first : (x : Write) (rest : List (Item K V E)) → Same old new → room_in old ≡ false →
        Falls new (bound_of (plan.Post x ∷ rest)) (goes c (plan.Turn ∷ plan.Apply ∷ plan.End ∷ plan.Post x ∷ rest))
    applies_first x rest s room =
        same_falls old new _ c (plan.Turn ∷ plan.Apply ∷ plan.End ∷ plan.Post x ∷ rest) s (omega (arith, ap post_steps room))

    applied_all : (rest : List (Item K V E)) → Same old new → room_in new ≡ true → Falls new (bound_of (plan.Apply ∷ rest)) (goes c rest)
    applied_all rest s room =
        let h = eased old new c.aborts true rest s.eases (omega (arith, ap post_steps room)) in
        falls_goes new _ c rest (omega (arith, h, s.logged))

    applies_one : (rest : List (Item K V E)) → Eases old new → new.logged + 1 ≡ old.logged → Falls new (bound_of (plan.Apply ∷ rest)) (goes c (plan.Apply ∷ rest))
    applies_one rest e l =
        let h = more rest new.owed old.owed new.most old.most c.aborts new.most old.most true true true true e.owed e.most e.most (omega arith) (ended_worst true) in
        falls_goes new _ c (plan.Apply ∷ rest) (omega (arith, h, l))

    turns : (rest : List (Item K V E)) → Same old new → Falls new (bound_of (plan.Turn ∷ rest)) (goes c rest)
    turns rest s = same_falls old new _ c rest s (omega arith)

    ends : (rest : List (Item K V E)) → Same old new → Falls new (bound_of (plan.End ∷ rest)) (goes c rest)
    ends rest s = same_falls old new _ c rest s (omega arith)

    -- a step of its own, after which the rest follows
    passes : (rest : List (Item K V E)) → Same old new →
        Falls new (old.logged + (1 + steps_of old.owed old.most c.aborts false old.most true rest)) (goes c rest)
    passes rest s =
        let e = eased old new c.aborts false rest s.eases (post_worst (room_in new)) in
        falls_goes new _ c rest (omega (arith, e, s.logged))

    locks : (key : K) (rest : List (Item K V E)) (t : LockTaken) → Same old new → Falls new (bound_of (plan.Lock key ∷ rest)) (after_lock c rest (found.LockKey t))
    locks key rest taken.Taken s = passes rest s
    locks key rest taken.Held s = never new _ (waits c) (λ e. cc)
    locks key rest (taken.Kept notice) s = never new _ (waits c) (λ e. cc)

    hears : (rest : List (Item K V E)) (b : Bool) → Same old new →
        Falls new (old.logged + (1 + steps_of old.owed old.most c.aborts false old.most true rest)) (after_hearing c rest (found.NoticeEnded b))
    hears rest true s = passes rest s
    hears rest false s = never new _ (waits c) (λ e. cc)

    -- the listener is asked, or it is off
    tells : (key : K) (stored : Stored V) (rest : List (Item K V E)) (cause : Cause) (off : Bool) → Same old new →
        Falls new (old.logged + (1 + steps_of old.owed old.most c.aborts false old.most true rest))
        (after_notice c key stored rest (found.OpenNotice (cond off None (Some cause))))
    tells key stored rest cause true s = passes rest s
    tells key stored rest cause false s = never new _ (asks c (ask.Listener key stored.value cause) (plan.Heard ∷ rest)) (λ e. cc)

    stamps : (change : Change K V) (moment : ℕ) (rest : List (Item K V E)) → Same old new →
        Falls new (bound_of (plan.Moment change ∷ rest)) (goes c (changes change moment rest))
    stamps (plan.To_store key value) moment rest s =
        same_falls old new _ c (plan.Write key value moment ∷ rest) s (omega arith)
    stamps (plan.To_take_out removal key) moment rest s =
        same_falls old new _ c (plan.Out removal key ∷ rest) s (omega arith)

    -- a chosen record stays
    kept_falls : (bound : ℕ) → Same old new → old.logged + 2 < bound → Falls new bound (keeps c)
    kept_falls bound s h = by c.rules.listener
      where
        by : (listener : Bool) → Falls new bound (goes c (kept_rest listener))
        by true = same_falls old new bound c (plan.Unlock false ∷ plan.Reply answer.Kept ∷ []) s (omega (arith, h))
        by false = never new bound (answers answer.Kept) (λ e. cc)

    holds_falls : (key : K) (stamp : ℕ) (cause : Cause) (b : Bool) → Same old new →
        Falls new (old.logged + holds_steps old.most) (after_holds c key stamp cause (found.Holds b))
    holds_falls key stamp cause true s = same_falls old new _ c
        (plan.Moment (plan.To_take_out (plan.To_evict_chosen stamp cause) key) ∷ []) s (omega arith)
    holds_falls key stamp cause false s = kept_falls _ s (omega arith)

    -- what is left of a removal takes a step or two
    said_few : (removal : Removal K) (a : Answer K V E) → steps_of old.owed old.most c.aborts false old.most true (said removal a) ≤ 2
    said_few (plan.To_remove_as_told key) a = omega arith
    said_few _ a = omega arith

    -- nothing was found: the lock is freed, or the clock is read
    nothing_falls : (bound : ℕ) (removal : Removal K) (listener : Bool) → Same old new → old.logged + 3 < bound →
        Falls new bound (goes c (nothing_rest listener removal))
    nothing_falls bound removal true s h =
        let few = said_few removal (nothing_answer removal) in
        same_falls old new bound c (nothing_rest true removal) s (omega (arith, h, few))
    nothing_falls bound removal false s h =
        let few = said_few removal (nothing_answer removal) in
        same_falls old new bound c (nothing_rest false removal) s (omega (arith, h, few))

    removed_falls : (n bound : ℕ) (removal : Removal K) (key : K) (stored : Stored V) (listener : Bool) → Same old new →
        old.logged + 10 < bound → Falls new bound (goes c (removed_rest listener n removal key stored))
    removed_falls n bound removal key stored true s h =
        let few = said_few removal (removed_answer removal stored.value) in
        same_falls old new bound c (removed_rest true n removal key stored) s (omega (arith, h, few))
    removed_falls n bound removal key stored false s h =
        let few = said_few removal (removed_answer removal stored.value) in
        let r = post_worst (room_in old) in
        same_falls old new bound c (removed_rest false n removal key stored) s (omega (arith, h, few, r))

    misses_falls : (bound : ℕ) (aim : Aim K V) → Same old new → old.logged + judge_steps old.owed old.most c.aborts aim ≤ bound → Falls new bound (misses c aim)
    misses_falls bound (plan.To_evict key stamp cause) s h = kept_falls bound s (omega (arith, h))
    misses_falls bound (plan.To_show form) s h = never new bound (misses c (plan.To_show form)) (λ e. cc)
    misses_falls bound (plan.To_load sought) s h = same_falls old new bound c (plan.Own sought ∷ []) s (omega (arith, h))
    misses_falls bound (plan.To_own sought) s h = same_falls old new bound c (plan.Ask sought.load ∷ []) s (omega (arith, h))
    misses_falls bound (plan.To_compute compute) s h = same_falls old new bound c (plan.Ask_op compute None ∷ []) s (omega (arith, h))
    misses_falls bound (plan.To_insert key value) s h =
        same_falls old new bound c (put c.rules key value (plan.Reply (answer.Loaded value true) ∷ [])) s (by c.rules.listener)
      where
        by : (listener : Bool) → old.logged + steps_of old.owed old.most c.aborts (room_in old) old.most true
            (put {E = E} (record c.rules { listener = listener }) key value (plan.Reply (answer.Loaded value true) ∷ [])) < bound
        by true = omega (arith, h)
        by false = omega (arith, h)

    hits_falls : (bound : ℕ) (aim : Aim K V) (there : K) (value : V) → Same old new → old.logged + judge_steps old.owed old.most c.aborts aim ≤ bound → Falls new bound (hits c aim there value)
    hits_falls bound (plan.To_evict key stamp cause) there value s h = never new bound (waits c) (λ e. cc)
    hits_falls bound (plan.To_compute compute) there value s h =
        same_falls old new bound c (plan.Ask_op compute (Some (there, value)) ∷ []) s (omega (arith, h))
    hits_falls bound (plan.To_own sought) there value s h =
        same_falls old new bound c (plan.Settle (settled.Ready value) ∷ plan.Reply (answer.Loaded value false) ∷ []) s (omega (arith, h))
    hits_falls bound aim there value s h = never new bound (hits c aim there value) (λ e. cc)

    -- the record that was found is seen, or not
    judge_falls : (bound : ℕ) (aim : Aim K V) (there : K) (stored : Stored V) (seen : Bool) → Same old new →
        old.logged + judge_steps old.owed old.most c.aborts aim ≤ bound → Falls new bound (after_judge c aim there stored (found.Judge seen))
    judge_falls bound aim there stored true s h = hits_falls bound aim there stored.value s h
    judge_falls bound aim there stored false s h = misses_falls bound aim s h

    owns : (sought : Sought K) (k : Claim) → Same old new → Falls new (bound_of (plan.Own sought ∷ [])) (after_own c sought (found.WaitOrOwn k))
    owns sought claim.Owner s = by (is_disabled c.rules)
      where
        by : (disabled : Bool) → Falls new (bound_of (plan.Own sought ∷ [])) (goes c (owner_rest disabled sought))
        by false = same_falls old new _ c (look (plan.To_own sought) sought.load.key) s (omega (arith, young))
        by true = same_falls old new _ c (plan.Ask sought.load ∷ []) s (omega arith)
    owns sought (claim.Waits owner) s = same_falls old new _ c (plan.Read sought ∷ []) s (omega arith)

    starts_anew : (sought : Sought K) (spent : Bool) → Same old new → Falls new (bound_of (plan.Read sought ∷ []))
        (cond spent (answers answer.RetriesExhausted) (goes (record c { aborts = c.aborts + 1 }) (plan.Own sought ∷ [])))
    starts_anew sought true s = never new _ (answers answer.RetriesExhausted) (λ e. cc)
    starts_anew sought false s = same_falls old new _ (record c { aborts = c.aborts + 1 }) (plan.Own sought ∷ []) s (omega (arith, young))

    reads : (sought : Sought K) (with : Settled V E) → Same old new → Falls new (bound_of (plan.Read sought ∷ [])) (after_read c sought (found.ReadSettled with))
    reads sought settled.NotYet s = never new _ (waits c) (λ e. cc)
    reads sought (settled.Ready value) s = never new _ (answers (answer.Loaded value false)) (λ e. cc)
    reads sought (settled.Err error) s = never new _ (answers (answer.InitErr error)) (λ e. cc)
    reads sought settled.Nothing s = never new _ (answers answer.Nothing) (λ e. cc)
    reads sought settled.Aborted s = starts_anew sought (c.aborts + 1 == retries) s

    is_told : (load : Load K) (given : Option (Told V E)) → Same old new → Falls new (bound_of (plan.Told load ∷ [])) (after_told c load (found.TakeTold given))
    is_told load (Some told.Nothing) s =
        same_falls old new _ c (end_load settled.Nothing answer.Nothing) s (omega arith)
    is_told load (Some (told.Err error)) s =
        same_falls old new _ c (end_load (settled.Err error) (answer.InitErr error)) s (omega arith)
    is_told load (Some (told.Value value)) s =
        same_falls old new _ c (loaded c.rules load value) s (by (is_disabled c.rules) c.rules.listener)
      where
        ahead_of : Bool → Bool → ℕ
        ahead_of disabled listener = steps_of old.owed old.most c.aborts (room_in old) old.most true
            (load_rest {E = E} disabled (record c.rules { listener = listener }) load.key value)

        by : (disabled listener : Bool) → old.logged + ahead_of disabled listener < bound_of (plan.Told load ∷ [])
        by true listener = omega arith
        by false true = omega arith
        by false false = omega arith
    is_told load _ s = never new _ (waits c) (λ e. cc)

    -- an owner of a key's computes looks what it has, and asks
    owns_key : (compute : Compute K) → Same old new →
        Falls new (old.logged + own_key_steps old.owed old.most) (goes c (compute_rest (is_disabled c.rules) compute))
    owns_key compute s = by (is_disabled c.rules)
      where
        by : (disabled : Bool) → Falls new (old.logged + own_key_steps old.owed old.most) (goes c (compute_rest disabled compute))
        by false = same_falls old new _ c (compute_rest false compute) s (omega arith)
        by true = same_falls old new _ c (compute_rest true compute) s (omega arith)

    reports : (key : K) → Same old new →
        Falls new (old.logged + own_key_steps old.owed old.most) (goes c (report_rest (is_disabled c.rules) key))
    reports key s = by (is_disabled c.rules)
      where
        by : (disabled : Bool) → Falls new (old.logged + own_key_steps old.owed old.most) (goes c (report_rest disabled key))
        by false = same_falls old new _ c (report_rest false key) s (omega arith)
        by true = same_falls old new _ c (report_rest true key) s (omega arith)

    own_alone : (key : K) (owned : Bool) → Same old new →
        Falls new (old.logged + own_key_steps old.owed old.most) (after_own_alone c key (found.OwnAlone owned))
    own_alone key true s = reports key s
    own_alone key false s = owns_key (record { key = key; takes = takes.TryOp }) s

    -- one that waits for an owner that has not ended waits with its next step
    own_key : (compute : Compute K) (k : Claim) → Same old new → ((owner : ℕ) → k ≡ claim.Waits owner → new.ended ≡ false) →
        Falls new (old.logged + own_key_steps old.owed old.most) (after_own_key c compute (found.WaitOrOwn k))
    own_key compute claim.Owner s unended = owns_key compute s
    own_key compute (claim.Waits owner) s unended =
        let e : new.ended ≡ false = unended owner refl in
        falls_goes new _ c (plan.Read_key compute ∷ []) (rw e (omega (arith, s.logged, s.eases.owed, s.eases.most)))

    -- once it has ended the call begins anew
    begins_anew : (compute : Compute K) → Same old new → old.ended ≡ true →
        Falls new (bound_of (plan.Read_key compute ∷ [])) (goes c (plan.Own_key compute ∷ []))
    begins_anew compute s e = same_falls old new _ c (plan.Own_key compute ∷ []) s (rw e (omega arith))

    reads_key : (compute : Compute K) (with : Option (Settled V E)) → Same old new → old.ended ≡ is_some with →
        Falls new (bound_of (plan.Read_key compute ∷ [])) (after_read_key c compute (found.ReadSettled (unwrap_or with settled.NotYet)))
    reads_key compute None s e = never new _ (waits c) (λ d. cc)
    reads_key compute (Some settled.NotYet) s e = never new _ (waits c) (λ d. cc)
    reads_key compute _ s e = begins_anew compute s e

    -- a told value is stored
    puts_told : (compute : Compute K) (pair : Option (K × V)) (value : V) → Same old new →
        Falls new (bound_of (plan.Told_op compute pair ∷ [])) (goes c (put_told (is_disabled c.rules) c compute.key pair value))
    puts_told compute pair value s =
        same_falls old new _ c (put_told (is_disabled c.rules) c compute.key pair value) s (by (is_disabled c.rules) c.rules.listener)
      where
        ahead_of : Bool → Bool → ℕ
        ahead_of disabled listener = steps_of {E = E} old.owed old.most c.aborts (room_in old) old.most true
            (put_told disabled (record c { rules = record c.rules { listener = listener } }) compute.key pair value)

        by : (disabled listener : Bool) → old.logged + ahead_of disabled listener < bound_of (plan.Told_op compute pair ∷ [])
        by true listener = omega arith
        by false true = omega arith
        by false false = omega arith

    -- what stands there is taken out
    takes_told : (compute : Compute K) (pair : Option (K × V)) → Same old new →
        Falls new (bound_of (plan.Told_op compute pair ∷ [])) (goes c (take_out c.rules (plan.To_remove_as_told compute.key) compute.key))
    takes_told compute pair s =
        same_falls old new _ c (take_out c.rules (plan.To_remove_as_told compute.key) compute.key) s (by c.rules.listener)
      where
        by : (listener : Bool) → old.logged + steps_of {V = V} {E = E} old.owed old.most c.aborts (room_in old) old.most true
            (take_out (record c.rules { listener = listener }) (plan.To_remove_as_told compute.key) compute.key) < bound_of (plan.Told_op compute pair ∷ [])
        by true = omega arith
        by false = omega arith

    does_told : (compute : Compute K) (pair : Option (K × V)) (given : Option (Told V E)) → Same old new →
        Falls new (bound_of (plan.Told_op compute pair ∷ [])) (after_told_op c compute pair (found.TakeTold given))
    does_told compute pair (Some (told.Op op.Nop)) s =
        same_falls old new _ c (end_compute (unchanged compute.key pair)) s (omega arith)
    does_told compute pair (Some (told.Op (op.Put value))) s = puts_told compute pair value s
    does_told compute pair (Some (told.Value value)) s = puts_told compute pair value s
    does_told compute pair (Some (told.Op op.Remove)) s = takes_told compute pair s
    does_told compute pair (Some (told.Err error)) s =
        same_falls old new _ c (end_compute (answer.ComputeErr error)) s (omega arith)
    does_told compute pair _ s = never new _ (waits c) (λ e. cc)

    -- an operation that stays undecided
    stays_on : Eases old new → new.logged ≡ old.logged → new.left < old.left → (aim : Aim K V) (key : K) (rest : List (Item K V E)) → c.plan ≡ plan.Get aim key ∷ rest → Falls new (bound_of (plan.Get aim key ∷ rest)) (stays c)
    stays_on e l less aim key rest is = falls_on new _ (record c { mode = mode.Mid }) (rw is (omega (arith, judge_more new.owed old.owed new.most old.most c.aborts aim e.owed e.most, l, less)))

  -- ---- what a visit leaves of the desk's lists

  -- the lists of writes are as long as they were, and the log has the room that it had
  record Lists (w new : DeskPart K V E) : Type 0 where
    owed : length new.owed ≡ length w.owed
    log : length new.log ≡ length w.log
    size : new.size ≡ w.size

  same_lists : (w : DeskPart K V E) → Lists w w
  same_lists w = record { owed = refl; log = refl; size = refl }

  either_lists : (b : Bool) (w x y : DeskPart K V E) → Lists w x → Lists w y → Lists w (cond b x y)
  either_lists true w x y h k = h
  either_lists false w x y h k = k

  claimed_lists : (eq : K → K → Bool) (w : DeskPart K V E) (n : ℕ) (load : Load K) (owner : Option ℕ) → Lists w (claimed eq w n load owner)
  claimed_lists eq w n load None = record { owed = refl; log = refl; size = refl }
  claimed_lists eq w n load (Some owner) = record { owed = refl; log = refl; size = refl }

  alone_lists : (eq : K → K → Bool) (w : DeskPart K V E) (n : ℕ) (load : Load K) (owner : Option ℕ) → Lists w (claimed_alone eq w n load owner)
  alone_lists eq w n load None = record { owed = refl; log = refl; size = refl }
  alone_lists eq w n load (Some owner) = record { owed = refl; log = refl; size = refl }

  -- the owner that the call came to wait for has not ended
  waits_unended : (eq : K → K → Bool) (w : DeskPart K V E) (n : ℕ) (load : Load K) → HasUnsettled w load → (o : Option ℕ) → w.owners load ≡ o →
      (owner : ℕ) → claim_of o ≡ claim.Waits owner → is_some (settlement_for (claimed eq w n load o) n) ≡ false
  waits_unended eq w n load h None is owner e = cc
  waits_unended eq w n load h (Some other) is owner e =
      rw (eq-eqb n n refl) (h other is)

  locked_lists : (eq : K → K → Bool) (w : DeskPart K V E) (n : ℕ) (key : K) (free : Bool) → Lists w (locked_by eq w n key free)
  locked_lists eq w n key true = record { owed = refl; log = refl; size = refl }
  locked_lists eq w n key false = record { owed = refl; log = refl; size = refl }

  unlocked_lists : (w : DeskPart K V E) (n : ℕ) (wrote : Bool) → Lists w (unlocked w n wrote)
  unlocked_lists w n true = record { owed = refl; log = refl; size = refl }
  unlocked_lists w n false = record { owed = refl; log = refl; size = refl }

  -- the work is what it was, where the lists are and operations stay undecided for no longer
  same_work : (n : ℕ) (w new : World K V E) (old young : Work) → Counts n w old → Counts n new young → Lists w.desk new.desk →
      young.left ≤ young.most → young.most ≤ old.most → Same old young
  same_work n w new old young c d l within most = record {
    eases = record { owed = omega (arith, c.owed, d.owed, l.owed); most = most; within = within };
    logged = d.logged ∙ l.log ∙ sym c.logged;
    size = d.size ∙ l.size ∙ sym c.size;
  }

  module _ (eq : K → K → Bool) (n : ℕ) (c : Call K V E) (w next : World K V E) (old new : Work) (young : c.aborts < retries)
      (has_log : 0 < old.size) (was : Counts n w old) (is : Counts n next new) where
    -- how the call goes on after what its access gave
    abbrev after : Item K V E → List (Item K V E) → Got K V E → Next K V E
    after item rest (got.Table t) = after_table n c item rest t
    after item rest (got.Desk f) = after_visit c item rest f

    -- after an access that leaves the lists
    leaves : (desk : DeskPart K V E) → next.desk ≡ desk → Lists w.desk desk → new.left ≤ new.most → new.most ≤ old.most + 0 → Same old new
    leaves desk e l within most = same_work n w next old new was is (subst (λ v. Lists w.desk v) (sym e) l) within (omega (arith, most))

    drain_falls : (rest : List (Item K V E)) (owed : List Owed) → w.desk.owed ≡ owed → length next.desk.owed ≡ length (drop 1 owed) →
        next.desk.log ≡ w.desk.log → next.desk.size ≡ w.desk.size → new.left ≤ new.most → new.most ≤ old.most →
        Falls new (bound_of old new c young (plan.Drain ∷ rest)) (after_drain c rest (finds (record w.desk { owed = owed }) (visit.TakeOwed n)))
    drain_falls rest [] e o l z within most = drains old new c young rest (record {
      eases = record { owed = omega (arith, was.owed, is.owed, o, ap length e); most = most; within = within };
      logged = is.logged ∙ ap length l ∙ sym was.logged;
      size = is.size ∙ z ∙ sym was.size;
    })
    drain_falls rest (x ∷ xs) e o l z within most = takes_up old new c young x rest
        (record { owed = omega (arith, was.owed, is.owed, o, ap length e); most = most; within = within })
        (is.logged ∙ ap length l ∙ sym was.logged) (omega (arith, was.owed, is.owed, o, ap length e))

    post_falls : (x : Write) (rest : List (Item K V E)) (b : Bool) → has_room w.desk ≡ b →
        length next.desk.log ≡ length (cond b (w.desk.log ++ x ∷ []) w.desk.log) → length next.desk.owed ≡ length w.desk.owed →
        next.desk.size ≡ w.desk.size → new.left ≤ new.most → new.most ≤ old.most →
        Falls new (bound_of old new c young (plan.Post x ∷ rest)) (after_post c x rest (found.PostWrite b))
    post_falls x rest true e l o z within most = posts old new c young x rest
        (record { owed = omega (arith, was.owed, is.owed, o); most = most; within = within })
        (omega (arith, is.logged, was.logged, l, length-append w.desk.log (x ∷ []))) (rw (was.logged, was.size) e)
    post_falls x rest false e l o z within most = applies_first old new c young x rest (record {
      eases = record { owed = omega (arith, was.owed, is.owed, o); most = most; within = within };
      logged = is.logged ∙ l ∙ sym was.logged;
      size = is.size ∙ z ∙ sym was.size;
    }) (rw (was.logged, was.size) e)

    apply_falls : (rest : List (Item K V E)) (log : List Write) → w.desk.log ≡ log → length next.desk.log ≡ length (drop 1 log) →
        length next.desk.owed ≡ length w.desk.owed → next.desk.size ≡ w.desk.size → new.left ≤ new.most → new.most ≤ old.most →
        Falls new (bound_of old new c young (plan.Apply ∷ rest)) (after_apply c rest (found.ApplyOne (nat_lt 0 (length log))))
    apply_falls rest [] e l o z within most =
        let size : new.size ≡ old.size = is.size ∙ z ∙ sym was.size in
        let empty : new.logged ≡ 0 = is.logged ∙ l in
        applied_all old new c young rest (record {
          eases = record { owed = omega (arith, was.owed, is.owed, o); most = most; within = within };
          logged = empty ∙ sym (was.logged ∙ ap length e);
          size = size;
        }) (rw (empty, size) (some_room old.size has_log))
    apply_falls rest (x ∷ xs) e l o z within most =
        subst (λ b. Falls new (bound_of old new c young (plan.Apply ∷ rest)) (after_apply c rest (found.ApplyOne b))) (sym (some_left (length xs)))
        (applies_one old new c young rest (record { owed = omega (arith, was.owed, is.owed, o); most = most; within = within })
        (omega (arith, was.logged, is.logged, l, ap length e)))

    get_falls : (aim : Aim K V) (rest : List (Item K V E)) (answer : TableAnswer K V) → (key : K) → Same old new →
        Falls new (bound_of old new c young (plan.Get aim key ∷ rest)) (after_get c aim (table.Decided answer))
    get_falls aim rest table_answer.None key s = misses_falls old new c young _ aim s (omega arith)
    get_falls aim rest (table_answer.Keys keys) key s = never new _ (waits c) (λ e. cc)
    get_falls aim rest (table_answer.Some there stored) key s = finds_falls aim
      where
        chosen : (b : Bool) (key : K) (stamp : ℕ) (cause : Cause) →
            Falls new (bound_of old new c young (plan.Get (plan.To_evict key stamp cause) key ∷ rest))
            (chosen_or_not c b key stamp cause there stored)
        chosen true key stamp cause = same_falls old new _ c (plan.Holds key stamp cause there stored ∷ []) s (omega arith)
        chosen false key stamp cause = kept_falls old new c young _ s (omega arith)

        finds_falls : (aim : Aim K V) → Falls new (bound_of old new c young (plan.Get aim key ∷ rest)) (finds_pair c aim there stored)
        finds_falls (plan.To_evict k stamp cause) = chosen (stored.stamp == stamp) k stamp cause
        finds_falls aim = same_falls old new _ c (plan.Judge aim there stored ∷ []) s (omega arith)

    -- a look or a write that stays undecided
    get_stays : (aim : Aim K V) (key : K) (rest : List (Item K V E)) → c.plan ≡ plan.Get aim key ∷ rest → Same old new → new.left < old.left →
        Falls new (bound_of old new c young (plan.Get aim key ∷ rest)) (stays c)
    get_stays aim key rest e s less = falls_on new _ (record c { mode = mode.Mid })
        (rw e (omega (arith, judge_more new.owed old.owed new.most old.most c.aborts aim s.eases.owed s.eases.most, s.logged, less)))

    write_stays : (key : K) (value : V) (moment : ℕ) (rest : List (Item K V E)) → c.plan ≡ plan.Write key value moment ∷ rest → Same old new →
        new.left < old.left → Falls new (bound_of old new c young (plan.Write key value moment ∷ rest)) (stays c)
    write_stays key value moment rest e s less =
        let h = more rest new.owed old.owed (new.most + growth) (old.most + growth) c.aborts (new.most + growth) (old.most + growth) false false true true
        s.eases.owed (omega (arith, s.eases.most)) (omega (arith, s.eases.most)) (post_worst false) (ended_worst true) in
        falls_on new _ (record c { mode = mode.Mid }) (rw e (omega (arith, h, s.logged, less)))

    wrote : (key : K) (value : V) (moment : ℕ) (rest : List (Item K V E)) (x : Write) (answer : TableAnswer K V) → new.owed ≡ old.owed → new.logged ≡ old.logged →
        new.most ≤ old.most + growth →
        Falls new (bound_of old new c young (plan.Write key value moment ∷ rest)) (goes c (once_told c.rules.listener key answer (plan.Post x ∷ rest)))
    wrote key value moment rest x answer o l most =
        let h = more rest new.owed old.owed new.most (old.most + growth) c.aborts new.most (old.most + growth) false false true true
        (omega (arith, o)) most most (post_worst false) (ended_worst true) in
        by c.rules.listener answer h (post_worst (room_in new))
      where
        by : (listener : Bool) (answer : TableAnswer K V) →
            steps_of new.owed new.most c.aborts false new.most true rest ≤ steps_of old.owed (old.most + growth) c.aborts false (old.most + growth) true rest →
            post_steps (room_in new) ≤ post_steps false →
            Falls new (bound_of old new c young (plan.Write key value moment ∷ rest)) (goes c (once_told listener key answer (plan.Post x ∷ rest)))
        by false answer h r = falls_goes new _ c (plan.Post x ∷ rest) (omega (arith, h, l, r))
        by true table_answer.None h r = falls_goes new _ c (plan.Unlock true ∷ plan.Post x ∷ rest) (omega (arith, h, l, r))
        by true (table_answer.Keys keys) h r = falls_goes new _ c (plan.Unlock true ∷ plan.Post x ∷ rest) (omega (arith, h, l, r))
        by true (table_answer.Some there stored) h r =
            falls_goes new _ c (plan.Notice key stored None true ∷ plan.Unlock true ∷ plan.Post x ∷ rest) (omega (arith, h, l, r))

    out_stays : (removal : Removal K) (key : K) (rest : List (Item K V E)) → c.plan ≡ plan.Out removal key ∷ rest → Same old new →
        new.left < old.left → Falls new (bound_of old new c young (plan.Out removal key ∷ rest)) (stays c)
    out_stays removal key rest e s less = falls_on new _ (record c { mode = mode.Mid }) (rw e (omega (arith, s.logged, less)))

    out_falls : (removal : Removal K) (key : K) (rest : List (Item K V E)) (answer : TableAnswer K V) → Same old new →
        Falls new (bound_of old new c young (plan.Out removal key ∷ rest)) (after_out n c removal key (table.Decided answer))
    out_falls removal key rest table_answer.None s = nothing_falls old new c young _ removal c.rules.listener s (omega arith)
    out_falls removal key rest (table_answer.Keys keys) s = never new _ (waits c) (λ e. cc)
    out_falls removal key rest (table_answer.Some there stored) s =
        removed_falls old new c young n _ removal key stored c.rules.listener s (omega arith)

    waits_falls : (bound : ℕ) → Falls new bound (waits c)
    waits_falls bound = never new bound (waits c) (λ e. cc)

    -- a list or a look of a walk that stays undecided
    list_stays : (part : ℕ) (rest : List (Item K V E)) → c.plan ≡ plan.List_keys part ∷ rest → Same old new → new.left < old.left →
        Falls new (bound_of old new c young (plan.List_keys part ∷ rest)) (stays c)
    list_stays part rest e s less =
        let h = more rest new.owed old.owed new.most old.most c.aborts new.most old.most false false true true s.eases.owed s.eases.most s.eases.most (post_worst false) (ended_worst true) in
        falls_on new _ (record c { mode = mode.Mid }) (rw e (omega (arith, h, s.logged, less)))

    find_stays : (key : K) (rest : List (Item K V E)) → c.plan ≡ plan.Find key ∷ rest → Same old new → new.left < old.left →
        Falls new (bound_of old new c young (plan.Find key ∷ rest)) (stays c)
    find_stays key rest e s less =
        let h = more rest new.owed old.owed new.most old.most c.aborts new.most old.most false false true true s.eases.owed s.eases.most s.eases.most (post_worst false) (ended_worst true) in
        falls_on new _ (record c { mode = mode.Mid }) (rw e (omega (arith, h, s.logged, less)))

    -- a look finds a record, which is judged, or none
    find_falls : (key : K) (rest : List (Item K V E)) (answer : TableAnswer K V) → Same old new →
        Falls new (bound_of old new c young (plan.Find key ∷ rest)) (after_find c rest (table.Decided answer))
    find_falls key rest table_answer.None s =
        let h = eased old new c.aborts false rest s.eases (post_worst (room_in new)) in
        falls_goes new _ c rest (omega (arith, h, s.logged))
    find_falls key rest (table_answer.Some there stored) s = by c.carried
      where
        by : (ids : Option (List (ℕ × ℕ))) → Falls new (bound_of old new c young (plan.Find key ∷ rest)) (goes c (judging ids there stored ∷ rest))
        by None =
            let h = more rest new.owed old.owed new.most old.most c.aborts new.most old.most false false true true s.eases.owed s.eases.most s.eases.most (post_worst false) (ended_worst true) in
            falls_goes new _ c (plan.Scan there stored ∷ rest) (omega (arith, h, s.logged))
        by (Some ids) =
            let h = more rest new.owed old.owed new.most old.most c.aborts new.most old.most false false true true s.eases.owed s.eases.most s.eases.most (post_worst false) (ended_worst true) in
            falls_goes new _ c (plan.Strike there stored ∷ rest) (omega (arith, h, s.logged))
    find_falls key rest (table_answer.Keys keys) s = never new _ (waits c) (λ e. cc)

    scan_falls : (there : K) (stored : Stored V) (rest : List (Item K V E)) (seen : Bool) → Same old new →
        Falls new (old.logged + (1 + steps_of old.owed old.most c.aborts false old.most true rest)) (after_scan c there stored rest (found.Scan seen))
    scan_falls there stored rest true s = never new _ (gives c there stored.value rest) (λ e. cc)
    scan_falls there stored rest false s = passes old new c young rest s

    -- the predicates were chosen that may leave: all parts are to be listed, where there are some
    lists_fall : (part parts owed most left aborts : ℕ) (room ended : Bool) → left ≤ most →
        steps_of {K = K} {V = V} {E = E} owed most aborts room left ended (lists_from part parts (plan.Retire ∷ [])) ≤ (most + 1) * parts + 1
    lists_fall part zero owed most left aborts room ended h = omega arith
    lists_fall part (suc parts) owed most left aborts room ended h =
        let f = lists_fall (part + 1) parts owed most most aborts false true (omega arith) in omega (arith, f, h)

    chooses : (parts : ℕ) (rest : List (Item K V E)) (ids : List (ℕ × ℕ)) → Same old new →
        Falls new (bound_of old new c young (plan.Candidates parts ∷ rest)) (after_candidates c parts (found.Candidates ids))
    chooses parts rest [] s = never new _ (answers answer.Done) (λ e. cc)
    chooses parts rest (id ∷ more) s =
        same_falls old new _ (carrying c (id ∷ more)) (lists_from 0 parts (plan.Retire ∷ [])) s
        (let f = lists_fall 0 parts old.owed old.most old.most c.aborts (room_in old) true (omega arith) in omega (arith, f))

    on_item : (item : Item K V E) (rest : List (Item K V E)) (given : Got K V E) → c.plan ≡ item ∷ rest → May w (access_for n c.carried item) →
        Gets eq n w (access_for n c.carried item) given next → Shortens old new (access_for n c.carried item) given → lists item given ≡ false → Falls new (bound_of old new c young (item ∷ rest)) (after item rest given)
    on_item plan.Drain rest (got.Desk f) e m g h silent = rw g.0
        (drain_falls rest w.desk.owed refl (ap (λ v. length v.desk.owed) g.1) (ap (λ v. v.desk.log) g.1) (ap (λ v. v.desk.size) g.1) h.within (omega (arith, h.raises)))
    on_item (plan.Post x) rest (got.Desk f) e m g h silent = rw g.0
        (post_falls x rest (has_room w.desk) refl (ap (λ v. length v.desk.log) g.1) (ap (λ v. length v.desk.owed) g.1) (ap (λ v. v.desk.size) g.1) h.within (omega (arith, h.raises)))
    on_item plan.Apply rest (got.Desk f) e m g h silent = rw g.0
        (apply_falls rest w.desk.log refl (ap (λ v. length v.desk.log) g.1) (ap (λ v. length v.desk.owed) g.1) (ap (λ v. v.desk.size) g.1) h.within (omega (arith, h.raises)))
    on_item plan.Turn rest (got.Desk f) e m g h silent = rw g.0 (turn_falls (is_free_for w.desk n))
      where
        turn_falls : (b : Bool) → Falls new (bound_of old new c young (plan.Turn ∷ rest)) (after_turn c rest (found.TakeTurn b))
        turn_falls true = turns old new c young rest (leaves _ (ap (λ v. v.desk) g.1) (record { owed = refl; log = refl; size = refl }) h.within h.raises)
        turn_falls false = waits_falls _
    on_item plan.End rest (got.Desk f) e m g h silent = rw g.0
        (ends old new c young rest (leaves _ (ap (λ v. v.desk) g.1) (record { owed = refl; log = refl; size = refl }) h.within h.raises))
    on_item (plan.Judge aim key stored) rest (got.Desk f) e m g h silent = rw g.0
        (judge_falls old new c young _ aim key stored (is_seen w.desk (replace_of aim) key stored)
        (leaves _ (ap (λ v. v.desk) g.1) (record { owed = refl; log = refl; size = refl }) h.within h.raises) (omega arith))
    on_item (plan.Own sought) rest (got.Desk f) e m g h silent = rw g.0
        (owns old new c young sought (claim_of (w.desk.owners sought.load))
        (leaves _ (ap (λ v. v.desk) g.1) (claimed_lists eq w.desk n sought.load (w.desk.owners sought.load)) h.within h.raises))
    on_item (plan.Read sought) rest (got.Desk f) e m g h silent = rw g.0
        (reads old new c young sought (unwrap_or (settlement_for w.desk n) settled.NotYet)
        (leaves _ (ap (λ v. v.desk) g.1) (either_lists (is_some (settlement_for w.desk n)) w.desk _ w.desk (record { owed = refl; log = refl; size = refl }) (same_lists w.desk)) h.within h.raises))
    on_item (plan.Own_key compute) rest (got.Desk f) e m g h silent =
        let load : Load K = record { key = compute.key; kind = kind.Compute } in
        rw g.0 (own_key old new c young compute (claim_of (w.desk.owners load))
        (leaves _ (ap (λ v. v.desk) g.1) (claimed_lists eq w.desk n load (w.desk.owners load)) h.within h.raises)
        (λ owner waits. is.ended ∙ ap (λ v. is_some (settlement_for v.desk n)) g.1 ∙ waits_unended eq w.desk n load m.2 (w.desk.owners load) refl owner waits))
    on_item (plan.Own_alone key) rest (got.Desk f) e m g h silent =
        let load : Load K = record { key = key; kind = kind.Compute } in
        rw g.0 (own_alone old new c young key (is_some (w.desk.owners load))
        (leaves _ (ap (λ v. v.desk) g.1) (alone_lists eq w.desk n load (w.desk.owners load)) h.within h.raises))
    on_item (plan.Read_key compute) rest (got.Desk f) e m g h silent = rw g.0
        (reads_key old new c young compute (settlement_for w.desk n)
        (leaves _ (ap (λ v. v.desk) g.1) (either_lists (is_some (settlement_for w.desk n)) w.desk _ w.desk (record { owed = refl; log = refl; size = refl }) (same_lists w.desk)) h.within h.raises) was.ended)
    on_item (plan.Ask_op compute pair) rest (got.Desk f) e m g h silent = rw g.0 (never new _ (asks c (ask.Compute pair) (plan.Told_op compute pair ∷ [])) (λ d. cc))
    on_item (plan.Told_op compute pair) rest (got.Desk f) e m g h silent = rw g.0
        (does_told old new c young compute pair (w.desk.told n) (leaves _ (ap (λ v. v.desk) g.1) (record { owed = refl; log = refl; size = refl }) h.within h.raises))
    on_item (plan.Settle with) rest (got.Desk f) e m g h silent = rw g.0
        (passes old new c young rest (leaves _ (ap (λ v. v.desk) g.1) (record { owed = refl; log = refl; size = refl }) h.within h.raises))
    on_item (plan.Ask load) rest (got.Desk f) e m g h silent = rw g.0 (never new _ (asks c ask.Init (plan.Told load ∷ [])) (λ d. cc))
    on_item (plan.Told load) rest (got.Desk f) e m g h silent = rw g.0
        (is_told old new c young load (w.desk.told n) (leaves _ (ap (λ v. v.desk) g.1) (record { owed = refl; log = refl; size = refl }) h.within h.raises))
    on_item (plan.Ended number) rest (got.Desk f) e m g h silent = rw g.0
        (hears old new c young rest (not (is_running w.desk number)) (leaves _ (ap (λ v. v.desk) g.1) (record { owed = refl; log = refl; size = refl }) h.within h.raises))
    on_item plan.Heard rest (got.Desk f) e m g h silent = rw g.0
        (hears old new c young rest (not (is_running w.desk n)) (leaves _ (ap (λ v. v.desk) g.1) (record { owed = refl; log = refl; size = refl }) h.within h.raises))
    on_item (plan.Lock key) rest (got.Desk f) e m g h silent = rw g.0
        (locks old new c young key rest (lock_taken w.desk n key)
        (leaves _ (ap (λ v. v.desk) g.1) (locked_lists eq w.desk n key (is_unlocked_for w.desk n key)) h.within h.raises))
    on_item (plan.Unlock b) rest (got.Desk f) e m g h silent = rw g.0
        (passes old new c young rest (leaves _ (ap (λ v. v.desk) g.1) (unlocked_lists w.desk n b) h.within h.raises))
    on_item plan.Idle rest (got.Desk f) e m g h silent = rw g.0
        (passes old new c young rest (leaves _ (ap (λ v. v.desk) g.1) (record { owed = refl; log = refl; size = refl }) h.within h.raises))
    on_item plan.Invalidate_all rest (got.Desk f) e m g h silent = rw g.0
        (passes old new c young rest (leaves _ (ap (λ v. v.desk) g.1) (record { owed = refl; log = refl; size = refl }) h.within h.raises))
    on_item (plan.Register test) rest (got.Desk f) e m g h silent = rw g.0 (never new _ (answers (registering_answer (registering w.desk))) (λ d. cc))
    on_item (plan.Candidates parts) rest (got.Desk f) e m g h silent = rw g.0
        (chooses parts rest (candidates w.desk) (leaves w.desk (ap (λ v. v.desk) g.1) (same_lists w.desk) h.within h.raises))
    on_item (plan.Strike there stored) rest (got.Desk f) e m g h silent = rw g.0
        (passes old new (carrying c (struck w.desk (unwrap_or c.carried []) there stored)) young rest
        (leaves w.desk (ap (λ v. v.desk) g.1) (same_lists w.desk) h.within h.raises))
    on_item plan.Retire rest (got.Desk f) e m g h silent = rw g.0 (never new _ (answers answer.Done) (λ d. cc))
    on_item (plan.Holds key stamp cause there stored) rest (got.Desk f) e m g h silent = rw g.0
        (holds_falls old new c young key stamp cause _ (leaves w.desk (ap (λ v. v.desk) g.1) (same_lists w.desk) h.within h.raises))
    on_item (plan.Notice key stored cause upsert) rest (got.Desk f) e m g h silent = rw g.0
        (tells old new c young key stored rest _ w.desk.off (leaves _ (ap (λ v. v.desk) g.1) (record { owed = refl; log = refl; size = refl }) h.within h.raises))
    on_item (plan.Moment change) rest (got.Desk f) e m g h silent = rw g.0
        (stamps old new c young change w.desk.clock rest (leaves _ (ap (λ v. v.desk) g.1) (record { owed = refl; log = refl; size = refl }) h.within h.raises))
    on_item (plan.Reply a) rest (got.Desk f) e m g h silent = never new _ (answers a) (λ d. cc)
    on_item (plan.Get aim key) rest (got.Table table.Going) e m g h silent = get_stays aim key rest e (leaves w.desk (ap (λ v. v.desk) g.1) (same_lists w.desk) h.within h.raises) (h.going refl)
    on_item (plan.Get aim key) rest (got.Table (table.Decided answer)) e m g h silent =
        get_falls aim rest answer key (leaves w.desk (ap (λ v. v.desk) g.2) (same_lists w.desk) h.within h.raises)
    on_item (plan.Write key value moment) rest (got.Table table.Going) e m g h silent = write_stays key value moment rest e (leaves w.desk (ap (λ v. v.desk) g.1) (same_lists w.desk) h.within h.raises) (h.going refl)
    on_item (plan.Write key value moment) rest (got.Table (table.Decided answer)) e m g h silent =
        let d : next.desk ≡ w.desk = ap (λ v. v.desk) g.2 in
        wrote key value moment rest (Upsert n (old_stamp answer)) answer (is.owed ∙ ap (λ v. length v.owed) d ∙ sym was.owed)
        (is.logged ∙ ap (λ v. length v.log) d ∙ sym was.logged) h.raises
    on_item (plan.Out removal key) rest (got.Table table.Going) e m g h silent =
        out_stays removal key rest e (leaves w.desk (ap (λ v. v.desk) g.1) (same_lists w.desk) h.within h.raises) (h.going refl)
    on_item (plan.Out removal key) rest (got.Table (table.Decided answer)) e m g h silent =
        out_falls removal key rest answer (leaves w.desk (ap (λ v. v.desk) g.2) (same_lists w.desk) h.within h.raises)
    on_item (plan.List_keys part) rest (got.Table table.Going) e m g h silent =
        list_stays part rest e (leaves w.desk (ap (λ v. v.desk) g.1) (same_lists w.desk) h.within h.raises) (h.going refl)
    on_item (plan.List_keys part) rest (got.Table (table.Decided (table_answer.Keys keys))) e m g h silent = absurd cc
    on_item (plan.List_keys part) rest (got.Table (table.Decided answer)) e m g h silent = never new _ (after_list c rest (table.Decided answer)) (λ d. cc)
    on_item (plan.Find key) rest (got.Table table.Going) e m g h silent =
        find_stays key rest e (leaves w.desk (ap (λ v. v.desk) g.1) (same_lists w.desk) h.within h.raises) (h.going refl)
    on_item (plan.Find key) rest (got.Table (table.Decided answer)) e m g h silent =
        find_falls key rest answer (leaves w.desk (ap (λ v. v.desk) g.2) (same_lists w.desk) h.within h.raises)
    on_item (plan.Scan there stored) rest (got.Desk f) e m g h silent = rw g.0
        (scan_falls there stored rest (is_seen w.desk None there stored) (leaves w.desk (ap (λ v. v.desk) g.1) (same_lists w.desk) h.within h.raises))
    -- no other answer is one of the item's access
    on_item _ rest _ e m g h silent = absurd g

  -- no list is one of a desk's answers
  desk_lists_none : (item : Item K V E) (f : Found V E) → lists item (got.Desk f) ≡ false
  desk_lists_none (plan.List_keys part) f = refl
  desk_lists_none _ f = refl

  -- the keys that were listed are looked up, one after the other
  found_falls : (keys : List K) (rest : List (Item K V E)) (owed most aborts left : ℕ) (room ended : Bool) → left ≤ most →
      steps_of owed most aborts room left ended (map plan.Find keys ++ rest) ≤ length keys * (most + 2) + steps_of owed most aborts false most true rest
  found_falls [] rest owed most aborts left room ended h =
      let m = more rest owed owed most most aborts left most room false ended true (omega arith) (omega arith) h (post_worst room) (ended_worst ended) in omega (arith, m)
  found_falls (key ∷ keys) rest owed most aborts left room ended h =
      let m = found_falls keys rest owed most aborts most false true (omega arith) in omega (arith, m, h)

  -- a step of a walk lets no later operation need more
  raises_nothing : (n : ℕ) (ids : Option (List (ℕ × ℕ))) (item : Item K V E) (rest : List (Item K V E)) (given : Got K V E) → walks (item ∷ rest) ≡ true →
      raised (access_for n ids item) given ≡ 0
  raises_nothing n ids (plan.Get aim key) rest given e = absurd cc
  raises_nothing n ids (plan.Write key value moment) rest given e = absurd cc
  raises_nothing n ids (plan.Out removal key) rest given e = absurd cc
  raises_nothing n ids _ rest given e = refl

  -- what is yet to be listed takes no more steps than before
  keys_ease : (access : Access K V E) (given : Got K V E) (old new : Work) → (0 < raised access given → old.keys ≡ 0) → Shortens old new access given →
      new.keys * (new.most + 2) ≤ old.keys * (old.most + 2)
  keys_ease access given old new none h = by (raised access given) refl
    where
      by : (r : ℕ) → raised access given ≡ r → new.keys * (new.most + 2) ≤ old.keys * (old.most + 2)
      by zero flat =
          let raises : new.most ≤ old.most + raised access given = h.raises in
          let less : new.keys + keys_in given ≤ old.keys = h.keys in
          product_more new.keys old.keys new.most old.most (omega (arith, less)) (omega (arith, raises, flat))
      by (suc r) more =
          let less : new.keys + keys_in given ≤ old.keys = h.keys in
          let flat : old.keys ≡ 0 = none (omega (arith, more)) in
          product_none new.keys (new.most + 2) (old.keys * (old.most + 2)) (omega (arith, less, flat))

  -- a walk has no access that may add a key
  pub walks_add_none : (n : ℕ) (c : Call K V E) (given : Got K V E) (keys : ℕ) → (walks c.plan ≡ false → keys ≡ 0) → 0 < raised (access_of n c) given → keys ≡ 0
  walks_add_none n c given keys none adds = by_call c.plan refl none adds
    where
      by_item : (item : Item K V E) (rest : List (Item K V E)) (b : Bool) → walks (item ∷ rest) ≡ b → (walks (item ∷ rest) ≡ false → keys ≡ 0) →
          0 < raised (access_for n c.carried item) given → keys ≡ 0
      by_item item rest false e calm more = calm e
      by_item item rest true e calm more =
          let flat : raised (access_for n c.carried item) given ≡ 0 = raises_nothing n c.carried item rest given e in absurd (omega (arith, more, flat))

      by_call : (p : List (Item K V E)) → c.plan ≡ p → (walks p ≡ false → keys ≡ 0) → 0 < raised (access_of n (record c { plan = p })) given → keys ≡ 0
      by_call [] e calm more = calm refl
      by_call (item ∷ rest) e calm more = by_item item rest (walks (item ∷ rest)) refl calm more

  -- the call, if it goes on, has fewer steps ahead than so many, those for keys that are yet to be
  -- listed among them
  abbrev FallsIn : Work → ℕ → Next K V E → Type 0
  FallsIn new bound next = next.turn ≡ turn.Going → (d : Call K V E) × (next ≡ going_as d) × (ahead new d < bound)

  with_keys : (old new : Work) (bound : ℕ) (next : Next K V E) → new.keys * (new.most + 2) ≤ old.keys * (old.most + 2) → Falls new bound next →
      FallsIn new (old.keys * (old.most + 2) + bound) next
  with_keys old new bound next less falls going =
      let f = falls going in
      let h : ahead_of_plan new f.0 < bound = f.2 in
      (f.0, f.1, omega (arith, h, less))

  -- a list gives keys
  list_falls : (c : Call K V E) (old new : Work) (keys : List K) (rest : List (Item K V E)) → Same old new → new.keys + length keys ≤ old.keys →
      FallsIn new (old.keys * (old.most + 2) + (old.logged + (old.left + 1 + steps_of old.owed old.most c.aborts false old.most true rest)))
      (goes c (map plan.Find keys ++ rest))
  list_falls c old new keys rest s less going =
      let m = more rest new.owed old.owed new.most old.most c.aborts new.most old.most false false true true s.eases.owed s.eases.most s.eases.most (post_worst false) (ended_worst true) in
      let k = found_falls keys rest new.owed new.most c.aborts new.left (room_in new) new.ended s.eases.within in
      let f = falls_goes new (old.logged + (1 + (length keys * (new.most + 2) + steps_of old.owed old.most c.aborts false old.most true rest))) c
      (map plan.Find keys ++ rest) (omega (arith, m, k, s.logged)) going in
      let h : ahead_of_plan new f.0 < old.logged + (1 + (length keys * (new.most + 2) + steps_of old.owed old.most c.aborts false old.most true rest)) = f.2 in
      (f.0, f.1, omega (arith, h, listed_less new.keys (length keys) old.keys old.most new.most less s.eases.most))

  by_plan : (eq : K → K → Bool) (n : ℕ) (rules : Rules) (how : Mode) (p : List (Item K V E)) (aborts : ℕ) (ids : Option (List (ℕ × ℕ))) (w next : World K V E) (given : Got K V E) (old new : Work) →
      let c : Call K V E = record { rules = rules; mode = how; plan = p; aborts = aborts; carried = ids } in
      aborts < retries → 0 < old.size → (0 < raised (access_of n c) given → old.keys ≡ 0) → May w (access_of n c) → Gets eq n w (access_of n c) given next →
      Counts n w old → Counts n next new → Shortens old new (access_of n c) given → FallsIn new (ahead old c) (next_of n c given)
  by_plan eq n rules how [] aborts ids w next given old new young has_log none m g was is h = λ e. absurd cc
  by_plan eq n rules how (plan.List_keys part ∷ rest) aborts ids w next (got.Table (table.Decided (table_answer.Keys keys))) old new young has_log none m g was is h =
      let c : Call K V E = record { rules = rules; mode = how; plan = plan.List_keys part ∷ rest; aborts = aborts; carried = ids } in
      list_falls c old new keys rest (leaves eq n c w next old new young has_log was is w.desk (ap (λ v. v.desk) g.2) (same_lists w.desk) h.within h.raises) h.keys
  by_plan eq n rules how (item ∷ rest) aborts ids w next (got.Table t) old new young has_log none m g was is h =
      let c : Call K V E = record { rules = rules; mode = how; plan = item ∷ rest; aborts = aborts; carried = ids } in
      with_keys old new _ _ (keys_ease (access_for n ids item) (got.Table t) old new none h)
      (on_item eq n c w next old new young has_log was is item rest (got.Table t) refl m g h refl)
  by_plan eq n rules how (item ∷ rest) aborts ids w next (got.Desk f) old new young has_log none m g was is h =
      let c : Call K V E = record { rules = rules; mode = how; plan = item ∷ rest; aborts = aborts; carried = ids } in
      with_keys old new _ _ (keys_ease (access_for n ids item) (got.Desk f) old new none h)
      (on_item eq n c w next old new young has_log was is item rest (got.Desk f) refl m g h (desk_lists_none item f))

  pub going_falls : (eq : K → K → Bool) → GoingFalls K V E eq
  going_falls eq n c w next given old new young has_log none m g was is h going =
      by_plan eq n c.rules c.mode c.plan c.aborts c.carried w next given old new young has_log none m g was is h going
