-- How long a call goes on by itself.
use Rattle.std.proofs.Common.{◌≡◌, ℕ, ◌+◌, ◌-◌, ◌*◌, ◌<◌, ◌≤◌, max, nat_lt, Bool, true, false, cond, List, length, Option, Some, None, is_some, refl, sym, ap, ◌∙◌, subst, arith}
use Rattle.moka_hist.specs.Bound.{decided_by, most_undecided, times_of, stayed, array_bound}
use Rattle.moka_hist.specs.Plan.{Item, Aim, walks}
use Rattle.moka_hist.specs.Plan as plan
use Rattle.moka_hist.specs.Run.{IsReached}
use Rattle.moka_hist.specs.State.{Call, State, TablePart, World}
use Rattle.moka_hist.specs.Step.{Access, Gets, Step, access_of, going_as, next_of, state_after}
use Rattle.moka_hist.specs.Step as step
use Rattle.moka_hist.specs.Tables.{Operates, by_pair, removed, taken_by, written as written_to, begun}
use Rattle.moka_hist.specs.declared.accesses.Got.{Got}
use Rattle.moka_hist.specs.declared.accesses.Got.TheVariants as got
use Rattle.moka_hist.specs.declared.accesses.Turn.{Turn}
use Rattle.moka_hist.specs.declared.accesses.Turn.TheVariants as turn
use Rattle.moka_hist.specs.declared.records.Stored.{Stored}
use Rattle.moka_hist.specs.declared.visits.Found.{Found}
use Rattle.moka_hist.specs.declared.tables.TableAnswer.{TableAnswer}
use Rattle.moka_hist.specs.declared.tables.TableOp.{TableOp}
use Rattle.moka_hist.specs.declared.tables.TableOp.TheVariants as op
use Rattle.moka_hist.specs.declared.tables.TableTurn.TheVariants as table
use Rattle.moka_bound.specs.Ahead.{growth, ahead, judge_steps, read_key_steps, steps_of, work_in}
use Rattle.moka_hist.specs.Visits.{settlement_for}
use Rattle.moka_bound.specs.Falling.{Shortens, keys_in}
use Rattle.moka_bound.proofs.Falls.{going_falls, walks_add_none}
use Rattle.moka_bound.proofs.More.{post_worst}
use Rattle.moka_bound.proofs.Size.{access_size}
use Rattle.moka_laws.specs.Bounded.{LogsHaveRoom}
use Rattle.moka_laws.proofs.Counting.{put_here, same_number}
use Rattle.moka_laws.proofs.Kept.{IsInvariant, in_reached}
use Rattle.moka_laws.proofs.Plans.{IsTail, Answering, Settling, IsDrained, Looking, Giving, Putting, IsPosted, Draining, Ended, Locking, IsPlan, Posted, Drained, Posting, Hearing, Noticing, Listening, Unlocking, Turning, Applying, Ending, Judging, Writing, Finding, Taking, Freeing, Idling, Asking_op, Reading_key, calls_known, Walking, Maintaining, Applying_all, Ending_all}
use Rattle.moka_laws.proofs.Safe.{in_well, may_step}
use Rattle.moka_laws.proofs.Walks.{Ends, Finds, Lists, Scans, Chooses, Retires, Strikes}

true_false : true ≡ false → ⊥
true_false e = cc

-- ---- what a plan takes at most

judge_few : {K V : Type 0} (owed most aborts : ℕ) (aim : Aim K V) →
    judge_steps owed most aborts aim ≤ 8 * owed + most + 406
judge_few owed most aborts (plan.To_evict key stamp cause) = omega arith
judge_few owed most aborts _ = omega arith

-- to begin anew once an owner has ended, or to wait on
read_key_few : (ended : Bool) (owed most : ℕ) → read_key_steps ended owed most ≤ 8 * owed + most + 6
read_key_few true owed most = omega arith
read_key_few false owed most = omega arith

module _ {K V E : Type 0} (owed most aborts left : ℕ) (within : left ≤ most) where
  tail_steps : (room : Bool) (l : ℕ) (ended : Bool) (p : List (Item K V E)) → IsTail p →
      steps_of owed most aborts room l ended p ≤ 2
  tail_steps room l ended p (Answering a) = omega arith
  tail_steps room l ended p (Settling with a) = omega arith

  -- a put's tail, after which a key more may be stored
  put_steps : (m l : ℕ) (p : List (Item K V E)) → IsTail p →
      steps_of owed m aborts false l true p ≤ 2
  put_steps m l p (Answering a) = omega arith
  put_steps m l p (Settling with a) = omega arith

  drained_steps : (room : Bool) (l : ℕ) (ended : Bool) (p : List (Item K V E)) → l ≤ most →
      IsDrained p → walks p ≡ false → steps_of owed most aborts room l ended p ≤ 8 * owed + 2 * most + 408
  drained_steps room l ended p h (Looking aim key look) calm =
      omega (arith, h, judge_few owed most aborts aim)
  drained_steps room l ended p h (Asking_op compute pair) calm = omega arith
  drained_steps room l ended p h (Giving a) calm = omega arith
  drained_steps room l ended p h (Putting key value rest t) calm =
      omega (arith, put_steps (most + growth) (most + growth) rest t)
  drained_steps room l ended p h (Locking key value rest t) calm =
      omega (arith, put_steps (most + growth) (most + growth) rest t)
  drained_steps room l ended p h (Maintaining parts) calm = absurd (true_false calm)
  drained_steps room l ended p h _ calm = omega (arith, h)

  posted_steps : (room : Bool) (l : ℕ) (ended : Bool) (p : List (Item K V E)) → IsPosted p → walks p ≡ false →
      steps_of owed most aborts room l ended p ≤ 16 * owed + 2 * most + 409
  posted_steps room l ended p (Draining rest d) calm =
      omega (arith, drained_steps false most true rest (omega arith) d calm)
  posted_steps room l ended p (Ended rest t) calm = omega (arith, tail_steps room l ended rest t)

  few_steps : (room ended : Bool) (p : List (Item K V E)) → IsPlan p → walks p ≡ false →
      steps_of owed most aborts room left ended p ≤ 16 * owed + 2 * most + 416
  few_steps room ended p (Posted rest d) calm = omega (arith, posted_steps room left ended rest d calm)
  few_steps room ended p (Drained rest d) calm =
      omega (arith, drained_steps room left ended rest within d calm)
  few_steps room ended p (Posting x rest d) calm =
      omega (arith, post_worst room, posted_steps false most true rest d calm)
  few_steps room ended p (Hearing number x rest d) calm =
      omega (arith, posted_steps false most true rest d calm)
  few_steps room ended p (Noticing key old cause upsert x rest t) calm =
      omega (arith, tail_steps false most true rest t)
  few_steps room ended p (Listening x rest t) calm = omega (arith, tail_steps false most true rest t)
  few_steps room ended p (Unlocking x rest t) calm = omega (arith, tail_steps false most true rest t)
  few_steps room ended p (Turning x rest d) calm = omega (arith, posted_steps false most true rest d calm)
  few_steps room ended p (Applying x rest d) calm = omega (arith, posted_steps false most true rest d calm)
  few_steps room ended p (Ending x rest d) calm =
      omega (arith, post_worst room, posted_steps false most true rest d calm)
  few_steps room ended p (Judging aim key stored look) calm =
      omega (arith, judge_few owed most aborts aim)
  few_steps room ended p (Reading_key compute) calm = omega (arith, read_key_few ended owed most)
  few_steps room ended p (Writing key value moment rest t) calm =
      omega (arith, within, put_steps (most + growth) (most + growth) rest t)
  few_steps room ended p (Finding key stamp cause) calm = omega (arith, within)
  few_steps room ended p (Taking removal key) calm = omega (arith, within)
  few_steps room ended p (Freeing rest t) calm = omega (arith, tail_steps false most true rest t)
  few_steps room ended p (Idling rest t) calm = omega (arith, tail_steps false most true rest t)
  few_steps room ended p (Walking rest Ends) calm = omega arith
  few_steps room ended p (Walking rest Retires) calm = absurd (true_false calm)
  few_steps room ended p (Walking rest (Chooses parts)) calm = absurd (true_false calm)
  few_steps room ended p (Walking rest (Strikes there found more walk)) calm = absurd (true_false calm)
  few_steps room ended p (Applying_all parts) calm = absurd (true_false calm)
  few_steps room ended p (Ending_all parts) calm = absurd (true_false calm)
  few_steps room ended p (Walking rest (Lists part more walk)) calm = absurd (true_false calm)
  few_steps room ended p (Walking rest (Finds key more walk)) calm = absurd (true_false calm)
  few_steps room ended p (Walking rest (Scans there found more walk)) calm = absurd (true_false calm)
  few_steps room ended p _ calm = omega arith

-- ---- what each access does to it

module _ {K V : Type 0} (eq : K → K → Bool) where
  operation_peak : (n : ℕ) (w t : TablePart K V) (o : TableOp K V) (answer : TableAnswer K V) → Operates eq n w o answer t → w.keys ≤ w.peak → t.keys ≤ t.peak
  operation_peak n w t (op.Get key) answer o h = subst (λ (v : TablePart K V). v.keys ≤ v.peak) (sym o.1) h
  operation_peak n w t (op.InsertOrModify key stored) answer o h = subst (λ (v : TablePart K V). v.keys ≤ v.peak) (sym o.1) (omega arith)
  operation_peak n w t (op.InsertIfAbsent key stored) answer o h =
      subst (λ (v : TablePart K V). v.keys ≤ v.peak) (sym o.1) (by (w.stored key))
    where
      kept : (there : TablePart K V) → there.keys ≤ there.peak → (absent : TablePart K V) →
          absent.keys ≤ absent.peak →
          (out : Option (K × Stored V)) →
          (by_pair out there absent).keys ≤ (by_pair out there absent).peak
      kept there a absent b None = b
      kept there a absent b (Some pair) = a

      by : (out : Option (K × Stored V)) →
          (by_pair out w (written_to eq n w key stored)).keys ≤
          (by_pair out w (written_to eq n w key stored)).peak
      by out = kept w h (written_to eq n w key stored) (omega arith) out
  operation_peak n w t (op.Keys part) answer o h = subst (λ (v : TablePart K V). v.keys ≤ v.peak) (sym o.5) h
  operation_peak n w t (op.RemoveIf key stamp) answer o h =
      subst (λ (v : TablePart K V). v.keys ≤ v.peak) (sym o.1) (by (taken_by stamp (w.stored key)))
    where
      by : (out : Option (K × Stored V)) →
          (by_pair out (removed eq n w key) w).keys ≤ (by_pair out (removed eq n w key) w).peak
      by None = h
      by (Some pair) = omega (arith, h)

  -- how long operations stay undecided, after an access that is not the first of a write
  written : (n : ℕ) (w : TablePart K V) (key : K) (stored : Stored V) → w.keys ≤ w.peak →
      most_undecided (written_to eq n w key stored) ≤ most_undecided w + 48
  written n w key stored h = by (is_some (w.stored key))
    where
      by : (b : Bool) → 16 * (128 + 3 * max w.peak (cond b w.keys (w.keys + 1))) + 32 ≤ 16 * (128 + 3 * w.peak) + 32 + 48
      by true = omega (arith, h)
      by false = omega (arith, h)

module _ {K V E : Type 0} (eq : K → K → Bool) where
  -- no more keys are stored than ever were
  abbrev KeysWerePeak : State K V E → Type 0
  KeysWerePeak s = s.world.table.keys ≤ s.world.table.peak

  access_peak : (n : ℕ) (w new : World K V E) (a : Access K V E) (g : Got K V E) → Gets eq n w a g new → w.table.keys ≤ w.table.peak → new.table.keys ≤ new.table.peak
  access_peak n w new (step.On_table o) (got.Table table.Going) gets h = subst (λ (v : World K V E). v.table.keys ≤ v.table.peak) (sym gets.1) h
  access_peak n w new (step.On_table o) (got.Table (table.Decided answer)) gets h =
      subst (λ (v : World K V E). v.table.keys ≤ v.table.peak) (sym gets.2) (operation_peak eq n (begun w.table n o) gets.0 o answer gets.1 h)
  access_peak n w new (step.On_desk made) (got.Desk found) gets h = subst (λ (v : World K V E). v.table.keys ≤ v.table.peak) (sym gets.1) h
  access_peak n w new _ _ gets h = absurd gets

  peak_step : (s t : State K V E) (n : ℕ) (turn : Turn K V E) → KeysWerePeak s → Step eq s n turn t → KeysWerePeak t
  peak_step s t n turn h st =
      subst KeysWerePeak (sym st.after) (access_peak n s.world st.world (access_of n st.call) st.given st.gets h)

  peak_kept : IsInvariant {K = K} {V = V} {E = E} eq KeysWerePeak
  peak_kept = record {
    fresh = λ division divides rules size built has_log. omega arith;
    at = λ s moment h. h;
    start = λ s start h. h;
    step = peak_step;
    tell = λ s n answer asked h. h;
    hear = λ s n off running h. h;
    drop = λ s n c live between h. h;
  }

  desk_not : (f : Found V E) → ◌≡◌ {A = Got K V E} (got.Desk f) (got.Table table.Going) → ⊥
  desk_not f e = cc

  decided_not : (g : TableAnswer K V) → ◌≡◌ {A = Got K V E} (got.Table (table.Decided g)) (got.Table table.Going) → ⊥
  decided_not g e = cc

  -- how many keys the lists may give that are yet to be made is told apart
  decided_shortens : (n j k : ℕ) (w : World K V E) (t : TablePart K V) (o : TableOp K V) (g : TableAnswer K V) → Operates eq n (begun w.table n o) o g t →
      w.table.keys ≤ w.table.peak → k + keys_in {E = E} (got.Table (table.Decided g)) ≤ j →
      Shortens {E = E} (work_in n j w) (work_in n k (record w { table = t; stay = decided_by n })) (step.On_table o) (got.Table (table.Decided g))
  decided_shortens n j k w t (op.Get key) g o h less =
      subst (λ v. Shortens {E = E} (work_in n j w) (work_in n k (record w { table = v; stay = decided_by n })) (step.On_table (op.Get key)) (got.Table (table.Decided g)))
      (sym o.1) (record { within = omega arith; raises = omega arith; going = λ e. absurd (decided_not g e); keys = less })
  decided_shortens n j k w t (op.InsertOrModify key stored) g o h less =
      subst
      (λ v. Shortens {E = E} (work_in n j w) (work_in n k (record w { table = v; stay = decided_by n })) (step.On_table (op.InsertOrModify key stored))
      (got.Table (table.Decided g)))
      (sym o.1) (record { within = omega arith; raises = written eq n w.table key stored h; going = λ e. absurd (decided_not g e); keys = less })
  decided_shortens n j k w t (op.InsertIfAbsent key stored) g o h less =
      subst
      (λ v. Shortens {E = E} (work_in n j w) (work_in n k (record w { table = v; stay = decided_by n }))
      (step.On_table (op.InsertIfAbsent key stored))
      (got.Table (table.Decided g)))
      (sym o.1) (by (w.table.stored key))
    where
      by : (there : Option (K × Stored V)) →
          Shortens {E = E} (work_in n j w)
          (work_in n k (record w {
            table = by_pair there w.table (written_to eq n w.table key stored);
            stay = decided_by n;
          }))
          (step.On_table (op.InsertIfAbsent key stored)) (got.Table (table.Decided g))
      by None = record { within = omega arith; raises = written eq n w.table key stored h; going = λ e. absurd (decided_not g e); keys = less }
      by (Some pair) = record { within = omega arith; raises = omega arith; going = λ e. absurd (decided_not g e); keys = less }
  decided_shortens n j k w t (op.RemoveIf key stamp) g o h less =
      subst
      (λ v. Shortens {E = E} (work_in n j w) (work_in n k (record w { table = v; stay = decided_by n }))
      (step.On_table (op.RemoveIf key stamp))
      (got.Table (table.Decided g)))
      (sym o.1) (by (taken_by stamp (w.table.stored key)))
    where
      by : (out : Option (K × Stored V)) →
          Shortens {E = E} (work_in n j w)
          (work_in n k (record w {
            table = by_pair out (removed eq n w.table key) w.table;
            stay = decided_by n;
          }))
          (step.On_table (op.RemoveIf key stamp)) (got.Table (table.Decided g))
      by None = record { within = omega arith; raises = omega arith; going = λ e. absurd (decided_not g e); keys = less }
      by (Some pair) = record { within = omega arith; raises = omega arith; going = λ e. absurd (decided_not g e); keys = less }
  decided_shortens n j k w t (op.Keys part) g o h less =
      subst (λ v. Shortens {E = E} (work_in n j w) (work_in n k (record w { table = v; stay = decided_by n })) (step.On_table (op.Keys part)) (got.Table (table.Decided g)))
      (sym o.5) (record { within = omega arith; raises = omega arith; going = λ e. absurd (decided_not g e); keys = less })

  shortens_in : (n j k : ℕ) (w new : World K V E) (a : Access K V E) (g : Got K V E) → Gets eq n w a g new → w.table.keys ≤ w.table.peak →
      k + keys_in g ≤ j → Shortens {E = E} (work_in n j w) (work_in n k new) a g
  shortens_in n j k w new (step.On_table o) (got.Table table.Going) gets h less =
      let once : times_of (stayed w.stay n) n ≡ times_of w.stay n + 1 = ap (λ b. cond b (times_of w.stay n + 1) 0) (same_number n) in
      subst (λ v. Shortens {E = E} (work_in n j w) (work_in n k v) (step.On_table o) (got.Table table.Going)) (sym gets.1)
      (record { within = omega arith; raises = omega arith; going = λ e. omega (arith, once, gets.0); keys = less })
  shortens_in n j k w new (step.On_table o) (got.Table (table.Decided answer)) gets h less =
      subst (λ v. Shortens {E = E} (work_in n j w) (work_in n k v) (step.On_table o) (got.Table (table.Decided answer))) (sym gets.2)
      (decided_shortens n j k w gets.0 o answer gets.1 h less)
  shortens_in n j k w new (step.On_desk made) (got.Desk found) gets h less =
      subst (λ v. Shortens {E = E} (work_in n j w) (work_in n k v) (step.On_desk made) (got.Desk found)) (sym gets.1)
      (record { within = omega arith; raises = omega arith; going = λ e. absurd (desk_not found e); keys = less })
  shortens_in n j k w new _ _ gets h less = absurd gets

  -- ---- the log's room

  abbrev HasLog : State K V E → Type 0
  HasLog s = 0 < s.world.desk.size

  log_step : (s t : State K V E) (n : ℕ) (turn : Turn K V E) → HasLog s → Step eq s n turn t → HasLog t
  log_step s t n turn h st = subst HasLog (sym st.after) (omega (arith, h, access_size eq n s.world st.world (access_of n st.call) st.given st.gets))

  log_kept : IsInvariant {K = K} {V = V} {E = E} eq HasLog
  log_kept = record {
    fresh = λ division divides rules size built has_log. has_log;
    at = λ s moment h. h;
    start = λ s start h. h;
    step = log_step;
    tell = λ s n answer asked h. h;
    hear = λ s n off running h. h;
    drop = λ s n c live between h. h;
  }

  pub logs_have_room : LogsHaveRoom K V E eq
  logs_have_room s h = in_reached eq HasLog log_kept s h

  -- ---- a step, and steps one after the other

  same_call : (c d : Call K V E) → Some c ≡ Some d → c ≡ d
  same_call c d e = cc

  -- a step that leaves the call going leaves it live, with fewer steps ahead
  pub step_falls : (s t : State K V E) (n j k : ℕ) (c : Call K V E) → IsReached eq s → s.calls n ≡ Some c → (st : Step eq s n turn.Going t) →
      (walks c.plan ≡ false → j ≡ 0) → k + keys_in st.given ≤ j →
      (d : Call K V E) × (t.calls n ≡ Some d) × (ahead (work_in n k t.world) d < ahead (work_in n j s.world) c)
  step_falls s t n j k c h live st none less =
      let is : c ≡ st.call = same_call c st.call (sym live ∙ st.live) in
      let f = going_falls eq n st.call s.world st.world st.given (work_in n j s.world) (work_in n k st.world)
      (calls_known eq s h n st.call st.live).young (logs_have_room s h)
      (walks_add_none n st.call st.given j (subst (λ (v : Call K V E). walks v.plan ≡ false → j ≡ 0) is none))
      (may_step eq s (in_well eq s h) n st.call st.live) st.gets
      (record { owed = refl; logged = refl; size = refl; ended = refl })
      (record { owed = refl; logged = refl; size = refl; ended = refl })
      (shortens_in n j k s.world st.world (access_of n st.call) st.given st.gets (in_reached eq KeysWerePeak peak_kept s h) less) (sym st.turns) in (
        f.0,
        ap (λ (v : State K V E). v.calls n) st.after ∙ put_here s.calls n (next_of n st.call st.given).left ∙ ap (λ v. v.left) f.1,
        subst (λ (v : Call K V E). ahead (work_in n k t.world) f.0 < ahead (work_in n j s.world) v) (sym is)
            (subst (λ (v : State K V E). ahead (work_in n k v.world) f.0 < ahead (work_in n j s.world) st.call) (sym st.after) f.2),
      )

  pub keys_peak : (s : State K V E) → IsReached eq s → s.world.table.keys ≤ s.world.table.peak
  keys_peak s h = in_reached eq KeysWerePeak peak_kept s h

  -- a call without a walk has few steps ahead
  pub calm_bounded : (s : State K V E) (n : ℕ) (c : Call K V E) → IsReached eq s → s.calls n ≡ Some c → walks c.plan ≡ false →
      ahead (work_in n 0 s.world) c < 64 * (4 + array_bound s.world.table + length s.world.desk.owed + length s.world.desk.log)
  calm_bounded s n c h live calm =
      let most = most_undecided s.world.table in
      let few = few_steps (length s.world.desk.owed) most c.aborts (most - times_of s.world.stay n) (omega arith)
      (nat_lt (length s.world.desk.log) s.world.desk.size)
      (is_some (settlement_for s.world.desk n)) c.plan (calls_known eq s h n c live).plan calm in
      omega (arith, few)
