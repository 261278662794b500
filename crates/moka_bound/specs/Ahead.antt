-- How many steps a call may still make by itself before it waits, asks or answers.
use Rattle.std.specs.Prelude.{ℕ, ◌+◌, ◌-◌, ◌*◌, nat_lt, Bool, true, false, cond, List, [], ◌∷◌, length, is_some}
use Rattle.moka_hist.specs.State.{Call, World}
use Rattle.moka_hist.specs.Bound.{most_undecided, times_of}
use Rattle.moka_hist.specs.Loading.{retries}
use Rattle.moka_hist.specs.Plan.{Item, Aim}
use Rattle.moka_hist.specs.Visits.{settlement_for}
use Rattle.moka_hist.specs.Plan as plan

-- What it depends on, beside the call.
pub record Work : Type 0 where
  -- how many writes dropped calls left, how many are logged, and how many the log has room for
  pub owed : ℕ
  pub logged : ℕ
  pub size : ℕ
  -- how many steps the operation at which the call stands may still stay undecided, and how many a
  -- later one may
  pub left : ℕ
  pub most : ℕ
  -- whether the owner has ended that the call waits for
  pub ended : Bool
  -- at most so many keys the lists may still give, together, that the plan has to make
  pub keys : ℕ

-- by how much an operation that writes may raise what a later one may need: it may have added a key
abbrev pub growth : ℕ
growth = 48

-- to post a write, which is applied one day: where the log has no room the call takes the turn,
-- finds the log empty, ends the turn and posts once more
abbrev pub post_steps : Bool → ℕ
post_steps room = cond room 2 6

-- to take up and post as many writes, once the notice of each has ended
abbrev pub drain_steps : ℕ → ℕ
drain_steps owed = 1 + 8 * owed

-- to own a load, or to wait for its owner, after so many owners that were dropped
abbrev pub own_steps : ℕ → ℕ → ℕ
own_steps most aborts = most + 5 + 2 * (retries - aborts)

abbrev pub read_steps : ℕ → ℕ → ℕ
read_steps most aborts = most + 4 + 2 * (retries - aborts)

-- to store a told value, under the key's lock where a listener is set, and tell those that wait
abbrev pub told_steps : ℕ → ℕ → ℕ
told_steps owed most = 1 + drain_steps owed + (most + 11) + 2

-- to take a record out by an operation that may stay undecided for so many steps, to tell the
-- listener of it, to free the key's lock, to post the removal, to settle and to answer
abbrev pub out_steps : ℕ → ℕ
out_steps left = left + 11

-- to judge whether a chosen record has still to leave, and to take it out
abbrev pub holds_steps : ℕ → ℕ
holds_steps most = 2 + out_steps most

-- to store a value where nothing was seen, under the key's lock where a listener is set, and answer
abbrev pub insert_steps : ℕ → ℕ → ℕ
insert_steps owed most = drain_steps owed + (most + 11) + 1

-- to own a key's computes, to look what it has and to ask with that
abbrev pub own_key_steps : ℕ → ℕ → ℕ
own_key_steps owed most = drain_steps owed + (most + 4)

-- to wait for the owner of a key's computes, and once that has ended to begin anew
abbrev pub read_key_steps : Bool → ℕ → ℕ → ℕ
read_key_steps ended owed most = cond ended (own_key_steps owed most + 1) 1

-- to choose the predicates that may leave, to list each part, and to let predicates go
abbrev pub retire_steps : ℕ → ℕ → ℕ
retire_steps most parts = 2 + (most + 1) * parts

module _ {K V : Type 0} where
  -- to judge the record that was found, and to go on whether or not it is seen
  abbrev pub judge_steps : ℕ → ℕ → ℕ → Aim K V → ℕ
  judge_steps owed most aborts (plan.To_show form) = 1
  judge_steps owed most aborts (plan.To_load sought) = 1 + own_steps most aborts
  judge_steps owed most aborts (plan.To_own sought) = 3
  judge_steps owed most aborts (plan.To_insert key value) = 1 + insert_steps owed most
  judge_steps owed most aborts (plan.To_compute compute) = 2
  judge_steps owed most aborts (plan.To_evict key stamp cause) = holds_steps most

module _ {K V E : Type 0} where
  -- At most so many steps the plan takes, where so many writes are owed, so many owners were
  -- dropped, a later operation may stay undecided for `most` steps and one that stands first for
  -- `left`, and the owner that is waited for first has ended or not. Each logged write is counted
  -- apart.
  abbrev pub steps_of : ℕ → ℕ → ℕ → Bool → ℕ → Bool → List (Item K V E) → ℕ
  steps_of owed most aborts room left ended [] = 0
  steps_of owed most aborts room left ended (plan.Drain ∷ rest) =
      drain_steps owed + steps_of owed most aborts false most true rest
  steps_of owed most aborts room left ended (plan.Ended number ∷ rest) =
      1 + steps_of owed most aborts false most true rest
  steps_of owed most aborts room left ended (plan.Post write ∷ rest) =
      post_steps room + steps_of owed most aborts false most true rest
  steps_of owed most aborts room left ended (plan.Turn ∷ rest) =
      1 + steps_of owed most aborts room most true rest
  steps_of owed most aborts room left ended (plan.Apply ∷ rest) =
      1 + steps_of owed most aborts true most true rest
  steps_of owed most aborts room left ended (plan.End ∷ rest) =
      1 + steps_of owed most aborts room most true rest
  steps_of owed most aborts room left ended (plan.Get aim key ∷ rest) =
      left + 1 + judge_steps owed most aborts aim
  steps_of owed most aborts room left ended (plan.Judge aim key stored ∷ rest) =
      judge_steps owed most aborts aim
  steps_of owed most aborts room left ended (plan.Own sought ∷ rest) = own_steps most aborts
  steps_of owed most aborts room left ended (plan.Read sought ∷ rest) = read_steps most aborts
  steps_of owed most aborts room left ended (plan.Settle with ∷ rest) =
      1 + steps_of owed most aborts false most true rest
  steps_of owed most aborts room left ended (plan.Ask load ∷ rest) = 1
  steps_of owed most aborts room left ended (plan.Told load ∷ rest) = told_steps owed most
  steps_of owed most aborts room left ended (plan.Own_key compute ∷ rest) = own_key_steps owed most
  steps_of owed most aborts room left ended (plan.Own_alone key ∷ rest) = own_key_steps owed most
  steps_of owed most aborts room left ended (plan.Read_key compute ∷ rest) =
      read_key_steps ended owed most
  steps_of owed most aborts room left ended (plan.Ask_op compute found ∷ rest) = 1
  steps_of owed most aborts room left ended (plan.Told_op compute found ∷ rest) =
      told_steps owed most
  steps_of owed most aborts room left ended (plan.Lock key ∷ rest) =
      1 + steps_of owed most aborts false most true rest
  steps_of owed most aborts room left ended (plan.Unlock wrote ∷ rest) =
      1 + steps_of owed most aborts false most true rest
  steps_of owed most aborts room left ended (plan.Notice key old cause upsert ∷ rest) =
      1 + steps_of owed most aborts false most true rest
  steps_of owed most aborts room left ended (plan.Heard ∷ rest) =
      1 + steps_of owed most aborts false most true rest
  steps_of owed most aborts room left ended (plan.Holds key stamp cause there found ∷ rest) =
      holds_steps most
  steps_of owed most aborts room left ended (plan.Moment (plan.To_store key value) ∷ rest) =
      most + 10 + steps_of owed (most + growth) aborts false (most + growth) true rest
  steps_of owed most aborts room left ended (plan.Moment (plan.To_take_out removal key) ∷ rest) =
      1 + out_steps most
  steps_of owed most aborts room left ended (plan.Write key value moment ∷ rest) =
      left + 9 + steps_of owed (most + growth) aborts false (most + growth) true rest
  steps_of owed most aborts room left ended (plan.Out removal key ∷ rest) = out_steps left
  steps_of owed most aborts room left ended (plan.Idle ∷ rest) =
      1 + steps_of owed most aborts false most true rest
  steps_of owed most aborts room left ended (plan.Invalidate_all ∷ rest) =
      1 + steps_of owed most aborts false most true rest
  steps_of owed most aborts room left ended (plan.Register test ∷ rest) = 1
  steps_of owed most aborts room left ended (plan.List_keys part ∷ rest) =
      left + 1 + steps_of owed most aborts false most true rest
  steps_of owed most aborts room left ended (plan.Find key ∷ rest) =
      left + 2 + steps_of owed most aborts false most true rest
  steps_of owed most aborts room left ended (plan.Scan there found ∷ rest) =
      1 + steps_of owed most aborts false most true rest
  steps_of owed most aborts room left ended (plan.Candidates parts ∷ rest) = retire_steps most parts
  steps_of owed most aborts room left ended (plan.Strike there found ∷ rest) =
      1 + steps_of owed most aborts false most true rest
  steps_of owed most aborts room left ended (plan.Retire ∷ rest) = 1
  steps_of owed most aborts room left ended (plan.Reply answer ∷ rest) = 1

  -- at most so many steps the call makes by itself, but for keys that are yet to be listed
  abbrev pub ahead_of_plan : Work → Call K V E → ℕ
  ahead_of_plan work c =
      work.logged + steps_of work.owed work.most c.aborts
      (nat_lt work.logged work.size) work.left work.ended c.plan

  -- at most so many steps it makes by itself: each key that is yet to be listed will be looked up,
  -- and the record judged that is found
  abbrev pub ahead : Work → Call K V E → ℕ
  ahead work c = work.keys * (work.most + 2) + ahead_of_plan work c

  -- the work that is before the call of this number in the world, where the lists that it has still
  -- to make may give so many keys
  abbrev pub work_in : ℕ → ℕ → World K V E → Work
  work_in n keys w = record {
    owed = length w.desk.owed;
    logged = length w.desk.log;
    size = w.desk.size;
    left = most_undecided w.table - times_of w.stay n;
    most = most_undecided w.table;
    ended = is_some (settlement_for w.desk n);
    keys = keys;
  }
