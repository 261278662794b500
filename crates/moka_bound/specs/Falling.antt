-- Each step that leaves a call going lowers how many it may still make.
use Rattle.std.specs.Prelude.{◌≡◌, ℕ, ◌+◌, ◌<◌, ◌≤◌, Bool, length, is_some}
use Rattle.moka_hist.specs.State.{Call, World}
use Rattle.moka_hist.specs.Loading.{retries}
use Rattle.moka_hist.specs.Step.{Access, Gets, May, access_of, next_of, going_as}
use Rattle.moka_hist.specs.Visits.{settlement_for}
use Rattle.moka_hist.specs.Step as step
use Rattle.moka_hist.specs.declared.tables.TableOp.TheVariants as op
use Rattle.moka_hist.specs.declared.tables.TableTurn.TheVariants as table
use Rattle.moka_hist.specs.declared.tables.TableAnswer.TheVariants as answer
use Rattle.moka_hist.specs.declared.accesses.Got.{Got}
use Rattle.moka_hist.specs.declared.accesses.Got.TheVariants as got
use Rattle.moka_hist.specs.declared.accesses.Turn.TheVariants as turns
use Rattle.moka_bound.specs.Ahead.{Work, ahead, growth}

module _ {K V E : Type 0} where
  -- the work counts the writes of the world that are owed and logged, and says whether the owner
  -- has ended there that the call of this number waits for
  pub record Counts (n : ℕ) (w : World K V E) (work : Work) : Type 0 where
    pub owed : work.owed ≡ length w.desk.owed
    pub logged : work.logged ≡ length w.desk.log
    pub size : work.size ≡ w.desk.size
    pub ended : work.ended ≡ is_some (settlement_for w.desk n)

  -- by how much an access that gave this may raise what a later operation may need: only one that
  -- may add a key does
  abbrev pub raised : Access K V E → Got K V E → ℕ
  raised (step.On_table (op.InsertOrModify key stored)) (got.Table (table.Decided answer)) = growth
  raised (step.On_table (op.InsertIfAbsent key stored)) (got.Table (table.Decided answer)) = growth
  raised _ _ = 0

  -- how many keys a list gave
  abbrev pub keys_in : Got K V E → ℕ
  keys_in (got.Table (table.Decided (answer.Keys keys))) = length keys
  keys_in _ = 0

  -- what an access that gave this may make of how long operations stay undecided, and of how many
  -- keys lists have still to give
  pub record Shortens (old new : Work) (access : Access K V E) (given : Got K V E) : Type 0 where
    pub within : new.left ≤ new.most
    pub raises : new.most ≤ old.most + raised access given
    pub going : given ≡ got.Table table.Going → new.left < old.left
    pub keys : new.keys + keys_in given ≤ old.keys

-- A step that leaves the call going, in a world that has what the step needs, leaves it live, and
-- lowers how many steps it may still make, where the log has room for a write at all. A call that
-- may add a key has no keys to list.
abbrev pub GoingFalls : (K V E : Type 0) → (K → K → Bool) → Type 0
GoingFalls K V E eq =
    (n : ℕ) (c : Call K V E) (w new : World K V E) (given : Got K V E) (before after : Work) →
    c.aborts < retries → 0 < before.size →
    (0 < raised (access_of n c) given → before.keys ≡ 0) →
    May w (access_of n c) → Gets eq n w (access_of n c) given new → Counts n w before →
    Counts n new after → Shortens before after (access_of n c) given →
    (next_of n c given).turn ≡ turns.Going →
    (d : Call K V E) × (next_of n c given ≡ going_as d) × (ahead after d < ahead before c)
