-- One load for many callers: owning, waiting, asking, settling.
use Rattle.std.specs.Prelude.{ℕ, ◌+◌, ◌==◌, Bool, true, false, cond, List, [], ◌∷◌, Some, None}
use Rattle.moka_hist.specs.State.{Call}
use Rattle.moka_hist.specs.Plan.{Item, look, loaded, end_load, is_disabled}
use Rattle.moka_hist.specs.Plan as plan
use Rattle.moka_hist.specs.Next.{Next, goes, waits, asks, answers}
use Rattle.moka_hist.specs.declared.loads.Load.{Load}
use Rattle.moka_hist.specs.declared.loads.Sought.{Sought}
use Rattle.moka_hist.specs.declared.events.Told.TheVariants as told
use Rattle.moka_hist.specs.declared.replies.Ask.TheVariants as ask
use Rattle.moka_hist.specs.declared.replies.Answer.TheVariants as answer
use Rattle.moka_hist.specs.declared.visits.Claim.TheVariants as claim
use Rattle.moka_hist.specs.declared.visits.Found.{Found}
use Rattle.moka_hist.specs.declared.visits.Found.TheVariants as found
use Rattle.moka_hist.specs.declared.visits.Settled.TheVariants as settled

-- how many dropped owners one load reads before it gives up (moka, `value_initializer`)
abbrev pub retries : ℕ
retries = 200

module _ {K V E : Type 0} where
  -- the owner looks again before it asks, unless the cache is disabled
  abbrev pub owner_rest : Bool → Sought K → List (Item K V E)
  owner_rest false sought = look (plan.To_own sought) sought.load.key
  owner_rest true sought = plan.Ask sought.load ∷ []

  -- the owner asks in the end; the others wait for how it ends
  abbrev pub after_own : Call K V E → Sought K → Found V E → Next K V E
  after_own c sought (found.WaitOrOwn claim.Owner) =
      goes c (owner_rest (is_disabled c.rules) sought)
  after_own c sought (found.WaitOrOwn (claim.Waits owner)) = goes c (plan.Read sought ∷ [])
  after_own c sought _ = waits c

  -- the owner was dropped: the load starts anew, or gives up
  abbrev pub after_abort : Call K V E → Sought K → Next K V E
  after_abort c sought = cond (c.aborts + 1 == retries)
      (answers answer.RetriesExhausted)
      (goes (record c { aborts = c.aborts + 1 }) (plan.Own sought ∷ []))

  -- what the owner told those that wait is answered, whatever the own test says of it
  abbrev pub after_read : Call K V E → Sought K → Found V E → Next K V E
  after_read c sought (found.ReadSettled (settled.Ready value)) =
      goes c (plan.Reply (answer.Loaded value false) ∷ [])
  after_read c sought (found.ReadSettled (settled.Err error)) =
      goes c (plan.Reply (answer.InitErr error) ∷ [])
  after_read c sought (found.ReadSettled settled.Nothing) = goes c (plan.Reply answer.Nothing ∷ [])
  after_read c sought (found.ReadSettled settled.Aborted) = after_abort c sought
  after_read c sought (found.ReadSettled settled.NotYet) = waits c
  after_read c sought _ = waits c

  abbrev pub after_ask : Call K V E → Load K → Found V E → Next K V E
  after_ask c load found.OpenAsk = asks c ask.Init (plan.Told load ∷ [])
  after_ask c load _ = waits c

  -- a told value is stored, and then told to those that wait; an error and nothing are at once
  abbrev pub after_told : Call K V E → Load K → Found V E → Next K V E
  after_told c load (found.TakeTold (Some (told.Value value))) = goes c (loaded c.rules load value)
  after_told c load (found.TakeTold (Some (told.Err error))) =
      goes c (end_load (settled.Err error) (answer.InitErr error))
  after_told c load (found.TakeTold (Some told.Nothing)) =
      goes c (end_load settled.Nothing answer.Nothing)
  after_told c load (found.TakeTold None) = waits c
  -- no ask of a load takes these
  after_told c load (found.TakeTold (Some (told.Op op))) = waits c
  after_told c load (found.TakeTold (Some told.Done)) = waits c
  after_told c load (found.TakeTold (Some told.Off)) = waits c
  after_told c load _ = waits c

  abbrev pub after_settle : Call K V E → List (Item K V E) → Found V E → Next K V E
  after_settle c rest found.Settle = goes c rest
  after_settle c rest _ = waits c
