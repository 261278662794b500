-- Computing: owning a key's computes, asking with what the key has, and doing what is told.
use Rattle.std.specs.Prelude.{Bool, true, false, List, [], ◌∷◌, Option, Some, None}
use Rattle.moka_hist.specs.State.{Call}
use Rattle.moka_hist.specs.Plan.{Item, look, put, take_out, end_load, is_disabled}
use Rattle.moka_hist.specs.Plan as plan
use Rattle.moka_hist.specs.Entries.{unchanged, put_answer}
use Rattle.moka_hist.specs.Next.{Next, goes, waits, asks}
use Rattle.moka_hist.specs.declared.loads.Compute.{Compute}
use Rattle.moka_hist.specs.declared.events.Op.TheVariants as op
use Rattle.moka_hist.specs.declared.events.Told.TheVariants as told
use Rattle.moka_hist.specs.declared.replies.Ask.TheVariants as ask
use Rattle.moka_hist.specs.declared.replies.Answer.{Answer}
use Rattle.moka_hist.specs.declared.replies.Answer.TheVariants as answer
use Rattle.moka_hist.specs.declared.visits.Claim.TheVariants as claim
use Rattle.moka_hist.specs.declared.visits.Found.{Found}
use Rattle.moka_hist.specs.declared.visits.Found.TheVariants as found
use Rattle.moka_hist.specs.declared.visits.Settled.TheVariants as settled
use Rattle.moka_hist.specs.declared.visits.Takes.TheVariants as takes

module _ {K V E : Type 0} where
  -- the owner looks what the key has, unless the cache is disabled, and asks with it
  abbrev pub compute_rest : Bool → Compute K → List (Item K V E)
  compute_rest false compute = plan.Drain ∷ look (plan.To_compute compute) compute.key
  compute_rest true compute = plan.Drain ∷ plan.Ask_op compute None ∷ []

  -- what the key has is answered, and nothing asked
  abbrev pub report_rest : Bool → K → List (Item K V E)
  report_rest false key = plan.Drain ∷ look (plan.To_show (plan.As_report key)) key
  report_rest true key = plan.Drain ∷ plan.Reply (unchanged key None) ∷ []

  -- the owner asks in the end; the others wait until it has ended
  abbrev pub after_own_key : Call K V E → Compute K → Found V E → Next K V E
  after_own_key c compute (found.WaitOrOwn claim.Owner) =
      goes c (compute_rest (is_disabled c.rules) compute)
  after_own_key c compute (found.WaitOrOwn (claim.Waits owner)) =
      goes c (plan.Read_key compute ∷ [])
  after_own_key c compute _ = waits c

  -- one that computes alone waits for no owner
  abbrev pub after_own_alone : Call K V E → K → Found V E → Next K V E
  after_own_alone c key (found.OwnAlone true) = goes c (report_rest (is_disabled c.rules) key)
  after_own_alone c key (found.OwnAlone false) =
      goes c (compute_rest (is_disabled c.rules) (record { key = key; takes = takes.TryOp }))
  after_own_alone c key _ = waits c

  -- however the owner ended, the compute begins anew
  abbrev pub after_read_key : Call K V E → Compute K → Found V E → Next K V E
  after_read_key c compute (found.ReadSettled settled.NotYet) = waits c
  after_read_key c compute (found.ReadSettled (settled.Ready value)) =
      goes c (plan.Own_key compute ∷ [])
  after_read_key c compute (found.ReadSettled (settled.Err error)) =
      goes c (plan.Own_key compute ∷ [])
  after_read_key c compute (found.ReadSettled settled.Nothing) =
      goes c (plan.Own_key compute ∷ [])
  after_read_key c compute (found.ReadSettled settled.Aborted) =
      goes c (plan.Own_key compute ∷ [])
  after_read_key c compute _ = waits c

  abbrev pub after_ask_op : Call K V E → Compute K → Option (K × V) → Found V E → Next K V E
  after_ask_op c compute pair found.OpenAsk =
      asks c (ask.Compute pair) (plan.Told_op compute pair ∷ [])
  after_ask_op c compute pair _ = waits c

  -- the compute is over, for those that wait, and answers
  abbrev pub end_compute : Answer K V E → List (Item K V E)
  end_compute said = end_load settled.Nothing said

  -- a told value is stored, unless the cache is disabled
  abbrev pub put_told : Bool → Call K V E → K → Option (K × V) → V → List (Item K V E)
  put_told true c key pair value = end_compute (put_answer key pair value)
  put_told false c key pair value =
      put c.rules key value (end_compute (put_answer key pair value))

  abbrev pub after_told_op : Call K V E → Compute K → Option (K × V) → Found V E → Next K V E
  after_told_op c compute pair (found.TakeTold (Some (told.Op op.Nop))) =
      goes c (end_compute (unchanged compute.key pair))
  after_told_op c compute pair (found.TakeTold (Some (told.Op (op.Put value)))) =
      goes c (put_told (is_disabled c.rules) c compute.key pair value)
  after_told_op c compute pair (found.TakeTold (Some (told.Value value))) =
      goes c (put_told (is_disabled c.rules) c compute.key pair value)
  after_told_op c compute pair (found.TakeTold (Some (told.Op op.Remove))) =
      goes c (take_out c.rules (plan.To_remove_as_told compute.key) compute.key)
  after_told_op c compute pair (found.TakeTold (Some (told.Err error))) =
      goes c (end_compute (answer.ComputeErr error))
  after_told_op c compute pair (found.TakeTold None) = waits c
  -- no ask of a compute takes these
  after_told_op c compute pair (found.TakeTold (Some told.Nothing)) = waits c
  after_told_op c compute pair (found.TakeTold (Some told.Done)) = waits c
  after_told_op c compute pair (found.TakeTold (Some told.Off)) = waits c
  after_told_op c compute pair _ = waits c
