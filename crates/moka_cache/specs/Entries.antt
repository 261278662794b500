-- What the states answer whose answers are entries, or what a compute has done. The last row of each
-- function stands for the answers that carry none.
use Rattle.std.specs.Prelude.{false, Option, Some, None, Result, Ok, Err}
use Rattle.std.specs.Option.{option_map}
use Rattle.moka_hist.specs.declared.entries.CompResult.{CompResult}
use Rattle.moka_hist.specs.declared.entries.CompResult.TheVariants as done
use Rattle.moka_hist.specs.declared.entries.Entry.{Entry}
use Rattle.moka_hist.specs.declared.replies.Answer.{Answer}
use Rattle.moka_hist.specs.declared.replies.Answer.TheVariants as answer
use Rattle.moka_cache.specs.declared.errors.LoadError.{LoadError}
use Rattle.moka_cache.specs.declared.errors.LoadError.TheVariants as error
use Rattle.moka_cache.specs.declared.errors.RetriesExhausted.{RetriesExhausted}

module _ {K V E : Type 0} where
  -- the entry of this key with the value of a load: fresh where the load is, and never replaced
  abbrev pub entry_in : Option K → Answer K V E → Option (Entry K V)
  entry_in named (answer.Loaded value fresh) =
      Some (record { key = named; value = value; fresh = fresh; replaced = false })
  entry_in named _ = None

  -- what a load answers by it, or that the owners that it waited for were dropped too often
  abbrev pub loaded_entry_in : Option K → Answer K V E
      → Option (Result (Entry K V) RetriesExhausted)
  loaded_entry_in named answer.RetriesExhausted = Some (Err (record {}))
  loaded_entry_in named answer = option_map Ok (entry_in named answer)

  -- the same of a load that may find nothing
  abbrev pub optionally_loaded_entry_in : Option K → Answer K V E
      → Option (Result (Option (Entry K V)) RetriesExhausted)
  optionally_loaded_entry_in named answer.Nothing = Some (Ok None)
  optionally_loaded_entry_in named answer.RetriesExhausted = Some (Err (record {}))
  optionally_loaded_entry_in named answer =
      option_map (λ entry. Ok (Some entry)) (entry_in named answer)

  -- the same of a load that may fail
  abbrev pub try_loaded_entry_in : Option K → Answer K V E
      → Option (Result (Entry K V) (LoadError E))
  try_loaded_entry_in named (answer.InitErr gave) = Some (Err (error.Init gave))
  try_loaded_entry_in named answer.RetriesExhausted = Some (Err error.RetriesExhausted)
  try_loaded_entry_in named answer = option_map Ok (entry_in named answer)

  -- what a compute has done that is never told an error
  abbrev pub computed_in : Answer K V E → Option (CompResult K V)
  computed_in (answer.Computed done) = Some done
  computed_in _ = None

  -- what one has done that may be, or the error
  abbrev pub try_computed_in : Answer K V E → Option (Result (CompResult K V) E)
  try_computed_in (answer.Computed done) = Some (Ok done)
  try_computed_in (answer.ComputeErr error) = Some (Err error)
  try_computed_in _ = None

-- the entry that a compute has stored, if it did
abbrev pub stored_by : {K V : Type 0} → CompResult K V → Option (Entry K V)
stored_by (done.Inserted entry) = Some entry
stored_by (done.ReplacedWith entry) = Some entry
stored_by _ = None

abbrev pub stored_in : {K V E : Type 0} → Answer K V E → Option (Entry K V)
stored_in (answer.Computed done) = stored_by done
stored_in _ = None
