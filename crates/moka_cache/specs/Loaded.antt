-- What a load answers. The last row of each function stands for the answers that no such load gives.
use Rattle.std.specs.Prelude.{Option, Some, None, Result, Ok, Err}
use Rattle.moka_hist.specs.declared.replies.Answer.{Answer}
use Rattle.moka_hist.specs.declared.replies.Answer.TheVariants as answer
use Rattle.moka_cache.specs.declared.errors.LoadError.{LoadError}
use Rattle.moka_cache.specs.declared.errors.LoadError.TheVariants as error
use Rattle.moka_cache.specs.declared.errors.RetriesExhausted.{RetriesExhausted}

module _ {K V E : Type 0} where
  -- the value that the answer tells, or that the owners which the load waited for were dropped too
  -- often
  abbrev pub loaded_in : Answer K V E → Option (Result V RetriesExhausted)
  loaded_in (answer.Loaded value fresh) = Some (Ok value)
  loaded_in answer.RetriesExhausted = Some (Err (record {}))
  loaded_in _ = None

  -- what a load that may find nothing tells: the value, that there is none, or that it gave up
  abbrev pub optionally_loaded_in : Answer K V E → Option (Result (Option V) RetriesExhausted)
  optionally_loaded_in (answer.Loaded value fresh) = Some (Ok (Some value))
  optionally_loaded_in answer.Nothing = Some (Ok None)
  optionally_loaded_in answer.RetriesExhausted = Some (Err (record {}))
  optionally_loaded_in _ = None

  -- what a load that may fail tells: the value, the error, or that it gave up
  abbrev pub try_loaded_in : Answer K V E → Option (Result V (LoadError E))
  try_loaded_in (answer.Loaded value fresh) = Some (Ok value)
  try_loaded_in (answer.InitErr gave) = Some (Err (error.Init gave))
  try_loaded_in answer.RetriesExhausted = Some (Err error.RetriesExhausted)
  try_loaded_in _ = None
