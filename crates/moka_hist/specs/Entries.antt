-- What a compute answers, by what its look found.
use Rattle.std.specs.Prelude.{Bool, true, false, Option, Some, None}
use Rattle.moka_hist.specs.declared.entries.Entry.{Entry}
use Rattle.moka_hist.specs.declared.entries.CompResult.TheVariants as done
use Rattle.moka_hist.specs.declared.replies.Answer.{Answer}
use Rattle.moka_hist.specs.declared.replies.Answer.TheVariants as answer

-- the entry of this key and value, as it was stored, if it was
abbrev pub entry : {K V : Type 0} → K → V → Bool → Bool → Entry K V
entry key value fresh replaced =
    record { key = Some key; value = value; fresh = fresh; replaced = replaced }

module _ {K V E : Type 0} where
  -- what the look found was left as it is
  abbrev pub unchanged : K → Option (K × V) → Answer K V E
  unchanged key None = answer.Computed (done.StillNone key)
  unchanged key (Some pair) = answer.Computed (done.Unchanged (entry key pair.1 false false))

  -- the value was stored
  abbrev pub put_answer : K → Option (K × V) → V → Answer K V E
  put_answer key None value = answer.Computed (done.Inserted (entry key value true false))
  put_answer key (Some pair) value =
      answer.Computed (done.ReplacedWith (entry key value true true))

  -- this value was taken out
  abbrev pub removed_value : K → V → Answer K V E
  removed_value key value = answer.Computed (done.Removed (entry key value false false))
