-- How many calls wait for each owner, and what one copies that reads how it ended.
use Rattle.std.specs.Prelude.{ℕ, ◌==◌, Bool, true, false, List, Option, count_by}
use Rattle.std.specs.Option.{option_map_or}
use Rattle.moka_hist.specs.declared.visits.Settled.{Settled}
use Rattle.moka_hist.specs.declared.visits.Settled.TheVariants as settled

-- how many of the calls that have joined an owner, each with its owner, wait for this one
abbrev pub waiting_for : List (ℕ × ℕ) → ℕ → ℕ
waiting_for joined owner = count_by (λ e. e.1 == owner) joined

-- it has something to copy: a value or an error
abbrev pub has_content : {V E : Type 0} → Settled V E → Bool
has_content settled.NotYet = false
has_content (settled.Ready value) = true
has_content (settled.Err error) = true
has_content settled.Nothing = false
has_content settled.Aborted = false

-- and so has this, if it is there
abbrev pub is_copied : {V E : Type 0} → Option (Settled V E) → Bool
is_copied o = option_map_or has_content o false
