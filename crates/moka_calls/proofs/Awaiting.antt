-- A call that awaits what its access saw has not ended.
use Rattle.std.proofs.Common.{Option, Some, None}
use Rattle.moka_words.specs.declared.accesses.Seen.{Seen}
use Rattle.moka_growth.specs.Calls.{Call, access_of}
use Rattle.moka_calls.specs.declared.decision.Decision.{Decision}
use Rattle.moka_calls.specs.Standing.{Awaits, MaySee, standing}

pub may_see : (d : Option Decision) (c : Call) (saw : Seen) → Awaits (standing d c) saw → MaySee (access_of c) saw
may_see None c saw awaits = awaits
may_see (Some d) c saw awaits = absurd awaits
