-- What the keeper in memory tells that never fails.
use Rattle.std.specs.Prelude.{cond, nat_eq, Some, None}
use Rattle.std.specs.HashMap.{get}
use Rattle.moka_keepers.specs.Keeping.{Kept}
use Rattle.moka_keepers.specs.declared.plain_keeper.PlainKeeper.{PlainKeeper}

-- its map, where each put was kept; and no list of the puts
abbrev pub told_if : PlainKeeper → Kept
told_if k = record { pairs = cond k.whole (Some (get nat_eq k.pairs)) None; puts = None }
