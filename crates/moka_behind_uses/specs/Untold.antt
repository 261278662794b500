-- What a keeper tells of which no clause says what it holds.
use Rattle.std.specs.Prelude.{None}
use Rattle.moka_keepers.specs.Keeping.{Kept}

-- neither its map nor its puts
abbrev pub untold : Kept
untold = record { pairs = None; puts = None }
