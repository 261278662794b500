-- The segments so far are laid out anew.
use Rattle.std.proofs.Common.{take}
use Rattle.moka_buckets.specs.Compacting.{AllCompact}
use Rattle.moka_buckets.proofs.compacting.compact_parts.Given as goal

abbrev pub invariant-loop-part : goal.invariant-loop-part
invariant-loop-part g l = AllCompact (take l.part-index l.parts) l.anew.items
