-- The operation has not decided, and the map is as it was.
use Rattle.std.proofs.Common.{◌≡◌, length, Some}
use Rattle.moka_table.specs.Map.{SameMap}
use Rattle.moka_buckets.specs.Views.{count_of, fits_in, left_of, map_in, operation_of}
use Rattle.moka_map.proofs.running.run.Given as goal

abbrev pub invariant-loop-call : goal.invariant-loop-call
invariant-loop-call g l = record {
  fits : fits_in g.S.BuildHasher g.S.Hasher.Hasher g.K.PartialEq.eq g.K.Hash.hash_input l.table l.call;
  operation : operation_of l.call ≡ Some l.fn.operation;
  map : SameMap (map_in g.S.BuildHasher g.S.Hasher.Hasher g.K.PartialEq.eq g.K.Hash.hash_input l.fn.table)
      (map_in g.S.BuildHasher g.S.Hasher.Hasher g.K.PartialEq.eq g.K.Hash.hash_input l.table);
  count : count_of l.table ≡ count_of l.fn.table;
  hasher : l.table.hasher ≡ l.fn.table.hasher;
  segments : length l.table.parts ≡ length l.fn.table.parts;
}

abbrev pub decreases-loop-call : goal.decreases-loop-call
decreases-loop-call g l = left_of l.table l.call
