-- Calls at the keys that are left go on from the calls so far.
use Rattle.std.proofs.Common.{List, ◌++◌, drop}
use Rattle.std.specs.Map.{keys_of}
use Rattle.moka_buckets.specs.Asking.{CallsEach}
use Rattle.moka_buckets.specs.Listed.{listed_in}
use Rattle.moka_buckets.proofs.part_keys.list_words.Given as goal

abbrev pub invariant-loop-word : goal.invariant-loop-word
invariant-loop-word g l = record {
  callable : goal.F-IsAlwaysCallable g l.with_key;
  goes_on : (more : List _) (last : _) → CallsEach g.F.FnMut l.with_key (keys_of (listed_in l.nodes (drop l.word-index l.words))) more last
      → CallsEach g.F.FnMut l.fn.with_key (keys_of (listed_in l.nodes l.words)) (l.list.items ++ more) last;
}
