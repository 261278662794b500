use Rattle.std.proofs.Common.{List, ◌++◌, drop}
use Rattle.std.specs.Map.{keys_of}
use Rattle.moka_cht.specs.Buckets.{live_in}
use Rattle.moka_cht.specs.Calls.{CallsEach}
use Rattle.moka_cht.proofs.keys.list_keys.Given as goal

abbrev pub invariant-loop-word : goal.invariant-loop-word
invariant-loop-word g l = record {
  callable : goal.F-IsAlwaysCallable g l.with_key;
  goes_on : (more : List _) (last : _) → CallsEach g.F.FnMut l.with_key (keys_of (live_in l.nodes (drop l.word-index l.words))) more last
      → CallsEach g.F.FnMut l.fn.with_key (keys_of (live_in l.nodes l.words)) (l.keys.items ++ more) last;
}
