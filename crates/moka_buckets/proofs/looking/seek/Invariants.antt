-- The probe has passed other keys alone.
use Rattle.std.specs.Fn.{ComputesKey}
use Rattle.moka_words.specs.Later.{HasPassed}
use Rattle.moka_pairs.specs.Keys.{own_by}
use Rattle.moka_buckets.specs.Nodes.{key_in}
use Rattle.moka_buckets.proofs.looking.seek.Given as goal

abbrev pub invariant-loop-passed : goal.invariant-loop-passed
invariant-loop-passed g l = record {
  callable : goal.F-IsAlwaysCallable g l.eq;
  knows : (key : _) → ComputesKey g.F.FnMut (g.K.PartialEq.eq key) l.fn.eq → ComputesKey g.F.FnMut (g.K.PartialEq.eq key) l.eq
      × HasPassed (own_by g.K.PartialEq.eq (key_in l.nodes) key) l.words l.hash l.passed;
}
