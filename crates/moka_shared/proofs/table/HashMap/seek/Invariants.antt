-- The probe has passed other keys alone, in a log that goes on.
use Rattle.std.proofs.Common.{◌≡◌, ◌⊎◌, ◌<◌}
use Rattle.std.specs.Fn.{ComputesKey}
use Rattle.moka_shelf.specs.Looks.{hiding}
use Rattle.moka_growth.specs.declared.kinds.CallKind.{CallKind}
use Rattle.moka_shared.specs.Accesses.{HasCome, HasKey, stands}
use Rattle.moka_shared.specs.Hashing.{hash_in, place_in}
use Rattle.moka_shared.specs.Probing.{GoesOn, HasProbed, IsFirstRoot}
use Rattle.moka_shared.proofs.table.HashMap.seek.Given as goal

abbrev pub invariant-loop-passed : goal.invariant-loop-passed
invariant-loop-passed g l = record {
  callable : goal.F-IsAlwaysCallable g l.eq;
  book : l.front.book ≡ l.fn.front.book;
  goes_on : GoesOn g.K.PartialEq.eq (hash_in g.S.BuildHasher g.S.Hasher.Hasher g.K.Hash.hash_input) (place_in g.S.BuildHasher g.S.Hasher.Hasher g.K.Hash.hash_input)
      l.self l.fn.front.log l.front.log;
  hidden : hiding g.L.Shelf.hidden g.L.Shelf.last l.hidden ≡ hiding g.L.Shelf.hidden g.L.Shelf.last l.fn.hidden;
  course : (key : _) (k : CallKind) → HasKey k → ComputesKey g.F.FnMut (g.K.PartialEq.eq key) l.fn.eq →
      l.hash ≡ hash_in g.S.BuildHasher g.S.Hasher.Hasher g.K.Hash.hash_input l.self.hasher key →
      (l.passed ≡ 0) ⊎ HasCome g.K.PartialEq.eq (hash_in g.S.BuildHasher g.S.Hasher.Hasher g.K.Hash.hash_input) (place_in g.S.BuildHasher g.S.Hasher.Hasher g.K.Hash.hash_input)
      l.self key k l.hash l.fn.front.log l.front.log
      (λ step. step ≡ stands l.self.size (place_in g.S.BuildHasher g.S.Hasher.Hasher g.K.Hash.hash_input l.self.hasher l.self.segments key) k l.hash l.passed);
  knows : (key : _) → ComputesKey g.F.FnMut (g.K.PartialEq.eq key) l.fn.eq →
      l.hash ≡ hash_in g.S.BuildHasher g.S.Hasher.Hasher g.K.Hash.hash_input l.self.hasher key →
      ComputesKey g.F.FnMut (g.K.PartialEq.eq key) l.eq
      × HasProbed g.K.PartialEq.eq (place_in g.S.BuildHasher g.S.Hasher.Hasher g.K.Hash.hash_input) l.self key l.hash l.front.log l.passed
      × (0 < l.passed → IsFirstRoot (place_in g.S.BuildHasher g.S.Hasher.Hasher g.K.Hash.hash_input l.self.hasher l.self.segments key) l.front.log);
}
