use Rattle.std.proofs.Common.{◌≡◌, ℕ, max, Result, Ok, Err, OnErr, arith, ap}
use Rattle.std.specs.declared.alloc.AllocError.{AllocError}
use Rattle.moka_buckets.specs.declared.part.Part.{Part}
use Rattle.moka_buckets.specs.Accesses.{IsAsBefore}
use Rattle.moka_buckets.specs.Parts.{memory_at, peak_at}
use Rattle.moka_buckets.specs.Arrays.{memory_of}
use Rattle.moka_buckets.specs.Steps.{CanBegin, Done}
use Rattle.moka_buckets.proofs.Adding.{adds_stayed, grows_stayed}
use Rattle.moka_buckets.proofs.Doing.{done_or}
use Rattle.moka_buckets.proofs.part.Part.step.Given as given
use Rattle.moka_buckets.proofs.part.Part.step.Goals as goal

-- the step of the segment's arrays and nodes
moved : (g : given.Over) (c : goal.After-step g) (hash : g.row.K.Denot → ℕ) (first : ℕ) → CanBegin g.K.PartialEq.eq hash (memory_at c.args.self.now)
    c.args.self.now.nodes.items first (peak_at c.args.self.now) c.args.call.now → Done g.K.PartialEq.eq hash first (peak_at c.args.self.now)
    (memory_at c.args.self.now) c.args.self.now.nodes.items c.args.call.now c.step.result (memory_of c.step.new.arrays) c.step.new.nodes.items c.step.new.call
moved g c hash first can = done_or g.K.PartialEq.eq g.met.K.Eq.laws hash first (peak_at c.args.self.now) (memory_at c.args.self.now) (memory_of c.step.new.arrays)
    c.args.self.now.nodes.items c.step.new.nodes.items c.args.call.now c.step.new.call c.step.result can
    (c.step.ensures.done hash first (peak_at c.args.self.now) can) c.step.ensures.err

pub returns-clause-goes : goal.returns-clause-goes
returns-clause-goes g c = λ hash first can. record {
  done = moved g c hash first can;
  placed = c.step.ensures.placed;
  peak = c.max-self.ensures;
  adds = adds_stayed c.args.self.now.nodes.items c.step.new.nodes.items c.args.call.now c.step.new.call (moved g c hash first can).stays;
}

-- the most keys that a segment had are counted once
peak_kept : (most peak len now : ℕ) → most ≡ max peak len → now ≡ len → max most now ≡ max peak len
peak_kept most peak len now e f = omega (arith, e, f)

as_before : {A K V C : Type 0} (p q : Part K V) (r : Result A AllocError) (x y : C) → q.peak ≡ peak_at p →
    OnErr r ((memory_at q ≡ memory_at p) × (q.nodes.items ≡ p.nodes.items) × (x ≡ y)) → OnErr r (IsAsBefore p q)
as_before p q (Ok a) x y peak e = tt
as_before p q (Err b) x y peak e = record {
  memory = e.0;
  nodes = e.1;
  peak = peak_kept q.peak p.peak p.arrays.segment.len q.arrays.segment.len peak (ap (λ m. m.len) e.0);
}

pub returns-clause-once : goal.returns-clause-once
returns-clause-once g c = λ hash first can. record {
  accesses = c.step.ensures.accesses hash first (peak_at c.args.self.now) can;
  grows = grows_stayed c.args.self.now.nodes.items c.step.new.nodes.items c.args.call.now c.step.new.call (moved g c hash first can).stays;
  err = as_before c.args.self.now _ c.step.result _ _ c.max-self.ensures c.step.ensures.err;
}
