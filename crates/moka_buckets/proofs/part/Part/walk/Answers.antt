use Rattle.std.proofs.Common.{◌≡◌, max, None, Result, Ok, Err, IfOk, OnErr, refl, subst, sym, ap, ◌∙◌}
use Rattle.std.specs.declared.alloc.AllocError.{AllocError}
use Rattle.moka_buckets.specs.declared.part.Part.{Part}
use Rattle.moka_buckets.specs.Accesses.{Accesses, IsAsBefore, wanted_by}
use Rattle.moka_buckets.proofs.Once.{grows_none}
use Rattle.moka_buckets.specs.Arrays.{memory_of}
use Rattle.moka_buckets.specs.Parts.{memory_at, peak_at}
use Rattle.moka_buckets.specs.Walks.{CanWalk, Lead}
use Rattle.moka_buckets.proofs.part.Part.walk.Goals as goal

pub walk-requires-clause-can : goal.walk-requires-clause-can
walk-requires-clause-can g c =
    let (hash, first, can) = c.requires.can in
    let p = c.args.self.now in (
      hash,
      first,
      peak_at p,
      subst (λ xs. CanWalk g.K.PartialEq.eq hash (memory_at p) xs first (peak_at p) c.args.table.now) (sym c.as_slice.ensures.value) can,
    )

pub returns-clause-leads : goal.returns-clause-leads
returns-clause-leads g c = λ hash first can.
    let p = c.args.self.now in
    let eq = g.K.PartialEq.eq in record {
      lead = subst (λ xs. IfOk c.walk.result (λ done. Lead eq hash xs first (peak_at p) (memory_at p) c.args.table.now (memory_of c.walk.new.arrays) c.walk.new.table))
          c.as_slice.ensures.value
          (c.walk.ensures.lead hash first (peak_at p) (subst (λ xs. CanWalk eq hash (memory_at p) xs first (peak_at p) c.args.table.now) (sym c.as_slice.ensures.value) can));
      ended = c.walk.ensures.ended;
      nodes = refl;
      peak = refl;
      placed = c.walk.ensures.placed;
      err = c.walk.ensures.err;
    }

as_before : {A K V C : Type 0} (p q : Part K V) (r : Result A AllocError) (x y : C) → q.nodes.items ≡ p.nodes.items → q.peak ≡ p.peak →
    OnErr r ((memory_at q ≡ memory_at p) × (x ≡ y)) → OnErr r (IsAsBefore p q)
as_before p q (Ok a) x y nodes peak e = tt
as_before p q (Err b) x y nodes peak e = record {
  memory = e.0;
  nodes = nodes;
  peak = ap (λ n. max n q.arrays.segment.len) peak ∙ ap (λ m. max p.peak m.len) e.0;
}

pub returns-clause-once : goal.returns-clause-once
returns-clause-once g c = λ hash first can.
    let p = c.args.self.now in
    let eq = g.K.PartialEq.eq in record {
      accesses = subst (λ xs. IfOk c.walk.result (λ done. Accesses eq hash None (wanted_by c.args.table.now) xs (memory_at p) (memory_of c.walk.new.arrays)))
          c.as_slice.ensures.value
          (c.walk.ensures.accesses hash first (peak_at p) (subst (λ xs. CanWalk eq hash (memory_at p) xs first (peak_at p) c.args.table.now) (sym c.as_slice.ensures.value) can));
      grows = grows_none p.nodes.items;
      err = as_before p _ c.walk.result _ _ refl refl c.walk.ensures.err;
    }
