use Rattle.std.proofs.Common.{◌≤◌, refl, subst, ◌∙◌}
use Rattle.std.proofs.lemmas.Option.{slice_get_read}
use Rattle.moka_buckets.proofs.Placed.{placed_set, set_nothing}
use Rattle.moka_buckets.proofs.array.Arrays.set.Goals as goal

pub returns-then-at-len-clause-placed : goal.returns-then-at-len-clause-placed
returns-then-at-len-clause-placed c =
    let s = c.args.self.now in
    placed_set s.all.items s.segment.arrays.items c.args.array c.index_mut.result.now c.set.new.self c.requires.placed
    (slice_get_read s.all.items c.len.result c.args.array c.index_mut.result.now (c.len.ensures ∙ s.all.ok.0) c.if-at-len.true c.index_mut.ensures.value)
    c.set.ensures.place

pub returns-else-at-len-clause-sets : goal.returns-else-at-len-clause-sets
returns-else-at-len-clause-sets c =
    let s = c.args.self.now in (
      set_nothing s.all.items c.args.array c.args.index c.args.to (subst (λ n. n ≤ c.args.array) (c.len.ensures ∙ s.all.ok.0) c.if-at-len.false),
      λ a other. refl,
      record { arrays = refl; rooted = refl; fresh = refl },
    )
