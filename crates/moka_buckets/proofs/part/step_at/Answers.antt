use Rattle.std.proofs.Common.{◌≡◌, Some, length, refl, sym, subst, ◌∙◌}
use Rattle.std.proofs.lemmas.Option.{slice_get_read, slice_get_within}
use Rattle.moka_buckets.specs.KeyOps.{key_of}
use Rattle.moka_buckets.specs.Accesses.{StepsOnce, wanted_by}
use Rattle.moka_buckets.specs.Arrays.{ArePlaced}
use Rattle.moka_buckets.specs.Parts.{memory_at, peak_at, Goes}
use Rattle.moka_buckets.specs.Steps.{CanBegin}
use Rattle.moka_buckets.proofs.part.step_at.Goals as goal

one_item : {A : Type 0} {x y : A} → Some x ≡ Some y → x ≡ y
one_item e = cc

pub step-requires-clause-placed : goal.step-requires-clause-placed
step-requires-clause-placed g c =
    let (hash, first, p, there, placed, can) = c.requires.can in
    let items = c.args.parts.now.items in
    let x = c.index_mut.result.now in
    let same : x ≡ p = one_item (sym (slice_get_read items (length items) c.args.index x refl (slice_get_within items c.args.index p there) c.index_mut.ensures.value) ∙ there) in
    subst (λ y. ArePlaced y.arrays) (sym same) placed

pub step-requires-clause-can : goal.step-requires-clause-can
step-requires-clause-can g c =
    let (hash, first, p, there, placed, can) = c.requires.can in
    let items = c.args.parts.now.items in
    let x = c.index_mut.result.now in
    let same : x ≡ p = one_item (sym (slice_get_read items (length items) c.args.index x refl (slice_get_within items c.args.index p there) c.index_mut.ensures.value) ∙ there) in
    (hash, first, subst (λ y. CanBegin g.K.PartialEq.eq hash (memory_at y) y.nodes.items first (peak_at y) c.args.call.now) (sym same) can)

pub returns-clause-goes : goal.returns-clause-goes
returns-clause-goes g c = λ hash first p there can.
    let eq = g.K.PartialEq.eq in
    let items = c.args.parts.now.items in
    let x = c.index_mut.result.now in
    let same : x ≡ p = one_item (sym (slice_get_read items (length items) c.args.index x refl (slice_get_within items c.args.index p there) c.index_mut.ensures.value) ∙ there) in (
      c.step.new.self,
      refl,
      subst (λ y. Goes eq hash first y c.args.call.now c.step.result c.step.new.self c.step.new.call) same
          (c.step.ensures.goes hash first (subst (λ y. CanBegin eq hash (memory_at y) y.nodes.items first (peak_at y) c.args.call.now) (sym same) can)),
    )

pub returns-clause-once : goal.returns-clause-once
returns-clause-once g c = λ hash first p there can.
    let eq = g.K.PartialEq.eq in
    let items = c.args.parts.now.items in
    let x = c.index_mut.result.now in
    let same : x ≡ p = one_item (sym (slice_get_read items (length items) c.args.index x refl (slice_get_within items c.args.index p there) c.index_mut.ensures.value) ∙ there) in (
      c.step.new.self,
      refl,
      subst (λ y. StepsOnce eq hash (Some (key_of c.args.call.now.operation)) (wanted_by c.args.call.now.table) c.step.result y c.step.new.self) same
          (c.step.ensures.once hash first (subst (λ y. CanBegin eq hash (memory_at y) y.nodes.items first (peak_at y) c.args.call.now) (sym same) can)),
    )
