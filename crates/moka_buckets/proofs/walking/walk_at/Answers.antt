use Rattle.std.proofs.Common.{◌≡◌, None, Some, length, refl, sym, subst, ◌∙◌}
use Rattle.std.proofs.lemmas.Option.{slice_get_read, slice_get_within}
use Rattle.moka_buckets.specs.Accesses.{StepsOnce, wanted_by}
use Rattle.moka_buckets.specs.Keys.{Leads}
use Rattle.moka_buckets.specs.Arrays.{ArePlaced}
use Rattle.moka_buckets.specs.Parts.{memory_at, peak_at}
use Rattle.moka_buckets.specs.Walks.{CanWalk}
use Rattle.moka_buckets.proofs.walking.walk_at.Goals as goal

one_item : {A : Type 0} {x y : A} → Some x ≡ Some y → x ≡ y
one_item e = cc

pub walk-requires-clause-placed : goal.walk-requires-clause-placed
walk-requires-clause-placed g c =
    let (hash, first, p, there, placed, can) = c.requires.can in
    let items = c.args.parts.now.items in
    let x = c.index_mut.result.now in
    let same : x ≡ p = one_item (sym (slice_get_read items (length items) c.args.index x refl (slice_get_within items c.args.index p there) c.index_mut.ensures.value) ∙ there) in
    subst (λ y. ArePlaced y.arrays) (sym same) placed

pub walk-requires-clause-can : goal.walk-requires-clause-can
walk-requires-clause-can g c =
    let (hash, first, p, there, placed, can) = c.requires.can in
    let items = c.args.parts.now.items in
    let x = c.index_mut.result.now in
    let same : x ≡ p = one_item (sym (slice_get_read items (length items) c.args.index x refl (slice_get_within items c.args.index p there) c.index_mut.ensures.value) ∙ there) in
    (hash, first, subst (λ y. CanWalk g.K.PartialEq.eq hash (memory_at y) y.nodes.items first (peak_at y) c.args.table.now) (sym same) can)

pub returns-clause-leads : goal.returns-clause-leads
returns-clause-leads g c = λ hash first p there can.
    let eq = g.K.PartialEq.eq in
    let items = c.args.parts.now.items in
    let x = c.index_mut.result.now in
    let same : x ≡ p = one_item (sym (slice_get_read items (length items) c.args.index x refl (slice_get_within items c.args.index p there) c.index_mut.ensures.value) ∙ there) in (
      c.walk.new.self,
      refl,
      subst (λ y. Leads eq hash first y c.args.table.now c.walk.result c.walk.new.self c.walk.new.table) same
          (c.walk.ensures.leads hash first (subst (λ y. CanWalk eq hash (memory_at y) y.nodes.items first (peak_at y) c.args.table.now) (sym same) can)),
    )

pub returns-clause-once : goal.returns-clause-once
returns-clause-once g c = λ hash first p there can.
    let eq = g.K.PartialEq.eq in
    let items = c.args.parts.now.items in
    let x = c.index_mut.result.now in
    let same : x ≡ p = one_item (sym (slice_get_read items (length items) c.args.index x refl (slice_get_within items c.args.index p there) c.index_mut.ensures.value) ∙ there) in (
      c.walk.new.self,
      refl,
      subst (λ y. StepsOnce eq hash None (wanted_by c.args.table.now) c.walk.result y c.walk.new.self) same
          (c.walk.ensures.once hash first (subst (λ y. CanWalk eq hash (memory_at y) y.nodes.items first (peak_at y) c.args.table.now) (sym same) can)),
    )
