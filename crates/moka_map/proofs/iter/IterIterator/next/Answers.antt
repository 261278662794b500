use Rattle.std.proofs.Common.{◌≡◌, ◌≤◌, [], arith, refl, ap, subst, sym, ◌∙◌}
use Rattle.std.proofs.lemmas.List.{nil_from_length}
use Rattle.moka_map.specs.Maps.{segments_in}
use Rattle.moka_map.proofs.Arriving.{nothing_comes}
use Rattle.moka_map.proofs.iter.IterIterator.next.Goals as goal

pub returns-then-self-actual_num_segments-clause-steps : goal.returns-then-self-actual_num_segments-clause-steps
returns-then-self-actual_num_segments-clause-steps g c =
    let it = c.self.inside in
    let known = c.loop-self.invariant in
    let none : it.keys.items ≡ [] = nil_from_length it.keys.items (grind (arith, c.loop-self-test.ensures, it.keys.ok)) in
    let empty : c.loop-self.self.keys ≡ [] = sym (ap (λ s. s.keys) c.self.view_is) ∙ none in
    let count = c.actual_num_segments.ensures in
    let test = c.if-self-actual_num_segments.true in
    let past : segments_in c.loop-self.self.map ≤ c.loop-self.self.segment = subst (λ s. segments_in s.map ≤ s.segment) c.self.view_is (omega (arith, count, test)) in (
      (
        known.map,
        λ q coming. nothing_comes g.S.BuildHasher g.S.Hasher.Hasher g.K.PartialEq.eq g.K.Hash.hash_input c.loop-self.self (empty, past) q ((known.same q).1 coming),
        (empty, past),
      ),
      λ over. (refl, known.over over),
    )
