use Rattle.std.proofs.Common.{◌≡◌, ◌∙◌, ◌<◌, ◌+◌, arith, refl, subst, suc, sym}
use Rattle.moka_history.proofs.Lists.{prefix_self}
use Rattle.moka_shared.specs.Hashing.{hash_in, place_in}
use Rattle.moka_shared.specs.Links.{HasSealed}
use Rattle.moka_shared.specs.Tables.{IsTable}
use Rattle.moka_shared.proofs.Divided.{divided}
use Rattle.moka_shared.proofs.Loading.{goes_through}
use Rattle.moka_shared.proofs.Courses.{power_some}
use Rattle.moka_shared.proofs.Walking.{begins_walk, counts_on}
use Rattle.moka_shared.proofs.table.HashMap.count_sealed.Goals as goal

pub loop-index-init : goal.loop-index-init
loop-index-init g c =
    let eq = g.K.PartialEq.eq in
    let hash = hash_in g.S.BuildHasher g.S.Hasher.Hasher g.K.Hash.hash_input in
    let place = place_in g.S.BuildHasher g.S.Hasher.Hasher g.K.Hash.hash_input in
    let equals = divided g.S.BuildHasher g.S.Hasher.Hasher g.K.Hash.hash_input eq g.met.K.Eq.laws g.met.K.Hash.respects_eq in
    let t = c.args.self.now in
    let old = c.args.front.now.log in
    let well = subst (λ s. IsTable s c.self.inside.start.log c.self.inside.door c.self.inside.buckets.items c.self.inside.nexts.items c.self.inside.roots.items (g.L.Shelf.owner c.self.inside.shelf)) c.self.view_is c.self.invariant in
    record {
      few = omega arith;
      low = omega arith;
      book = refl;
      goes_on = record { begins = prefix_self old; is_log = c.requires.log };
      sealed = begins_walk eq hash place equals t c.args.segment c.requires.segment old c.requires.log (power_some t.size well.power);
    }

pub loop-index-preserved : goal.loop-index-preserved
loop-index-preserved g c =
    let eq = g.K.PartialEq.eq in
    let hash = hash_in g.S.BuildHasher g.S.Hasher.Hasher g.K.Hash.hash_input in
    let place = place_in g.S.BuildHasher g.S.Hasher.Hasher g.K.Hash.hash_input in
    let equals = divided g.S.BuildHasher g.S.Hasher.Hasher g.K.Hash.hash_input eq g.met.K.Eq.laws g.met.K.Hash.respects_eq in
    let t = c.args.self.now in
    let inv = c.loop-index.invariant in
    let old = c.args.front.now.log in
    let mid = c.loop-index.front.log in
    let loads = c.load-word.ensures.loads in
    let new = c.load-word.new.front.log in
    let next : suc c.loop-index.index ≡ c.loop-index.index + 1 = omega arith in
    let few = inv.few in
    let one = c.stores-stored.ensures.few in
    let inside = subst (λ s. c.loop-index.index < s.size) c.self.view_is c.loop-index-test.true in
    record {
      few = omega (arith, few, one);
      low = omega (arith, inside);
      book = c.load-word.ensures.book ∙ inv.book;
      goes_on = goes_through eq hash place t old mid new inv.goes_on loads.goes_on;
      sealed = subst (λ n. HasSealed eq hash place t c.args.segment n (c.loop-index.stored + c.stores-stored.result) new) next
          (counts_on eq hash place equals t c.args.segment c.requires.segment mid new inv.goes_on.is_log loads.goes_on.is_log loads.goes_on.begins
          c.loop-index.index c.loop-index.stored inside inv.sealed c.load-word.result loads.there (sym c.is_sealed.ensures ∙ c.if-not-is_sealed.false)
          c.stores-stored.result c.stores-stored.ensures.is);
    }
