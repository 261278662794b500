use Rattle.std.proofs.Common.{◌∙◌, ap, inl, subst, sym}
use Rattle.moka_shared.specs.Hashing.{hash_in, place_in}
use Rattle.moka_shared.specs.Steps.{Sees}
use Rattle.moka_shared.specs.Tables.{IsTable}
use Rattle.moka_shared.proofs.Drawing.{door_seen, last_seen, sum_small}
use Rattle.moka_shared.proofs.Loading.{opened_some}
use Rattle.moka_shared.proofs.table.HashMap.drawn.Goals as goal

pub look-requires : goal.look-requires
look-requires g c =
    let t = c.args.self.now in
    let well = subst (λ s. IsTable s c.self.inside.start.log c.self.inside.door c.self.inside.buckets.items c.self.inside.nexts.items c.self.inside.roots.items (g.L.Shelf.owner c.self.inside.shelf)) c.self.view_is c.self.invariant in
    record {
      book = (ap (λ w. w.tracked) well.door_is, ap (λ w. w.book) well.door_is ∙ sym c.requires.book);
      some = opened_some t.segments t.size t.hasher c.args.front.now.log c.requires.log.opened;
      place = inl (ap (λ w. w.key) well.door_is);
    }

pub returns-clause-goes_on : goal.returns-clause-goes_on
returns-clause-goes_on g c =
    let eq = g.K.PartialEq.eq in
    let hash = hash_in g.S.BuildHasher g.S.Hasher.Hasher g.K.Hash.hash_input in
    let place = place_in g.S.BuildHasher g.S.Hasher.Hasher g.K.Hash.hash_input in
    let t = c.args.self.now in
    let well = subst (λ s. IsTable s c.self.inside.start.log c.self.inside.door c.self.inside.buckets.items c.self.inside.nexts.items c.self.inside.roots.items (g.L.Shelf.owner c.self.inside.shelf)) c.self.view_is c.self.invariant in
    let sees = subst (λ k. Sees eq hash place k c.look.result c.args.front.now.log c.look.new.front.log) (ap (λ w. w.key) well.door_is) c.look.ensures.sees in
    door_seen eq hash place t c.args.front.now.log c.look.new.front.log c.requires.log c.look.result sees

pub returns-clause-last : goal.returns-clause-last
returns-clause-last g c =
    let eq = g.K.PartialEq.eq in
    let hash = hash_in g.S.BuildHasher g.S.Hasher.Hasher g.K.Hash.hash_input in
    let place = place_in g.S.BuildHasher g.S.Hasher.Hasher g.K.Hash.hash_input in
    let t = c.args.self.now in
    let well = subst (λ s. IsTable s c.self.inside.start.log c.self.inside.door c.self.inside.buckets.items c.self.inside.nexts.items c.self.inside.roots.items (g.L.Shelf.owner c.self.inside.shelf)) c.self.view_is c.self.invariant in
    let sees = subst (λ k. Sees eq hash place k c.look.result c.args.front.now.log c.look.new.front.log) (ap (λ w. w.key) well.door_is) c.look.ensures.sees in
    last_seen eq hash place t c.args.front.now.log c.look.new.front.log c.requires.log c.look.result sees

pub returns-clause-small : goal.returns-clause-small
returns-clause-small g c =
    let eq = g.K.PartialEq.eq in
    let hash = hash_in g.S.BuildHasher g.S.Hasher.Hasher g.K.Hash.hash_input in
    let place = place_in g.S.BuildHasher g.S.Hasher.Hasher g.K.Hash.hash_input in
    let t = c.args.self.now in
    let well = subst (λ s. IsTable s c.self.inside.start.log c.self.inside.door c.self.inside.buckets.items c.self.inside.nexts.items c.self.inside.roots.items (g.L.Shelf.owner c.self.inside.shelf)) c.self.view_is c.self.invariant in
    let sees = subst (λ k. Sees eq hash place k c.look.result c.args.front.now.log c.look.new.front.log) (ap (λ w. w.key) well.door_is) c.look.ensures.sees in
    sum_small eq hash place t c.args.front.now.log c.look.new.front.log c.requires.log c.look.result sees
