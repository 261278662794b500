use Rattle.std.proofs.Common.{◌≡◌, ◌+◌, ◌*◌, ◌<◌, subst}
use Rattle.moka_shared.specs.Tables.{IsTable}
use Rattle.moka_shared.proofs.Buckets.{word_read}
use Rattle.moka_shared.proofs.table.HashMap.bucket.Goals as goal

pub returns : goal.returns
returns g c =
    let t = c.args.self.now in
    let buckets = c.self.inside.buckets.items in
    let well = subst (λ s. IsTable s c.self.inside.start.log c.self.inside.door buckets c.self.inside.nexts.items c.self.inside.roots.items (g.L.Shelf.owner c.self.inside.shelf)) c.self.view_is c.self.invariant in
    let within = subst (λ s. c.position-at.result < s.segments * s.size) c.self.view_is c.position-at.ensures.within in
    word_read t.book 1 (t.segments * t.size) buckets c.position-at.result (c.args.segment * t.size + c.args.index) c.index.result.now well.buckets_are within
    (subst (λ s. c.position-at.result ≡ c.args.segment * s.size + c.args.index) c.self.view_is c.position-at.ensures.is) c.index.ensures
