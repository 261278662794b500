use Rattle.std.proofs.Common.{◌∙◌, ◌+◌, ◌*◌, ◌<◌, refl, subst, sym}
use Rattle.moka_shared.specs.Tables.{IsTable}
use Rattle.moka_shared.proofs.Buckets.{word_read}
use Rattle.moka_shared.proofs.table.HashMap.root.Goals as goal

pub index-requires : goal.index-requires
index-requires g c =
    let roots = c.self.inside.roots.items in
    let well = subst (λ s. IsTable s c.self.inside.start.log c.self.inside.door c.self.inside.buckets.items c.self.inside.nexts.items roots (g.L.Shelf.owner c.self.inside.shelf)) c.self.view_is c.self.invariant in
    subst (λ n. c.args.segment < n) (sym (c.self.inside.roots.ok.0 ∙ well.roots_are.count_is)) c.requires.segment

pub returns : goal.returns
returns g c =
    let t = c.args.self.now in
    let roots = c.self.inside.roots.items in
    let well = subst (λ s. IsTable s c.self.inside.start.log c.self.inside.door c.self.inside.buckets.items c.self.inside.nexts.items roots (g.L.Shelf.owner c.self.inside.shelf)) c.self.view_is c.self.invariant in
    word_read t.book (1 + t.segments * t.size + t.segments) t.segments roots c.args.segment c.args.segment c.index.result.now well.roots_are c.requires.segment refl c.index.ensures
