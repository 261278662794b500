use Rattle.std.proofs.Common.{ap, refl, sym, ◌∙◌}
use Rattle.moka_cht.specs.Nodes.{pair_in}
use Rattle.moka_cht.proofs.Placing.{put_stored}
use Rattle.moka_cht.proofs.bucket_array.BucketArray.replace.Goals as goal

pub invariant_of-self-2 : goal.invariant_of-self-2
invariant_of-self-2 g c =
    let inside = c.self.inside in
    (put_stored g.K.PartialEq.eq g.met.K.Eq.laws inside.words.items inside.nodes.items inside.spare c.self.invariant c.args.self.now c.self.view_is c.args.hash c.args.key c.args.value c.requires.hashed
    c.in_ok-node.node c.fill.new.nodes.items c.in_ok-node.ensures.unused c.in_ok-node.ensures.ok c.args.probe _ c.requires.at c.put_word.new.words.items c.put_word.ensures.words
    c.args.old c.release.new.nodes.items c.release.ensures.unused c.requires.present).0

pub returns-clause-ok : goal.returns-clause-ok
returns-clause-ok g c =
    let inside = c.self.inside in
    let done = put_stored g.K.PartialEq.eq g.met.K.Eq.laws inside.words.items inside.nodes.items inside.spare c.self.invariant c.args.self.now c.self.view_is c.args.hash c.args.key c.args.value c.requires.hashed
    c.in_ok-node.node c.fill.new.nodes.items c.in_ok-node.ensures.unused c.in_ok-node.ensures.ok c.args.probe _ c.requires.at c.put_word.new.words.items c.put_word.ensures.words
    c.args.old c.release.new.nodes.items c.release.ensures.unused c.requires.present in
    ((c.in-Pair.key, c.in-Pair.value), done.1.1 ∙ sym done.1.2 ∙ ap pair_in (sym c.release.ensures.node ∙ c.in-Pair.is), refl, done.2, (c.args.old, c.in_ok-node.node, done.3))
