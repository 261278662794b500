use Rattle.moka_cht.proofs.Placing.{put_free, put_dead}
use Rattle.moka_cht.proofs.bucket_array.BucketArray.put.Goals as goal

pub invariant_of-self-in-Free : goal.invariant_of-self-in-Free
invariant_of-self-in-Free g c =
    let inside = c.self.inside in
    (put_free g.K.PartialEq.eq g.met.K.Eq.laws inside.words.items inside.nodes.items inside.spare c.self.invariant c.args.self.now c.self.view_is c.args.hash c.args.key c.args.value c.requires.hashed
    c.in_ok-node.node c.fill.new.nodes.items c.in_ok-node.ensures.unused c.in_ok-node.ensures.ok c.args.probe _ c.requires.at c.put_word.new.words.items c.put_word.ensures.words c.in-Free.ensures.at).0

pub returns-in-Free-clause-ok : goal.returns-in-Free-clause-ok
returns-in-Free-clause-ok g c =
    let inside = c.self.inside in
    let done = put_free g.K.PartialEq.eq g.met.K.Eq.laws inside.words.items inside.nodes.items inside.spare c.self.invariant c.args.self.now c.self.view_is c.args.hash c.args.key c.args.value c.requires.hashed
    c.in_ok-node.node c.fill.new.nodes.items c.in_ok-node.ensures.unused c.in_ok-node.ensures.ok c.args.probe _ c.requires.at c.put_word.new.words.items c.put_word.ensures.words c.in-Free.ensures.at in
    (done.1, done.2, (c.in_ok-node.node, done.3))

pub invariant_of-self-in-Dead : goal.invariant_of-self-in-Dead
invariant_of-self-in-Dead g c =
    let inside = c.self.inside in
    (put_dead g.K.PartialEq.eq g.met.K.Eq.laws inside.words.items inside.nodes.items inside.spare c.self.invariant c.args.self.now c.self.view_is c.args.hash c.args.key c.args.value c.requires.hashed
    c.in_ok-node.node c.fill.new.nodes.items c.in_ok-node.ensures.unused c.in_ok-node.ensures.ok c.args.probe _ c.requires.at c.put_word.new.words.items c.put_word.ensures.words
    c.in-Dead.old c.release.new.nodes.items c.release.ensures.unused c.in-Dead.ensures.at).0

pub returns-in-Dead-clause-ok : goal.returns-in-Dead-clause-ok
returns-in-Dead-clause-ok g c =
    let inside = c.self.inside in
    let done = put_dead g.K.PartialEq.eq g.met.K.Eq.laws inside.words.items inside.nodes.items inside.spare c.self.invariant c.args.self.now c.self.view_is c.args.hash c.args.key c.args.value c.requires.hashed
    c.in_ok-node.node c.fill.new.nodes.items c.in_ok-node.ensures.unused c.in_ok-node.ensures.ok c.args.probe _ c.requires.at c.put_word.new.words.items c.put_word.ensures.words
    c.in-Dead.old c.release.new.nodes.items c.release.ensures.unused c.in-Dead.ensures.at in
    (done.1, done.2, done.3, (c.in-Dead.old, c.in_ok-node.node, done.4))
