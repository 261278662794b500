use Rattle.std.proofs.Common.{◌≡◌, ◌<◌, length, Some, arith, ap, refl, sym, subst, ◌∙◌, inr, IsSome}
use Rattle.std.proofs.lemmas.List.{get_or_read}
use Rattle.moka_cht.specs.declared.node.Node.TheVariants.{Unused}
use Rattle.moka_cht.specs.Nodes.{node_at, pair_in}
use Rattle.moka_cht.proofs.Removing.{stands_pair, stands_stored, removed_sound, removed_pairs, removed_hashes, removed_word}
use Rattle.moka_cht.proofs.bucket_array.BucketArray.remove_at.Goals as goal

pub index-requires : goal.index-requires
index-requires g c =
    let inside = c.self.inside in
    let stands = stands_pair g.K.PartialEq.eq g.met.K.Eq.laws inside.words.items inside.nodes.items inside.spare c.self.invariant c.args.self.now c.self.view_is c.requires.at.0 c.args.probe.hash c.args.probe _ c.requires.at.1 c.args.node c.requires.present in
    let below : c.args.node < length inside.nodes.items = stands.0 in
    omega (arith, inside.nodes.ok.0)

pub holds-requires-clause-pair : goal.holds-requires-clause-pair
holds-requires-clause-pair g c =
    let inside = c.self.inside in
    let stands = stands_pair g.K.PartialEq.eq g.met.K.Eq.laws inside.words.items inside.nodes.items inside.spare c.self.invariant c.args.self.now c.self.view_is c.requires.at.0 c.args.probe.hash c.args.probe _ c.requires.at.1 c.args.node c.requires.present in
    let read = get_or_read inside.nodes.items c.args.node c.index.result.now stands.0 c.index.ensures Unused in
    subst (λ x. IsSome (pair_in x)) (sym read) stands.1

pub retire-requires : goal.retire-requires
retire-requires g c =
    let inside = c.self.inside in
    let stands = stands_pair g.K.PartialEq.eq g.met.K.Eq.laws inside.words.items inside.nodes.items inside.spare c.self.invariant c.args.self.now c.self.view_is c.requires.at.0 c.args.probe.hash c.args.probe _ c.requires.at.1 c.args.node c.requires.present in
    record { within = stands.0; pair = stands.1 }

pub invariant_of-self : goal.invariant_of-self
invariant_of-self g c =
    let inside = c.self.inside in
    removed_sound g.K.PartialEq.eq g.met.K.Eq.laws inside.words.items inside.nodes.items inside.spare c.self.invariant c.args.self.now c.self.view_is c.requires.at.0 c.args.probe.hash c.args.probe _ c.requires.at.1 c.args.node c.requires.present
    c.retire.ensures.0 c.retire.result c.retire.ensures.1 c.remove_word.new.words.items (c.remove_word.ensures.words c.args.node c.requires.present) c.retire.new.nodes.items c.retire.ensures.2

pub returns-then-holds : goal.returns-then-holds
returns-then-holds g c q at =
    let eq = g.K.PartialEq.eq in
    let inside = c.self.inside in
    let nodes = inside.nodes.items in
    let stands = stands_pair eq g.met.K.Eq.laws inside.words.items nodes inside.spare c.self.invariant c.args.self.now c.self.view_is q c.args.probe.hash c.args.probe _ at c.args.node c.requires.present in
    let read = get_or_read nodes c.args.node c.index.result.now stands.0 c.index.ensures Unused in
    let (pair, pair_is, answers) = c.if-holds.ensures in
    let here = ap pair_in (sym read) ∙ pair_is in
    let same : (c.retire.ensures.0, c.retire.result) ≡ pair = cc (c.retire.ensures.1, here) in
    let words_are = c.remove_word.ensures.words c.args.node c.requires.present in (
      (pair, stands_stored eq g.met.K.Eq.laws inside.words.items nodes inside.spare c.self.invariant c.args.self.now c.self.view_is q c.args.probe.hash c.args.probe _ at c.args.node c.requires.present pair here, ap (λ p. p.1) same, answers),
      removed_pairs eq g.met.K.Eq.laws inside.words.items nodes inside.spare c.self.invariant c.args.self.now c.self.view_is q c.args.probe.hash c.args.probe _ at c.args.node c.requires.present
          c.retire.ensures.0 c.retire.result c.retire.ensures.1 c.remove_word.new.words.items words_are c.retire.new.nodes.items c.retire.ensures.2,
      removed_hashes eq g.met.K.Eq.laws inside.words.items nodes inside.spare c.self.invariant c.args.self.now c.self.view_is q c.args.probe.hash c.args.probe _ at c.args.node c.requires.present
          c.retire.ensures.0 c.retire.result c.retire.ensures.1 c.remove_word.new.words.items words_are c.retire.new.nodes.items c.retire.ensures.2,
      (
        c.args.node,
        removed_word eq g.met.K.Eq.laws inside.words.items nodes inside.spare c.self.invariant c.args.self.now c.self.view_is q c.args.probe.hash c.args.probe _ at c.args.node c.requires.present
            c.retire.ensures.0 c.retire.result c.retire.ensures.1 c.remove_word.new.words.items words_are c.retire.new.nodes.items c.retire.ensures.2,
      ),
    )

pub returns-else-holds : goal.returns-else-holds
returns-else-holds g c q at =
    let eq = g.K.PartialEq.eq in
    let inside = c.self.inside in
    let nodes = inside.nodes.items in
    let stands = stands_pair eq g.met.K.Eq.laws inside.words.items nodes inside.spare c.self.invariant c.args.self.now c.self.view_is q c.args.probe.hash c.args.probe _ at c.args.node c.requires.present in
    let read = get_or_read nodes c.args.node c.index.result.now stands.0 c.index.ensures Unused in
    let (pair, pair_is, answers) = c.if-holds.ensures in
    let here = ap pair_in (sym read) ∙ pair_is in
    (refl, inr (pair, stands_stored eq g.met.K.Eq.laws inside.words.items nodes inside.spare c.self.invariant c.args.self.now c.self.view_is q c.args.probe.hash c.args.probe _ at c.args.node c.requires.present pair here, answers))
