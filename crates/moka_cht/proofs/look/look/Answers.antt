use Rattle.std.proofs.Common.{ℕ, Bool, refl, sym, subst, ◌∙◌}
use Rattle.std.specs.Fn.{ComputesKey}
use Rattle.moka_cht.specs.Nodes.{node_hash, own_key}
use Rattle.moka_cht.specs.Probes.{AfterLoad, Tells}
use Rattle.moka_cht.proofs.Loads.{follows_on, takes_load}
use Rattle.moka_cht.proofs.Points.{between}
use Rattle.moka_cht.proofs.look.look.Goals as goal

pub loop-index-preserved : goal.loop-index-preserved
loop-index-preserved g c =
    let eq = g.K.PartialEq.eq in
    let words = c.args.words.now in
    let nodes = c.args.nodes.now in
    let p = c.loop-index.probe in
    let known = c.loop-index.invariant in
    let goes : (q : g.row.K.Denot) → ComputesKey g.F.FnMut (eq q) c.args.eq → AfterLoad (own_key eq nodes q) words p c.take.result =
    λ q k. takes_load (node_hash nodes) (own_key eq nodes q) words p c.in-LoadWord.array c.in-LoadWord.index c.load-seen.result _ c.in-LoadWord.ensures c.load-seen.ensures.word
    (c.load-seen.ensures.effect q (known.knows q k).0) (known.knows q k).1 c.take.ensures in
    let on = λ (q : g.row.K.Denot) (k : ComputesKey g.F.FnMut (eq q) c.args.eq). subst (AfterLoad (own_key eq nodes q) words p) c.in-On.is (goes q k) in
    let first = on c.requires.one.0 c.requires.one.1 in
    record {
      callable = c.load-seen.ensures.callable;
      on = first.on;
      follows = follows_on _ p c.in-On.next known.follows first.follows;
      knows = λ q k. (c.load-seen.ensures.computes q (known.knows q k).0, (on q k).stands, between words p c.in-On.next _ refl (on q k).nearer);
    }

pub returns-in-Ended : goal.returns-in-Ended
returns-in-Ended g c q k =
    let eq = g.K.PartialEq.eq in
    let words = c.args.words.now in
    let nodes = c.args.nodes.now in
    let p = c.loop-index.probe in
    let known = c.loop-index.invariant in
    let own = own_key eq nodes q in
    let goes = takes_load (node_hash nodes) own words p c.in-LoadWord.array c.in-LoadWord.index c.load-seen.result _ c.in-LoadWord.ensures c.load-seen.ensures.word
    (c.load-seen.ensures.effect q (known.knows q k).0) (known.knows q k).1 c.take.ensures in
    let told = subst (AfterLoad own words p) c.in-Ended.is goes in
    subst (λ a. Tells own words a c.args.probe.hash c.in-Ended.ending) known.follows.aim_stays
    (subst (λ h. Tells own words p.aim h c.in-Ended.ending) known.follows.hash_stays told)
