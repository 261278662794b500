use Rattle.std.proofs.Common.{◌≡◌, Some, None, MatchOption, ℕ, ◌<◌, length, ap, sym, ◌∙◌, subst}
use Rattle.std.specs.Option.{option_map}
use Rattle.std.proofs.lemmas.List.{get_or_read}
use Rattle.moka_cht.specs.declared.node.Node.TheVariants.{Unused}
use Rattle.moka_cht.specs.declared.probe.Aim.TheVariants.{Get}
use Rattle.moka_cht.specs.Buckets.{stored}
use Rattle.moka_cht.specs.Nodes.{node_at, pair_in}
use Rattle.moka_cht.proofs.Lookups.{look_stored}
use Rattle.moka_cht.proofs.bucket_array.BucketArray.get.Goals as goal

pub returns-in-None : goal.returns-in-None
returns-in-None g c q asks =
    let eq = g.K.PartialEq.eq in
    let b = c.args.self.now in
    let inside = c.self.inside in
    let told = look_stored eq g.met.K.Eq.laws b inside.words.items inside.nodes.items c.self.view_is c.as_slice.result.now c.as_slice.ensures.value c.as_slice-2.result.now c.as_slice-2.ensures.value c.self.invariant.table
    Get q c.args.hash c.find.result asks.hashed (c.find.ensures q asks.computes) in
    let none = subst (λ o. MatchOption o (stored eq b q ≡ None) (λ m. (stored eq b q ≡ pair_in (node_at inside.nodes.items m)) × (m < length inside.nodes.items))) c.in-None.is told in
    sym (ap (option_map (λ p. p.1)) none)

pub returns-in-Some : goal.returns-in-Some
returns-in-Some g c q asks =
    let eq = g.K.PartialEq.eq in
    let b = c.args.self.now in
    let inside = c.self.inside in
    let told = look_stored eq g.met.K.Eq.laws b inside.words.items inside.nodes.items c.self.view_is c.as_slice.result.now c.as_slice.ensures.value c.as_slice-2.result.now c.as_slice-2.ensures.value c.self.invariant.table
    Get q c.args.hash c.find.result asks.hashed (c.find.ensures q asks.computes) in
    let some = subst (λ o. MatchOption o (stored eq b q ≡ None) (λ m. (stored eq b q ≡ pair_in (node_at inside.nodes.items m)) × (m < length inside.nodes.items))) c.in-Some.is told in
    let read = get_or_read inside.nodes.items c.in-Some.node c.index.result.now some.1 c.index.ensures Unused in
    c.value_in.ensures ∙ ap (λ node. option_map (λ p. p.1) (pair_in node)) read ∙ ap (option_map (λ p. p.1)) (sym some.0)
