use Rattle.std.proofs.Common.{◌≡◌, ℕ, Option, Some, None, MatchOption, refl, subst, sym, ◌∙◌, inl}
use Rattle.moka_cht.specs.declared.probe.Aim.TheVariants.{Remove}
use Rattle.moka_cht.specs.declared.probe.Ending.TheVariants.{Kept}
use Rattle.moka_cht.specs.Nodes.{own_key}
use Rattle.moka_cht.specs.Probes.{AtPlace, Tells}
use Rattle.moka_cht.proofs.Lookups.{remove_absent}
use Rattle.moka_cht.proofs.Points.{live_choice, stored_choice}
use Rattle.moka_cht.proofs.bucket_array.BucketArray.remove_if.Goals as goal

pub unreachable-requires : goal.unreachable-requires
unreachable-requires g c =
    let p = c.in-Some.probe in
    let asks = c.requires.one in
    let place = c.in-Some.ensures asks.0 asks.1.computes in
    let live = live_choice c.as_slice.result.now p p.point c.present.result place.aim_is place.choice c.present.ensures in
    let none = c.in-None-present.is in
    let some = live.2 in cc

pub remove_at-requires-clause-present : goal.remove_at-requires-clause-present
remove_at-requires-clause-present g c =
    let p = c.in-Some.probe in
    let asks = c.requires.one in
    let place = c.in-Some.ensures asks.0 asks.1.computes in
    stored_choice c.as_slice.result.now p p.point c.present.result c.in-Some-present.node place.choice c.present.ensures c.in-Some-present.is

pub returns-in-None-clause-removes : goal.returns-in-None-clause-removes
returns-in-None-clause-removes g c q asks =
    let eq = g.K.PartialEq.eq in
    let inside = c.self.inside in
    let told = c.in-None.ensures q asks.computes in (
      refl,
      inl (remove_absent eq g.met.K.Eq.laws c.args.self.now inside.words.items inside.nodes.items c.self.view_is c.as_slice.result.now c.as_slice.ensures.value c.as_slice-2.result.now c.as_slice-2.ensures.value
          c.self.invariant.table q c.args.hash asks.hashed told),
    )
