use Rattle.std.proofs.Common.{◌≡◌, ◌<◌, length, Some, Ok, arith, ap, refl, sym, subst, ◌∙◌, IsSome}
use Rattle.std.proofs.lemmas.List.{get_or_read}
use Rattle.moka_cht.specs.declared.node.Node.TheVariants.{Unused}
use Rattle.moka_cht.specs.declared.insertion.Insertion.TheVariants.{NoFree}
use Rattle.moka_cht.specs.Calls.{KeepsPresent, NeverPresent}
use Rattle.moka_cht.specs.Nodes.{node_at, pair_in}
use Rattle.moka_cht.proofs.Inserting.{absent_ok, dead_ok, full_ok, keeps_ok, passes_full, place_seen}
use Rattle.moka_cht.proofs.Points.{stored_choice, vacant_choice}
use Rattle.moka_cht.proofs.Removing.{stands_pair, stands_stored}
use Rattle.moka_cht.proofs.bucket_array.BucketArray.insert_if_not_present.Goals as goal

pub put-requires-clause-vacant : goal.put-requires-clause-vacant
put-requires-clause-vacant g c n =
    let p = c.in-Some.probe in
    vacant_choice c.as_slice.result.now p p.point c.present.result c.in-Some.ensures.choice c.present.ensures c.in-None-present.is n

pub index-requires : goal.index-requires
index-requires g c =
    let eq = g.K.PartialEq.eq in
    let b = c.args.self.now in
    let inside = c.self.inside in
    let p = c.in-Some.probe in
    let at = stored_choice c.as_slice.result.now p p.point c.present.result c.in-Some-present.node c.in-Some.ensures.choice c.present.ensures c.in-Some-present.is in
    let place = place_seen eq b inside.words.items inside.nodes.items c.self.view_is c.as_slice.result.now c.as_slice.ensures.value c.as_slice-2.result.now c.as_slice-2.ensures.value c.args.key _ c.args.hash p c.in-Some.ensures in
    let stands = stands_pair eq g.met.K.Eq.laws inside.words.items inside.nodes.items inside.spare c.self.invariant b c.self.view_is c.args.key c.args.hash p _ place c.in-Some-present.node at in
    let below : c.in-Some-present.node < length inside.nodes.items = stands.0 in
    omega (arith, inside.nodes.ok.0)

pub already-requires : goal.already-requires
already-requires g c =
    let eq = g.K.PartialEq.eq in
    let b = c.args.self.now in
    let inside = c.self.inside in
    let p = c.in-Some.probe in
    let at = stored_choice c.as_slice.result.now p p.point c.present.result c.in-Some-present.node c.in-Some.ensures.choice c.present.ensures c.in-Some-present.is in
    let place = place_seen eq b inside.words.items inside.nodes.items c.self.view_is c.as_slice.result.now c.as_slice.ensures.value c.as_slice-2.result.now c.as_slice-2.ensures.value c.args.key _ c.args.hash p c.in-Some.ensures in
    let stands = stands_pair eq g.met.K.Eq.laws inside.words.items inside.nodes.items inside.spare c.self.invariant b c.self.view_is c.args.key c.args.hash p _ place c.in-Some-present.node at in
    let read = get_or_read inside.nodes.items c.in-Some-present.node c.index.result.now stands.0 c.index.ensures Unused in
    subst (λ x. IsSome (pair_in x)) (sym read) stands.1

pub returns-in-None-clause-ok : goal.returns-in-None-clause-ok
returns-in-None-clause-ok g c =
    let eq = g.K.PartialEq.eq in
    let inside = c.self.inside in
    let full = passes_full eq g.met.K.Eq.laws c.args.self.now inside.words.items inside.nodes.items c.self.view_is c.as_slice.result.now c.as_slice.ensures.value c.as_slice-2.result.now c.as_slice-2.ensures.value
    c.self.invariant.table c.args.key c.args.hash c.requires c.in-None.ensures in
    (full.0, full.1, refl, refl)

pub returns-in-None-clause-full : goal.returns-in-None-clause-full
returns-in-None-clause-full g c =
    let eq = g.K.PartialEq.eq in
    let inside = c.self.inside in
    let full = passes_full eq g.met.K.Eq.laws c.args.self.now inside.words.items inside.nodes.items c.self.view_is c.as_slice.result.now c.as_slice.ensures.value c.as_slice-2.result.now c.as_slice-2.ensures.value
    c.self.invariant.table c.args.key c.args.hash c.requires c.in-None.ensures in
    full_ok eq c.args.hash c.args.key c.args.value (NeverPresent {K = g.row.K.Denot}) c.args.self.now c.args.self.now (Ok (NoFree c.args.value)) (full.0, full.1, refl, refl)

pub returns-in-None-clause-tombstone : goal.returns-in-None-clause-tombstone
returns-in-None-clause-tombstone g c =
    let eq = g.K.PartialEq.eq in
    let inside = c.self.inside in
    let full = passes_full eq g.met.K.Eq.laws c.args.self.now inside.words.items inside.nodes.items c.self.view_is c.as_slice.result.now c.as_slice.ensures.value c.as_slice-2.result.now c.as_slice-2.ensures.value
    c.self.invariant.table c.args.key c.args.hash c.requires c.in-None.ensures in
    dead_ok eq c.args.hash c.args.key c.args.value (NeverPresent {K = g.row.K.Denot}) c.args.self.now c.args.self.now (Ok (NoFree c.args.value)) (full.0, full.1, refl, refl)

pub returns-in-None-present-clause-ok : goal.returns-in-None-present-clause-ok
returns-in-None-present-clause-ok g c = absent_ok g.K.PartialEq.eq c.args.hash c.args.key c.args.value (KeepsPresent g.V.Clone.is_clone c.args.self.now) c.args.self.now c.put.new.self c.put.result c.put.ensures.ok

pub returns-in-None-present-clause-full : goal.returns-in-None-present-clause-full
returns-in-None-present-clause-full g c = full_ok g.K.PartialEq.eq c.args.hash c.args.key c.args.value (NeverPresent {K = g.row.K.Denot}) c.args.self.now c.put.new.self c.put.result c.put.ensures.ok

pub returns-in-None-present-clause-tombstone : goal.returns-in-None-present-clause-tombstone
returns-in-None-present-clause-tombstone g c = dead_ok g.K.PartialEq.eq c.args.hash c.args.key c.args.value (NeverPresent {K = g.row.K.Denot}) c.args.self.now c.put.new.self c.put.result c.put.ensures.ok

pub returns-in-Some-present-clause-ok : goal.returns-in-Some-present-clause-ok
returns-in-Some-present-clause-ok g c =
    let eq = g.K.PartialEq.eq in
    let b = c.args.self.now in
    let inside = c.self.inside in
    let p = c.in-Some.probe in
    let node = c.in-Some-present.node in
    let at = stored_choice c.as_slice.result.now p p.point c.present.result node c.in-Some.ensures.choice c.present.ensures c.in-Some-present.is in
    let place = place_seen eq b inside.words.items inside.nodes.items c.self.view_is c.as_slice.result.now c.as_slice.ensures.value c.as_slice-2.result.now c.as_slice-2.ensures.value c.args.key _ c.args.hash p c.in-Some.ensures in
    let stands = stands_pair eq g.met.K.Eq.laws inside.words.items inside.nodes.items inside.spare c.self.invariant b c.self.view_is c.args.key c.args.hash p _ place node at in
    let read = get_or_read inside.nodes.items node c.index.result.now stands.0 c.index.ensures Unused in
    keeps_ok eq c.args.hash c.args.key c.args.value g.V.Clone.is_clone b c.index.result.now
    (λ pair is. stands_stored eq g.met.K.Eq.laws inside.words.items inside.nodes.items inside.spare c.self.invariant b c.self.view_is c.args.key c.args.hash p _ place node at pair (ap pair_in (sym read) ∙ is))
    c.already.result c.already.ensures

pub returns-in-Some-present-clause-full : goal.returns-in-Some-present-clause-full
returns-in-Some-present-clause-full g c =
    full_ok g.K.PartialEq.eq c.args.hash c.args.key c.args.value (KeepsPresent g.V.Clone.is_clone c.args.self.now) c.args.self.now c.args.self.now c.already.result (returns-in-Some-present-clause-ok g c)

pub returns-in-Some-present-clause-tombstone : goal.returns-in-Some-present-clause-tombstone
returns-in-Some-present-clause-tombstone g c =
    dead_ok g.K.PartialEq.eq c.args.hash c.args.key c.args.value (KeepsPresent g.V.Clone.is_clone c.args.self.now) c.args.self.now c.args.self.now c.already.result (returns-in-Some-present-clause-ok g c)
