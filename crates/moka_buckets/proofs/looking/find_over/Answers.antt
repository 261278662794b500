use Rattle.std.proofs.Common.{length, None, ap, refl, sym, ◌∙◌}
use Rattle.std.proofs.lemmas.Option.{slice_get_read}
use Rattle.std.specs.List.{slice_get}
use Rattle.std.specs.Option.{option_map_or}
use Rattle.moka_buckets.specs.Parts.{map_at, segment_of}
use Rattle.moka_buckets.proofs.looking.find_over.Goals as goal

pub find-requires-clause-can : goal.find-requires-clause-can
find-requires-clause-can g c =
    let (key, by, first, most, len, can) = c.requires.can in
    let p = c.index-parts-segment_of.result in
    let parts = c.args.parts.now in
    let there = slice_get_read parts (length parts) c.segment_of.result p refl c.segment_of.ensures.within c.index-parts-segment_of.is in (
      key,
      by,
      first,
      record {
        respects = can.respects;
        well = (can.well.each c.segment_of.result p there).well;
        hashed = can.hashed;
      },
    )

pub returns : goal.returns
returns g c = λ key by first most len computes can.
    let p = c.index-parts-segment_of.result in
    let parts = c.args.parts.now in
    let there = slice_get_read parts (length parts) c.segment_of.result p refl c.segment_of.ensures.within c.index-parts-segment_of.is in
    c.find.ensures key by first computes (record {
      respects = can.respects;
      well = (can.well.each c.segment_of.result p there).well;
      hashed = can.hashed;
    }) ∙
    sym (ap (λ o. option_map_or (λ x. map_at g.K.PartialEq.eq x key) o None)
    (ap (λ h. slice_get parts (segment_of (length parts) h)) (sym can.hashed) ∙ (ap (slice_get parts) (sym c.segment_of.ensures.is) ∙ there)))
