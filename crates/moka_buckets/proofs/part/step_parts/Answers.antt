use Rattle.std.proofs.Common.{Some, ap, refl, subst, sym, ◌∙◌, arith}
use Rattle.std.specs.List.{slice_get}
use Rattle.moka_buckets.specs.KeyOps.{key_of}
use Rattle.moka_buckets.specs.Parts.{segment_of}
use Rattle.moka_buckets.specs.Keys.{KeepsKeys}
use Rattle.moka_buckets.specs.Accesses.{MovesOnce, StaysThere, wanted_by}
use Rattle.moka_buckets.proofs.Once.{moves_once, stays_there}
use Rattle.moka_buckets.proofs.Kept.{keeps_keys}
use Rattle.moka_buckets.proofs.Going.{goes_over, had_few, has_few}
use Rattle.moka_buckets.proofs.Spread.{keys_within}
use Rattle.moka_buckets.proofs.part.step_parts.Goals as goal

pub step_at-turn-requires : goal.step_at-turn-requires
step_at-turn-requires g c =
    let (hash, first, most, can) = c.requires.can in
    let at = c.segment_of-index.ensures.is ∙ ap (λ n. segment_of n c.args.call.now.hash) (c.len.ensures ∙ c.args.parts.now.ok.0) in
    let there = ap (slice_get c.args.parts.now.items) at ∙ can.fits.there in
    let well = can.well.each c.segment_of-index.result can.fits.part there in record {
      can = (
        hash,
        first,
        can.fits.part,
        there,
        well.placed,
        record { respects = can.respects; well = well.well; fits = can.fits.fits },
      );
    }

pub overflow_sub-len : goal.overflow_sub-len
overflow_sub-len g c =
    let (hash, first, most, can) = c.requires.can in
    let at = c.segment_of-index.ensures.is ∙ ap (λ n. segment_of n c.args.call.now.hash) (c.len.ensures ∙ c.args.parts.now.ok.0) in
    let there = ap (slice_get c.args.parts.now.items) at ∙ can.fits.there in
    let had = c.keys_at-before.ensures can.fits.part (ap (λ xs. slice_get xs c.segment_of-index.result) c.deref.ensures.value ∙ there) in
    let few = keys_within c.args.parts.now.items c.segment_of-index.result can.fits.part there in
    let counted = can.well.counted in
    omega (arith, had, few, counted)

pub overflow_add-len : goal.overflow_add-len
overflow_add-len g c =
    let (hash, first, most, can) = c.requires.can in
    let at = c.segment_of-index.ensures.is ∙ ap (λ n. segment_of n c.args.call.now.hash) (c.len.ensures ∙ c.args.parts.now.ok.0) in
    let few = had_few g.K.PartialEq.eq hash first most c.args.len.now c.args.parts.now.items c.step_at-turn.new.parts.items c.args.call.now c.step_at-turn.new.call can
    c.segment_of-index.result at c.step_at-turn.result (c.step_at-turn.ensures.goes hash first) c.keys_at-before.result c.keys_at.result
    (λ p e. c.keys_at-before.ensures p (ap (λ xs. slice_get xs c.segment_of-index.result) c.deref.ensures.value ∙ e))
    (λ p e. c.keys_at.ensures p (ap (λ xs. slice_get xs c.segment_of-index.result) c.deref-2.ensures.value ∙ e)) in
    let more = has_few g.K.PartialEq.eq hash first most c.args.len.now c.args.parts.now.items c.step_at-turn.new.parts.items c.args.call.now c.step_at-turn.new.call can
    c.segment_of-index.result at c.step_at-turn.result (c.step_at-turn.ensures.goes hash first) c.keys_at-before.result c.keys_at.result
    (λ p e. c.keys_at-before.ensures p (ap (λ xs. slice_get xs c.segment_of-index.result) c.deref.ensures.value ∙ e))
    (λ p e. c.keys_at.ensures p (ap (λ xs. slice_get xs c.segment_of-index.result) c.deref-2.ensures.value ∙ e)) in
    let room = c.requires.few in
    omega (arith, few, more, room)

pub returns-clause-over : goal.returns-clause-over
returns-clause-over g c = λ hash first most can.
    let at = c.segment_of-index.ensures.is ∙ ap (λ n. segment_of n c.args.call.now.hash) (c.len.ensures ∙ c.args.parts.now.ok.0) in
    goes_over g.K.PartialEq.eq hash first most c.args.len.now c.args.parts.now.items c.step_at-turn.new.parts.items c.args.call.now c.step_at-turn.new.call can
    c.segment_of-index.result at c.step_at-turn.result (c.step_at-turn.ensures.goes hash first) c.keys_at-before.result c.keys_at.result
    (λ p e. c.keys_at-before.ensures p (ap (λ xs. slice_get xs c.segment_of-index.result) c.deref.ensures.value ∙ e))
    (λ p e. c.keys_at.ensures p (ap (λ xs. slice_get xs c.segment_of-index.result) c.deref-2.ensures.value ∙ e)) _ refl

pub returns-clause-keys : goal.returns-clause-keys
returns-clause-keys g c = λ hash first most can.
    let eq = g.K.PartialEq.eq in
    let at = c.segment_of-index.ensures.is ∙ ap (λ n. segment_of n c.args.call.now.hash) (c.len.ensures ∙ c.args.parts.now.ok.0) in
    let there = ap (slice_get c.args.parts.now.items) at ∙ can.fits.there in
    let well = can.well.each c.segment_of-index.result can.fits.part there in
    let goes = c.step_at-turn.ensures.goes hash first can.fits.part there (record { respects = can.respects; well = well.well; fits = can.fits.fits }) in
    subst (λ ps. KeepsKeys eq hash c.args.parts.now.items ps) (sym goes.1)
    (keeps_keys eq g.met.K.Eq.laws hash can.respects first most c.args.len.now c.args.parts.now.items can.well c.segment_of-index.result can.fits.part goes.0 there
    c.args.call.now c.step_at-turn.new.call c.step_at-turn.result goes.2)

pub returns-clause-one : goal.returns-clause-one
returns-clause-one g c = λ hash first most can.
    let eq = g.K.PartialEq.eq in
    let b = c.args.call.now in
    let parts = c.args.parts.now.items in
    let at = c.segment_of-index.ensures.is ∙ ap (λ n. segment_of n b.hash) (c.len.ensures ∙ c.args.parts.now.ok.0) in
    let there = ap (slice_get parts) at ∙ can.fits.there in
    let well = can.well.each c.segment_of-index.result can.fits.part there in
    let once = c.step_at-turn.ensures.once hash first can.fits.part there (record { respects = can.respects; well = well.well; fits = can.fits.fits }) in
    subst (λ i. MovesOnce eq hash (Some (key_of b.operation)) (wanted_by b.table) i c.step_at-turn.result parts c.step_at-turn.new.parts.items) at
    (moves_once eq hash (Some (key_of b.operation)) (wanted_by b.table) c.step_at-turn.result parts c.step_at-turn.new.parts.items c.segment_of-index.result
    can.fits.part once.0 there once.1 once.2)

pub returns-clause-stays : goal.returns-clause-stays
returns-clause-stays g c = λ hash first most can.
    let b = c.args.call.now in
    let parts = c.args.parts.now.items in
    let at = c.segment_of-index.ensures.is ∙ ap (λ n. segment_of n b.hash) (c.len.ensures ∙ c.args.parts.now.ok.0) in
    let there = ap (slice_get parts) at ∙ can.fits.there in
    let well = can.well.each c.segment_of-index.result can.fits.part there in
    let goes = c.step_at-turn.ensures.goes hash first can.fits.part there (record { respects = can.respects; well = well.well; fits = can.fits.fits }) in
    subst (λ i. StaysThere i parts c.step_at-turn.new.parts.items b c.step_at-turn.new.call) at
    (stays_there b c.step_at-turn.new.call parts c.step_at-turn.new.parts.items c.segment_of-index.result can.fits.part goes.0 there goes.1 goes.2.done.stays)
