use Rattle.std.proofs.Common.{◌≡◌, ◌<◌, ◌≤◌, Bool, None, length, Result, Ok, Err, OnErr, refl, sym, ap, subst, ◌∙◌}
use Rattle.std.specs.declared.alloc.AllocError.{AllocError}
use Rattle.moka_growth.specs.Calls.{Step}
use Rattle.moka_buckets.specs.declared.keys_call.KeysCall.{KeysCall}
use Rattle.moka_buckets.specs.Keys.{WalksOver}
use Rattle.moka_buckets.specs.Accesses.{wanted_by}
use Rattle.moka_buckets.proofs.Once.{moves_nowhere, moves_once}
use Rattle.moka_buckets.proofs.Across.{walks_over}
use Rattle.moka_buckets.proofs.Elsewhere.{begun_nowhere, nowhere_of, there_of, walks_nowhere}
use Rattle.moka_buckets.proofs.walking.walk_parts.Goals as goal

pub walk_at-requires : goal.walk_at-requires
walk_at-requires g c =
    let (hash, first, most, len, can) = c.requires.can in
    let parts = c.args.parts.now.items in
    let call = c.args.call.now in
    let within : call.segment < length parts = subst (λ n. call.segment < n) (c.len.ensures ∙ c.args.parts.now.ok.0) c.if-call-len.true in
    let fits = there_of g.K.PartialEq.eq hash parts call within can.fits in
    let well = can.well.each call.segment fits.part fits.there in
    record {
      can = (
        hash,
        first,
        fits.part,
        fits.there,
        well.placed,
        record { respects = can.respects; well = well.well; going = can.going; walks = fits.walks },
      );
    }

pub walk_nowhere-requires : goal.walk_nowhere-requires
walk_nowhere-requires g c =
    let (hash, first, most, len, can) = c.requires.can in
    let parts = c.args.parts.now.items in
    let call = c.args.call.now in
    let past : length parts ≤ call.segment = subst (λ n. n ≤ call.segment) (c.len.ensures ∙ c.args.parts.now.ok.0) c.if-call-len.false in
    begun_nowhere g.K.PartialEq.eq hash parts call (nowhere_of g.K.PartialEq.eq hash parts call past can.fits) can.going

-- without memory the call is as it was
same_call : (A : Type 0) (b : KeysCall) (t : Step) (r : Result Bool AllocError) → OnErr r (A × (t ≡ b.table)) → OnErr r (record b { table = t } ≡ b)
same_call A b t (Ok done) e = tt
same_call A b t (Err x) e = ap (λ s. record b { table = s }) e.1

pub returns-then-call-len-clause-over : goal.returns-then-call-len-clause-over
returns-then-call-len-clause-over g c = λ hash first most len can.
    let eq = g.K.PartialEq.eq in
    let parts = c.args.parts.now.items in
    let b = c.args.call.now in
    let within : b.segment < length parts = subst (λ n. b.segment < n) (c.len.ensures ∙ c.args.parts.now.ok.0) c.if-call-len.true in
    let fits = there_of eq hash parts b within can.fits in
    let well = can.well.each b.segment fits.part fits.there in
    let goes = c.walk_at.ensures.leads hash first fits.part fits.there
    (record { respects = can.respects; well = well.well; going = can.going; walks = fits.walks }) in
    subst (λ ps. WalksOver eq hash first parts most len b c.walk_at.result ps (record b { table = c.walk_at.new.table })) (sym goes.1)
    (walks_over eq g.met.K.Eq.laws hash can.respects first most len parts can.well b (record b { table = c.walk_at.new.table })
    fits.part goes.0 fits.there refl c.walk_at.result goes.2 fits.walks (same_call _ b c.walk_at.new.table c.walk_at.result goes.2.err))

pub returns-else-call-len-clause-over : goal.returns-else-call-len-clause-over
returns-else-call-len-clause-over g c = λ hash first most len can.
    let eq = g.K.PartialEq.eq in
    let parts = c.args.parts.now.items in
    let b = c.args.call.now in
    let past : length parts ≤ b.segment = subst (λ n. n ≤ b.segment) (c.len.ensures ∙ c.args.parts.now.ok.0) c.if-call-len.false in
    subst (λ r. WalksOver eq hash first parts most len b r parts (record b { table = c.walk_nowhere.new.table })) (sym c.walk_nowhere.ensures.result)
    (walks_nowhere eq hash first most len parts can.well b (record b { table = c.walk_nowhere.new.table })
    (nowhere_of eq hash parts b past can.fits) refl c.walk_nowhere.ensures.ended)

pub returns-then-call-len-clause-one : goal.returns-then-call-len-clause-one
returns-then-call-len-clause-one g c = λ hash first most len can.
    let eq = g.K.PartialEq.eq in
    let parts = c.args.parts.now.items in
    let b = c.args.call.now in
    let within : b.segment < length parts = subst (λ n. b.segment < n) (c.len.ensures ∙ c.args.parts.now.ok.0) c.if-call-len.true in
    let fits = there_of eq hash parts b within can.fits in
    let well = can.well.each b.segment fits.part fits.there in
    let once = c.walk_at.ensures.once hash first fits.part fits.there
    (record { respects = can.respects; well = well.well; going = can.going; walks = fits.walks }) in
    moves_once eq hash None (wanted_by b.table) c.walk_at.result parts c.walk_at.new.parts.items b.segment fits.part once.0 fits.there once.1 once.2

pub returns-else-call-len-clause-one : goal.returns-else-call-len-clause-one
returns-else-call-len-clause-one g c = λ hash first most len can.
    let parts = c.args.parts.now.items in
    let b = c.args.call.now in
    let past : length parts ≤ b.segment = subst (λ n. n ≤ b.segment) (c.len.ensures ∙ c.args.parts.now.ok.0) c.if-call-len.false in
    moves_nowhere g.K.PartialEq.eq hash None (wanted_by b.table) c.walk_nowhere.result parts b.segment past
