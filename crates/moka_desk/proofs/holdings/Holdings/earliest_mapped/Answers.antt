-- Each call of the map is looked at.
use Rattle.std.proofs.Common.{◌||◌, nat_le, false, sym, ap, ◌∙◌}
use Rattle.std.specs.List.{list_any}
use Rattle.std.specs.Option.{option_map_or}
use Rattle.std.proofs.Math.Bool.{or-false}
use Rattle.moka_desk.specs.Held.{pends_up_to}
use Rattle.moka_desk.proofs.Pendings.{one_more_looked}
use Rattle.moka_desk.proofs.holdings.Holdings.earliest_mapped.Goals as goal

pub loop-call-preserved : goal.loop-call-preserved
loop-call-preserved c = λ moment.
    let looks = pends_up_to c.args.self.now c.args.last moment in
    let before = option_map_or (λ taken. nat_le taken moment) c.loop-call.earliest false in
    let was = sym (ap (λ calls. before || list_any looks calls) c.in-Some.ensures.steps) ∙ c.loop-call.invariant moment in
    one_more_looked before (looks c.in-Some.call.now) _ (list_any looks c.next.new.self) _ was (c.earlier-earliest.ensures moment)

pub returns : goal.returns
returns c = λ moment.
    let looks = pends_up_to c.args.self.now c.args.last moment in
    let before = option_map_or (λ taken. nat_le taken moment) c.loop-call.earliest false in
    sym (or-false before) ∙ sym (ap (λ calls. before || list_any looks calls) c.in-None.ensures.steps.0) ∙ c.loop-call.invariant moment
