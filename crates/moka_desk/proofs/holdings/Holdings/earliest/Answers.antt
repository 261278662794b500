-- Each call that holds something is looked at, in the map and beside it.
use Rattle.std.proofs.Common.{◌||◌, ◌<◌, ◌≤◌, ℕ, nat_eq, length, arith, sym, ap, ◌∙◌}
use Rattle.std.specs.HashMap.{keys}
use Rattle.std.specs.List.{list_any}
use Rattle.std.proofs.lemmas.List.{take_all}
use Rattle.std.proofs.lemmas.Map.Made.{is_some-lookup}
use Rattle.moka_hist.specs.declared.writes.Holding.{Holding}
use Rattle.moka_desk.specs.Held.{pends_up_to}
use Rattle.moka_desk.proofs.Pendings.{one_more_listed, some_listed}
use Rattle.moka_desk.proofs.holdings.Holdings.earliest.Goals as goal

pub loop-held-preserved : goal.loop-held-preserved
loop-held-preserved c = λ moment.
    let h = c.args.self.now in
    let looks = pends_up_to h c.args.last moment in
    let within : c.loop-held.held-index < length h.rest.items = omega arith in
    one_more_listed looks _ _ _ c.deref-held-items.result.now h.rest.items c.loop-held.held-index _ c.deref-held-items.ensures.value within (c.loop-held.invariant moment) (c.earlier-earliest.ensures moment)

pub returns : goal.returns
returns c = λ moment.
    let h = c.args.self.now in
    let looks = pends_up_to h c.args.last moment in
    let past : length h.rest.items ≤ c.loop-held.held-index = omega arith in
    some_listed h moment c.args.last (keys h.by_call) (λ q. is_some-lookup (nat_eq q) h.by_call.entries)
    ∙ ap (λ held. list_any looks (keys h.by_call) || list_any (λ (v : ℕ × Holding). looks v.0) held) (sym (take_all c.loop-held.held-index h.rest.items past))
    ∙ sym (c.loop-held.invariant moment)
