use Rattle.std.proofs.Common.{◌==◌, ◌&&◌, nat_lt, Some, None, is_some, cond, ap, ◌≡◌, ◌∙◌}
use Rattle.moka_hist.specs.Finite.{put_at}
use Rattle.moka_hist.specs.Visits.{readers_without, settled_without}
use Rattle.moka_hist.specs.declared.visits.Settled.TheVariants as settled
use Rattle.moka_desk.proofs.loads.Loads.leave.Goals as goal

pub returns : goal.returns
returns g c = λ w held h.
    let call = c.args.call in
    let alone = record w { joined = put_at w.joined call None; readers = readers_without w call; settled = settled_without w call } in
    let last = c.end.ensures alone (c.stop_waiting.ensures w h) in
    let number : c.readers_of-awaited.result ≡ w.readers call = c.readers_of-awaited.ensures.value ∙ h.readers call in
    record {
      owners = last.owners;
      owning = last.owning;
      joined = last.joined;
      readers = last.readers;
      settled = λ n. last.settled n ∙ ap (λ r. cond (is_some (w.owning call) && nat_lt 0 r && call == n) (Some settled.Aborted) (settled_without w call n)) number;
      owns = last.owns;
      owned = last.owned;
    }
