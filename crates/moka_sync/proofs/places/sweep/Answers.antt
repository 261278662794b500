-- One more place is kept where it stands.
use Rattle.std.proofs.Common.{◌≡◌, ◌+◌, take, drop, sym, arith, rules, length-take}
use Rattle.moka_sync.specs.Tickets.{ticket_of}
use Rattle.std.proofs.lemmas.List.{drop-drop}
use Rattle.std.proofs.Math.Seq.{take-add}
use Rattle.moka_sync.specs.Standing.{standing_places}
use Rattle.moka_sync.proofs.Stands.{standing_places-append, standing_places-short}
use Rattle.moka_sync.proofs.places.sweep.Goals as goal

pub loop-preserved : goal.loop-preserved
loop-preserved c =
    let f = ticket_of c.args.tickets.now in
    let xs = c.args.places.now in
    let i = c.loop.counter in
    let kept : c.keep_standing.new.kept ≡ standing_places f (take (i + 1) xs) =
    rw (c.keep_standing.ensures, c.loop.invariant.kept, c.take_first-node.ensures.first, c.loop.invariant.left, take-add i 1 xs)
    (sym (standing_places-append f (take i xs) (take 1 (drop i xs)))) in
    let short = standing_places-short f (take (i + 1) xs) in
    let long = length-take (i + 1) xs in
    record {
      left = rw (c.take_first-node.ensures.rest, c.loop.invariant.left) (drop-drop 1 i xs);
      kept = kept;
      short = rw kept (omega arith);
      few = search rules;
      count = search rules;
    }
