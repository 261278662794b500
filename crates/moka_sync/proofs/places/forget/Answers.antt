-- One more call has no ticket any more.
use Rattle.std.proofs.Common.{map, arith, ◌∷◌, []}
use Rattle.moka_sync.specs.Tickets.{ticket_of}
use Rattle.std.proofs.lemmas.List.{map-append}
use Rattle.std.specs.Borrow.{Bor}
use Rattle.moka_sync.specs.declared.places.Place.{Place}
use Rattle.moka_sync.proofs.Stands.{gone-more}
use Rattle.moka_sync.proofs.places.forget.Goals as goal

pub loop-place-preserved : goal.loop-place-preserved
loop-place-preserved c =
    let call = λ (p : Bor Place). p.now.call in
    record {
      gone = λ q.
          rw (map-append call c.loop-place.yielded (c.in-Some.place ∷ []))
          (gone-more (ticket_of c.args.tickets.now) (ticket_of c.loop-place.tickets) (ticket_of c.remove.new.self) (map call c.loop-place.yielded) c.in-Some.place.now.call q
          (c.remove.ensures.lost q) (c.loop-place.invariant.gone q));
      spare = omega arith;
    }
