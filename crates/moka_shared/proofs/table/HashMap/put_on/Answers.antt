use Rattle.std.proofs.Common.{inl, refl}
use Rattle.moka_history.proofs.Lists.{prefix_self}
use Rattle.moka_shared.specs.Hashing.{hash_in, place_in}
use Rattle.moka_shared.proofs.Since.{none_made}
use Rattle.moka_shared.proofs.table.HashMap.put_on.Goals as goal

pub returns-then-is_err-clause-goes_on : goal.returns-then-is_err-clause-goes_on
returns-then-is_err-clause-goes_on g c = record { begins = prefix_self c.args.seat.now.front.log; is_log = c.requires.log }

pub returns-then-is_err-clause-puts : goal.returns-then-is_err-clause-puts
returns-then-is_err-clause-puts g c = λ key e found can. (
  refl,
  none_made g.K.PartialEq.eq (hash_in g.S.BuildHasher g.S.Hasher.Hasher g.K.Hash.hash_input) (place_in g.S.BuildHasher g.S.Hasher.Hasher g.K.Hash.hash_input)
      c.args.seat.now.front.log c.requires.log.kept c.args.drawn.pen.nib.key c.args.drawn.ticket c.requires.pen.1.there,
)

pub change_on-requires-clause-chosen : goal.change_on-requires-clause-chosen
change_on-requires-clause-chosen g c = inl (c.args.drawn.ticket, refl)
