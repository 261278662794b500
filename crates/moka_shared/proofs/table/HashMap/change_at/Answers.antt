use Rattle.std.proofs.Common.{◌∙◌, ◌<◌, ap, refl, subst, sym}
use Rattle.moka_pairs.specs.Pairs.{pair_at}
use Rattle.moka_history.specs.Logs.{state_of}
use Rattle.moka_history.proofs.Lists.{prefix_self}
use Rattle.moka_words.proofs.Laying.{stored_is_key}
use Rattle.moka_shared.specs.Hashing.{hash_in, place_in, segment_of}
use Rattle.moka_shared.proofs.Divided.{divided}
use Rattle.moka_shared.proofs.Probed.{ended_is_history}
use Rattle.moka_shared.proofs.table.HashMap.change_at.Goals as goal

pub change_live-requires-clause-node : goal.change_live-requires-clause-node
change_live-requires-clause-node g c =
    let number = c.in-Some.number in
    c.requires.node number (stored_is_key c.args.gap.now.word number (sym c.stored_in.ensures ∙ c.in-Some.is))

pub returns-in-None-clause-goes_on : goal.returns-in-None-clause-goes_on
returns-in-None-clause-goes_on g c = record { begins = prefix_self c.args.seat.now.front.log; is_log = c.requires.log }

pub returns-in-None-clause-answers : goal.returns-in-None-clause-answers
returns-in-None-clause-answers g c =
    let eq = g.K.PartialEq.eq in
    let hash = hash_in g.S.BuildHasher g.S.Hasher.Hasher g.K.Hash.hash_input in
    let place = place_in g.S.BuildHasher g.S.Hasher.Hasher g.K.Hash.hash_input in
    let t = c.args.self.now in
    let equals = divided g.S.BuildHasher g.S.Hasher.Hasher g.K.Hash.hash_input eq g.met.K.Eq.laws g.met.K.Hash.respects_eq in
    let log = c.args.seat.now.front.log in
    let gap = c.args.gap.now in
    let key = c.args.key.now in
    let own_below : place t.hasher t.segments key < t.segments = subst (λ n. segment_of t.segments n < t.segments) c.requires.hash c.requires.below in (
      (refl, refl),
      ended_is_history eq hash place equals t key own_below gap.hash c.requires.hash log c.requires.log gap.passed gap.word c.requires.ends
          ∙ ap (pair_at (state_of log).pairs) (sym c.stored_in.ensures ∙ c.in-None.is),
    )

pub returns-in-None-clause-exchange : goal.returns-in-None-clause-exchange
returns-in-None-clause-exchange g c = sym c.stored_in.ensures ∙ c.in-None.is
