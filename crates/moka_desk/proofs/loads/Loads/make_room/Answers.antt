use Rattle.std.proofs.Common.{◌∙◌, sym}
use Rattle.moka_desk.proofs.SameLoads.{get_same}
use Rattle.moka_desk.proofs.loads.Loads.make_room.Goals as goal

pub returns-clause-same : goal.returns-clause-same
returns-clause-same g c = λ p h. record {
  owners = λ l. get_same g.K.PartialEq.eq c.reserve-2.new.map l ∙ c.reserve-2.ensures.entries.2 l ∙ sym (get_same g.K.PartialEq.eq c.args.self.now.owners l) ∙ h.owners l;
  owning = λ n. c.reserve-3.ensures.entries.2 n ∙ h.owning n;
  joined = h.joined;
  readers = h.readers;
  settled = λ n. c.reserve.ensures.entries.2 n ∙ h.settled n;
  owns = h.owns;
  owned = h.owned;
}

pub returns-clause-owners : goal.returns-clause-owners
returns-clause-owners g c = λ l. get_same g.K.PartialEq.eq c.reserve-2.new.map l ∙ c.reserve-2.ensures.entries.2 l ∙ sym (get_same g.K.PartialEq.eq c.args.self.now.owners l)

pub returns-in_err-reserve-2-clause-same : goal.returns-in_err-reserve-2-clause-same
returns-in_err-reserve-2-clause-same g c = λ p h. record {
  owners = λ l. get_same g.K.PartialEq.eq c.reserve-2.new.map l ∙ c.reserve-2.ensures.entries.2 l ∙ sym (get_same g.K.PartialEq.eq c.args.self.now.owners l) ∙ h.owners l;
  owning = h.owning;
  joined = h.joined;
  readers = h.readers;
  settled = λ n. c.reserve.ensures.entries.2 n ∙ h.settled n;
  owns = h.owns;
  owned = h.owned;
}

pub returns-in_err-reserve-2-clause-owners : goal.returns-in_err-reserve-2-clause-owners
returns-in_err-reserve-2-clause-owners g c = λ l. get_same g.K.PartialEq.eq c.reserve-2.new.map l ∙ c.reserve-2.ensures.entries.2 l ∙ sym (get_same g.K.PartialEq.eq c.args.self.now.owners l)
