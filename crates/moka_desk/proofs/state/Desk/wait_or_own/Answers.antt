use Rattle.std.proofs.Common.{◌≡◌, Some, None, sym, ap, subst, ◌∙◌}
use Rattle.moka_hist.specs.Visits.{claim_of, claimed}
use Rattle.moka_hist.specs.declared.visits.Found.TheVariants as found
use Rattle.moka_hist.proofs.Owners.{is_none_of}
use Rattle.moka_desk.specs.ListedMiss.{ListedMiss}
use Rattle.moka_desk.specs.Loads.{load_part}
use Rattle.moka_desk.specs.StandsFor.{StandsFor}
use Rattle.moka_desk.proofs.Misses.{there}
use Rattle.moka_desk.proofs.Parts.{own_stands}
use Rattle.moka_desk.proofs.state.Desk.wait_or_own.Goals as goal

pub join-requires : goal.join-requires
join-requires g c =
    let w = c.requires.free.0 in
    let h = c.requires.free.1 in
    record { apart = h.loads.joined c.args.call ∙ is_none_of (w.joined c.args.call) c.requires.free.2.1 }

pub returns-in-Some-clause-finds : goal.returns-in-Some-clause-finds
returns-in-Some-clause-finds g c = λ w h may.
    let owned : w.owners c.args.load ≡ Some c.in-Some.owner = sym (h.loads.owners c.args.load) ∙ sym c.owner_of.ensures ∙ c.in-Some.is in
    ap (λ o. found.WaitOrOwn (claim_of o)) (sym owned)

pub returns-in-Some-clause-makes : goal.returns-in-Some-clause-makes
returns-in-Some-clause-makes g c = λ w h may.
    let eq = g.K.PartialEq.eq in
    let load = c.args.load in
    let owned : w.owners load ≡ Some c.in-Some.owner = sym (h.loads.owners load) ∙ sym c.owner_of.ensures ∙ c.in-Some.is in
    let owns = there _ (w.owning c.in-Some.owner) (h.loads.owns load c.in-Some.owner owned) in
    subst (λ o. StandsFor eq c.join.new.self (claimed eq w c.args.call load o)) (sym owned) (c.in_ok-join.ensures.makes w h owns)

pub returns-in-Some-clause-misses : goal.returns-in-Some-clause-misses
returns-in-Some-clause-misses g c = λ w h may m.
    let load = c.args.load in
    let owned : w.owners load ≡ Some c.in-Some.owner = sym (h.loads.owners load) ∙ sym c.owner_of.ensures ∙ c.in-Some.is in
    subst (λ o. ListedMiss c.join.new.self (claimed g.K.PartialEq.eq w c.args.call load o)) (sym owned)
    (c.in_ok-join.ensures.misses w may.1 (may.2 c.in-Some.owner owned) m)

pub returns-clause-finds : goal.returns-clause-finds
returns-clause-finds g c = λ w h may.
    let free : w.owners c.args.load ≡ None = sym (h.loads.owners c.args.load) ∙ sym c.owner_of.ensures ∙ c.in_default.is in
    ap (λ o. found.WaitOrOwn (claim_of o)) (sym free)

pub returns-clause-makes : goal.returns-clause-makes
returns-clause-makes g c = λ w h may.
    let eq = g.K.PartialEq.eq in
    let load = c.args.load in
    let free : w.owners load ≡ None = sym (h.loads.owners load) ∙ sym c.owner_of.ensures ∙ c.in_default.is in
    subst (λ o. StandsFor eq (record c.args.self.now { loads = c.own.new.self }) (claimed eq w c.args.call load o)) (sym free)
    (own_stands eq c.args.self.now w h c.args.call load c.own.new.self (c.in_ok-own.ensures.ok (load_part w) h.loads))

pub returns-clause-misses : goal.returns-clause-misses
returns-clause-misses g c = λ w h may m.
    let load = c.args.load in
    let free : w.owners load ≡ None = sym (h.loads.owners load) ∙ sym c.owner_of.ensures ∙ c.in_default.is in
    subst (λ o. ListedMiss (record c.args.self.now { loads = c.own.new.self }) (claimed g.K.PartialEq.eq w c.args.call load o)) (sym free)
    (record {
      turns = m.turns;
      settlements = m.settlements;
      answers = m.answers;
      locks = m.locks;
      notices = m.notices;
    })
