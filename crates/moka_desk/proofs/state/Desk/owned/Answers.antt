use Rattle.moka_hist.specs.Visits.{claimed_alone}
use Rattle.moka_hist.specs.declared.loads.Load.{Load}
use Rattle.moka_hist.specs.declared.loads.Kind.TheVariants as kind
use Rattle.moka_desk.specs.ListedMiss.{ListedMiss}
use Rattle.moka_desk.proofs.Misses.{by_option}
use Rattle.moka_desk.proofs.Outcomes.{then_ok}
use Rattle.moka_desk.proofs.Parts.{alone_stands}
use Rattle.moka_desk.proofs.state.Desk.owned.Goals as goal

pub returns-clause-makes : goal.returns-clause-makes
returns-clause-makes g c =
    let load : Load g.row.K.Denot = record { key = c.args.key; kind = kind.Compute } in
    then_ok c.claim_alone.result c.claim_alone.ensures.ok
    (λ ok w h may. alone_stands g.K.PartialEq.eq c.args.self.now w h c.args.call load (w.owners load) c.claim_alone.new.self (ok w h.loads))

pub returns-clause-misses : goal.returns-clause-misses
returns-clause-misses g c =
    let call = c.args.call in
    let load : Load g.row.K.Denot = record { key = c.args.key; kind = kind.Compute } in
    then_ok c.claim_alone.result c.claim_alone.ensures.ok (λ ok w h may m.
    by_option (λ o. ListedMiss (record c.args.self.now { loads = c.claim_alone.new.self }) (claimed_alone g.K.PartialEq.eq w call load o))
    (record { turns = m.turns; settlements = m.settlements; answers = m.answers; locks = m.locks; notices = m.notices })
    (λ owner. record { turns = m.turns; settlements = m.settlements; answers = m.answers; locks = m.locks; notices = m.notices })
    (w.owners load))
