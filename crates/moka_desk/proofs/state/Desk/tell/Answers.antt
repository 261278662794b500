-- The asks are told, and nothing else changes.
use Rattle.std.proofs.Common.{if◌then◌else◌, is_some, sym, subst}
use Rattle.moka_hist.specs.Telling.{told}
use Rattle.moka_hist.specs.declared.events.Told.{Told}
use Rattle.moka_hist.specs.declared.events.Told.TheVariants as answer
use Rattle.moka_desk.specs.Asks.{ask_part}
use Rattle.moka_desk.specs.StandsFor.{StandsFor}
use Rattle.moka_desk.proofs.Parts.{told_stands}
use Rattle.moka_desk.proofs.state.Desk.tell.Goals as goal

pub returns-in-Value-clause-makes : goal.returns-in-Value-clause-makes
returns-in-Value-clause-makes g c = λ w h.
    let self = c.args.self.now in
    subst (λ (a : Told g.row.V.Denot g.row.E.Denot). StandsFor g.K.PartialEq.eq (record self { asks = c.tell.new.self }) (if is_some c.tell.result then told w c.args.number a else w)) (sym c.in-Value.is)
    (told_stands g.K.PartialEq.eq self w h c.args.number (answer.Value c.in-Value.value) c.tell.new.self (is_some c.tell.result) (c.tell.ensures.makes (ask_part w) h.asks))

pub returns-in-Nothing-clause-makes : goal.returns-in-Nothing-clause-makes
returns-in-Nothing-clause-makes g c = λ w h.
    let self = c.args.self.now in
    subst (λ (a : Told g.row.V.Denot g.row.E.Denot). StandsFor g.K.PartialEq.eq (record self { asks = c.tell-in-Nothing.new.self }) (if is_some c.tell-in-Nothing.result then told w c.args.number a else w)) (sym c.in-Nothing.is)
    (told_stands g.K.PartialEq.eq self w h c.args.number answer.Nothing c.tell-in-Nothing.new.self (is_some c.tell-in-Nothing.result) (c.tell-in-Nothing.ensures.makes (ask_part w) h.asks))

pub returns-in-Err-clause-makes : goal.returns-in-Err-clause-makes
returns-in-Err-clause-makes g c = λ w h.
    let self = c.args.self.now in
    subst (λ (a : Told g.row.V.Denot g.row.E.Denot). StandsFor g.K.PartialEq.eq (record self { asks = c.tell-in-Err.new.self }) (if is_some c.tell-in-Err.result then told w c.args.number a else w)) (sym c.in-Err.is)
    (told_stands g.K.PartialEq.eq self w h c.args.number (answer.Err c.in-Err.error) c.tell-in-Err.new.self (is_some c.tell-in-Err.result) (c.tell-in-Err.ensures.makes (ask_part w) h.asks))

pub returns-in-Op-clause-makes : goal.returns-in-Op-clause-makes
returns-in-Op-clause-makes g c = λ w h.
    let self = c.args.self.now in
    subst (λ (a : Told g.row.V.Denot g.row.E.Denot). StandsFor g.K.PartialEq.eq (record self { asks = c.tell-in-Op.new.self }) (if is_some c.tell-in-Op.result then told w c.args.number a else w)) (sym c.in-Op.is)
    (told_stands g.K.PartialEq.eq self w h c.args.number (answer.Op c.in-Op.op) c.tell-in-Op.new.self (is_some c.tell-in-Op.result) (c.tell-in-Op.ensures.makes (ask_part w) h.asks))
