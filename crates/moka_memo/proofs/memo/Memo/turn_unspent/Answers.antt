-- The query is live, with this top frame, or isn't.
use Rattle.std.proofs.Common.{sym, ◌∙◌, subst}
use Rattle.std.proofs.lemmas.Result.{IfOk-weaker}
use Rattle.moka_memo.specs.Memo.{Turns}
use Rattle.moka_memo.proofs.Tops.{turned_is}
use Rattle.moka_memo.proofs.Turning.{has_top, no_turn}
use Rattle.moka_memo.proofs.memo.Memo.turn_unspent.Goals as goal

pub turn_top-requires : goal.turn_top-requires
turn_top-requires c =
    let e = c.requires.0 in
    let is = c.requires.1.0 in
    (e, (is, has_top c.args.self.now e is c.args.query c.in-Some.top (sym c.in-Some.is ∙ c.top.ensures)))

pub returns-in-Some : goal.returns-in-Some
returns-in-Some c = IfOk-weaker c.turn_top.result _ _ (λ turn came e is.
    let s = has_top c.args.self.now e is c.args.query c.in-Some.top (sym c.in-Some.is ∙ c.top.ensures) in
    subst (Turns c.turn_top.new.self turn) (sym (turned_is e c.args.query s.0 s.1.0)) (came e s.0 is s.1.0 s.1.1))
    c.turn_top.ensures

pub returns-in-None : goal.returns-in-None
returns-in-None c = λ e is. no_turn c.args.self.now e is c.args.query (sym c.in-None.is ∙ c.top.ensures)
