-- There is no room, or no such rule, or a query is added.
use Rattle.std.proofs.Common.{sym, ◌∙◌}
use Rattle.std.proofs.lemmas.Result.{IfOk-weaker}
use Rattle.moka_stacks.specs.Queries.{count_of}
use Rattle.moka_memo.proofs.Asking.{full_is, has_room, none_is, room_is, some_is}
use Rattle.moka_memo.proofs.memo.Memo.ask_unspent.Goals as goal

pub add-requires : goal.add-requires
add-requires c =
    let e = c.requires.0 in
    let is = c.requires.1.0 in
    (e, (is, some_is c.args.self.now e is c.args.rule c.in-Some._found (sym c.rule.ensures ∙ c.in-Some.is)))

pub returns-then-is_full : goal.returns-then-is_full
returns-then-is_full c = λ e is. full_is c.args.self.now e is c.args.rule (c.is_full.ensures.0 c.if-is_full.true)

pub returns-in-Some : goal.returns-in-Some
returns-in-Some c = IfOk-weaker c.add.result _ _ (λ query came e is.
    let some = some_is c.args.self.now e is c.args.rule c.in-Some._found (sym c.rule.ensures ∙ c.in-Some.is) in
    room_is c.args.self.now e is c.args.rule some
    (has_room c.is_full.result (count_of c.args.self.now.queries) c.if-is_full.false c.is_full.ensures.1)
    c.add.new.self query (came e is some))
    c.add.ensures

pub returns-in-None : goal.returns-in-None
returns-in-None c = λ e is. none_is c.args.self.now e is c.args.rule (sym c.rule.ensures ∙ c.in-None.is)
