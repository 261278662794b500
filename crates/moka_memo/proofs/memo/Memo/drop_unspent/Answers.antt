-- The query is taken out, if it is live, and lets go what it had.
use Rattle.std.proofs.Common.{◌≡◌, ◌+◌, cond, is_some, sym, ap, ◌∙◌, subst}
use Rattle.std.specs.Option.{option_map}
use Rattle.moka_stacks.specs.Queries.{count_of, stack_of}
use Rattle.moka_memo.proofs.Letting.{drops, drops_none, leaves}
use Rattle.moka_memo.proofs.memo.Memo.drop_unspent.Goals as goal

pub let_go-requires : goal.let_go-requires
let_go-requires c =
    let e = c.requires.0 in
    let is = c.requires.1.0 in (
      e,
      leaves c.args.self.now e is c.args.query c.in-Some.left (ap (option_map stack_of) (sym c.in-Some.is) ∙ c.remove.ensures.removed)
          c.remove.new.self c.remove.ensures.stacks
          (subst (λ x. count_of c.remove.new.self + cond (is_some x) 1 0 ≡ count_of c.args.self.now.queries) c.in-Some.is c.remove.ensures.count),
    )

pub returns-in-Some : goal.returns-in-Some
returns-in-Some c = λ e is.
    let leaving = leaves c.args.self.now e is c.args.query c.in-Some.left (ap (option_map stack_of) (sym c.in-Some.is) ∙ c.remove.ensures.removed)
    c.remove.new.self c.remove.ensures.stacks
    (subst (λ x. count_of c.remove.new.self + cond (is_some x) 1 0 ≡ count_of c.args.self.now.queries) c.in-Some.is c.remove.ensures.count) in
    drops c.let_go.new.self e c.args.query (stack_of c.in-Some.left) leaving.live_at (c.let_go.ensures e leaving)

pub returns-in-None : goal.returns-in-None
returns-in-None c = λ e is.
    drops_none c.args.self.now e is c.args.query (ap (option_map stack_of) (sym c.in-None.is) ∙ c.remove.ensures.removed)
    c.remove.new.self c.remove.ensures.stacks
    (subst (λ x. count_of c.remove.new.self + cond (is_some x) 1 0 ≡ count_of c.args.self.now.queries) c.in-None.is c.remove.ensures.count)
