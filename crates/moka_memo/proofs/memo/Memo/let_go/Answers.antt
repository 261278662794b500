-- The top frame first, and then those below.
use Rattle.std.proofs.Common.{refl}
use Rattle.moka_stacks.specs.Queries.{stack_of}
use Rattle.moka_memo.proofs.Dropping.{dropped_is}
use Rattle.moka_memo.proofs.memo.Memo.let_go.Goals as goal

pub let_go_top-requires : goal.let_go_top-requires
let_go_top-requires c = (c.requires.0, stack_of c.args.left, c.requires.1, refl)

pub pass_all-requires : goal.pass_all-requires
pass_all-requires c =
    let e = c.requires.0 in
    let is = c.requires.1 in
    let s = stack_of c.args.left in
    (e, c.args.query, s.top.rule, c.let_go_top.ensures e s is refl, (is.sound.stacks c.args.query s is.live_at).below)

pub returns : goal.returns
returns c = λ e is.
    let s = stack_of c.args.left in
    dropped_is c.pass_all.new.self e c.args.query s is.live_at
    (c.pass_all.ensures e c.args.query s.top.rule (c.let_go_top.ensures e s is refl) (is.sound.stacks c.args.query s is.live_at).below)
