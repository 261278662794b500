-- The rule's value becomes known, and the frame comes off.
use Rattle.std.proofs.Common.{◌<◌, ◌+◌, length, refl, arith}
use Rattle.moka_memo.proofs.Turning.{is_held, known_less, known_turns, live}
use Rattle.moka_memo.proofs.memo.Memo.make_known.Goals as goal

pub settle-requires : goal.settle-requires
settle-requires c =
    let stands = c.requires.stands in
    let is = stands.1.0 in
    let s = stands.1.1 in
    (is.claimed, is.claims, is_held c.args.self.now stands.0 is c.args.query s.0 s.1.0 c.args.top s.1.1 c.requires.owns)

pub come_off-requires : goal.come_off-requires
come_off-requires c =
    let stands = c.requires.stands in
    let s = stands.1.1 in
    live c.args.self.now stands.0 stands.1.0 c.args.query s.0 s.1.0 c.args.top s.1.1

pub overflow_add-self : goal.overflow_add-self
overflow_add-self c =
    let stands = c.requires.stands in
    let s = stands.1.1 in
    let less : c.args.self.now.known < length c.args.self.now.rules.items =
    known_less c.args.self.now stands.0 stands.1.0 c.args.query s.0 s.1.0 c.args.top s.1.1 c.requires.owns 0 in
    omega (arith, less)

pub returns : goal.returns
returns c = λ e s is at same.
    known_turns c.args.self.now e is c.args.query s at c.args.top same c.requires.owns c.args.rule c.requires.rule c.requires.needs
    c.value_from-value.result (c.args.self.now.known + 1) c.value_from-value.ensures refl c.settle.new.self
    (c.in_ok-settle.ensures is.claimed is.claims (is_held c.args.self.now e is c.args.query s at c.args.top same c.requires.owns))
    c.close.new.self c.close.ensures.owner c.close.ensures.line c.come_off.new.self c.come_off.result
    c.come_off.ensures.reply c.come_off.ensures.stacks c.come_off.ensures.count
