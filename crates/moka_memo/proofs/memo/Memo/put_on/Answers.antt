-- A query that owns the rule of its top frame seeks nothing.
use Rattle.std.proofs.Common.{refl}
use Rattle.moka_evaluator.proofs.Claiming.{owner_seeks_none}
use Rattle.moka_memo.proofs.Becoming.{put_on_is}
use Rattle.moka_memo.proofs.memo.Memo.put_on.Goals as goal

pub seek-requires : goal.seek-requires
seek-requires c =
    let e = c.requires.0 in
    let is = c.requires.1.0 in
    let s = c.requires.1.1 in
    (is.claimed, is.claims, owner_seeks_none e is.sound is.claimed is.are c.args.query s.0 s.1.0 s.1.1.0)

pub returns : goal.returns
returns c = λ e s is at owns need. (
  refl,
  put_on_is c.args.self.now e is c.args.query s at c.args.operand owns need c.seek.new.self
      (c.in_ok-seek.ensures is.claimed is.claims) c.seek-2.new.self c.in_ok-seek-2.ensures.stacks c.in_ok-seek-2.ensures.count,
)
