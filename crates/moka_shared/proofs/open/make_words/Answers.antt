use Rattle.std.proofs.Common.{◌≡◌, arith, subst}
use Rattle.moka_shared.specs.Tables.{AreWords}
use Rattle.moka_shared.proofs.open.make_words.Goals as goal

pub returns : goal.returns
returns g c =
    let few = c.loop-made.invariant.few in
    let least = c.loop-made-test.false in
    let next = c.loop-made.invariant.next in
    let left = c.loop-made.invariant.left in
    let all : c.loop-made.made ≡ c.args.count = omega (arith, few, least) in
    record {
      words = subst (λ n. AreWords c.args.pens.now.book c.args.pens.now.next n c.loop-made.words.items) all c.loop-made.invariant.are;
      book = c.loop-made.invariant.book;
      next = omega (arith, next, all);
      left = omega (arith, left, all);
    }
