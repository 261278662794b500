use Rattle.std.proofs.Common.{arith}
use Rattle.moka_shared.proofs.Numbered.{is_sealed_live, is_sealed_tomb, is_tomb}
use Rattle.moka_shared.proofs.words.word_of.Goals as goal

pub returns-then-number-2 : goal.returns-then-number-2
returns-then-number-2 c = λ w small e.
    is_tomb c.args.number w small e (let low = c.if-number.false in omega (arith, low)) (let high = c.if-number-2.true in omega (arith, high))

pub returns-then-number-3 : goal.returns-then-number-3
returns-then-number-3 c = λ w small e.
    is_sealed_live c.args.number w small e (let low = c.if-number-2.false in omega (arith, low)) (let high = c.if-number-3.true in omega (arith, high))

pub returns : goal.returns
returns c = λ w small e. is_sealed_tomb c.args.number w small e (let low = c.if-number-3.false in omega (arith, low))
