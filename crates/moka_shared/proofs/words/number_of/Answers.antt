use Rattle.std.proofs.Common.{ap, arith}
use Rattle.moka_words.specs.Words.{node_of}
use Rattle.moka_shared.proofs.words.number_of.Goals as goal

pub overflow_add-result : goal.overflow_add-result
overflow_add-result c = let small = c.requires c.in-Live.number (ap node_of c.in-Live.is) in omega (arith, small)

pub overflow_add-result-in-Tomb : goal.overflow_add-result-in-Tomb
overflow_add-result-in-Tomb c = let small = c.requires c.in-Tomb.number (ap node_of c.in-Tomb.is) in omega (arith, small)

pub overflow_add-result-in-SealedLive : goal.overflow_add-result-in-SealedLive
overflow_add-result-in-SealedLive c = let small = c.requires c.in-SealedLive.number (ap node_of c.in-SealedLive.is) in omega (arith, small)

pub overflow_add-result-in-SealedTomb : goal.overflow_add-result-in-SealedTomb
overflow_add-result-in-SealedTomb c = let small = c.requires c.in-SealedTomb.number (ap node_of c.in-SealedTomb.is) in omega (arith, small)
