use Rattle.std.proofs.Common.{◌∙◌, suc, sym}
use Rattle.moka_history.proofs.Lists.{prefix_through}
use Rattle.moka_shared.specs.Hashing.{hash_in, place_in}
use Rattle.moka_shared.proofs.Answered.{legal_of}
use Rattle.moka_shared.proofs.Sealing.{seal_stands, seals_so}
use Rattle.moka_shared.proofs.Since.{made_lasts}
use Rattle.moka_shared.proofs.table.HashMap.try_seal.Goals as goal

pub returns-then-is_sealed-clause-legal : goal.returns-then-is_sealed-clause-legal
returns-then-is_sealed-clause-legal g c =
    let eq = g.K.PartialEq.eq in
    let hash = hash_in g.S.BuildHasher g.S.Hasher.Hasher g.K.Hash.hash_input in
    let place = place_in g.S.BuildHasher g.S.Hasher.Hasher g.K.Hash.hash_input in
    legal_of eq hash place c.load-word.new.front.log c.load-word.ensures.loads.goes_on.is_log.kept

pub returns-then-is_sealed-clause-made : goal.returns-then-is_sealed-clause-made
returns-then-is_sealed-clause-made g c = λ made.
    let eq = g.K.PartialEq.eq in
    let hash = hash_in g.S.BuildHasher g.S.Hasher.Hasher g.K.Hash.hash_input in
    let place = place_in g.S.BuildHasher g.S.Hasher.Hasher g.K.Hash.hash_input in
    let old = c.args.seat.now.front.log in
    let start = c.learn.new.self.log in
    let loads = c.load-word.ensures.loads in
    let mid = c.load-word.new.front.log in
    let begins = prefix_through old start mid c.learn.ensures.2 loads.goes_on.begins in
    made_lasts eq hash place mid loads.goes_on.is_log.kept old begins c.args.seat.now.mine.numbers made

pub returns-then-is_sealed-clause-seals : goal.returns-then-is_sealed-clause-seals
returns-then-is_sealed-clause-seals g c =
    let eq = g.K.PartialEq.eq in
    let hash = hash_in g.S.BuildHasher g.S.Hasher.Hasher g.K.Hash.hash_input in
    let place = place_in g.S.BuildHasher g.S.Hasher.Hasher g.K.Hash.hash_input in
    let loads = c.load-word.ensures.loads in
    seal_stands eq hash place c.args.self.now c.load-word.new.front.log loads.goes_on.is_log c.args.segment c.args.index c.requires.segment c.requires.index
    c.load-word.result loads.there (sym c.is_sealed.ensures ∙ c.if-is_sealed.true)

pub returns-in-Ok-clause-legal : goal.returns-in-Ok-clause-legal
returns-in-Ok-clause-legal g c =
    let eq = g.K.PartialEq.eq in
    let hash = hash_in g.S.BuildHasher g.S.Hasher.Hasher g.K.Hash.hash_input in
    let place = place_in g.S.BuildHasher g.S.Hasher.Hasher g.K.Hash.hash_input in
    legal_of eq hash place c.seal_at.new.front.log c.seal_at.ensures.goes_on.is_log.kept

pub returns-in-Ok-clause-made : goal.returns-in-Ok-clause-made
returns-in-Ok-clause-made g c = λ made.
    let eq = g.K.PartialEq.eq in
    let hash = hash_in g.S.BuildHasher g.S.Hasher.Hasher g.K.Hash.hash_input in
    let place = place_in g.S.BuildHasher g.S.Hasher.Hasher g.K.Hash.hash_input in
    let old = c.args.seat.now.front.log in
    let start = c.learn.new.self.log in
    let loads = c.load-word.ensures.loads in
    let mid = c.load-word.new.front.log in
    let begins = prefix_through old start mid c.learn.ensures.2 loads.goes_on.begins in
    let new = c.seal_at.new.front.log in
    let goes = c.seal_at.ensures.goes_on in
    made_lasts eq hash place new goes.is_log.kept old (prefix_through old mid new begins goes.begins) c.args.seat.now.mine.numbers made

pub returns-in-Err-clause-legal : goal.returns-in-Err-clause-legal
returns-in-Err-clause-legal g c =
    let eq = g.K.PartialEq.eq in
    let hash = hash_in g.S.BuildHasher g.S.Hasher.Hasher g.K.Hash.hash_input in
    let place = place_in g.S.BuildHasher g.S.Hasher.Hasher g.K.Hash.hash_input in
    legal_of eq hash place c.seal_at.new.front.log c.seal_at.ensures.goes_on.is_log.kept

pub returns-in-Err-clause-made : goal.returns-in-Err-clause-made
returns-in-Err-clause-made g c = λ made.
    let eq = g.K.PartialEq.eq in
    let hash = hash_in g.S.BuildHasher g.S.Hasher.Hasher g.K.Hash.hash_input in
    let place = place_in g.S.BuildHasher g.S.Hasher.Hasher g.K.Hash.hash_input in
    let old = c.args.seat.now.front.log in
    let start = c.learn.new.self.log in
    let loads = c.load-word.ensures.loads in
    let mid = c.load-word.new.front.log in
    let begins = prefix_through old start mid c.learn.ensures.2 loads.goes_on.begins in
    let new = c.seal_at.new.front.log in
    let goes = c.seal_at.ensures.goes_on in
    made_lasts eq hash place new goes.is_log.kept old (prefix_through old mid new begins goes.begins) c.args.seat.now.mine.numbers made

pub returns-in-Err-clause-seals : goal.returns-in-Err-clause-seals
returns-in-Err-clause-seals g c =
    let old = c.args.seat.now.front.log in
    let start = c.learn.new.self.log in
    let loads = c.load-word.ensures.loads in
    let mid = c.load-word.new.front.log in
    let begins = prefix_through old start mid c.learn.ensures.2 loads.goes_on.begins in
    seals_so (suc c.args.segment) c.args.index old mid c.seal_at.new.front.log begins c.in-Err.met c.unsealed.result c.unsealed.ensures.sealed c.unsealed.ensures.lost
    c.in-Err.ensures.meets.0 c.in-Err.ensures.meets.1
