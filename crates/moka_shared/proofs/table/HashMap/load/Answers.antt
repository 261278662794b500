use Rattle.std.proofs.Common.{◌∙◌, ℕ, Some, ap, inr, subst, suc, sym}
use Rattle.moka_shared.specs.Hashing.{hash_in, place_in}
use Rattle.moka_shared.specs.Steps.{Sees}
use Rattle.moka_shared.proofs.Loading.{loaded, opened_some, row_is}
use Rattle.moka_shared.proofs.table.HashMap.load.Goals as goal

pub look-number-requires : goal.look-number-requires
look-number-requires g c =
    let eq = g.K.PartialEq.eq in
    let hash = hash_in g.S.BuildHasher g.S.Hasher.Hasher g.K.Hash.hash_input in
    let place = place_in g.S.BuildHasher g.S.Hasher.Hasher g.K.Hash.hash_input in
    let t = c.args.self.now in
    let is = c.bucket-bucket.ensures in
    record {
      book = (ap (λ w. w.tracked) is, ap (λ w. w.book) is ∙ sym c.requires.book);
      some = opened_some t.segments t.size t.hasher c.args.front.now.log c.requires.log.opened;
      place = inr (
        suc c.args.segment,
        c.args.index,
        row_is eq hash place t c.args.front.now.log c.requires.log c.args.segment c.args.index c.requires.segment c.requires.index
            ∙ ap Some (sym (ap (λ w. w.key) is)),
      );
    }

pub returns-clause-loads : goal.returns-clause-loads
returns-clause-loads g c =
    let eq = g.K.PartialEq.eq in
    let hash = hash_in g.S.BuildHasher g.S.Hasher.Hasher g.K.Hash.hash_input in
    let place = place_in g.S.BuildHasher g.S.Hasher.Hasher g.K.Hash.hash_input in
    let t = c.args.self.now in
    let sees = subst (λ (k : ℕ). Sees eq hash place k c.look-number.result c.args.front.now.log c.look-number.new.front.log) (ap (λ w. w.key) c.bucket-bucket.ensures)
    c.look-number.ensures.sees in
    loaded eq hash place t c.args.front.now.log c.look-number.new.front.log c.requires.log c.args.segment c.args.index c.requires.segment c.requires.index
    c.look-number.result sees c.word_of.result c.word_of.ensures
