use Rattle.std.proofs.Common.{◌≡◌, ◌∙◌, Some, ap, arith, inr, length, refl, subst, sym}
use Rattle.std.proofs.lemmas.Option.{slice_get_read}
use Rattle.std.specs.Option.{option_map}
use Rattle.std.specs.List.{slice_get}
use Rattle.moka_history.proofs.Lists.{map_get, prefix_self}
use Rattle.moka_shared.specs.Hashing.{hash_in, place_in}
use Rattle.moka_shared.specs.Links.{keys_in}
use Rattle.moka_shared.specs.Swings.{AreSet}
use Rattle.moka_shared.proofs.Divided.{divided}
use Rattle.moka_shared.proofs.Loading.{goes_through, opened_some}
use Rattle.moka_shared.proofs.Swung.{follows_lasts, loaded_on, loaded_set, loaded_unset}
use Rattle.moka_shared.proofs.table.HashMap.first_unset.Goals as goal

pub loop-index-init : goal.loop-index-init
loop-index-init g c = record {
  low = omega arith;
  book = refl;
  goes_on = record { begins = prefix_self c.args.front.now.log; is_log = c.requires.log };
  follows = c.requires.follows;
  set = λ i inside. absurd (omega (arith, inside));
}

pub index-requires : goal.index-requires
index-requires g c = let less = c.loop-index-test.true in let count = c.len-count.ensures in let long = c.args.row.now.words.ok.0 in omega (arith, less, count, long)

pub look-number-requires-clause-book : goal.look-number-requires-clause-book
look-number-requires-clause-book g c =
    let row = c.args.row.now in
    let words = row.words.items in
    let inv = c.loop-index.invariant in
    let index = c.loop-index.index in
    let less = c.loop-index-test.true in
    let count = c.len-count.ensures in
    let at = slice_get_read words (length words) index c.index.result.now refl (omega (arith, less, count)) c.index.ensures in
    let named = (c.requires.row.each index c.index.result.now at).named in
    (ap (λ w. w.tracked) named, ap (λ w. w.book) named ∙ sym (inv.book ∙ c.requires.book))

pub look-number-requires-clause-some : goal.look-number-requires-clause-some
look-number-requires-clause-some g c =
    let t = c.args.self.now in
    opened_some t.segments t.size t.hasher c.loop-index.front.log c.loop-index.invariant.goes_on.is_log.opened

pub look-number-requires-clause-place : goal.look-number-requires-clause-place
look-number-requires-clause-place g c =
    let row = c.args.row.now in
    let words = row.words.items in
    let inv = c.loop-index.invariant in
    let index = c.loop-index.index in
    let less = c.loop-index-test.true in
    let count = c.len-count.ensures in
    let at = slice_get_read words (length words) index c.index.result.now refl (omega (arith, less, count)) c.index.ensures in
    let key = c.index.result.now.key in
    let there : slice_get (keys_in words) index ≡ Some key = map_get (λ w. w.key) words index ∙ ap (option_map (λ w. w.key)) at in
    inr (row.ticket, index, inv.follows.words index key there)

pub returns-then-number-eq-UNSET-clause-goes_on : goal.returns-then-number-eq-UNSET-clause-goes_on
returns-then-number-eq-UNSET-clause-goes_on g c =
    let eq = g.K.PartialEq.eq in
    let hash = hash_in g.S.BuildHasher g.S.Hasher.Hasher g.K.Hash.hash_input in
    let place = place_in g.S.BuildHasher g.S.Hasher.Hasher g.K.Hash.hash_input in
    let equals = divided g.S.BuildHasher g.S.Hasher.Hasher g.K.Hash.hash_input eq g.met.K.Eq.laws g.met.K.Hash.respects_eq in
    let t = c.args.self.now in
    let row = c.args.row.now in
    let words = row.words.items in
    let inv = c.loop-index.invariant in
    let mid = c.loop-index.front.log in
    let new = c.look-number.new.front.log in
    let index = c.loop-index.index in
    let less = c.loop-index-test.true in
    let count = c.len-count.ensures in
    let at = slice_get_read words (length words) index c.index.result.now refl (omega (arith, less, count)) c.index.ensures in
    let key = c.index.result.now.key in
    let there : slice_get (keys_in words) index ≡ Some key = map_get (λ w. w.key) words index ∙ ap (option_map (λ w. w.key)) at in
    goes_through eq hash place t c.args.front.now.log mid new inv.goes_on
    (loaded_on eq hash place equals t c.args.segment c.requires.segment mid new inv.goes_on.is_log row.ticket (keys_in words) inv.follows index key there c.look-number.result c.look-number.ensures.sees)

pub returns-then-number-eq-UNSET-clause-follows : goal.returns-then-number-eq-UNSET-clause-follows
returns-then-number-eq-UNSET-clause-follows g c =
    let eq = g.K.PartialEq.eq in
    let hash = hash_in g.S.BuildHasher g.S.Hasher.Hasher g.K.Hash.hash_input in
    let place = place_in g.S.BuildHasher g.S.Hasher.Hasher g.K.Hash.hash_input in
    let equals = divided g.S.BuildHasher g.S.Hasher.Hasher g.K.Hash.hash_input eq g.met.K.Eq.laws g.met.K.Hash.respects_eq in
    let t = c.args.self.now in
    let row = c.args.row.now in
    let words = row.words.items in
    let inv = c.loop-index.invariant in
    let mid = c.loop-index.front.log in
    let new = c.look-number.new.front.log in
    let index = c.loop-index.index in
    let less = c.loop-index-test.true in
    let count = c.len-count.ensures in
    let at = slice_get_read words (length words) index c.index.result.now refl (omega (arith, less, count)) c.index.ensures in
    let key = c.index.result.now.key in
    let there : slice_get (keys_in words) index ≡ Some key = map_get (λ w. w.key) words index ∙ ap (option_map (λ w. w.key)) at in
    let goes = loaded_on eq hash place equals t c.args.segment c.requires.segment mid new inv.goes_on.is_log row.ticket (keys_in words) inv.follows index key there
    c.look-number.result c.look-number.ensures.sees in
    follows_lasts eq hash place equals t c.args.segment c.requires.segment mid new inv.goes_on.is_log goes.is_log goes.begins row.ticket (keys_in words) inv.follows

pub returns-then-number-eq-UNSET-clause-unset : goal.returns-then-number-eq-UNSET-clause-unset
returns-then-number-eq-UNSET-clause-unset g c =
    let eq = g.K.PartialEq.eq in
    let hash = hash_in g.S.BuildHasher g.S.Hasher.Hasher g.K.Hash.hash_input in
    let place = place_in g.S.BuildHasher g.S.Hasher.Hasher g.K.Hash.hash_input in
    let equals = divided g.S.BuildHasher g.S.Hasher.Hasher g.K.Hash.hash_input eq g.met.K.Eq.laws g.met.K.Hash.respects_eq in
    let t = c.args.self.now in
    let row = c.args.row.now in
    let words = row.words.items in
    let inv = c.loop-index.invariant in
    let mid = c.loop-index.front.log in
    let new = c.look-number.new.front.log in
    let index = c.loop-index.index in
    let less = c.loop-index-test.true in
    let count = c.len-count.ensures in
    let at = slice_get_read words (length words) index c.index.result.now refl (omega (arith, less, count)) c.index.ensures in
    let key = c.index.result.now.key in
    let there : slice_get (keys_in words) index ≡ Some key = map_get (λ w. w.key) words index ∙ ap (option_map (λ w. w.key)) at in
    loaded_unset eq hash place equals t c.args.segment c.requires.segment mid new inv.goes_on.is_log row.ticket (keys_in words) inv.follows index key there
    c.look-number.result c.look-number.ensures.sees c.if-number-eq-UNSET.true

pub loop-index-preserved : goal.loop-index-preserved
loop-index-preserved g c =
    let eq = g.K.PartialEq.eq in
    let hash = hash_in g.S.BuildHasher g.S.Hasher.Hasher g.K.Hash.hash_input in
    let place = place_in g.S.BuildHasher g.S.Hasher.Hasher g.K.Hash.hash_input in
    let equals = divided g.S.BuildHasher g.S.Hasher.Hasher g.K.Hash.hash_input eq g.met.K.Eq.laws g.met.K.Hash.respects_eq in
    let t = c.args.self.now in
    let row = c.args.row.now in
    let words = row.words.items in
    let inv = c.loop-index.invariant in
    let mid = c.loop-index.front.log in
    let new = c.look-number.new.front.log in
    let index = c.loop-index.index in
    let less = c.loop-index-test.true in
    let count = c.len-count.ensures in
    let at = slice_get_read words (length words) index c.index.result.now refl (omega (arith, less, count)) c.index.ensures in
    let key = c.index.result.now.key in
    let there : slice_get (keys_in words) index ≡ Some key = map_get (λ w. w.key) words index ∙ ap (option_map (λ w. w.key)) at in
    let goes = loaded_on eq hash place equals t c.args.segment c.requires.segment mid new inv.goes_on.is_log row.ticket (keys_in words) inv.follows index key there
    c.look-number.result c.look-number.ensures.sees in
    record {
      low = omega (arith, less, count);
      book = c.look-number.ensures.book ∙ inv.book;
      goes_on = goes_through eq hash place t c.args.front.now.log mid new inv.goes_on goes;
      follows = follows_lasts eq hash place equals t c.args.segment c.requires.segment mid new inv.goes_on.is_log goes.is_log goes.begins row.ticket (keys_in words) inv.follows;
      set = loaded_set eq hash place equals t c.args.segment c.requires.segment mid new inv.goes_on.is_log row.ticket (keys_in words) inv.follows index key there
          c.look-number.result c.look-number.ensures.sees c.if-number-eq-UNSET.false inv.set;
    }

pub returns-clause-set : goal.returns-clause-set
returns-clause-set g c =
    let most = c.loop-index.invariant.low in
    let least = c.loop-index-test.false in
    let count = c.len-count.ensures in
    let all : c.loop-index.index ≡ length c.args.row.now.words.items = omega (arith, most, least, count) in
    subst (λ n. AreSet c.args.row.now.ticket n c.loop-index.front.log) all c.loop-index.invariant.set
