use Rattle.std.proofs.Common.{◌≡◌, ◌∙◌, ◌<◌, arith, length, refl, subst, sym}
use Rattle.std.proofs.lemmas.Option.{slice_get_read}
use Rattle.moka_words.specs.declared.words.Word.TheVariants.{Unset}
use Rattle.moka_words.specs.Words.{word_at}
use Rattle.moka_history.proofs.Lists.{get_or, map_length, prefix_self}
use Rattle.moka_shared.specs.Hashing.{hash_in, place_in}
use Rattle.moka_shared.specs.Links.{keys_in}
use Rattle.moka_shared.specs.Swings.{AreSet}
use Rattle.moka_shared.proofs.Divided.{divided}
use Rattle.moka_shared.proofs.Laid.{copied_more, copy_wants, laid_lasts, laid_small}
use Rattle.moka_shared.proofs.Loading.{goes_through, opened_some}
use Rattle.moka_shared.proofs.Rowing.{row_lasts}
use Rattle.moka_shared.proofs.Swung.{follows_lasts}
use Rattle.moka_shared.proofs.table.HashMap.copy_all.Goals as goal

pub loop-index-init : goal.loop-index-init
loop-index-init g c = record {
  low = omega arith;
  book = refl;
  goes_on = record { begins = prefix_self c.args.front.now.log; is_log = c.requires.log };
  row = c.requires.row;
  follows = c.requires.follows;
  laid = c.requires.laid;
  set = λ i inside. absurd (omega (arith, inside));
}

pub index-requires : goal.index-requires
index-requires g c =
    let less = c.loop-index-test.true in let count = c.len-count.ensures in let long = c.requires.long in let ok = c.args.laid.now.ok.0 in
    omega (arith, less, count, long, ok)

pub copy_at-requires-clause-index : goal.copy_at-requires-clause-index
copy_at-requires-clause-index g c = let less = c.loop-index-test.true in let count = c.len-count.ensures in omega (arith, less, count)

pub copy_at-requires-clause-small : goal.copy_at-requires-clause-small
copy_at-requires-clause-small g c =
    let t = c.args.self.now in
    let row = c.args.row.now in
    let words = row.words.items in
    let laid = c.args.laid.now.items in
    let inv = c.loop-index.invariant in
    let mid = c.loop-index.front.log in
    let index = c.loop-index.index in
    let less = c.loop-index-test.true in
    let count = c.len-count.ensures in
    let long = c.requires.long in
    let inside : index < length words = omega (arith, less, count) in
    let at = slice_get_read laid (length laid) index c.index.result.now refl (omega (arith, inside, long)) c.index.ensures in
    let to_is : word_at laid index ≡ c.index.result.now = get_or laid index c.index.result.now Unset at in
    laid_small inv.laid.kept (length words) laid inv.laid.few inv.laid.laid_is index c.index.result.now to_is

pub copy_at-requires-clause-wanted : goal.copy_at-requires-clause-wanted
copy_at-requires-clause-wanted g c =
    let eq = g.K.PartialEq.eq in
    let hash = hash_in g.S.BuildHasher g.S.Hasher.Hasher g.K.Hash.hash_input in
    let place = place_in g.S.BuildHasher g.S.Hasher.Hasher g.K.Hash.hash_input in
    let equals = divided g.S.BuildHasher g.S.Hasher.Hasher g.K.Hash.hash_input eq g.met.K.Eq.laws g.met.K.Hash.respects_eq in
    let t = c.args.self.now in
    let row = c.args.row.now in
    let words = row.words.items in
    let laid = c.args.laid.now.items in
    let inv = c.loop-index.invariant in
    let mid = c.loop-index.front.log in
    let index = c.loop-index.index in
    let less = c.loop-index-test.true in
    let count = c.len-count.ensures in
    let long = c.requires.long in
    let inside : index < length words = omega (arith, less, count) in
    let at = slice_get_read laid (length laid) index c.index.result.now refl (omega (arith, inside, long)) c.index.ensures in
    let to_is : word_at laid index ≡ c.index.result.now = get_or laid index c.index.result.now Unset at in
    copy_wants eq hash place equals t c.args.segment c.requires.segment mid inv.goes_on.is_log row.ticket (keys_in words) inv.follows laid (length words)
    (sym (map_length (λ w. w.key) words)) inv.laid index inside inv.set c.index.result.now (sym to_is)

pub loop-index-preserved : goal.loop-index-preserved
loop-index-preserved g c =
    let eq = g.K.PartialEq.eq in
    let hash = hash_in g.S.BuildHasher g.S.Hasher.Hasher g.K.Hash.hash_input in
    let place = place_in g.S.BuildHasher g.S.Hasher.Hasher g.K.Hash.hash_input in
    let equals = divided g.S.BuildHasher g.S.Hasher.Hasher g.K.Hash.hash_input eq g.met.K.Eq.laws g.met.K.Hash.respects_eq in
    let t = c.args.self.now in
    let row = c.args.row.now in
    let words = row.words.items in
    let laid = c.args.laid.now.items in
    let inv = c.loop-index.invariant in
    let mid = c.loop-index.front.log in
    let index = c.loop-index.index in
    let less = c.loop-index-test.true in
    let count = c.len-count.ensures in
    let long = c.requires.long in
    let inside : index < length words = omega (arith, less, count) in
    let new = c.copy_at.new.front.log in
    let goes = c.copy_at.ensures.goes_on in
    record {
      low = omega (arith, less, count);
      book = c.copy_at.ensures.book ∙ inv.book;
      goes_on = goes_through eq hash place t c.args.front.now.log mid new inv.goes_on goes;
      row = row_lasts eq hash place mid new (opened_some t.segments t.size t.hasher mid inv.goes_on.is_log.opened) goes.begins goes.is_log.kept t.book row.ticket words inv.row;
      follows = follows_lasts eq hash place equals t c.args.segment c.requires.segment mid new inv.goes_on.is_log goes.is_log goes.begins row.ticket (keys_in words) inv.follows;
      laid = laid_lasts eq hash place equals t c.args.segment c.requires.segment mid new inv.goes_on.is_log goes.is_log goes.begins (length words) laid inv.laid;
      set = copied_more eq hash place equals t c.args.segment c.requires.segment mid new inv.goes_on.is_log goes.is_log goes.begins row.ticket (keys_in words) inv.follows
          index inv.set c.copy_at.ensures.copies.is;
    }

pub returns-clause-set : goal.returns-clause-set
returns-clause-set g c =
    let most = c.loop-index.invariant.low in
    let least = c.loop-index-test.false in
    let count = c.len-count.ensures in
    let all : c.loop-index.index ≡ length c.args.row.now.words.items = omega (arith, most, least, count) in
    subst (λ n. AreSet c.args.row.now.ticket n c.loop-index.front.log) all c.loop-index.invariant.set
