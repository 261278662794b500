use Rattle.std.proofs.Common.{◌≡◌, ◌∙◌, ◌+◌, ◌<◌, ◌≤◌, ap, arith, length, refl, subst, suc, sym}
use Rattle.moka_words.specs.Words.{is_sealed, stored_in}
use Rattle.moka_shelf.specs.Looks.{hiding}
use Rattle.moka_history.proofs.Lists.{prefix_self}
use Rattle.moka_shared.specs.Meeting.{Hides}
use Rattle.moka_shared.specs.Fills.{AreFew, HasKept}
use Rattle.moka_shared.specs.Hashing.{hash_in, place_in}
use Rattle.moka_shared.specs.Links.{keys_in}
use Rattle.moka_shared.specs.Tables.{IsTable}
use Rattle.moka_shared.proofs.Courses.{power_some}
use Rattle.moka_shared.proofs.Divided.{divided}
use Rattle.moka_shared.proofs.Laid.{stored_has}
use Rattle.moka_shared.proofs.Loading.{goes_through, opened_some}
use Rattle.moka_shared.proofs.Swung.{first_sealed, follows_lasts}
use Rattle.moka_shared.proofs.Walking.{begins_kept, keeps_word, no_few}
use Rattle.moka_shared.proofs.table.HashMap.keep_nodes.Goals as goal

pub loop-index-init : goal.loop-index-init
loop-index-init g c =
    let eq = g.K.PartialEq.eq in
    let hash = hash_in g.S.BuildHasher g.S.Hasher.Hasher g.K.Hash.hash_input in
    let place = place_in g.S.BuildHasher g.S.Hasher.Hasher g.K.Hash.hash_input in
    let equals = divided g.S.BuildHasher g.S.Hasher.Hasher g.K.Hash.hash_input eq g.met.K.Eq.laws g.met.K.Hash.respects_eq in
    let t = c.args.self.now in
    let old = c.args.front.now.log in
    let well = subst (λ s. IsTable s c.self.inside.start.log c.self.inside.door c.self.inside.buckets.items c.self.inside.nexts.items c.self.inside.roots.items (g.L.Shelf.owner c.self.inside.shelf)) c.self.view_is c.self.invariant in
    let none = c.requires.none in
    record {
      low = omega arith;
      room = c.requires.room;
      count = subst (λ ks. length ks ≤ 0) (sym none) (omega arith);
      book = refl;
      goes_on = record { begins = prefix_self old; is_log = c.requires.log };
      follows = c.requires.follows;
      hidden = refl;
      few = subst AreFew (sym none) no_few;
      has = subst (λ ks. HasKept eq hash place t c.args.segment 0 ks old) (sym none)
          (begins_kept eq hash place equals t c.args.segment c.requires.segment old c.requires.log (power_some t.size well.power));
    }

pub keep-requires-clause-named : goal.keep-requires-clause-named
keep-requires-clause-named g c = λ n stored.
    let eq = g.K.PartialEq.eq in
    let hash = hash_in g.S.BuildHasher g.S.Hasher.Hasher g.K.Hash.hash_input in
    let place = place_in g.S.BuildHasher g.S.Hasher.Hasher g.K.Hash.hash_input in
    let equals = divided g.S.BuildHasher g.S.Hasher.Hasher g.K.Hash.hash_input eq g.met.K.Eq.laws g.met.K.Hash.respects_eq in
    let t = c.args.self.now in
    let row = c.args.row.now in
    let words = row.words.items in
    let inv = c.loop-index.invariant in
    let mid = c.loop-index.front.log in
    let new = c.load-word.new.front.log in
    let loads = c.load-word.ensures.loads in
    let index = c.loop-index.index in
    let word = c.load-word.result in
    let inside = subst (λ s. index < s.size) c.self.view_is c.loop-index-test.true in
    let follows = follows_lasts eq hash place equals t c.args.segment c.requires.segment mid new inv.goes_on.is_log loads.goes_on.is_log loads.goes_on.begins row.ticket (keys_in words) inv.follows in
    stored_has eq hash place equals t c.args.segment c.requires.segment new loads.goes_on.is_log index word loads.there n stored

pub keep-requires-clause-some : goal.keep-requires-clause-some
keep-requires-clause-some g c =
    let t = c.args.self.now in
    opened_some t.segments t.size t.hasher c.load-word.new.front.log c.load-word.ensures.loads.goes_on.is_log.opened

pub keep-requires-clause-room : goal.keep-requires-clause-room
keep-requires-clause-room g c =
    let inv = c.loop-index.invariant in
    let room = inv.room in
    let count = inv.count in
    let inside = subst (λ s. c.loop-index.index < s.size) c.self.view_is c.loop-index-test.true in
    omega (arith, room, count, inside)

pub returns-in-Err-clause-goes_on : goal.returns-in-Err-clause-goes_on
returns-in-Err-clause-goes_on g c =
    let eq = g.K.PartialEq.eq in
    let hash = hash_in g.S.BuildHasher g.S.Hasher.Hasher g.K.Hash.hash_input in
    let place = place_in g.S.BuildHasher g.S.Hasher.Hasher g.K.Hash.hash_input in
    goes_through eq hash place c.args.self.now c.args.front.now.log c.loop-index.front.log c.load-word.new.front.log c.loop-index.invariant.goes_on c.load-word.ensures.loads.goes_on

pub returns-in-Err-clause-follows : goal.returns-in-Err-clause-follows
returns-in-Err-clause-follows g c =
    let eq = g.K.PartialEq.eq in
    let hash = hash_in g.S.BuildHasher g.S.Hasher.Hasher g.K.Hash.hash_input in
    let place = place_in g.S.BuildHasher g.S.Hasher.Hasher g.K.Hash.hash_input in
    let equals = divided g.S.BuildHasher g.S.Hasher.Hasher g.K.Hash.hash_input eq g.met.K.Eq.laws g.met.K.Hash.respects_eq in
    let t = c.args.self.now in
    let row = c.args.row.now in
    let words = row.words.items in
    let inv = c.loop-index.invariant in
    let mid = c.loop-index.front.log in
    let new = c.load-word.new.front.log in
    let loads = c.load-word.ensures.loads in
    let index = c.loop-index.index in
    let word = c.load-word.result in
    let inside = subst (λ s. index < s.size) c.self.view_is c.loop-index-test.true in
    let follows = follows_lasts eq hash place equals t c.args.segment c.requires.segment mid new inv.goes_on.is_log loads.goes_on.is_log loads.goes_on.begins row.ticket (keys_in words) inv.follows in
    follows

pub returns-in-Err-clause-hidden : goal.returns-in-Err-clause-hidden
returns-in-Err-clause-hidden g c =
    let hides = c.in-Err.ensures.hidden in
    let same = c.loop-index.invariant.hidden in
    record {
      index = c.loop-index.index;
      stored = ap stored_in c.load-word.ensures.loads.there ∙ hides.0;
      hides = subst (λ old. Hides c.in-Err.number old (hiding g.L.Shelf.hidden g.L.Shelf.last c.keep.new.hidden)) same hides.1;
    }

pub loop-index-preserved : goal.loop-index-preserved
loop-index-preserved g c =
    let eq = g.K.PartialEq.eq in
    let hash = hash_in g.S.BuildHasher g.S.Hasher.Hasher g.K.Hash.hash_input in
    let place = place_in g.S.BuildHasher g.S.Hasher.Hasher g.K.Hash.hash_input in
    let equals = divided g.S.BuildHasher g.S.Hasher.Hasher g.K.Hash.hash_input eq g.met.K.Eq.laws g.met.K.Hash.respects_eq in
    let t = c.args.self.now in
    let row = c.args.row.now in
    let words = row.words.items in
    let inv = c.loop-index.invariant in
    let mid = c.loop-index.front.log in
    let new = c.load-word.new.front.log in
    let loads = c.load-word.ensures.loads in
    let index = c.loop-index.index in
    let word = c.load-word.result in
    let inside = subst (λ s. index < s.size) c.self.view_is c.loop-index-test.true in
    let follows = follows_lasts eq hash place equals t c.args.segment c.requires.segment mid new inv.goes_on.is_log loads.goes_on.is_log loads.goes_on.begins row.ticket (keys_in words) inv.follows in
    let keeps = c.in-Ok.ensures.keeps in
    let all = c.keep.new.kept.items in
    let next : suc index ≡ index + 1 = omega arith in
    let is = first_sealed eq hash place equals t c.args.segment c.requires.segment new loads.goes_on.is_log row.ticket (keys_in words) follows index inside in
    let then = keeps_word eq hash place equals t c.args.segment c.requires.segment mid new inv.goes_on.is_log loads.goes_on.is_log loads.goes_on.begins index inside
    c.loop-index.kept.items inv.has word loads.there (sym (ap is_sealed loads.there) ∙ is) all keeps loads.small inv.few in
    let longer = then.2 in
    let count = inv.count in
    record {
      low = omega (arith, inside);
      room = subst (λ n. t.size ≤ n) (sym c.keep.ensures.room) inv.room;
      count = omega (arith, count, longer);
      book = c.load-word.ensures.book ∙ inv.book;
      goes_on = goes_through eq hash place t c.args.front.now.log mid new inv.goes_on loads.goes_on;
      follows = follows;
      hidden = c.in-Ok.ensures.shown ∙ inv.hidden;
      few = then.1;
      has = subst (λ n. HasKept eq hash place t c.args.segment n all new) next then.0;
    }
