use Rattle.std.proofs.Common.{rules, [], ◌∷◌, ◌∙◌, ap, arith, inr, length, length-append, refl, subst, sym}
use Rattle.std.specs.List.{slice_get}
use Rattle.moka_history.proofs.Lists.{no_item, prefix_self}
use Rattle.moka_shared.specs.Hashing.{hash_in, place_in}
use Rattle.moka_shared.specs.Rows.{AreRow, IsBehind, IsOfRow}
use Rattle.moka_shared.proofs.Loading.{goes_through, opened_some}
use Rattle.moka_shared.proofs.Rowing.{behind_grows, goes_by, no_row, row_grows, still_planned}
use Rattle.moka_shared.proofs.table.HashMap.filled.Goals as goal

pub loop-made-init : goal.loop-made-init
loop-made-init g c =
    let t = c.args.self.now in
    let old = c.args.front.now.log in
    record {
      few = omega arith;
      room = search rules;
      book = refl;
      goes_on = record { begins = prefix_self old; is_log = c.requires.log };
      planned = c.requires.planned;
      row = no_row t.book c.args.ticket c.args.words.items old c.requires.none;
      behind = record {
        one = c.requires.behind;
        apart = λ i w at. absurd (no_item (sym (ap (λ ws. slice_get ws i) c.requires.none) ∙ at));
      };
      count = ap (λ ws. length ws) c.requires.none;
    }

pub make_word-word-requires-clause-book : goal.make_word-word-requires-clause-book
make_word-word-requires-clause-book g c =
    let inv = c.loop-made.invariant in
    let named = inv.behind.one.named in
    (ap (λ w. w.tracked) named, ap (λ w. w.book) named ∙ sym (inv.book ∙ c.requires.book))

pub make_word-word-requires-clause-home : goal.make_word-word-requires-clause-home
make_word-word-requires-clause-home g c = inr (c.args.ticket, c.loop-made.invariant.behind.one.home)

pub loop-made-preserved : goal.loop-made-preserved
loop-made-preserved g c =
    let eq = g.K.PartialEq.eq in
    let hash = hash_in g.S.BuildHasher g.S.Hasher.Hasher g.K.Hash.hash_input in
    let place = place_in g.S.BuildHasher g.S.Hasher.Hasher g.K.Hash.hash_input in
    let t = c.args.self.now in
    let inv = c.loop-made.invariant in
    let old = c.args.front.now.log in
    let mid = c.loop-made.front.log in
    let made = c.make_word-word in
    let new = made.new.front.log in
    let some = opened_some t.segments t.size t.hasher mid inv.goes_on.is_log.opened in
    let is = subst (λ b. IsOfRow b c.args.ticket made.result new) (made.ensures.book ∙ (inv.book ∙ c.requires.book)) made.ensures.word in
    let items = c.push_reserved.ensures.items in
    let long = length-append c.loop-made.words.items (made.result ∷ []) in
    let all = ap (λ ws. length ws) items in
    let count = inv.count in
    record {
      few = search rules;
      room = search rules;
      book = made.ensures.book ∙ inv.book;
      goes_on = goes_through eq hash place t old mid new inv.goes_on
          (goes_by eq hash place t mid new inv.goes_on.is_log made.ensures.begins made.ensures.kept);
      planned = still_planned eq hash place mid new some made.ensures.begins made.ensures.kept c.args.ticket inv.planned;
      row = subst (λ ws. AreRow t.book c.args.ticket ws new) (sym items)
          (row_grows eq hash place mid new some made.ensures.begins made.ensures.kept t.book c.args.ticket c.loop-made.words.items made.result inv.row is made.ensures.other);
      behind = subst (λ ws. IsBehind t.book c.args.ticket ws c.args.behind.now new) (sym items)
          (behind_grows eq hash place mid new some made.ensures.begins made.ensures.kept t.book c.args.ticket c.loop-made.words.items c.args.behind.now made.result
          inv.behind made.ensures.other);
      count = omega (arith, all, long, count);
    }
