use Rattle.std.proofs.Common.{◌∙◌, ap, inl, subst, sym, true}
use Rattle.std.specs.List.{slice_get}
use Rattle.moka_history.specs.Logs.{state_of}
use Rattle.moka_history.specs.declared.note.Note.TheVariants.{CellAdded, CellHome}
use Rattle.moka_history.proofs.Lists.{prefix_through}
use Rattle.moka_shared.specs.Hashing.{hash_in, place_in}
use Rattle.moka_shared.specs.Rows.{Leaves}
use Rattle.moka_shared.specs.Tables.{word_named}
use Rattle.moka_shared.proofs.Rowing.{apart, home_lasts, leaves_begin, some_more}
use Rattle.moka_shared.proofs.rows.make_word.Goals as goal

pub bring_home-requires-clause-some : goal.bring_home-requires-clause-some
bring_home-requires-clause-some g c =
    let eq = g.K.PartialEq.eq in
    let hash = hash_in g.S.BuildHasher g.S.Hasher.Hasher g.K.Hash.hash_input in
    let place = place_in g.S.BuildHasher g.S.Hasher.Hasher g.K.Hash.hash_input in
    let old = c.args.front.now.log in
    let mid = c.add_cell-word.new.front.log in
    let adds = c.add_cell-word.ensures.leaves in
    let at = c.args.at.now.key in
    let begins = leaves_begin eq hash place at adds.0 (CellAdded c.args.ticket) old mid adds.1 in
    let kept = adds.1.writes.kept in
    some_more eq hash place old mid c.requires.some begins kept

pub bring_home-requires-clause-home : goal.bring_home-requires-clause-home
bring_home-requires-clause-home g c =
    let eq = g.K.PartialEq.eq in
    let hash = hash_in g.S.BuildHasher g.S.Hasher.Hasher g.K.Hash.hash_input in
    let place = place_in g.S.BuildHasher g.S.Hasher.Hasher g.K.Hash.hash_input in
    let old = c.args.front.now.log in
    let mid = c.add_cell-word.new.front.log in
    let adds = c.add_cell-word.ensures.leaves in
    let at = c.args.at.now.key in
    let begins = leaves_begin eq hash place at adds.0 (CellAdded c.args.ticket) old mid adds.1 in
    let kept = adds.1.writes.kept in
    home_lasts eq hash place old mid c.requires.some begins kept at c.requires.home

pub returns-clause-begins : goal.returns-clause-begins
returns-clause-begins g c =
    let eq = g.K.PartialEq.eq in
    let hash = hash_in g.S.BuildHasher g.S.Hasher.Hasher g.K.Hash.hash_input in
    let place = place_in g.S.BuildHasher g.S.Hasher.Hasher g.K.Hash.hash_input in
    let old = c.args.front.now.log in
    let mid = c.add_cell-word.new.front.log in
    let new = c.bring_home.new.front.log in
    let adds = c.add_cell-word.ensures.leaves in
    let brings = c.bring_home.ensures.leaves in
    let at = c.args.at.now.key in
    let pen = c.add_cell-word.result.1.nib.key in
    let begins = leaves_begin eq hash place at adds.0 (CellAdded c.args.ticket) old mid adds.1 in
    prefix_through old mid new begins (leaves_begin eq hash place at brings.0 (CellHome c.args.ticket pen) mid new brings.1)

pub returns-clause-kept : goal.returns-clause-kept
returns-clause-kept g c = c.bring_home.ensures.leaves.1.writes.kept

pub returns-clause-word : goal.returns-clause-word
returns-clause-word g c =
    let new = c.bring_home.new.front.log in
    let pen = c.add_cell-word.result.1.nib.key in
    let key_is = ap (λ x. x.key) c.add_cell-word.ensures.word in
    record {
      named = c.add_cell-word.ensures.word ∙ (ap (λ b. word_named b pen) (sym c.bring_home.ensures.book) ∙ ap (λ k. word_named c.bring_home.new.front.book k) (sym key_is));
      home = inl (true, ap (slice_get (state_of new).cells) key_is ∙ c.bring_home.ensures.home, λ h. h);
    }

pub returns-clause-other : goal.returns-clause-other
returns-clause-other g c = λ k n at_home same.
    let eq = g.K.PartialEq.eq in
    let hash = hash_in g.S.BuildHasher g.S.Hasher.Hasher g.K.Hash.hash_input in
    let place = place_in g.S.BuildHasher g.S.Hasher.Hasher g.K.Hash.hash_input in
    let old = c.args.front.now.log in
    let mid = c.add_cell-word.new.front.log in
    let adds = c.add_cell-word.ensures.leaves in
    let at = c.args.at.now.key in
    let pen = c.add_cell-word.result.1.nib.key in
    let begins = leaves_begin eq hash place at adds.0 (CellAdded c.args.ticket) old mid adds.1 in
    let kept = adds.1.writes.kept in
    let key_is = ap (λ x. x.key) c.add_cell-word.ensures.word in
    apart eq hash place old mid c.requires.some begins kept pen k c.args.ticket n c.add_cell-word.ensures.added.there at_home (same ∙ key_is)

pub returns-clause-makes : goal.returns-clause-makes
returns-clause-makes g c =
    let eq = g.K.PartialEq.eq in
    let hash = hash_in g.S.BuildHasher g.S.Hasher.Hasher g.K.Hash.hash_input in
    let place = place_in g.S.BuildHasher g.S.Hasher.Hasher g.K.Hash.hash_input in
    let mid = c.add_cell-word.new.front.log in
    let new = c.bring_home.new.front.log in
    let adds = c.add_cell-word.ensures.leaves in
    let brings = c.bring_home.ensures.leaves in
    let at = c.args.at.now.key in
    let key_is = ap (λ x. x.key) c.add_cell-word.ensures.word in
    record {
      added = mid;
      found = adds.0;
      left = brings.0;
      adds = adds.1;
      brings = subst (λ k. Leaves eq hash place at brings.0 (CellHome c.args.ticket k) mid new) (sym key_is) brings.1;
    }
