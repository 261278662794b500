use Rattle.std.proofs.Common.{◌≡◌, ◌∙◌, Some, length, subst, suc, sym}
use Rattle.moka_growth.specs.Growing.{next_size}
use Rattle.moka_history.proofs.Lists.{map_length, prefix_self}
use Rattle.moka_shared.specs.Hashing.{hash_in, place_in}
use Rattle.moka_shared.proofs.Divided.{divided}
use Rattle.moka_shared.proofs.Walking.{walked_wants}
use Rattle.moka_shared.proofs.table.HashMap.link_after.Goals as goal

pub link_row-requires-clause-wanted : goal.link_row-requires-clause-wanted
link_row-requires-clause-wanted g c =
    let eq = g.K.PartialEq.eq in
    let hash = hash_in g.S.BuildHasher g.S.Hasher.Hasher g.K.Hash.hash_input in
    let place = place_in g.S.BuildHasher g.S.Hasher.Hasher g.K.Hash.hash_input in
    let equals = divided g.S.BuildHasher g.S.Hasher.Hasher g.K.Hash.hash_input eq g.met.K.Eq.laws g.met.K.Hash.respects_eq in
    let t = c.args.self.now in
    let words = c.args.row.now.words in
    let size_is = subst (λ s. c.next_size-size.result ≡ next_size (Some (suc c.args.segment)) s.size c.args.stored) c.self.view_is
    (c.next_size-size.ensures (suc c.args.segment)) in
    walked_wants eq hash place equals t c.args.segment c.requires.segment c.args.front.now.log c.args.stored (length words.items) c.requires.sealed
    (sym words.ok.0 ∙ (sym c.len.ensures ∙ (c.if-len-size.false ∙ size_is)))

pub returns-then-len-size-clause-links : goal.returns-then-len-size-clause-links
returns-then-len-size-clause-links g c =
    let words = c.args.row.now.words in
    let size_is = subst (λ s. c.next_size-size.result ≡ next_size (Some (suc c.args.segment)) s.size c.args.stored) c.self.view_is
    (c.next_size-size.ensures (suc c.args.segment)) in (
      λ same. c.if-len-size.true (c.len.ensures ∙ (words.ok.0 ∙ (sym (map_length (λ w. w.key) words.items) ∙ same))),
      (c.args.stored, c.requires.sealed, size_is),
    )

pub returns-then-len-size-clause-goes_on : goal.returns-then-len-size-clause-goes_on
returns-then-len-size-clause-goes_on g c = record { begins = prefix_self c.args.front.now.log; is_log = c.requires.log }
