use Rattle.std.proofs.Common.{◌≡◌, ◌∙◌, length, refl, subst, sym}
use Rattle.moka_growth.specs.Growing.{laid_out}
use Rattle.moka_history.proofs.Lists.{map_length, prefix_self}
use Rattle.moka_shared.specs.Fills.{FillsSo}
use Rattle.moka_shared.specs.Hashing.{hash_in, place_in}
use Rattle.moka_shared.specs.Links.{keys_in}
use Rattle.moka_shared.proofs.Divided.{divided}
use Rattle.moka_shared.proofs.Laid.{length_power}
use Rattle.moka_shared.proofs.table.HashMap.copy_kept.Goals as goal

pub laid-requires : goal.laid-requires
laid-requires g c =
    let eq = g.K.PartialEq.eq in
    let hash = hash_in g.S.BuildHasher g.S.Hasher.Hasher g.K.Hash.hash_input in
    let place = place_in g.S.BuildHasher g.S.Hasher.Hasher g.K.Hash.hash_input in
    let equals = divided g.S.BuildHasher g.S.Hasher.Hasher g.K.Hash.hash_input eq g.met.K.Eq.laws g.met.K.Hash.respects_eq in
    let words = c.args.row.now.words.items in
    record {
      power = length_power eq hash place equals c.args.self.now c.args.segment c.requires.segment c.args.front.now.log c.requires.log c.args.row.now.ticket (keys_in words)
          c.requires.follows c.len-count.result (c.len-count.ensures ∙ sym (map_length (λ w. w.key) words));
    }

pub copy_all-requires-clause-laid : goal.copy_all-requires-clause-laid
copy_all-requires-clause-laid g c = record {
  kept = c.args.kept.now;
  has = c.requires.kept;
  few = c.requires.few;
  laid_is = subst (λ n. c.in-Ok.laid.items ≡ laid_out c.args.kept.now n) c.len-count.ensures c.in-Ok.ensures.laid;
}

pub copy_all-requires-clause-long : goal.copy_all-requires-clause-long
copy_all-requires-clause-long g c = c.in-Ok.ensures.long ∙ c.len-count.ensures

pub returns-in-Ok-clause-fills : goal.returns-in-Ok-clause-fills
returns-in-Ok-clause-fills g c = λ looked.
    let row = c.args.row.now in
    subst (FillsSo c.args.segment c.copy_all.new.front.log looked looked row.ticket (length row.words.items)) (sym c.copy_all.ensures.filled) (c.copy_all.ensures.set, refl)

pub returns-in-Err-clause-goes_on : goal.returns-in-Err-clause-goes_on
returns-in-Err-clause-goes_on g c = record { begins = prefix_self c.args.front.now.log; is_log = c.requires.log }

pub returns-in-Err-clause-fills : goal.returns-in-Err-clause-fills
returns-in-Err-clause-fills g c = λ looked.
    let row = c.args.row.now in
    subst (FillsSo c.args.segment c.args.front.now.log looked looked row.ticket (length row.words.items)) (sym c.in-Err.ensures.memory) refl
