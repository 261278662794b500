use Rattle.std.proofs.Common.{◌≡◌, ◌⊎◌, ◌↔◌, ℕ, ◌<◌, ◌≤◌, true, false, length, IsSome, None, Ok, OnErr, IfOk, ap, max, subst, sym}
use Rattle.std.specs.List.{fold}
use Rattle.moka_buckets.specs.declared.bucket_call.BucketCall.{BucketCall}
use Rattle.moka_buckets.specs.declared.keys_call.KeysCall.{KeysCall}
use Rattle.moka_buckets.specs.Accesses.{MovesOnce, wanted_by}
use Rattle.moka_buckets.specs.Hashing.{hash_in}
use Rattle.moka_buckets.specs.Keys.{CoversIt, FitsKeys, ListsIt, WalksOver, left_keys, nodes_of}
use Rattle.moka_buckets.specs.Parts.{FitsParts, map_over}
use Rattle.moka_buckets.specs.Views.{covers_in, fits_in, fits_keys_in, left_keys_of, listed_of, lists_in, map_in, segment_for, word_of}
use Rattle.moka_buckets.specs.Walks.{carried, node_next}
use Rattle.moka_buckets.proofs.KeyLists.{few_at, listing_at, own_key}
use Rattle.moka_buckets.proofs.Keyed.{keys_bounded}
use Rattle.moka_buckets.proofs.Spread.{bounded}
use Rattle.moka_buckets.proofs.bucket_table.BucketTable.step_keys.Given as given
use Rattle.moka_buckets.proofs.bucket_table.BucketTable.step_keys.Goals as goal

-- hashes by the table's hasher
abbrev H : (g : given.Over) (c : goal.After-walk_parts g) → g.row.K.Denot → ℕ
H g c = hash_in g.S.BuildHasher g.S.Hasher.Hasher g.K.Hash.hash_input c.self.inside.hasher

-- the step of the segments
over : (g : given.Over) (c : goal.After-walk_parts g) → WalksOver g.K.PartialEq.eq (H g c) (max 128 c.self.inside.first) c.self.inside.parts.items
    (max c.self.inside.peak c.self.inside.len) c.self.inside.len c.args.call.now c.walk_parts.result c.walk_parts.new.parts.items c.walk_parts.new.call
over g c = c.walk_parts.ensures.over (H g c) (max 128 c.self.inside.first) (max c.self.inside.peak c.self.inside.len) c.self.inside.len (record {
  respects = λ x y e. ap (λ w. g.S.Hasher.Hasher.finish (fold g.S.Hasher.Hasher.write (g.S.BuildHasher.build_hasher c.self.inside.hasher) w)) (g.met.K.Hash.respects_eq x y e);
  well = c.self.invariant;
  fits = subst (λ o. fits_keys_in g.S.BuildHasher g.S.Hasher.Hasher g.K.PartialEq.eq g.K.Hash.hash_input o c.args.call.now) (sym c.self.view_is) c.requires.fits;
  going = c.requires.going;
})

pub walk_parts-requires : goal.walk_parts-requires
walk_parts-requires g c = record {
  can = (
    hash_in g.S.BuildHasher g.S.Hasher.Hasher g.K.Hash.hash_input c.self.inside.hasher,
    max 128 c.self.inside.first,
    max c.self.inside.peak c.self.inside.len,
    c.self.inside.len,
    record {
      respects = λ x y e. ap (λ w. g.S.Hasher.Hasher.finish (fold g.S.Hasher.Hasher.write (g.S.BuildHasher.build_hasher c.self.inside.hasher) w)) (g.met.K.Hash.respects_eq x y e);
      well = c.self.invariant;
      fits = subst (λ o. fits_keys_in g.S.BuildHasher g.S.Hasher.Hasher g.K.PartialEq.eq g.K.Hash.hash_input o c.args.call.now) (sym c.self.view_is) c.requires.fits;
      going = c.requires.going;
    },
  );
}

pub invariant_of-self : goal.invariant_of-self
invariant_of-self g c = (over g c).well

pub returns-clause-map : goal.returns-clause-map
returns-clause-map g c = λ q. subst (λ o. map_over g.K.PartialEq.eq (H g c) c.walk_parts.new.parts.items q
    ≡ map_in g.S.BuildHasher g.S.Hasher.Hasher g.K.PartialEq.eq g.K.Hash.hash_input o q) c.self.view_is ((over g c).map q)

pub returns-clause-segments : goal.returns-clause-segments
returns-clause-segments g c = subst (λ o. length c.walk_parts.new.parts.items ≡ length o.parts) c.self.view_is (over g c).long

pub returns-clause-absent : goal.returns-clause-absent
returns-clause-absent g c = subst (λ o. length o.parts ≤ c.args.call.now.segment → c.walk_parts.result ≡ Ok true) c.self.view_is (over g c).absent

pub returns-clause-segment : goal.returns-clause-segment
returns-clause-segment g c = (over g c).segment

pub returns-clause-fits : goal.returns-clause-fits
returns-clause-fits g c = (over g c).fits

pub returns-clause-ended : goal.returns-clause-ended
returns-clause-ended g c = (over g c).ended

pub returns-clause-nears : goal.returns-clause-nears
returns-clause-nears g c = subst (λ o. IfOk c.walk_parts.result (λ done. done ≡ false → left_keys (max 128 c.self.inside.first) c.walk_parts.new.parts.items c.walk_parts.new.call
    < left_keys_of o c.args.call.now)) c.self.view_is (over g c).nears

pub returns-clause-lists : goal.returns-clause-lists
returns-clause-lists g c = subst (λ o. IfOk c.walk_parts.result (λ done. (key : g.row.K.Denot) → ListsIt c.walk_parts.new.parts.items c.walk_parts.new.call key →
    lists_in o c.args.call.now key ⊎ IsSome (map_in g.S.BuildHasher g.S.Hasher.Hasher g.K.PartialEq.eq g.K.Hash.hash_input o key))) c.self.view_is (over g c).lists

pub returns-clause-covers : goal.returns-clause-covers
returns-clause-covers g c = subst (λ o. IfOk c.walk_parts.result (λ done. (key : g.row.K.Denot) →
    segment_for g.S.BuildHasher g.S.Hasher.Hasher g.K.PartialEq.eq g.K.Hash.hash_input o key ≡ c.args.call.now.segment →
    IsSome (map_in g.S.BuildHasher g.S.Hasher.Hasher g.K.PartialEq.eq g.K.Hash.hash_input o key) → covers_in g.K.PartialEq.eq o c.args.call.now key →
    CoversIt g.K.PartialEq.eq c.walk_parts.new.parts.items c.walk_parts.new.call key)) c.self.view_is (over g c).covers

pub returns-clause-others : goal.returns-clause-others
returns-clause-others g c = subst (λ o. (other : BucketCall g.row.K.Denot g.row.V.Denot) →
    fits_in g.S.BuildHasher g.S.Hasher.Hasher g.K.PartialEq.eq g.K.Hash.hash_input o other →
    FitsParts g.K.PartialEq.eq (H g c) c.walk_parts.new.parts.items other) c.self.view_is (over g c).others

pub returns-clause-others_left : goal.returns-clause-others_left
returns-clause-others_left g c = λ other f. bounded g.K.PartialEq.eq (H g c) (max 128 c.self.inside.first) c.walk_parts.new.parts.items
    (max c.self.inside.peak c.self.inside.len) c.self.inside.len (over g c).well other (returns-clause-others g c other f)

pub returns-clause-keys : goal.returns-clause-keys
returns-clause-keys g c = subst (λ o. (other : KeysCall) →
    fits_keys_in g.S.BuildHasher g.S.Hasher.Hasher g.K.PartialEq.eq g.K.Hash.hash_input o other →
    FitsKeys g.K.PartialEq.eq (H g c) c.walk_parts.new.parts.items other) c.self.view_is (over g c).keys.fits

pub returns-clause-keys_lists : goal.returns-clause-keys_lists
returns-clause-keys_lists g c = subst (λ o. (other : KeysCall) (key : g.row.K.Denot) →
    fits_keys_in g.S.BuildHasher g.S.Hasher.Hasher g.K.PartialEq.eq g.K.Hash.hash_input o other →
    ListsIt c.walk_parts.new.parts.items other key ↔ lists_in o other key) c.self.view_is (over g c).keys.lists

pub returns-clause-keys_left : goal.returns-clause-keys_left
returns-clause-keys_left g c = λ other f. keys_bounded g.K.PartialEq.eq (H g c) (max 128 c.self.inside.first) c.walk_parts.new.parts.items
    (max c.self.inside.peak c.self.inside.len) c.self.inside.len (over g c).well other (returns-clause-keys g c other f)

pub returns-clause-keys_covers : goal.returns-clause-keys_covers
returns-clause-keys_covers g c = subst (λ o. (other : KeysCall) (key : g.row.K.Denot) →
    fits_keys_in g.S.BuildHasher g.S.Hasher.Hasher g.K.PartialEq.eq g.K.Hash.hash_input o other →
    segment_for g.S.BuildHasher g.S.Hasher.Hasher g.K.PartialEq.eq g.K.Hash.hash_input o key ≡ other.segment →
    IsSome (map_in g.S.BuildHasher g.S.Hasher.Hasher g.K.PartialEq.eq g.K.Hash.hash_input o key) → covers_in g.K.PartialEq.eq o other key →
    CoversIt g.K.PartialEq.eq c.walk_parts.new.parts.items other key) c.self.view_is (over g c).keys.covers

pub returns-clause-err : goal.returns-clause-err
returns-clause-err g c = subst (λ o. OnErr c.walk_parts.result ((c.walk_parts.new.call ≡ c.args.call.now)
    × (left_keys (max 128 c.self.inside.first) c.walk_parts.new.parts.items c.walk_parts.new.call ≡ left_keys_of o c.args.call.now))) c.self.view_is (over g c).err

pub returns-clause-one : goal.returns-clause-one
returns-clause-one g c = subst (λ o. MovesOnce g.K.PartialEq.eq (hash_in g.S.BuildHasher g.S.Hasher.Hasher g.K.Hash.hash_input o.hasher) None
    (wanted_by c.args.call.now.table) c.args.call.now.segment c.walk_parts.result o.parts c.walk_parts.new.parts.items) c.self.view_is
    (c.walk_parts.ensures.one (H g c) (max 128 c.self.inside.first) (max c.self.inside.peak c.self.inside.len) c.self.inside.len (record {
      respects = λ x y e. ap (λ w. g.S.Hasher.Hasher.finish (fold g.S.Hasher.Hasher.write (g.S.BuildHasher.build_hasher c.self.inside.hasher) w)) (g.met.K.Hash.respects_eq x y e);
      well = c.self.invariant;
      fits = subst (λ o. fits_keys_in g.S.BuildHasher g.S.Hasher.Hasher g.K.PartialEq.eq g.K.Hash.hash_input o c.args.call.now) (sym c.self.view_is) c.requires.fits;
      going = c.requires.going;
    }))

pub returns-clause-adds : goal.returns-clause-adds
returns-clause-adds g c = subst (λ o. IfOk c.walk_parts.result (λ done. listed_of c.walk_parts.new.call ≡ carried (listed_of c.args.call.now)
    (word_of o c.args.call.now) (node_next (word_of o c.args.call.now)))) c.self.view_is (over g c).adds

pub returns-clause-nodes : goal.returns-clause-nodes
returns-clause-nodes g c = subst (λ o. (i : ℕ) → nodes_of c.walk_parts.new.parts.items i ≡ nodes_of o.parts i) c.self.view_is (over g c).nodes

pub returns-clause-own : goal.returns-clause-own
returns-clause-own g c = λ key lists. own_key g.K.PartialEq.eq (H g c) (max 128 c.self.inside.first) (max c.self.inside.peak c.self.inside.len) c.self.inside.len
    c.walk_parts.new.parts.items (over g c).well c.walk_parts.new.call (over g c).fits key lists

pub returns-clause-listing : goal.returns-clause-listing
returns-clause-listing g c = listing_at g.K.PartialEq.eq (H g c) (max 128 c.self.inside.first) (max c.self.inside.peak c.self.inside.len) c.self.inside.len
    c.walk_parts.new.parts.items (over g c).well c.walk_parts.new.call (over g c).fits c.walk_parts.result (over g c).ended

pub returns-clause-few : goal.returns-clause-few
returns-clause-few g c = few_at g.K.PartialEq.eq (H g c) (max 128 c.self.inside.first) (max c.self.inside.peak c.self.inside.len) c.self.inside.len
    c.walk_parts.new.parts.items (over g c).well c.walk_parts.new.call (over g c).fits c.walk_parts.result (over g c).ended
