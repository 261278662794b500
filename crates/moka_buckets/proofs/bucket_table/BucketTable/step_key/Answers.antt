use Rattle.std.proofs.Common.{◌≡◌, ◌↔◌, ◌≤◌, IsSome, Some, length, ap, max, refl, subst, sym}
use Rattle.std.specs.List.{fold}
use Rattle.moka_table.specs.Map.{most_steps}
use Rattle.moka_buckets.specs.KeyOps.{key_of}
use Rattle.moka_buckets.specs.declared.bucket_call.BucketCall.{BucketCall}
use Rattle.moka_buckets.specs.Accesses.{MovesOnce, StaysThere, wanted_by}
use Rattle.moka_buckets.proofs.Once.{moves_none, stays_all}
use Rattle.moka_buckets.specs.Hashing.{hash_in}
use Rattle.moka_buckets.specs.Parts.{AreParts, GoesOver, segment_of}
use Rattle.moka_buckets.specs.declared.keys_call.KeysCall.{KeysCall}
use Rattle.moka_buckets.specs.Keys.{CoversIt, FitsKeys, KeepsKeys, ListsIt, left_keys}
use Rattle.moka_buckets.specs.Views.{covers_in, fits_in, fits_keys_in, left_keys_of, left_of, lists_in, first_of, key_for, map_in, peak_of, segment_for, segment_in, want_of}
use Rattle.moka_buckets.proofs.Going.{Does, does}
use Rattle.moka_buckets.proofs.Keyed.{keys_bounded}
use Rattle.moka_buckets.proofs.Spread.{bounded}
use Rattle.moka_buckets.proofs.bucket_table.BucketTable.step_key.Given as given
use Rattle.moka_buckets.proofs.bucket_table.BucketTable.step_key.Goals as goal

pub returns-then-self-clause-others_left : goal.returns-then-self-clause-others_left
returns-then-self-clause-others_left g c = subst (λ o. (other : BucketCall g.row.K.Denot g.row.V.Denot) →
    fits_in g.S.BuildHasher g.S.Hasher.Hasher g.K.PartialEq.eq g.K.Hash.hash_input o other → left_of o other ≤ most_steps (first_of o) (peak_of o)) c.self.view_is
    (λ other f. bounded g.K.PartialEq.eq (hash_in g.S.BuildHasher g.S.Hasher.Hasher g.K.Hash.hash_input c.self.inside.hasher) (max 128 c.self.inside.first)
    c.self.inside.parts.items (max c.self.inside.peak c.self.inside.len) c.self.inside.len c.self.invariant other f)

pub step_parts-requires-clause-can : goal.step_parts-requires-clause-can
step_parts-requires-clause-can g c = (
  hash_in g.S.BuildHasher g.S.Hasher.Hasher g.K.Hash.hash_input c.self.inside.hasher,
  max 128 c.self.inside.first,
  max c.self.inside.peak c.self.inside.len,
  record {
    respects = λ x y e. ap (λ w. g.S.Hasher.Hasher.finish (fold g.S.Hasher.Hasher.write (g.S.BuildHasher.build_hasher c.self.inside.hasher) w)) (g.met.K.Hash.respects_eq x y e);
    well = c.self.invariant;
    fits = subst (λ o. fits_in g.S.BuildHasher g.S.Hasher.Hasher g.K.PartialEq.eq g.K.Hash.hash_input o c.args.call.now) (sym c.self.view_is) c.requires.fits;
  },
)

-- the step of the segments
over : (g : given.Over) (c : goal.After-step_parts g) → GoesOver g.K.PartialEq.eq (hash_in g.S.BuildHasher g.S.Hasher.Hasher g.K.Hash.hash_input c.self.inside.hasher)
    (max 128 c.self.inside.first) c.self.inside.parts.items (max c.self.inside.peak c.self.inside.len) c.self.inside.len c.args.call.now c.step_parts.result
    c.step_parts.new.parts.items c.step_parts.new.len c.step_parts.new.call
over g c = c.step_parts.ensures.over (hash_in g.S.BuildHasher g.S.Hasher.Hasher g.K.Hash.hash_input c.self.inside.hasher) (max 128 c.self.inside.first)
    (max c.self.inside.peak c.self.inside.len) (record {
      respects = λ x y e. ap (λ w. g.S.Hasher.Hasher.finish (fold g.S.Hasher.Hasher.write (g.S.BuildHasher.build_hasher c.self.inside.hasher) w)) (g.met.K.Hash.respects_eq x y e);
      well = c.self.invariant;
      fits = subst (λ o. fits_in g.S.BuildHasher g.S.Hasher.Hasher g.K.PartialEq.eq g.K.Hash.hash_input o c.args.call.now) (sym c.self.view_is) c.requires.fits;
    })

-- of the table that it was
whole : (g : given.Over) (c : goal.After-step_parts g) → Does g.K.PartialEq.eq (hash_in g.S.BuildHasher g.S.Hasher.Hasher g.K.Hash.hash_input c.args.self.now.hasher)
    (first_of c.args.self.now) c.args.self.now.parts c.args.self.now.len c.args.call.now c.step_parts.result
    (hash_in g.S.BuildHasher g.S.Hasher.Hasher g.K.Hash.hash_input c.self.inside.hasher) (max 128 c.self.inside.first) c.step_parts.new.parts.items
    (max c.max-self-inside.result c.step_parts.new.len) c.step_parts.new.len c.step_parts.new.call
whole g c = subst (λ o. Does g.K.PartialEq.eq (hash_in g.S.BuildHasher g.S.Hasher.Hasher g.K.Hash.hash_input o.hasher) (first_of o) o.parts o.len c.args.call.now c.step_parts.result
    (hash_in g.S.BuildHasher g.S.Hasher.Hasher g.K.Hash.hash_input c.self.inside.hasher) (max 128 c.self.inside.first) c.step_parts.new.parts.items
    (max c.max-self-inside.result c.step_parts.new.len) c.step_parts.new.len c.step_parts.new.call) c.self.view_is
    (subst (λ m. Does g.K.PartialEq.eq (hash_in g.S.BuildHasher g.S.Hasher.Hasher g.K.Hash.hash_input c.self.inside.hasher) (max 128 c.self.inside.first)
    c.self.inside.parts.items c.self.inside.len c.args.call.now c.step_parts.result
    (hash_in g.S.BuildHasher g.S.Hasher.Hasher g.K.Hash.hash_input c.self.inside.hasher) (max 128 c.self.inside.first) c.step_parts.new.parts.items
    (max m c.step_parts.new.len) c.step_parts.new.len c.step_parts.new.call) (sym c.max-self-inside.ensures)
    (does g.K.PartialEq.eq (hash_in g.S.BuildHasher g.S.Hasher.Hasher g.K.Hash.hash_input c.self.inside.hasher) (max 128 c.self.inside.first)
    (max c.self.inside.peak c.self.inside.len) c.self.inside.len c.self.inside.parts.items c.step_parts.new.parts.items c.args.call.now c.step_parts.new.call
    c.step_parts.result c.step_parts.new.len (over g c)))

pub invariant_of-self : goal.invariant_of-self
invariant_of-self g c = subst (λ m. AreParts g.K.PartialEq.eq (hash_in g.S.BuildHasher g.S.Hasher.Hasher g.K.Hash.hash_input c.self.inside.hasher) c.step_parts.new.parts.items
    (max 128 c.self.inside.first) (max m c.step_parts.new.len) c.step_parts.new.len) (sym c.max-self-inside.ensures) (over g c).well

pub returns-clause-moves : goal.returns-clause-moves
returns-clause-moves g c = (whole g c).moves

pub returns-clause-undecided : goal.returns-clause-undecided
returns-clause-undecided g c = (whole g c).undecided

pub returns-clause-nears : goal.returns-clause-nears
returns-clause-nears g c = (whole g c).nears

pub returns-clause-others : goal.returns-clause-others
returns-clause-others g c = (whole g c).others

pub returns-clause-others_left : goal.returns-clause-others_left
returns-clause-others_left g c = (whole g c).others_left

pub returns-clause-elsewhere : goal.returns-clause-elsewhere
returns-clause-elsewhere g c = (whole g c).elsewhere

pub returns-clause-err_map : goal.returns-clause-err_map
returns-clause-err_map g c = (whole g c).err_map

pub returns-clause-err_count : goal.returns-clause-err_count
returns-clause-err_count g c = (whole g c).err_count

pub returns-clause-err_call : goal.returns-clause-err_call
returns-clause-err_call g c = (whole g c).err_call

pub returns-clause-err_others : goal.returns-clause-err_others
returns-clause-err_others g c = (whole g c).err_others

-- what the step does to calls that list keys
kept : (g : given.Over) (c : goal.After-step_parts g) → KeepsKeys g.K.PartialEq.eq (hash_in g.S.BuildHasher g.S.Hasher.Hasher g.K.Hash.hash_input c.self.inside.hasher)
    c.self.inside.parts.items c.step_parts.new.parts.items
kept g c = c.step_parts.ensures.keys (hash_in g.S.BuildHasher g.S.Hasher.Hasher g.K.Hash.hash_input c.self.inside.hasher) (max 128 c.self.inside.first)
    (max c.self.inside.peak c.self.inside.len) (record {
      respects = λ x y e. ap (λ w. g.S.Hasher.Hasher.finish (fold g.S.Hasher.Hasher.write (g.S.BuildHasher.build_hasher c.self.inside.hasher) w)) (g.met.K.Hash.respects_eq x y e);
      well = c.self.invariant;
      fits = subst (λ o. fits_in g.S.BuildHasher g.S.Hasher.Hasher g.K.PartialEq.eq g.K.Hash.hash_input o c.args.call.now) (sym c.self.view_is) c.requires.fits;
    })

pub returns-clause-keys : goal.returns-clause-keys
returns-clause-keys g c = subst (λ o. (other : KeysCall) → fits_keys_in g.S.BuildHasher g.S.Hasher.Hasher g.K.PartialEq.eq g.K.Hash.hash_input o other →
    FitsKeys g.K.PartialEq.eq (hash_in g.S.BuildHasher g.S.Hasher.Hasher g.K.Hash.hash_input c.self.inside.hasher) c.step_parts.new.parts.items other) c.self.view_is (kept g c).fits

pub returns-clause-segments : goal.returns-clause-segments
returns-clause-segments g c = subst (λ o. length c.step_parts.new.parts.items ≡ length o.parts) c.self.view_is c.step_parts.ensures.long

pub returns-clause-keys_lists : goal.returns-clause-keys_lists
returns-clause-keys_lists g c = subst (λ o. (other : KeysCall) (key : g.row.K.Denot) →
    fits_keys_in g.S.BuildHasher g.S.Hasher.Hasher g.K.PartialEq.eq g.K.Hash.hash_input o other →
    ListsIt c.step_parts.new.parts.items other key ↔ lists_in o other key) c.self.view_is (kept g c).lists

pub returns-clause-keys_covers : goal.returns-clause-keys_covers
returns-clause-keys_covers g c = subst (λ o. (other : KeysCall) (key : g.row.K.Denot) →
    fits_keys_in g.S.BuildHasher g.S.Hasher.Hasher g.K.PartialEq.eq g.K.Hash.hash_input o other →
    segment_for g.S.BuildHasher g.S.Hasher.Hasher g.K.PartialEq.eq g.K.Hash.hash_input o key ≡ other.segment →
    IsSome (map_in g.S.BuildHasher g.S.Hasher.Hasher g.K.PartialEq.eq g.K.Hash.hash_input o key) → covers_in g.K.PartialEq.eq o other key →
    CoversIt g.K.PartialEq.eq c.step_parts.new.parts.items other key) c.self.view_is (kept g c).covers

pub returns-clause-keys_left : goal.returns-clause-keys_left
returns-clause-keys_left g c = subst (λ m. (other : KeysCall) → fits_keys_in g.S.BuildHasher g.S.Hasher.Hasher g.K.PartialEq.eq g.K.Hash.hash_input c.args.self.now other →
    left_keys (max 128 c.self.inside.first) c.step_parts.new.parts.items other ≤ most_steps (max 128 c.self.inside.first) (max m c.step_parts.new.len)) (sym c.max-self-inside.ensures)
    (λ other f. keys_bounded g.K.PartialEq.eq (hash_in g.S.BuildHasher g.S.Hasher.Hasher g.K.Hash.hash_input c.self.inside.hasher) (max 128 c.self.inside.first)
    c.step_parts.new.parts.items (max (max c.self.inside.peak c.self.inside.len) c.step_parts.new.len) c.step_parts.new.len (over g c).well other (returns-clause-keys g c other f))

pub returns-then-self-clause-keys_left : goal.returns-then-self-clause-keys_left
returns-then-self-clause-keys_left g c = subst (λ o. (other : KeysCall) →
    fits_keys_in g.S.BuildHasher g.S.Hasher.Hasher g.K.PartialEq.eq g.K.Hash.hash_input o other → left_keys_of o other ≤ most_steps (first_of o) (peak_of o)) c.self.view_is
    (λ other f. keys_bounded g.K.PartialEq.eq (hash_in g.S.BuildHasher g.S.Hasher.Hasher g.K.Hash.hash_input c.self.inside.hasher) (max 128 c.self.inside.first)
    c.self.inside.parts.items (max c.self.inside.peak c.self.inside.len) c.self.inside.len c.self.invariant other f)

pub returns-clause-one : goal.returns-clause-one
returns-clause-one g c = subst (λ o. MovesOnce g.K.PartialEq.eq (hash_in g.S.BuildHasher g.S.Hasher.Hasher g.K.Hash.hash_input o.hasher)
    (Some (key_of c.args.call.now.operation)) (wanted_by c.args.call.now.table) (segment_of (length o.parts) c.args.call.now.hash) c.step_parts.result
    o.parts c.step_parts.new.parts.items) c.self.view_is
    (c.step_parts.ensures.one (hash_in g.S.BuildHasher g.S.Hasher.Hasher g.K.Hash.hash_input c.self.inside.hasher) (max 128 c.self.inside.first)
    (max c.self.inside.peak c.self.inside.len) (record {
      respects = λ x y e. ap (λ w. g.S.Hasher.Hasher.finish (fold g.S.Hasher.Hasher.write (g.S.BuildHasher.build_hasher c.self.inside.hasher) w)) (g.met.K.Hash.respects_eq x y e);
      well = c.self.invariant;
      fits = subst (λ o. fits_in g.S.BuildHasher g.S.Hasher.Hasher g.K.PartialEq.eq g.K.Hash.hash_input o c.args.call.now) (sym c.self.view_is) c.requires.fits;
    }))

pub returns-then-self-clause-one : goal.returns-then-self-clause-one
returns-then-self-clause-one g c =
    moves_none g.K.PartialEq.eq (hash_in g.S.BuildHasher g.S.Hasher.Hasher g.K.Hash.hash_input c.args.self.now.hasher) (key_for c.args.call.now)
    (want_of c.args.call.now) c.args.self.now.parts (segment_in c.args.self.now c.args.call.now) _

pub returns-clause-stays : goal.returns-clause-stays
returns-clause-stays g c = subst (λ o. StaysThere (segment_of (length o.parts) c.args.call.now.hash) o.parts c.step_parts.new.parts.items
    c.args.call.now c.step_parts.new.call) c.self.view_is
    (c.step_parts.ensures.stays (hash_in g.S.BuildHasher g.S.Hasher.Hasher g.K.Hash.hash_input c.self.inside.hasher) (max 128 c.self.inside.first)
    (max c.self.inside.peak c.self.inside.len) (record {
      respects = λ x y e. ap (λ w. g.S.Hasher.Hasher.finish (fold g.S.Hasher.Hasher.write (g.S.BuildHasher.build_hasher c.self.inside.hasher) w)) (g.met.K.Hash.respects_eq x y e);
      well = c.self.invariant;
      fits = subst (λ o. fits_in g.S.BuildHasher g.S.Hasher.Hasher g.K.PartialEq.eq g.K.Hash.hash_input o c.args.call.now) (sym c.self.view_is) c.requires.fits;
    }))

pub returns-then-self-clause-stays : goal.returns-then-self-clause-stays
returns-then-self-clause-stays g c = stays_all c.args.call.now c.args.call.now c.args.self.now.parts (segment_in c.args.self.now c.args.call.now) refl
