-- The parts of a table.
use Rattle.std.proofs.Common.{◌≡◌, ℕ, ◌-◌, ◌<◌, ◌≤◌, min, Bool, true, false, length, Option, None, Some, IsSome, if◌then◌else◌, inl, inr, refl, sym, ap, ◌∙◌, arith}
use Rattle.std.proofs.lemmas.Bool.{false≢true, ltb-false}
use Rattle.std.proofs.lemmas.Option.{slice_get_within}
use Rattle.std.specs.Hash.{HashWrites}
use Rattle.std.specs.List.{slice_get}
use Rattle.std.specs.Option.{option_map_or}
use Rattle.std.specs.declared.hash.Hasher as hasher
use Rattle.std.specs.declared.hash.BuildHasher as builder
use Rattle.moka_buckets.specs.declared.list_call.ListCall.{ListCall}
use Rattle.moka_buckets.specs.declared.op_call.OpCall.TheVariants as any
use Rattle.moka_buckets.specs.declared.part.Part.{Part}
use Rattle.moka_buckets.specs.Parts.{map_at}
use Rattle.moka_buckets.specs.Views.{Buckets, covers_in, map_in, segment_for}
use Rattle.moka_buckets.specs.Ops.{covers_for, is_joined, part_for, segment_parts}

module _ {K V S H : Type 0} (b : builder.Ghosts S H) (h : hasher.Ghosts H) (eq : K → K → Bool) (input : K → HashWrites) (t : Buckets K V S) where
  -- where each segment is a part
  pub part_is : (q : K) → is_joined t ≡ false → segment_for b h eq input t q < length t.parts → part_for b h eq input t q ≡ segment_for b h eq input t q
  part_is q apart within =
      let few : length t.parts ≤ 64 = ltb-false 64 (length t.parts) apart in
      let least : min (segment_for b h eq input t q) (segment_parts t - 1) ≡ segment_for b h eq input t q = omega (arith, within, few) in
      ap (λ j. if j then 0 else min (segment_for b h eq input t q) (segment_parts t - 1)) apart ∙ least

  -- a key that the map has is of a segment that is there
  pub has_segment : (q : K) → IsSome (map_in b h eq input t q) → segment_for b h eq input t q < length t.parts
  has_segment q has = by (slice_get t.parts (segment_for b h eq input t q)) (λ p e. slice_get_within t.parts (segment_for b h eq input t q) p e) has
    where
      by : (o : Option (Part K V)) → ((p : Part K V) → o ≡ Some p → segment_for b h eq input t q < length t.parts) →
          IsSome (option_map_or (λ p. map_at eq p q) o None) → segment_for b h eq input t q < length t.parts
      by None within e = absurd (false≢true e)
      by (Some p) within e = within p refl

  -- a list that begins covers the keys of its part
  pub begun_covered : (c : ListCall K) → 0 < length t.parts → (part : ℕ) (q : K) → part_for b h eq input t q ≡ part →
      (part < length t.parts → covers_in eq t c.call q) → covers_for eq t (any.Keys c) q
  begun_covered c some part q at covers = by (is_joined t) refl
    where
      by : (j : Bool) → is_joined t ≡ j → covers_for eq t (any.Keys c) q
      by true e = inl e
      by false e =
          let is : part ≡ min (segment_for b h eq input t q) (segment_parts t - 1) =
          sym at ∙ ap (λ j. if j then 0 else min (segment_for b h eq input t q) (segment_parts t - 1)) e in
          inr (covers (omega (arith, is, some)))
