-- How long arrays get.
use Rattle.std.proofs.Common.{◌≡◌, ◌⊎◌, ℕ, ◌*◌, ◌≤◌, Bool, true, false, List, length, Option, Some, None, zero, suc, inl, inr, refl, sym, ap, ◌∙◌, arith, ltb, if◌then◌else◌}
use Rattle.std.specs.List.{slice_get}
use Rattle.std.proofs.lemmas.Bool.{cases_lt, ltb-true}
use Rattle.std.proofs.lemmas.Option.{slice_get-get_or}
use Rattle.std.proofs.lemmas.List.{length-replicate}
use Rattle.moka_words.specs.declared.words.Word.TheVariants.{Unset}
use Rattle.moka_words.specs.declared.accesses.Seen.{Seen}
use Rattle.moka_words.specs.declared.accesses.Seen.TheVariants as seen
use Rattle.moka_words.specs.Layout.{stored_nodes}
use Rattle.moka_words.specs.Effect.{Memory, array_at, array_before, root, words_of, StandsBefore, Links, Linked, Effect, LaterMemory}
use Rattle.moka_growth.specs.Growing.{next_size}
use Rattle.moka_growth.specs.Sound.{IsSound}
use Rattle.moka_growth.specs.Calls.{Point, Call, wanted}
use Rattle.moka_growth.specs.Calls as call
use Rattle.moka_growth.specs.Fits.{IsLeft, IsKept, FitsAt}
use Rattle.moka_growth.specs.Maps.{present_nodes}
use Rattle.moka_growth.specs.Left.{longest, IsShort}
use Rattle.moka_growth.specs.Laws.{Makes}
use Rattle.moka_growth.proofs.Places.{no_number}
use Rattle.moka_growth.proofs.Copying.{one_more_cases}
use Rattle.moka_growth.proofs.Accessing.{access_is_later, kept_count, left_at}

-- the array that follows another one is short
pub next_short : (before : Option ℕ) (size stored first peak : ℕ) → 128 ≤ first → size ≤ longest first peak → stored ≤ peak →
    next_size before size stored ≤ longest first peak
next_short None size stored first peak least short keys = omega arith
next_short (Some a) size stored first peak least short keys = by (ltb (7 * size) (10 * stored)) refl
  where
    by : (b : Bool) → ltb (7 * size) (10 * stored) ≡ b → (if b then 2 * size else size) ≤ longest first peak
    by true e = let crowded = ltb-true (7 * size) (10 * stored) e in omega arith
    by false e = short

module _ {hash : ℕ → ℕ} {same : ℕ → ℕ → Bool} {mine : ℕ → Bool} (own : ℕ → Bool) (h : ℕ) (old new : Memory)
    (sound : IsSound hash same mine old) (later : LaterMemory same old new) (first peak : ℕ) (short : IsShort first peak old) where
  abbrev Short : Type 0
  Short = (p a : ℕ) → array_at new p ≡ Some a → length (new.words a) ≤ longest first peak

  -- an old array is as long as it was
  old_short : (p a : ℕ) → array_at old p ≡ Some a → length (new.words a) ≤ longest first peak
  old_short p a e =
      let long = (later.words p a e (sound.numbered p a e)).length_stays in
      let was = short.lengths p a e in
      omega arith

  same_short : new.arrays ≡ old.arrays → Short
  same_short arrays p a e = old_short p a (ap (λ xs. slice_get xs p) (sym arrays) ∙ e)

  links_short : (size : ℕ) → size ≤ longest first peak → Links size old new → Short
  links_short size bound links p a e =
      by (one_more_cases old.arrays old.fresh p a (ap (λ xs. slice_get xs p) (sym links.arrays) ∙ e))
    where
      by : (array_at old p ≡ Some a) ⊎ ((p ≡ length old.arrays) × (a ≡ old.fresh)) → length (new.words a) ≤ longest first peak
      by (inl d) = old_short p a d
      by (inr d) =
          let long : length (new.words a) ≡ size =
          ap (λ x. length (new.words x)) d.1 ∙ (ap (λ ws. length ws) links.unset ∙ length-replicate size Unset) in
          omega arith

  -- an array that is left, and after which none stands, is the root
  left_is_root : (q : ℕ) (array : Option ℕ) → IsLeft old q array → array_at old q ≡ None → root old ≡ array
  left_is_root q array left free =
      let rooted = left.rooted in
      let within = left.stands.within in
      let linked = sound.linked in
      let past : length old.arrays ≤ q = elim (cases_lt q (length old.arrays)) [
        | inl below ↦ absurd (no_number free (slice_get-get_or old.arrays q 0 below))
        | inr above ↦ above
      ] in
      let place : old.rooted ≡ q = omega arith in
      ap (λ r. array_before old r) place ∙ left.stands.there

  link_short : (q : ℕ) (array : Option ℕ) (size next k : ℕ) (kept : List (ℕ × ℕ)) → IsKept hash old array size kept →
      StandsBefore old q array → (o : Option ℕ) → array_at old q ≡ o → Linked o (next_size array size (length kept)) next k old new → Short
  link_short q array size next k kept is_kept stands (Some b) there linked = same_short linked.2.1.arrays
  link_short q array size next k kept is_kept stands None free linked =
      links_short (next_size array size (length kept)) bound linked.2
    where
      left : IsLeft old q array
      left = left_at old sound is_kept.place q array is_kept.left stands

      stored : length kept ≤ peak
      stored =
          let counted = kept_count hash kept (stored_nodes (words_of old array)) is_kept.kept_are in
          let is_root = ap (λ o. length (stored_nodes (words_of old o))) (left_is_root q array left free) in
          let keys = short.keys in
          omega arith

      size_short : (p : ℕ) → array_before old p ≡ array → size ≤ longest first peak
      size_short p e = by p array e is_kept.size_is
        where
          some : (p : ℕ) (o : Option ℕ) → array_at old p ≡ o → size ≡ length (words_of old o) → size ≤ longest first peak
          some p None d l = omega arith
          some p (Some b) d l = let was = short.lengths p b d in omega arith

          by : (p : ℕ) (o : Option ℕ) → array_before old p ≡ o → size ≡ length (words_of old o) → size ≤ longest first peak
          by zero None d l = omega arith
          by zero (Some b) d l = absurd (cc d)
          by (suc p) o d l = some p o d l

      bound : next_size array size (length kept) ≤ longest first peak
      bound = next_short array size (length kept) first peak short.least (size_short q stands.there) stored

  pub point_short : (p : Point) (s : Seen) → FitsAt hash own h old p → Effect hash own (wanted h p) s old new → Short
  point_short (call.Root met) (seen.Root a l t k) fits e = same_short e.4.1.arrays
  point_short (call.Probe a l v) (seen.Word w x same_) fits e = same_short e.3.1.arrays
  point_short (call.Choose a l v w) (seen.Chosen choice) fits e = same_short e.1.arrays
  point_short (call.Change a l v from to) (seen.Exchanged None) fits e = same_short e.1.2.arrays
  point_short (call.Change a l v from to) (seen.Exchanged (Some met)) fits e = same_short e.2.1.arrays
  point_short (call.Walk a l i nodes) (seen.Word w x same_) fits e = same_short e.3.1.arrays
  point_short (call.Seal a l i kept) (seen.Word w x same_) fits e = same_short e.3.1.arrays
  point_short (call.Close a l i w x kept) (seen.Exchanged None) fits e = same_short e.1.2.arrays
  point_short (call.Close a l i w x kept) (seen.Exchanged (Some met)) fits e = same_short e.2.1.arrays
  point_short (call.Next array l kept) (seen.Next next k) fits e = same_short e.4.1.arrays
  point_short (call.Link array l kept) (seen.Linked next k) fits e = link_short e.0 array l next k kept fits e.1 (array_at old e.0) refl e.2
  point_short (call.Copy from a i laid) seen.Copied fits (inl e) = same_short e.1.2.arrays
  point_short (call.Copy from a i laid) seen.Copied fits (inr e) = same_short e.1.1.arrays
  point_short (call.Swing from a) seen.Swung fits (inl e) = same_short e.2.arrays
  point_short (call.Swing from a) seen.Swung fits (inr e) = same_short e.1.1.arrays
  point_short p s fits e = absurd e

pub short_stays : (hash : ℕ → ℕ) (same : ℕ → ℕ → Bool) (mine own : ℕ → Bool) (c : Call) (s : Seen) (old new : Memory) (first peak : ℕ) →
    Makes hash same mine own c s old new → IsShort first peak old → length (present_nodes new) ≤ peak → IsShort first peak new
short_stays hash same mine own c s old new first peak m short keys = record {
  least = short.least;
  lengths = point_short own c.hash old new m.sound (access_is_later hash same mine own c s old new m) first peak short c.point s m.fits m.effect;
  keys = keys;
}

pub short_grows : (m : Memory) (first peak more : ℕ) → IsShort first peak m → peak ≤ more → IsShort first more m
short_grows m first peak more short grows = let keys = short.keys in record {
  least = short.least;
  lengths = λ p a e. let was = short.lengths p a e in omega arith;
  keys = omega arith;
}
