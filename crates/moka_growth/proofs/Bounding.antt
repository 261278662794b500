-- How many steps a call has left at most.
use Rattle.std.proofs.Common.{◌≡◌, ℕ, ◌+◌, ◌-◌, ◌*◌, ◌≤◌, Bool, true, false, length, Option, Some, None, zero, suc, ap, ◌∙◌, arith, add-one, eqb, if◌then◌else◌}
use Rattle.std.specs.Option.{option_eq}
use Rattle.std.proofs.Math.Nat.{suc-mul}
use Rattle.moka_words.specs.Words.{word_at}
use Rattle.moka_words.specs.Arrays.{bucket_at}
use Rattle.moka_words.specs.Effect.{Memory, root, words_of}
use Rattle.moka_words.proofs.Placing.{layout_length}
use Rattle.moka_growth.specs.declared.kinds.CallKind.{CallKind}
use Rattle.moka_growth.specs.declared.kinds.CallKind.TheVariants as kind
use Rattle.moka_growth.specs.Calls.{Point, Call}
use Rattle.moka_growth.specs.Calls as call
use Rattle.moka_growth.specs.Fits.{HasBeenRoot, FitsAt, Fits}
use Rattle.moka_growth.specs.Left.{longest, IsShort, word_eq, is_behind, hints, to_grow, to_end, from_root, once_grown, once_met, left_at, left}

pub few_hints : (k : CallKind) (spent : Bool) → hints k spent ≤ 1
few_hints kind.Get spent = omega arith
few_hints kind.Insert true = omega arith
few_hints kind.Insert false = omega arith
few_hints kind.Remove true = omega arith
few_hints kind.Remove false = omega arith
few_hints kind.Keys spent = omega arith

-- one growth more
pub to_end_next : (most times : ℕ) → to_end most (times + 1) ≡ to_end most times + (4 * most + 6)
to_end_next most times =
    let more : (times + 1) * (4 * most + 6) ≡ times * (4 * most + 6) + (4 * most + 6) =
    ap (λ n. n * (4 * most + 6)) (add-one times) ∙ suc-mul times (4 * most + 6) in
    omega arith

to_end_bound : (most times : ℕ) → times ≤ 1 → to_end most times ≤ 5 * most + 8
to_end_bound most zero few = omega arith
to_end_bound most (suc zero) few = omega arith
to_end_bound most (suc (suc times)) few = absurd (omega arith)

from_root_bound : (most times : ℕ) (b : Bool) → times ≤ 1 → from_root most times b ≤ 9 * most + 14
from_root_bound most times true few = let next = to_end_next most times in let most_ = to_end_bound most times few in omega arith
from_root_bound most times false few = let most_ = to_end_bound most times few in omega arith

once_grown_bound : (most times : ℕ) (b : Bool) (r array : Option ℕ) → times ≤ 1 → once_grown most times b r array ≤ 9 * most + 14
once_grown_bound most times b r array few = by (option_eq eqb array r)
  where
    by : (q : Bool) → (if q then to_end most times else from_root most times b) ≤ 9 * most + 14
    by true = let most_ = to_end_bound most times few in omega arith
    by false = from_root_bound most times b few

met_bound : (most times : ℕ) (b q : Bool) → times ≤ 1 →
    (if q then 1 + to_grow most + to_end most times else from_root most times b) ≤ 9 * most + 14
met_bound most times b true few = let most_ = to_end_bound most times few in omega arith
met_bound most times b false few = from_root_bound most times b few

once_met_bound : (most times : ℕ) (b : Bool) (r : Option ℕ) (a : ℕ) → times ≤ 1 → once_met most times b r a ≤ 9 * most + 14
once_met_bound most times b r a few = by (option_eq eqb (Some a) r) b
  where
    by : (q b : Bool) → (if q then (if b then 1 + to_grow most + to_end most times else 0) else from_root most times b) ≤ 9 * most + 14
    by true true = let most_ = to_end_bound most times few in omega arith
    by true false = omega arith
    by false b = from_root_bound most times b few

module _ (hash : ℕ → ℕ) (own : ℕ → Bool) (h : ℕ) (m : Memory) (first peak : ℕ)
    (short : IsShort first peak m) (times : ℕ) (few : times ≤ 1) (b : Bool) (r : Option ℕ) where
  rooted_short : (a : ℕ) → HasBeenRoot m a → length (m.words a) ≤ longest first peak
  rooted_short a been = short.lengths been.place a been.there

  pub point_bound : (p : Point) → FitsAt hash own h m p →
      left_at (longest first peak) times b r m.words h p ≤ 12 * longest first peak + 20
  point_bound (call.Root None) fits = let root_ = from_root_bound (longest first peak) times b few in omega arith
  point_bound (call.Root (Some a)) fits = let met = met_bound (longest first peak) times b (option_eq eqb (Some a) r) few in omega arith
  point_bound (call.Probe a l v) fits =
      let met = once_met_bound (longest first peak) times b r a few in
      let long = rooted_short a fits.rooted in
      let size_is = fits.size_is in
      omega arith
  point_bound (call.Choose a l v w) fits = omega arith
  point_bound (call.Change a l v from to) fits =
      let met = once_met_bound (longest first peak) times b r a few in
      let long = rooted_short a fits.0.rooted in
      let size_is = fits.0.size_is in
      by (word_eq (word_at (m.words a) (bucket_at l h v)) from) (omega arith)
    where
      by : (q : Bool) → (l - v) + 2 + once_met (longest first peak) times b r a ≤ 12 * longest first peak + 20 →
          (if q then 1 else (l - v) + 2 + once_met (longest first peak) times b r a) ≤ 12 * longest first peak + 20
      by true most = omega arith
      by false most = most
  point_bound (call.Walk a l i nodes) fits =
      let met = once_met_bound (longest first peak) times b r a few in
      let long = rooted_short a fits.0 in
      let size_is = fits.1 in
      omega arith
  point_bound (call.Seal a l i kept) fits =
      let grown = once_grown_bound (longest first peak) times b r (Some a) few in
      let long = rooted_short a fits.rooted in
      let size_is = fits.size_is in
      omega arith
  point_bound (call.Close a l i w x kept) fits =
      let grown = once_grown_bound (longest first peak) times b r (Some a) few in
      let long = rooted_short a fits.0.rooted in
      let size_is = fits.0.size_is in
      by (word_eq (word_at (m.words a) i) w) (omega arith)
    where
      by : (q : Bool) → 2 * (l - i) + 4 + longest first peak + once_grown (longest first peak) times b r (Some a) ≤ 12 * longest first peak + 20 →
          (if q then 2 * (l - i) + 2 else 2 * (l - i) + 4) + longest first peak + once_grown (longest first peak) times b r (Some a)
          ≤ 12 * longest first peak + 20
      by true most = omega arith
      by false most = most
  point_bound (call.Next array l kept) fits =
      let grown = once_grown_bound (longest first peak) times b r array few in omega arith
  point_bound (call.Link array l kept) fits =
      let grown = once_grown_bound (longest first peak) times b r array few in omega arith
  point_bound (call.Copy from a i laid) fits =
      let grown = once_grown_bound (longest first peak) times b r from few in
      let long = short.lengths fits.place a fits.there in
      let size_is : length laid ≡ length (m.words a) =
      ap (λ ws. length ws) fits.laid_is ∙ layout_length hash (words_of m from) (length (m.words a)) in
      omega arith
  point_bound (call.Swing from a) fits =
      let grown = once_grown_bound (longest first peak) times b r from few in omega arith

pub left_is_bounded : (hash : ℕ → ℕ) (own : ℕ → Bool) (c : Call) (m : Memory) (first peak : ℕ) →
    Fits hash own m c → IsShort first peak m → left first peak m c ≤ 16 * (first + 3 * peak) + 32
left_is_bounded hash own c m first peak fits short =
    let most = point_bound hash own c.hash m first peak short (hints c.kind c.spent) (few_hints c.kind c.spent)
    (is_behind c.kind (root m) (words_of m (root m))) (root m) c.point fits in
    omega arith
