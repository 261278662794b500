-- What a call has left falls with each of its steps.
use Rattle.std.proofs.Common.{◌≡◌, ℕ, ◌+◌, ◌-◌, ◌<◌, ◌≤◌, Bool, List, Option, ap, subst, ◌∙◌, arith, if◌then◌else◌}
use Rattle.std.proofs.lemmas.List.Sorted.{length_permutation}
use Rattle.moka_words.specs.declared.words.Word.{Word}
use Rattle.moka_words.specs.declared.words.Word.TheVariants.{Unset, Empty, Live, Tomb, SealedEmpty, SealedLive, SealedTomb}
use Rattle.moka_words.specs.declared.accesses.Choice.{Choice}
use Rattle.moka_words.specs.declared.accesses.Choice.TheVariants as choice
use Rattle.moka_words.specs.declared.accesses.Seen.{Seen}
use Rattle.moka_words.specs.declared.accesses.Seen.TheVariants as seen
use Rattle.moka_words.specs.Words.{word_at}
use Rattle.moka_words.specs.Arrays.{bucket_at}
use Rattle.moka_words.specs.Effect.{Memory, root, words_of, Effect}
use Rattle.moka_growth.specs.Calls.{Point, Call, Ending, Step, Going, Decided, wanted, removed, chosen, next_at, next_of}
use Rattle.moka_growth.specs.Calls as call
use Rattle.moka_growth.specs.Fits.{FitsAt, Rests}
use Rattle.moka_growth.specs.Maps.{present_nodes}
use Rattle.moka_growth.specs.Left.{longest, IsShort, word_eq, is_behind, hints, once_met, left_at, left}
use Rattle.moka_growth.specs.Laws.{Makes}
use Rattle.moka_growth.specs.Turns.{Leads}
use Rattle.moka_growth.proofs.Weighing.{word_same}
use Rattle.moka_growth.proofs.Shortness.{short_stays}
use Rattle.moka_growth.proofs.Stepping.{going_keeps_map}
use Rattle.moka_growth.proofs.Lowering.{point_falls}

-- a change of the word that stands there has one step left
change_one : (most times : ℕ) (b : Bool) (r : Option ℕ) (ws : ℕ → List Word) (h a size v : ℕ) (from to : Word) →
    word_at (ws a) (bucket_at size h v) ≡ from → left_at most times b r ws h (call.Change a size v from to) ≤ 1
change_one most times b r ws h a size v from to there =
    let is : left_at most times b r ws h (call.Change a size v from to) ≡ 1 =
    ap (λ q. if q then 1 else (size - v) + 2 + once_met most times b r a)
    (ap (λ w. word_eq w from) there ∙ word_same from) in
    omega arith

-- to ask what is to be done doesn't raise what is left
choose_stays : (first peak : ℕ) (new : Memory) (c : Call) (a size v : ℕ) (found : Word) (x : Choice) →
    word_at (new.words a) (bucket_at size c.hash v) ≡ found →
    Leads (chosen c a size v found x) (λ d. left first peak new d ≤ 1) (λ e. Unit {0})
choose_stays first peak new c a size v found choice.Keep there = tt
choose_stays first peak new c a size v found (choice.Put n) there =
    change_one (longest first peak) (hints c.kind c.spent) (is_behind c.kind (root new) (words_of new (root new))) (root new) new.words c.hash
    a size v found (Live n) there
choose_stays first peak new c a size v found choice.Remove there = by found there
  where
    by : (w : Word) → word_at (new.words a) (bucket_at size c.hash v) ≡ w →
        Leads (removed c a size v w) (λ d. left first peak new d ≤ 1) (λ e. Unit {0})
    by (Live n) is =
        change_one (longest first peak) (hints c.kind c.spent) (is_behind c.kind (root new) (words_of new (root new))) (root new) new.words
        c.hash a size v (Live n) (Tomb n) is
    by Unset is = tt
    by Empty is = tt
    by (Tomb n) is = tt
    by SealedEmpty is = tt
    by (SealedLive n) is = tt
    by (SealedTomb n) is = tt

-- a call rests, or asks what is to be done
rest_cases : (P : Point → Type 0) → ((p : Point) → Rests p → P p) →
    ((a size v : ℕ) (w : Word) → P (call.Choose a size v w)) → (p : Point) → P p
rest_cases P rests asks (call.Choose a size v w) = asks a size v w
rest_cases P rests asks (call.Root met) = rests (call.Root met) tt
rest_cases P rests asks (call.Probe a l v) = rests (call.Probe a l v) tt
rest_cases P rests asks (call.Change a l v from to) = rests (call.Change a l v from to) tt
rest_cases P rests asks (call.Walk a l i nodes) = rests (call.Walk a l i nodes) tt
rest_cases P rests asks (call.Seal a l i kept) = rests (call.Seal a l i kept) tt
rest_cases P rests asks (call.Close a l i w x kept) = rests (call.Close a l i w x kept) tt
rest_cases P rests asks (call.Next array l kept) = rests (call.Next array l kept) tt
rest_cases P rests asks (call.Link array l kept) = rests (call.Link array l kept) tt
rest_cases P rests asks (call.Copy from a i laid) = rests (call.Copy from a i laid) tt
rest_cases P rests asks (call.Swing from a) = rests (call.Swing from a) tt

module _ (first peak : ℕ) (old new : Memory) (c d : Call) (s : Seen) where
  -- what the call had left at a point
  abbrev Before : Point → ℕ
  Before p = left_at (longest first peak) (hints c.kind c.spent) (is_behind c.kind (root old) (words_of old (root old))) (root old)
      old.words c.hash p

  asks : (hash : ℕ → ℕ) (own : ℕ → Bool) (a size v : ℕ) (w : Word) (s : Seen) → FitsAt hash own c.hash old (call.Choose a size v w) →
      Effect hash own (wanted c.hash (call.Choose a size v w)) s old new →
      next_at c (call.Choose a size v w) s ≡ Going d → left first peak new d ≤ Before (call.Choose a size v w)
  asks hash own a size v w (seen.Chosen x) fits e goes = subst (λ step. Leads step (λ d. left first peak new d ≤ 1) (λ e. Unit {0})) goes
      (choose_stays first peak new c a size v w x (ap (λ ws. word_at ws (bucket_at size c.hash v)) (e.0 a) ∙ fits.2))
  asks hash own a size v w s fits e goes = absurd e

  rests : (p : Point) → Leads (next_at c p s) (λ d. left first peak new d < Before p) (λ e. Unit {0}) → next_at c p s ≡ Going d →
      left first peak new d < Before p
  rests p falls goes = subst (λ step. Leads step (λ d. left first peak new d < Before p) (λ e. Unit {0})) goes falls

  pub point_lowers : (hash : ℕ → ℕ) (own : ℕ → Bool) (p : Point) → FitsAt hash own c.hash old p → Effect hash own (wanted c.hash p) s old new →
      next_at c p s ≡ Going d → (Rests p → Leads (next_at c p s) (λ d. left first peak new d < Before p) (λ e. Unit {0})) →
      (Rests p → left first peak new d < Before p) × (left first peak new d ≤ Before p)
  point_lowers hash own = rest_cases
      (λ p. FitsAt hash own c.hash old p → Effect hash own (wanted c.hash p) s old new → next_at c p s ≡ Going d →
      (Rests p → Leads (next_at c p s) (λ d. left first peak new d < Before p) (λ e. Unit {0})) →
      (Rests p → left first peak new d < Before p) × (left first peak new d ≤ Before p))
      (λ p still fits e goes falls. let less : left first peak new d < Before p = rests p (falls still) goes in (λ r. less, omega arith))
      (λ a size v w fits e goes falls. (λ r. absurd r, asks hash own a size v w s fits e goes))

pub left_falls : (hash : ℕ → ℕ) (same : ℕ → ℕ → Bool) (mine own : ℕ → Bool) (c d : Call) (s : Seen) (old new : Memory) (first peak : ℕ) →
    Makes hash same mine own c s old new → IsShort first peak old → next_of c s ≡ Going d →
    (Rests c.point → left first peak new d < left first peak old c) × (left first peak new d ≤ left first peak old c)
left_falls hash same mine own c d s old new first peak m short goes =
    point_lowers first peak old new c d s hash own c.point m.fits m.effect goes
    (λ r. point_falls c m.key old new m.sound first peak short still c.point s r m.fits m.effect)
  where
    still : IsShort first peak new
    still =
        let same_count = length_permutation (present_nodes old) (present_nodes new) (going_keeps_map hash same mine own c d s old new m goes) in
        let keys = short.keys in
        short_stays hash same mine own c s old new first peak m short (omega arith)
