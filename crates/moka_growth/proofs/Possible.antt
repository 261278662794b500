-- Each fitting call can make its access.
use Rattle.std.proofs.Common.{◌≡◌, ◌≢◌, ℕ, Bool, true, false, [], ◌∷◌, ◌++◌, length, replicate, Option, Some, None, suc, inl, inr, refl, sym, ap, subst, ◌∙◌, set, eqb, if◌then◌else◌}
use Rattle.std.specs.Option.{option_eq, option_map_or}
use Rattle.std.proofs.lemmas.Bool.{false≢true, eqb-true, eq-eqb}
use Rattle.moka_words.specs.declared.words.Word.{Word}
use Rattle.moka_words.specs.declared.words.Word.TheVariants.{Unset}
use Rattle.moka_words.specs.declared.accesses.Access.{Access}
use Rattle.moka_words.specs.declared.accesses.Access.TheVariants as access
use Rattle.moka_words.specs.declared.accesses.Choice.TheVariants as choice
use Rattle.moka_words.specs.declared.accesses.Seen.{Seen}
use Rattle.moka_words.specs.declared.accesses.Seen.TheVariants as seen
use Rattle.moka_words.specs.Words.{node_of, word_at}
use Rattle.moka_words.specs.Arrays.{bucket_at}
use Rattle.moka_words.specs.Effect.{Memory, array_at, root, words_of, StandsBefore, IsUnchanged, SetsWord, Links, Linked, Effect}
use Rattle.moka_growth.specs.Growing.{seal_of, next_size}
use Rattle.moka_growth.specs.Sound.{IsSound}
use Rattle.moka_growth.specs.Calls.{Point, Call, wanted, access_of}
use Rattle.moka_growth.specs.Calls as call
use Rattle.moka_growth.specs.Fits.{IsFilled, FitsAt, Fits}
use Rattle.moka_growth.specs.Left.{word_eq}
use Rattle.moka_growth.proofs.Places.{before_one}
use Rattle.moka_growth.proofs.Weighing.{word_same, word_true, option_same, option_true}

-- some access is made
abbrev Can : (hash : ℕ → ℕ) (own : ℕ → Bool) → Memory → Access → Type 0
Can hash own m a = (s : Seen) × (new : Memory) × Effect hash own a s m new

same_memory : (m : Memory) → IsUnchanged m m
same_memory m = (λ a. refl, record { arrays = refl; rooted = refl; fresh = refl })

-- a memory in which one word was set
with_word : Memory → (a i : ℕ) → Word → Memory
with_word m a i w = record m { words = λ b. if eqb b a then set (m.words a) i w else m.words b }

word_set : (m : Memory) (a i : ℕ) (w : Word) → SetsWord a i w m (with_word m a i w)
unfolding with_word
word_set m a i w =
    (ap (λ q. if q then set (m.words a) i w else m.words a) (eq-eqb a a refl), others, record { arrays = refl; rooted = refl; fresh = refl })
  where
    by : (b : ℕ) (q : Bool) → b ≢ a → eqb b a ≡ q → (if q then set (m.words a) i w else m.words b) ≡ m.words b
    by b true other e = absurd (other (eqb-true b a e))
    by b false other e = refl

    others : (b : ℕ) → b ≢ a → (if eqb b a then set (m.words a) i w else m.words b) ≡ m.words b
    others b other = by b (eqb b a) other refl

-- a memory in which an array was linked
with_array : Memory → (size : ℕ) → Memory
with_array m size = record m {
  words = λ b. if eqb b m.fresh then replicate size Unset else m.words b;
  arrays = m.arrays ++ m.fresh ∷ [];
  fresh = suc m.fresh;
}

array_linked : (m : Memory) (size : ℕ) → Links size m (with_array m size)
unfolding with_array
array_linked m size = record {
  unset = ap (λ q. if q then replicate size Unset else m.words m.fresh) (eq-eqb m.fresh m.fresh refl);
  others = others;
  arrays = refl;
  rooted = refl;
  fresh = refl;
}
  where
    by : (b : ℕ) (q : Bool) → b ≢ m.fresh → eqb b m.fresh ≡ q → (if q then replicate size Unset else m.words b) ≡ m.words b
    by b true other e = absurd (other (eqb-true b m.fresh e))
    by b false other e = refl

    others : (b : ℕ) → b ≢ m.fresh → (if eqb b m.fresh then replicate size Unset else m.words b) ≡ m.words b
    others b other = by b (eqb b m.fresh) other refl

module _ (hash : ℕ → ℕ) (own : ℕ → Bool) (m : Memory) where
  can_load : (a i : ℕ) → Can hash own m (access.LoadWord a i)
  can_load a i =
      let w = word_at (m.words a) i in
      (seen.Word w (option_map_or hash (node_of w) 0) (option_map_or own (node_of w) false), m, (refl, refl, refl, same_memory m))

  can_exchange : (a i : ℕ) (from to : Word) → Can hash own m (access.Exchange a i from to)
  can_exchange a i from to = by (word_eq (word_at (m.words a) i) from) refl
    where
      by : (q : Bool) → word_eq (word_at (m.words a) i) from ≡ q → Can hash own m (access.Exchange a i from to)
      by true e = (seen.Exchanged None, with_word m a i to, (word_true (word_at (m.words a) i) from e, word_set m a i to))
      by false e = (
        seen.Exchanged (Some (word_at (m.words a) i)),
        m,
        (refl, λ d. false≢true (sym e ∙ (ap (λ w. word_eq w from) d ∙ word_same from)), same_memory m),
      )

  can_link : (array : Option ℕ) (asked place : ℕ) → StandsBefore m place array → Can hash own m (access.Link array asked)
  can_link array asked place stands = by (array_at m place) refl
    where
      by : (o : Option ℕ) → array_at m place ≡ o → Can hash own m (access.Link array asked)
      by None e = (
        seen.Linked m.fresh asked,
        with_array m asked,
        (
          place,
          stands,
          subst (λ o. Linked o asked m.fresh asked m (with_array m asked)) (sym e) (refl, refl, array_linked m asked),
        ),
      )
      by (Some b) e = (
        seen.Linked b (length (m.words b)),
        m,
        (place, stands, subst (λ o. Linked o asked b (length (m.words b)) m m) (sym e) (refl, refl, same_memory m)),
      )

  can_copy : (a i : ℕ) (to : Word) → Can hash own m (access.Copy a i to)
  can_copy a i to = by (word_eq (word_at (m.words a) i) Unset) refl
    where
      by : (q : Bool) → word_eq (word_at (m.words a) i) Unset ≡ q → Can hash own m (access.Copy a i to)
      by true e = (seen.Copied, with_word m a i to, inl (word_true (word_at (m.words a) i) Unset e, word_set m a i to))
      by false e = (seen.Copied, m, inr (λ d. false≢true (sym e ∙ (ap (λ w. word_eq w Unset) d ∙ word_same Unset)), same_memory m))

  can_swing : {same : ℕ → ℕ → Bool} {mine : ℕ → Bool} → IsSound hash same mine m → (from : Option ℕ) (a : ℕ) → IsFilled m from a →
      Can hash own m (access.Swing from a)
  can_swing sound from a filled = by (option_eq eqb (root m) from) refl
    where
      by : (q : Bool) → option_eq eqb (root m) from ≡ q → Can hash own m (access.Swing from a)
      by true e =
          let is_root = option_true (root m) from e in
          let place = before_one m sound filled.place m.rooted from filled.left.stands
          (record { there = is_root; within = sound.linked }) in (
            seen.Swung,
            record m { rooted = suc m.rooted },
            inl (
              is_root,
              ap (λ p. array_at m p) (sym place) ∙ filled.there,
              record { words = λ b. refl; arrays = refl; rooted = refl; fresh = refl },
            ),
          )
      by false e =
          (seen.Swung, m, inr (λ d. false≢true (sym e ∙ (ap (λ o. option_eq eqb o from) d ∙ option_same from)), same_memory m))

  pub point_can : {same : ℕ → ℕ → Bool} {mine : ℕ → Bool} → IsSound hash same mine m → (h : ℕ) (p : Point) → FitsAt hash own h m p →
      Can hash own m (wanted h p)
  point_can sound h (call.Root met) fits = (
    seen.Root (root m) (length (words_of m (root m))) (option_map_or m.tombstones (root m) 0) m.len,
    m,
    (refl, refl, refl, refl, same_memory m),
  )
  point_can sound h (call.Probe a l v) fits = can_load a (bucket_at l h v)
  point_can sound h (call.Choose a l v w) fits = (seen.Chosen choice.Keep, m, same_memory m)
  point_can sound h (call.Change a l v from to) fits = can_exchange a (bucket_at l h v) from to
  point_can sound h (call.Walk a l i nodes) fits = can_load a i
  point_can sound h (call.Seal a l i kept) fits = can_load a i
  point_can sound h (call.Close a l i w x kept) fits = can_exchange a i w (seal_of w)
  point_can sound h (call.Next array l kept) fits = (
    seen.Next (array_at m fits.place) (length (words_of m (array_at m fits.place))),
    m,
    (fits.place, fits.left.stands, refl, refl, same_memory m),
  )
  point_can sound h (call.Link array l kept) fits = can_link array (next_size array l (length kept)) fits.place fits.left.stands
  point_can sound h (call.Copy from a i laid) fits = can_copy a i (word_at laid i)
  point_can sound h (call.Swing from a) fits = can_swing sound from a fits

pub access_can_be_made : (hash : ℕ → ℕ) (same : ℕ → ℕ → Bool) (mine own : ℕ → Bool) (c : Call) (m : Memory) → IsSound hash same mine m →
    Fits hash own m c → (s : Seen) × (new : Memory) × Effect hash own (access_of c) s m new
access_can_be_made hash same mine own c m sound fits = point_can hash own m sound c.hash c.point fits
