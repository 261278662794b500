-- What a call knows lasts.
use Rattle.std.proofs.Common.{◌≡◌, ◌≢◌, ℕ, ◌<◌, ◌≤◌, Bool, List, [], ◌∷◌, take, length, Option, Some, None, zero, suc, refl, sym, ap, subst, ◌∙◌, arith}
use Rattle.std.proofs.lemmas.List.{ext_get_or}
use Rattle.std.proofs.lemmas.Option.{slice_get-get_or}
use Rattle.moka_words.specs.declared.words.Word.{Word}
use Rattle.moka_words.specs.declared.words.Word.TheVariants.{Unset}
use Rattle.moka_words.specs.Words.{is_sealed, word_at, NamesKeys}
use Rattle.moka_words.specs.Later.{LaterWords}
use Rattle.moka_words.specs.Layout.{stored_nodes, layout}
use Rattle.moka_words.specs.Effect.{Memory, array_at, array_before, words_of, LaterMemory}
use Rattle.moka_words.proofs.Lasts.{words_later}
use Rattle.moka_words.proofs.Passing.{passed_lasts}
use Rattle.moka_growth.specs.Growing.{IsSealed, with_hashes}
use Rattle.moka_growth.specs.Sound.{IsSound}
use Rattle.moka_growth.specs.Calls.{Point, Call}
use Rattle.moka_growth.specs.Calls as call
use Rattle.moka_growth.specs.Fits.{IsKey, HasBeenRoot, HasMet, IsProbing, IsSealing, IsLeft, IsKept, IsCopying, IsFilled, FitsAt, Fits, Rests}
use Rattle.moka_growth.proofs.Places.{no_number}

-- the first words of an array, where they are the same
pub take_same : (i : ℕ) (xs ys : List Word) → length xs ≡ length ys →
    ((k : ℕ) → k < i → word_at xs k ≡ word_at ys k) → take i xs ≡ take i ys
take_same zero xs ys long same = refl
take_same (suc i) [] [] long same = refl
take_same (suc i) [] (y ∷ ys) long same = absurd (omega arith)
take_same (suc i) (x ∷ xs) [] long same = absurd (omega arith)
take_same (suc i) (x ∷ xs) (y ∷ ys) long same =
    let first : x ≡ y = same 0 (omega arith) in
    let rest : take i xs ≡ take i ys = take_same i xs ys (omega arith) (λ k h. same (suc k) (omega arith)) in
    ap (λ w. w ∷ take i xs) first ∙ ap (λ ws. y ∷ ws) rest

-- a wholly sealed array stays as it is
pub sealed_stay : (same : ℕ → ℕ → Bool) (old new : List Word) → LaterWords same old new → IsSealed old → new ≡ old
sealed_stay same old new later sealed = ext_get_or Unset new old later.length_stays
    (λ i h. let long = later.length_stays in (later.later i).sealed (sealed i (omega arith)))

pub later_memory_goes_on : (hash : ℕ → ℕ) (same : ℕ → ℕ → Bool) (old mid new : Memory) → NamesKeys hash same →
    LaterMemory same old mid → LaterMemory same mid new → LaterMemory same old new
later_memory_goes_on hash same old mid new names a b =
    let longer = a.longer in let longer_yet = b.longer in let rooted = a.rooted in let rooted_yet = b.rooted in
    let fresh = a.fresh in let fresh_yet = b.fresh in
    record {
      words = λ place n e h. words_later same names (old.words n) (mid.words n) (new.words n) (a.words place n e h)
          (b.words place n (a.arrays place n e) (omega arith));
      arrays = λ place n e. b.arrays place n (a.arrays place n e);
      longer = omega arith;
      rooted = omega arith;
      fresh = omega arith;
    }

module _ {hash : ℕ → ℕ} (same : ℕ → ℕ → Bool) {mine own : ℕ → Bool} {h : ℕ} (key : IsKey hash same mine own h)
    (old new : Memory) (sound : IsSound hash same mine old) (later : LaterMemory same old new) where
  pub words_last : (p a : ℕ) → array_at old p ≡ Some a → LaterWords same (old.words a) (new.words a)
  words_last p a e = later.words p a e (sound.numbered p a e)

  pub rooted_lasts : (a : ℕ) → HasBeenRoot old a → HasBeenRoot new a
  rooted_lasts a r = let before = r.before in let rooted = later.rooted in
      record { place = r.place; before = omega arith; there = later.arrays r.place a r.there }

  met_lasts : (a : ℕ) → HasMet old a → HasMet new a
  met_lasts a m = record {
    rooted = rooted_lasts a m.rooted;
    index = m.index;
    sealed = ap is_sealed (((words_last m.rooted.place a m.rooted.there).later m.index).sealed m.sealed) ∙ m.sealed;
  }

  pub probing_lasts : (a size passed : ℕ) → IsProbing own h old a size passed → IsProbing own h new a size passed
  probing_lasts a size passed p = record {
    rooted = rooted_lasts a p.rooted;
    size_is = p.size_is ∙ sym (words_last p.rooted.place a p.rooted.there).length_stays;
    passed_are = passed_lasts same own (old.words a) (new.words a) h passed key.one (words_last p.rooted.place a p.rooted.there) p.passed_are;
    more = p.more;
  }

  pub sealing_lasts : (a size i : ℕ) (kept : List (ℕ × ℕ)) → IsSealing hash old a size i kept → IsSealing hash new a size i kept
  sealing_lasts a size i kept s = record {
    rooted = rooted_lasts a s.rooted;
    size_is = s.size_is ∙ sym words.length_stays;
    more = s.more;
    sealed = λ k below. ap is_sealed (same_word k below) ∙ s.sealed k below;
    kept_are = s.kept_are ∙ ap (λ ws. with_hashes hash (stored_nodes ws))
        (take_same i (old.words a) (new.words a) (sym words.length_stays) (λ k below. sym (same_word k below)));
  }
    where
      words : LaterWords same (old.words a) (new.words a)
      words = words_last s.rooted.place a s.rooted.there

      same_word : (k : ℕ) → k < i → word_at (new.words a) k ≡ word_at (old.words a) k
      same_word k below = (words.later k).sealed (s.sealed k below)

  -- an array that is left keeps its place and its words
  pub left_stays : (p : ℕ) (array : Option ℕ) → IsLeft old p array →
      (array_before new p ≡ array) × (words_of new array ≡ words_of old array)
  left_stays p array left = by p array left.stands.there left.stands.within left.sealed
    where
      some : (q : ℕ) (o : Option ℕ) → array_at old q ≡ o → suc q ≤ length old.arrays → IsSealed (words_of old o) →
          (array_at new q ≡ o) × (words_of new o ≡ words_of old o)
      some q None e within sealed = absurd (no_number e (slice_get-get_or old.arrays q 0 (omega arith)))
      some q (Some a) e within sealed =
          (later.arrays q a e, sealed_stay same (old.words a) (new.words a) (words_last q a e) sealed)

      by : (p : ℕ) (o : Option ℕ) → array_before old p ≡ o → p ≤ length old.arrays → IsSealed (words_of old o) →
          (array_before new p ≡ o) × (words_of new o ≡ words_of old o)
      by zero None e within sealed = (refl, refl)
      by zero (Some a) e within sealed = absurd (cc e)
      by (suc q) o e within sealed = some q o e within sealed

  pub left_lasts : (p : ℕ) (array : Option ℕ) → IsLeft old p array → IsLeft new p array
  left_lasts p array left =
      let stays = left_stays p array left in
      let within = left.stands.within in let longer = later.longer in let rooted = left.rooted in let rooted_yet = later.rooted in
      record {
        stands = record { there = stays.0; within = omega arith };
        rooted = omega arith;
        sealed = subst (λ ws. IsSealed ws) (sym stays.1) left.sealed;
      }

  pub kept_lasts : (array : Option ℕ) (size : ℕ) (kept : List (ℕ × ℕ)) → IsKept hash old array size kept →
      IsKept hash new array size kept
  kept_lasts array size kept k =
      let stays = left_stays k.place array k.left in
      record {
        place = k.place;
        left = left_lasts k.place array k.left;
        size_is = k.size_is ∙ ap (λ ws. length ws) (sym stays.1);
        kept_are = k.kept_are ∙ ap (λ ws. with_hashes hash (stored_nodes ws)) (sym stays.1);
      }

  set_lasts : (p a : ℕ) → array_at old p ≡ Some a → (i : ℕ) → word_at (old.words a) i ≢ Unset → word_at (new.words a) i ≢ Unset
  set_lasts p a e i set_ d = set_ (((words_last p a e).later i).set d)

  pub copying_lasts : (from : Option ℕ) (a i : ℕ) (laid : List Word) → IsCopying hash old from a i laid →
      IsCopying hash new from a i laid
  copying_lasts from a i laid c =
      let stays = left_stays c.place from c.left in
      let long : length (new.words a) ≡ length (old.words a) = (words_last c.place a c.there).length_stays in
      let more = c.more in
      record {
        place = c.place;
        left = left_lasts c.place from c.left;
        there = later.arrays c.place a c.there;
        laid_is = c.laid_is ∙ (ap (λ ws. layout hash ws (length (old.words a))) (sym stays.1) ∙
            ap (λ l. layout hash (words_of new from) l) (sym long));
        more = omega arith;
        set = λ k below. set_lasts c.place a c.there k (c.set k below);
      }

  pub filled_lasts : (from : Option ℕ) (a : ℕ) → IsFilled old from a → IsFilled new from a
  filled_lasts from a f =
      let long : length (new.words a) ≡ length (old.words a) = (words_last f.place a f.there).length_stays in
      record {
        place = f.place;
        left = left_lasts f.place from f.left;
        there = later.arrays f.place a f.there;
        set = λ k below. set_lasts f.place a f.there k (f.set k (omega arith));
      }

  pub point_lasts : (p : Point) → Rests p → FitsAt hash own h old p → FitsAt hash own h new p
  point_lasts (call.Root None) rests fits = tt
  point_lasts (call.Root (Some a)) rests fits = met_lasts a fits
  point_lasts (call.Probe a l v) rests fits = probing_lasts a l v fits
  point_lasts (call.Choose a l v w) rests fits = absurd rests
  point_lasts (call.Change a l v from to) rests fits = (probing_lasts a l v fits.0, fits.1)
  point_lasts (call.Walk a l i nodes) rests fits =
      (rooted_lasts a fits.0, fits.1 ∙ sym (words_last fits.0.place a fits.0.there).length_stays, fits.2)
  point_lasts (call.Seal a l i kept) rests fits = sealing_lasts a l i kept fits
  point_lasts (call.Close a l i w x kept) rests fits = (sealing_lasts a l i kept fits.0, fits.1, fits.2)
  point_lasts (call.Next array l kept) rests fits = kept_lasts array l kept fits
  point_lasts (call.Link array l kept) rests fits = kept_lasts array l kept fits
  point_lasts (call.Copy from a i laid) rests fits = copying_lasts from a i laid fits
  point_lasts (call.Swing from a) rests fits = filled_lasts from a fits

pub fits_lasts : (hash : ℕ → ℕ) (same : ℕ → ℕ → Bool) (mine own : ℕ → Bool) (c : Call) (old new : Memory) →
    NamesKeys hash same → IsKey hash same mine own c.hash → IsSound hash same mine old → LaterMemory same old new → Rests c.point →
    Fits hash own old c → Fits hash own new c
fits_lasts hash same mine own c old new names key sound later rests fits = point_lasts same key old new sound later c.point rests fits
