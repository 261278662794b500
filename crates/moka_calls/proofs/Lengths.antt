-- The lengths that accesses see in sound segments.
use Rattle.std.proofs.Common.{◌≡◌, ℕ, zero, suc, Bool, List, [], ◌∷◌, ◌++◌, length, Option, Some, None, refl, sym, ap, subst, ◌∙◌}
use Rattle.std.proofs.lemmas.List.{length-replicate}
use Rattle.std.specs.List.{slice_get}
use Rattle.moka_words.specs.declared.words.Word.TheVariants.{Unset}
use Rattle.moka_words.specs.declared.accesses.Access.{Access}
use Rattle.moka_words.specs.declared.accesses.Access.TheVariants as access
use Rattle.moka_words.specs.declared.accesses.Seen.{Seen}
use Rattle.moka_words.specs.declared.accesses.Seen.TheVariants as seen
use Rattle.moka_words.specs.Effect.{Memory, array_at, array_before, words_of, Effect, Linked}
use Rattle.moka_growth.specs.Sound.{IsSound}
use Rattle.moka_calls.specs.Standing.{IsSize, IsSizeOf, MaySee}
use Rattle.moka_calls.specs.Laws.{AreShort}

-- what was put at the end stands there
at_end : (xs : List ℕ) (x : ℕ) → slice_get (xs ++ x ∷ []) (length xs) ≡ Some x
at_end [] x = refl
at_end (y ∷ xs) x = at_end xs x

module _ (hash : ℕ → ℕ) (same : ℕ → ℕ → Bool) (mine : ℕ → Bool) where
  one_size : (m : Memory) → IsSound hash same mine m → AreShort m → (p a : ℕ) → array_at m p ≡ Some a → IsSize (length (m.words a))
  one_size m sound short p a there = record { power = sound.power p a there; small = short p a there }

  size_at : (m : Memory) → IsSound hash same mine m → AreShort m → (p : ℕ) (o : Option ℕ) → array_at m p ≡ o → IsSizeOf o (length (words_of m o))
  size_at m sound short p None there = tt
  size_at m sound short p (Some a) there = one_size m sound short p a there

  size_before : (m : Memory) → IsSound hash same mine m → AreShort m → (p : ℕ) (o : Option ℕ) → array_before m p ≡ o → IsSizeOf o (length (words_of m o))
  size_before m sound short zero None there = tt
  size_before m sound short zero (Some a) there = cc
  size_before m sound short (suc p) o there = size_at m sound short p o there

  linked_size : (old new : Memory) → IsSound hash same mine old → IsSound hash same mine new → AreShort old → AreShort new → (place : ℕ) (o : Option ℕ) →
      array_at old place ≡ o → (asked a size : ℕ) → Linked o asked a size old new → IsSize size
  linked_size old new before after short then_short place (Some b) there asked a size (is, long, same_memory) =
      subst IsSize (sym long) (one_size old before short place b there)
  linked_size old new before after short then_short place None there asked a size (is, long, links) =
      let end : array_at new (length old.arrays) ≡ Some old.fresh = ap (λ xs. slice_get xs (length old.arrays)) links.arrays ∙ at_end old.arrays old.fresh in
      let is_long : length (new.words old.fresh) ≡ size = ap length links.unset ∙ length-replicate asked Unset ∙ sym long in
      subst IsSize is_long (one_size new after then_short (length old.arrays) old.fresh end)

  pub seen_is_taken : (own : ℕ → Bool) (wanted : Access) (saw : Seen) (old new : Memory) → IsSound hash same mine old → IsSound hash same mine new →
      AreShort old → AreShort new → Effect hash own wanted saw old new → MaySee wanted saw
  seen_is_taken own access.LoadRoot (seen.Root array size t l) old new before after short then_short (is, long, tombs, keys, rest) =
      subst (λ n. IsSizeOf array n) (sym long) (size_before old before short old.rooted array (sym is))
  seen_is_taken own (access.LoadWord a i) (seen.Word w h s) old new before after short then_short e = tt
  seen_is_taken own (access.Choose present) (seen.Chosen choice) old new before after short then_short e = tt
  seen_is_taken own (access.Exchange a i from to) (seen.Exchanged met) old new before after short then_short e = tt
  seen_is_taken own (access.LoadNext array) (seen.Next next size) old new before after short then_short (place, stands, is, long, rest) =
      subst (λ n. IsSizeOf next n) (sym long) (size_at old before short place next (sym is))
  seen_is_taken own (access.Link array asked) (seen.Linked next size) old new before after short then_short (place, stands, links) =
      linked_size old new before after short then_short place (array_at old place) refl asked next size links
  seen_is_taken own (access.Copy a i to) seen.Copied old new before after short then_short e = tt
  seen_is_taken own (access.Swing from to) seen.Swung old new before after short then_short e = tt
  seen_is_taken own wanted saw old new before after short then_short e = absurd e
