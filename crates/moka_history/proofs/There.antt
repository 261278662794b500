-- What a call that wants to link an array sees where another one was linked.
use Rattle.std.proofs.Common.{◌≡◌, ◌≢◌, ℕ, Bool, List, length, Option, Some, None, zero, suc, refl, sym, ap, subst, ◌∙◌, arith}
use Rattle.std.proofs.lemmas.Option.{slice_get_within}
use Rattle.std.specs.List.{slice_get}
use Rattle.moka_words.specs.declared.accesses.Seen.TheVariants as seen
use Rattle.moka_words.specs.Effect.{Memory, Effect, Linked, array_before}
use Rattle.moka_growth.specs.Calls.{Call, access_of, wanted}
use Rattle.moka_growth.specs.Calls as call
use Rattle.moka_growth.specs.Fits.{FitsAt, IsKept as HasKept}
use Rattle.moka_growth.specs.Growing.{next_size}
use Rattle.moka_pairs.specs.Keys.{hash_by, own_for}
use Rattle.moka_pairs.specs.Segments.{EffectAll}
use Rattle.moka_pairs.proofs.Names.{agrees_now}
use Rattle.moka_history.specs.Entries.{Entry}
use Rattle.moka_history.specs.States.{Next, State, chain, memory_of, no_next, words_in}
use Rattle.moka_history.specs.Rules.{keys_of, IsGood, named}
use Rattle.moka_history.specs.Keeping.{StandsAt}
use Rattle.moka_history.proofs.Chains.{chain_one}
use Rattle.moka_history.proofs.Lists.{no_item}

-- a number other than the one for none names an array
named_some : (none array : ℕ) (o : Option ℕ) → array ≡ named none o → array ≢ none → o ≡ Some array
named_some none array None is some = absurd (some is)
named_some none array (Some b) is some = ap Some (sym is)

module _ {K V : Type 0} (eq : K → K → Bool) (hash place : K → ℕ) (s : State K V) (es : List (Entry K V)) (good : IsGood eq hash place s es)
    (segment grown size : ℕ) (kept : List (ℕ × ℕ)) (key : Option K) (c : Call)
    (x : StandsAt eq hash place s segment key c (call.Link (Some grown) size kept)) (next array : ℕ)
    (at : slice_get s.cells next ≡ Some (Next grown array)) (some : array ≢ no_next segment grown) where
  abbrev m : Memory
  m = memory_of s segment

  abbrev known : ℕ → Option K
  known = keys_of place s segment

  has_kept : HasKept (hash_by hash known) m (Some grown) size kept
  has_kept = subst (λ p. FitsAt (hash_by hash known) (own_for eq known key) c.hash m p) x.stands (x.fits known (agrees_now known))

  -- where the array stands that is grown
  stands : (p : ℕ) × (slice_get (chain s segment) p ≡ Some grown)
  stands = by has_kept.place has_kept.left.stands.there
    where
      by : (p : ℕ) → array_before m p ≡ Some grown → (q : ℕ) × (slice_get (chain s segment) q ≡ Some grown)
      by zero e = absurd (no_item e)
      by (suc p) e = (p, e)

  -- the one that was linked after it
  pub at_link : (p : ℕ) × (slice_get (chain s segment) p ≡ Some grown) × (slice_get (s.links segment) p ≡ Some array)
  at_link =
      let (i, q, low, there, names) = good.linked.nexts next grown array at in
      let same : i ≡ segment = chain_one s good.linked i segment q stands.0 grown low x.within there stands.1 in (
        q,
        subst (λ j. slice_get (chain s j) q ≡ Some grown) same there,
        named_some (no_next segment grown) array (slice_get (s.links segment) q)
            (names ∙ ap (λ j. named (no_next j grown) (slice_get (s.links j) q)) same) some,
      )

  pub link_there : EffectAll eq hash known key (access_of c) (seen.Linked array (length (words_in s array))) m m
  link_there ks agrees = subst (λ a. Effect (hash_by hash ks) (own_for eq ks key) a (seen.Linked array (length (words_in s array))) m m)
      (sym (ap (wanted c.hash) x.stands)) (
        suc at_link.0,
        record { there = at_link.1; within = let low = slice_get_within (chain s segment) at_link.0 grown at_link.1 in omega (arith, low) },
        subst (λ o. Linked o (next_size (Some grown) size (length kept)) array (length (words_in s array)) m m) (sym at_link.2)
            (refl, refl, (λ a. refl, record { arrays = refl; rooted = refl; fresh = refl })),
      )
