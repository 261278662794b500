-- What a look answers is what the map of the history has.
use Rattle.std.proofs.Common.{◌≡◌, ℕ, ◌<◌, Bool, true, false, List, Option, Some, None, refl, sym, ap, subst, ◌∙◌}
use Rattle.std.specs.Option.{option_map_or}
use Rattle.moka_words.specs.declared.words.Word.{Word}
use Rattle.moka_words.specs.declared.words.Word.TheVariants.{Unset, Empty, Live, Tomb, SealedEmpty, SealedLive, SealedTomb}
use Rattle.moka_words.specs.Words.{node_of, stored_in, word_at}
use Rattle.moka_words.specs.Arrays.{bucket_at}
use Rattle.moka_growth.specs.Fits.{IsOpen}
use Rattle.moka_pairs.specs.Keys.{own_by}
use Rattle.moka_pairs.specs.Pairs.{pair_at}
use Rattle.moka_history.specs.declared.note.Note.{Note}
use Rattle.moka_history.specs.Entries.{IsLegal, map_after}
use Rattle.moka_history.specs.Logs.{entries_of, state_of}
use Rattle.moka_history.specs.Rules.{IsKept}
use Rattle.moka_history.specs.Keeping.{IsDivided}
use Rattle.moka_history.proofs.Fronts.{good_now}
use Rattle.moka_shared.specs.declared.answers.TryGet.{TryGet}
use Rattle.moka_shared.specs.declared.answers.TryGet.TheVariants as get
use Rattle.moka_shared.specs.Looks.{Finds, IsSo}
use Rattle.moka_shared.specs.Probing.{EndsAt, HasProbed, IsFirstRoot, IsLogOf, own_keys, own_words}
use Rattle.moka_shared.specs.Tables.{Table}
use Rattle.moka_shared.proofs.Probed.{ended_is_history, full_is_history, known_is, pair}

-- the entries of a kept log are legal
pub legal_of : {K V S : Type 0} (eq : K → K → Bool) (hash : S → K → ℕ) (place : S → ℕ → K → ℕ) (log : List (Note K V S)) → IsKept eq hash place log →
    IsLegal eq (entries_of log)
legal_of eq hash place log kept = (good_now eq hash place log kept).legal

no_value : {V : Type 0} {v : V} → Some v ≡ None → ⊥
no_value e = cc

-- what is so of one key is so of an equal one
so_too : {V : Type 0} (A B : V → Type 0) → ((v : V) → A v → B v) → (got : TryGet V) → IsSo A got → IsSo B got
so_too A B to (get.Found None) so = tt
so_too A B to (get.Found (Some v)) so = to v so
so_too A B to (get.Again missed) so = tt

none_so : (K : Type 0) {V : Type 0} (B : V → Type 0) (got : TryGet V) → Finds {K = K} {V = V} None got → IsSo B got
none_so K B (get.Found None) finds = tt
none_so K B (get.Found (Some v)) finds = absurd (no_value finds)
none_so K B (get.Again missed) finds = tt

module _ {K V S : Type 0} (eq : K → K → Bool) (hash : S → K → ℕ) (place : S → ℕ → K → ℕ) (divided : IsDivided eq hash place) (t : Table S) (key : K)
    (below : place t.hasher t.segments key < t.segments) (h : ℕ) (h_is : h ≡ hash t.hasher key) (log : List (Note K V S)) (x : IsLogOf eq hash place t log) where
  pub ended_finds : (passed : ℕ) (word : Word) → EndsAt eq place t key h log passed word → (got : TryGet V) →
      Finds (pair_at (state_of log).pairs (stored_in word)) got → Finds (map_after eq (entries_of log) key) got
  ended_finds passed word ends got finds =
      subst (λ (p : Option (K × V)). Finds p got) (sym (ended_is_history eq hash place divided t key below h h_is log x passed word ends)) finds

  pub full_finds : HasProbed eq place t key h log t.size × IsFirstRoot (place t.hasher t.segments key) log → Finds (map_after eq (entries_of log) key) (get.Found None)
  full_finds probed = subst (λ (p : Option (K × V)). Finds p (get.Found None)) (sym (full_is_history eq hash place divided t key below h h_is log x probed)) refl

  -- the fact holds of what was found
  module _ (holds : K → V → Type 0) (alike : (a b : K) (v : V) → eq a b ≡ true → holds a v → holds b v) where
    pub ended_so : (passed : ℕ) (word : Word) → EndsAt eq place t key h log passed word → (got : TryGet V) →
        Finds (pair_at (state_of log).pairs (stored_in word)) got →
        ((p : K × V) → pair_at (state_of log).pairs (stored_in word) ≡ Some p → IsSo (holds p.0) got) → IsSo (holds key) got
    ended_so passed word ends got finds so = by word ends.there ends.opens finds so
      where
        by : (w : Word) → word_at (own_words place t key log) (bucket_at t.size h passed) ≡ w → IsOpen (own_by eq (own_keys place t key log) key) w →
            Finds (pair_at (state_of log).pairs (stored_in w)) got →
            ((p : K × V) → pair_at (state_of log).pairs (stored_in w) ≡ Some p → IsSo (holds p.0) got) → IsSo (holds key) got
        by Unset e o f s = absurd o
        by Empty e o f s = none_so K (holds key) got f
        by (Live n) e o f s =
            let there = pair eq hash place divided t key below h h_is log x (bucket_at t.size h passed) n (ap node_of e) in
            let known = known_is eq hash place divided t key below h h_is log x (bucket_at t.size h passed) n (ap node_of e) in
            let equal : eq key there.0.0 ≡ true = sym (ap (λ k. option_map_or (eq key) k false) known) ∙ o in
            so_too (holds there.0.0) (holds key) (λ v. alike there.0.0 key v (divided.laws.symm there.0.0 key ∙ equal)) got (s there.0 there.1)
        by (Tomb n) e o f s = none_so K (holds key) got f
        by SealedEmpty e o f s = absurd o
        by (SealedLive n) e o f s = absurd o
        by (SealedTomb n) e o f s = absurd o
