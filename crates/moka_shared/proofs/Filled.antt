-- An array without a free bucket was filled by puts.
use Rattle.std.proofs.Common.{◌≡◌, ℕ, ◌<◌, Bool, List, Some, refl, sym, ap, subst, suc, ◌∙◌, arith}
use Rattle.std.specs.Prelude.{IsSome}
use Rattle.moka_words.specs.Arrays.{bucket_at}
use Rattle.moka_words.specs.Words.{node_of, word_at}
use Rattle.moka_words.proofs.Probes.{comes_to_each}
use Rattle.moka_pairs.proofs.Names.{agrees_now}
use Rattle.moka_history.specs.declared.note.Note.{Note}
use Rattle.moka_history.specs.States.{words_in}
use Rattle.moka_history.specs.Logs.{entries_of, state_of}
use Rattle.moka_history.specs.Keeping.{ArePut, IsDivided}
use Rattle.moka_history.proofs.Fronts.{full_put}
use Rattle.moka_shared.specs.Probing.{HasProbed, IsLogOf, own_keys, own_words}
use Rattle.moka_shared.specs.Tables.{Table}
use Rattle.moka_shared.proofs.Loading.{first_rooted, kept_as}
use Rattle.moka_shared.proofs.Probed.{long, own_at}

module _ {K V S : Type 0} (eq : K → K → Bool) (hash : S → K → ℕ) (place : S → ℕ → K → ℕ) (divided : IsDivided eq hash place) (t : Table S) (key : K)
    (below : place t.hasher t.segments key < t.segments) (h : ℕ) (h_is : h ≡ hash t.hasher key) (log : List (Note K V S)) (x : IsLogOf eq hash place t log) where
  module _ (probed : HasProbed eq place t key h log t.size) where
    full : (index : ℕ) → index < t.size → IsSome (node_of (word_at (words_in (state_of log) (suc (own_at place t key))) index))
    full index inside =
        let (n, low, is) = comes_to_each t.size h index inside in
        let (m, named, other) = probed (own_keys place t key log) (agrees_now (own_keys place t key log)) n low in
        let there : node_of (word_at (own_words place t key log) index) ≡ Some m =
        ap (λ k. node_of (word_at (own_words place t key log) k)) (sym is)
        ∙ (ap (λ l. node_of (word_at (own_words place t key log) (bucket_at l h n))) (sym (long eq hash place divided t key below h h_is log x)) ∙ named) in
        subst (λ o. IsSome o) (sym there) refl

    pub filled : (segment count : ℕ) → segment ≡ own_at place t key → count ≡ t.size →
        ArePut eq (place t.hasher t.segments) (entries_of log) segment count
    filled segment count segment_is count_is =
        subst (λ s. ArePut eq (place t.hasher t.segments) (entries_of log) s count) (sym segment_is)
        (subst (λ n. ArePut eq (place t.hasher t.segments) (entries_of log) (own_at place t key) n) (sym count_is)
        (subst (λ n. ArePut eq (place t.hasher t.segments) (entries_of log) (own_at place t key) n) (long eq hash place divided t key below h h_is log x)
        (full_put eq hash place log (kept_as eq hash place t log x) (own_at place t key) (suc (own_at place t key)) (first_rooted eq hash place t log x (own_at place t key) below)
        (λ index inside. full index (let l = long eq hash place divided t key below h h_is log x in omega (arith, inside, l))))))
