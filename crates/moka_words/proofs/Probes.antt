-- Where probes come, and the first free bucket on the way.
use Rattle.std.proofs.Common.{◌≡◌, ℕ, ◌+◌, ◌-◌, ◌*◌, ◌/◌, ◌%◌, ◌<◌, Bool, true, false, List, map, length, Option, Some, None, is_none, IsSome, MatchOption, zero, suc, refl, ap, subst, ◌∙◌, arith, below_more, cond}
use Rattle.std.specs.List.{find, range_with_len}
use Rattle.std.proofs.Math.Nat.{add-mod-mod}
use Rattle.std.proofs.lemmas.Nat.{mod-mul-add, mod_below, div-add-mod'}
use Rattle.moka_words.specs.declared.words.Word.{Word}
use Rattle.moka_words.specs.Words.{node_of, word_at}
use Rattle.moka_words.specs.Arrays.{bucket_at, IsReached, first_free}

pub comes_to_each : (size hash i : ℕ) → i < size → (n : ℕ) × (n < size) × (bucket_at size hash n ≡ i)
comes_to_each size hash i h =
    ((i + (size - hash % size)) % size, mod_below (i + (size - hash % size)) size (omega arith), there)
  where
    whole : hash + (i + (size - hash % size)) ≡ (hash / size + 1) * size + i
    whole =
        let less : hash % size < size = mod_below hash size (omega arith) in
        let parts : hash / size * size + hash % size ≡ hash = div-add-mod' hash size in
        omega arith

    there : (hash + (i + (size - hash % size)) % size) % size ≡ i
    there = add-mod-mod hash (i + (size - hash % size)) size ∙ ap (λ x. x % size) whole ∙
        mod-mul-add (hash / size + 1) size i h

-- a word without a key, and one with a key
pub no_key : (o : Option ℕ) → is_none o ≡ true → o ≡ None
no_key None e = refl
no_key (Some n) e = cc

pub some_key : (o : Option ℕ) → is_none o ≡ false → IsSome o
some_key None e = cc
some_key (Some n) e = refl

-- the k-th bucket of the probe has a key
abbrev HasKey : List Word → (hash k : ℕ) → Type 0
HasKey words hash k = IsSome (node_of (word_at words (bucket_at (length words) hash k)))

-- the first free bucket among n of the probe, from the a-th on
abbrev free_among : List Word → (hash a n : ℕ) → Option ℕ
free_among words hash a n =
    find (λ i. is_none (node_of (word_at words i))) (map (bucket_at (length words) hash) (range_with_len a n))

-- it is free and reached; where there is none, all buckets of the probe have keys
abbrev IsFound : List Word → (hash : ℕ) → Option ℕ → Type 0
IsFound words hash o =
    MatchOption o ((k : ℕ) → k < length words → HasKey words hash k)
    (λ i. (node_of (word_at words i) ≡ None) × IsReached words hash i)

free_from : (words : List Word) (hash a n : ℕ) → a + n ≡ length words →
    ((k : ℕ) → k < a → HasKey words hash k) → IsFound words hash (free_among words hash a n)
free_from words hash a zero e passed = λ k h. passed k (omega arith)
free_from words hash a (suc n) e passed =
    by (is_none (node_of (word_at words (bucket_at (length words) hash a)))) refl
    (free_from words hash (a + 1) n (omega arith))
  where
    by : (b : Bool) → is_none (node_of (word_at words (bucket_at (length words) hash a))) ≡ b →
        (((k : ℕ) → k < a + 1 → HasKey words hash k) → IsFound words hash (free_among words hash (a + 1) n)) →
        IsFound words hash (cond b (Some (bucket_at (length words) hash a)) (free_among words hash (a + 1) n))
    by true h rest = (no_key _ h, (a, record { within = omega arith; there = refl; passed = passed }))
    by false h rest = rest (below_more _ a passed (some_key _ h))

-- a fact of each bucket of a probe is one of each bucket
pub each_bucket : (P : ℕ → Type 0) (size hash : ℕ) → ((k : ℕ) → k < size → P (bucket_at size hash k)) → (i : ℕ) →
    i < size → P i
each_bucket P size hash all i h =
    let come = comes_to_each size hash i h in
    subst P come.2 (all come.0 come.1)

pub first_free_reached : (words : List Word) (hash : ℕ) →
    MatchOption (first_free words hash) ((i : ℕ) → i < length words → IsSome (node_of (word_at words i)))
    (λ i. (node_of (word_at words i) ≡ None) × IsReached words hash i)
first_free_reached words hash =
    by (first_free words hash) (free_from words hash 0 (length words) (omega arith) (λ k h. absurd (omega arith)))
  where
    by : (o : Option ℕ) → IsFound words hash o →
        MatchOption o ((i : ℕ) → i < length words → IsSome (node_of (word_at words i)))
        (λ i. (node_of (word_at words i) ≡ None) × IsReached words hash i)
    by None all = each_bucket (λ i. IsSome (node_of (word_at words i))) (length words) hash all
    by (Some i) found = found
