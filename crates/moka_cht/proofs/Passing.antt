-- A probe on its way past buckets.
use Rattle.std.proofs.Common.{◌≡◌, ℕ, ◌+◌, ◌-◌, ◌*◌, ◌<◌, ◌≤◌, ◌^◌, ◌%◌, Bool, true, false, List, length, Option, Some, None, inl, inr, refl, sym, ap, subst, ◌∙◌, arith, bit_and}
use Rattle.std.proofs.lemmas.Bool.{cases_eq, cases_lt, false≢true}
use Rattle.std.proofs.lemmas.Nat.{and_mask}
use Rattle.std.proofs.Math.Nat.{mod-add-mod}
use Rattle.std.specs.Int.{IsPowerOfTwo}
use Rattle.std.specs.Option.{option_map_or}
use Rattle.moka_words.specs.declared.words.Word.{Word}
use Rattle.moka_words.specs.declared.words.Word.TheVariants.{Unset, Empty, Live, Tomb, SealedEmpty, SealedLive, SealedTomb}
use Rattle.moka_words.specs.declared.accesses.Seen.{Seen}
use Rattle.moka_words.specs.declared.accesses.Seen.TheVariants as seen
use Rattle.moka_cht.specs.declared.probe.Place.{Place}
use Rattle.moka_cht.specs.declared.probe.Place.TheVariants.{Stored}
use Rattle.moka_cht.specs.declared.probe.Point.TheVariants.{Put, Remove}
use Rattle.moka_cht.specs.declared.probe.Probe.{Probe}
use Rattle.moka_cht.specs.declared.probe.Step.{Step}
use Rattle.moka_cht.specs.Probes.{EndsAt, IsOn, IsOwnPlace, Stands, Takes, bucket_of, is_open, word_of}
use Rattle.moka_words.specs.Words.{node_of, word_at}
use Rattle.moka_words.specs.Arrays.{bucket_at}
use Rattle.moka_words.specs.Later.{HasOther, HasPassed}

-- the mask of a power of two takes the remainder
pub masked : (hash size : ℕ) → IsPowerOfTwo size → bit_and hash (size - 1) ≡ hash % size
masked hash size power = subst (λ s. bit_and hash (s - 1) ≡ hash % s) (sym power.1) (and_mask hash power.0)

-- the bucket after n others, as it is reckoned
pub reckoned : (hash n size : ℕ) → IsPowerOfTwo size → bit_and (bit_and hash (size - 1) + n) (size - 1) ≡ bucket_at size hash n
reckoned hash n size power =
    masked (bit_and hash (size - 1) + n) size power
    ∙ ap (λ start. (start + n) % size) (masked hash size power)
    ∙ mod-add-mod hash size n

-- the bucket after n others, before the end is rounded
pub start_below : (hash size : ℕ) → IsPowerOfTwo size → 0 < size → bit_and hash (size - 1) < size
start_below hash size power some = subst (λ x. x < size) (sym (masked hash size power)) (omega arith)

-- one bucket more is passed
pub passed_more : (own : ℕ → Bool) (words : List Word) (size hash n : ℕ) → length words ≡ size → HasPassed own words hash n →
    HasOther own (word_at words (bucket_at size hash n)) → HasPassed own words hash (n + 1)
passed_more own words size hash n long passed other k below =
    elim (cases_eq k n) [
      | inl same ↦ subst (λ x. HasOther own (word_at words (bucket_at (length words) hash x))) (sym same) (subst (λ x. HasOther own (word_at words (bucket_at x hash n))) (sym long) other)
      | inr apart ↦ passed k (omega arith)
    ]

-- so are all, where there are no more
pub passed_all : (own : ℕ → Bool) (words : List Word) (size hash n : ℕ) → length words ≡ size → n < size → size ≤ n + 1 →
    HasPassed own words hash (n + 1) → HasPassed own words hash (length words)
passed_all own words size hash n long within last passed = let e : n + 1 ≡ length words = omega arith in subst (HasPassed own words hash) e passed

-- what a load saw of the key, at a word with a node
pub seen_key : (own : ℕ → Bool) (w : Word) (n : ℕ) (same : Bool) → node_of w ≡ Some n → same ≡ option_map_or own (node_of w) false → same ≡ own n
seen_key own w n same named is = is ∙ ap (λ o. option_map_or own o false) named

-- a word whose node has another key
pub other_key : (own : ℕ → Bool) (w v : Word) (n : ℕ) (same : Bool) → w ≡ v → node_of w ≡ Some n → same ≡ option_map_or own (node_of w) false → same ≡ false → HasOther own v
other_key own w v n same is named seen apart = (n, ap node_of (sym is) ∙ named, sym (seen_key own w n same named seen) ∙ apart)

-- a probe that stands at such a place ends there
pub ends_at : (own : ℕ → Bool) (words : List Word) (p : Probe) (at : Place) (w : Word) → IsOn p → Stands own words p → w ≡ word_at words (bucket_of p) → w ≡ word_of at →
    IsOwnPlace own at → EndsAt own words p.hash p.passed at
ends_at own words p at w on s loaded is own_place =
    record {
      within = let long = s.long in let within = on.within in omega arith;
      passed = s.passed;
      there = ap (λ size. word_at words (bucket_at size p.hash p.passed)) s.long ∙ sym loaded ∙ is;
      own_place = own_place;
    }

-- no other words are open
pub closed : (w : Word) → (w ≡ Empty → ⊥) → ((n : ℕ) → w ≡ Live n → ⊥) → ((n : ℕ) → w ≡ Tomb n → ⊥) → is_open w ≡ false
closed Unset a b c = refl
closed Empty a b c = absurd (a refl)
closed (Live n) a b c = absurd (b n refl)
closed (Tomb n) a b c = absurd (c n refl)
closed SealedEmpty a b c = refl
closed (SealedLive n) a b c = refl
closed (SealedTomb n) a b c = refl

-- a removal's exchange goes on as any at a live node
pub removes_as_puts : (p : Probe) (n m : ℕ) (s : Seen) (r : Step) → Takes p (Put (Stored n) m) s r → Takes p (Remove n) s r
removes_as_puts p n m (seen.Exchanged None) r h = h
removes_as_puts p n m (seen.Exchanged (Some w)) r h = h
removes_as_puts p n m (seen.Root a l t k) r h = h
removes_as_puts p n m (seen.Word w k same) r h = h
removes_as_puts p n m (seen.Chosen choice) r h = h
removes_as_puts p n m (seen.Next a l) r h = h
removes_as_puts p n m (seen.Linked a l) r h = h
removes_as_puts p n m seen.Copied r h = h
removes_as_puts p n m seen.Swung r h = h
