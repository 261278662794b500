-- Where arrays stand, and what stays of that where a word is set or an array is linked.
use Rattle.std.proofs.Common.{◌≡◌, ◌≢◌, ◌⊎◌, ℕ, ◌+◌, ◌^◌, ◌<◌, ◌≤◌, List, [], ◌∷◌, ◌++◌, length, Option, Some, None, IsSome, zero, suc, inl, inr, refl, sym, ap, subst, ◌∙◌, arith, set}
use Rattle.std.specs.Option.{option_map, option_map_or}
use Rattle.std.specs.List.{slice_get}
use Rattle.std.proofs.lemmas.Bool.{cases_eq, cases_lt, false≢true}
use Rattle.std.proofs.lemmas.Option.{slice_get_within, slice_get_past}
use Rattle.moka_words.specs.declared.words.Word.{Word}
use Rattle.moka_words.specs.Words.{stored_in, word_at}
use Rattle.moka_words.specs.Effect.{StandsBefore}
use Rattle.moka_buckets.specs.declared.array.Array.{Array}
use Rattle.moka_buckets.specs.declared.array.Arrays.{Arrays}
use Rattle.moka_buckets.specs.Arrays.{words_in, memory_of, ArePlaced}

pub get-set-same : {X : Type 0} (xs : List X) (i : ℕ) (x : X) → i < length xs → slice_get (set xs i x) i ≡ Some x
get-set-same [] i x h = absurd (omega arith)
get-set-same (y ∷ xs) zero x h = refl
get-set-same (y ∷ xs) (suc i) x h = get-set-same xs i x (omega arith)

pub get-set-other : {X : Type 0} (xs : List X) (i j : ℕ) (x : X) → j ≢ i → slice_get (set xs i x) j ≡ slice_get xs j
get-set-other [] i j x other = refl
get-set-other (y ∷ xs) zero zero x other = absurd (other refl)
get-set-other (y ∷ xs) zero (suc j) x other = refl
get-set-other (y ∷ xs) (suc i) zero x other = refl
get-set-other (y ∷ xs) (suc i) (suc j) x other = get-set-other xs i j x (λ e. other (ap suc e))

pub get-front : {X : Type 0} (xs ys : List X) (i : ℕ) (x : X) → slice_get xs i ≡ Some x → slice_get (xs ++ ys) i ≡ Some x
get-front [] ys i x e = absurd (cc e)
get-front (y ∷ xs) ys zero x e = e
get-front (y ∷ xs) ys (suc i) x e = get-front xs ys i x e

pub get-end : {X : Type 0} (xs : List X) (x : X) → slice_get (xs ++ x ∷ []) (length xs) ≡ Some x
get-end [] x = refl
get-end (y ∷ xs) x = get-end xs x

-- what stands in a list with one item more stood there, or is that item, at the end
pub get-back : {X : Type 0} (xs : List X) (x y : X) (i : ℕ) → slice_get (xs ++ x ∷ []) i ≡ Some y → (slice_get xs i ≡ Some y) ⊎ ((i ≡ length xs) × (y ≡ x))
get-back [] x y zero e = inr (refl, some_one (sym e))
  where
    some_one : Some y ≡ Some x → y ≡ x
    some_one d = cc
get-back [] x y (suc i) e = absurd (cc e)
get-back (z ∷ xs) x y zero e = inl e
get-back (z ∷ xs) x y (suc i) e = elim (get-back xs x y i e) [ inl d ↦ inl d | inr d ↦ inr (ap suc d.0, d.1) ]

-- the place of an array that stands right before another place
pub placed_before : (s : Arrays) (a place : ℕ) → ArePlaced s → StandsBefore (memory_of s) place (Some a) →
    (q : ℕ) × (place ≡ q + 1) × (q < length s.segment.arrays.items) × (option_map (λ array. array.place) (slice_get s.all.items a) ≡ Some q)
placed_before s a zero placed stands = absurd (cc stands.there)
placed_before s a (suc q) placed stands = (q, omega arith, stands.within, placed q a stands.there)

abbrev pub PlacedIn : List Array → List ℕ → Type 0
PlacedIn all arrays = (place a : ℕ) → slice_get arrays place ≡ Some a → option_map (λ array. array.place) (slice_get all a) ≡ Some place

-- an array in place of another that stands at the same place
pub placed_set : (all : List Array) (arrays : List ℕ) (i : ℕ) (old new : Array) → PlacedIn all arrays → slice_get all i ≡ Some old →
    new.place ≡ old.place → PlacedIn (set all i new) arrays
placed_set all arrays i old new placed there same place a e = elim (cases_eq a i) [ inl d ↦ here d | inr d ↦ other d ]
  where
    here : a ≡ i → option_map (λ array. array.place) (slice_get (set all i new) a) ≡ Some place
    here d = ap (option_map (λ array. array.place)) (ap (slice_get (set all i new)) d ∙ get-set-same all i new (slice_get_within all i old there))
        ∙ (ap Some same ∙ (sym (ap (option_map (λ array. array.place)) (ap (slice_get all) d ∙ there)) ∙ placed place a e))

    other : a ≢ i → option_map (λ array. array.place) (slice_get (set all i new) a) ≡ Some place
    other d = ap (option_map (λ array. array.place)) (get-set-other all i a new d) ∙ placed place a e

-- an array more
pub placed_more : (all : List Array) (arrays : List ℕ) (new : Array) → PlacedIn all arrays → new.place ≡ length arrays →
    PlacedIn (all ++ new ∷ []) (arrays ++ length all ∷ [])
placed_more all arrays new placed last place a e = elim (get-back arrays (length all) a place e) [ inl d ↦ old d | inr d ↦ end d.0 d.1 ]
  where
    old : slice_get arrays place ≡ Some a → option_map (λ array. array.place) (slice_get (all ++ new ∷ []) a) ≡ Some place
    old d = by (slice_get all a) refl
      where
        by : (o : Option Array) → slice_get all a ≡ o → option_map (λ array. array.place) (slice_get (all ++ new ∷ []) a) ≡ Some place
        by None f = absurd (cc (sym (ap (option_map (λ array. array.place)) f) ∙ placed place a d))
        by (Some x) f = ap (option_map (λ array. array.place)) (get-front all (new ∷ []) a x f)
            ∙ (sym (ap (option_map (λ array. array.place)) f) ∙ placed place a d)

    end : place ≡ length arrays → a ≡ length all → option_map (λ array. array.place) (slice_get (all ++ new ∷ []) a) ≡ Some place
    end d f = ap (option_map (λ array. array.place)) (ap (slice_get (all ++ new ∷ [])) f ∙ get-end all new) ∙ ap Some (last ∙ sym d)

-- past the last array there are no words
pub no_words : (all : List Array) (a : ℕ) → length all ≤ a → words_in all a ≡ []
no_words all a past = ap (λ o. option_map_or (λ array. array.words.items) o []) (slice_get_past all a past)

pub one_place : {p q : ℕ} → Some p ≡ Some q → p ≡ q
one_place e = cc

pub few_arrays : (s : Arrays) → length s.segment.arrays.items < 2 ^ 63
few_arrays s =
    let long = s.segment.arrays.ok.0 in
    let held = s.segment.arrays.ok.1 in
    let few = s.segment.arrays.small in
    omega arith

-- the words of an array in which one was set, and those of the others
pub set_words : (all : List Array) (i : ℕ) (old new : Array) (index : ℕ) (to : Word) → slice_get all i ≡ Some old →
    new.words.items ≡ set old.words.items index to → words_in (set all i new) i ≡ set (words_in all i) index to
set_words all i old new index to there is =
    ap (λ o. option_map_or (λ array. array.words.items) o []) (get-set-same all i new (slice_get_within all i old there))
    ∙ (is ∙ ap (λ ws. set ws index to) (sym (ap (λ o. option_map_or (λ array. array.words.items) o []) there)))

pub set_nothing : (all : List Array) (a index : ℕ) (to : Word) → length all ≤ a → words_in all a ≡ set (words_in all a) index to
set_nothing all a index to past = no_words all a past ∙ ap (λ ws. set ws index to) (sym (no_words all a past))

-- the same, by lists that are equal
pub placed_linked : (all all1 all2 : List Array) (arrays arrays1 arrays2 : List ℕ) (number : ℕ) (new : Array) → all2 ≡ all1 ++ new ∷ [] → all1 ≡ all →
    arrays2 ≡ arrays1 ++ number ∷ [] → arrays1 ≡ arrays → number ≡ length all → PlacedIn all arrays → new.place ≡ length arrays → PlacedIn all2 arrays2
placed_linked all all1 all2 arrays arrays1 arrays2 number new d e f g h placed last =
    subst (λ xs. PlacedIn xs arrays2) (sym (d ∙ ap (λ xs. xs ++ new ∷ []) e))
    (subst (λ ys. PlacedIn (all ++ new ∷ []) ys) (sym (f ∙ (ap (λ ys. ys ++ number ∷ []) g ∙ ap (λ n. arrays ++ n ∷ []) h)))
    (placed_more all arrays new placed last))

-- a word that stores a key is one of an array
pub stored_there : (all : List Array) (a i : ℕ) → IsSome (stored_in (word_at (words_in all a) i)) → a < length all
stored_there all a i has = elim (cases_lt a (length all)) [
  | inl within ↦ within
  | inr past ↦ absurd (false≢true (subst (λ ws. IsSome (stored_in (word_at ws i))) (no_words all a past) has))
]
