-- How many nodes a call lists: no more than some array has words.
use Rattle.std.proofs.Common.{◌≡◌, ℕ, suc, ◌≤◌, nat_eq, nat_lt, List, [], ◌∷◌, ◌++◌, length, Option, Some, None, if◌then◌else◌, true, false, Bool, inl, inr, refl, sym, subst, arith}
use Rattle.std.specs.Option.{option_eq, option_to_list}
use Rattle.moka_words.specs.Words.{is_sealed, stored_in}
use Rattle.moka_words.specs.declared.accesses.Seen.{Seen}
use Rattle.moka_words.specs.declared.accesses.Seen.TheVariants as seen
use Rattle.moka_words.specs.Effect.{Memory, LaterMemory}
use Rattle.moka_growth.specs.declared.kinds.CallKind.TheVariants as kind
use Rattle.moka_growth.specs.Sound.{IsSound}
use Rattle.moka_growth.specs.Calls.{Point, Call, Step, Going, Decided, Nodes, next_at, goes, is_due, start_of, without_root}
use Rattle.moka_growth.specs.Calls as call
use Rattle.moka_growth.specs.Fits.{FitsAt}
use Rattle.moka_buckets.specs.declared.node.Node.{Node}
use Rattle.moka_buckets.specs.Nodes.{key_in}
use Rattle.moka_buckets.specs.Keys.{keys_in}
use Rattle.moka_buckets.specs.Walks.{IsNoSeek, AreFew, ListsFew, listed_in}

-- how many words a call has passed that ends by the access at a point
abbrev pub passed_at : Point → ℕ
passed_at (call.Walk array size index nodes) = suc index
passed_at p = 0

abbrev pub FewAfter : Point → Step → Type 0
FewAfter p (Going d) = ListsFew d.point
FewAfter p (Decided e) = length (listed_in e) ≤ passed_at p

either : (p : Point) (b : Bool) (x y : Step) → FewAfter p x → FewAfter p y → FewAfter p (if b then x else y)
either p true x y f g = f
either p false x y f g = g

one_more : (ns : List ℕ) (o : Option ℕ) (i : ℕ) → length ns ≤ i → length (ns ++ option_to_list o) ≤ suc i
one_more [] None i few = omega arith
one_more [] (Some n) i few = omega arith
one_more (x ∷ ns) o i few = let rest = one_more ns o (length ns) (omega arith) in omega (arith, rest, few)

-- a step lists at most one node, and passes one word
pub few_course : (c : Call) → c.kind ≡ kind.Keys → ListsFew c.point → (p : Point) → IsNoSeek p → ListsFew p → (s : Seen) → FewAfter p (next_at c p s)
few_course c k rest (call.Root met) nay few (seen.Root None l t n) = subst (λ x. FewAfter (call.Root met) (without_root x c)) (sym k) (omega arith)
few_course c k rest (call.Root met) nay few (seen.Root (Some a) l t n) =
    either (call.Root met) (option_eq nat_eq met (Some a)) (goes c (call.Seal a l 0 []))
    (if is_due c.kind c.spent l t n then Going (record c { spent = true; point = call.Seal a l 0 [] }) else goes c (start_of c.kind a l)) tt
    (either (call.Root met) (is_due c.kind c.spent l t n) (Going (record c { spent = true; point = call.Seal a l 0 [] })) (goes c (start_of c.kind a l)) tt
    (subst (λ x. ListsFew (start_of x a l)) (sym k) (omega arith)))
few_course c k rest (call.Probe a l v) nay few s = absurd nay
few_course c k rest (call.Choose a l v w) nay few s = absurd nay
few_course c k rest (call.Change a l v from to) nay few s = absurd nay
few_course c k rest (call.Walk a l i ns) nay few (seen.Word w h x) = let more = ns ++ option_to_list (stored_in w) in
    either (call.Walk a l i ns) (is_sealed w) (goes c (call.Root (Some a))) (if nat_lt (suc i) l then goes c (call.Walk a l (suc i) more) else Decided (Nodes more)) tt
    (either (call.Walk a l i ns) (nat_lt (suc i) l) (goes c (call.Walk a l (suc i) more)) (Decided (Nodes more)) (one_more ns (stored_in w) i few)
    (one_more ns (stored_in w) i few))
few_course c k rest (call.Seal a l i kept) nay few (seen.Word w h x) =
    either (call.Seal a l i kept) (is_sealed w) (call.sealed c a l i w h kept) (goes c (call.Close a l i w h kept)) (either (call.Seal a l i kept) (nat_lt (suc i) l) _ _ tt tt) tt
few_course c k rest (call.Close a l i w h kept) nay few (seen.Exchanged None) = either (call.Close a l i w h kept) (nat_lt (suc i) l) _ _ tt tt
few_course c k rest (call.Close a l i w h kept) nay few (seen.Exchanged (Some met)) = tt
few_course c k rest (call.Next o l kept) nay few (seen.Next None n) = tt
few_course c k rest (call.Next o l kept) nay few (seen.Next (Some a) n) = either (call.Next o l kept) (nat_lt 0 n) _ _ tt tt
few_course c k rest (call.Link o l kept) nay few (seen.Linked a n) = either (call.Link o l kept) (nat_lt 0 n) _ _ tt tt
few_course c k rest (call.Copy from a i laid) nay few seen.Copied = either (call.Copy from a i laid) (nat_lt (suc i) (length laid)) _ _ tt tt
few_course c k rest (call.Swing from a) nay few seen.Swung = tt
few_course c k rest p nay few s = rest

nothing : (xs : List ℕ) → length xs ≤ 0 → xs ≡ []
nothing [] few = refl
nothing (x ∷ xs) few = absurd (omega arith)

module _ (hash : ℕ → ℕ) (own : ℕ → Bool) (h : ℕ) (m : Memory) where
  -- a call that ends has passed the words of its array
  pub few_ended : (p : Point) (ns : List ℕ) → FitsAt hash own h m p → length ns ≤ passed_at p → AreFew m ns
  few_ended (call.Walk a l i nodes) ns fits few = let within = fits.2 in let long = fits.1 in
      inr (fits.0.place, a, fits.0.there, omega (arith, few, within, long))
  few_ended p ns fits few = inl (nothing ns few)

-- an array stays as long as it was
pub few_last : {hash : ℕ → ℕ} {same : ℕ → ℕ → Bool} {mine : ℕ → Bool} (old new : Memory) (ns : List ℕ) → IsSound hash same mine old → LaterMemory same old new →
    AreFew old ns → AreFew new ns
few_last old new ns sound later (inl none) = inl none
few_last old new ns sound later (inr (place, a, there, few)) =
    inr (place, a, later.arrays place a there, subst (λ n. length ns ≤ n) (sym (later.words place a there (sound.numbered place a there)).length_stays) few)

-- nodes have at most as many keys
pub few_keys_in : {K V : Type 0} (nodes : List (Node K V)) (ns : List ℕ) → length (keys_in nodes ns) ≤ length ns
few_keys_in nodes [] = omega arith
few_keys_in {K} {V} nodes (n ∷ ns) = by (key_in nodes n) (few_keys_in nodes ns)
  where
    by : (o : Option K) → length (keys_in nodes ns) ≤ length ns → length (option_to_list o ++ keys_in nodes ns) ≤ suc (length ns)
    by None few = omega (arith, few)
    by (Some k) few = omega (arith, few)
