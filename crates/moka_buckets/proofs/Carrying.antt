-- What a call has listed after its step.
use Rattle.std.proofs.Common.{◌≡◌, ℕ, suc, Bool, true, false, nat_eq, nat_lt, List, [], ◌++◌, length, Some, None, if◌then◌else◌, refl, sym, ap, subst, ◌∙◌}
use Rattle.std.specs.Option.{option_eq, option_to_list}
use Rattle.moka_words.specs.declared.words.Word.{Word}
use Rattle.moka_words.specs.declared.accesses.Seen.{Seen}
use Rattle.moka_words.specs.declared.accesses.Seen.TheVariants as seen
use Rattle.moka_words.specs.Words.{is_sealed, stored_in, word_at}
use Rattle.moka_words.specs.Effect.{Memory, Effect}
use Rattle.moka_growth.specs.declared.kinds.CallKind.TheVariants as kind
use Rattle.moka_growth.specs.Calls.{Point, Call, Step, Going, Decided, Nodes, goes, is_due, next_at, start_of, wanted, without_root}
use Rattle.moka_growth.specs.Calls as call
use Rattle.moka_growth.specs.Listing.{listed}
use Rattle.moka_calls.specs.Standing.{place_at}
use Rattle.moka_buckets.specs.Walks.{IsNoSeek, carried, listed_by, node_next, word_next}

-- a call that lists no node next has listed none
pub rest_of : (p : Point) → place_at p ≡ None → listed p ≡ []
rest_of (call.Walk a l i ns) e = cc
rest_of p e = refl

lists_none : (b : Bool) (x y : Step) → listed_by x ≡ [] → listed_by y ≡ [] → listed_by (if b then x else y) ≡ []
lists_none true x y f g = f
lists_none false x y f g = g

-- a word that is listed
one_listed : (b : Bool) (x y : Step) (more : List ℕ) → listed_by x ≡ [] → listed_by y ≡ more → listed_by (if b then x else y) ≡ (if b then [] else more)
one_listed true x y more f g = f
one_listed false x y more f g = g

past_listed : (c : Call) (a l i : ℕ) (more : List ℕ) (b : Bool) →
    listed_by (if b then goes c (call.Walk a l (suc i) more) else Decided (Nodes more)) ≡ more
past_listed c a l i more true = refl
past_listed c a l i more false = refl

module _ (old new : Memory) (hash : ℕ → ℕ) (own : ℕ → Bool) where
  abbrev Carries : Call → Point → Step → Type 0
  Carries c p s = let word = word_next old (Going (record c { point = p })) in
      listed_by s ≡ carried (listed p) word (node_next word)

  walk_carries : (c : Call) (a l i : ℕ) (ns : List ℕ) (w : Word) → w ≡ word_at (old.words a) i →
      listed_by (if is_sealed w then goes c (call.Root (Some a)) else
      (if nat_lt (suc i) l then goes c (call.Walk a l (suc i) (ns ++ option_to_list (stored_in w))) else Decided (Nodes (ns ++ option_to_list (stored_in w)))))
      ≡ carried ns (Some (word_at (old.words a) i)) (node_next (Some (word_at (old.words a) i)))
  walk_carries c a l i ns w is = one_listed (is_sealed w) (goes c (call.Root (Some a)))
      (if nat_lt (suc i) l then goes c (call.Walk a l (suc i) (ns ++ option_to_list (stored_in w))) else Decided (Nodes (ns ++ option_to_list (stored_in w))))
      (ns ++ option_to_list (stored_in w)) refl (past_listed c a l i (ns ++ option_to_list (stored_in w)) (nat_lt (suc i) l))
      ∙ ap (λ v. carried ns (Some v) (node_next (Some v))) is

  pub carries : (c : Call) → c.kind ≡ kind.Keys → (p : Point) → (place_at p ≡ None → listed c.point ≡ []) → IsNoSeek p → (s : Seen) →
      Effect hash own (wanted c.hash p) s old new → Carries c p (next_at c p s)
  carries c k (call.Root met) rest nay (seen.Root None l t n) effect = subst (λ x. listed_by (without_root x c) ≡ []) (sym k) refl
  carries c k (call.Root met) rest nay (seen.Root (Some a) l t n) effect =
      lists_none (option_eq nat_eq met (Some a)) (goes c (call.Seal a l 0 []))
      (if is_due c.kind c.spent l t n then Going (record c { spent = true; point = call.Seal a l 0 [] }) else goes c (start_of c.kind a l)) refl
      (lists_none (is_due c.kind c.spent l t n) (Going (record c { spent = true; point = call.Seal a l 0 [] })) (goes c (start_of c.kind a l)) refl
      (subst (λ x. listed_by (goes c (start_of x a l)) ≡ []) (sym k) refl))
  carries c k (call.Probe a l v) rest nay s effect = absurd nay
  carries c k (call.Choose a l v w) rest nay s effect = absurd nay
  carries c k (call.Change a l v from to) rest nay s effect = absurd nay
  carries c k (call.Walk a l i ns) rest nay (seen.Word w h x) effect = walk_carries c a l i ns w effect.0
  carries c k (call.Walk a l i ns) rest nay s effect = absurd effect
  carries c k (call.Seal a l i kept) rest nay (seen.Word w h x) effect =
      lists_none (is_sealed w) (call.sealed c a l i w h kept) (goes c (call.Close a l i w h kept)) (lists_none (nat_lt (suc i) l) _ _ refl refl) refl
  carries c k (call.Close a l i w h kept) rest nay (seen.Exchanged None) effect = lists_none (nat_lt (suc i) l) _ _ refl refl
  carries c k (call.Close a l i w h kept) rest nay (seen.Exchanged (Some met)) effect = refl
  carries c k (call.Next o l kept) rest nay (seen.Next None n) effect = refl
  carries c k (call.Next o l kept) rest nay (seen.Next (Some a) n) effect = lists_none (nat_lt 0 n) _ _ refl refl
  carries c k (call.Link o l kept) rest nay (seen.Linked a n) effect = lists_none (nat_lt 0 n) _ _ refl refl
  carries c k (call.Copy from a i laid) rest nay seen.Copied effect = lists_none (nat_lt (suc i) (length laid)) _ _ refl refl
  carries c k (call.Swing from a) rest nay seen.Swung effect = refl
  carries c k p rest nay s effect = rest refl
