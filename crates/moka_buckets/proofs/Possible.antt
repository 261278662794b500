-- A table can make the access that a fitting call wants.
use Rattle.std.proofs.Common.{◌≡◌, ℕ, ◌+◌, ◌<◌, ◌≤◌, ◌^◌, Bool, true, false, List, [], length, Option, Some, None, IsSome, is_some, inl, inr, refl, sym, ap, subst, arith, set}
use Rattle.std.proofs.lemmas.Bool.{cases_lt, false≢true}
use Rattle.std.proofs.lemmas.Option.{slice_get_within}
use Rattle.std.specs.List.{slice_get}
use Rattle.std.specs.Option.{option_map, option_map_or, option_to_list}
use Rattle.moka_buckets.specs.declared.key_op.KeyOp.{KeyOp}
use Rattle.moka_words.specs.declared.accesses.Choice.{Choice}
use Rattle.moka_words.specs.declared.accesses.Choice.TheVariants as choice
use Rattle.moka_words.specs.declared.words.Word.{Word}
use Rattle.moka_words.specs.declared.words.Word.TheVariants.{Unset, Empty, Live, Tomb, SealedEmpty, SealedLive, SealedTomb}
use Rattle.moka_words.specs.Words.{is_sealed, stored_in, word_at}
use Rattle.moka_words.specs.Arrays.{bucket_at}
use Rattle.moka_words.specs.Layout.{stored_nodes}
use Rattle.moka_words.specs.Effect.{Memory, root, words_of, array_at}
use Rattle.moka_words.proofs.Placing.{stored_within}
use Rattle.moka_growth.specs.Growing.{seal_of}
use Rattle.moka_growth.specs.Sound.{IsSound}
use Rattle.moka_growth.specs.Calls.{Point, Call, access_of, wanted}
use Rattle.moka_growth.specs.Calls as call
use Rattle.moka_growth.specs.Fits.{HasBeenRoot, FitsAt, Rests}
use Rattle.moka_growth.specs.Counts.{IsCounted}
use Rattle.moka_growth.proofs.Copying.{unset_past}
use Rattle.moka_growth.proofs.Exchanging.{change_bare}
use Rattle.moka_growth.proofs.Mapped.{bare_is_root}
use Rattle.moka_growth.proofs.Places.{before_one}
use Rattle.moka_growth.proofs.Storing.{stored_set_count}
use Rattle.moka_calls.specs.Laws.{AreShort}
use Rattle.moka_buckets.specs.declared.array.Array.{Array}
use Rattle.moka_buckets.specs.declared.array.Arrays.{Arrays}
use Rattle.moka_buckets.specs.declared.node.Node.{Node}
use Rattle.moka_pairs.specs.Keys.{hash_by, same_by, mine_by}
use Rattle.moka_buckets.specs.Nodes.{key_in, IsNamed}
use Rattle.moka_buckets.specs.Arrays.{words_in, memory_of}
use Rattle.moka_buckets.specs.Making.{CanMake, is_tomb}
use Rattle.moka_buckets.specs.Tables.{Puts, choose, put_by}
use Rattle.moka_buckets.specs.Walks.{IsNoSeek}

pub short_words : (all : List Array) (a : ℕ) → length (words_in all a) ≤ 2 ^ 60
short_words all a = by (slice_get all a)
  where
    by : (o : Option Array) → length (option_map_or (λ array. array.words.items) o []) ≤ 2 ^ 60
    by None = omega arith
    by (Some array) = array.short

pub are_short : (s : Arrays) → AreShort (memory_of s)
are_short s place a there = short_words s.all.items a

few_keys : (s : Arrays) → IsCounted (memory_of s) → s.segment.len < 2 ^ 63
few_keys s counted = by (root (memory_of s)) counted
  where
    by : (o : Option ℕ) → s.segment.len ≡ length (stored_nodes (words_of (memory_of s) o)) → s.segment.len < 2 ^ 63
    by None e = omega (arith, e)
    by (Some a) e = let few = stored_within (words_in s.all.items a) in let short = short_words s.all.items a in omega (arith, e, few, short)

seal_buries : (w : Word) → is_tomb (seal_of w) ≡ true → IsSome (stored_in w)
seal_buries Unset e = absurd (false≢true e)
seal_buries Empty e = absurd (false≢true e)
seal_buries (Live n) e = refl
seal_buries (Tomb n) e = absurd (false≢true e)
seal_buries SealedEmpty e = absurd (false≢true e)
seal_buries (SealedLive n) e = refl
seal_buries (SealedTomb n) e = absurd (false≢true e)

some_word : {v w : Word} → Some v ≡ Some w → v ≡ w
some_word e = cc

no_word : {w : Word} → None ≡ Some w → ⊥
no_word e = cc

-- a tombstone takes the place of a key that is stored
put_buries : (x : Choice) (from to : Word) → put_by x from ≡ Some to → is_tomb to ≡ true → IsSome (stored_in from)
put_buries choice.Keep from to e tomb = absurd (no_word e)
put_buries (choice.Put n) from to e tomb = absurd (false≢true (subst (λ w. is_tomb w ≡ true) (sym (some_word e)) tomb))
put_buries choice.Remove from to e tomb = by (stored_in from) e
  where
    by : (x : Option ℕ) → option_map Tomb x ≡ Some to → IsSome x
    by None f = absurd (no_word f)
    by (Some n) f = refl

-- a word that stores a key is one of its array's
stored_inside : (words : List Word) (i : ℕ) → IsSome (stored_in (word_at words i)) → i < length words
stored_inside words i has = elim (cases_lt i (length words)) [
  | inl within ↦ within
  | inr past ↦ absurd (false≢true (subst (λ w. IsSome (stored_in w)) (unset_past words i past) has))
]

-- a segment that stores a key counts it
pub stored_counts : {hash : ℕ → ℕ} {same : ℕ → ℕ → Bool} {mine : ℕ → Bool} (m : Memory) → IsSound hash same mine m → IsCounted m → (a i : ℕ) →
    HasBeenRoot m a → is_sealed (word_at (m.words a) i) ≡ false → IsSome (stored_in (word_at (m.words a) i)) → 0 < m.len
stored_counts m sound counted a i rooted bare has =
    let within = stored_inside (m.words a) i has in
    let is_root : root m ≡ Some a = bare_is_root m m sound a i rooted within bare in
    let few = some_stored (m.words a) i within has in
    let same = ap (λ o. length (stored_nodes (words_of m o))) is_root in
    omega (arith, counted, few, same)
  where
    some_stored : (words : List Word) (i : ℕ) → i < length words → IsSome (stored_in (word_at words i)) → 0 < length (stored_nodes words)
    some_stored words i within has =
        let count = stored_set_count words i Unset within in by (stored_in (word_at words i)) has count
      where
        by : (o : Option ℕ) → IsSome o → length (stored_nodes (set words i Unset)) + length (option_to_list o) ≡ length (stored_nodes words) + 0 → 0 < length (stored_nodes words)
        by None f count = absurd (false≢true f)
        by (Some n) f count = omega (arith, count)

module _ {K V : Type 0} (eq : K → K → Bool) (hash : K → ℕ) (nodes : List (Node K V)) (s : Arrays)
    (sound : IsSound (hash_by hash (key_in nodes)) (same_by eq (key_in nodes)) (mine_by (key_in nodes)) (memory_of s)) (counted : IsCounted (memory_of s)) where
  has_node : (n : ℕ) → is_some (key_in nodes n) ≡ true → n < length nodes
  has_node n e = by (slice_get nodes n) refl e
    where
      by : (o : Option (Node K V)) → slice_get nodes n ≡ o → is_some (option_map (λ node. node.key) o) ≡ true → n < length nodes
      by None d f = absurd (false≢true f)
      by (Some node) d f = slice_get_within nodes n node d

  named : (a i : ℕ) → HasBeenRoot (memory_of s) a → IsNamed nodes (word_at (words_in s.all.items a) i)
  named a i r n e = has_node n ((sound.roots r.place a r.before r.there).keys i n e)

  -- a call that seeks no key can make its access
  pub can_rest : (own : ℕ → Bool) (h : ℕ) (p : Point) → IsNoSeek p → FitsAt (hash_by hash (key_in nodes)) own h (memory_of s) p → CanMake (memory_of s) nodes (wanted h p)
  can_rest own h (call.Root met) nay fits = tt
  can_rest own h (call.Probe a l v) nay fits = absurd nay
  can_rest own h (call.Choose a l v w) nay fits = absurd nay
  can_rest own h (call.Change a l v from to) nay fits = absurd nay
  can_rest own h (call.Walk a l i ns) nay fits = named a i fits.0
  can_rest own h (call.Seal a l i kept) nay fits = named a i fits.rooted
  can_rest own h (call.Close a l i w x kept) nay fits = (
    λ is has. stored_counts (memory_of s) sound counted a i fits.0.rooted (subst (λ y. is_sealed y ≡ false) (sym is) fits.1)
        (subst (λ y. IsSome (stored_in y)) (sym is) has),
    seal_buries w,
    few_keys s counted,
  )
  can_rest own h (call.Next x l kept) nay fits = (fits.place, fits.left.stands)
  can_rest own h (call.Link x l kept) nay fits = (fits.place, fits.left.stands)
  can_rest own h (call.Copy from a i laid) nay fits = tt
  can_rest own h (call.Swing from a) nay fits = λ is.
      let m = memory_of s in
      let here = before_one m sound fits.place m.rooted from fits.left.stands (record { there = is; within = sound.linked }) in
      subst (λ p. array_at m p ≡ Some a) here fits.there

  pub can_make : (o : KeyOp K V) (own : ℕ → Bool) (h : ℕ) (stored : Option ℕ) (p : Point) → Rests p → Puts nodes o stored p →
      FitsAt (hash_by hash (key_in nodes)) own h (memory_of s) p → CanMake (memory_of s) nodes (wanted h p)
  can_make o own h stored (call.Probe a l v) rests puts fits = named a (bucket_at l h v) fits.rooted
  can_make o own h stored (call.Choose a l v w) rests puts fits = absurd rests
  can_make o own h stored (call.Change a l v from to) rests puts fits =
      let bare = change_bare own from to fits.1 in
      let i = bucket_at l h v in (
        λ is has. stored_counts (memory_of s) sound counted a i fits.0.rooted (subst (λ w. is_sealed w ≡ false) (sym is) bare)
            (subst (λ w. IsSome (stored_in w)) (sym is) has),
        put_buries (choose nodes o stored (stored_in from)) from to puts,
        few_keys s counted,
      )
  can_make o own h stored (call.Root met) rests puts fits = can_rest own h (call.Root met) tt fits
  can_make o own h stored (call.Walk a l i ns) rests puts fits = can_rest own h (call.Walk a l i ns) tt fits
  can_make o own h stored (call.Seal a l i kept) rests puts fits = can_rest own h (call.Seal a l i kept) tt fits
  can_make o own h stored (call.Close a l i w x kept) rests puts fits = can_rest own h (call.Close a l i w x kept) tt fits
  can_make o own h stored (call.Next x l kept) rests puts fits = can_rest own h (call.Next x l kept) tt fits
  can_make o own h stored (call.Link x l kept) rests puts fits = can_rest own h (call.Link x l kept) tt fits
  can_make o own h stored (call.Copy from a i laid) rests puts fits = can_rest own h (call.Copy from a i laid) tt fits
  can_make o own h stored (call.Swing from a) rests puts fits = can_rest own h (call.Swing from a) tt fits
