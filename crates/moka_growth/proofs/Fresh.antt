-- A call that does not list nodes goes on to a point where none is listed.
use Rattle.std.proofs.Common.{◌≡◌, ℕ, Bool, true, false, List, [], ◌++◌, length, Option, Some, None, suc, refl, sym, ltb, eqb, if◌then◌else◌}
use Rattle.std.specs.Option.{option_eq, option_map, option_to_list}
use Rattle.moka_words.specs.declared.words.Word.{Word}
use Rattle.moka_words.specs.declared.words.Word.TheVariants.{Unset, Empty, Live, Tomb, SealedEmpty, SealedLive, SealedTomb}
use Rattle.moka_words.specs.declared.accesses.Choice.{Choice}
use Rattle.moka_words.specs.declared.accesses.Choice.TheVariants as choice
use Rattle.moka_words.specs.declared.accesses.Seen.{Seen}
use Rattle.moka_words.specs.declared.accesses.Seen.TheVariants as seen
use Rattle.moka_words.specs.Words.{stored_in, is_sealed}
use Rattle.moka_words.specs.Effect.{Memory, root, Effect}
use Rattle.moka_growth.specs.declared.kinds.CallKind.{CallKind}
use Rattle.moka_growth.specs.declared.kinds.CallKind.TheVariants as kind
use Rattle.moka_growth.specs.Growing.{seal_of, laid_out}
use Rattle.moka_growth.specs.Calls.{Point, Call, Ending, Step, Going, Decided, wanted, without_root, in_root, is_due, start_of, past_all, past, absent, present, probed, removed, chosen, missed, sealed, copies, next_at, goes}
use Rattle.moka_growth.specs.Calls as call
use Rattle.moka_growth.specs.Turns.{Leads}

-- a point where nothing is listed
abbrev pub IsFresh : Point → Type 0
IsFresh (call.Walk a l i nodes) = (i ≡ 0) × (nodes ≡ [])
IsFresh p = Unit {0}

-- a call that ends with no list, or with an empty one for want of a root
abbrev pub EndsFresh : Memory → Ending → Type 0
EndsFresh m (call.Nodes nodes) = (nodes ≡ []) × (root m ≡ None)
EndsFresh m e = Unit {0}

-- a point where a call lists nodes
abbrev pub IsListless : Point → Type 0
IsListless (call.Walk a l i nodes) = ⊥
IsListless p = Unit {0}

module _ (m : Memory) (c : Call) where
  abbrev Fresh : Step → Type 0
  Fresh step = Leads step (λ d. IsFresh d.point) (λ e. EndsFresh m e)

  either : (b : Bool) (s t : Step) → Fresh s → Fresh t → Fresh (if b then s else t)
  either true s t f g = f
  either false s t f g = g

  no_root : (k : CallKind) → None ≡ root m → Fresh (without_root k c)
  no_root kind.Get e = tt
  no_root kind.Insert e = tt
  no_root kind.Remove e = tt
  no_root kind.Keys e = (refl, sym e)

  starts : (k : CallKind) (a l : ℕ) → IsFresh (start_of k a l)
  starts kind.Get a l = tt
  starts kind.Insert a l = tt
  starts kind.Remove a l = tt
  starts kind.Keys a l = (refl, refl)

  all_past : (k : CallKind) (a l : ℕ) → Fresh (past_all k c a l)
  all_past kind.Get a l = tt
  all_past kind.Insert a l = tt
  all_past kind.Remove a l = tt
  all_past kind.Keys a l = tt

  goes_past : (a l v : ℕ) → Fresh (past c a l v)
  goes_past a l v = either (ltb (suc v) l) (goes c (call.Probe a l (suc v))) (past_all c.kind c a l) tt (all_past c.kind a l)

  is_absent : (k : CallKind) (a l v : ℕ) (w : Word) → Fresh (absent k c a l v w)
  is_absent kind.Get a l v w = tt
  is_absent kind.Insert a l v w = tt
  is_absent kind.Remove a l v w = tt
  is_absent kind.Keys a l v w = tt

  is_present : (k : CallKind) (a l v n : ℕ) → Fresh (present k c a l v n)
  is_present kind.Get a l v n = tt
  is_present kind.Insert a l v n = tt
  is_present kind.Remove a l v n = tt
  is_present kind.Keys a l v n = tt

  probes : (a l v : ℕ) (w : Word) (s : Bool) → Fresh (probed c a l v w s)
  probes a l v Unset s = goes_past a l v
  probes a l v Empty s = is_absent c.kind a l v Empty
  probes a l v (Live n) true = is_present c.kind a l v n
  probes a l v (Live n) false = goes_past a l v
  probes a l v (Tomb n) true = is_absent c.kind a l v (Tomb n)
  probes a l v (Tomb n) false = goes_past a l v
  probes a l v SealedEmpty s = tt
  probes a l v (SealedLive n) s = tt
  probes a l v (SealedTomb n) s = tt

  removes : (a l v : ℕ) (w : Word) → Fresh (removed c a l v w)
  removes a l v Unset = tt
  removes a l v Empty = tt
  removes a l v (Live n) = tt
  removes a l v (Tomb n) = tt
  removes a l v SealedEmpty = tt
  removes a l v (SealedLive n) = tt
  removes a l v (SealedTomb n) = tt

  chooses : (a l v : ℕ) (w : Word) (x : Choice) → Fresh (chosen c a l v w x)
  chooses a l v w choice.Keep = tt
  chooses a l v w (choice.Put n) = tt
  chooses a l v w choice.Remove = removes a l v w

  seals : (a l i : ℕ) (w : Word) (x : ℕ) (kept : List (ℕ × ℕ)) → Fresh (sealed c a l i w x kept)
  seals a l i w x kept = by (kept ++ option_to_list (option_map (λ n. (n, x)) (stored_in w)))
    where
      by : (ps : List (ℕ × ℕ)) → Fresh (if ltb (suc i) l then goes c (call.Seal a l (suc i) ps) else goes c (call.Next (Some a) l ps))
      by ps = either (ltb (suc i) l) (goes c (call.Seal a l (suc i) ps)) (goes c (call.Next (Some a) l ps)) tt tt

  copying : (from : Option ℕ) (b k : ℕ) (kept : List (ℕ × ℕ)) → Fresh (copies c from b k kept)
  copying from b k kept = either (ltb 0 k) (goes c (call.Copy from b 0 (laid_out kept k))) (goes c (call.Swing from b)) tt tt

  pub fresh_leads : (hash : ℕ → ℕ) (own : ℕ → Bool) (new : Memory) (p : Point) (s : Seen) → IsListless p →
      Effect hash own (wanted c.hash p) s m new → Fresh (next_at c p s)
  fresh_leads hash own new (call.Root met) (seen.Root None l t k) none e = no_root c.kind e.0
  fresh_leads hash own new (call.Root met) (seen.Root (Some a) l t k) none e =
      either (option_eq eqb met (Some a)) (goes c (call.Seal a l 0 []))
      (if is_due c.kind c.spent l t k then Going (record c { spent = true; point = call.Seal a l 0 [] }) else goes c (start_of c.kind a l)) tt
      (either (is_due c.kind c.spent l t k) (Going (record c { spent = true; point = call.Seal a l 0 [] })) (goes c (start_of c.kind a l)) tt
      (starts c.kind a l))
  fresh_leads hash own new (call.Probe a l v) (seen.Word w x s) none e = probes a l v w s
  fresh_leads hash own new (call.Choose a l v w) (seen.Chosen x) none e = chooses a l v w x
  fresh_leads hash own new (call.Change a l v from to) (seen.Exchanged None) none e = tt
  fresh_leads hash own new (call.Change a l v from to) (seen.Exchanged (Some met)) none e =
      either (is_sealed met) (goes c (call.Root (Some a))) (goes c (call.Probe a l v)) tt tt
  fresh_leads hash own new (call.Walk a l i nodes) s none e = absurd none
  fresh_leads hash own new (call.Seal a l i kept) (seen.Word w x s) none e =
      either (is_sealed w) (sealed c a l i w x kept) (goes c (call.Close a l i w x kept)) (seals a l i w x kept) tt
  fresh_leads hash own new (call.Close a l i w x kept) (seen.Exchanged None) none e = seals a l i (seal_of w) x kept
  fresh_leads hash own new (call.Close a l i w x kept) (seen.Exchanged (Some met)) none e = tt
  fresh_leads hash own new (call.Next array l kept) (seen.Next None k) none e = tt
  fresh_leads hash own new (call.Next array l kept) (seen.Next (Some b) k) none e = copying array b k kept
  fresh_leads hash own new (call.Link array l kept) (seen.Linked b k) none e = copying array b k kept
  fresh_leads hash own new (call.Copy from a i laid) seen.Copied none e =
      either (ltb (suc i) (length laid)) (goes c (call.Copy from a (suc i) laid)) (goes c (call.Swing from a)) tt tt
  fresh_leads hash own new (call.Swing from a) seen.Swung none e = tt
  fresh_leads hash own new p s none e = absurd e
