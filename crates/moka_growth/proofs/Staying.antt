-- A call that goes on keeps its kind and its hash.
use Rattle.std.proofs.Common.{◌≡◌, ℕ, Bool, true, false, List, [], ◌++◌, length, Option, Some, None, suc, refl, ltb, eqb, if◌then◌else◌}
use Rattle.std.specs.Option.{option_eq, option_map, option_to_list}
use Rattle.moka_words.specs.declared.words.Word.{Word}
use Rattle.moka_words.specs.declared.words.Word.TheVariants.{Unset, Empty, Live, Tomb, SealedEmpty, SealedLive, SealedTomb}
use Rattle.moka_words.specs.declared.accesses.Choice.{Choice}
use Rattle.moka_words.specs.declared.accesses.Choice.TheVariants as choice
use Rattle.moka_words.specs.declared.accesses.Seen.{Seen}
use Rattle.moka_words.specs.declared.accesses.Seen.TheVariants as seen
use Rattle.moka_words.specs.Words.{stored_in, is_sealed}
use Rattle.moka_words.specs.Effect.{Memory, Effect}
use Rattle.moka_growth.specs.declared.kinds.CallKind.{CallKind}
use Rattle.moka_growth.specs.declared.kinds.CallKind.TheVariants as kind
use Rattle.moka_growth.specs.Growing.{seal_of, laid_out}
use Rattle.moka_growth.specs.Calls.{Point, Call, Ending, Step, Going, Decided, Nodes, wanted, without_root, in_root, is_due, start_of, past_all, past, absent, present, probed, removed, chosen, missed, walked, sealed, copies, next_at, goes}
use Rattle.moka_growth.specs.Calls as call
use Rattle.moka_growth.specs.Turns.{Leads}

module _ (c : Call) where
  -- the call that goes on has the kind and the hash of this one
  abbrev Stays : Step → Type 0
  Stays step = Leads step (λ d. (d.kind ≡ c.kind) × (d.hash ≡ c.hash)) (λ e. Unit {0})

  either : (b : Bool) (s t : Step) → Stays s → Stays t → Stays (if b then s else t)
  either true s t f g = f
  either false s t f g = g

  no_root : (k : CallKind) → Stays (without_root k c)
  no_root kind.Get = tt
  no_root kind.Insert = (refl, refl)
  no_root kind.Remove = tt
  no_root kind.Keys = tt

  all_past : (k : CallKind) (a l : ℕ) → Stays (past_all k c a l)
  all_past kind.Get a l = tt
  all_past kind.Insert a l = (refl, refl)
  all_past kind.Remove a l = tt
  all_past kind.Keys a l = tt

  goes_past : (a l v : ℕ) → Stays (past c a l v)
  goes_past a l v = either (ltb (suc v) l) (goes c (call.Probe a l (suc v))) (past_all c.kind c a l) (refl, refl) (all_past c.kind a l)

  is_absent : (k : CallKind) (a l v : ℕ) (w : Word) → Stays (absent k c a l v w)
  is_absent kind.Get a l v w = tt
  is_absent kind.Insert a l v w = (refl, refl)
  is_absent kind.Remove a l v w = tt
  is_absent kind.Keys a l v w = tt

  is_present : (k : CallKind) (a l v n : ℕ) → Stays (present k c a l v n)
  is_present kind.Get a l v n = tt
  is_present kind.Insert a l v n = (refl, refl)
  is_present kind.Remove a l v n = (refl, refl)
  is_present kind.Keys a l v n = tt

  probes : (a l v : ℕ) (w : Word) (s : Bool) → Stays (probed c a l v w s)
  probes a l v Unset s = goes_past a l v
  probes a l v Empty s = is_absent c.kind a l v Empty
  probes a l v (Live n) true = is_present c.kind a l v n
  probes a l v (Live n) false = goes_past a l v
  probes a l v (Tomb n) true = is_absent c.kind a l v (Tomb n)
  probes a l v (Tomb n) false = goes_past a l v
  probes a l v SealedEmpty s = (refl, refl)
  probes a l v (SealedLive n) s = (refl, refl)
  probes a l v (SealedTomb n) s = (refl, refl)

  removes : (a l v : ℕ) (w : Word) → Stays (removed c a l v w)
  removes a l v Unset = tt
  removes a l v Empty = tt
  removes a l v (Live n) = (refl, refl)
  removes a l v (Tomb n) = tt
  removes a l v SealedEmpty = tt
  removes a l v (SealedLive n) = tt
  removes a l v (SealedTomb n) = tt

  chooses : (a l v : ℕ) (w : Word) (x : Choice) → Stays (chosen c a l v w x)
  chooses a l v w choice.Keep = tt
  chooses a l v w (choice.Put n) = (refl, refl)
  chooses a l v w choice.Remove = removes a l v w

  seals : (a l i : ℕ) (w : Word) (x : ℕ) (kept : List (ℕ × ℕ)) → Stays (sealed c a l i w x kept)
  seals a l i w x kept = by (kept ++ option_to_list (option_map (λ n. (n, x)) (stored_in w)))
    where
      by : (ps : List (ℕ × ℕ)) → Stays (if ltb (suc i) l then goes c (call.Seal a l (suc i) ps) else goes c (call.Next (Some a) l ps))
      by ps = either (ltb (suc i) l) (goes c (call.Seal a l (suc i) ps)) (goes c (call.Next (Some a) l ps)) (refl, refl) (refl, refl)

  copying : (from : Option ℕ) (b k : ℕ) (kept : List (ℕ × ℕ)) → Stays (copies c from b k kept)
  copying from b k kept = either (ltb 0 k) (goes c (call.Copy from b 0 (laid_out kept k))) (goes c (call.Swing from b)) (refl, refl) (refl, refl)

  walks : (a l i : ℕ) (w : Word) (ns : List ℕ) → Stays (if is_sealed w then goes c (call.Root (Some a)) else walked c a l i ns)
  walks a l i w ns = either (is_sealed w) (goes c (call.Root (Some a))) (walked c a l i ns) (refl, refl)
      (either (ltb (suc i) l) (goes c (call.Walk a l (suc i) ns)) (Decided (Nodes ns)) (refl, refl) tt)

  pub stays_leads : (hash : ℕ → ℕ) (own : ℕ → Bool) (old new : Memory) (p : Point) (s : Seen) →
      Effect hash own (wanted c.hash p) s old new → Stays (next_at c p s)
  stays_leads hash own old new (call.Root met) (seen.Root None l t k) e = no_root c.kind
  stays_leads hash own old new (call.Root met) (seen.Root (Some a) l t k) e =
      either (option_eq eqb met (Some a)) (goes c (call.Seal a l 0 []))
      (if is_due c.kind c.spent l t k then Going (record c { spent = true; point = call.Seal a l 0 [] }) else goes c (start_of c.kind a l))
      (refl, refl)
      (either (is_due c.kind c.spent l t k) (Going (record c { spent = true; point = call.Seal a l 0 [] })) (goes c (start_of c.kind a l))
      (refl, refl) (refl, refl))
  stays_leads hash own old new (call.Probe a l v) (seen.Word w x s) e = probes a l v w s
  stays_leads hash own old new (call.Choose a l v w) (seen.Chosen x) e = chooses a l v w x
  stays_leads hash own old new (call.Change a l v from to) (seen.Exchanged None) e = tt
  stays_leads hash own old new (call.Change a l v from to) (seen.Exchanged (Some met)) e =
      either (is_sealed met) (goes c (call.Root (Some a))) (goes c (call.Probe a l v)) (refl, refl) (refl, refl)
  stays_leads hash own old new (call.Walk a l i nodes) (seen.Word w x s) e = walks a l i w (nodes ++ option_to_list (stored_in w))
  stays_leads hash own old new (call.Seal a l i kept) (seen.Word w x s) e =
      either (is_sealed w) (sealed c a l i w x kept) (goes c (call.Close a l i w x kept)) (seals a l i w x kept) (refl, refl)
  stays_leads hash own old new (call.Close a l i w x kept) (seen.Exchanged None) e = seals a l i (seal_of w) x kept
  stays_leads hash own old new (call.Close a l i w x kept) (seen.Exchanged (Some met)) e = (refl, refl)
  stays_leads hash own old new (call.Next array l kept) (seen.Next None k) e = (refl, refl)
  stays_leads hash own old new (call.Next array l kept) (seen.Next (Some b) k) e = copying array b k kept
  stays_leads hash own old new (call.Link array l kept) (seen.Linked b k) e = copying array b k kept
  stays_leads hash own old new (call.Copy from a i laid) seen.Copied e =
      either (ltb (suc i) (length laid)) (goes c (call.Copy from a (suc i) laid)) (goes c (call.Swing from a)) (refl, refl) (refl, refl)
  stays_leads hash own old new (call.Swing from a) seen.Swung e = (refl, refl)
  stays_leads hash own old new p s e = absurd e
