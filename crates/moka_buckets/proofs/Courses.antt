-- Where the calls of a table come, and what they have found as they end.
use Rattle.std.proofs.Common.{◌≡◌, ℕ, Bool, true, false, cond, List, [], ◌++◌, length, Option, Some, None, suc, refl, sym, subst, ◌∙◌, ltb, eqb, if◌then◌else◌}
use Rattle.std.specs.Option.{option_eq, option_map, option_map_or, option_to_list}
use Rattle.moka_buckets.specs.declared.key_op.KeyOp.{KeyOp}
use Rattle.moka_buckets.specs.declared.key_op.KeyOp.TheVariants as op
use Rattle.moka_words.specs.declared.words.Word.{Word}
use Rattle.moka_words.specs.declared.words.Word.TheVariants.{Unset, Empty, Live, Tomb, SealedEmpty, SealedLive, SealedTomb}
use Rattle.moka_words.specs.declared.accesses.Seen.{Seen}
use Rattle.moka_words.specs.declared.accesses.Seen.TheVariants as seen
use Rattle.moka_words.specs.Words.{node_of, stored_in, is_sealed}
use Rattle.moka_words.specs.Effect.{Memory, Effect}
use Rattle.moka_growth.specs.declared.kinds.CallKind.{CallKind}
use Rattle.moka_growth.specs.declared.kinds.CallKind.TheVariants as kind
use Rattle.moka_growth.specs.Growing.{seal_of, laid_out}
use Rattle.moka_growth.specs.Calls.{Point, Call, Ending, Step, Going, Decided, wanted, access_of, next_of, is_due, start_of, without_root, past_all, past, absent, present, probed, sealed, copies, next_at, goes}
use Rattle.moka_growth.specs.Calls as call
use Rattle.moka_growth.specs.Fits.{Rests}
use Rattle.moka_growth.specs.Turns.{Leads}
use Rattle.moka_buckets.specs.Tables.{IsNoWalk, kind_of, is_look, found_at, found_before, found_loaded, found_by}

either : (P : Call → Type 0) (Q : Ending → Type 0) (b : Bool) (s t : Step) → Leads s P Q → Leads t P Q → Leads (if b then s else t) P Q
either P Q true s t f g = f
either P Q false s t f g = g

-- a call comes to no change but by a choice
abbrev pub IsNoChange : Point → Type 0
IsNoChange (call.Change array size passed from to) = ⊥
IsNoChange p = Unit {0}

-- it has a key
abbrev pub IsKeyed : CallKind → Type 0
IsKeyed kind.Keys = ⊥
IsKeyed k = Unit {0}

pub is_keyed : {K V : Type 0} (o : KeyOp K V) → IsKeyed (kind_of o)
is_keyed (op.Get key) = tt
is_keyed (op.InsertOrModify key stored) = tt
is_keyed (op.InsertIfAbsent key stored) = tt
is_keyed (op.RemoveIf key stamp) = tt

-- where a call comes that goes on: at no change, and where it asks it has just found this node
abbrev pub ComesTo : (found : Option ℕ) → Point → Point → Type 0
ComesTo found p (call.Choose array size passed w) = IsNoChange p × (stored_in w ≡ found)
ComesTo found p (call.Change array size passed from to) = ⊥
ComesTo found p (call.Walk array size index nodes) = ⊥
ComesTo found p q = Unit {0}

abbrev pub Comes : CallKind → (hash : ℕ) → (found : Option ℕ) → Point → Call → Type 0
Comes k h found p d = (d.kind ≡ k) × (d.hash ≡ h) × ComesTo found p d.point

-- how a call ends that has not changed anything: a look with what it found, a removal with nothing
abbrev pub EndsBy : CallKind → (found : Option ℕ) → Ending → Type 0
EndsBy kind.Get found e = e ≡ call.Kept found
EndsBy kind.Insert found e = ⊥
EndsBy kind.Remove found e = e ≡ call.Kept None
EndsBy kind.Keys found e = ⊥

pub data Ended (k : CallKind) (found : Option ℕ) (p : Point) (e : Ending) : Type 0 where
  ByChange : (a l v : ℕ) (from to : Word) → p ≡ call.Change a l v from to → e ≡ call.Changed (stored_in from) → Ended k found p e
  ByLook : IsNoChange p → EndsBy k found e → Ended k found p e

module _ (h : ℕ) (p : Point) (nay : IsNoChange p) where
  starts : (k : CallKind) → IsKeyed k → (c : Call) → c.kind ≡ k → c.hash ≡ h → (found : Option ℕ) (a l : ℕ) (Q : Ending → Type 0) →
      Leads (goes c (start_of k a l)) (Comes k h found p) Q
  starts kind.Get keyed c is same found a l Q = (is, same, tt)
  starts kind.Insert keyed c is same found a l Q = (is, same, tt)
  starts kind.Remove keyed c is same found a l Q = (is, same, tt)
  starts kind.Keys keyed c is same found a l Q = absurd keyed

  no_root : (k : CallKind) → IsKeyed k → (c : Call) → c.kind ≡ k → c.hash ≡ h → Leads (without_root k c) (Comes k h None p) (Ended k None p)
  no_root kind.Get keyed c is same = ByLook nay refl
  no_root kind.Insert keyed c is same = (is, same, tt)
  no_root kind.Remove keyed c is same = ByLook nay refl
  no_root kind.Keys keyed c is same = absurd keyed

  all_past : (k : CallKind) → IsKeyed k → (c : Call) → c.kind ≡ k → c.hash ≡ h → (a l : ℕ) → Leads (past_all k c a l) (Comes k h None p) (Ended k None p)
  all_past kind.Get keyed c is same a l = ByLook nay refl
  all_past kind.Insert keyed c is same a l = (is, same, tt)
  all_past kind.Remove keyed c is same a l = ByLook nay refl
  all_past kind.Keys keyed c is same a l = absurd keyed

  is_absent : (k : CallKind) → IsKeyed k → (c : Call) → c.kind ≡ k → c.hash ≡ h → (a l v : ℕ) (w : Word) → stored_in w ≡ None →
      Leads (absent k c a l v w) (Comes k h None p) (Ended k None p)
  is_absent kind.Get keyed c is same a l v w none = ByLook nay refl
  is_absent kind.Insert keyed c is same a l v w none = (is, same, (nay, none))
  is_absent kind.Remove keyed c is same a l v w none = ByLook nay refl
  is_absent kind.Keys keyed c is same a l v w none = absurd keyed

  is_present : (k : CallKind) → IsKeyed k → (c : Call) → c.kind ≡ k → c.hash ≡ h → (a l v n : ℕ) →
      Leads (present k c a l v n) (Comes k h (Some n) p) (Ended k (Some n) p)
  is_present kind.Get keyed c is same a l v n = ByLook nay refl
  is_present kind.Insert keyed c is same a l v n = (is, same, (nay, refl))
  is_present kind.Remove keyed c is same a l v n = (is, same, (nay, refl))
  is_present kind.Keys keyed c is same a l v n = absurd keyed

module _ (hash : ℕ → ℕ) (own : ℕ → Bool) (old new : Memory) (h : ℕ) (spent : Bool) (k : CallKind) (keyed : IsKeyed k) where
  abbrev calling : Point → Call
  calling p = record { kind = k; hash = h; spent = spent; point = p }

  abbrev Course : Point → (found : Option ℕ) → Step → Type 0
  Course p found s = Leads s (Comes k h found p) (Ended k found p)

  -- nothing but words of its key
  module _ (p : Point) (nay : IsNoChange p) (a l v : ℕ) where
    is_past : Course p None (past (calling p) a l v)
    is_past = either (Comes k h None p) (Ended k None p) (ltb (suc v) l) (goes (calling p) (call.Probe a l (suc v))) (past_all k (calling p) a l)
        (refl, refl, tt) (all_past h p nay k keyed (calling p) refl refl a l)

    of_live : (n : ℕ) (s : Bool) → Course p (if s then Some n else None) (probed (calling p) a l v (Live n) s)
    of_live n true = is_present h p nay k keyed (calling p) refl refl a l v n
    of_live n false = is_past

    of_tomb : (n : ℕ) (s : Bool) → Course p None (probed (calling p) a l v (Tomb n) s)
    of_tomb n true = is_absent h p nay k keyed (calling p) refl refl a l v (Tomb n) refl
    of_tomb n false = is_past

    is_probed : (w : Word) (s : Bool) → s ≡ option_map_or own (node_of w) false → Course p (found_at own w) (probed (calling p) a l v w s)
    is_probed Unset s e = is_past
    is_probed Empty s e = is_absent h p nay k keyed (calling p) refl refl a l v Empty refl
    is_probed (Live n) s e = subst (λ b. Course p (if b then Some n else None) (probed (calling p) a l v (Live n) s)) e (of_live n s)
    is_probed (Tomb n) s e = of_tomb n s
    is_probed SealedEmpty s e = (refl, refl, tt)
    is_probed (SealedLive n) s e = (refl, refl, tt)
    is_probed (SealedTomb n) s e = (refl, refl, tt)

  is_sealing : (p : Point) (a l i : ℕ) (w : Word) (x : ℕ) (kept : List (ℕ × ℕ)) (o : Option ℕ) → Course p o (sealed (calling p) a l i w x kept)
  is_sealing p a l i w x kept o = by (kept ++ option_to_list (option_map (λ n. (n, x)) (stored_in w)))
    where
      by : (ps : List (ℕ × ℕ)) → Course p o (if ltb (suc i) l then goes (calling p) (call.Seal a l (suc i) ps) else goes (calling p) (call.Next (Some a) l ps))
      by ps = either (Comes k h o p) (Ended k o p) (ltb (suc i) l) (goes (calling p) (call.Seal a l (suc i) ps)) (goes (calling p) (call.Next (Some a) l ps))
          (refl, refl, tt) (refl, refl, tt)

  is_copying : (p : Point) (from : Option ℕ) (b j : ℕ) (kept : List (ℕ × ℕ)) (o : Option ℕ) → Course p o (copies (calling p) from b j kept)
  is_copying p from b j kept o = either (Comes k h o p) (Ended k o p) (ltb 0 j) (goes (calling p) (call.Copy from b 0 (laid_out kept j))) (goes (calling p) (call.Swing from b))
      (refl, refl, tt) (refl, refl, tt)

  leads : (p : Point) (s : Seen) → Rests p → IsNoWalk p → Effect hash own (wanted h p) s old new → Course p (found_loaded own old (wanted h p)) (next_at (calling p) p s)
  leads (call.Root met) (seen.Root None l t n) rests walks e = no_root h (call.Root met) tt k keyed (calling (call.Root met)) refl refl
  leads (call.Root met) (seen.Root (Some a) l t n) rests walks e =
      let p = call.Root met in
      let c = calling p in
      let due = is_due k spent l t n in
      either (Comes k h None p) (Ended k None p) (option_eq eqb met (Some a)) (goes c (call.Seal a l 0 []))
      (if due then Going (record c { spent = true; point = call.Seal a l 0 [] }) else goes c (start_of k a l)) (refl, refl, tt)
      (either (Comes k h None p) (Ended k None p) due (Going (record c { spent = true; point = call.Seal a l 0 [] })) (goes c (start_of k a l))
      (refl, refl, tt) (starts h p tt k keyed c refl refl None a l (Ended k None p)))
  leads (call.Probe a l v) (seen.Word w x s) rests walks e =
      subst (λ u. Course (call.Probe a l v) (found_at own u) (probed (calling (call.Probe a l v)) a l v w s)) e.0 (is_probed (call.Probe a l v) tt a l v w s e.2)
  leads (call.Choose a l v w) s rests walks e = absurd rests
  leads (call.Change a l v from to) (seen.Exchanged None) rests walks e = ByChange a l v from to refl refl
  leads (call.Change a l v from to) (seen.Exchanged (Some met)) rests walks e =
      let p = call.Change a l v from to in
      either (Comes k h None p) (Ended k None p) (is_sealed met) (goes (calling p) (call.Root (Some a))) (goes (calling p) (call.Probe a l v))
      (refl, refl, tt) (refl, refl, tt)
  leads (call.Walk a l i nodes) s rests walks e = absurd walks
  leads (call.Seal a l i kept) (seen.Word w x s) rests walks e = by (found_loaded own old (wanted h (call.Seal a l i kept)))
    where
      by : (o : Option ℕ) → Course (call.Seal a l i kept) o (next_at (calling (call.Seal a l i kept)) (call.Seal a l i kept) (seen.Word w x s))
      by o = let p = call.Seal a l i kept in either (Comes k h o p) (Ended k o p) (is_sealed w) (sealed (calling p) a l i w x kept) (goes (calling p) (call.Close a l i w x kept))
          (is_sealing p a l i w x kept o) (refl, refl, tt)
  leads (call.Close a l i w x kept) (seen.Exchanged None) rests walks e = is_sealing (call.Close a l i w x kept) a l i (seal_of w) x kept None
  leads (call.Close a l i w x kept) (seen.Exchanged (Some met)) rests walks e = (refl, refl, tt)
  leads (call.Next array l kept) (seen.Next None n) rests walks e = (refl, refl, tt)
  leads (call.Next array l kept) (seen.Next (Some b) n) rests walks e = is_copying (call.Next array l kept) array b n kept None
  leads (call.Link array l kept) (seen.Linked b n) rests walks e = is_copying (call.Link array l kept) array b n kept None
  leads (call.Copy from a i laid) seen.Copied rests walks e =
      let p = call.Copy from a i laid in
      either (Comes k h None p) (Ended k None p) (ltb (suc i) (length laid)) (goes (calling p) (call.Copy from a (suc i) laid)) (goes (calling p) (call.Swing from a))
      (refl, refl, tt) (refl, refl, tt)
  leads (call.Swing from a) seen.Swung rests walks e = (refl, refl, tt)
  leads p s rests walks e = absurd e

-- the same of any call of an operation
pub course : {K V : Type 0} (o : KeyOp K V) (hash : ℕ → ℕ) (own : ℕ → Bool) (old new : Memory) (c : Call) (s : Seen) → c.kind ≡ kind_of o → Rests c.point →
    IsNoWalk c.point → Effect hash own (access_of c) s old new →
    Leads (next_of c s) (Comes (kind_of o) c.hash (found_loaded own old (access_of c)) c.point) (Ended (kind_of o) (found_loaded own old (access_of c)) c.point)
course o hash own old new c s is rests walks e =
    subst (λ k. Leads (next_of (record c { kind = k }) s) (Comes (kind_of o) c.hash (found_loaded own old (access_of c)) c.point)
    (Ended (kind_of o) (found_loaded own old (access_of c)) c.point))
    (sym is) (leads hash own old new c.hash c.spent (kind_of o) (is_keyed o) c.point s rests walks e)

abbrev nothing : Option ℕ
nothing = None

no_either : (b : Bool) → nothing ≡ cond b None None
no_either true = refl
no_either false = refl

no_seal : (w : Word) → found_before w (seal_of w) ≡ None
no_seal Unset = refl
no_seal Empty = refl
no_seal (Live n) = refl
no_seal (Tomb n) = refl
no_seal SealedEmpty = refl
no_seal (SealedLive n) = refl
no_seal (SealedTomb n) = refl

-- what an operation answers that changes nothing by its last access: the node that it found, if it is a look
pub answers_found : {K V : Type 0} (o : KeyOp K V) (own : ℕ → Bool) (m : Memory) (h : ℕ) (p : Point) → IsNoChange p →
    found_by o own m (wanted h p) ≡ cond (is_look o) (found_loaded own m (wanted h p)) None
answers_found o own m h (call.Change a l v from to) nay = absurd nay
answers_found o own m h (call.Root met) nay = no_either (is_look o)
answers_found o own m h (call.Probe a l v) nay = refl
answers_found o own m h (call.Choose a l v w) nay = no_either (is_look o)
answers_found o own m h (call.Walk a l i nodes) nay = refl
answers_found o own m h (call.Seal a l i kept) nay = refl
answers_found o own m h (call.Close a l i w x kept) nay = no_seal w ∙ no_either (is_look o)
answers_found o own m h (call.Next array l kept) nay = no_either (is_look o)
answers_found o own m h (call.Link array l kept) nay = no_either (is_look o)
answers_found o own m h (call.Copy from a i laid) nay = no_either (is_look o)
answers_found o own m h (call.Swing from a) nay = no_either (is_look o)
