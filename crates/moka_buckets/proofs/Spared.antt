-- Which load leads an operation to a put, and what comes of the node that was made for it.
use Rattle.std.proofs.Common.{◌≡◌, ◌⊎◌, ℕ, Bool, true, false, cond, List, [], ◌++◌, length, Option, Some, None, IsSome, is_some, suc, inl, inr, refl, sym, ap, subst, ◌∙◌, ltb, eqb, if◌then◌else◌}
use Rattle.std.proofs.lemmas.Bool.{false≢true}
use Rattle.std.specs.Option.{option_eq, option_map, option_to_list}
use Rattle.moka_hist.specs.declared.records.Stored.{Stored}
use Rattle.moka_buckets.specs.declared.key_op.KeyOp.{KeyOp}
use Rattle.moka_buckets.specs.declared.key_op.KeyOp.TheVariants as op
use Rattle.moka_words.specs.declared.words.Word.{Word}
use Rattle.moka_words.specs.declared.words.Word.TheVariants.{Unset, Empty, Live, Tomb, SealedEmpty, SealedLive, SealedTomb}
use Rattle.moka_words.specs.declared.accesses.Access.{Access}
use Rattle.moka_words.specs.declared.accesses.Choice.TheVariants as choice
use Rattle.moka_words.specs.declared.accesses.Seen.{Seen}
use Rattle.moka_words.specs.declared.accesses.Seen.TheVariants as seen
use Rattle.moka_words.specs.Arrays.{bucket_at}
use Rattle.moka_words.specs.Words.{stored_in, is_sealed}
use Rattle.moka_words.specs.Effect.{Memory, Effect}
use Rattle.moka_growth.specs.declared.kinds.CallKind.{CallKind}
use Rattle.moka_growth.specs.declared.kinds.CallKind.TheVariants as kind
use Rattle.moka_growth.specs.Growing.{seal_of, laid_out}
use Rattle.moka_growth.specs.Calls.{Point, Call, Step, Going, Decided, wanted, access_of, next_of, is_due, start_of, without_root, past_all, past, absent, present, probed, sealed, copies, next_at, goes}
use Rattle.moka_growth.specs.Calls as call
use Rattle.moka_growth.specs.Fits.{Rests}
use Rattle.moka_calls.specs.Standing.{IsGoing, MayWant, Wants, is_probe, is_probing}
use Rattle.moka_buckets.specs.declared.node.Node.{Node}
use Rattle.moka_buckets.specs.declared.bucket_call.BucketCall.{BucketCall}
use Rattle.moka_buckets.specs.Tables.{IsNoWalk, choose, stored_by}
use Rattle.moka_buckets.specs.Putting.{WillPut, lacks_node, node_by, opened, opened_by, puts_at, puts_if, spare_of}
use Rattle.moka_buckets.specs.Steps.{Places, answered, answered_at, asked, asked_at}

none_some : {A B : Type 0} {x : A} → None ≡ Some x → B
none_some e = absurd (cc e)

-- what the step asks of is this, if it asks
abbrev AsksOf : Option (Option ℕ) → Step → Type 0
AsksOf x s = (found : Option ℕ) → asked s ≡ Some found → x ≡ Some found

either : (x : Option (Option ℕ)) (b : Bool) (s t : Step) → AsksOf x s → AsksOf x t → AsksOf x (if b then s else t)
either x true s t f g = f
either x false s t f g = g

module _ (hash : ℕ → ℕ) (own : ℕ → Bool) (old new : Memory) (h : ℕ) (spent : Bool) where
  abbrev calling : CallKind → Point → Call
  calling k p = record { kind = k; hash = h; spent = spent; point = p }

  starts : (k : CallKind) (c : Call) (a l : ℕ) → AsksOf None (goes c (start_of k a l))
  starts kind.Get c a l = λ found e. e
  starts kind.Insert c a l = λ found e. e
  starts kind.Remove c a l = λ found e. e
  starts kind.Keys c a l = λ found e. e

  no_root : (k : CallKind) (c : Call) → AsksOf None (without_root k c)
  no_root kind.Get c = λ found e. e
  no_root kind.Insert c = λ found e. e
  no_root kind.Remove c = λ found e. e
  no_root kind.Keys c = λ found e. e

  all_past : (k : CallKind) (c : Call) (a l : ℕ) → AsksOf None (past_all k c a l)
  all_past kind.Get c a l = λ found e. e
  all_past kind.Insert c a l = λ found e. e
  all_past kind.Remove c a l = λ found e. e
  all_past kind.Keys c a l = λ found e. e

  is_absent : (k : CallKind) (c : Call) (a l v : ℕ) (w : Word) → AsksOf (Some (stored_in w)) (absent k c a l v w)
  is_absent kind.Get c a l v w = λ found e. none_some e
  is_absent kind.Insert c a l v w = λ found e. e
  is_absent kind.Remove c a l v w = λ found e. none_some e
  is_absent kind.Keys c a l v w = λ found e. none_some e

  is_present : (k : CallKind) (c : Call) (a l v n : ℕ) → AsksOf (Some (Some n)) (present k c a l v n)
  is_present kind.Get c a l v n = λ found e. none_some e
  is_present kind.Insert c a l v n = λ found e. e
  is_present kind.Remove c a l v n = λ found e. e
  is_present kind.Keys c a l v n = λ found e. none_some e

  is_past : (c : Call) (a l v : ℕ) → AsksOf None (past c a l v)
  is_past c a l v = either None (ltb (suc v) l) (goes c (call.Probe a l (suc v))) (past_all c.kind c a l) (λ found e. e) (all_past c.kind c a l)

  is_probed : (c : Call) (a l v : ℕ) (w : Word) (s : Bool) → AsksOf (opened_by w s) (probed c a l v w s)
  is_probed c a l v Unset s = is_past c a l v
  is_probed c a l v Empty s = is_absent c.kind c a l v Empty
  is_probed c a l v (Live n) true = is_present c.kind c a l v n
  is_probed c a l v (Live n) false = is_past c a l v
  is_probed c a l v (Tomb n) true = is_absent c.kind c a l v (Tomb n)
  is_probed c a l v (Tomb n) false = is_past c a l v
  is_probed c a l v SealedEmpty s = λ found e. e
  is_probed c a l v (SealedLive n) s = λ found e. e
  is_probed c a l v (SealedTomb n) s = λ found e. e

  is_sealing : (c : Call) (a l i : ℕ) (w : Word) (x : ℕ) (kept : List (ℕ × ℕ)) → AsksOf None (sealed c a l i w x kept)
  is_sealing c a l i w x kept = by (kept ++ option_to_list (option_map (λ n. (n, x)) (stored_in w)))
    where
      by : (ps : List (ℕ × ℕ)) → AsksOf None (if ltb (suc i) l then goes c (call.Seal a l (suc i) ps) else goes c (call.Next (Some a) l ps))
      by ps = either None (ltb (suc i) l) (goes c (call.Seal a l (suc i) ps)) (goes c (call.Next (Some a) l ps)) (λ found e. e) (λ found e. e)

  is_copying : (c : Call) (from : Option ℕ) (b j : ℕ) (kept : List (ℕ × ℕ)) → AsksOf None (copies c from b j kept)
  is_copying c from b j kept = either None (ltb 0 j) (goes c (call.Copy from b 0 (laid_out kept j))) (goes c (call.Swing from b)) (λ found e. e) (λ found e. e)

  -- a call that rests asks by a load of its probe alone
  asks_by : (k : CallKind) (p : Point) (s : Seen) → Rests p → IsNoWalk p → Effect hash own (wanted h p) s old new →
      AsksOf (cond (is_probe p) (opened s) None) (next_at (calling k p) p s)
  asks_by k (call.Root met) (seen.Root None l t n) rests walks e = no_root k (calling k (call.Root met))
  asks_by k (call.Root met) (seen.Root (Some a) l t n) rests walks e =
      let c = calling k (call.Root met) in
      let due = is_due k spent l t n in
      either None (option_eq eqb met (Some a)) (goes c (call.Seal a l 0 []))
      (if due then Going (record c { spent = true; point = call.Seal a l 0 [] }) else goes c (start_of k a l)) (λ found d. d)
      (either None due (Going (record c { spent = true; point = call.Seal a l 0 [] })) (goes c (start_of k a l)) (λ found d. d) (starts k c a l))
  asks_by k (call.Probe a l v) (seen.Word w x s) rests walks e = is_probed (calling k (call.Probe a l v)) a l v w s
  asks_by k (call.Choose a l v w) s rests walks e = absurd rests
  asks_by k (call.Change a l v from to) (seen.Exchanged None) rests walks e = λ found d. d
  asks_by k (call.Change a l v from to) (seen.Exchanged (Some met)) rests walks e =
      let c = calling k (call.Change a l v from to) in
      either None (is_sealed met) (goes c (call.Root (Some a))) (goes c (call.Probe a l v)) (λ found d. d) (λ found d. d)
  asks_by k (call.Walk a l i nodes) s rests walks e = absurd walks
  asks_by k (call.Seal a l i kept) (seen.Word w x s) rests walks e =
      let c = calling k (call.Seal a l i kept) in
      either None (is_sealed w) (sealed c a l i w x kept) (goes c (call.Close a l i w x kept)) (is_sealing c a l i w x kept) (λ found d. d)
  asks_by k (call.Close a l i w x kept) (seen.Exchanged None) rests walks e = is_sealing (calling k (call.Close a l i w x kept)) a l i (seal_of w) x kept
  asks_by k (call.Close a l i w x kept) (seen.Exchanged (Some met)) rests walks e = λ found d. d
  asks_by k (call.Next array l kept) (seen.Next None n) rests walks e = λ found d. d
  asks_by k (call.Next array l kept) (seen.Next (Some b) n) rests walks e = is_copying (calling k (call.Next array l kept)) array b n kept
  asks_by k (call.Link array l kept) (seen.Linked b n) rests walks e = is_copying (calling k (call.Link array l kept)) array b n kept
  asks_by k (call.Copy from a i laid) seen.Copied rests walks e =
      let c = calling k (call.Copy from a i laid) in
      either None (ltb (suc i) (length laid)) (goes c (call.Copy from a (suc i) laid)) (goes c (call.Swing from a)) (λ found d. d) (λ found d. d)
  asks_by k (call.Swing from a) seen.Swung rests walks e = λ found d. d
  asks_by k p s rests walks e = absurd e

pub asks_open : (hash : ℕ → ℕ) (own : ℕ → Bool) (old new : Memory) (c : Call) (s : Seen) → Rests c.point → IsNoWalk c.point →
    Effect hash own (access_of c) s old new → (found : Option ℕ) → asked (next_of c s) ≡ Some found → cond (is_probe c.point) (opened s) None ≡ Some found
asks_open hash own old new c s rests walks e found is = asks_by hash own old new c.hash c.spent c.kind c.point s rests walks e found is

-- where a node is lacking the call has changed nothing
probe_wants : (h : ℕ) (p : Point) (s : Seen) → is_probe p ≡ true → MayWant (wanted h p) s
probe_wants h (call.Root met) s is = absurd (false≢true is)
probe_wants h (call.Probe a l v) s is = tt
probe_wants h (call.Choose a l v w) s is = absurd (false≢true is)
probe_wants h (call.Change a l v from to) s is = absurd (false≢true is)
probe_wants h (call.Walk a l i nodes) s is = absurd (false≢true is)
probe_wants h (call.Seal a l i kept) s is = absurd (false≢true is)
probe_wants h (call.Close a l i w x kept) s is = absurd (false≢true is)
probe_wants h (call.Next array l kept) s is = absurd (false≢true is)
probe_wants h (call.Link array l kept) s is = absurd (false≢true is)
probe_wants h (call.Copy from a i laid) s is = absurd (false≢true is)
probe_wants h (call.Swing from a) s is = absurd (false≢true is)

may_want : (step : Step) (a : Access) (s : Seen) → Wants step a → is_probing step ≡ true → MayWant a s
may_want (Decided e) a s wants is = absurd wants
may_want (Going c) a s wants is = subst (λ x. MayWant x s) (sym wants) (probe_wants c.hash c.point s is)

of_cond : (b c : Bool) → cond b false c ≡ true → (b ≡ false) × (c ≡ true)
of_cond true c e = absurd (false≢true e)
of_cond false c e = (refl, e)

of_both : (b c : Bool) → cond b c false ≡ true → b ≡ true
of_both true c e = refl
of_both false c e = absurd (false≢true e)

no_number : (x : Option ℕ) → is_some x ≡ false → x ≡ None
no_number None e = refl
no_number (Some n) e = absurd (false≢true (sym e))

made_by : {A : Type 0} (b : Bool) (x : Option A) (y : A) → cond b x None ≡ Some y → (b ≡ true) × (x ≡ Some y)
made_by true x y e = (refl, e)
made_by false x y e = none_some e

module _ {K V : Type 0} where
  pub lacks_wants : (c : BucketCall K V) (a : Access) (s : Seen) → Wants c.table a → lacks_node c s ≡ true → MayWant a s
  lacks_wants c a s wants lacks = may_want c.table a s wants
      (of_both (is_probing c.table) (puts_if c.operation (opened s)) (of_cond (is_some c.node) (cond (is_probing c.table) (puts_if c.operation (opened s)) false) lacks).1)

  -- a spare node is one of the call's pair, and the call has none
  pub spare_made : (c : BucketCall K V) (s : Seen) (node : Node K V) → spare_of c s ≡ Some node → (c.node ≡ None) × (node_by c ≡ Some node)
  spare_made c s node e =
      let by = made_by (lacks_node c s) (node_by c) node e in (
        no_number c.node (of_cond (is_some c.node) (cond (is_probing c.table) (puts_if c.operation (opened s)) false) by.0).0,
        by.1,
      )

  -- a call that asks and is to put a node had it, or lacked it
  pub asks_lacks : (c : BucketCall K V) (s : Seen) (found : Option ℕ) → c.node ≡ None → cond (is_probing c.table) (opened s) None ≡ Some found →
      puts_at c.operation found ≡ true → lacks_node c s ≡ true
  asks_lacks c s found none opens puts = ap (λ n. cond (is_some n) false (cond (is_probing c.table) (puts_if c.operation (opened s)) false)) none ∙ by (is_probing c.table) opens
    where
      by : (b : Bool) → cond b (opened s) None ≡ Some found → cond b (puts_if c.operation (opened s)) false ≡ true
      by true e = ap (puts_if c.operation) e ∙ puts
      by false e = none_some e

  -- an operation that puts has a pair to be stored
  puts_stored : (o : KeyOp K V) (found : Option ℕ) → puts_at o found ≡ true → IsSome (stored_by o)
  puts_stored (op.Get key) found e = absurd (false≢true e)
  puts_stored (op.InsertOrModify key stored) found e = refl
  puts_stored (op.InsertIfAbsent key stored) found e = refl
  puts_stored (op.RemoveIf key stamp) found e = absurd (false≢true e)

  has_node : (o : Option (K × Stored V)) (hash : ℕ) → IsSome o →
      IsSome (option_map {U = Node K V} (λ pair. record { key = pair.0; stored = pair.1; hash = hash }) o)
  has_node None hash has = absurd (false≢true has)
  has_node (Some pair) hash has = refl

  has_spare : (c : BucketCall K V) (s : Seen) (found : Option ℕ) → puts_at c.operation found ≡ true → lacks_node c s ≡ true → IsSome (spare_of c s)
  has_spare c s found puts lacks = subst (λ b. IsSome (cond b (node_by c) None)) (sym lacks) (has_node (stored_by c.operation) c.hash (puts_stored c.operation found puts))

  -- after the spare node was placed the call that asks and is to put one has it
  pub is_named : (nodes more : List (Node K V)) (c : BucketCall K V) (table : Step) (s : Seen) (spare : Option (Node K V)) (after : BucketCall K V) →
      spare ≡ spare_of c s → Places nodes more (record c { table = table }) spare after → (found : Option ℕ) → asked table ≡ Some found →
      (c.node ≡ None → lacks_node c s ≡ true) → puts_at c.operation found ≡ true → IsSome after.node
  is_named nodes more c table s spare after is places found asks lacks puts = by places
    where
      lacking : (spare ≡ None) ⊎ (puts_if c.operation (asked table) ≡ false) → c.node ≡ None → ⊥
      lacking (inl none) nothing = false≢true (subst IsSome (sym is ∙ none) (has_spare c s found puts (lacks nothing)))
      lacking (inr nay) nothing = false≢true (sym nay ∙ (ap (puts_if c.operation) asks ∙ puts))

      there : (x : Option ℕ) → (x ≡ None → ⊥) → IsSome x
      there None f = absurd (f refl)
      there (Some n) f = refl

      by : Places nodes more (record c { table = table }) spare after → IsSome after.node
      by (inl (same, call, why)) = subst IsSome (sym (ap (λ b. b.node) call)) (there c.node (lacking why))
      by (inr (node, have, is_put, grown, call)) = subst IsSome (sym (ap (λ b. b.node) call)) refl

  -- and is to make the exchange that puts it
  puts_choose : (nodes : List (Node K V)) (o : KeyOp K V) (n : ℕ) (found : Option ℕ) → puts_at o found ≡ true → choose nodes o (Some n) found ≡ choice.Put n
  puts_choose nodes (op.Get key) n found e = absurd (false≢true e)
  puts_choose nodes (op.InsertOrModify key stored) n found e = refl
  puts_choose nodes (op.InsertIfAbsent key stored) n None e = refl
  puts_choose nodes (op.InsertIfAbsent key stored) n (Some m) e = absurd (false≢true e)
  puts_choose nodes (op.RemoveIf key stamp) n found e = absurd (false≢true e)

  module _ (nodes : List (Node K V)) (o : KeyOp K V) (n : ℕ) (c : Call) where
    put_at : (p : Point) → puts_if o (asked_at p) ≡ true → WillPut (answered_at (choose nodes o (Some n)) c p) n
    put_at (call.Choose a l v w) puts = subst (λ x. WillPut (call.chosen c a l v w x) n) (sym (puts_choose nodes o n (stored_in w) puts))
        (a, bucket_at l c.hash v, w, refl)
    put_at (call.Root met) puts = absurd (false≢true puts)
    put_at (call.Probe a l v) puts = absurd (false≢true puts)
    put_at (call.Change a l v from to) puts = absurd (false≢true puts)
    put_at (call.Walk a l i ns) puts = absurd (false≢true puts)
    put_at (call.Seal a l i kept) puts = absurd (false≢true puts)
    put_at (call.Close a l i w x kept) puts = absurd (false≢true puts)
    put_at (call.Next array l kept) puts = absurd (false≢true puts)
    put_at (call.Link array l kept) puts = absurd (false≢true puts)
    put_at (call.Copy from a i laid) puts = absurd (false≢true puts)
    put_at (call.Swing from a) puts = absurd (false≢true puts)

  pub will_put : (nodes : List (Node K V)) (o : KeyOp K V) (n : ℕ) (table : Step) → puts_if o (asked table) ≡ true →
      WillPut (answered (choose nodes o (Some n)) table) n
  will_put nodes o n (Decided e) puts = absurd (false≢true puts)
  will_put nodes o n (Going c) puts = put_at nodes o n c c.point puts

pub going_on : (s : Step) (n : ℕ) → WillPut s n → IsGoing s
going_on (Going c) n puts = tt
going_on (Decided e) n puts = puts
