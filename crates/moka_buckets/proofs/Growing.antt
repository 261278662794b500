-- Nodes that are made, and what stays as they are.
use Rattle.std.proofs.Common.{◌≡◌, ℕ, Bool, true, false, cond, List, [], ◌∷◌, ◌++◌, length, Option, Some, None, is_some, IsSome, inl, inr, refl, sym, ap, subst, ◌∙◌}
use Rattle.std.proofs.lemmas.Bool.{false≢true}
use Rattle.std.specs.Cmp.{IsEquivalence}
use Rattle.std.specs.Option.{option_map}
use Rattle.moka_hist.specs.Tables.{taken_by}
use Rattle.moka_hist.specs.declared.records.Stored.{Stored}
use Rattle.moka_buckets.specs.KeyOps.{key_of}
use Rattle.moka_buckets.specs.declared.key_op.KeyOp.{KeyOp}
use Rattle.moka_buckets.specs.declared.key_op.KeyOp.TheVariants as op
use Rattle.moka_words.specs.declared.words.Word.{Word}
use Rattle.moka_words.specs.declared.accesses.Choice.TheVariants as choice
use Rattle.moka_words.specs.Words.{stored_in}
use Rattle.moka_words.specs.Effect.{Memory}
use Rattle.moka_growth.specs.Calls.{Point, Step, Going, Decided}
use Rattle.moka_growth.specs.Calls as call
use Rattle.moka_buckets.specs.declared.node.Node.{Node}
use Rattle.moka_buckets.specs.Nodes.{key_in, pair_at, pair_in, AreHashed}
use Rattle.moka_buckets.specs.Tables.{Puts, choose, put_by, map_of, stored_by, IsWell, RunsOn}
use Rattle.moka_buckets.proofs.Placed.{get-front, get-back, get-end}
use Rattle.moka_pairs.specs.Keys as known
use Rattle.moka_pairs.proofs.Grown.{fits_grown, grown_same, map_grown, sound_grown}
use Rattle.moka_buckets.proofs.Known.{are_keys, keys_grow, pairs_grow}

pub none_of : (o : Option ℕ) → is_some o ≡ false → o ≡ None
none_of None e = refl
none_of (Some n) e = absurd (false≢true (sym e))

no_put : {w : Word} → None ≡ Some w → ⊥
no_put e = cc

made : {K V : Type 0} (o : Option (K × Stored V)) (hash : ℕ) (node : Node K V) →
    option_map {U = Node K V} (λ pair. record { key = pair.0; stored = pair.1; hash = hash }) o ≡ Some node →
    (key : K) × (stored : Stored V) × (o ≡ Some (key, stored)) × (record { key = key; stored = stored; hash = hash } ≡ node)
made None hash node e = absurd (cc e)
made {K} {V} (Some pair) hash node e = (pair.0, pair.1, refl, some_one e)
  where
    some_one : {x y : Node K V} → Some x ≡ Some y → x ≡ y
    some_one d = cc

-- the node is that of the pair that the operation stores
pub made_from : {K V : Type 0} (o : KeyOp K V) (hash : ℕ) (node : Node K V) →
    option_map {U = Node K V} (λ pair. record { key = pair.0; stored = pair.1; hash = hash }) (stored_by o) ≡ Some node →
    (key : K) × (stored : Stored V) × (stored_by o ≡ Some (key, stored)) × (record { key = key; stored = stored; hash = hash } ≡ node)
made_from o hash node e = made (stored_by o) hash node e

module _ {K V : Type 0} (eq : K → K → Bool) (laws : IsEquivalence eq) (hash : K → ℕ) (respects : (x y : K) → eq x y ≡ true → hash x ≡ hash y)
    (nodes : List (Node K V)) (x : Node K V) where
  abbrev more : List (Node K V)
  more = nodes ++ x ∷ []

  grown : known.Agrees (key_in (nodes ++ x ∷ [])) (key_in nodes)
  grown = keys_grow nodes more (get-front nodes (x ∷ []))

  grown_pairs : known.Agrees (pair_in (nodes ++ x ∷ [])) (pair_in nodes)
  grown_pairs = pairs_grow nodes more (get-front nodes (x ∷ []))

  hashed_more : AreHashed hash nodes → x.hash ≡ hash x.key → AreHashed hash (nodes ++ x ∷ [])
  hashed_more hashed is n node there = elim (get-back nodes x node n there) [
    | inl d ↦ hashed n node d
    | inr d ↦ subst (λ y. y.hash ≡ hash y.key) (sym d.1) is
  ]

  pub well_more : (m : Memory) (first peak : ℕ) → x.hash ≡ hash x.key → IsWell eq hash m nodes first peak → IsWell eq hash m (nodes ++ x ∷ []) first peak
  well_more m first peak is well = record {
    sound = sound_grown eq hash (key_in nodes) (key_in more) grown m well.sound;
    hashed = hashed_more well.hashed is;
    counted = well.counted;
    short = well.short;
  }

  pub pair_more : (n : ℕ) → IsSome (pair_at nodes (Some n)) → pair_at (nodes ++ x ∷ []) (Some n) ≡ pair_at nodes (Some n)
  pair_more n has = grown_same (pair_in more) (pair_in nodes) grown_pairs n has

  -- a choice that changes something is that of the nodes before
  choice_more : (o : KeyOp K V) (stored found : Option ℕ) (w to : Word) → put_by (choose nodes o stored found) w ≡ Some to → choose more o stored found ≡ choose nodes o stored found
  choice_more (op.Get key) stored found w to e = refl
  choice_more (op.InsertOrModify key st) stored found w to e = refl
  choice_more (op.InsertIfAbsent key st) stored found w to e = refl
  choice_more (op.RemoveIf key stamp) stored None w to e = refl
  choice_more (op.RemoveIf key stamp) stored (Some n) w to e = by (pair_at nodes (Some n)) refl e
    where
      by : (p : Option (K × Stored V)) → pair_at nodes (Some n) ≡ p → put_by (cond (is_some (taken_by stamp p)) choice.Remove choice.Keep) w ≡ Some to →
          choose more (op.RemoveIf key stamp) stored (Some n) ≡ choose nodes (op.RemoveIf key stamp) stored (Some n)
      by None is f = absurd (no_put f)
      by (Some p) is f = ap (λ q. cond (is_some (taken_by stamp q)) choice.Remove choice.Keep) (pair_more n (subst IsSome (sym is) refl))

  puts_more : (o : KeyOp K V) (stored : Option ℕ) (p : Point) → Puts nodes o stored p → Puts (nodes ++ x ∷ []) o stored p
  puts_more o stored (call.Change a l v from to) puts = ap (λ y. put_by y from) (choice_more o stored (stored_in from) from to puts) ∙ puts
  puts_more o stored (call.Root met) puts = tt
  puts_more o stored (call.Probe a l v) puts = tt
  puts_more o stored (call.Choose a l v w) puts = tt
  puts_more o stored (call.Walk a l i ns) puts = tt
  puts_more o stored (call.Seal a l i kept) puts = tt
  puts_more o stored (call.Close a l i w y kept) puts = tt
  puts_more o stored (call.Next y l kept) puts = tt
  puts_more o stored (call.Link y l kept) puts = tt
  puts_more o stored (call.Copy from a i laid) puts = tt
  puts_more o stored (call.Swing from a) puts = tt

  pub runs_more : (m : Memory) (o : KeyOp K V) (stored : Option ℕ) (step : Step) → RunsOn eq hash m nodes o stored step →
      RunsOn eq hash m (nodes ++ x ∷ []) o stored step
  runs_more m o stored (Decided e) r = r
  runs_more m o stored (Going c) r = record {
    kind = r.kind;
    hashed = r.hashed;
    fits = fits_grown eq hash (key_in nodes) (key_in more) grown (Some (key_of o)) m c r.fits;
    rests = r.rests;
    walks = r.walks;
    puts = puts_more o stored c.point r.puts;
    filled = λ n is. let was = r.filled n is in (was.0, pair_more n (subst IsSome (sym was.1) was.0) ∙ was.1);
  }

  -- the map is that of the nodes before
  pub map_more : (m : Memory) (first peak : ℕ) → x.hash ≡ hash x.key → IsWell eq hash m nodes first peak → (q : K) →
      map_of eq m (nodes ++ x ∷ []) q ≡ map_of eq m nodes q
  map_more m first peak is well q = map_grown eq laws hash respects (key_in nodes) (pair_in nodes) (are_keys nodes) (key_in more) (pair_in more) grown grown_pairs
      m well.sound q

-- without a node an operation that has one to store makes no change
choice_none : {K V : Type 0} (nodes : List (Node K V)) (o : KeyOp K V) (found : Option ℕ) → IsSome (stored_by o) → choose nodes o None found ≡ choice.Keep
choice_none nodes (op.Get key) found has = refl
choice_none nodes (op.InsertOrModify key stored) found has = refl
choice_none nodes (op.InsertIfAbsent key stored) None has = refl
choice_none nodes (op.InsertIfAbsent key stored) (Some n) has = refl
choice_none nodes (op.RemoveIf key stamp) found has = absurd (false≢true has)

puts_none : {K V : Type 0} (nodes longer : List (Node K V)) (o : KeyOp K V) (stored : Option ℕ) (p : Point) → IsSome (stored_by o) → Puts nodes o None p →
    Puts longer o stored p
puts_none nodes longer o stored (call.Change a l v from to) has puts =
    absurd (no_put (sym (ap (λ x. put_by x from) (choice_none nodes o (stored_in from) has)) ∙ puts))
puts_none nodes longer o stored (call.Root met) has puts = tt
puts_none nodes longer o stored (call.Probe a l v) has puts = tt
puts_none nodes longer o stored (call.Choose a l v w) has puts = tt
puts_none nodes longer o stored (call.Walk a l i ns) has puts = tt
puts_none nodes longer o stored (call.Seal a l i kept) has puts = tt
puts_none nodes longer o stored (call.Close a l i w x kept) has puts = tt
puts_none nodes longer o stored (call.Next x l kept) has puts = tt
puts_none nodes longer o stored (call.Link x l kept) has puts = tt
puts_none nodes longer o stored (call.Copy from a i laid) has puts = tt
puts_none nodes longer o stored (call.Swing from a) has puts = tt

-- the node of the pair to be stored is new
pub runs_named : {K V : Type 0} (eq : K → K → Bool) (hash : K → ℕ) (m : Memory) (nodes : List (Node K V)) (x : Node K V) (o : KeyOp K V) (step : Step) →
    stored_by o ≡ Some (x.key, x.stored) → RunsOn eq hash m nodes o None step → RunsOn eq hash m (nodes ++ x ∷ []) o (Some (length nodes)) step
runs_named eq hash m nodes x o (Decided e) is r = r
runs_named {K} {V} eq hash m nodes x o (Going c) is r = record {
  kind = r.kind;
  hashed = r.hashed;
  fits = fits_grown eq hash (key_in nodes) (key_in (nodes ++ x ∷ [])) (keys_grow nodes (nodes ++ x ∷ []) (get-front nodes (x ∷ []))) (Some (key_of o)) m c r.fits;
  rests = r.rests;
  walks = r.walks;
  puts = puts_none nodes (nodes ++ x ∷ []) o (Some (length nodes)) c.point (subst IsSome (sym is) refl) r.puts;
  filled = λ n named. (
    subst IsSome (sym is) refl,
    subst (λ k. pair_at (nodes ++ x ∷ []) (Some k) ≡ stored_by o) (some_number named)
        (ap (option_map {U = K × Stored V} (λ node. (node.key, node.stored))) (get-end nodes x) ∙ sym is),
  );
}
  where
    some_number : {n k : ℕ} → Some n ≡ Some k → n ≡ k
    some_number d = cc

first_one : {K V : Type 0} {x y : K × Stored V} → Some x ≡ Some y → x.0 ≡ y.0
first_one d = cc

pub stored_key : {K V : Type 0} (o : KeyOp K V) (key : K) (stored : Stored V) → stored_by o ≡ Some (key, stored) → key ≡ key_of o
stored_key (op.Get k) key stored e = absurd (cc e)
stored_key (op.InsertOrModify k st) key stored e = sym (first_one e)
stored_key (op.InsertIfAbsent k st) key stored e = sym (first_one e)
stored_key (op.RemoveIf k stamp) key stored e = absurd (cc e)
