-- What a step in one segment does to the whole table.
use Rattle.std.proofs.Common.{◌≡◌, ◌≢◌, ℕ, ◌+◌, ◌-◌, ◌<◌, ◌≤◌, Bool, true, false, cond, List, [], ◌∷◌, length, Option, Some, None, is_some, Result, Ok, Err, IfOk, OnErr, zero, suc, inl, inr, refl, sym, ap, subst, ◌∙◌, arith, set}
use Rattle.std.proofs.lemmas.Bool.{cases_eq, false≢true}
use Rattle.std.proofs.lemmas.Option.{slice_get_within}
use Rattle.std.proofs.Math.ListN.{length-set}
use Rattle.std.specs.List.{find, slice_get}
use Rattle.std.specs.Option.{option_map_or}
use Rattle.std.specs.declared.alloc.AllocError.{AllocError}
use Rattle.moka_hist.specs.Finite.{put_key}
use Rattle.moka_hist.specs.Tables.{answer_of, taken_by}
use Rattle.moka_hist.specs.declared.records.Stored.{Stored}
use Rattle.moka_buckets.specs.KeyOps.{MovesKey, key_of, keys_after, pair_answered, stored_with}
use Rattle.moka_buckets.specs.declared.key_op.KeyOp.{KeyOp}
use Rattle.moka_buckets.specs.declared.key_op.KeyOp.TheVariants as op
use Rattle.moka_hist.specs.declared.tables.TableTurn.{TableTurn}
use Rattle.moka_hist.specs.declared.tables.TableTurn.TheVariants as turn
use Rattle.moka_words.specs.Effect.{Memory}
use Rattle.moka_growth.specs.Calls.{Step, Going, Decided}
use Rattle.moka_growth.specs.Left.{IsShort}
use Rattle.moka_growth.specs.Maps.{present_nodes}
use Rattle.moka_growth.proofs.Bounding.{left_is_bounded}
use Rattle.moka_table.specs.Map.{Pairs, SameMap, most_steps}
use Rattle.moka_buckets.specs.declared.node.Node.{Node}
use Rattle.moka_buckets.specs.declared.part.Part.{Part}
use Rattle.moka_buckets.specs.declared.bucket_call.BucketCall.{BucketCall}
use Rattle.moka_pairs.specs.Keys.{hash_by, own_by}
use Rattle.moka_buckets.specs.Nodes.{key_in, pair_at}
use Rattle.moka_buckets.specs.Tables.{left_in, RunsOn}
use Rattle.moka_buckets.specs.Steps.{FitsCall}
use Rattle.moka_buckets.specs.Parts.{memory_at, keys_at, peak_at, map_at, map_over, keys_of, left_over, segment_of, IsPart, AreParts, FitsParts, Goes}
use Rattle.moka_buckets.proofs.Placed.{get-set-same, get-set-other}
use Rattle.moka_pairs.proofs.Names.{agrees_now}

one_item : {A : Type 0} {x y : A} → Some x ≡ Some y → x ≡ y
one_item d = cc

no_item : {A : Type 0} {x : A} → None ≡ Some x → ⊥
no_item d = cc

-- the keys of all segments, with another one in the place of one
pub keys_set : {K V : Type 0} (parts : List (Part K V)) (i : ℕ) (p new : Part K V) → slice_get parts i ≡ Some p →
    keys_of (set parts i new) + keys_at p ≡ keys_of parts + keys_at new
keys_set [] i p new e = absurd (no_item e)
keys_set (x ∷ xs) zero p new e = let same : keys_at x ≡ keys_at p = ap keys_at (one_item e) in omega (arith, same)
keys_set (x ∷ xs) (suc i) p new e = let rest = keys_set xs i p new e in omega (arith, rest)

pub keys_within : {K V : Type 0} (parts : List (Part K V)) (i : ℕ) (p : Part K V) → slice_get parts i ≡ Some p → keys_at p ≤ keys_of parts
keys_within [] i p e = absurd (no_item e)
keys_within (x ∷ xs) zero p e = let same : keys_at x ≡ keys_at p = ap keys_at (one_item e) in omega (arith, same)
keys_within (x ∷ xs) (suc i) p e = let rest = keys_within xs i p e in omega (arith, rest)

module _ {K V : Type 0} (eq : K → K → Bool) where
  at_key : (test : Bool) (a b c d : Pairs K V) (q : K) → a q ≡ c q → b q ≡ d q → cond test a b q ≡ cond test c d q
  at_key true a b c d q e f = e
  at_key false a b c d q e f = f

  -- an operation looks at its key alone
  pub answered_same : (o : KeyOp K V) (f g : Pairs K V) → f (key_of o) ≡ g (key_of o) → pair_answered f o ≡ pair_answered g o
  answered_same (op.Get key) f g e = e
  answered_same (op.InsertOrModify key stored) f g e = e
  answered_same (op.InsertIfAbsent key stored) f g e = e
  answered_same (op.RemoveIf key stamp) f g e = ap (taken_by stamp) e

  pub stored_same : (o : KeyOp K V) (f g : Pairs K V) (q : K) → f (key_of o) ≡ g (key_of o) → f q ≡ g q → stored_with eq f o q ≡ stored_with eq g o q
  stored_same (op.Get key) f g q k e = e
  stored_same (op.InsertOrModify key stored) f g q k e = ap (λ x. cond (eq key q) (Some (key, stored)) x) e
  stored_same (op.InsertIfAbsent key stored) f g q k e =
      ap (λ x. cond (is_some x) f (put_key eq f key (Some (key, stored))) q) k
      ∙ at_key (is_some (g key)) f (put_key eq f key (Some (key, stored))) g (put_key eq g key (Some (key, stored))) q e
      (ap (λ x. cond (eq key q) (Some (key, stored)) x) e)
  stored_same (op.RemoveIf key stamp) f g q k e =
      ap (λ x. cond (is_some (taken_by stamp x)) (put_key eq f key None) f q) k
      ∙ at_key (is_some (taken_by stamp (g key))) (put_key eq f key None) f (put_key eq g key None) g q (ap (λ x. cond (eq key q) None x) e) e

  -- and changes nothing under another one
  pub stored_elsewhere : (o : KeyOp K V) (f : Pairs K V) (q : K) → eq (key_of o) q ≡ false → stored_with eq f o q ≡ f q
  stored_elsewhere (op.Get key) f q other = refl
  stored_elsewhere (op.InsertOrModify key stored) f q other = ap (λ b. cond b (Some (key, stored)) (f q)) other
  stored_elsewhere (op.InsertIfAbsent key stored) f q other =
      at_key (is_some (f key)) f (put_key eq f key (Some (key, stored))) f f q refl (ap (λ b. cond b (Some (key, stored)) (f q)) other)
      ∙ always (is_some (f key))
    where
      always : (b : Bool) → cond b f f q ≡ f q
      always true = refl
      always false = refl
  stored_elsewhere (op.RemoveIf key stamp) f q other =
      at_key (is_some (taken_by stamp (f key))) (put_key eq f key None) f f f q (ap (λ b. cond b None (f q)) other) refl
      ∙ always (is_some (taken_by stamp (f key)))
    where
      always : (b : Bool) → cond b f f q ≡ f q
      always true = refl
      always false = refl

taken_some : {K V : Type 0} (stamp : Option ℕ) (x : Option (K × Stored V)) → is_some (taken_by stamp x) ≡ true → is_some x ≡ true
taken_some None None e = e
taken_some (Some s) None e = e
taken_some None (Some x) e = refl
taken_some (Some s) (Some x) e = refl

-- the keys of all segments count as those of the one in which the operation is made
pub counts_over : {K V : Type 0} (o : KeyOp K V) (f g : Pairs K V) (k more total all : ℕ) → g (key_of o) ≡ f (key_of o) →
    (is_some (f (key_of o)) ≡ true → 0 < k) → more ≡ keys_after f k o → all + k ≡ total + more → all ≡ keys_after g total o
counts_over (op.Get key) f g k more total all same some is sum = omega (arith, is, sum)
counts_over (op.InsertOrModify key stored) f g k more total all same some is sum =
    by (is_some (f key)) is ∙ sym (ap (λ x. cond (is_some x) total (total + 1)) same)
  where
    by : (b : Bool) → more ≡ cond b k (k + 1) → all ≡ cond b total (total + 1)
    by true e = omega (arith, e, sum)
    by false e = omega (arith, e, sum)
counts_over (op.InsertIfAbsent key stored) f g k more total all same some is sum =
    by (is_some (f key)) is ∙ sym (ap (λ x. cond (is_some x) total (total + 1)) same)
  where
    by : (b : Bool) → more ≡ cond b k (k + 1) → all ≡ cond b total (total + 1)
    by true e = omega (arith, e, sum)
    by false e = omega (arith, e, sum)
counts_over (op.RemoveIf key stamp) f g k more total all same some is sum =
    by (is_some (taken_by stamp (f key))) refl is ∙ sym (ap (λ x. cond (is_some (taken_by stamp x)) (total - 1) total) same)
  where
    by : (b : Bool) → is_some (taken_by stamp (f key)) ≡ b → more ≡ cond b (k - 1) k → all ≡ cond b (total - 1) total
    by true d e = let one : 0 < k = some (taken_some stamp (f key) d) in omega (arith, e, sum, one)
    by false d e = omega (arith, e, sum)

-- a key that is found is one of those there
found_counts : {K V : Type 0} (nodes : List (Node K V)) (test : ℕ → Bool) (xs : List ℕ) → is_some (pair_at nodes (find test xs)) ≡ true → 0 < length xs
found_counts nodes test [] e = absurd (false≢true e)
found_counts nodes test (x ∷ xs) e = omega arith

-- a call that fits has few steps left
few_left : {K V : Type 0} (eq : K → K → Bool) (hash : K → ℕ) (m : Memory) (nodes : List (Node K V)) (first peak : ℕ) (o : KeyOp K V) (n : Option ℕ) (step : Step) →
    IsShort first peak m → RunsOn eq hash m nodes o n step → left_in first peak m step ≤ most_steps first peak
few_left eq hash m nodes first peak o n (Decided e) short runs = absurd runs
few_left eq hash m nodes first peak o n (Going c) short runs =
    left_is_bounded (hash_by hash (key_in nodes)) (own_by eq (key_in nodes) (key_of o)) c m first peak (runs.fits (key_in nodes) (agrees_now (key_in nodes))) short

module _ {K V : Type 0} (eq : K → K → Bool) (hash : K → ℕ) (first : ℕ) where
  -- what a call has left, in the segment that it fits
  pub left_there : (parts : List (Part K V)) (c : BucketCall K V) (p : Part K V) → slice_get parts (segment_of (length parts) c.hash) ≡ Some p →
      left_over first parts c ≡ left_in first (peak_at p) (memory_at p) c.table
  left_there parts c p there = ap (λ o. option_map_or (λ p. left_in first (peak_at p) (memory_at p) c.table) o 0) there

  pub bounded : (parts : List (Part K V)) (most len : ℕ) → AreParts eq hash parts first most len → (c : BucketCall K V) → FitsParts eq hash parts c →
      left_over first parts c ≤ most_steps first most
  bounded parts most len well c f =
      let at : ℕ = segment_of (length parts) c.hash in
      let is = well.each at f.part f.there in
      let same = left_there parts c f.part f.there in
      let few = is.few in
      let some = few_left eq hash (memory_at f.part) f.part.nodes.items first (peak_at f.part) c.operation c.node c.table is.well.short f.fits.runs in
      omega (arith, same, few, some)

module _ {K V : Type 0} (eq : K → K → Bool) (hash : K → ℕ) (respects : (x y : K) → eq x y ≡ true → hash x ≡ hash y)
    (first most len : ℕ) (parts : List (Part K V)) (well : AreParts eq hash parts first most len) (i : ℕ) (p new : Part K V) (there : slice_get parts i ≡ Some p)
    (before after : BucketCall K V) (at : i ≡ segment_of (length parts) before.hash) (fits : FitsCall eq hash (memory_at p) p.nodes.items before)
    (gives : Result (TableTurn K V) AllocError) (goes : Goes eq hash first p before gives new after) (all : ℕ) (sum : all + keys_at p ≡ len + keys_at new) where
  abbrev After : List (Part K V)
  After = set parts i new

  within : i < length parts
  within = slice_get_within parts i p there

  long : length (set parts i new) ≡ length parts
  long = length-set parts i new

  here : (n : ℕ) → segment_of (length parts) n ≡ i → slice_get (set parts i new) (segment_of (length (set parts i new)) n) ≡ Some new
  here n e = ap (λ l. slice_get (set parts i new) (segment_of l n)) long ∙ (ap (slice_get (set parts i new)) e ∙ get-set-same parts i new within)

  elsewhere : (n : ℕ) → segment_of (length parts) n ≢ i →
      slice_get (set parts i new) (segment_of (length (set parts i new)) n) ≡ slice_get parts (segment_of (length parts) n)
  elsewhere n d = ap (λ l. slice_get (set parts i new) (segment_of l n)) long ∙ get-set-other parts i (segment_of (length parts) n) new d

  key_here : segment_of (length parts) (hash (key_of before.operation)) ≡ i
  key_here = ap (segment_of (length parts)) (sym fits.hashed) ∙ sym at

  map_here : (q : K) → segment_of (length parts) (hash q) ≡ i → map_over eq hash parts q ≡ map_at eq p q
  map_here q e = ap (λ o. option_map_or (λ p. map_at eq p q) o None) (ap (slice_get parts) e ∙ there)

  new_here : (q : K) → segment_of (length parts) (hash q) ≡ i → map_over eq hash (set parts i new) q ≡ map_at eq new q
  new_here q e = ap (λ o. option_map_or (λ p. map_at eq p q) o None) (here (hash q) e)

  new_elsewhere : (q : K) → segment_of (length parts) (hash q) ≢ i → map_over eq hash (set parts i new) q ≡ map_over eq hash parts q
  new_elsewhere q d = ap (λ o. option_map_or (λ p. map_at eq p q) o None) (elsewhere (hash q) d)

  other_key : (q : K) → segment_of (length parts) (hash q) ≢ i → eq (key_of before.operation) q ≡ false
  other_key q d = by (eq (key_of before.operation) q) refl
    where
      by : (b : Bool) → eq (key_of before.operation) q ≡ b → eq (key_of before.operation) q ≡ false
      by true e = absurd (d (ap (segment_of (length parts)) (sym (respects (key_of before.operation) q e)) ∙ key_here))
      by false e = e

  some_keys : is_some (map_at eq p (key_of before.operation)) ≡ true → 0 < keys_at p
  some_keys e =
      let few = found_counts p.nodes.items (own_by eq (key_in p.nodes.items) (key_of before.operation)) (present_nodes (memory_at p)) e in
      let counted = (well.each i p there).well.counted in
      omega (arith, few, counted)

  same_over : SameMap (map_at eq p) (map_at eq new) → SameMap (map_over eq hash parts) (map_over eq hash (set parts i new))
  same_over same q = elim (cases_eq (segment_of (length parts) (hash q)) i) [
    | inl d ↦ new_here q d ∙ (same q ∙ sym (map_here q d))
    | inr d ↦ new_elsewhere q d
  ]

  moves_by : (t : TableTurn K V) → MovesKey eq before.operation (map_at eq p) (keys_at p) t (map_at eq new) (keys_at new) →
      MovesKey eq before.operation (map_over eq hash parts) len t (map_over eq hash (set parts i new)) all
  moves_by turn.Going m = (same_over m.0, (let e = m.1 in omega (arith, e, sum)))
  moves_by (turn.Decided answer) m = (
    m.0 ∙ ap answer_of (answered_same eq before.operation (map_at eq p) (map_over eq hash parts) (sym (map_here (key_of before.operation) key_here))),
    λ q. elim (cases_eq (segment_of (length parts) (hash q)) i) [
      | inl d ↦ new_here q d ∙ (m.1 q ∙ stored_same eq before.operation (map_at eq p) (map_over eq hash parts) q
          (sym (map_here (key_of before.operation) key_here)) (sym (map_here q d)))
      | inr d ↦ new_elsewhere q d ∙ sym (stored_elsewhere eq before.operation (map_over eq hash parts) q (other_key q d))
    ],
    counts_over before.operation (map_at eq p) (map_over eq hash parts) (keys_at p) (keys_at new) len all (map_here (key_of before.operation) key_here)
        some_keys m.2 sum,
  )

  -- the segment is well after its step
  part_after : (m : ℕ) → most ≤ m → keys_at new ≤ m → IsPart eq hash (length parts) first m i new
  part_after m longer few = let old = well.each i p there in let peak = goes.peak in let least = old.few in record {
    placed = goes.placed;
    well = goes.done.well (peak_at new) (omega (arith, peak)) (omega arith);
    own = λ n node e. elim (goes.adds n node e) [ inl d ↦ old.own n node d | inr d ↦ ap (segment_of (length parts)) d ∙ sym at ];
    few = omega (arith, peak, least, longer, few);
  }

  pub parts_after : (m : ℕ) → most ≤ m → all ≤ m → AreParts eq hash (set parts i new) first m all
  parts_after m longer few = record {
    each = λ j q e. subst (λ n. IsPart eq hash n first m j q) (sym long) (elim (cases_eq j i) [ inl d ↦ mine j q d e | inr d ↦ other j q d e ]);
    counted = let e = keys_set parts i p new there in let f = well.counted in omega (arith, e, f, sum);
    some = let s = well.some in let l = long in omega (arith, s, l);
  }
    where
      mine : (j : ℕ) (q : Part K V) → j ≡ i → slice_get (set parts i new) j ≡ Some q → IsPart eq hash (length parts) first m j q
      mine j q d e =
          let is : new ≡ q = one_item (sym (ap (slice_get (set parts i new)) d ∙ get-set-same parts i new within) ∙ e) in
          let one = keys_within parts i p there in
          let whole = well.counted in
          subst (λ k. IsPart eq hash (length parts) first m k q) (sym d)
          (subst (λ x. IsPart eq hash (length parts) first m i x) is (part_after m longer (omega (arith, one, whole, sum, few))))

      other : (j : ℕ) (q : Part K V) → j ≢ i → slice_get (set parts i new) j ≡ Some q → IsPart eq hash (length parts) first m j q
      other j q d e = let old = well.each j q (sym (get-set-other parts i j new d) ∙ e) in let least = old.few in record {
        placed = old.placed;
        well = old.well;
        own = old.own;
        few = omega (arith, least, longer);
      }

  -- a call to the segment fits where it is now
  fits_here : (c : BucketCall K V) → segment_of (length parts) c.hash ≡ i → FitsCall eq hash (memory_at new) new.nodes.items c →
      FitsParts eq hash (set parts i new) c
  fits_here c e f = record { part = new; there = here c.hash e; fits = f }

  pub others_after : (c : BucketCall K V) → FitsParts eq hash parts c → FitsParts eq hash (set parts i new) c
  others_after c f = elim (cases_eq (segment_of (length parts) c.hash) i) [
    | inl d ↦ fits_here c d (goes.done.others c (subst (λ x. FitsCall eq hash (memory_at x) x.nodes.items c)
        (one_item (sym f.there ∙ (ap (slice_get parts) d ∙ there))) f.fits))
    | inr d ↦ record { part = f.part; there = elsewhere c.hash d ∙ f.there; fits = f.fits }
  ]

  pub left_elsewhere : (c : BucketCall K V) → segment_of (length parts) c.hash ≢ i → left_over first (set parts i new) c ≡ left_over first parts c
  left_elsewhere c d = ap (λ o. option_map_or (λ p. left_in first (peak_at p) (memory_at p) c.table) o 0) (elsewhere c.hash d)

  left_here : (c : BucketCall K V) → segment_of (length parts) c.hash ≡ i → left_over first parts c ≡ left_in first (peak_at p) (memory_at p) c.table
  left_here c e = left_there eq hash first parts c p (ap (slice_get parts) e ∙ there)

  -- the most keys are as many where the keys are
  same_peak : keys_at new ≡ keys_at p → peak_at new ≡ peak_at p
  same_peak same = let e = goes.peak in omega (arith, e, same)

  left_new : (c : BucketCall K V) → segment_of (length parts) c.hash ≡ i → keys_at new ≡ keys_at p →
      left_over first (set parts i new) c ≡ left_in first (peak_at p) (memory_at new) c.table
  left_new c e same = left_there eq hash first (set parts i new) c new (here c.hash e) ∙ ap (λ k. left_in first k (memory_at new) c.table) (same_peak same)

  -- the call itself stays one to the segment
  after_here : FitsCall eq hash (memory_at new) new.nodes.items after → segment_of (length parts) after.hash ≡ i
  after_here f = ap (segment_of (length parts)) (f.hashed ∙ ap (λ o. hash (key_of o)) goes.done.operation) ∙ key_here

  pub moves_after : IfOk gives (λ t. MovesKey eq before.operation (map_over eq hash parts) len t (map_over eq hash (set parts i new)) all)
  moves_after = by gives goes.done.moves
    where
      by : (r : Result (TableTurn K V) AllocError) → IfOk r (λ t. MovesKey eq before.operation (map_at eq p) (keys_at p) t (map_at eq new) (keys_at new)) →
          IfOk r (λ t. MovesKey eq before.operation (map_over eq hash parts) len t (map_over eq hash (set parts i new)) all)
      by (Ok t) m = moves_by t m
      by (Err e) m = tt

  pub undecided_after : IfOk gives (λ t. t ≡ turn.Going → FitsParts eq hash (set parts i new) after)
  undecided_after = by gives goes.done.going
    where
      by : (r : Result (TableTurn K V) AllocError) → IfOk r (λ t. t ≡ turn.Going → FitsCall eq hash (memory_at new) new.nodes.items after
          × (left_in first (peak_at p) (memory_at new) after.table < left_in first (peak_at p) (memory_at p) before.table)) →
          IfOk r (λ t. t ≡ turn.Going → FitsParts eq hash (set parts i new) after)
      by (Ok t) h = λ is. fits_here after (after_here (h is).0) (h is).0
      by (Err e) h = tt

  pub nears_after : IfOk gives (λ t. t ≡ turn.Going → left_over first (set parts i new) after < left_over first parts before)
  nears_after = by gives goes.done.moves goes.done.going
    where
      by : (r : Result (TableTurn K V) AllocError) → IfOk r (λ t. MovesKey eq before.operation (map_at eq p) (keys_at p) t (map_at eq new) (keys_at new)) →
          IfOk r (λ t. t ≡ turn.Going → FitsCall eq hash (memory_at new) new.nodes.items after
          × (left_in first (peak_at p) (memory_at new) after.table < left_in first (peak_at p) (memory_at p) before.table)) →
          IfOk r (λ t. t ≡ turn.Going → left_over first (set parts i new) after < left_over first parts before)
      by (Ok t) m h = λ is.
          let same = (subst (λ x. MovesKey eq before.operation (map_at eq p) (keys_at p) x (map_at eq new) (keys_at new)) is m).1 in
          let a = left_new after (after_here (h is).0) same in
          let b = left_here before (sym at) in
          let less = (h is).1 in
          omega (arith, a, b, less)
      by (Err e) m h = tt

  -- without memory
  pub err_after : OnErr gives (SameMap (map_over eq hash parts) (map_over eq hash (set parts i new)) × (all ≡ len) × FitsParts eq hash (set parts i new) after
      × (left_over first (set parts i new) after ≡ left_over first parts before)
      × ((c : BucketCall K V) → FitsParts eq hash parts c → left_over first (set parts i new) c ≤ left_over first parts c))
  err_after = by gives goes.done.err
    where
      by : (r : Result (TableTurn K V) AllocError) → OnErr r ((memory_at new ≡ memory_at p) × SameMap (map_at eq p) (map_at eq new) × (after.table ≡ before.table)
          × FitsCall eq hash (memory_at new) new.nodes.items after) →
          OnErr r (SameMap (map_over eq hash parts) (map_over eq hash (set parts i new)) × (all ≡ len) × FitsParts eq hash (set parts i new) after
          × (left_over first (set parts i new) after ≡ left_over first parts before)
          × ((c : BucketCall K V) → FitsParts eq hash parts c → left_over first (set parts i new) c ≤ left_over first parts c))
      by (Ok t) h = tt
      by (Err e) (memory, map, table, f) = (
        same_over map,
        omega (arith, same, sum),
        fits_here after (after_here f) f,
        left_new after (after_here f) same
            ∙ (ap (λ m. left_in first (peak_at p) m after.table) memory
            ∙ (ap (λ s. left_in first (peak_at p) (memory_at p) s) table
            ∙ sym (left_here before (sym at)))),
        λ c g. elim (cases_eq (segment_of (length parts) c.hash) i) [ inl d ↦ left_mine c d | inr d ↦ left_other c d ],
      )
        where
          same : keys_at new ≡ keys_at p
          same = ap (λ m. m.len) memory

          left_mine : (c : BucketCall K V) → segment_of (length parts) c.hash ≡ i → left_over first (set parts i new) c ≤ left_over first parts c
          left_mine c d =
              let a = left_new c d same in let b = ap (λ m. left_in first (peak_at p) m c.table) memory in let e = left_here c d in omega (arith, a, b, e)

          left_other : (c : BucketCall K V) → segment_of (length parts) c.hash ≢ i → left_over first (set parts i new) c ≤ left_over first parts c
          left_other c d = let a = left_elsewhere c d in omega (arith, a)
