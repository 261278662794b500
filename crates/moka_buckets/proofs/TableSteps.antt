-- Steps of all calls of a table, as the contract of tables tells them.
use Rattle.std.proofs.Common.{◌≡◌, ◌⊎◌, ◌↔◌, ℕ, ◌+◌, ◌*◌, ◌-◌, ◌<◌, ◌≤◌, max, min, Bool, true, false, nat_lt, List, length, Option, None, Some, IsSome, if◌then◌else◌, inl, inr, Result, Ok, Err, IfOk, OnErr, refl, sym, ap, subst, ◌∙◌, arith}
use Rattle.std.proofs.lemmas.Bool.{false≢true}
use Rattle.std.proofs.lemmas.Option.{slice_get_past, slice_get_within}
use Rattle.std.specs.Bool.{OnFalse, OnTrue}
use Rattle.std.specs.Hash.{HashWrites}
use Rattle.std.specs.List.{slice_get}
use Rattle.std.specs.Option.{option_map_or}
use Rattle.std.specs.declared.alloc.AllocError.{AllocError}
use Rattle.std.specs.declared.hash.Hasher as hasher
use Rattle.std.specs.declared.hash.BuildHasher as builder
use Rattle.moka_hist.specs.declared.tables.TableOp.{TableOp}
use Rattle.moka_hist.specs.declared.tables.TableOp.TheVariants as op
use Rattle.moka_hist.specs.declared.tables.TableAnswer.{TableAnswer}
use Rattle.moka_hist.specs.declared.tables.TableAnswer.TheVariants as found
use Rattle.moka_hist.specs.declared.tables.TableTurn.{TableTurn}
use Rattle.moka_hist.specs.declared.tables.TableTurn.TheVariants as turn
use Rattle.moka_words.specs.declared.accesses.Access.{Access}
use Rattle.moka_growth.specs.Calls.{Step, Going, Decided}
use Rattle.moka_calls.specs.Standing.{IsGoing}
use Rattle.moka_table.specs.Map.{GoesOnListing, IsList, Moves, Pairs, SameMap, longest, most_steps}
use Rattle.moka_buckets.specs.declared.bucket_call.BucketCall.{BucketCall}
use Rattle.moka_buckets.specs.declared.key_op.KeyOp.{KeyOp}
use Rattle.moka_buckets.specs.declared.key_op.KeyOp.TheVariants as one
use Rattle.moka_buckets.specs.declared.keys_call.KeysCall.{KeysCall}
use Rattle.moka_buckets.specs.declared.list_call.ListCall.{ListCall}
use Rattle.moka_buckets.specs.declared.op_call.OpCall.{OpCall}
use Rattle.moka_buckets.specs.declared.op_call.OpCall.TheVariants as any
use Rattle.moka_buckets.specs.KeyOps.{MovesKey, op_of}
use Rattle.moka_buckets.specs.Accesses.{IsAsBefore, MovesOnce}
use Rattle.moka_buckets.specs.Hashing.{hash_in}
use Rattle.moka_buckets.specs.Keys.{IsListing}
use Rattle.moka_buckets.specs.Parts.{memory_at, peak_at, segment_of, AreParts}
use Rattle.moka_buckets.specs.Tables.{left_in}
use Rattle.moka_buckets.specs.Walks.{Covers, is_ended}
use Rattle.moka_buckets.specs.Views.{Buckets, count_of, covers_in, first_of, fits_in, fits_keys_in, keys_listed, left_keys_of, left_of, lists_in, map_in, operation_of, peak_of, segment_for}
use Rattle.moka_buckets.specs.Ops.{StepsTable, bucket_table, covers_for, fits_for, fits_list, is_joined, left_for, listed_for, operation_for, part_for, parts_in}
use Rattle.moka_buckets.proofs.ListedKeys.{all_at, any_at, distinct_at, keys_kept, same_at}
use Rattle.moka_buckets.proofs.Keyed.{keys_bounded}
use Rattle.moka_buckets.proofs.Parting.{has_segment, part_is}
use Rattle.moka_buckets.proofs.Spread.{bounded}

one_item : {A : Type 0} {x y : A} → Some x ≡ Some y → x ≡ y
one_item e = cc

-- an operation on a key is no list
no_keys : {K V : Type 0} (o : KeyOp K V) (part : ℕ) → Some (op_of o) ≡ Some (op.Keys part) → ⊥
no_keys (one.Get key) part e = cc
no_keys (one.InsertOrModify key stored) part e = cc
no_keys (one.InsertIfAbsent key stored) part e = cc
no_keys (one.RemoveIf key stamp) part e = cc

-- a list of a part, and what it gives
abbrev ListOp : (K V : Type 0) → ℕ → Option (TableOp K V)
ListOp K V part = Some (op.Keys part)

abbrev Gives : (K V : Type 0) → List K → TableTurn K V
Gives K V keys = turn.Decided (found.Keys keys)

same_part : (K V : Type 0) (a c : ℕ) → ListOp K V a ≡ ListOp K V c → a ≡ c
same_part K V a c e = cc

no_decision : {K V : Type 0} {a : TableAnswer K V} → turn.Going ≡ turn.Decided a → ⊥
no_decision e = cc

same_keys : (K V : Type 0) (xs ys : List K) → Gives K V xs ≡ Gives K V ys → xs ≡ ys
same_keys K V xs ys e = cc

going_of : (s : Step) → is_ended s ≡ false → IsGoing s
going_of (Going c) e = tt
going_of (Decided x) e = absurd (false≢true (sym e))

-- it moves the map as that operation of the table
moves_op : {K V : Type 0} (eq : K → K → Bool) (o : KeyOp K V) (old : Pairs K V) (n : ℕ) (t : TableTurn K V) (new : Pairs K V) (m : ℕ) →
    MovesKey eq o old n t new m → Moves eq (op_of o) old n t new m
moves_op eq o old n turn.Going new m moves = moves
moves_op eq (one.Get key) old n (turn.Decided a) new m moves = moves
moves_op eq (one.InsertOrModify key stored) old n (turn.Decided a) new m moves = moves
moves_op eq (one.InsertIfAbsent key stored) old n (turn.Decided a) new m moves = moves
moves_op eq (one.RemoveIf key stamp) old n (turn.Decided a) new m moves = moves

module _ {K V S H : Type 0} (b : builder.Ghosts S H) (h : hasher.Ghosts H) (eq : K → K → Bool) (input : K → HashWrites)
    (old new : Buckets K V S) (first : first_of new ≡ first_of old) (long : length new.parts ≡ length old.parts) (hasher : new.hasher ≡ old.hasher) where
  abbrev Map : Buckets K V S → Pairs K V
  Map t = map_in b h eq input t

  abbrev Hash : K → ℕ
  Hash = hash_in b h input old.hasher

  joined_same : is_joined new ≡ is_joined old
  joined_same = ap (λ n. nat_lt 64 n) long

  segment_same : (q : K) → segment_for b h eq input new q ≡ segment_for b h eq input old q
  segment_same q = ap (λ n. segment_of n (hash_in b h input new.hasher q)) long
      ∙ ap (λ s. segment_of (length old.parts) (hash_in b h input s q)) hasher

  parts_same : (parts_in new ≡ parts_in old) × ((q : K) → part_for b h eq input new q ≡ part_for b h eq input old q)
  parts_same = (
    ap (λ n. if nat_lt 64 n then 1 else min 64 (max 1 n)) long,
    λ q. ap (λ n. if nat_lt 64 n then 0 else min (segment_for b h eq input new q) (min 64 (max 1 n) - 1)) long
        ∙ ap (λ s. if nat_lt 64 (length old.parts) then 0 else min s (min 64 (max 1 (length old.parts)) - 1)) (segment_same q),
  )

  part_here : (q : K) → is_joined old ≡ false → IsSome (Map old q) → part_for b h eq input old q ≡ segment_for b h eq input old q
  part_here q apart has = part_is b h eq input old q apart (has_segment b h eq input old q has)

  module _ {A : Type 0} (key : Option K) (wanted : Option Access) (segment : ℕ) (gives : Result A AllocError)
      (moves : MovesOnce eq Hash key wanted segment gives old.parts new.parts)
      (others : (c : BucketCall K V) → fits_in b h eq input old c → fits_in b h eq input new c)
      (others_left : (c : BucketCall K V) → fits_in b h eq input old c → left_of new c ≤ most_steps (first_of new) (peak_of new))
      (keys : (c : KeysCall) → fits_keys_in b h eq input old c → fits_keys_in b h eq input new c)
      (keys_left : (c : KeysCall) → fits_keys_in b h eq input old c → left_keys_of new c ≤ most_steps (first_of new) (peak_of new))
      (keys_lists : (c : KeysCall) (q : K) → fits_keys_in b h eq input old c → lists_in new c q ↔ lists_in old c q)
      (keys_covers : (c : KeysCall) (q : K) → fits_keys_in b h eq input old c → segment_for b h eq input old q ≡ c.segment →
      IsSome (Map old q) → covers_in eq old c q → covers_in eq new c q) where
    fits_others : (other : OpCall K V) → fits_for b h eq input old other → fits_for b h eq input new other
    fits_others (any.Key c) f = others c f
    fits_others (any.Keys l) f = (keys l.call f.0, f.1, f.2 ∙ sym (keys_kept eq Hash key wanted segment old.parts new.parts gives moves l.call f.0))

    left_others : (other : OpCall K V) → fits_for b h eq input old other → left_for new other ≤ most_steps (first_of new) (peak_of new)
    left_others (any.Key c) f = others_left c f
    left_others (any.Keys l) f = keys_left l.call f.0

    listed_others : (other : OpCall K V) → fits_for b h eq input old other → (q : K) → listed_for new other q → listed_for old other q
    listed_others (any.Key c) f q listed = listed
    listed_others (any.Keys l) f q listed = (keys_lists l.call q f.0).0 listed

    cover_others : (other : OpCall K V) (part : ℕ) → fits_for b h eq input old other → operation_for other ≡ Some (op.Keys part) →
        (q : K) → part_for b h eq input old q ≡ part → IsSome (Map old q) → IsSome (Map new q) → covers_for eq old other q → covers_for eq new other q
    cover_others (any.Key c) part f is q at has stays covers = tt
    cover_others (any.Keys l) part f is q at has stays covers = elim covers [
      | inl joined ↦ inl (joined_same ∙ joined)
      | inr covered ↦ by (is_joined old) refl covered
    ]
      where
        by : (j : Bool) → is_joined old ≡ j → covers_in eq old l.call q → covers_for eq new (any.Keys l) q
        by true e covered = inl (joined_same ∙ e)
        by false e covered = inr (keys_covers l.call q f.0 (sym (part_here q e has) ∙ (at ∙ sym (same_part K V l.call.segment part is))) has covered)

    -- without memory they have as many steps left as before
    err_others : (r : Result A AllocError) → MovesOnce eq Hash key wanted segment r old.parts new.parts →
        OnErr r ((other : OpCall K V) → fits_for b h eq input old other → left_for new other ≤ left_for old other)
    err_others (Ok a) m = tt
    err_others (Err e) m = by
      where
        by : (other : OpCall K V) → fits_for b h eq input old other → left_for new other ≤ left_for old other
        by (any.Key c) f =
            let same : left_of new c ≡ left_of old c =
            ap (λ k. option_map_or (λ p. left_in k (peak_at p) (memory_at p) c.table) (slice_get new.parts (segment_of (length new.parts) c.hash)) 0) first
            ∙ (ap (λ n. option_map_or (λ p. left_in (first_of old) (peak_at p) (memory_at p) c.table) (slice_get new.parts (segment_of n c.hash)) 0) long
            ∙ same_at eq Hash key wanted segment old.parts new.parts (Err e) m (λ w k. left_in (first_of old) k w c.table)
            (segment_of (length old.parts) c.hash) f.part f.there) in
            omega (arith, same)
        by (any.Keys l) f = by_keys f.0
          where
            by_keys : fits_keys_in b h eq input old l.call → left_keys_of new l.call ≤ left_keys_of old l.call
            by_keys (inl g) =
                let same : left_keys_of new l.call ≡ left_keys_of old l.call =
                ap (λ k. option_map_or (λ p. left_in k (peak_at p) (memory_at p) l.call.table) (slice_get new.parts l.call.segment) 0) first
                ∙ same_at eq Hash key wanted segment old.parts new.parts (Err e) m (λ w k. left_in (first_of old) k w l.call.table) l.call.segment g.part g.there in
                omega (arith, same)
            by_keys (inr g) =
                let past = g.absent in
                let none : left_keys_of new l.call ≡ 0 =
                ap (λ o. option_map_or (λ p. left_in (first_of new) (peak_at p) (memory_at p) l.call.table) o 0)
                (slice_get_past new.parts l.call.segment (omega (arith, past, long))) in
                omega (arith, none)

  -- a step of an operation on a key
  module _ (before after : BucketCall K V) (wanted : Option Access) (gives : Result (TableTurn K V) AllocError)
      (moves : IfOk gives (λ t. (o : KeyOp K V) → operation_of before ≡ Some o → MovesKey eq o (Map old) (count_of old) t (Map new) (count_of new)))
      (peak : peak_of new ≡ max (peak_of old) (count_of new))
      (undecided : IfOk gives (λ t. t ≡ turn.Going → (operation_of after ≡ operation_of before) × fits_in b h eq input new after))
      (nears : IfOk gives (λ t. t ≡ turn.Going → left_of new after < left_of old before))
      (err_map : OnErr gives (SameMap (Map old) (Map new)))
      (err_count : OnErr gives (count_of new ≡ count_of old))
      (err_call : OnErr gives ((operation_of after ≡ operation_of before) × fits_in b h eq input new after × (left_of new after ≡ left_of old before))) where
    moves_key : (r : Result (TableTurn K V) AllocError) →
        IfOk r (λ t. (o : KeyOp K V) → operation_of before ≡ Some o → MovesKey eq o (Map old) (count_of old) t (Map new) (count_of new)) →
        IfOk r (λ t. (o : TableOp K V) → operation_for (any.Key before) ≡ Some o → Moves eq o (Map old) (count_of old) t (Map new) (count_of new))
    moves_key (Err e) m = tt
    moves_key (Ok t) m = λ o is. subst (λ x. Moves eq x (Map old) (count_of old) t (Map new) (count_of new)) (one_item is)
        (moves_op eq before.operation (Map old) (count_of old) t (Map new) (count_of new) (m before.operation refl))

    same_op : operation_of after ≡ operation_of before → operation_for (any.Key after) ≡ operation_for (any.Key before)
    same_op is = ap (λ o. Some (op_of o)) (one_item is)

    undecided_key : (r : Result (TableTurn K V) AllocError) →
        IfOk r (λ t. t ≡ turn.Going → (operation_of after ≡ operation_of before) × fits_in b h eq input new after) →
        IfOk r (λ t. t ≡ turn.Going → (operation_for (any.Key after) ≡ operation_for (any.Key before)) × fits_in b h eq input new after)
    undecided_key (Err e) u = tt
    undecided_key (Ok t) u = λ is. let both = u is in (same_op both.0, both.1)

    err_key : (r : Result (TableTurn K V) AllocError) →
        OnErr r ((operation_of after ≡ operation_of before) × fits_in b h eq input new after × (left_of new after ≡ left_of old before)) →
        OnErr r ((operation_for (any.Key after) ≡ operation_for (any.Key before)) × fits_in b h eq input new after × (left_of new after ≡ left_of old before))
    err_key (Ok t) f = tt
    err_key (Err e) f = (same_op f.0, f.1, f.2)

    no_lists : (r : Result (TableTurn K V) AllocError) → IfOk r (λ t. (part : ℕ) → operation_for (any.Key before) ≡ Some (op.Keys part)
        → t ≡ turn.Going → GoesOnListing (Map old) (λ q. part_for b h eq input old q ≡ part)
        (listed_for old (any.Key before)) (listed_for new (any.Key after)) (covers_for eq old (any.Key before)) (covers_for eq new (any.Key after)))
    no_lists (Err e) = tt
    no_lists (Ok t) = λ part is going. absurd (no_keys before.operation part is)

    no_list : (r : Result (TableTurn K V) AllocError) → IfOk r (λ t. (part : ℕ) → (keys : List K) → operation_for (any.Key before) ≡ Some (op.Keys part)
        → t ≡ turn.Decided (found.Keys keys) → IsList eq (Map old) (λ q. part_for b h eq input old q ≡ part)
        (listed_for old (any.Key before)) (covers_for eq old (any.Key before)) (longest (first_of old) (peak_of old)) keys)
    no_list (Err e) = tt
    no_list (Ok t) = λ part keys is decided. absurd (no_keys before.operation part is)

    none_listed : (r : Result (TableTurn K V) AllocError) → OnErr r ((q : K) → (listed_for new (any.Key after) q → listed_for old (any.Key before) q)
        × (covers_for eq old (any.Key before) q → covers_for eq new (any.Key after) q))
    none_listed (Ok t) = tt
    none_listed (Err e) = λ q. (λ l. l, λ c. c)

    pub key_steps : (key : Option K) (segment : ℕ) → MovesOnce eq Hash key wanted segment gives old.parts new.parts
        → ((c : BucketCall K V) → fits_in b h eq input old c → fits_in b h eq input new c)
        → ((c : BucketCall K V) → fits_in b h eq input old c → left_of new c ≤ most_steps (first_of new) (peak_of new))
        → ((c : KeysCall) → fits_keys_in b h eq input old c → fits_keys_in b h eq input new c)
        → ((c : KeysCall) → fits_keys_in b h eq input old c → left_keys_of new c ≤ most_steps (first_of new) (peak_of new))
        → ((c : KeysCall) (q : K) → fits_keys_in b h eq input old c → lists_in new c q ↔ lists_in old c q)
        → ((c : KeysCall) (q : K) → fits_keys_in b h eq input old c → segment_for b h eq input old q ≡ c.segment →
        IsSome (Map old q) → covers_in eq old c q → covers_in eq new c q)
        → StepsTable (bucket_table b h eq input) eq old (any.Key before) gives new (any.Key after)
    key_steps key segment once others others_left keys keys_left keys_lists keys_covers = record {
      moves = moves_key gives moves;
      peak = peak;
      first = first;
      parts = parts_same;
      lists = no_lists gives;
      gives = no_list gives;
      undecided = undecided_key gives undecided;
      nears = nears;
      others = fits_others key wanted segment gives once others others_left keys keys_left keys_lists keys_covers;
      others_left = left_others key wanted segment gives once others others_left keys keys_left keys_lists keys_covers;
      others_listed = listed_others key wanted segment gives once others others_left keys keys_left keys_lists keys_covers;
      others_cover = cover_others key wanted segment gives once others others_left keys keys_left keys_lists keys_covers;
      err_map = err_map;
      err_count = err_count;
      err_call = err_key gives err_call;
      err_listed = none_listed gives;
      err_others = err_others key wanted segment gives once others others_left keys keys_left keys_lists keys_covers gives once;
    }

  -- a step of a list
  module _ (before : ListCall K) (call : KeysCall) (wanted : Option Access) (fits : fits_list b h eq input old before)
      (map : SameMap (Map old) (Map new)) (count : count_of new ≡ count_of old) (peak : peak_of new ≡ peak_of old)
      (segment : call.segment ≡ before.call.segment) (fits_new : fits_keys_in b h eq input new call)
      (own : (q : K) → lists_in new call q → segment_for b h eq input new q ≡ call.segment)
      (others : (c : BucketCall K V) → fits_in b h eq input old c → fits_in b h eq input new c)
      (others_left : (c : BucketCall K V) → fits_in b h eq input old c → left_of new c ≤ most_steps (first_of new) (peak_of new))
      (keys : (c : KeysCall) → fits_keys_in b h eq input old c → fits_keys_in b h eq input new c)
      (keys_left : (c : KeysCall) → fits_keys_in b h eq input old c → left_keys_of new c ≤ most_steps (first_of new) (peak_of new))
      (keys_lists : (c : KeysCall) (q : K) → fits_keys_in b h eq input old c → lists_in new c q ↔ lists_in old c q)
      (keys_covers : (c : KeysCall) (q : K) → fits_keys_in b h eq input old c → segment_for b h eq input old q ≡ c.segment →
      IsSome (Map old q) → covers_in eq old c q → covers_in eq new c q) where
    peak_after : peak_of new ≡ max (peak_of old) (count_of new)
    peak_after = omega (arith, peak, count)

    same_list : (l : ListCall K) → l.call ≡ call → operation_for {V = V} (any.Keys l) ≡ operation_for (any.Keys before)
    same_list l is = ap (λ (c : KeysCall). ListOp K V c.segment) is ∙ ap (λ n. ListOp K V n) segment

    -- without memory
    module _ (e : AllocError) (once : MovesOnce {A = Bool} eq Hash None wanted before.call.segment (Err e) old.parts new.parts)
        (same : call ≡ before.call) (left : left_keys_of new call ≡ left_keys_of old before.call) where
      covers_err : (q : K) → covers_in eq old before.call q → covers_in eq new before.call q
      covers_err q (p, at, covered) =
          let there = once.own p at in
          let stays : IsAsBefore p there.0 = there.2.err in (
            there.0,
            there.1,
            subst (λ m. Covers eq m there.0.nodes.items q before.call.table) (sym stays.memory)
                (subst (λ ns. Covers eq (memory_at p) ns q before.call.table) (sym stays.nodes) covered),
          )

      pub list_fails : (after : ListCall K) → after.call ≡ call → after.keys.items ≡ before.keys.items →
          StepsTable (bucket_table b h eq input) eq old (any.Keys before) (Err e) new (any.Keys after)
      list_fails after is items =
          let same_call : after.call ≡ before.call = is ∙ same in
          let stays = fits_others None wanted before.call.segment (Err e) once others others_left keys keys_left keys_lists keys_covers (any.Keys before) fits in
          record {
            moves = tt;
            peak = peak_after;
            first = first;
            parts = parts_same;
            lists = tt;
            gives = tt;
            undecided = tt;
            nears = tt;
            others = fits_others None wanted before.call.segment (Err e) once others others_left keys keys_left keys_lists keys_covers;
            others_left = left_others None wanted before.call.segment (Err e) once others others_left keys keys_left keys_lists keys_covers;
            others_listed = listed_others None wanted before.call.segment (Err e) once others others_left keys keys_left keys_lists keys_covers;
            others_cover = cover_others None wanted before.call.segment (Err e) once others others_left keys keys_left keys_lists keys_covers;
            err_map = map;
            err_count = count;
            err_call = (
              same_list after is,
              subst (λ (c : KeysCall). fits_keys_in b h eq input new c × IsGoing c.table × (after.keys.items ≡ keys_listed new c)) (sym same_call)
                  (stays.0, stays.1, items ∙ stays.2),
              ap (λ (c : KeysCall). left_keys_of new c) is ∙ left,
            );
            err_listed = λ q. (
              λ listed. (keys_lists before.call q fits.0).0 (subst (λ (c : KeysCall). lists_in new c q) same_call listed),
              λ covers. elim covers [
                | inl joined ↦ inl (joined_same ∙ joined)
                | inr covered ↦ inr (subst (λ (c : KeysCall). covers_in eq new c q) (sym same_call) (covers_err q covered))
              ],
            );
            err_others = err_others None wanted before.call.segment (Err e) once others others_left keys keys_left keys_lists keys_covers (Err e) once;
          }

    -- where it goes on, or decides
    module _ (apart : is_joined old ≡ false) (done : Bool)
        (once : MovesOnce {A = Bool} eq Hash None wanted before.call.segment (Ok done) old.parts new.parts)
        (lists : (q : K) → lists_in new call q → lists_in old before.call q ⊎ IsSome (Map old q))
        (covers : (q : K) → segment_for b h eq input old q ≡ before.call.segment → IsSome (Map old q) →
        covers_in eq old before.call q → covers_in eq new call q) (after : ListCall K) (is : after.call ≡ call) where
      -- what was listed is of the part
      of_part : (part : ℕ) → operation_for {V = V} (any.Keys before) ≡ Some (op.Keys part) → (q : K) → lists_in new call q → part_for b h eq input old q ≡ part
      of_part part begun q listed =
          let at : segment_for b h eq input old q ≡ before.call.segment = sym (segment_same q) ∙ (own q listed ∙ segment) in
          let within : before.call.segment < length old.parts = inside listed in
          part_is b h eq input old q apart (subst (λ n. n < length old.parts) (sym at) within) ∙ (at ∙ same_part K V before.call.segment part begun)
        where
          inside : lists_in new call q → before.call.segment < length old.parts
          inside listed = let there = slice_get_within new.parts call.segment listed.0 listed.1 in omega (arith, there, long, segment)

      within : (part : ℕ) → operation_for {V = V} (any.Keys before) ≡ Some (op.Keys part) → (q : K) → lists_in new call q →
          lists_in old before.call q ⊎ (IsSome (Map old q) × (part_for b h eq input old q ≡ part))
      within part begun q listed = elim (lists q listed) [ inl was ↦ inl was | inr has ↦ inr (has, of_part part begun q listed) ]

      covers_on : (part : ℕ) → operation_for {V = V} (any.Keys before) ≡ Some (op.Keys part) → (q : K) → part_for b h eq input old q ≡ part →
          IsSome (Map old q) → covers_for eq old (any.Keys before) q → covers_in eq new call q
      covers_on part begun q at has covered = elim covered [
        | inl joined ↦ absurd (false≢true (sym apart ∙ joined))
        | inr c ↦ covers q (sym (part_here q apart has) ∙ (at ∙ sym (same_part K V before.call.segment part begun))) has c
      ]

      pub list_goes : IsGoing call.table → after.keys.items ≡ keys_listed new call → left_keys_of new call < left_keys_of old before.call →
          StepsTable (bucket_table b h eq input) eq old (any.Keys before) (Ok turn.Going) new (any.Keys after)
      list_goes going items nears = record {
        moves = λ o begun. subst (λ x. Moves eq x (Map old) (count_of old) turn.Going (Map new) (count_of new)) (one_item begun) (map, count);
        peak = peak_after;
        first = first;
        parts = parts_same;
        lists = λ part begun going. record {
          lists = λ q listed. within part begun q (subst (λ (c : KeysCall). lists_in new c q) is listed);
          covers = λ q at has covered. inr (subst (λ (c : KeysCall). covers_in eq new c q) (sym is) (covers_on part begun q at has covered));
        };
        gives = λ part keys begun decided. absurd (no_decision decided);
        undecided = λ going_is. (
          same_list after is,
          subst (λ (c : KeysCall). fits_keys_in b h eq input new c × IsGoing c.table × (after.keys.items ≡ keys_listed new c)) (sym is) (fits_new, going, items),
        );
        nears = λ going_is. subst (λ (c : KeysCall). left_keys_of new c < left_keys_of old before.call) (sym is) nears;
        others = fits_others None wanted before.call.segment (Ok done) once others others_left keys keys_left keys_lists keys_covers;
        others_left = left_others None wanted before.call.segment (Ok done) once others others_left keys keys_left keys_lists keys_covers;
        others_listed = listed_others None wanted before.call.segment (Ok done) once others others_left keys keys_left keys_lists keys_covers;
        others_cover = cover_others None wanted before.call.segment (Ok done) once others others_left keys keys_left keys_lists keys_covers;
        err_map = tt;
        err_count = tt;
        err_call = tt;
        err_listed = tt;
        err_others = tt;
      }

      -- the list that it gives
      list_is : (part : ℕ) → operation_for {V = V} (any.Keys before) ≡ Some (op.Keys part) → (list : List K) → list ≡ keys_listed new call →
          IsListing eq new.parts call (keys_listed new call) → length (keys_listed new call) ≤ first_of new + 3 * peak_of new →
          IsList eq (Map old) (λ q. part_for b h eq input old q ≡ part) (listed_for old (any.Keys before)) (covers_for eq old (any.Keys before))
          (longest (first_of old) (peak_of old)) list
      list_is part begun list are listing few =
          subst (λ ks. IsList eq (Map old) (λ q. part_for b h eq input old q ≡ part) (listed_for old (any.Keys before)) (covers_for eq old (any.Keys before))
          (longest (first_of old) (peak_of old)) ks) (sym are) (record {
            distinct = distinct_at eq (keys_listed new call) listing.differ;
            of_part = all_at (λ q. part_for b h eq input old q ≡ part) (keys_listed new call) (λ x q at. of_part part begun q (listing.listed x q at));
            within = all_at (λ q. lists_in old before.call q ⊎ (IsSome (Map old q) × (part_for b h eq input old q ≡ part))) (keys_listed new call)
                (λ x q at. within part begun q (listing.listed x q at));
            whole = λ q at has covered.
                let found = listing.covers q (covers_on part begun q at has covered) in
                any_at (eq q) (keys_listed new call) found.0 found.1 found.2 found.3;
            few = omega (arith, few, first, peak);
          })

      pub list_ends : (list : List K) → list ≡ keys_listed new call → IsListing eq new.parts call (keys_listed new call) →
          length (keys_listed new call) ≤ first_of new + 3 * peak_of new →
          StepsTable (bucket_table b h eq input) eq old (any.Keys before) (Ok (turn.Decided (found.Keys list))) new (any.Keys after)
      list_ends list are listing few = record {
        moves = λ o begun. subst (λ x. Moves eq x (Map old) (count_of old) (turn.Decided (found.Keys list)) (Map new) (count_of new)) (one_item begun)
            ((list, refl), map, count);
        peak = peak_after;
        first = first;
        parts = parts_same;
        lists = λ part begun going. absurd (no_decision (sym going));
        gives = λ part keys begun decided. list_is part begun keys (sym (same_keys K V list keys decided) ∙ are) listing few;
        undecided = λ going. absurd (no_decision (sym going));
        nears = λ going. absurd (no_decision (sym going));
        others = fits_others None wanted before.call.segment (Ok done) once others others_left keys keys_left keys_lists keys_covers;
        others_left = left_others None wanted before.call.segment (Ok done) once others others_left keys keys_left keys_lists keys_covers;
        others_listed = listed_others None wanted before.call.segment (Ok done) once others others_left keys keys_left keys_lists keys_covers;
        others_cover = cover_others None wanted before.call.segment (Ok done) once others others_left keys keys_left keys_lists keys_covers;
        err_map = tt;
        err_count = tt;
        err_call = tt;
        err_listed = tt;
        err_others = tt;
      }

      -- it has decided, or goes on
      pub list_done : done ≡ is_ended call.table → (done ≡ false → left_keys_of new call < left_keys_of old before.call) →
          (done ≡ true → IsListing eq new.parts call (keys_listed new call)) →
          (done ≡ true → length (keys_listed new call) ≤ first_of new + 3 * peak_of new) → (list : List K) → list ≡ keys_listed new call →
          (given : TableTurn K V) → OnTrue done (given ≡ Gives K V list) → OnFalse done ((given ≡ turn.Going) × (after.keys.items ≡ list)) →
          StepsTable (bucket_table b h eq input) eq old (any.Keys before) (Ok given) new (any.Keys after)
      list_done ended nears listing few list are given gives goes = by done refl gives goes
        where
          by : (d : Bool) → done ≡ d → OnTrue d (given ≡ Gives K V list) → OnFalse d ((given ≡ turn.Going) × (after.keys.items ≡ list)) →
              StepsTable (bucket_table b h eq input) eq old (any.Keys before) (Ok given) new (any.Keys after)
          by true e gives goes = subst (λ (x : TableTurn K V). StepsTable (bucket_table b h eq input) eq old (any.Keys before) (Ok x) new (any.Keys after)) (sym gives)
              (list_ends list are (listing e) (few e))
          by false e gives goes = subst (λ (x : TableTurn K V). StepsTable (bucket_table b h eq input) eq old (any.Keys before) (Ok x) new (any.Keys after)) (sym goes.0)
              (list_goes (going_of call.table (sym ended ∙ e)) (goes.1 ∙ are) (nears e))

-- a table that a step of a list leaves as it was
module _ {K V S H : Type 0} (b : builder.Ghosts S H) (h : hasher.Ghosts H) (eq : K → K → Bool) (input : K → HashWrites) (t : Buckets K V S) where
  -- a call that fits has few steps left
  pub bounded_all : AreParts eq (hash_in b h input t.hasher) t.parts (first_of t) (peak_of t) (count_of t) →
      (other : OpCall K V) → fits_for b h eq input t other → left_for t other ≤ most_steps (first_of t) (peak_of t)
  bounded_all well (any.Key c) f = bounded eq (hash_in b h input t.hasher) (first_of t) t.parts (peak_of t) (count_of t) well c f
  bounded_all well (any.Keys l) f = keys_bounded eq (hash_in b h input t.hasher) (first_of t) t.parts (peak_of t) (count_of t) well l.call f.0

module _ {K V S H : Type 0} (b : builder.Ghosts S H) (h : hasher.Ghosts H) (eq : K → K → Bool) (input : K → HashWrites) (t : Buckets K V S)
    (left : (other : OpCall K V) → fits_for b h eq input t other → left_for t other ≤ most_steps (first_of t) (peak_of t)) (before : ListCall K) where
  -- there was no memory
  pub list_stands : (fits : fits_list b h eq input t before) (e : AllocError) (after : ListCall K) → after.call ≡ before.call → after.keys.items ≡ before.keys.items →
      StepsTable (bucket_table b h eq input) eq t (any.Keys before) (Err e) t (any.Keys after)
  list_stands fits e after is items = record {
    moves = tt;
    peak = omega arith;
    first = refl;
    parts = (refl, λ q. refl);
    lists = tt;
    gives = tt;
    undecided = tt;
    nears = tt;
    others = λ other f. f;
    others_left = left;
    others_listed = λ other f q listed. listed;
    others_cover = λ other part f begun q at has stays covers. covers;
    err_map = λ q. refl;
    err_count = refl;
    err_call = (
      ap (λ (c : KeysCall). ListOp K V c.segment) is,
      subst (λ (c : KeysCall). fits_keys_in b h eq input t c × IsGoing c.table × (after.keys.items ≡ keys_listed t c)) (sym is) (fits.0, fits.1, items ∙ fits.2),
      ap (λ (c : KeysCall). left_keys_of t c) is,
    );
    err_listed = λ q. (
      λ listed. subst (λ (c : KeysCall). lists_in t c q) is listed,
      λ covers. subst (λ (c : KeysCall). (is_joined t ≡ true) ⊎ covers_in eq t c q) (sym is) covers,
    );
    err_others = λ other f. omega arith;
  }

  -- all keys were listed at once
  abbrev IsWhole : List K → Type 0
  IsWhole keys = IsList eq (map_in b h eq input t) (λ q. part_for b h eq input t q ≡ before.call.segment)
      (listed_for t (any.Keys before)) (covers_for eq t (any.Keys before)) (longest (first_of t) (peak_of t)) keys

  all_listed : (keys : List K) → IsWhole keys → StepsTable (bucket_table b h eq input) eq t (any.Keys before) (Ok (turn.Decided (found.Keys keys))) t (any.Keys before)
  all_listed keys list = record {
    moves = λ o begun. subst (λ x. Moves eq x (map_in b h eq input t) (count_of t) (turn.Decided (found.Keys keys)) (map_in b h eq input t) (count_of t))
        (one_item begun) ((keys, refl), λ q. refl, refl);
    peak = omega arith;
    first = refl;
    parts = (refl, λ q. refl);
    lists = λ part begun going. absurd (no_decision (sym going));
    gives = λ part ks begun decided. subst (λ ls. IsList eq (map_in b h eq input t) (λ q. part_for b h eq input t q ≡ part)
        (listed_for t (any.Keys before)) (covers_for eq t (any.Keys before)) (longest (first_of t) (peak_of t)) ls) (same_keys K V keys ks decided)
        (subst (λ n. IsList eq (map_in b h eq input t) (λ q. part_for b h eq input t q ≡ n)
        (listed_for t (any.Keys before)) (covers_for eq t (any.Keys before)) (longest (first_of t) (peak_of t)) keys)
        (same_part K V before.call.segment part begun) list);
    undecided = λ going. absurd (no_decision (sym going));
    nears = λ going. absurd (no_decision (sym going));
    others = λ other f. f;
    others_left = left;
    others_listed = λ other f q listed. listed;
    others_cover = λ other part f begun q at has stays covers. covers;
    err_map = tt;
    err_count = tt;
    err_call = tt;
    err_listed = tt;
    err_others = tt;
  }

  pub list_whole : (fits : fits_list b h eq input t before) (r : Result (TableTurn K V) AllocError) →
      IfOk r (λ turned. (keys : List K) × (turned ≡ turn.Decided (found.Keys keys)) × IsWhole keys) →
      StepsTable (bucket_table b h eq input) eq t (any.Keys before) r t (any.Keys before)
  list_whole fits (Err e) gives = list_stands fits e before refl refl
  list_whole fits (Ok turned) (keys, is, list) = subst (λ (x : TableTurn K V). StepsTable (bucket_table b h eq input) eq t (any.Keys before) (Ok x) t (any.Keys before))
      (sym is) (all_listed keys list)
