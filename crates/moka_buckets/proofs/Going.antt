-- What a step of a table leaves, as the contract of tables asks for it.
use Rattle.std.proofs.Common.{◌≡◌, ◌≢◌, ℕ, ◌+◌, ◌-◌, ◌<◌, ◌≤◌, max, Bool, true, false, cond, is_some, List, length, Some, Result, Ok, Err, IfOk, OnErr, sym, ap, subst, ◌∙◌, arith, set}
use Rattle.std.proofs.lemmas.Option.{slice_get_within}
use Rattle.std.specs.List.{slice_get}
use Rattle.std.specs.declared.alloc.AllocError.{AllocError}
use Rattle.moka_hist.specs.Tables.{taken_by}
use Rattle.moka_buckets.specs.KeyOps.{MovesKey, keys_after}
use Rattle.moka_buckets.specs.declared.key_op.KeyOp.{KeyOp}
use Rattle.moka_buckets.specs.declared.key_op.KeyOp.TheVariants as op
use Rattle.moka_hist.specs.declared.tables.TableTurn.{TableTurn}
use Rattle.moka_hist.specs.declared.tables.TableTurn.TheVariants as turn
use Rattle.moka_table.specs.Map.{Pairs, SameMap, most_steps}
use Rattle.moka_buckets.specs.declared.part.Part.{Part}
use Rattle.moka_buckets.specs.declared.bucket_call.BucketCall.{BucketCall}
use Rattle.moka_buckets.specs.Steps.{CanBegin}
use Rattle.moka_buckets.specs.Parts.{memory_at, keys_at, peak_at, map_at, map_over, left_over, segment_of, FitsParts, CanGo, Goes, GoesOver}
use Rattle.moka_buckets.specs.Views.{operation_of}
use Rattle.moka_buckets.proofs.Placed.{get-set-same}
use Rattle.moka_buckets.proofs.Spread.{bounded, keys_within, parts_after, others_after, left_elsewhere, moves_after, undecided_after, nears_after, err_after}

one_item : {A : Type 0} {x y : A} → Some x ≡ Some y → x ≡ y
one_item d = cc

-- an operation makes at most one key more
keys_few : {K V : Type 0} (f : Pairs K V) (k more : ℕ) (o : KeyOp K V) → more ≡ keys_after f k o → more ≤ k + 1
keys_few f k more (op.Get key) is = omega (arith, is)
keys_few f k more (op.InsertOrModify key stored) is = by (is_some (f key)) is
  where
    by : (b : Bool) → more ≡ cond b k (k + 1) → more ≤ k + 1
    by true e = omega (arith, e)
    by false e = omega (arith, e)
keys_few f k more (op.InsertIfAbsent key stored) is = by (is_some (f key)) is
  where
    by : (b : Bool) → more ≡ cond b k (k + 1) → more ≤ k + 1
    by true e = omega (arith, e)
    by false e = omega (arith, e)
keys_few f k more (op.RemoveIf key stamp) is = by (is_some (taken_by stamp (f key))) is
  where
    by : (b : Bool) → more ≡ cond b (k - 1) k → more ≤ k + 1
    by true e = omega (arith, e)
    by false e = omega (arith, e)

pub one_more : {K V : Type 0} (eq : K → K → Bool) (hash : K → ℕ) (first : ℕ) (p new : Part K V) (before after : BucketCall K V)
    (gives : Result (TableTurn K V) AllocError) → Goes eq hash first p before gives new after → keys_at new ≤ keys_at p + 1
one_more eq hash first p new before after (Err e) goes = let same = ap (λ m. m.len) goes.done.err.0 in omega (arith, same)
one_more eq hash first p new before after (Ok turn.Going) goes = let same = goes.done.moves.1 in omega (arith, same)
one_more eq hash first p new before after (Ok (turn.Decided a)) goes = keys_few (map_at eq p) (keys_at p) (keys_at new) before.operation goes.done.moves.2

module _ {K V : Type 0} (eq : K → K → Bool) (hash : K → ℕ) (first most len : ℕ) (old parts : List (Part K V)) (before after : BucketCall K V)
    (can : CanGo eq hash old first most len before) (i : ℕ) (at : i ≡ segment_of (length old) before.hash) (gives : Result (TableTurn K V) AllocError)
    (step : (p : Part K V) → slice_get old i ≡ Some p → CanBegin eq hash (memory_at p) p.nodes.items first (peak_at p) before →
    (new : Part K V) × (parts ≡ set old i new) × Goes eq hash first p before gives new after)
    (had has : ℕ) (had_is : (p : Part K V) → slice_get old i ≡ Some p → had ≡ keys_at p) (has_is : (p : Part K V) → slice_get parts i ≡ Some p → has ≡ keys_at p) where
  abbrev P : Part K V
  P = can.fits.part

  there : slice_get old i ≡ Some P
  there = ap (slice_get old) at ∙ can.fits.there

  began : CanBegin eq hash (memory_at P) P.nodes.items first (peak_at P) before
  began = record { respects = can.respects; well = (can.well.each i P there).well; fits = can.fits.fits }

  abbrev New : Part K V
  New = (step P there began).0

  goes : Goes eq hash first P before gives New after
  goes = (step P there began).2

  now : slice_get parts i ≡ Some New
  now = ap (λ ps. slice_get ps i) (step P there began).1 ∙ get-set-same old i New (slice_get_within old i P there)

  pub had_few : had ≤ len
  had_few = let e = had_is P there in let few = keys_within old i P there in let counted = can.well.counted in omega (arith, e, few, counted)

  pub has_few : has ≤ had + 1
  has_few = let e = had_is P there in let f = has_is New now in let few = one_more eq hash first P New before after gives goes in omega (arith, e, f, few)

  pub goes_over : (all : ℕ) → all ≡ len - had + has → GoesOver eq hash first old most len before gives parts all after
  goes_over all is =
      let e = had_is P there in let f = has_is New now in let few = had_few in
      let sum : all + keys_at P ≡ len + keys_at New = omega (arith, e, f, is, few) in
      subst (λ ps. GoesOver eq hash first old most len before gives ps all after) (sym (step P there began).1) (record {
        well = parts_after eq hash can.respects first most len old can.well i P New there before after at can.fits.fits gives goes all sum (max most all) (omega arith) (omega arith);
        operation = goes.done.operation;
        moves = moves_after eq hash can.respects first most len old can.well i P New there before after at can.fits.fits gives goes all sum;
        undecided = undecided_after eq hash can.respects first most len old can.well i P New there before after at can.fits.fits gives goes all sum;
        nears = nears_after eq hash can.respects first most len old can.well i P New there before after at can.fits.fits gives goes all sum;
        others = others_after eq hash can.respects first most len old can.well i P New there before after at can.fits.fits gives goes all sum;
        elsewhere = λ c d. left_elsewhere eq hash can.respects first most len old can.well i P New there before after at can.fits.fits gives goes all sum c (λ e. d (e ∙ at));
        err = err_after eq hash can.respects first most len old can.well i P New there before after at can.fits.fits gives goes all sum;
      })

-- what the contract says of segments before and after, under two names for one hasher and one length
pub record Does {K V : Type 0} (eq : K → K → Bool) (hash : K → ℕ) (first : ℕ) (old : List (Part K V)) (len : ℕ) (before : BucketCall K V)
    (gives : Result (TableTurn K V) AllocError) (kept : K → ℕ) (least : ℕ) (new : List (Part K V)) (more all : ℕ) (after : BucketCall K V) : Type 0 where
  pub moves : IfOk gives (λ t. (o : KeyOp K V) → operation_of before ≡ Some o → MovesKey eq o (map_over eq hash old) len t (map_over eq kept new) all)
  pub undecided : IfOk gives (λ t. t ≡ turn.Going → (operation_of after ≡ operation_of before) × FitsParts eq kept new after)
  pub nears : IfOk gives (λ t. t ≡ turn.Going → left_over least new after < left_over first old before)
  pub others : (c : BucketCall K V) → FitsParts eq hash old c → FitsParts eq kept new c
  pub others_left : (c : BucketCall K V) → FitsParts eq hash old c → left_over least new c ≤ most_steps least more
  pub elsewhere : (c : BucketCall K V) → segment_of (length old) c.hash ≢ segment_of (length old) before.hash → left_over least new c ≡ left_over first old c
  pub err_map : OnErr gives (SameMap (map_over eq hash old) (map_over eq kept new))
  pub err_count : OnErr gives (all ≡ len)
  pub err_call : OnErr gives ((operation_of after ≡ operation_of before) × FitsParts eq kept new after × (left_over least new after ≡ left_over first old before))
  pub err_others : OnErr gives ((c : BucketCall K V) → FitsParts eq hash old c → left_over least new c ≤ left_over first old c)

module _ {K V : Type 0} (eq : K → K → Bool) (hash : K → ℕ) (first most len : ℕ) (old new : List (Part K V)) (before after : BucketCall K V)
    (gives : Result (TableTurn K V) AllocError) (all : ℕ) (goes : GoesOver eq hash first old most len before gives new all after) where
  abbrev Fails : Type 0
  Fails = SameMap (map_over eq hash old) (map_over eq hash new) × (all ≡ len) × FitsParts eq hash new after
      × (left_over first new after ≡ left_over first old before)
      × ((c : BucketCall K V) → FitsParts eq hash old c → left_over first new c ≤ left_over first old c)

  named : (r : Result (TableTurn K V) AllocError) → IfOk r (λ t. MovesKey eq before.operation (map_over eq hash old) len t (map_over eq hash new) all) →
      IfOk r (λ t. (o : KeyOp K V) → operation_of before ≡ Some o → MovesKey eq o (map_over eq hash old) len t (map_over eq hash new) all)
  named (Ok t) m = λ o is. subst (λ x. MovesKey eq x (map_over eq hash old) len t (map_over eq hash new) all) (one_item is) m
  named (Err e) m = tt

  begun : (r : Result (TableTurn K V) AllocError) → IfOk r (λ t. t ≡ turn.Going → FitsParts eq hash new after) →
      IfOk r (λ t. t ≡ turn.Going → (operation_of after ≡ operation_of before) × FitsParts eq hash new after)
  begun (Ok t) f = λ is. (ap Some goes.operation, f is)
  begun (Err e) f = tt

  err_map : (r : Result (TableTurn K V) AllocError) → OnErr r Fails → OnErr r (SameMap (map_over eq hash old) (map_over eq hash new))
  err_map (Ok t) f = tt
  err_map (Err e) f = f.0

  err_count : (r : Result (TableTurn K V) AllocError) → OnErr r Fails → OnErr r (all ≡ len)
  err_count (Ok t) f = tt
  err_count (Err e) f = f.1

  err_call : (r : Result (TableTurn K V) AllocError) → OnErr r Fails → OnErr r ((operation_of after ≡ operation_of before)
      × FitsParts eq hash new after × (left_over first new after ≡ left_over first old before))
  err_call (Ok t) f = tt
  err_call (Err e) f = (ap Some goes.operation, f.2, f.3)

  err_others : (r : Result (TableTurn K V) AllocError) → OnErr r Fails →
      OnErr r ((c : BucketCall K V) → FitsParts eq hash old c → left_over first new c ≤ left_over first old c)
  err_others (Ok t) f = tt
  err_others (Err e) f = f.4

  pub does : Does eq hash first old len before gives hash first new (max most all) all after
  does = record {
    moves = named gives goes.moves;
    undecided = begun gives goes.undecided;
    nears = goes.nears;
    others = goes.others;
    others_left = λ c f. bounded eq hash first new (max most all) all goes.well c (goes.others c f);
    elsewhere = goes.elsewhere;
    err_map = err_map gives goes.err;
    err_count = err_count gives goes.err;
    err_call = err_call gives goes.err;
    err_others = err_others gives goes.err;
  }
