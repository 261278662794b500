-- What a step of a call that lists keys does to the whole table.
use Rattle.std.proofs.Common.{◌≡◌, ◌≢◌, ◌⊎◌, ◌↔◌, ℕ, ◌<◌, Bool, true, false, List, [], length, Option, Some, None, IsSome, Result, Ok, Err, IfOk, OnErr, inl, inr, refl, sym, ap, subst, ◌∙◌, arith, set}
use Rattle.std.proofs.lemmas.Bool.{cases_eq, false≢true}
use Rattle.std.proofs.lemmas.Option.{slice_get_within}
use Rattle.std.proofs.Math.ListN.{length-set}
use Rattle.std.specs.Cmp.{IsEquivalence}
use Rattle.std.specs.List.{slice_get}
use Rattle.std.specs.Option.{option_map, option_map_or}
use Rattle.std.specs.declared.alloc.AllocError.{AllocError}
use Rattle.moka_words.specs.Effect.{LaterMemory}
use Rattle.moka_growth.specs.Calls.{Step, Going, Decided}
use Rattle.moka_table.specs.Map.{SameMap}
use Rattle.moka_buckets.specs.declared.node.Node.{Node}
use Rattle.moka_buckets.specs.declared.part.Part.{Part}
use Rattle.moka_buckets.specs.declared.bucket_call.BucketCall.{BucketCall}
use Rattle.moka_buckets.specs.declared.keys_call.KeysCall.{KeysCall}
use Rattle.moka_pairs.specs.Keys.{same_by}
use Rattle.moka_buckets.specs.Nodes.{key_in, pair_in, Agrees}
use Rattle.moka_buckets.specs.Tables.{map_of, left_in, IsWell}
use Rattle.moka_buckets.specs.Steps.{FitsCall}
use Rattle.moka_buckets.specs.Walks.{carried, is_ended, listed_by, node_next, word_next, Falls, Covers, Lead, WalksOn}
use Rattle.moka_buckets.specs.Parts.{memory_at, keys_at, peak_at, map_at, map_over, segment_of, IsPart, AreParts, FitsParts}
use Rattle.moka_buckets.specs.Keys.{Leads, FitsKeys, FitsThere, ListsIt, CoversIt, WalksOver, left_keys, nodes_of, word_over}
use Rattle.moka_buckets.proofs.Placed.{get-set-same, get-set-other}
use Rattle.moka_buckets.proofs.Spread.{keys_set}
use Rattle.moka_pairs.proofs.Mapped.{has_key}
use Rattle.moka_pairs.proofs.Steps.{later_same}
use Rattle.moka_buckets.proofs.Turns.{runs_last}
use Rattle.moka_buckets.proofs.Led.{walks_last, covers_last}
use Rattle.moka_buckets.proofs.Elsewhere.{lists_as, never_there, walks_at}

one_item : {A : Type 0} {x y : A} → Some x ≡ Some y → x ≡ y
one_item d = cc

module _ {K V : Type 0} (eq : K → K → Bool) (laws : IsEquivalence eq) (hash : K → ℕ) (respects : (x y : K) → eq x y ≡ true → hash x ≡ hash y)
    (first most len : ℕ) (parts : List (Part K V)) (well : AreParts eq hash parts first most len) (before after : KeysCall) (p new : Part K V)
    (there : slice_get parts before.segment ≡ Some p) (segment : after.segment ≡ before.segment) (gives : Result Bool AllocError)
    (leads : Leads eq hash first p before.table gives new after.table) (walks : WalksOn eq hash (memory_at p) p.nodes.items before.table) where
  abbrev i : ℕ
  i = before.segment

  -- what stays, with memory and without
  record Stays : Type 0 where
    still_well : IsWell eq hash (memory_at new) p.nodes.items first (peak_at p)
    map : (q : K) → map_of eq (memory_at new) p.nodes.items q ≡ map_of eq (memory_at p) p.nodes.items q
    count : keys_at new ≡ keys_at p
    still_fits : WalksOn eq hash (memory_at new) p.nodes.items after.table
    later : (keys : ℕ → Option K) → Agrees keys p.nodes.items → LaterMemory (same_by eq keys) (memory_at p) (memory_at new)

  stays : Stays
  stays = by gives leads.lead leads.err
    where
      by : (r : Result Bool AllocError) → IfOk r (λ done. Lead eq hash p.nodes.items first (peak_at p) (memory_at p) before.table (memory_at new) after.table) →
          OnErr r ((memory_at new ≡ memory_at p) × (after.table ≡ before.table)) → Stays
      by (Ok done) l e = record { still_well = l.well; map = l.map; count = l.count; still_fits = l.walks; later = l.later }
      by (Err x) l (memory, table) = record {
        still_well = subst (λ m. IsWell eq hash m p.nodes.items first (peak_at p)) (sym memory) (well.each i p there).well;
        map = λ q. ap (λ m. map_of eq m p.nodes.items q) memory;
        count = ap (λ m. m.len) memory;
        still_fits = subst (λ m. WalksOn eq hash m p.nodes.items after.table) (sym memory)
            (subst (λ s. WalksOn eq hash (memory_at p) p.nodes.items s) (sym table) walks);
        later = λ keys agrees. subst (λ m. LaterMemory (same_by eq keys) (memory_at p) m) (sym memory)
            (later_same eq laws hash respects (key_in p.nodes.items) (memory_at p) keys agrees);
      }

  nodes : new.nodes.items ≡ p.nodes.items
  nodes = ap (λ v. v.items) leads.nodes

  within : i < length parts
  within = slice_get_within parts i p there

  long : length (set parts i new) ≡ length parts
  long = length-set parts i new

  same_peak : peak_at new ≡ peak_at p
  same_peak = let e = leads.peak in let f = stays.count in omega (arith, e, f)

  now : slice_get (set parts i new) i ≡ Some new
  now = get-set-same parts i new within

  at_segment : (n : ℕ) → slice_get (set parts i new) (segment_of (length (set parts i new)) n) ≡ slice_get (set parts i new) (segment_of (length parts) n)
  at_segment n = ap (λ l. slice_get (set parts i new) (segment_of l n)) long

  map_new : (q : K) → map_at eq new q ≡ map_at eq p q
  map_new q = ap (λ xs. map_of eq (memory_at new) xs q) nodes ∙ stays.map q

  part_well : IsPart eq hash (length parts) first most i new
  part_well = let old = well.each i p there in record {
    placed = leads.placed;
    well = subst (λ k. IsWell eq hash (memory_at new) new.nodes.items first k) (sym same_peak)
        (subst (λ xs. IsWell eq hash (memory_at new) xs first (peak_at p)) (sym nodes) stays.still_well);
    own = λ n node e. old.own n node (subst (λ xs. slice_get xs n ≡ Some node) nodes e);
    few = let least = old.few in let same = same_peak in omega (arith, least, same);
  }

  parts_well : AreParts eq hash (set parts i new) first most len
  parts_well = record {
    each = λ j q e. subst (λ n. IsPart eq hash n first most j q) (sym long) (elim (cases_eq j i) [ inl d ↦ mine j q d e | inr d ↦ other j q d e ]);
    counted = let e = keys_set parts i p new there in let f = well.counted in let g = stays.count in omega (arith, e, f, g);
    some = let s = well.some in let l = long in omega (arith, s, l);
  }
    where
      mine : (j : ℕ) (q : Part K V) → j ≡ i → slice_get (set parts i new) j ≡ Some q → IsPart eq hash (length parts) first most j q
      mine j q d e = subst (λ k. IsPart eq hash (length parts) first most k q) (sym d)
          (subst (λ x. IsPart eq hash (length parts) first most i x) (one_item (sym (ap (slice_get (set parts i new)) d ∙ now) ∙ e)) part_well)

      other : (j : ℕ) (q : Part K V) → j ≢ i → slice_get (set parts i new) j ≡ Some q → IsPart eq hash (length parts) first most j q
      other j q d e = well.each j q (sym (get-set-other parts i j new d) ∙ e)

  -- in each segment the map is the same
  map_same : SameMap (map_over eq hash parts) (map_over eq hash (set parts i new))
  map_same q = let s = segment_of (length parts) (hash q) in
      ap (λ o. option_map_or (λ x. map_at eq x q) o None) (at_segment (hash q))
      ∙ elim (cases_eq s i) [ inl d ↦ mine d | inr d ↦ ap (λ o. option_map_or (λ x. map_at eq x q) o None) (get-set-other parts i s new d) ]
    where
      mine : segment_of (length parts) (hash q) ≡ i →
          option_map_or (λ x. map_at eq x q) (slice_get (set parts i new) (segment_of (length parts) (hash q))) None ≡ map_over eq hash parts q
      mine d = ap (λ o. option_map_or (λ x. map_at eq x q) o None) (ap (slice_get (set parts i new)) d ∙ now)
          ∙ (map_new q ∙ sym (ap (λ o. option_map_or (λ x. map_at eq x q) o None) (ap (slice_get parts) d ∙ there)))

  -- a key of one of its nodes is one of the segment's
  own_segment : (key : K) (n : ℕ) → key_in p.nodes.items n ≡ Some key → segment_of (length parts) (hash key) ≡ i
  own_segment key n is = by (slice_get p.nodes.items n) refl is
    where
      by : (o : Option (Node K V)) → slice_get p.nodes.items n ≡ o → option_map (λ node. node.key) o ≡ Some key → segment_of (length parts) (hash key) ≡ i
      by None e d = absurd (cc d)
      by (Some node) e d = ap (λ k. segment_of (length parts) (hash k)) (sym (one_item d))
          ∙ (ap (segment_of (length parts)) (sym ((well.each i p there).well.hashed n node e)) ∙ (well.each i p there).own n node e)

  -- operations on it still fit
  others : (c : BucketCall K V) → FitsParts eq hash parts c → FitsParts eq hash (set parts i new) c
  others c f = elim (cases_eq (segment_of (length parts) c.hash) i) [
    | inl d ↦ record {
      part = new;
      there = at_segment c.hash ∙ (ap (slice_get (set parts i new)) d ∙ now);
      fits = fits_new (subst (λ x. FitsCall eq hash (memory_at x) x.nodes.items c) (one_item (sym f.there ∙ (ap (slice_get parts) d ∙ there))) f.fits);
    }
    | inr d ↦ record {
      part = f.part;
      there = at_segment c.hash ∙ (get-set-other parts i (segment_of (length parts) c.hash) new d ∙ f.there);
      fits = f.fits;
    }
  ]
    where
      fits_new : FitsCall eq hash (memory_at p) p.nodes.items c → FitsCall eq hash (memory_at new) new.nodes.items c
      fits_new g = subst (λ xs. FitsCall eq hash (memory_at new) xs c) (sym nodes) (record {
        hashed = g.hashed;
        runs = runs_last eq laws hash respects p.nodes.items (memory_at p) (memory_at new) (well.each i p there).well.sound stays.later
            c.operation c.node c.table g.runs;
      })

  others_there : (c : KeysCall) → FitsThere eq hash parts c → FitsThere eq hash (set parts i new) c
  others_there c f = elim (cases_eq c.segment i) [
    | inl d ↦ record {
      part = new;
      there = ap (slice_get (set parts i new)) d ∙ now;
      walks = subst (λ xs. WalksOn eq hash (memory_at new) xs c.table) (sym nodes)
          (walks_last eq laws hash respects p.nodes.items (memory_at p) (memory_at new) (well.each i p there).well.sound stays.later c.table
          (subst (λ x. WalksOn eq hash (memory_at x) x.nodes.items c.table) (one_item (sym f.there ∙ (ap (slice_get parts) d ∙ there))) f.walks));
    }
    | inr d ↦ record { part = f.part; there = get-set-other parts i c.segment new d ∙ f.there; walks = f.walks }
  ]

  others_keys : (c : KeysCall) → FitsKeys eq hash parts c → FitsKeys eq hash (set parts i new) c
  others_keys c (inl f) = inl (others_there c f)
  others_keys c (inr f) = inr (record { absent = let a = f.absent in let l = long in omega (arith, a, l); empty = f.empty })

  others_list : (c : KeysCall) (key : K) → FitsKeys eq hash parts c → ListsIt (set parts i new) c key ↔ ListsIt parts c key
  others_list c key f = lists_as eq hash parts i p new there c key (λ d x n e. ap (λ xs. key_in xs n) nodes)

  others_cover : (c : KeysCall) (key : K) → FitsKeys eq hash parts c → segment_of (length parts) (hash key) ≡ c.segment → IsSome (map_over eq hash parts key) →
      CoversIt eq parts c key → CoversIt eq (set parts i new) c key
  others_cover c key f at has (q, e, covered) = elim (cases_eq c.segment i) [
    | inl d ↦ (new, ap (slice_get (set parts i new)) d ∙ now, mine (ap (slice_get parts) d ∙ there))
    | inr d ↦ (q, get-set-other parts i c.segment new d ∙ e, covered)
  ]
    where
      mine : slice_get parts c.segment ≡ Some p → Covers eq (memory_at new) new.nodes.items key c.table
      mine here =
          let was : IsSome (map_at eq p key) = subst IsSome (ap (λ o. option_map_or (λ x. map_at eq x key) o None) (ap (slice_get parts) at ∙ here)) has in
          subst (λ xs. Covers eq (memory_at new) xs key c.table) (sym nodes)
          (covers_last eq laws hash respects p.nodes.items (memory_at p) (memory_at new) (well.each i p there).well.sound stays.later stays.still_well.sound key
          (λ keys agrees. has_key eq laws hash respects (key_in p.nodes.items) (pair_in p.nodes.items) (memory_at p) key was keys agrees) c.table
          (walks_at eq hash parts c p here f) (subst (λ x. Covers eq (memory_at x) x.nodes.items key c.table) (one_item (sym e ∙ here)) covered))

  after_there : slice_get (set parts i new) after.segment ≡ Some new
  after_there = ap (slice_get (set parts i new)) segment ∙ now

  -- how many steps it has left
  left_after : left_keys first (set parts i new) after ≡ left_in first (peak_at p) (memory_at new) after.table
  left_after = ap (λ o. option_map_or (λ x. left_in first (peak_at x) (memory_at x) after.table) o 0) after_there
      ∙ ap (λ k. left_in first k (memory_at new) after.table) same_peak

  left_before : left_keys first parts before ≡ left_in first (peak_at p) (memory_at p) before.table
  left_before = ap (λ o. option_map_or (λ x. left_in first (peak_at x) (memory_at x) before.table) o 0) there

  -- this step's own
  nears : IfOk gives (λ done. done ≡ false → left_keys first (set parts i new) after < left_keys first parts before)
  nears = by gives leads.lead leads.ended
    where
      at_end : (s t : Step) → is_ended t ≡ false → Falls first (peak_at p) (memory_at p) s (memory_at new) t →
          left_in first (peak_at p) (memory_at new) t < left_in first (peak_at p) (memory_at p) s
      at_end s (Going d) e f = f
      at_end s (Decided x) e f = absurd (false≢true (sym e))

      by : (r : Result Bool AllocError) → IfOk r (λ done. Lead eq hash p.nodes.items first (peak_at p) (memory_at p) before.table (memory_at new) after.table) →
          IfOk r (λ done. done ≡ is_ended after.table) → IfOk r (λ done. done ≡ false → left_keys first (set parts i new) after < left_keys first parts before)
      by (Err x) l e = tt
      by (Ok done) l e = λ is.
          let less = at_end before.table after.table (sym e ∙ is) l.falls in
          let a = left_after in
          let b = left_before in
          omega (arith, a, b, less)

  err : OnErr gives (after ≡ before) → OnErr gives ((after ≡ before) × (left_keys first (set parts i new) after ≡ left_keys first parts before))
  err = by gives leads.err
    where
      by : (r : Result Bool AllocError) → OnErr r ((memory_at new ≡ memory_at p) × (after.table ≡ before.table)) → OnErr r (after ≡ before) →
          OnErr r ((after ≡ before) × (left_keys first (set parts i new) after ≡ left_keys first parts before))
      by (Ok done) e same = tt
      by (Err x) (memory, table) same = (
        same,
        left_after ∙ (ap (λ m. left_in first (peak_at p) m after.table) memory
            ∙ (ap (λ s. left_in first (peak_at p) (memory_at p) s) table ∙ sym left_before)),
      )

  lists : IfOk gives (λ done. (key : K) → ListsIt (set parts i new) after key → ListsIt parts before key ⊎ IsSome (map_over eq hash parts key))
  lists = by gives leads.lead
    where
      by : (r : Result Bool AllocError) → IfOk r (λ done. Lead eq hash p.nodes.items first (peak_at p) (memory_at p) before.table (memory_at new) after.table) →
          IfOk r (λ done. (key : K) → ListsIt (set parts i new) after key → ListsIt parts before key ⊎ IsSome (map_over eq hash parts key))
      by (Err x) l = tt
      by (Ok done) l = λ key (q, at, x, n, e, is).
          let key_is : key_in p.nodes.items n ≡ Some key = subst (λ xs. key_in xs n ≡ Some key) nodes
          (subst (λ y. key_in y.nodes.items n ≡ Some key) (one_item (sym at ∙ after_there)) is) in
          elim (l.lists x n e) [
            | inl was ↦ inl (p, there, was.0, n, was.1, key_is)
            | inr here ↦ inr (subst IsSome (sym (map_here key n key_is)) (here key key_is))
          ]
        where
          map_here : (key : K) (n : ℕ) → key_in p.nodes.items n ≡ Some key → map_over eq hash parts key ≡ map_at eq p key
          map_here key n key_is = ap (λ o. option_map_or (λ x. map_at eq x key) o None) (ap (slice_get parts) (own_segment key n key_is) ∙ there)

  covers : IfOk gives (λ done. (key : K) → segment_of (length parts) (hash key) ≡ before.segment
      → IsSome (map_over eq hash parts key) → CoversIt eq parts before key → CoversIt eq (set parts i new) after key)
  covers = by gives leads.lead
    where
      by : (r : Result Bool AllocError) → IfOk r (λ done. Lead eq hash p.nodes.items first (peak_at p) (memory_at p) before.table (memory_at new) after.table) →
          IfOk r (λ done. (key : K) → segment_of (length parts) (hash key) ≡ before.segment
          → IsSome (map_over eq hash parts key) → CoversIt eq parts before key → CoversIt eq (set parts i new) after key)
      by (Err x) l = tt
      by (Ok done) l = λ key d has (q, at, was).
          let here : IsSome (map_at eq p key) = subst IsSome (ap (λ o. option_map_or (λ x. map_at eq x key) o None) (ap (slice_get parts) d ∙ there)) has in (
            new,
            after_there,
            subst (λ xs. Covers eq (memory_at new) xs key after.table) (sym nodes)
                (l.covers key here (subst (λ y. Covers eq (memory_at y) y.nodes.items key before.table) (one_item (sym at ∙ there)) was)),
          )

  all_nodes : (j : ℕ) → nodes_of (set parts i new) j ≡ nodes_of parts j
  all_nodes j = elim (cases_eq j i) [
    | inl d ↦ ap (λ o. option_map_or (λ x. x.nodes.items) o []) (ap (slice_get (set parts i new)) d ∙ now)
        ∙ (nodes ∙ sym (ap (λ o. option_map_or (λ x. x.nodes.items) o []) (ap (slice_get parts) d ∙ there)))
    | inr d ↦ ap (λ o. option_map_or (λ x. x.nodes.items) o []) (get-set-other parts i j new d)
  ]

  word_here : word_over parts before ≡ word_next (memory_at p) before.table
  word_here = ap (λ o. option_map_or (λ x. word_next (memory_at x) before.table) o None) there

  adds : IfOk gives (λ done. listed_by after.table ≡ carried (listed_by before.table) (word_over parts before) (node_next (word_over parts before)))
  adds = by gives leads.lead
    where
      by : (r : Result Bool AllocError) → IfOk r (λ done. Lead eq hash p.nodes.items first (peak_at p) (memory_at p) before.table (memory_at new) after.table) →
          IfOk r (λ done. listed_by after.table ≡ carried (listed_by before.table) (word_over parts before) (node_next (word_over parts before)))
      by (Err x) l = tt
      by (Ok done) l = l.adds ∙ ap (λ w. carried (listed_by before.table) w (node_next w)) (sym word_here)

  pub walks_over : (same : OnErr gives (after ≡ before)) → WalksOver eq hash first parts most len before gives (set parts i new) after
  walks_over same = record {
    segment = segment;
    well = parts_well;
    long = long;
    map = map_same;
    fits = inl (record { part = new; there = after_there; walks = subst (λ xs. WalksOn eq hash (memory_at new) xs after.table) (sym nodes) stays.still_fits });
    absent = λ past. absurd (never_there parts i past p there);
    ended = leads.ended;
    nears = nears;
    lists = lists;
    covers = covers;
    others = others;
    keys = record { fits = others_keys; lists = others_list; covers = others_cover };
    adds = adds;
    nodes = all_nodes;
    err = err same;
  }
