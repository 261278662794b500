-- Each step of a fitting call lowers what it has left.
use Rattle.std.proofs.Common.{◌≡◌, ◌≢◌, ℕ, ◌+◌, ◌-◌, ◌*◌, ◌<◌, ◌≤◌, Bool, true, false, not, ◌||◌, List, [], ◌∷◌, length, replicate, Option, Some, None, is_some, IsSome, suc, inl, inr, refl, sym, ap, subst, ◌∙◌, arith, ltb, if◌then◌else◌}
use Rattle.std.specs.List.{list_any, slice_get}
use Rattle.std.specs.Option.{option_map_or}
use Rattle.std.proofs.lemmas.Bool.{false≢true, ltb-false}
use Rattle.std.proofs.lemmas.List.{length-replicate}
use Rattle.std.proofs.lemmas.List.Sorted.{length_permutation}
use Rattle.moka_words.specs.declared.words.Word.{Word}
use Rattle.moka_words.specs.declared.words.Word.TheVariants.{Unset, Empty}
use Rattle.moka_words.specs.declared.accesses.Seen.{Seen}
use Rattle.moka_words.specs.declared.accesses.Seen.TheVariants as seen
use Rattle.moka_words.specs.Words.{node_of, stored_in, is_sealed, word_at}
use Rattle.moka_words.specs.Arrays.{bucket_at}
use Rattle.moka_words.specs.Later.{HasOther, HasPassed}
use Rattle.moka_words.specs.Layout.{IsEmptyOrLive, stored_nodes, placed, layout}
use Rattle.moka_words.specs.Effect.{Memory, array_at, array_before, root, words_of, IsUnchanged, SetsWord, Linked, Swings, Effect}
use Rattle.moka_words.proofs.Probes.{each_bucket}
use Rattle.moka_words.proofs.Placing.{stored_within, all_stored, placed_length, layout_is_filled, layout_length, layout_has_all}
use Rattle.moka_growth.specs.declared.kinds.CallKind.{CallKind}
use Rattle.moka_growth.specs.declared.kinds.CallKind.TheVariants as kind
use Rattle.moka_growth.specs.Growing.{seal_of, next_size, pairs_placed, laid_out}
use Rattle.moka_growth.specs.Sound.{IsNext, IsSound}
use Rattle.moka_growth.specs.Calls.{Point, Call, Ending, Step, Going, wanted, next_at, next_of}
use Rattle.moka_growth.specs.Calls as call
use Rattle.moka_growth.specs.Fits.{IsKey, HasBeenRoot, IsProbing, IsSealing, IsCopying, FitsAt, Rests}
use Rattle.moka_growth.specs.Left.{longest, IsShort, word_eq, is_empty, has_no_place, is_behind, hints, from_root, once_grown, left_at, left}
use Rattle.moka_growth.proofs.Places.{root_same, words_same}
use Rattle.moka_growth.proofs.Copying.{rooted_set, unset_is_next, before_words, links_before, links_before_words, set_is_laid, next_has_room, one_more_at}
use Rattle.moka_growth.proofs.Mapped.{bare_is_root}
use Rattle.moka_growth.specs.Turns.{Leads}
use Rattle.moka_growth.proofs.Leading.{root_rooted, passed_more, has_words}
use Rattle.moka_growth.proofs.Exchanging.{bucket_within}
use Rattle.moka_growth.proofs.Weighing.{word_same, key_not_empty, behind_sealed, behind_full, any_at, none_at, grown_here, grown_elsewhere}
use Rattle.moka_growth.proofs.Falling as falling

leads_map : (step : Step) (P Q : Call → Type 0) → ((d : Call) → P d → Q d) → Leads step P (λ e. Unit {0}) → Leads step Q (λ e. Unit {0})
leads_map (Going d) P Q f h = f d h
leads_map (call.Decided e) P Q f h = tt

-- words matter by their arrays alone
left_words : (most times : ℕ) (b : Bool) (r : Option ℕ) (ws vs : ℕ → List Word) (h : ℕ) → ((a : ℕ) → vs a ≡ ws a) → (p : Point) →
    left_at most times b r vs h p ≡ left_at most times b r ws h p
left_words most times b r ws vs h same (call.Root None) = refl
left_words most times b r ws vs h same (call.Root (Some a)) = refl
left_words most times b r ws vs h same (call.Probe a l v) = refl
left_words most times b r ws vs h same (call.Choose a l v w) = refl
left_words most times b r ws vs h same (call.Change a l v from to) =
    ap (λ us. left_at most times b r (λ x. us) h (call.Change a l v from to)) (same a)
left_words most times b r ws vs h same (call.Walk a l i nodes) = refl
left_words most times b r ws vs h same (call.Seal a l i kept) = refl
left_words most times b r ws vs h same (call.Close a l i w x kept) =
    ap (λ us. left_at most times b r (λ x. us) h (call.Close a l i w x kept)) (same a)
left_words most times b r ws vs h same (call.Next array l kept) = refl
left_words most times b r ws vs h same (call.Link array l kept) = refl
left_words most times b r ws vs h same (call.Copy from a i laid) = refl
left_words most times b r ws vs h same (call.Swing from a) = refl

-- where nothing has changed, as much is left
unchanged_left : (first peak : ℕ) (old new : Memory) (d : Call) → IsUnchanged old new → left first peak new d ≡ left first peak old d
unchanged_left first peak old new d stays =
    left_words most times (is_behind d.kind (root new) (words_of new (root new))) (root new) old.words new.words d.hash stays.0 d.point ∙
    (ap (λ ws. left_at most times (is_behind d.kind (root new) ws) (root new) old.words d.hash d.point) (words_same old new stays.0 (root new)) ∙
    ap (λ r. left_at most times (is_behind d.kind r (words_of old r)) r old.words d.hash d.point) (root_same old new stays.1))
  where
    most : ℕ
    most = longest first peak

    times : ℕ
    times = hints d.kind d.spent

-- an array laid out is as long as was asked for
pairs_length : (words : List Word) (ps : List (ℕ × ℕ)) → length (pairs_placed words ps) ≡ length words
pairs_length words [] = refl
pairs_length words (p ∷ ps) = pairs_length (placed (λ n. p.1) words p.0) ps ∙ placed_length (λ n. p.1) words p.0

laid_length : (kept : List (ℕ × ℕ)) (size : ℕ) → length (laid_out kept size) ≡ size
laid_length kept size = pairs_length (replicate size Empty) kept ∙ length-replicate size Empty

-- the next array has room for one more key
next_bigger : (before : Option ℕ) (size stored : ℕ) → stored ≤ size → ((a : ℕ) → before ≡ Some a → 0 < size) →
    (before ≡ None → size ≡ 0) → stored < next_size before size stored
next_bigger None size stored within some none = let is = none refl in omega arith
next_bigger (Some a) size stored within some none = by (ltb (7 * size) (10 * stored)) refl
  where
    by : (b : Bool) → ltb (7 * size) (10 * stored) ≡ b → stored < (if b then 2 * size else size)
    by true e = let above = some a refl in omega arith
    by false e = let below = ltb-false (7 * size) (10 * stored) e in let above = some a refl in omega arith

any_false : (p : Word → Bool) (words : List Word) (i : ℕ) → p Unset ≡ false → list_any p words ≡ false → p (word_at words i) ≡ false
any_false p words i unset none = by (p (word_at words i)) refl
  where
    by : (b : Bool) → p (word_at words i) ≡ b → p (word_at words i) ≡ false
    by true e = absurd (false≢true (sym none ∙ any_at p words i unset e))
    by false e = e

-- an array of empty and live words, not all live, has no sealed word, and an empty one
fresh_root : (k : CallKind) (b : ℕ) (words : List Word) → ((i : ℕ) → i < length words → IsEmptyOrLive (word_at words i)) →
    length (stored_nodes words) < length words → is_behind k (Some b) words ≡ false
fresh_root k b words filled bigger = ap (λ q. q || has_no_place k (Some b) words) none_sealed ∙ by k
  where
    bare : (w : Word) → IsEmptyOrLive w → is_sealed w ≡ false
    bare w (inl e) = ap is_sealed e
    bare w (inr e) = ap is_sealed e.1

    none_sealed : list_any is_sealed words ≡ false
    none_sealed = none_at is_sealed words (λ i h. bare (word_at words i) (filled i h))

    live : (w : Word) → IsEmptyOrLive w → is_empty w ≡ false → IsSome (stored_in w)
    live w (inl e) d = absurd (false≢true (sym d ∙ ap is_empty e))
    live w (inr e) d = ap (λ v. is_some (stored_in v)) e.1

    some_empty : (q : Bool) → list_any is_empty words ≡ q → list_any is_empty words ≡ true
    some_empty true e = e
    some_empty false e =
        let all = all_stored words (λ i h. live (word_at words i) (filled i h) (any_false is_empty words i refl e)) in
        absurd (omega arith)

    by : (k : CallKind) → has_no_place k (Some b) words ≡ false
    by kind.Get = refl
    by kind.Insert = ap not (some_empty (list_any is_empty words) refl)
    by kind.Remove = refl
    by kind.Keys = refl

module _ {hash : ℕ → ℕ} {same : ℕ → ℕ → Bool} {mine own : ℕ → Bool} (c : Call) (key : IsKey hash same mine own c.hash)
    (old new : Memory) (sound : IsSound hash same mine old) (first peak : ℕ) (short : IsShort first peak old) where
  -- what the call had left at a point, and that it has less after a step
  abbrev Had : Point → ℕ
  Had p = left_at (longest first peak) (hints c.kind c.spent) (is_behind c.kind (root old) (words_of old (root old))) (root old)
      old.words c.hash p

  abbrev Falls : Point → Step → Type 0
  Falls p step = Leads step (λ d. left first peak new d < Had p) (λ e. Unit {0})

  -- a sealed word of the root
  shut_behind : (a i : ℕ) → is_sealed (word_at (old.words a) i) ≡ true → root old ≡ Some a →
      is_behind c.kind (root old) (words_of old (root old)) ≡ true
  shut_behind a i e is_root = behind_sealed c.kind (root old) (words_of old (root old)) i
      (ap (λ o. is_sealed (word_at (words_of old o) i)) is_root ∙ e)

  -- no root
  none_behind : root old ≡ None → c.kind ≡ kind.Insert → is_behind c.kind (root old) (words_of old (root old)) ≡ true
  none_behind is_root e = ap (λ k. is_behind k (root old) (words_of old (root old))) e ∙
      ap (λ o. is_behind kind.Insert o (words_of old o)) is_root

  module _ (stays : IsUnchanged old new) where
    from_old : (p : Point) (step : Step) → Leads step (λ d. left first peak old d < Had p) (λ e. Unit {0}) → Falls p step
    from_old p step h = leads_map step (λ d. left first peak old d < Had p) (λ d. left first peak new d < Had p)
        (λ d less. let is = unchanged_left first peak old new d stays in omega arith) h

    root_falls : (met o : Option ℕ) (size t l : ℕ) → o ≡ root old → size ≡ length (words_of old o) →
        Falls (call.Root met) (next_at c (call.Root met) (seen.Root o size t l))
    root_falls met None size t l e size_is = from_old (call.Root met) (next_at c (call.Root met) (seen.Root None size t l))
        (falling.none_lowers (longest first peak) c (root old) (words_of old (root old)) old.words met (sym e) c.kind
        (none_behind (sym e)))
    root_falls met (Some a) size t l e size_is =
        let been = root_rooted old a (sym e) in
        let bound = short.lengths been.place a been.there in
        from_old (call.Root met) (next_at c (call.Root met) (seen.Root (Some a) size t l))
        (falling.root_lowers (longest first peak) c (root old) (words_of old (root old)) old.words met a size t l (omega arith) (sym e))

  module _ (a size v : ℕ) (probing : IsProbing own c.hash old a size v) where
    within : bucket_at size c.hash v < length (old.words a)
    within = subst (λ l. bucket_at size c.hash v < l) probing.size_is (bucket_within size c.hash v probing.more)

    is_short : size ≤ longest first peak
    is_short = let bound = short.lengths probing.rooted.place a probing.rooted.there in let is = probing.size_is in omega arith

    -- all buckets were passed: none is empty
    full_behind : (w : Word) (n : ℕ) → word_at (old.words a) (bucket_at size c.hash v) ≡ w → is_sealed w ≡ false → node_of w ≡ Some n →
        own n ≡ false → size ≤ suc v → c.kind ≡ kind.Insert →
        (root old ≡ Some a) × (is_behind c.kind (root old) (words_of old (root old)) ≡ true)
    full_behind w n there bare e other all k = (
      is_root,
      ap (λ k. is_behind k (root old) (words_of old (root old))) k ∙
          (ap (λ o. is_behind kind.Insert o (words_of old o)) is_root ∙ behind_full a (old.words a) none_empty),
    )
      where
        is_root : root old ≡ Some a
        is_root = bare_is_root old new sound a (bucket_at size c.hash v) probing.rooted within (ap is_sealed there ∙ bare)

        passed_are : HasPassed own (old.words a) c.hash (suc v)
        passed_are = passed_more own (old.words a) c.hash v probing.passed_are
            (subst (λ l. HasOther own (word_at (old.words a) (bucket_at l c.hash v))) probing.size_is
            (subst (λ x. HasOther own x) (sym there) (n, e, other)))

        none_empty : (i : ℕ) → i < length (old.words a) → is_empty (word_at (old.words a) i) ≡ false
        none_empty = each_bucket (λ i. is_empty (word_at (old.words a) i) ≡ false) (length (old.words a)) c.hash
            (λ k h. let is = probing.size_is in let bucket = passed_are k (omega arith) in
            key_not_empty (word_at (old.words a) (bucket_at (length (old.words a)) c.hash k)) bucket.0 bucket.1)

    probe_falls : IsUnchanged old new → (w : Word) (x : ℕ) (s : Bool) → w ≡ word_at (old.words a) (bucket_at size c.hash v) →
        s ≡ option_map_or own (node_of w) false → Falls (call.Probe a size v) (next_at c (call.Probe a size v) (seen.Word w x s))
    probe_falls stays w x s there own_is = from_old stays (call.Probe a size v) (next_at c (call.Probe a size v) (seen.Word w x s))
        (falling.probe_lowers (longest first peak) c (root old) (words_of old (root old)) old.words a size v is_short probing.more w s
        (λ e. rooted_set old sound probing.rooted.place a probing.rooted.before probing.rooted.there (bucket_at size c.hash v) within
        (sym there ∙ e))
        (λ shut. shut_behind a (bucket_at size c.hash v) (ap is_sealed (sym there) ∙ shut))
        (λ bare e n d. full_behind w n (sym there) bare d (sym (ap (λ o. option_map_or own o false) d) ∙ (sym own_is ∙ e))))

    missed_falls : IsUnchanged old new → (from to met : Word) → met ≡ word_at (old.words a) (bucket_at size c.hash v) → met ≢ from →
        Falls (call.Change a size v from to) (next_at c (call.Change a size v from to) (seen.Exchanged (Some met)))
    missed_falls stays from to met there other =
        from_old stays (call.Change a size v from to) (next_at c (call.Change a size v from to) (seen.Exchanged (Some met)))
        (falling.missed_lowers (longest first peak) c (root old) (words_of old (root old)) old.words a size v is_short probing.more from to met
        (λ e. other (there ∙ e)) (λ shut. shut_behind a (bucket_at size c.hash v) (ap is_sealed (sym there) ∙ shut)))

  -- how a call lowers in the new memory, by the new root
  abbrev Grown : Memory → Option ℕ → ℕ
  Grown m array = once_grown (longest first peak) (hints c.kind c.spent) (is_behind c.kind (root m) (words_of m (root m))) (root m) array

  same_grown : root new ≡ root old → words_of new (root new) ≡ words_of old (root old) → (array : Option ℕ) → Grown new array ≡ Grown old array
  same_grown root_is words_are array =
      ap (λ ws. once_grown (longest first peak) (hints c.kind c.spent) (is_behind c.kind (root new) ws) (root new) array) words_are ∙
      ap (λ r. once_grown (longest first peak) (hints c.kind c.spent) (is_behind c.kind r (words_of old (root old))) r array) root_is

  walk_falls : IsUnchanged old new → (a size i : ℕ) (nodes : List ℕ) (w : Word) (x : ℕ) (s : Bool) → HasBeenRoot old a →
      size ≡ length (old.words a) → i < size → w ≡ word_at (old.words a) i →
      Falls (call.Walk a size i nodes) (next_at c (call.Walk a size i nodes) (seen.Word w x s))
  walk_falls stays a size i nodes w x s been size_is more there =
      let bound = short.lengths been.place a been.there in
      from_old stays (call.Walk a size i nodes) (next_at c (call.Walk a size i nodes) (seen.Word w x s))
      (falling.walk_lowers (longest first peak) c (root old) (words_of old (root old)) old.words a size i (omega arith) more nodes w x s
      (λ shut. shut_behind a i (ap is_sealed (sym there) ∙ shut)))

  module _ (a size i : ℕ) (kept : List (ℕ × ℕ)) (sealing : IsSealing hash old a size i kept) where
    seal_short : size ≤ longest first peak
    seal_short = let bound = short.lengths sealing.rooted.place a sealing.rooted.there in let is = sealing.size_is in omega arith

    seal_falls : IsUnchanged old new → (w : Word) (x : ℕ) (s : Bool) → w ≡ word_at (old.words a) i →
        Falls (call.Seal a size i kept) (next_at c (call.Seal a size i kept) (seen.Word w x s))
    seal_falls stays w x s there = from_old stays (call.Seal a size i kept) (next_at c (call.Seal a size i kept) (seen.Word w x s))
        (falling.seal_lowers (longest first peak) c (root old) (words_of old (root old)) old.words a size i seal_short sealing.more kept w x s there)

    close_missed_falls : IsUnchanged old new → (w : Word) (x : ℕ) (met : Word) → met ≡ word_at (old.words a) i → met ≢ w →
        Falls (call.Close a size i w x kept) (next_at c (call.Close a size i w x kept) (seen.Exchanged (Some met)))
    close_missed_falls stays w x met there other =
        from_old stays (call.Close a size i w x kept) (next_at c (call.Close a size i w x kept) (seen.Exchanged (Some met)))
        (falling.close_missed (longest first peak) c (root old) (words_of old (root old)) old.words a size i seal_short sealing.more kept w x
        (λ e. other (there ∙ e)))

    close_falls : (w : Word) (x : ℕ) → is_sealed w ≡ false → word_at (old.words a) i ≡ w → SetsWord a i (seal_of w) old new →
        Falls (call.Close a size i w x kept) (next_at c (call.Close a size i w x kept) (seen.Exchanged None))
    close_falls w x bare there sets =
        falling.sealed_lowers (longest first peak) c (root new) (words_of new (root new)) new.words a size i seal_short sealing.more
        (Had (call.Close a size i w x kept)) (seal_of w) x kept lower
      where
        is_root : root old ≡ Some a
        is_root = bare_is_root old new sound a i sealing.rooted (subst (λ l. i < l) sealing.size_is sealing.more) (ap is_sealed there ∙ bare)

        value : Had (call.Close a size i w x kept) ≡ 2 * (size - i) + 2 + longest first peak + Grown old (Some a)
        value = ap (λ q. (if q then 2 * (size - i) + 2 else 2 * (size - i) + 4) + longest first peak + Grown old (Some a))
            (ap (λ u. word_eq u w) there ∙ word_same w)

        lower : 2 * (size - i) + 2 + longest first peak + Grown new (Some a) ≤ Had (call.Close a size i w x kept)
        lower =
            let is = value in
            let was_here = grown_here (longest first peak) (hints c.kind c.spent) (is_behind c.kind (root old) (words_of old (root old)))
            (root old) (Some a) is_root in
            let is_here = grown_here (longest first peak) (hints c.kind c.spent) (is_behind c.kind (root new) (words_of new (root new)))
            (root new) (Some a) (root_same old new sets.2 ∙ is_root) in
            omega arith

  next_falls : IsUnchanged old new → (array : Option ℕ) (size : ℕ) (kept : List (ℕ × ℕ)) (next : Option ℕ) (k q : ℕ) →
      next ≡ array_at old q → k ≡ length (words_of old next) →
      Falls (call.Next array size kept) (next_at c (call.Next array size kept) (seen.Next next k))
  next_falls stays array size kept None k q there long = from_old stays (call.Next array size kept)
      (next_at c (call.Next array size kept) (seen.Next None k)) (omega arith)
  next_falls stays array size kept (Some b) k q there long =
      let bound = short.lengths q b (sym there) in
      from_old stays (call.Next array size kept) (next_at c (call.Next array size kept) (seen.Next (Some b) k))
      (falling.copies_lower (longest first peak) c (root old) (words_of old (root old)) old.words (Had (call.Next array size kept)) array b k kept
      (omega arith) (laid_length kept k) (omega arith))

  link_falls : (array : Option ℕ) (size : ℕ) (kept : List (ℕ × ℕ)) (next k q : ℕ) → IsShort first peak new →
      (o : Option ℕ) → array_at old q ≡ o → Linked o (next_size array size (length kept)) next k old new →
      Falls (call.Link array size kept) (next_at c (call.Link array size kept) (seen.Linked next k))
  link_falls array size kept next k q short_ (Some b) there linked =
      let bound = short.lengths q b there in
      let long = linked.1 in
      from_old linked.2 (call.Link array size kept) (next_at c (call.Link array size kept) (seen.Linked next k))
      (falling.copies_lower (longest first peak) c (root old) (words_of old (root old)) old.words (Had (call.Link array size kept)) array next k kept
      (omega arith) (laid_length kept k) (omega arith))
  link_falls array size kept next k q short_ None there linked =
      let long : length (new.words old.fresh) ≡ next_size array size (length kept) =
      ap (λ ws. length ws) linked.2.unset ∙ length-replicate (next_size array size (length kept)) Unset in
      let asked = linked.1 in
      let bound = short_.lengths (length old.arrays) old.fresh
      (ap (λ xs. slice_get xs (length old.arrays)) linked.2.arrays ∙ one_more_at old.arrays old.fresh) in
      let same = same_grown root_is words_are array in
      falling.copies_lower (longest first peak) c (root new) (words_of new (root new)) new.words (Had (call.Link array size kept)) array next k kept
      (omega arith) (laid_length kept k) (omega arith)
    where
      root_is : root new ≡ root old
      root_is = ap (λ r. array_before new r) linked.2.rooted ∙
          links_before (next_size array size (length kept)) old new linked.2 old.rooted sound.linked

      words_are : words_of new (root new) ≡ words_of old (root old)
      words_are = ap (words_of new) root_is ∙
          links_before_words (next_size array size (length kept)) old new linked.2 sound.numbered old.rooted

  module _ (from : Option ℕ) (a i : ℕ) (laid : List Word) (copying : IsCopying hash old from a i laid) where
    laid_more : i < length laid
    laid_more =
        let long : length laid ≡ length (old.words a) =
        ap (λ ws. length ws) copying.laid_is ∙ layout_length hash (words_of old from) (length (old.words a)) in
        let more = copying.more in
        omega arith

    copied_falls : word_at (old.words a) i ≡ Unset → SetsWord a i (word_at laid i) old new →
        Falls (call.Copy from a i laid) (next_at c (call.Copy from a i laid) seen.Copied)
    copied_falls unset sets =
        let same = same_grown (root_same old new sets.2)
        (ap (words_of new) (root_same old new sets.2) ∙ before_words old new a sets.1 old.rooted other) from in
        falling.copy_lowers (longest first peak) c (root new) (words_of new (root new)) new.words (Had (call.Copy from a i laid)) from a i laid
        laid_more (omega arith)
      where
        other : (q b : ℕ) → q < old.rooted → array_at old q ≡ Some b → b ≢ a
        other q b h e d =
            let one = sound.one q copying.place b e (copying.there ∙ ap Some (sym d)) in
            let at = unset_is_next old sound copying.place a i copying.left.rooted copying.there copying.more unset in
            absurd (omega arith)

    kept_falls : IsUnchanged old new → Falls (call.Copy from a i laid) (next_at c (call.Copy from a i laid) seen.Copied)
    kept_falls stays = from_old stays (call.Copy from a i laid) (next_at c (call.Copy from a i laid) seen.Copied)
        (falling.copy_lowers (longest first peak) c (root old) (words_of old (root old)) old.words (Had (call.Copy from a i laid)) from a i laid
        laid_more (omega arith))

  -- the new root is laid out afresh
  swung_behind : (a : ℕ) → array_at old old.rooted ≡ Some a → ((i : ℕ) → i < length (old.words a) → word_at (old.words a) i ≢ Unset) →
      Swings old new → is_behind c.kind (root new) (words_of new (root new)) ≡ false
  swung_behind a there set_ swings =
      ap (λ o. is_behind c.kind o (words_of new o)) root_is ∙
      (ap (λ ws. is_behind c.kind (Some a) ws) words_are ∙
      fresh_root c.kind a (layout hash (words_of old (root old)) (length (old.words a))) filled bigger)
    where
      next : IsNext hash (root old) (words_of old (root old)) (old.words a)
      next = sound.follows a there

      root_is : root new ≡ Some a
      root_is = ap (λ r. array_before new r) swings.rooted ∙ (ap (λ xs. slice_get xs old.rooted) swings.arrays ∙ there)

      words_are : new.words a ≡ layout hash (words_of old (root old)) (length (old.words a))
      words_are = swings.words a ∙ set_is_laid (root old) (words_of old (root old)) (old.words a) next set_

      long : length (layout hash (words_of old (root old)) (length (old.words a))) ≡ length (old.words a)
      long = layout_length hash (words_of old (root old)) (length (old.words a))

      filled : (i : ℕ) → i < length (layout hash (words_of old (root old)) (length (old.words a))) →
          IsEmptyOrLive (word_at (layout hash (words_of old (root old)) (length (old.words a))) i)
      filled i h = (layout_is_filled hash (words_of old (root old)) (length (old.words a))).1 i (subst (λ l. i < l) long h)

      some : (o : Option ℕ) → root old ≡ o → (b : ℕ) → o ≡ Some b → 0 < length (words_of old o)
      some None e b d = absurd (cc d)
      some (Some x) e b d = let been = root_rooted old x e in has_words old sound been.place x been.there

      none : (o : Option ℕ) → o ≡ None → length (words_of old o) ≡ 0
      none None e = refl
      none (Some x) e = absurd (cc e)

      bigger : length (stored_nodes (layout hash (words_of old (root old)) (length (old.words a))))
          < length (layout hash (words_of old (root old)) (length (old.words a)))
      bigger =
          let same_count = length_permutation (stored_nodes (words_of old (root old)))
          (stored_nodes (layout hash (words_of old (root old)) (length (old.words a))))
          (layout_has_all hash (words_of old (root old)) (length (old.words a)) (next_has_room old a next)) in
          let more = next_bigger (root old) (length (words_of old (root old))) (length (stored_nodes (words_of old (root old))))
          (stored_within (words_of old (root old))) (some (root old) refl) (none (root old)) in
          let size_is = next.size in
          let is_long = long in
          omega arith

  swung_falls : (from : Option ℕ) (a : ℕ) → root old ≡ from → array_at old old.rooted ≡ Some a →
      ((i : ℕ) → i < length (old.words a) → word_at (old.words a) i ≢ Unset) → Swings old new →
      Falls (call.Swing from a) (next_at c (call.Swing from a) seen.Swung)
  swung_falls from a is_root there set_ swings =
      let here = grown_here (longest first peak) (hints c.kind c.spent) (is_behind c.kind (root old) (words_of old (root old)))
      (root old) from is_root in
      let ahead = ap (from_root (longest first peak) (hints c.kind c.spent)) (swung_behind a there set_ swings) in
      omega arith

  late_falls : (from : Option ℕ) (a : ℕ) → root old ≢ from → IsUnchanged old new →
      Falls (call.Swing from a) (next_at c (call.Swing from a) seen.Swung)
  late_falls from a other stays =
      let elsewhere = grown_elsewhere (longest first peak) (hints c.kind c.spent)
      (is_behind c.kind (root old) (words_of old (root old))) (root old) from other in
      from_old stays (call.Swing from a) (next_at c (call.Swing from a) seen.Swung) (omega arith)

  pub point_falls : IsShort first peak new → (p : Point) (s : Seen) → Rests p → FitsAt hash own c.hash old p →
      Effect hash own (wanted c.hash p) s old new → Falls p (next_at c p s)
  point_falls short_ (call.Root met) (seen.Root o l t k) rests fits e = root_falls e.4 met o l t k e.0 e.1
  point_falls short_ (call.Probe a l v) (seen.Word w x s) rests fits e = probe_falls a l v fits e.3 w x s e.0 e.2
  point_falls short_ (call.Choose a l v w) s rests fits e = absurd rests
  point_falls short_ (call.Change a l v from to) (seen.Exchanged None) rests fits e = tt
  point_falls short_ (call.Change a l v from to) (seen.Exchanged (Some met)) rests fits e =
      missed_falls a l v fits.0 e.2 from to met e.0 e.1
  point_falls short_ (call.Walk a l i nodes) (seen.Word w x s) rests fits e =
      walk_falls e.3 a l i nodes w x s fits.0 fits.1 fits.2 e.0
  point_falls short_ (call.Seal a l i kept) (seen.Word w x s) rests fits e = seal_falls a l i kept fits e.3 w x s e.0
  point_falls short_ (call.Close a l i w x kept) (seen.Exchanged None) rests fits e =
      close_falls a l i kept fits.0 w x fits.1 e.0 e.1
  point_falls short_ (call.Close a l i w x kept) (seen.Exchanged (Some met)) rests fits e =
      close_missed_falls a l i kept fits.0 e.2 w x met e.0 e.1
  point_falls short_ (call.Next array l kept) (seen.Next next k) rests fits e = next_falls e.4 array l kept next k e.0 e.2 e.3
  point_falls short_ (call.Link array l kept) (seen.Linked next k) rests fits e =
      link_falls array l kept next k e.0 short_ (array_at old e.0) refl e.2
  point_falls short_ (call.Copy from a i laid) seen.Copied rests fits (inl e) = copied_falls from a i laid fits e.0 e.1
  point_falls short_ (call.Copy from a i laid) seen.Copied rests fits (inr e) = kept_falls from a i laid fits e.1
  point_falls short_ (call.Swing from a) seen.Swung rests fits (inl e) = swung_falls from a e.0 e.1 fits.set e.2
  point_falls short_ (call.Swing from a) seen.Swung rests fits (inr e) = late_falls from a e.0 e.1
  point_falls short_ p s rests fits e = absurd e
