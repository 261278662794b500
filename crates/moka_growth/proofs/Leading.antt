-- How a call goes on, or ends, after its access.
use Rattle.std.proofs.Common.{◌≡◌, ◌≢◌, ℕ, ◌<◌, ◌≤◌, Bool, true, false, List, [], ◌++◌, take, length, Option, Some, None, zero, suc, inl, inr, refl, sym, ap, subst, ◌∙◌, arith, ltb, eqb, if◌then◌else◌}
use Rattle.std.specs.List.{slice_get}
use Rattle.std.specs.Option.{option_eq, option_map, option_map_or, option_to_list}
use Rattle.std.proofs.lemmas.Bool.{cases_lt, ltb-true, ltb-false}
use Rattle.std.proofs.lemmas.Nat.{pow_pos}
use Rattle.std.proofs.lemmas.List.{get_or-set_same, length-replicate, take_all}
use Rattle.std.proofs.lemmas.Option.{slice_get_within, slice_get-get_or}
use Rattle.moka_words.specs.declared.words.Word.{Word}
use Rattle.moka_words.specs.declared.words.Word.TheVariants.{Unset, Empty, Live, Tomb, SealedEmpty, SealedLive, SealedTomb}
use Rattle.moka_words.specs.declared.accesses.Choice.{Choice}
use Rattle.moka_words.specs.declared.accesses.Choice.TheVariants as choice
use Rattle.moka_words.specs.declared.accesses.Seen.{Seen}
use Rattle.moka_words.specs.declared.accesses.Seen.TheVariants as seen
use Rattle.moka_words.specs.Words.{node_of, stored_in, is_sealed, word_at, NamesKeys}
use Rattle.moka_words.specs.Arrays.{bucket_at}
use Rattle.moka_words.specs.Later.{HasOther, HasPassed, IsAbsent}
use Rattle.moka_words.specs.Layout.{IsEmptyOrLive, IsStored, stored_nodes, layout}
use Rattle.moka_words.specs.Effect.{Memory, array_at, array_before, root, words_of, StandsBefore, IsUnchanged, SetsWord, Linked, Effect, LaterMemory}
use Rattle.moka_words.proofs.Effects.{unchanged_later}
use Rattle.moka_words.proofs.Placing.{layout_is_filled, layout_length}
use Rattle.moka_growth.specs.declared.kinds.CallKind.{CallKind}
use Rattle.moka_growth.specs.declared.kinds.CallKind.TheVariants as kind
use Rattle.moka_growth.specs.Growing.{seal_of, next_size, with_hashes, laid_out}
use Rattle.moka_growth.specs.Sound.{IsRoot, IsSound}
use Rattle.moka_growth.specs.Calls.{Point, Call, Ending, Step, Going, Decided, Kept, Changed, Nodes, wanted, without_root, in_root, is_due, start_of, past_all, past, absent, present, probed, removed, chosen, missed, walked, sealed, copies, next_at, goes}
use Rattle.moka_growth.specs.Calls as call
use Rattle.moka_growth.specs.Fits.{IsKey, HasBeenRoot, IsProbing, IsChange, IsOpen, IsSealing, IsLeft, IsKept, IsCopying, FitsAt, Rests}
use Rattle.moka_growth.specs.Maps.{Finds, Ends, IsChoice}
use Rattle.moka_growth.specs.Turns.{Leads}
use Rattle.moka_growth.proofs.Places.{no_number}
use Rattle.moka_growth.proofs.Exchanging.{bucket_within, root_absent, seal_sealed, seal_node, change_bare}
use Rattle.moka_growth.proofs.Copying.{rooted_set, one_more_at}
use Rattle.moka_growth.proofs.Accessing.{bare_root, left_at}
use Rattle.moka_growth.proofs.Lasts.{point_lasts, left_lasts}
use Rattle.moka_growth.proofs.Storing.{kept_next, laid_is_layout}
use Rattle.moka_growth.proofs.Mapped.{unchanged_map, bare_is_root, set_root_words}
use Rattle.moka_growth.proofs.Finding.{finds_root, finds_here, absent_in, change_open, changes}

-- the root has been root
pub root_rooted : (m : Memory) (a : ℕ) → root m ≡ Some a → HasBeenRoot m a
root_rooted m a e = by m.rooted refl e
  where
    by : (r : ℕ) → r ≡ m.rooted → array_before m r ≡ Some a → HasBeenRoot m a
    by zero d e = absurd (cc e)
    by (suc p) d e = record { place = p; before = omega arith; there = e }

-- an array has a word
pub has_words : {hash : ℕ → ℕ} {same : ℕ → ℕ → Bool} {mine : ℕ → Bool} (m : Memory) → IsSound hash same mine m → (p a : ℕ) →
    array_at m p ≡ Some a → 0 < length (m.words a)
has_words m sound p a e = let power = sound.power p a e in let above = pow_pos power.0 in let is = power.1 in omega arith

pub open_bare : (own : ℕ → Bool) (w : Word) → IsOpen own w → is_sealed w ≡ false
open_bare own Unset h = absurd h
open_bare own Empty h = refl
open_bare own (Live n) h = refl
open_bare own (Tomb n) h = refl
open_bare own SealedEmpty h = absurd h
open_bare own (SealedLive n) h = absurd h
open_bare own (SealedTomb n) h = absurd h

pub passed_more : (own : ℕ → Bool) (words : List Word) (h v : ℕ) → HasPassed own words h v →
    HasOther own (word_at words (bucket_at (length words) h v)) → HasPassed own words h (suc v)
passed_more own words h v passed_are other k below = elim (cases_lt k v) [
  | inl before ↦ passed_are k before
  | inr last ↦ let here : k ≡ v = omega arith in
      subst (λ x. HasOther own (word_at words (bucket_at (length words) h x))) (sym here) other
]

module _ {hash : ℕ → ℕ} {same : ℕ → ℕ → Bool} {mine own : ℕ → Bool} (names : NamesKeys hash same) (c : Call)
    (key : IsKey hash same mine own c.hash) (old new : Memory) (sound : IsSound hash same mine old) where
  -- a call that goes on fits, and one that ends does so by the map
  abbrev Good : Point → Step → Type 0
  Good p step = Leads step (λ d. FitsAt hash own d.hash new d.point) (λ e. Ends own p e old new)

  module _ (stays : IsUnchanged old new) where
    lasts : (p : Point) → Rests p → FitsAt hash own c.hash old p → FitsAt hash own c.hash new p
    lasts p = point_lasts same key old new sound (unchanged_later same names old new stays) p

    seal_start : (a size : ℕ) → HasBeenRoot old a → size ≡ length (old.words a) → FitsAt hash own c.hash new (call.Seal a size 0 [])
    seal_start a size r size_is = let some = has_words old sound r.place a r.there in
        lasts (call.Seal a size 0 []) tt
        (record { rooted = r; size_is = size_is; more = omega arith; sealed = λ k h. absurd (omega arith); kept_are = refl })

    starts : (k : CallKind) (a size : ℕ) → HasBeenRoot old a → size ≡ length (old.words a) →
        FitsAt hash own c.hash new (start_of k a size)
    starts k a size r size_is = by k
      where
        some : 0 < size
        some = let some = has_words old sound r.place a r.there in omega arith

        probe : FitsAt hash own c.hash new (call.Probe a size 0)
        probe = lasts (call.Probe a size 0) tt
            (record { rooted = r; size_is = size_is; passed_are = λ k h. absurd (omega arith); more = some })

        by : (k : CallKind) → FitsAt hash own c.hash new (start_of k a size)
        by kind.Get = probe
        by kind.Insert = probe
        by kind.Remove = probe
        by kind.Keys = lasts (call.Walk a size 0 []) tt (r, size_is, some)

    none_found : None ≡ root old → Finds own old None
    none_found e n p = absurd (cc (subst (λ r. IsStored (words_of old r) n) (sym e) p).1)

    root_leads : (met o : Option ℕ) (size t k : ℕ) → o ≡ root old → size ≡ length (words_of old o) →
        Good (call.Root met) (next_at c (call.Root met) (seen.Root o size t k))
    root_leads met None size t k e size_is = by c.kind
      where
        by : (k : CallKind) → Good (call.Root met) (without_root k c)
        by kind.Get = (none_found e, unchanged_map old new stays)
        by kind.Insert = record {
          place = 0;
          left = record {
            stands = record { there = refl; within = omega arith };
            rooted = omega arith;
            sealed = λ i h. absurd (omega arith);
          };
          size_is = refl;
          kept_are = refl;
        }
        by kind.Remove = (none_found e, unchanged_map old new stays)
        by kind.Keys = unchanged_map old new stays
    root_leads met (Some a) size t k e size_is = by (option_eq eqb met (Some a)) (is_due c.kind c.spent size t k)
      where
        r : HasBeenRoot old a
        r = root_rooted old a (sym e)

        by : (b d : Bool) → Good (call.Root met)
            (if b then goes c (call.Seal a size 0 [])
            else (if d then Going (record c { spent = true; point = call.Seal a size 0 [] }) else goes c (start_of c.kind a size)))
        by true d = seal_start a size r size_is
        by false true = seal_start a size r size_is
        by false false = starts c.kind a size r size_is

  -- where a call probes
  module _ (a size v : ℕ) (probing : IsProbing own c.hash old a size v) where
    within : bucket_at size c.hash v < length (old.words a)
    within = subst (λ l. bucket_at size c.hash v < l) probing.size_is (bucket_within size c.hash v probing.more)

    more : v < length (old.words a)
    more = subst (λ l. v < l) probing.size_is probing.more

    -- a word that is not sealed is the root's
    array_root : (w : Word) → word_at (old.words a) (bucket_at size c.hash v) ≡ w → is_sealed w ≡ false → IsRoot hash same mine (old.words a)
    array_root w there bare = bare_root names key old new sound a (bucket_at size c.hash v) probing.rooted within (ap is_sealed there ∙ bare)

    is_root : (w : Word) → word_at (old.words a) (bucket_at size c.hash v) ≡ w → is_sealed w ≡ false → root old ≡ Some a
    is_root w there bare = bare_is_root old new sound a (bucket_at size c.hash v) probing.rooted within (ap is_sealed there ∙ bare)

    no_key_absent : (w : Word) → word_at (old.words a) (bucket_at size c.hash v) ≡ w → is_sealed w ≡ false → node_of w ≡ None →
        IsAbsent own (old.words a)
    no_key_absent w there bare free = root_absent names key (old.words a) (array_root w there bare) v probing.passed_are
        (λ h. subst (λ l. node_of (word_at (old.words a) (bucket_at l c.hash v)) ≡ None) probing.size_is (ap node_of there ∙ free))

    finds_at : (w : Word) → word_at (old.words a) (bucket_at size c.hash v) ≡ w → IsOpen own w → Finds own old (stored_in w)
    finds_at w there opens =
        let bare = open_bare own w opens in
        finds_root own old a (is_root w there bare) (stored_in w)
        (finds_here key.one (old.words a) (array_root w there bare).array (bucket_at size c.hash v) w there opens
        (λ e. no_key_absent w there bare (ap node_of e)))

    -- a change that was made
    change_leads : (from to : Word) → IsChange own from to → word_at (old.words a) (bucket_at size c.hash v) ≡ from →
        SetsWord a (bucket_at size c.hash v) to old new → Good (call.Change a size v from to) (Decided (Changed (stored_in from)))
    change_leads from to change there sets =
        let bare = change_bare own from to change in
        let rooted = is_root from there bare in (
          finds_at from there (change_open own from to change),
          changes key.one (old.words a) (array_root from there bare).array (bucket_at size c.hash v) from to within there change
              (λ e. no_key_absent from there bare (ap node_of e)) old new (ap (words_of old) rooted)
              (set_root_words old new sound a (bucket_at size c.hash v) to rooted sets),
        )

    module _ (stays : IsUnchanged old new) where
      met_leads : (w : Word) → word_at (old.words a) (bucket_at size c.hash v) ≡ w → is_sealed w ≡ true →
          FitsAt hash own c.hash new (call.Root (Some a))
      met_leads w there shut = lasts stays (call.Root (Some a)) tt
          (record { rooted = probing.rooted; index = bucket_at size c.hash v; sealed = ap is_sealed there ∙ shut })

      past_leads : (p : Point) (w : Word) → word_at (old.words a) (bucket_at size c.hash v) ≡ w → is_sealed w ≡ false → HasOther own w →
          Good p (past c a size v)
      past_leads p w there bare other = by (ltb (suc v) size) refl
        where
          passed_are : HasPassed own (old.words a) c.hash (suc v)
          passed_are = passed_more own (old.words a) c.hash v probing.passed_are
              (subst (λ l. HasOther own (word_at (old.words a) (bucket_at l c.hash v))) probing.size_is
              (subst (λ x. HasOther own x) (sym there) other))

          none : size ≤ suc v → Finds own old None
          none all = finds_root own old a (is_root w there bare) None (absent_in own (old.words a)
              (root_absent names key (old.words a) (array_root w there bare) (suc v) passed_are
              (λ h. let long = probing.size_is in absurd (omega arith))))

          ends : (k : CallKind) → size ≤ suc v → Good p (past_all k c a size)
          ends kind.Get all = (none all, unchanged_map old new stays)
          ends kind.Insert all = seal_start stays a size probing.rooted probing.size_is
          ends kind.Remove all = (none all, unchanged_map old new stays)
          ends kind.Keys all = (none all, unchanged_map old new stays)

          by : (b : Bool) → ltb (suc v) size ≡ b →
              Good p (if b then goes c (call.Probe a size (suc v)) else past_all c.kind c a size)
          by true e = lasts stays (call.Probe a size (suc v)) tt
              (record { rooted = probing.rooted; size_is = probing.size_is; passed_are = passed_are; more = ltb-true (suc v) size e })
          by false e = ends c.kind (ltb-false (suc v) size e)

      choose_fits : (w : Word) → word_at (old.words a) (bucket_at size c.hash v) ≡ w → IsOpen own w →
          FitsAt hash own c.hash new (call.Choose a size v w)
      choose_fits w there opens = (
        lasts stays (call.Probe a size v) tt probing,
        opens,
        ap (λ ws. word_at ws (bucket_at size c.hash v)) (stays.0 a) ∙ there,
      )

      absent_leads : (p : Point) (w : Word) → word_at (old.words a) (bucket_at size c.hash v) ≡ w → IsOpen own w → Finds own old None →
          (k : CallKind) → Good p (absent k c a size v w)
      absent_leads p w there opens none kind.Get = (none, unchanged_map old new stays)
      absent_leads p w there opens none kind.Insert = choose_fits w there opens
      absent_leads p w there opens none kind.Remove = (none, unchanged_map old new stays)
      absent_leads p w there opens none kind.Keys = (none, unchanged_map old new stays)

      present_leads : (p : Point) (n : ℕ) → word_at (old.words a) (bucket_at size c.hash v) ≡ Live n → own n ≡ true →
          (k : CallKind) → Good p (present k c a size v n)
      present_leads p n there o kind.Get = (finds_at (Live n) there o, unchanged_map old new stays)
      present_leads p n there o kind.Insert = choose_fits (Live n) there o
      present_leads p n there o kind.Remove = choose_fits (Live n) there o
      present_leads p n there o kind.Keys = (finds_at (Live n) there o, unchanged_map old new stays)

      probe_leads : (w : Word) (s : Bool) → word_at (old.words a) (bucket_at size c.hash v) ≡ w → s ≡ option_map_or own (node_of w) false →
          Good (call.Probe a size v) (probed c a size v w s)
      probe_leads Unset s there e =
          absurd (rooted_set old sound probing.rooted.place a probing.rooted.before probing.rooted.there (bucket_at size c.hash v) within there)
      probe_leads Empty s there e = absent_leads (call.Probe a size v) Empty there tt (finds_at Empty there tt) c.kind
      probe_leads (Live n) true there e = present_leads (call.Probe a size v) n there (sym e) c.kind
      probe_leads (Live n) false there e = past_leads (call.Probe a size v) (Live n) there refl (n, refl, sym e)
      probe_leads (Tomb n) true there e =
          absent_leads (call.Probe a size v) (Tomb n) there (sym e) (finds_at (Tomb n) there (sym e)) c.kind
      probe_leads (Tomb n) false there e = past_leads (call.Probe a size v) (Tomb n) there refl (n, refl, sym e)
      probe_leads SealedEmpty s there e = met_leads SealedEmpty there refl
      probe_leads (SealedLive n) s there e = met_leads (SealedLive n) there refl
      probe_leads (SealedTomb n) s there e = met_leads (SealedTomb n) there refl

      removed_leads : (w : Word) → word_at (old.words a) (bucket_at size c.hash v) ≡ w → IsOpen own w →
          Good (call.Choose a size v w) (removed c a size v w)
      removed_leads Empty there opens = (finds_at Empty there opens, unchanged_map old new stays)
      removed_leads (Live n) there opens = (lasts stays (call.Probe a size v) tt probing, (opens, refl))
      removed_leads (Tomb n) there opens = (finds_at (Tomb n) there opens, unchanged_map old new stays)
      removed_leads w there opens = absurd opens

      put_change : (w : Word) (n : ℕ) → IsOpen own w → own n ≡ true → IsChange own w (Live n)
      put_change Empty n opens o = o
      put_change (Live m) n opens o = (opens, o)
      put_change (Tomb m) n opens o = (opens, o)
      put_change w n opens o = absurd opens

      choose_leads : (w : Word) (x : Choice) → word_at (old.words a) (bucket_at size c.hash v) ≡ w → IsOpen own w →
          IsChoice own (seen.Chosen x) → Good (call.Choose a size v w) (chosen c a size v w x)
      choose_leads w choice.Keep there opens o = (finds_at w there opens, unchanged_map old new stays)
      choose_leads w (choice.Put n) there opens o = (lasts stays (call.Probe a size v) tt probing, put_change w n opens o)
      choose_leads w choice.Remove there opens o = removed_leads w there opens

      missed_leads : (p : Point) (met : Word) → met ≡ word_at (old.words a) (bucket_at size c.hash v) → Good p (missed c a size v met)
      missed_leads p met e = by (is_sealed met) refl
        where
          by : (b : Bool) → is_sealed met ≡ b → Good p (if b then goes c (call.Root (Some a)) else goes c (call.Probe a size v))
          by true shut = met_leads met (sym e) shut
          by false bare = lasts stays (call.Probe a size v) tt probing

  -- where a call lists nodes
  walk_leads : IsUnchanged old new → (a size i : ℕ) (nodes : List ℕ) (w : Word) (x : ℕ) (s : Bool) → HasBeenRoot old a →
      size ≡ length (old.words a) → i < size → w ≡ word_at (old.words a) i →
      Good (call.Walk a size i nodes) (next_at c (call.Walk a size i nodes) (seen.Word w x s))
  walk_leads stays a size i nodes w x s r size_is below e = by (is_sealed w) refl
    where
      goes_on : (b : Bool) (ns : List ℕ) → ltb (suc i) size ≡ b →
          Good (call.Walk a size i nodes) (if b then goes c (call.Walk a size (suc i) ns) else Decided (Nodes ns))
      goes_on true ns d = lasts stays (call.Walk a size (suc i) ns) tt (r, size_is, ltb-true (suc i) size d)
      goes_on false ns d = unchanged_map old new stays

      by : (b : Bool) → is_sealed w ≡ b → Good (call.Walk a size i nodes)
          (if b then goes c (call.Root (Some a)) else walked c a size i (nodes ++ option_to_list (stored_in w)))
      by true shut = lasts stays (call.Root (Some a)) tt (record { rooted = r; index = i; sealed = ap is_sealed (sym e) ∙ shut })
      by false bare = goes_on (ltb (suc i) size) (nodes ++ option_to_list (stored_in w)) refl

  -- a word that a growing call finds sealed, or has sealed
  sealed_leads : (p : Point) (a size i : ℕ) (w : Word) (x : ℕ) (kept : List (ℕ × ℕ)) → IsSealing hash new a size i kept →
      word_at (new.words a) i ≡ w → is_sealed w ≡ true → x ≡ option_map_or hash (node_of w) 0 → Good p (sealed c a size i w x kept)
  sealed_leads p a size i w x kept sealing there shut x_is =
      by (kept ++ option_to_list (option_map (λ n. (n, x)) (stored_in w))) kept_are (ltb (suc i) size) refl
    where
      within : i < length (new.words a)
      within = subst (λ l. i < l) sealing.size_is sealing.more

      kept_are : kept ++ option_to_list (option_map (λ n. (n, x)) (stored_in w)) ≡ with_hashes hash (stored_nodes (take (suc i) (new.words a)))
      kept_are = kept_next hash (new.words a) i w x kept within there x_is sealing.kept_are

      sealed_to : (k : ℕ) → k < suc i → is_sealed (word_at (new.words a) k) ≡ true
      sealed_to k below = elim (cases_lt k i) [
        | inl before ↦ sealing.sealed k before
        | inr last ↦ let here : k ≡ i = omega arith in ap (λ j. is_sealed (word_at (new.words a) j)) here ∙ (ap is_sealed there ∙ shut)
      ]

      by : (ps : List (ℕ × ℕ)) → ps ≡ with_hashes hash (stored_nodes (take (suc i) (new.words a))) → (b : Bool) → ltb (suc i) size ≡ b →
          Good p (if b then goes c (call.Seal a size (suc i) ps) else goes c (call.Next (Some a) size ps))
      by ps are true e = record {
        rooted = sealing.rooted;
        size_is = sealing.size_is;
        more = ltb-true (suc i) size e;
        sealed = sealed_to;
        kept_are = are;
      }
      by ps are false e =
          let all = ltb-false (suc i) size e in
          let size_is = sealing.size_is in
          let rooted = sealing.rooted.before in
          let place = slice_get_within new.arrays sealing.rooted.place a sealing.rooted.there in
          record {
            place = suc sealing.rooted.place;
            left = record {
              stands = record { there = sealing.rooted.there; within = omega arith };
              rooted = omega arith;
              sealed = λ k h. sealed_to k (omega arith);
            };
            size_is = size_is;
            kept_are = are ∙ ap (λ ws. with_hashes hash (stored_nodes ws)) (take_all (suc i) (new.words a) (omega arith));
          }

  seal_leads : IsUnchanged old new → (a size i : ℕ) (kept : List (ℕ × ℕ)) (w : Word) (x : ℕ) (s : Bool) →
      IsSealing hash old a size i kept → w ≡ word_at (old.words a) i → x ≡ option_map_or hash (node_of w) 0 →
      Good (call.Seal a size i kept) (next_at c (call.Seal a size i kept) (seen.Word w x s))
  seal_leads stays a size i kept w x s sealing e x_is = by (is_sealed w) refl
    where
      still : IsSealing hash new a size i kept
      still = lasts stays (call.Seal a size i kept) tt sealing

      by : (b : Bool) → is_sealed w ≡ b → Good (call.Seal a size i kept)
          (if b then sealed c a size i w x kept else goes c (call.Close a size i w x kept))
      by true shut = sealed_leads (call.Seal a size i kept) a size i w x kept still
          (ap (λ ws. word_at ws i) (stays.0 a) ∙ sym e) shut x_is
      by false bare = (still, bare, x_is)

  close_leads : (a size i : ℕ) (w : Word) (x : ℕ) (kept : List (ℕ × ℕ)) → IsSealing hash old a size i kept → is_sealed w ≡ false →
      x ≡ option_map_or hash (node_of w) 0 → SetsWord a i (seal_of w) old new → LaterMemory same old new →
      Good (call.Close a size i w x kept) (sealed c a size i (seal_of w) x kept)
  close_leads a size i w x kept sealing bare x_is sets later =
      sealed_leads (call.Close a size i w x kept) a size i (seal_of w) x kept
      (point_lasts same key old new sound later (call.Seal a size i kept) tt sealing)
      (ap (λ ws. word_at ws i) sets.0 ∙ get_or-set_same (old.words a) i (seal_of w) Unset
      (subst (λ l. i < l) sealing.size_is sealing.more))
      (seal_sealed w)
      (x_is ∙ ap (λ o. option_map_or hash o 0) (sym (seal_node w)))

  -- the array into which a growing call copies
  copies_lead : (p : Point) (place : ℕ) (from : Option ℕ) (b size : ℕ) (kept : List (ℕ × ℕ)) → IsLeft new place from →
      array_at new place ≡ Some b → size ≡ length (new.words b) → kept ≡ with_hashes hash (stored_nodes (words_of new from)) →
      Good p (copies c from b size kept)
  copies_lead p place from b size kept left there size_is kept_are = by (ltb 0 size) refl
    where
      by : (d : Bool) → ltb 0 size ≡ d →
          Good p (if d then goes c (call.Copy from b 0 (laid_out kept size)) else goes c (call.Swing from b))
      by true e =
          let some = ltb-true 0 size e in
          record {
            place = place;
            left = left;
            there = there;
            laid_is = laid_is_layout hash (words_of new from) kept size kept_are ∙ ap (layout hash (words_of new from)) size_is;
            more = omega arith;
            set = λ k h. absurd (omega arith);
          }
      by false e =
          let none = ltb-false 0 size e in
          record { place = place; left = left; there = there; set = λ k h. absurd (omega arith) }

  next_leads : IsUnchanged old new → (array : Option ℕ) (size : ℕ) (kept : List (ℕ × ℕ)) (next : Option ℕ) (k q : ℕ) →
      IsKept hash old array size kept → StandsBefore old q array → next ≡ array_at old q → k ≡ length (words_of old next) →
      Good (call.Next array size kept) (next_at c (call.Next array size kept) (seen.Next next k))
  next_leads stays array size kept None k q is_kept stands e size_is = lasts stays (call.Next array size kept) tt is_kept
  next_leads stays array size kept (Some b) k q is_kept stands e size_is =
      let still : IsKept hash new array size kept = lasts stays (call.Next array size kept) tt is_kept in
      copies_lead (call.Next array size kept) q array b k kept
      (left_lasts same key old new sound (unchanged_later same names old new stays) q array
      (left_at old sound is_kept.place q array is_kept.left stands))
      (ap (λ xs. slice_get xs q) stays.1.arrays ∙ sym e)
      (size_is ∙ ap (λ ws. length ws) (sym (stays.0 b))) still.kept_are

  link_leads : (array : Option ℕ) (size : ℕ) (kept : List (ℕ × ℕ)) (next k q : ℕ) → IsKept hash old array size kept →
      StandsBefore old q array → LaterMemory same old new → (o : Option ℕ) → array_at old q ≡ o →
      Linked o (next_size array size (length kept)) next k old new →
      Good (call.Link array size kept) (copies c array next k kept)
  link_leads array size kept next k q is_kept stands later o there linked = by o there linked
    where
      still : IsKept hash new array size kept
      still = point_lasts same key old new sound later (call.Next array size kept) tt is_kept

      left : IsLeft new q array
      left = left_lasts same key old new sound later q array (left_at old sound is_kept.place q array is_kept.left stands)

      by : (o : Option ℕ) → array_at old q ≡ o → Linked o (next_size array size (length kept)) next k old new →
          Good (call.Link array size kept) (copies c array next k kept)
      by (Some b) d l = copies_lead (call.Link array size kept) q array next k kept left
          (ap (λ xs. slice_get xs q) l.2.1.arrays ∙ (d ∙ ap Some (sym l.0)))
          (l.1 ∙ (ap (λ ws. length ws) (sym (l.2.0 b)) ∙ ap (λ x. length (new.words x)) (sym l.0))) still.kept_are
      by None d l =
          let last : q ≡ length old.arrays = elim (cases_lt q (length old.arrays)) [
            | inl h ↦ absurd (no_number d (slice_get-get_or old.arrays q 0 h))
            | inr h ↦ let within = stands.within in omega arith
          ] in
          copies_lead (call.Link array size kept) q array next k kept left
          (ap (λ r. array_at new r) last ∙ (ap (λ xs. slice_get xs (length old.arrays)) l.2.arrays ∙
          (one_more_at old.arrays old.fresh ∙ ap Some (sym l.0))))
          (l.1 ∙ (sym (length-replicate (next_size array size (length kept)) Unset) ∙
          (ap (λ ws. length ws) (sym l.2.unset) ∙ ap (λ x. length (new.words x)) (sym l.0)))) still.kept_are

  -- a word that was copied, or was set before
  copy_leads : (from : Option ℕ) (a i : ℕ) (laid : List Word) → IsCopying hash old from a i laid → LaterMemory same old new →
      word_at (new.words a) i ≢ Unset →
      Good (call.Copy from a i laid) (next_at c (call.Copy from a i laid) seen.Copied)
  copy_leads from a i laid copying later set_ = by (ltb (suc i) (length laid)) refl
    where
      still : IsCopying hash new from a i laid
      still = point_lasts same key old new sound later (call.Copy from a i laid) tt copying

      long : length laid ≡ length (new.words a)
      long = ap (λ ws. length ws) still.laid_is ∙ layout_length hash (words_of new from) (length (new.words a))

      set_to : (k : ℕ) → k < suc i → word_at (new.words a) k ≢ Unset
      set_to k below = elim (cases_lt k i) [
        | inl before ↦ still.set k before
        | inr last ↦ let here : k ≡ i = omega arith in subst (λ j. word_at (new.words a) j ≢ Unset) (sym here) set_
      ]

      by : (b : Bool) → ltb (suc i) (length laid) ≡ b → Good (call.Copy from a i laid)
          (if b then goes c (call.Copy from a (suc i) laid) else goes c (call.Swing from a))
      by true e =
          let below = ltb-true (suc i) (length laid) e in
          let size_is = long in
          record {
            place = still.place;
            left = still.left;
            there = still.there;
            laid_is = still.laid_is;
            more = omega arith;
            set = set_to;
          }
      by false e =
          let all = ltb-false (suc i) (length laid) e in
          let size_is = long in
          record { place = still.place; left = still.left; there = still.there; set = λ k h. set_to k (omega arith) }

  copied_set : (from : Option ℕ) (a i : ℕ) (laid : List Word) → IsCopying hash old from a i laid → SetsWord a i (word_at laid i) old new →
      word_at (new.words a) i ≢ Unset
  copied_set from a i laid copying sets d = by filled
    where
      is : word_at (layout hash (words_of old from) (length (old.words a))) i ≡ Unset
      is = ap (λ ws. word_at ws i) (sym copying.laid_is) ∙ (sym (ap (λ ws. word_at ws i) sets.0 ∙
          get_or-set_same (old.words a) i (word_at laid i) Unset copying.more) ∙ d)

      filled : IsEmptyOrLive (word_at (layout hash (words_of old from) (length (old.words a))) i)
      filled = (layout_is_filled hash (words_of old from) (length (old.words a))).1 i copying.more

      by : IsEmptyOrLive (word_at (layout hash (words_of old from) (length (old.words a))) i) → ⊥
      by (inl e) = cc (sym e ∙ is)
      by (inr e) = cc (sym e.1 ∙ is)

  pub point_leads : LaterMemory same old new → (p : Point) (s : Seen) → FitsAt hash own c.hash old p →
      Effect hash own (wanted c.hash p) s old new → IsChoice own s → Good p (next_at c p s)
  point_leads later (call.Root met) (seen.Root o l t k) fits e ch = root_leads e.4 met o l t k e.0 e.1
  point_leads later (call.Probe a l v) (seen.Word w x s) fits e ch = probe_leads a l v fits e.3 w s (sym e.0) e.2
  point_leads later (call.Choose a l v w) (seen.Chosen x) fits e ch = choose_leads a l v fits.0 e w x fits.2 fits.1 ch
  point_leads later (call.Change a l v from to) (seen.Exchanged None) fits e ch = change_leads a l v fits.0 from to fits.1 e.0 e.1
  point_leads later (call.Change a l v from to) (seen.Exchanged (Some met)) fits e ch =
      missed_leads a l v fits.0 e.2 (call.Change a l v from to) met e.0
  point_leads later (call.Walk a l i nodes) (seen.Word w x s) fits e ch = walk_leads e.3 a l i nodes w x s fits.0 fits.1 fits.2 e.0
  point_leads later (call.Seal a l i kept) (seen.Word w x s) fits e ch = seal_leads e.3 a l i kept w x s fits e.0 e.1
  point_leads later (call.Close a l i w x kept) (seen.Exchanged None) fits e ch =
      close_leads a l i w x kept fits.0 fits.1 fits.2 e.1 later
  point_leads later (call.Close a l i w x kept) (seen.Exchanged (Some met)) fits e ch =
      lasts e.2 (call.Seal a l i kept) tt fits.0
  point_leads later (call.Next array l kept) (seen.Next next k) fits e ch = next_leads e.4 array l kept next k e.0 fits e.1 e.2 e.3
  point_leads later (call.Link array l kept) (seen.Linked next k) fits e ch =
      link_leads array l kept next k e.0 fits e.1 later (array_at old e.0) refl e.2
  point_leads later (call.Copy from a i laid) seen.Copied fits (inl e) ch =
      copy_leads from a i laid fits later (copied_set from a i laid fits e.1)
  point_leads later (call.Copy from a i laid) seen.Copied fits (inr e) ch =
      copy_leads from a i laid fits later (λ d. e.0 (sym (ap (λ ws. word_at ws i) (e.1.0 a)) ∙ d))
  point_leads later (call.Swing from a) seen.Swung fits e ch = tt
  point_leads later p s fits e ch = absurd e
