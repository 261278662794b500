-- What comes of one step of a call that lists keys.
use Rattle.std.proofs.Common.{◌≡◌, ℕ, suc, ◌≤◌, Bool, true, false, nat_eq, nat_lt, List, [], ◌++◌, length, Option, Some, None, IsSome, if◌then◌else◌, inl, inr, refl, sym, ap, subst, ◌∙◌, arith}
use Rattle.std.proofs.lemmas.List.Sorted.{length_permutation}
use Rattle.std.specs.Cmp.{IsEquivalence}
use Rattle.std.specs.Option.{option_eq, option_map_or, option_to_list}
use Rattle.moka_words.specs.Words.{is_sealed, stored_in}
use Rattle.moka_words.specs.declared.accesses.Seen.{Seen}
use Rattle.moka_words.specs.declared.accesses.Seen.TheVariants as seen
use Rattle.moka_words.specs.Effect.{Memory, Effect}
use Rattle.moka_growth.specs.declared.kinds.CallKind.TheVariants as kind
use Rattle.moka_growth.specs.Calls.{Point, Call, Step, Going, Decided, Nodes, access_of, next_at, next_of, goes, is_due, start_of, without_root}
use Rattle.moka_growth.specs.Calls as call
use Rattle.moka_growth.specs.Fits.{Rests}
use Rattle.moka_growth.specs.Maps.{present_nodes, KeepsMap}
use Rattle.moka_growth.specs.Counts.{Recounts, IsCounted}
use Rattle.moka_growth.specs.Listing.{listed, HasKey, ArePresent}
use Rattle.moka_growth.proofs.Listed.{listing_goes_on, listing_ends, listing_lasts, listed_key_goes_on, listed_key_ends, listed_key_lasts}
use Rattle.moka_buckets.specs.declared.node.Node.{Node}
use Rattle.moka_pairs.specs.Keys.{hash_by, same_by, own_by, mine_by}
use Rattle.moka_buckets.specs.Nodes.{key_in, pair_in, Agrees}
use Rattle.moka_buckets.specs.Tables.{IsWell}
use Rattle.moka_buckets.specs.Walks.{IsNoSeek, owns_none, AreNodes, AreOfMap, Covers, Walks, WalksOn, Lead, carried, listed_by, listed_in, node_next, word_next}
use Rattle.moka_buckets.proofs.Carrying.{carries, rest_of}
use Rattle.moka_buckets.proofs.Few.{FewAfter, few_course, few_ended, few_last}
use Rattle.moka_pairs.specs.Segments.{LaterAll, Sees, SoundAll}
use Rattle.moka_pairs.proofs.Names.{agrees_now, is_own, names_keys}
use Rattle.moka_pairs.proofs.Steps.{counted_after, ends_after, falls_after, fits_after, fits_last, keeps_after, later_after, makes, short_after, sound_after}
use Rattle.moka_pairs.proofs.Mapped.{has_key, map_found, map_kept, present_known, present_pair}
use Rattle.moka_buckets.proofs.Known.{are_keys}
use Rattle.moka_buckets.proofs.Turns.{no_choice}

pub seeks_rests : (p : Point) → IsNoSeek p → Rests p
seeks_rests (call.Root met) nay = tt
seeks_rests (call.Probe a l v) nay = absurd nay
seeks_rests (call.Choose a l v w) nay = absurd nay
seeks_rests (call.Change a l v from to) nay = absurd nay
seeks_rests (call.Walk a l i ns) nay = tt
seeks_rests (call.Seal a l i kept) nay = tt
seeks_rests (call.Close a l i w x kept) nay = tt
seeks_rests (call.Next o l kept) nay = tt
seeks_rests (call.Link o l kept) nay = tt
seeks_rests (call.Copy from a i laid) nay = tt
seeks_rests (call.Swing from a) nay = tt

no_item : {A : Type 0} {x : A} → None ≡ Some x → ⊥
no_item e = cc

-- it goes on without a key, or ends with its list
abbrev Course : Step → Type 0
Course (Going d) = (d.kind ≡ kind.Keys) × IsNoSeek d.point
Course (Decided e) = (nodes : List ℕ) × (e ≡ Nodes nodes)

either : (b : Bool) (x y : Step) → Course x → Course y → Course (if b then x else y)
either true x y p q = p
either false x y p q = q

course : (c : Call) → c.kind ≡ kind.Keys → IsNoSeek c.point → (p : Point) → IsNoSeek p → (s : Seen) → Course (next_at c p s)
course c k rest (call.Root met) nay (seen.Root None l t n) = subst (λ x. Course (without_root x c)) (sym k) ([], refl)
course c k rest (call.Root met) nay (seen.Root (Some a) l t n) =
    either (option_eq nat_eq met (Some a)) (goes c (call.Seal a l 0 []))
    (if is_due c.kind c.spent l t n then Going (record c { spent = true; point = call.Seal a l 0 [] }) else goes c (start_of c.kind a l)) (k, tt)
    (either (is_due c.kind c.spent l t n) (Going (record c { spent = true; point = call.Seal a l 0 [] })) (goes c (start_of c.kind a l)) (k, tt)
    (k, subst (λ x. IsNoSeek (start_of x a l)) (sym k) tt))
course c k rest (call.Probe a l v) nay s = absurd nay
course c k rest (call.Choose a l v w) nay s = absurd nay
course c k rest (call.Change a l v from to) nay s = absurd nay
course c k rest (call.Walk a l i ns) nay (seen.Word w h x) = let more = ns ++ option_to_list (stored_in w) in
    either (is_sealed w) (goes c (call.Root (Some a))) (if nat_lt (suc i) l then goes c (call.Walk a l (suc i) more) else Decided (Nodes more)) (k, tt)
    (either (nat_lt (suc i) l) (goes c (call.Walk a l (suc i) more)) (Decided (Nodes more)) (k, tt) (more, refl))
course c k rest (call.Seal a l i kept) nay (seen.Word w h x) =
    either (is_sealed w) (call.sealed c a l i w h kept) (goes c (call.Close a l i w h kept)) (either (nat_lt (suc i) l) _ _ (k, tt) (k, tt)) (k, tt)
course c k rest (call.Close a l i w h kept) nay (seen.Exchanged None) = either (nat_lt (suc i) l) _ _ (k, tt) (k, tt)
course c k rest (call.Close a l i w h kept) nay (seen.Exchanged (Some met)) = (k, tt)
course c k rest (call.Next o l kept) nay (seen.Next None n) = (k, tt)
course c k rest (call.Next o l kept) nay (seen.Next (Some a) n) = either (nat_lt 0 n) _ _ (k, tt) (k, tt)
course c k rest (call.Link o l kept) nay (seen.Linked a n) = either (nat_lt 0 n) _ _ (k, tt) (k, tt)
course c k rest (call.Copy from a i laid) nay seen.Copied = either (nat_lt (suc i) (length laid)) _ _ (k, tt) (k, tt)
course c k rest (call.Swing from a) nay seen.Swung = (k, tt)
course c k rest p nay s = (k, rest)

module _ {K V : Type 0} (eq : K → K → Bool) (laws : IsEquivalence eq) (hash : K → ℕ) (respects : (x y : K) → eq x y ≡ true → hash x ≡ hash y)
    (nodes : List (Node K V)) where
  module _ (first peak : ℕ) (c : Call) (saw : Seen) (old new : Memory) (well : IsWell eq hash old nodes first peak) (walks : Walks eq hash old nodes c)
      (effect : (keys : ℕ → Option K) → Agrees keys nodes → Effect (hash_by hash keys) owns_none (access_of c) saw old new)
      (counts : Recounts (access_of c) saw old new) where
    sees : Sees eq hash (key_in nodes) None c saw old new
    sees = record {
      hashed = λ k e. absurd (no_item e);
      fits = walks.fits;
      effect = effect;
      choice = λ keys agrees. no_choice (hash_by hash keys) owns_none c.hash old new c.point saw (seeks_rests c.point walks.seeks) (effect keys agrees);
    }

    pub sound_led : SoundAll eq hash (key_in nodes) new
    sound_led = sound_after eq laws hash respects (key_in nodes) None c saw old new well.sound sees

    counted : IsCounted new
    counted = counted_after eq laws hash respects (key_in nodes) None c saw old new well.sound sees counts well.counted

    same_count : KeepsMap old new → new.len ≡ old.len
    same_count keeps = counted ∙ (length_permutation (present_nodes old) (present_nodes new) keeps ∙ sym well.counted)

    well_led : KeepsMap old new → IsWell eq hash new nodes first peak
    well_led keeps =
        let few : length (present_nodes new) ≤ peak = let same = length_permutation (present_nodes old) (present_nodes new) keeps in let keys_few = well.short.keys in omega arith in
        record {
          sound = sound_led;
          hashed = well.hashed;
          counted = counted;
          short = short_after eq laws hash respects (key_in nodes) None c saw old new well.sound sees first peak peak well.short (omega arith) few;
        }

    present_named : (before after : List ℕ) → AreNodes nodes before → ArePresent before after old → AreNodes nodes after
    present_named before after named present x n e = elim (present x n e) [
      | inl was ↦ named was.0 n was.1
      | inr here ↦ present_known eq laws hash respects (key_in nodes) old well.sound n here
    ]

    of_map : (before after : List ℕ) → ArePresent before after old → AreOfMap eq old nodes before after
    of_map before after present x n e = elim (present x n e) [
      | inl was ↦ inl was
      | inr here ↦ inr (λ key is. subst IsSome
          (sym (map_found eq laws hash respects (key_in nodes) (pair_in nodes) old well.sound key (Some n)
          (here, ap (λ k. option_map_or (eq key) k false) is ∙ laws.refl key)))
          (present_pair eq laws hash respects (key_in nodes) (pair_in nodes) (are_keys nodes) old well.sound n here))
    ]

    -- what it has listed then
    adds_by : (mid : Step) → next_of c saw ≡ mid →
        listed_by mid ≡ carried (listed c.point) (word_next old (Going c)) (node_next (word_next old (Going c)))
    adds_by mid is = sym (ap listed_by is)
        ∙ carries old new (hash_by hash (key_in nodes)) owns_none c walks.kind c.point (rest_of c.point) walks.seeks saw (effect (key_in nodes) (agrees_now (key_in nodes)))

    -- it goes on
    on : (d : Call) → next_of c saw ≡ Going d → Course (Going d) → Lead eq hash nodes first peak old (Going c) new (Going d)
    on d is at =
        let now = key_in nodes in
        let keeps = keeps_after eq laws hash respects (key_in nodes) None c saw old new well.sound sees d is in
        let present = (listing_goes_on (hash_by hash now) (same_by eq now) (mine_by now) owns_none c d saw old new (makes eq laws hash respects (key_in nodes) None c saw old new well.sound sees now (agrees_now now)) (walks.lists now (agrees_now (key_in nodes))) is).1 in
        record {
          well = well_led keeps;
          map = map_kept eq laws hash respects (key_in nodes) (pair_in nodes) old new sound_led keeps;
          count = same_count keeps;
          walks = record {
            kind = at.0;
            seeks = at.1;
            fits = fits_after eq laws hash respects (key_in nodes) None c saw old new well.sound sees d is;
            lists = λ keys agrees. (listing_goes_on (hash_by hash keys) (same_by eq keys) (mine_by keys) owns_none c d saw old new (makes eq laws hash respects (key_in nodes) None c saw old new well.sound sees keys agrees)
                (walks.lists keys agrees) is).0;
            named = present_named (listed c.point) (listed d.point) walks.named present;
            few = subst (λ s. FewAfter c.point s) is (few_course c walks.kind walks.few c.point walks.seeks walks.few saw);
          };
          falls = (falls_after eq laws hash respects (key_in nodes) None c saw old new well.sound sees first peak d well.short is).0
              (seeks_rests c.point walks.seeks);
          lists = of_map (listed c.point) (listed d.point) present;
          covers = λ key has covers keys agrees.
              listed_key_goes_on (hash_by hash keys) (same_by eq keys) (mine_by keys) owns_none (own_by eq keys key) c d saw old new (makes eq laws hash respects (key_in nodes) None c saw old new well.sound sees keys agrees)
              (is_own eq laws hash respects key keys) (has_key eq laws hash respects (key_in nodes) (pair_in nodes) old key has keys agrees) (covers keys agrees) is;
          later = later_after eq laws hash respects (key_in nodes) None c saw old new well.sound sees;
          adds = adds_by (Going d) is;
        }

    -- it ends with its list
    off : (ns : List ℕ) → next_of c saw ≡ Decided (Nodes ns) → Lead eq hash nodes first peak old (Going c) new (Decided (Nodes ns))
    off ns is =
        let now = key_in nodes in
        let keeps : KeepsMap old new = ends_after eq laws hash respects (key_in nodes) None c saw old new well.sound sees (Nodes ns) is in
        let ends = listing_ends (hash_by hash now) (same_by eq now) (mine_by now) owns_none c ns saw old new (makes eq laws hash respects (key_in nodes) None c saw old new well.sound sees now (agrees_now now)) (walks.lists now (agrees_now (key_in nodes))) is in
        record {
          well = well_led keeps;
          map = map_kept eq laws hash respects (key_in nodes) (pair_in nodes) old new sound_led keeps;
          count = same_count keeps;
          walks = record {
            differ = ends.0;
            named = present_named (listed c.point) ns walks.named ends.1;
            few = few_last old new ns (well.sound now (agrees_now (key_in nodes)))
                (later_after eq laws hash respects (key_in nodes) None c saw old new well.sound sees now (agrees_now now))
                (few_ended (hash_by hash now) owns_none c.hash old c.point ns (walks.fits now (agrees_now (key_in nodes)))
                (subst (λ s. FewAfter c.point s) is (few_course c walks.kind walks.few c.point walks.seeks walks.few saw)));
          };
          falls = tt;
          lists = of_map (listed c.point) ns ends.1;
          covers = λ key has covers.
              listed_key_ends (hash_by hash now) (same_by eq now) (mine_by now) owns_none (own_by eq now key) c ns saw old new (makes eq laws hash respects (key_in nodes) None c saw old new well.sound sees now (agrees_now now))
              (is_own eq laws hash respects key now) (has_key eq laws hash respects (key_in nodes) (pair_in nodes) old key has now (agrees_now (key_in nodes))) (covers now (agrees_now (key_in nodes))) is;
          later = later_after eq laws hash respects (key_in nodes) None c saw old new well.sound sees;
          adds = adds_by (Decided (Nodes ns)) is;
        }

    led_by : (mid : Step) → next_of c saw ≡ mid → Course mid → Lead eq hash nodes first peak old (Going c) new mid
    led_by (Going d) is at = on d is at
    led_by (Decided e) is (ns, ends) =
        subst (λ x. Lead eq hash nodes first peak old (Going c) new (Decided x)) (sym ends) (off ns (is ∙ ap Decided ends))

    -- one step of the call
    pub led : Lead eq hash nodes first peak old (Going c) new (next_of c saw)
    led = led_by (next_of c saw) refl (course c walks.kind walks.seeks c.point walks.seeks saw)

  -- what stays of the calls while others make their steps
  module _ (old new : Memory) (sound : SoundAll eq hash (key_in nodes) old) (later : LaterAll eq (key_in nodes) old new) where
    pub walks_last : (step : Step) → WalksOn eq hash old nodes step → WalksOn eq hash new nodes step
    walks_last (Decided e) w = record {
      differ = w.differ;
      named = w.named;
      few = few_last old new (listed_in e) (sound (key_in nodes) (agrees_now (key_in nodes))) (later (key_in nodes) (agrees_now (key_in nodes))) w.few;
    }
    walks_last (Going c) w = record {
      kind = w.kind;
      seeks = w.seeks;
      fits = fits_last eq laws hash respects (key_in nodes) None c old new sound later (λ k e. absurd (no_item e)) (seeks_rests c.point w.seeks) w.fits;
      lists = λ keys agrees.
          listing_lasts (hash_by hash keys) (same_by eq keys) (mine_by keys) owns_none c old new (names_keys eq laws hash respects keys) (sound keys agrees)
          (later keys agrees) (w.fits keys agrees) (w.lists keys agrees);
      named = w.named;
      few = w.few;
    }

    pub covers_last : SoundAll eq hash (key_in nodes) new → (key : K) → ((keys : ℕ → Option K) → Agrees keys nodes → HasKey (own_by eq keys key) old) →
        (step : Step) → WalksOn eq hash old nodes step →
        Covers eq old nodes key step → Covers eq new nodes key step
    covers_last sound_new key has (Decided e) w covers = covers
    covers_last sound_new key has (Going c) w covers = λ keys agrees.
        listed_key_lasts (hash_by hash keys) (same_by eq keys) (mine_by keys) owns_none (own_by eq keys key) c old new (is_own eq laws hash respects key keys)
        (sound keys agrees) (sound_new keys agrees) (later keys agrees) (w.fits keys agrees) (has keys agrees) (covers keys agrees)
