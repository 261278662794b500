-- What comes of one step of an operation.
use Rattle.std.proofs.Common.{◌≡◌, ℕ, ◌<◌, ◌≤◌, max, Bool, true, false, cond, List, Option, Some, None, IsSome, refl, sym, ap, subst, ◌∙◌, arith}
use Rattle.std.proofs.lemmas.Bool.{false≢true}
use Rattle.std.specs.Cmp.{IsEquivalence}
use Rattle.std.specs.Option.{option_map, option_map_or}
use Rattle.std.proofs.lemmas.List.Sorted.{IsPermutation-sym, length_permutation}
use Rattle.moka_hist.specs.Tables.{answer_of}
use Rattle.moka_hist.specs.declared.records.Stored.{Stored}
use Rattle.moka_buckets.specs.KeyOps.{MovesKey, key_of}
use Rattle.moka_buckets.specs.declared.key_op.KeyOp.{KeyOp}
use Rattle.moka_hist.specs.declared.tables.TableAnswer.{TableAnswer}
use Rattle.moka_hist.specs.declared.tables.TableTurn.TheVariants as turn
use Rattle.moka_words.specs.declared.words.Word.{Word}
use Rattle.moka_words.specs.declared.words.Word.TheVariants.{Unset, Empty, Live, Tomb, SealedEmpty, SealedLive, SealedTomb}
use Rattle.moka_words.specs.declared.accesses.Choice.{Choice}
use Rattle.moka_words.specs.declared.accesses.Choice.TheVariants as choice
use Rattle.moka_words.specs.declared.accesses.Seen.{Seen}
use Rattle.moka_words.specs.declared.accesses.Seen.TheVariants as seen
use Rattle.moka_words.specs.Words.{stored_in}
use Rattle.moka_words.specs.Effect.{Memory, Effect}
use Rattle.moka_growth.specs.declared.kinds.CallKind.{CallKind}
use Rattle.moka_growth.specs.Calls.{Point, Call, Ending, Step, Going, Decided, wanted, access_of, next_of, goes, chosen, removed}
use Rattle.moka_growth.specs.Calls as call
use Rattle.moka_growth.specs.Fits.{IsOpen, Rests}
use Rattle.moka_growth.specs.Maps.{present_nodes, KeepsMap, ChangesMap, Finds, Ends, IsChoice}
use Rattle.moka_growth.specs.Counts.{Recounts, IsCounted}
use Rattle.moka_growth.specs.Left.{left}
use Rattle.moka_growth.specs.Turns.{Leads}
use Rattle.moka_buckets.specs.declared.node.Node.{Node}
use Rattle.moka_pairs.specs.Keys.{hash_by, own_by}
use Rattle.moka_buckets.specs.Nodes.{key_in, pair_at, pair_in, Agrees}
use Rattle.moka_buckets.specs.Tables.{IsNoWalk, Puts, choose, found_before, found_by, found_loaded, is_look, put_by, map_of, kind_of, IsWell, Runs, RunsOn}
use Rattle.moka_buckets.specs.Putting.{puts_at}
use Rattle.moka_buckets.specs.Steps.{answered, answered_at, asked, turn_by, Turned}
use Rattle.moka_buckets.proofs.Courses.{Comes, ComesTo, Ended, ByChange, ByLook, EndsBy, IsNoChange, answers_found, course}
use Rattle.moka_buckets.proofs.Chosen.{left_by, look_of, look_puts, out_by_choice, out_present, put_by_choice, put_named, stored_pair}
use Rattle.moka_pairs.specs.Segments.{LaterAll, Sees, SoundAll}
use Rattle.moka_pairs.proofs.Names.{agrees_now, hashed_by}
use Rattle.moka_pairs.proofs.Found.{finds_kept}
use Rattle.moka_pairs.proofs.Steps.{sound_after, counted_after, short_after, fits_after, fits_last, keeps_after, ends_after, falls_after, later_after}
use Rattle.moka_pairs.proofs.Mapped.{count_after, count_out, map_after, map_found, map_kept, map_out, present_pair}
use Rattle.moka_buckets.proofs.Known.{are_keys, key_of_pair}

-- a call that rests is answered nothing
pub no_choice : (hash : ℕ → ℕ) (own : ℕ → Bool) (h : ℕ) (old new : Memory) (p : Point) (s : Seen) → Rests p →
    Effect hash own (wanted h p) s old new → IsChoice own s
no_choice hash own h old new (call.Choose a l v w) s rests e = absurd rests
no_choice hash own h old new (call.Root met) (seen.Root a l t k) rests e = tt
no_choice hash own h old new (call.Probe a l v) (seen.Word w x s) rests e = tt
no_choice hash own h old new (call.Change a l v from to) (seen.Exchanged met) rests e = tt
no_choice hash own h old new (call.Walk a l i nodes) (seen.Word w x s) rests e = tt
no_choice hash own h old new (call.Seal a l i kept) (seen.Word w x s) rests e = tt
no_choice hash own h old new (call.Close a l i w x kept) (seen.Exchanged met) rests e = tt
no_choice hash own h old new (call.Next o l kept) (seen.Next next k) rests e = tt
no_choice hash own h old new (call.Link o l kept) (seen.Linked next k) rests e = tt
no_choice hash own h old new (call.Copy from a i laid) seen.Copied rests e = tt
no_choice hash own h old new (call.Swing from a) seen.Swung rests e = tt
no_choice hash own h old new p s rests e = absurd e

answered_at_rest : (f : Option ℕ → Choice) (d : Call) (p : Point) → Rests p → answered_at f d p ≡ Going d
answered_at_rest f d (call.Choose a l v w) rests = absurd rests
answered_at_rest f d (call.Root met) rests = refl
answered_at_rest f d (call.Probe a l v) rests = refl
answered_at_rest f d (call.Change a l v from to) rests = refl
answered_at_rest f d (call.Walk a l i nodes) rests = refl
answered_at_rest f d (call.Seal a l i kept) rests = refl
answered_at_rest f d (call.Close a l i w x kept) rests = refl
answered_at_rest f d (call.Next o l kept) rests = refl
answered_at_rest f d (call.Link o l kept) rests = refl
answered_at_rest f d (call.Copy from a i laid) rests = refl
answered_at_rest f d (call.Swing from a) rests = refl

-- a call that rests where it comes is at no change, and lists nothing
comes_puts : {K V : Type 0} (nodes : List (Node K V)) (o : KeyOp K V) (made found : Option ℕ) (p q : Point) → Rests q → ComesTo found p q →
    Puts nodes o made q × IsNoWalk q
comes_puts nodes o made found p (call.Choose a l v w) rests comes = absurd rests
comes_puts nodes o made found p (call.Change a l v from to) rests comes = absurd comes
comes_puts nodes o made found p (call.Walk a l i ns) rests comes = absurd comes
comes_puts nodes o made found p (call.Root met) rests comes = (tt, tt)
comes_puts nodes o made found p (call.Probe a l v) rests comes = (tt, tt)
comes_puts nodes o made found p (call.Seal a l i kept) rests comes = (tt, tt)
comes_puts nodes o made found p (call.Close a l i w x kept) rests comes = (tt, tt)
comes_puts nodes o made found p (call.Next x l kept) rests comes = (tt, tt)
comes_puts nodes o made found p (call.Link x l kept) rests comes = (tt, tt)
comes_puts nodes o made found p (call.Copy from a i laid) rests comes = (tt, tt)
comes_puts nodes o made found p (call.Swing from a) rests comes = (tt, tt)

-- a call asks what is to be done, or rests
data AtRest (p : Point) : Type 0 where
  Asks : (a l v : ℕ) (w : Word) → p ≡ call.Choose a l v w → AtRest p
  Resting : Rests p → AtRest p

at_rest : (p : Point) → AtRest p
at_rest (call.Choose a l v w) = Asks a l v w refl
at_rest (call.Root met) = Resting tt
at_rest (call.Probe a l v) = Resting tt
at_rest (call.Change a l v from to) = Resting tt
at_rest (call.Walk a l i nodes) = Resting tt
at_rest (call.Seal a l i kept) = Resting tt
at_rest (call.Close a l i w x kept) = Resting tt
at_rest (call.Next o l kept) = Resting tt
at_rest (call.Link o l kept) = Resting tt
at_rest (call.Copy from a i laid) = Resting tt
at_rest (call.Swing from a) = Resting tt

is_going : {K V : Type 0} {answer : TableAnswer K V} → turn.Decided answer ≡ turn.Going → ⊥
is_going e = cc

-- the node of the pair that is to be stored has the call's key
own_stored : {K V : Type 0} (eq : K → K → Bool) → IsEquivalence eq → (nodes : List (Node K V)) (key : K) (stored : Stored V) (n : ℕ) →
    pair_at nodes (Some n) ≡ Some (key, stored) → (keys : ℕ → Option K) → Agrees keys nodes → own_by eq keys key n ≡ true
own_stored eq laws nodes key stored n filled keys agrees =
    ap (λ k. option_map_or (eq key) k false) (agrees n key (key_of_pair nodes n key stored filled)) ∙ laws.refl key

-- an operation's call that fits a memory fits each later one
pub runs_last : {K V : Type 0} (eq : K → K → Bool) → IsEquivalence eq → (hash : K → ℕ) → ((x y : K) → eq x y ≡ true → hash x ≡ hash y) →
    (nodes : List (Node K V)) (old new : Memory) → SoundAll eq hash (key_in nodes) old → LaterAll eq (key_in nodes) old new →
    (o : KeyOp K V) (stored : Option ℕ) (step : Step) → RunsOn eq hash old nodes o stored step → RunsOn eq hash new nodes o stored step
runs_last eq laws hash respects nodes old new sound later o stored (Decided e) r = r
runs_last eq laws hash respects nodes old new sound later o stored (Going d) r = record {
  kind = r.kind;
  hashed = r.hashed;
  fits = fits_last eq laws hash respects (key_in nodes) (Some (key_of o)) d old new sound later (hashed_by hash (key_of o) d r.hashed) r.rests r.fits;
  rests = r.rests;
  walks = r.walks;
  puts = r.puts;
  filled = r.filled;
}

some_word : {v w : Word} → Some v ≡ Some w → v ≡ w
some_word e = cc

no_word : {w : Word} → None ≡ Some w → ⊥
no_word e = cc

module _ {K V : Type 0} (eq : K → K → Bool) (laws : IsEquivalence eq) (hash : K → ℕ)
    (respects : (x y : K) → eq x y ≡ true → hash x ≡ hash y) (nodes : List (Node K V)) (first peak : ℕ)
    (o : KeyOp K V) (stored : Option ℕ) (c : Call) (saw : Seen) (old new : Memory) (well : IsWell eq hash old nodes first peak)
    (runs : Runs eq hash old nodes o stored c)
    (effect : (keys : ℕ → Option K) → Agrees keys nodes → Effect (hash_by hash keys) (own_by eq keys (key_of o)) (access_of c) saw old new)
    (counts : Recounts (access_of c) saw old new) where
  pub sees_of : Sees eq hash (key_in nodes) (Some (key_of o)) c saw old new
  sees_of = record {
    hashed = hashed_by hash (key_of o) c runs.hashed;
    fits = runs.fits;
    effect = effect;
    choice = λ keys agrees. no_choice (hash_by hash keys) (own_by eq keys (key_of o)) c.hash old new c.point saw runs.rests (effect keys agrees);
  }

  counted : IsCounted new
  counted = counted_after eq laws hash respects (key_in nodes) (Some (key_of o)) c saw old new well.sound sees_of counts well.counted

  well_new : (more : ℕ) → peak ≤ more → new.len ≤ more → IsWell eq hash new nodes first more
  well_new more longer few = record {
    sound = sound_after eq laws hash respects (key_in nodes) (Some (key_of o)) c saw old new well.sound sees_of;
    hashed = well.hashed;
    counted = counted;
    short = short_after eq laws hash respects (key_in nodes) (Some (key_of o)) c saw old new well.sound sees_of first peak more well.short longer
        (subst (λ n. n ≤ more) counted few);
  }

  later : LaterAll eq (key_in nodes) old new
  later = later_after eq laws hash respects (key_in nodes) (Some (key_of o)) c saw old new well.sound sees_of

  others : (p : KeyOp K V) (kept : Option ℕ) (other : Step) → RunsOn eq hash old nodes p kept other → RunsOn eq hash new nodes p kept other
  others p kept other r = runs_last eq laws hash respects nodes old new well.sound later p kept other r

  -- where the map is kept the count is
  same_count : KeepsMap old new → new.len ≡ old.len
  same_count keeps = counted ∙ (length_permutation (present_nodes old) (present_nodes new) keeps ∙ sym well.counted)

  kept_moves : KeepsMap old new → MovesKey eq o (map_of eq old nodes) old.len turn.Going (map_of eq new nodes) new.len
  kept_moves keeps = (map_kept eq laws hash respects (key_in nodes) (pair_in nodes) old new (well_new (max peak new.len) (omega arith) (omega arith)).sound keeps, same_count keeps)

  abbrev f : Option ℕ → Choice
  f = choose nodes o stored

  abbrev found : Option ℕ
  found = found_loaded (own_by eq (key_in nodes) (key_of o)) old (access_of c)

  abbrev answers : Option ℕ
  answers = found_by o (own_by eq (key_in nodes) (key_of o)) old (access_of c)

  abbrev Result : Step → Type 0
  Result s = Turned eq hash nodes first peak o stored old (Going c) (turn_by s (answer_of (pair_at nodes answers))) new s

  -- a call that goes on, at rest
  goes_on : (d : Call) → next_of c saw ≡ Going d → d.kind ≡ c.kind → d.hash ≡ c.hash → Rests d.point → IsNoWalk d.point → Puts nodes o stored d.point → Result (Going d)
  goes_on d is same_kind same_hash rests walks puts = record {
    well = well_new;
    moves = kept_moves (keeps_after eq laws hash respects (key_in nodes) (Some (key_of o)) c saw old new well.sound sees_of d is);
    going = λ e. (
      record {
        kind = same_kind ∙ runs.kind;
        hashed = same_hash ∙ runs.hashed;
        fits = fits_after eq laws hash respects (key_in nodes) (Some (key_of o)) c saw old new well.sound sees_of d is;
        rests = rests;
        walks = walks;
        puts = puts;
        filled = runs.filled;
      },
      (falls_after eq laws hash respects (key_in nodes) (Some (key_of o)) c saw old new well.sound sees_of first peak d well.short is).0 runs.rests,
    );
    others = others;
    later = later;
  }

  -- an operation that decides
  decides : (e : Ending) → MovesKey eq o (map_of eq old nodes) old.len (turn.Decided (answer_of (pair_at nodes answers))) (map_of eq new nodes) new.len → Result (Decided e)
  decides e moves = record { well = well_new; moves = moves; going = λ e. absurd (is_going e); others = others; later = later }

  sound_new : SoundAll eq hash (key_in nodes) new
  sound_new = sound_after eq laws hash respects (key_in nodes) (Some (key_of o)) c saw old new well.sound sees_of

  -- the pair under the key is that of the node that is found
  here : (x : Option ℕ) → Finds (own_by eq (key_in nodes) (key_of o)) old x → map_of eq old nodes (key_of o) ≡ pair_at nodes x
  here x finds = map_found eq laws hash respects (key_in nodes) (pair_in nodes) old well.sound (key_of o) x finds

  has_pair : (x : Option ℕ) → Finds (own_by eq (key_in nodes) (key_of o)) old x → IsSome x → IsSome (pair_at nodes x)
  has_pair None finds has = absurd (false≢true has)
  has_pair (Some n) finds has = present_pair eq laws hash respects (key_in nodes) (pair_in nodes) (are_keys nodes) old well.sound n finds.0

  -- it leaves what it found
  leaves : (e : Ending) (x : Option ℕ) → (puts_at o x ≡ true → IsSome stored) → answers ≡ cond (is_look o) x None → f x ≡ choice.Keep →
      Finds (own_by eq (key_in nodes) (key_of o)) old x → KeepsMap old new → Result (Decided e)
  leaves e x named is keep finds keeps =
      let (said, stays, count) = left_by nodes eq (map_of eq old nodes) old.len o stored x named keep (here x finds) (has_pair x finds) in
      decides e (
        ap (λ n. answer_of (pair_at nodes n)) is ∙ ap answer_of (sym said),
        λ q. map_kept eq laws hash respects (key_in nodes) (pair_in nodes) old new sound_new keeps q ∙ sym (stays q),
        same_count keeps ∙ sym count,
      )

  by_look : (e : Ending) → next_of c saw ≡ Decided e → IsNoChange c.point → EndsBy (kind_of o) found e → Result (Decided e)
  by_look e is nay ends =
      let (x, kept, keep, same) = look_of nodes o stored found e ends in
      let both : Ends (own_by eq (key_in nodes) (key_of o)) c.point (call.Kept x) old new =
      subst (λ y. Ends (own_by eq (key_in nodes) (key_of o)) c.point y old new) kept
      (ends_after eq laws hash respects (key_in nodes) (Some (key_of o)) c saw old new well.sound sees_of e is) in
      leaves e x (λ puts. absurd (look_puts o found e ends x puts)) (answers_found o (own_by eq (key_in nodes) (key_of o)) old c.hash c.point nay ∙ same) keep both.0 both.1

  -- its change was made
  module _ (e : Ending) (from to : Word) (said : answers ≡ found_before from to)
      (finds : Finds (own_by eq (key_in nodes) (key_of o)) old (stored_in from))
      (changes : ChangesMap (own_by eq (key_in nodes) (key_of o)) (stored_in from) (stored_in to) old new) where
    puts_on : (n : ℕ) → f (stored_in from) ≡ choice.Put n → Live n ≡ to → Result (Decided e)
    puts_on n is to_is =
        let x = stored_in from in
        let filled = runs.filled n (put_named nodes o stored x n is) in
        let (st, pair) = stored_pair o filled.0 in
        let (answer, map, count) = put_by_choice nodes eq (map_of eq old nodes) old.len o stored x n st is (here x finds) pair in
        let change : ChangesMap (own_by eq (key_in nodes) (key_of o)) x (Some n) old new =
        subst (λ w. ChangesMap (own_by eq (key_in nodes) (key_of o)) x (stored_in w) old new) (sym to_is) changes in
        decides e (
          ap (λ k. answer_of (pair_at nodes k)) (said ∙ ap (found_before from) (sym to_is)) ∙ ap answer_of (sym answer),
          λ q. map_after eq laws hash respects (key_in nodes) (pair_in nodes) old new sound_new (key_of o) st x n (key_of_pair nodes n (key_of o) st (filled.1 ∙ pair)) (filled.1 ∙ pair) change q ∙ sym (map q),
          count_after eq laws hash respects (key_in nodes) (pair_in nodes) (are_keys nodes) old new well.sound well.counted counted (key_of o) x n finds change ∙ sym count,
        )

    takes_out : f (stored_in from) ≡ choice.Remove → (m : ℕ) → Tomb m ≡ to → Result (Decided e)
    takes_out is m to_is =
        let x = stored_in from in
        let (answer, map, count) = out_by_choice nodes eq (map_of eq old nodes) old.len o stored x is (here x finds) in
        let change : ChangesMap (own_by eq (key_in nodes) (key_of o)) x None old new =
        subst (λ w. ChangesMap (own_by eq (key_in nodes) (key_of o)) x (stored_in w) old new) (sym to_is) changes in
        decides e (
          ap (λ k. answer_of (pair_at nodes k)) (said ∙ ap (found_before from) (sym to_is)) ∙ ap answer_of (sym answer),
          λ q. map_out eq laws hash respects (key_in nodes) (pair_in nodes) old new sound_new (key_of o) x change q ∙ sym (map q),
          count_out eq laws hash respects (key_in nodes) old new well.counted counted (key_of o) x (out_present nodes o stored x is) change ∙ sym count,
        )

    tombs : f (stored_in from) ≡ choice.Remove → (x : Option ℕ) → option_map Tomb x ≡ Some to → Result (Decided e)
    tombs is None put = absurd (no_word put)
    tombs is (Some m) put = takes_out is m (some_word put)

    changed : (x : Choice) → f (stored_in from) ≡ x → put_by x from ≡ Some to → Result (Decided e)
    changed choice.Keep is put = absurd (no_word put)
    changed (choice.Put n) is put = puts_on n is (some_word put)
    changed choice.Remove is put = tombs is (stored_in from) put

  by_change : (e : Ending) (a l v : ℕ) (from to : Word) → next_of c saw ≡ Decided e → c.point ≡ call.Change a l v from to → e ≡ call.Changed (stored_in from) →
      Result (Decided e)
  by_change e a l v from to is at_change ends =
      let own_now = own_by eq (key_in nodes) (key_of o) in
      let both : Finds own_now old (stored_in from) × ChangesMap own_now (stored_in from) (stored_in to) old new =
      subst (λ p. Ends own_now p (call.Changed (stored_in from)) old new) at_change (subst (λ y. Ends own_now c.point y old new) ends
      (ends_after eq laws hash respects (key_in nodes) (Some (key_of o)) c saw old new well.sound sees_of e is)) in
      changed e from to (ap (λ p. found_by o own_now old (wanted c.hash p)) at_change) both.0 both.1 (f (stored_in from)) refl
      (subst (Puts nodes o stored) at_change runs.puts)

  -- a call that asked
  module _ (k : CallKind) (h : ℕ) (spent : Bool) (a l v : ℕ) (w : Word) where
    abbrev asking : Call
    asking = record { kind = k; hash = h; spent = spent; point = call.Choose a l v w }

    module _ (is : next_of c saw ≡ Going (record { kind = k; hash = h; spent = spent; point = call.Choose a l v w })) (same_kind : k ≡ c.kind) (same_hash : h ≡ c.hash) where
      mid_keeps : KeepsMap old new
      mid_keeps = keeps_after eq laws hash respects (key_in nodes) (Some (key_of o)) c saw old new well.sound sees_of asking is

      few : new.len ≤ peak
      few = let same = same_count mid_keeps in let count = well.counted in let short = well.short.keys in omega arith

      mid_well : IsWell eq hash new nodes first peak
      mid_well = well_new peak (omega arith) few

      -- it is given this answer
      then : (x : Choice) → ((keys : ℕ → Option K) → Agrees keys nodes → IsChoice (own_by eq keys (key_of o)) (seen.Chosen x)) →
          Sees eq hash (key_in nodes) (Some (key_of o)) asking (seen.Chosen x) new new
      then x fair = record {
        hashed = hashed_by hash (key_of o) asking (same_hash ∙ runs.hashed);
        fits = fits_after eq laws hash respects (key_in nodes) (Some (key_of o)) c saw old new well.sound sees_of asking is;
        effect = λ keys agrees. (λ a. refl, record { arrays = refl; rooted = refl; fresh = refl });
        choice = fair;
      }

      -- and goes on to its change
      asks_on : (x : Choice) → ((keys : ℕ → Option K) → Agrees keys nodes → IsChoice (own_by eq keys (key_of o)) (seen.Chosen x)) →
          (to : Word) → f (stored_in w) ≡ x → put_by x w ≡ Some to → chosen asking a l v w x ≡ goes asking (call.Change a l v w to) →
          Result (goes asking (call.Change a l v w to))
      asks_on x fair to x_is put leads = record {
        well = well_new;
        moves = kept_moves mid_keeps;
        going = λ e. (
          record {
            kind = same_kind ∙ runs.kind;
            hashed = same_hash ∙ runs.hashed;
            fits = fits_after eq laws hash respects (key_in nodes) (Some (key_of o)) asking (seen.Chosen x) new new mid_well.sound (then x fair) e2 leads;
            rests = tt;
            walks = tt;
            puts = ap (λ y. put_by y w) x_is ∙ put;
            filled = runs.filled;
          },
          lower,
        );
        others = others;
        later = later;
      }
        where
          e2 : Call
          e2 = record { kind = k; hash = h; spent = spent; point = call.Change a l v w to }

          lower : left first peak new e2 < left first peak old c
          lower =
              let one = (falls_after eq laws hash respects (key_in nodes) (Some (key_of o)) c saw old new well.sound sees_of first peak asking well.short is).0 runs.rests in
              let two = (falls_after eq laws hash respects (key_in nodes) (Some (key_of o)) asking (seen.Chosen x) new new mid_well.sound (then x fair) first peak e2 mid_well.short leads).1 in
              omega arith

      -- or leaves what it found
      asks_kept : (puts_at o (stored_in w) ≡ true → IsSome stored) → IsNoChange c.point → stored_in w ≡ found → f (stored_in w) ≡ choice.Keep →
          Result (Decided (call.Kept (stored_in w)))
      asks_kept named nay there keep =
          let own_now = own_by eq (key_in nodes) (key_of o) in
          let both : Ends own_now (call.Choose a l v w) (call.Kept (stored_in w)) new new =
          ends_after eq laws hash respects (key_in nodes) (Some (key_of o)) asking (seen.Chosen choice.Keep) new new mid_well.sound (then choice.Keep (λ keys agrees. tt)) (call.Kept (stored_in w)) refl in
          leaves (call.Kept (stored_in w)) (stored_in w) named
          (answers_found o own_now old c.hash c.point nay ∙ ap (λ x. cond (is_look o) x None) (sym there)) keep
          (finds_kept own_now new old (stored_in w) (IsPermutation-sym (present_nodes old) (present_nodes new) mid_keeps) both.0) mid_keeps

      asks_put : (n : ℕ) → f (stored_in w) ≡ choice.Put n → Result (goes asking (call.Change a l v w (Live n)))
      asks_put n x_is =
          let filled = runs.filled n (put_named nodes o stored (stored_in w) n x_is) in
          let (st, pair) = stored_pair o filled.0 in
          asks_on (choice.Put n) (λ keys agrees. own_stored eq laws nodes (key_of o) st n (filled.1 ∙ pair) keys agrees) (Live n) x_is refl refl

      asks_out : (u : Word) → w ≡ u → IsOpen (own_by eq (key_in nodes) (key_of o)) u → f (stored_in w) ≡ choice.Remove → IsSome (stored_in u) → Result (removed asking a l v w)
      asks_out (Live m) w_is opens x_is has = subst (λ s. Result s) (sym leads)
          (asks_on choice.Remove (λ keys agrees. tt) (Tomb m) x_is (ap (λ y. option_map Tomb (stored_in y)) w_is) leads)
        where
          leads : removed asking a l v w ≡ goes asking (call.Change a l v w (Tomb m))
          leads = ap (λ y. removed asking a l v y) w_is ∙ ap (λ y. goes asking (call.Change a l v y (Tomb m))) (sym w_is)
      asks_out Unset w_is opens x_is has = absurd (false≢true has)
      asks_out Empty w_is opens x_is has = absurd (false≢true has)
      asks_out (Tomb m) w_is opens x_is has = absurd (false≢true has)
      asks_out SealedEmpty w_is opens x_is has = absurd opens
      asks_out (SealedLive m) w_is opens x_is has = absurd opens
      asks_out (SealedTomb m) w_is opens x_is has = absurd opens

      asks : (puts_at o (stored_in w) ≡ true → IsSome stored) → IsNoChange c.point → stored_in w ≡ found → (x : Choice) → f (stored_in w) ≡ x → Result (chosen asking a l v w x)
      asks named nay there choice.Keep x_is = asks_kept named nay there x_is
      asks named nay there (choice.Put n) x_is = asks_put n x_is
      asks named nay there choice.Remove x_is =
          let fits = fits_after eq laws hash respects (key_in nodes) (Some (key_of o)) c saw old new well.sound sees_of asking is (key_in nodes) (agrees_now (key_in nodes)) in
          asks_out w refl fits.1 x_is (out_present nodes o stored (stored_in w) x_is)

  -- the step goes on, asks, or ends
  goes_by : (d : Call) → ((present : Option ℕ) → asked (next_of c saw) ≡ Some present → puts_at o present ≡ true → IsSome stored) → next_of c saw ≡ Going d → Comes (kind_of o) c.hash found c.point d → AtRest d.point →
      Result (answered f (Going d))
  goes_by d named is comes (Resting rests) =
      let at_rest = comes_puts nodes o stored found c.point d.point rests comes.2 in
      subst (λ s. Result s) (sym (answered_at_rest f d d.point rests)) (goes_on d is (comes.0 ∙ sym runs.kind) comes.1 rests at_rest.1 at_rest.0)
  goes_by d named is comes (Asks a l v w asks_at) =
      let come : IsNoChange c.point × (stored_in w ≡ found) = subst (λ p. ComesTo found c.point p) asks_at comes.2 in
      subst (λ p. Result (answered f (Going (record d { point = p })))) (sym asks_at)
      (asks d.kind d.hash d.spent a l v w (is ∙ ap (λ p. Going (record d { point = p })) asks_at) (comes.0 ∙ sym runs.kind) comes.1
      (named (stored_in w) (ap asked (is ∙ ap (λ p. Going (record d { point = p })) asks_at))) come.0 come.1 (f (stored_in w)) refl)

  ends_by : (e : Ending) → next_of c saw ≡ Decided e → Ended (kind_of o) found c.point e → Result (Decided e)
  ends_by e is (ByChange a l v from to at_change ends) = by_change e a l v from to is at_change ends
  ends_by e is (ByLook nay ends) = by_look e is nay ends

  turned_by : (mid : Step) → ((present : Option ℕ) → asked (next_of c saw) ≡ Some present → puts_at o present ≡ true → IsSome stored) → next_of c saw ≡ mid →
      Leads mid (Comes (kind_of o) c.hash found c.point) (Ended (kind_of o) found c.point) → Result (answered f mid)
  turned_by (Going d) named is leads = goes_by d named is leads (at_rest d.point)
  turned_by (Decided e) named is leads = ends_by e is leads

-- One step of an operation: an access, and with a question also its answer.
pub turned : {K V : Type 0} (eq : K → K → Bool) → IsEquivalence eq → (hash : K → ℕ) → ((x y : K) → eq x y ≡ true → hash x ≡ hash y) →
    (nodes : List (Node K V)) (first peak : ℕ) (o : KeyOp K V) (stored : Option ℕ) (c : Call) (saw : Seen) (old new : Memory) →
    IsWell eq hash old nodes first peak → Runs eq hash old nodes o stored c → ((present : Option ℕ) → asked (next_of c saw) ≡ Some present → puts_at o present ≡ true → IsSome stored) →
    ((keys : ℕ → Option K) → Agrees keys nodes → Effect (hash_by hash keys) (own_by eq keys (key_of o)) (access_of c) saw old new) →
    Recounts (access_of c) saw old new → (after : Step) → after ≡ answered (choose nodes o stored) (next_of c saw) →
    (answer : TableAnswer K V) → answer ≡ answer_of (pair_at nodes (found_by o (own_by eq (key_in nodes) (key_of o)) old (access_of c))) →
    Turned eq hash nodes first peak o stored old (Going c) (turn_by after answer) new after
turned eq laws hash respects nodes first peak o stored c saw old new well runs named effect counts after is answer said =
    subst (λ a. Turned eq hash nodes first peak o stored old (Going c) (turn_by after a) new after) (sym said)
    (subst (λ s. Turned eq hash nodes first peak o stored old (Going c)
    (turn_by s (answer_of (pair_at nodes (found_by o (own_by eq (key_in nodes) (key_of o)) old (access_of c))))) new s) (sym is)
    (turned_by eq laws hash respects nodes first peak o stored c saw old new well runs effect counts (next_of c saw) named refl
    (course o (hash_by hash (key_in nodes)) (own_by eq (key_in nodes) (key_of o)) old new c saw runs.kind runs.rests runs.walks
    (effect (key_in nodes) (agrees_now (key_in nodes))))))
