-- A row that is linked, and words that are copied into it.
use Rattle.std.proofs.Common.{◌≡◌, ◌≢◌, ℕ, ◌+◌, ◌*◌, ◌<◌, Bool, true, false, List, [], ◌∷◌, ◌++◌, length, Some, None, suc, refl, sym, ap, subst, ◌∙◌, arith}
use Rattle.std.specs.List.{slice_get}
use mathlib.Core.List.{IsPrefix}
use Rattle.logbook.specs.Pages.{Named, Nib, cell}
use Rattle.boxcar.specs.Table.{first}
use Rattle.moka_words.specs.declared.words.Word.{Word}
use Rattle.moka_words.specs.declared.words.Word.TheVariants.{Unset}
use Rattle.moka_words.specs.declared.accesses.Seen.TheVariants as seen
use Rattle.moka_words.specs.Words.{word_at}
use Rattle.moka_growth.specs.Calls.{access_of}
use Rattle.moka_growth.specs.Calls as point
use Rattle.moka_pairs.specs.Segments.{EffectAll}
use Rattle.moka_history.specs.declared.note.Note.{Note}
use Rattle.moka_history.specs.declared.note.Note.TheVariants.{ArrayLinked, Copied}
use Rattle.moka_history.specs.Cells.{cells_of, number_of}
use Rattle.moka_history.specs.Keeping.{IsDivided, IsReady}
use Rattle.moka_history.specs.Logs.{entries_of, state_of}
use Rattle.moka_history.specs.Moving.{MayLink}
use Rattle.moka_history.specs.Rules.{IsFront, IsKept, IsOpenedFor, IsRowStill, Lasts, keys_of}
use Rattle.moka_history.specs.States.{Next, Owner, after, memory_of, no_next, numbered, unopened, words_in}
use Rattle.moka_history.proofs.Chains.{place_one, unlinked}
use Rattle.moka_history.proofs.Copying.{copied_set, copied_there, copy_there}
use Rattle.moka_history.proofs.Folds.{state_more}
use Rattle.moka_history.proofs.Fronts.{cell_now, cells_now, good_now, lasts_now, next_now, opened_too}
use Rattle.moka_history.proofs.Grows.{stands_now}
use Rattle.moka_history.proofs.Linking.{keys_here, links_here}
use Rattle.moka_history.proofs.Lists.{map_length, no_item, prefix_self, prefix_through, unmap_get}
use Rattle.moka_history.proofs.Numbers.{one_is_unset}
use Rattle.moka_history.proofs.Steps.{copying_effect, linking_effect}
use Rattle.moka_history.proofs.There.{at_link, link_there}
use Rattle.moka_shared.specs.declared.answers.TryLink.{TryLink}
use Rattle.moka_shared.specs.declared.answers.TryLink.TheVariants as link
use Rattle.moka_shared.specs.declared.asked.Copying.{Copying}
use Rattle.moka_shared.specs.declared.asked.Linking.{Linking}
use Rattle.moka_shared.specs.Links.{Copies, Follows, IsThere, JoinsRow, Links, LinksSo, MayCopy, MayJoin, WantsCopy, WantsLink, keys_in}
use Rattle.moka_shared.specs.Probing.{IsLogOf}
use Rattle.moka_shared.specs.Rows.{AreRow, HoldsTicket, IsBehind, Leaves, plan_for}
use Rattle.moka_shared.specs.Steps.{Sees}
use Rattle.moka_shared.specs.Tables.{Table}
use Rattle.moka_shared.proofs.Loading.{first_rooted, kept_as, opened_more}
use Rattle.moka_shared.proofs.Moved.{none_first}
use Rattle.moka_shared.proofs.Rowing.{behind_lasts, row_lasts}

-- a log after which there are segments has notes, and one after which there is a cell
pub some_cells : {K V S : Type 0} (log : List (Note K V S)) (key : ℕ) (o : Owner) → slice_get (state_of log).cells key ≡ Some o → 0 < length log
some_cells [] key o at = absurd (no_item at)
some_cells (note ∷ log) key o at = omega arith

some_notes : {K V S : Type 0} (log : List (Note K V S)) (segment : ℕ) → segment < (state_of log).segments → 0 < length log
some_notes [] segment below = absurd (omega (arith, below))
some_notes (note ∷ log) segment below = omega arith

-- the first item of a list without one is that which is put behind
first_more : (xs : List ℕ) (x : ℕ) → slice_get xs 0 ≡ None → slice_get (xs ++ x ∷ []) 0 ≡ Some x
first_more [] x none = refl
first_more (y ∷ xs) x none = absurd (no_item (sym none))

-- a log is one of the table
pub is_log : {K V S : Type 0} (eq : K → K → Bool) (hash : S → K → ℕ) (place : S → ℕ → K → ℕ) (t : Table S) (log : List (Note K V S)) →
    IsKept eq hash place log → IsOpenedFor t.segments t.size t.hasher log → 0 < t.segments → IsLogOf eq hash place t log
is_log eq hash place t log kept_log opened_log some_segments = record { kept = kept_log; opened = opened_log; some = some_segments }

module _ {K V S : Type 0} (eq : K → K → Bool) (hash : S → K → ℕ) (place : S → ℕ → K → ℕ) (divided : IsDivided eq hash place) (t : Table S) where
  -- what a call wanted after a front it wants after a log
  module _ (old log : List (Note K V S)) (x : IsLogOf eq hash place t log) (begins : IsPrefix old log) (some : 0 < length old) where
    abbrev kept : IsKept eq hash place log
    kept = kept_as eq hash place t log x

    is_front : IsFront old log
    is_front = record { some = some; begins = begins }

    lasts : Lasts eq (place t.hasher t.segments) (state_of old) (state_of log)
    lasts = lasts_now eq hash place log kept old is_front

    pub opened : IsOpenedFor t.segments t.size t.hasher old
    opened = opened_too eq hash place log kept old is_front

    abbrev pub link_wanted : (segment count : ℕ) → WantsLink eq hash place t.hasher t.segments segment count old → WantsLink eq hash place t.hasher t.segments segment count log
    link_wanted segment count w = record {
      key = w.key;
      call = w.call;
      size = w.size;
      kept = w.kept;
      stands = stands_now eq hash place divided t.segments t.size t.hasher old opened log kept begins segment w.key w.call
          (point.Link (Some (suc segment)) w.size w.kept) tt w.stands;
      count_is = w.count_is;
    }

    abbrev pub copy_wanted : (segment array index : ℕ) (to : Word) → WantsCopy eq hash place t.hasher t.segments segment array index to old →
        WantsCopy eq hash place t.hasher t.segments segment array index to log
    copy_wanted segment array index to w = record {
      key = w.key;
      call = w.call;
      from = w.from;
      laid = w.laid;
      stands = stands_now eq hash place divided t.segments t.size t.hasher old opened log kept begins segment w.key w.call
          (point.Copy w.from array index w.laid) tt w.stands;
      to_is = w.to_is;
    }

  -- a log that goes on is one of the table
  log_more : (log new : List (Note K V S)) → IsLogOf eq hash place t log → IsPrefix log new → IsKept eq hash place new → IsLogOf eq hash place t new
  log_more log new x begins kept_new = record { kept = kept_new; opened = opened_more t.segments t.size t.hasher log new x.opened begins; some = x.some }

  -- a row that may be linked
  module _ (old log : List (Note K V S)) (x : IsLogOf eq hash place t log) (begins : IsPrefix old log) (segment : ℕ) (below : segment < t.segments)
      (ticket : ℕ) (words : List Named) (after_them : Named) (pen : Nib) (row : AreRow t.book ticket words old) (behind : IsBehind t.book ticket words after_them old)
      (announced : HoldsTicket ticket (plan_for segment (length words)) pen old)
      (wants : WantsLink eq hash place t.hasher t.segments segment (length words) old) where
    some : 0 < length old
    some = some_notes old segment wants.stands.within

    abbrev keys : List ℕ
    keys = keys_in words

    long : length keys ≡ length words
    long = map_length (λ w. w.key) words

    row_now : AreRow t.book ticket words log
    row_now = row_lasts eq hash place old log some begins (kept_as eq hash place t log x) t.book ticket words row

    named : (i k : ℕ) → slice_get keys i ≡ Some k → (w : Named) × (slice_get words i ≡ Some w) × (k ≡ w.key)
    named i k at = unmap_get (λ w. w.key) words i k at

    next_cell : (a : ℕ) × (slice_get (state_of log).cells (1 + t.segments * t.size + segment) ≡ Some (Next (suc segment) a))
    next_cell = next_now eq hash place log (kept_as eq hash place t log x) segment below

    behind_now : IsBehind t.book ticket words after_them log
    behind_now = behind_lasts eq hash place old log some begins (kept_as eq hash place t log x) t.book ticket words after_them behind

    pub may_link : (next : ℕ) → next ≡ 1 + t.segments * t.size + segment → MayLink (state_of log) segment (suc segment) pen.key ticket next keys after_them.key
    may_link next next_is =
        let then = lasts old log x begins some in
        let (b, there, home) = then.announced pen.key ticket announced.home announced.there in
        let suc_is : segment + 1 ≡ suc segment = omega arith in
        record {
          home = b;
          there = there;
          planned = then.plans ticket (plan_for segment (length words)) announced.plan_is
              ∙ (ap (λ g. Some (record { segment = segment; size = length words; grown = Some g })) suc_is
              ∙ ap (λ n. Some (record { segment = segment; size = n; grown = Some (suc segment) })) (sym long));
          each = λ i k at.
              let (w, word_there, is) = named i k at in
              subst (λ n. IsRowStill (state_of log) n ticket true) (sym is) (row_now.each i w word_there).home;
          differ = λ i j k e f.
              let (v, at, is) = named i k e in
              let (w, at_yet, is_yet) = named j k f in
              row_now.differ i j v w at at_yet (sym is ∙ is_yet);
          last = behind_now.one.home;
          apart = λ i k at same. (let (w, there_yet, is) = named i k at in behind_now.apart i w there_yet (sym is ∙ same));
          array = next_cell.0;
          free = ap (slice_get (state_of log).cells) next_is ∙ next_cell.1;
        }

    wanted_as : (count : ℕ) → count ≡ length words → WantsLink eq hash place t.hasher t.segments segment count old
    wanted_as count is = subst (λ n. WantsLink eq hash place t.hasher t.segments segment n old) (sym is) wants

    pub wanted_now : (count : ℕ) → count ≡ length words → WantsLink eq hash place t.hasher t.segments segment count log
    wanted_now count is = subst (λ n. WantsLink eq hash place t.hasher t.segments segment n log) (sym is) (link_wanted old log x begins some segment (length words) wants)

    pub may_join : (next : ℕ) → next ≡ 1 + t.segments * t.size + segment → (asked : Linking) → asked.ticket ≡ ticket → asked.segment ≡ segment →
        asked.keys.numbers ≡ keys → first asked.behind.numbers ≡ after_them.key → MayJoin eq hash place next pen.key asked log
    may_join next next_is asked ticket_is segment_is keys_are behind_is = record {
      segments = t.segments;
      first = t.size;
      hasher = t.hasher;
      opened = x.opened;
      wants = subst (λ s. WantsLink eq hash place t.hasher t.segments s (length asked.keys.numbers) log) (sym segment_is)
          (wanted_now (length asked.keys.numbers) (ap (λ ns. length ns) keys_are ∙ long));
      may = subst (λ s. MayLink (state_of log) s (suc s) pen.key asked.ticket next asked.keys.numbers (first asked.behind.numbers)) (sym segment_is)
          (subst (λ n. MayLink (state_of log) segment (suc segment) pen.key n next asked.keys.numbers (first asked.behind.numbers)) (sym ticket_is)
          (subst (λ ns. MayLink (state_of log) segment (suc segment) pen.key ticket next ns (first asked.behind.numbers)) (sym keys_are)
          (subst (λ n. MayLink (state_of log) segment (suc segment) pen.key ticket next keys n) (sym behind_is) (may_link next next_is))));
    }

    -- it was linked
    module _ (new : List (Note K V S)) (next : ℕ) (joins : JoinsRow eq hash place next pen.key (ArrayLinked ticket segment (Some (suc segment)) keys after_them.key) log new) where
      abbrev found : List (Note K V S)
      found = joins.leaves.writes.log

      abbrev note : Note K V S
      note = ArrayLinked ticket segment (Some (suc segment)) keys after_them.key

      found_begins : IsPrefix old found
      found_begins = prefix_through old log found begins joins.leaves.writes.begins

      found_log : IsLogOf eq hash place t found
      found_log = log_more log found x joins.leaves.writes.begins joins.leaves.writes.was_kept

      abbrev found_kept : IsKept eq hash place found
      found_kept = kept_as eq hash place t found found_log

      ready : IsReady (state_of found) segment (suc segment) pen.key ticket next keys after_them.key
      ready = joins.ready

      state_is : state_of new ≡ after {S = S} (state_of found) note
      state_is = ap state_of joins.leaves.writes.more ∙ state_more unopened found note

      nothing : slice_get ((state_of found).links segment) 0 ≡ None
      nothing = unlinked (state_of found) (good_now eq hash place found found_kept).linked next segment 0 (suc segment)
          (first_rooted eq hash place t found found_log segment below).within refl ready.free

      then_keys : (state_of new).arrays ticket ≡ keys
      then_keys = ap (λ s. s.arrays ticket) state_is ∙ keys_here S (state_of found) ticket segment (Some (suc segment)) keys after_them.key ready.made

      follows : Follows segment ticket keys new
      follows = record {
        there = ap (λ s. slice_get (s.links segment) 0) state_is
            ∙ (ap (λ xs. slice_get xs 0) (links_here S (state_of found) ticket segment (Some (suc segment)) keys after_them.key ready.made)
            ∙ first_more ((state_of found).links segment) ticket nothing);
        words = λ i k at. ap (λ xs. slice_get xs i) then_keys ∙ at;
        long = ap (λ xs. length xs) then_keys;
      }

      linked_effect : (w : WantsLink eq hash place t.hasher t.segments segment (length keys) found) →
          EffectAll eq (hash t.hasher) (keys_of (place t.hasher t.segments) (state_of found) segment) w.key (access_of w.call)
          (seen.Linked ticket (length keys)) (numbered ticket (memory_of (state_of found) segment)) (numbered (suc ticket) (memory_of (state_of new) segment))
      linked_effect w = subst (λ l. EffectAll eq (hash t.hasher) (keys_of (place t.hasher t.segments) (state_of found) segment) w.key (access_of w.call)
          (seen.Linked ticket (length keys)) (numbered ticket (memory_of (state_of found) segment)) (numbered (suc ticket) (memory_of (state_of l) segment)))
          (sym joins.leaves.writes.more)
          (linking_effect eq hash place divided found found_kept (cells_of (state_of found)) refl segment (suc segment) w.size w.kept w.key w.call w.stands
          pen.key ticket next keys after_them.key ready w.count_is)

      pub linked_so : Links eq hash place t segment old new ticket keys
      linked_so = record {
        found = found;
        begins = found_begins;
        goes_on = (note ∷ [], sym joins.leaves.writes.more);
        follows = follows;
        wanted = link_wanted old found found_log found_begins some segment (length keys) (wanted_as (length keys) long);
        effect = linked_effect;
      }

    -- another array was there
    module _ (new : List (Note K V S)) (next : ℕ) (next_is : next ≡ 1 + t.segments * t.size + segment) (other : ℕ) (sees : Sees eq hash place next other log new)
        (is_some : other ≢ 0) where
      new_log : IsLogOf eq hash place t new
      new_log = log_more log new x sees.begins sees.kept

      abbrev new_kept : IsKept eq hash place new
      new_kept = kept_as eq hash place t new new_log

      next_there : (a : ℕ) × (slice_get (state_of new).cells next ≡ Some (Next (suc segment) a))
      next_there =
          let (a, there) = next_now eq hash place new new_kept segment below in
          (a, ap (slice_get (state_of new).cells) next_is ∙ there)

      names_other : slice_get (state_of new).cells next ≡ Some (Next (suc segment) other)
      names_other =
          let (a, there) = next_there in
          let held = (cell_now eq hash place new new_kept (cells_of (state_of new)) refl next (Next (suc segment) a) there).1 in
          there ∙ ap (λ n. Some (Next (suc segment) n)) (ap (λ y. y.0) (sym held ∙ sees.holds))

      begins_new : IsPrefix old new
      begins_new = prefix_through old log new begins sees.begins

      is_other : other ≢ no_next segment (suc segment)
      is_other same = is_some (same ∙ none_first segment)

      pub there_so : IsThere eq hash place t segment old new other (length keys)
      there_so = record {
        there =
            let v = link_wanted old new new_log begins_new some segment (length words) wants in
            let good = good_now eq hash place new new_kept in
            let at = at_link eq (hash t.hasher) (place t.hasher t.segments) (state_of new) (entries_of new) good
            segment (suc segment) v.size v.kept v.key v.call v.stands next other names_other is_other in
            let one = place_one (state_of new) good.linked segment at.0 0 (suc segment) v.stands.within at.1 refl in
            subst (λ p. slice_get ((state_of new).links segment) p ≡ Some other) one at.2;
        wanted = link_wanted old new new_log begins_new some segment (length keys) (wanted_as (length keys) long);
        effect = λ w. link_there eq (hash t.hasher) (place t.hasher t.segments) (state_of new) (entries_of new) (good_now eq hash place new new_kept)
            segment (suc segment) w.size w.kept w.key w.call w.stands next other names_other is_other;
      }

  -- what became of a row that was to be linked, by who had seen less
  pub links_sooner : (old mid new : List (Note K V S)) → IsPrefix old mid → (segment array : ℕ) (keys : List ℕ) (answer : TryLink) → LinksSo eq hash place t segment mid new array keys answer → LinksSo eq hash place t segment old new array keys answer
  links_sooner old mid new begins segment array ks link.Linked l = record {
    found = l.found;
    begins = prefix_through old mid l.found begins l.begins;
    goes_on = l.goes_on;
    follows = l.follows;
    wanted = l.wanted;
    effect = l.effect;
  }
  links_sooner old mid new begins segment array ks (link.There other) l = record {
    there = l.there;
    wanted = l.wanted;
    effect = l.effect;
  }
  links_sooner old mid new begins segment array ks (link.Open index) l = l
  links_sooner old mid new begins segment array ks (link.Length size) l = l

  -- what became of a word that was to be copied, by who had seen less
  pub copies_sooner : (old mid new : List (Note K V S)) → IsPrefix old mid → (segment array index : ℕ) (to : Word) (set : Bool) →
      Copies eq hash place t segment mid new array index to set → Copies eq hash place t segment old new array index to set
  copies_sooner old mid new begins segment array index to set c = record {
    found = c.found;
    begins = prefix_through old mid c.found begins c.begins;
    goes_on = c.goes_on;
    was = c.was;
    is = c.is;
    wanted = c.wanted;
    effect = c.effect;
  }

  -- a word that is copied
  module _ (old log : List (Note K V S)) (x : IsLogOf eq hash place t log) (begins : IsPrefix old log) (segment ticket index : ℕ) (to : Word)
      (wants : WantsCopy eq hash place t.hasher t.segments segment ticket index to old) (bucket : ℕ)
      (there : slice_get ((state_of old).arrays ticket) index ≡ Some bucket) where
    some_yet : 0 < length old
    some_yet = some_notes old segment wants.stands.within

    row_at : (new : List (Note K V S)) → IsLogOf eq hash place t new → IsPrefix old new → slice_get ((state_of new).arrays ticket) index ≡ Some bucket
    row_at new y pre = (lasts old new y pre some_yet).arrays ticket index bucket there

    pub copy_there_now : slice_get ((state_of log).arrays ticket) index ≡ Some bucket
    copy_there_now = row_at log x begins

    pub copy_wanted_now : WantsCopy eq hash place t.hasher t.segments segment ticket index to log
    copy_wanted_now = copy_wanted old log x begins some_yet segment ticket index to wants

    pub may_copy : (asked : Copying) → asked.array ≡ ticket → asked.index ≡ index → asked.to ≡ to → (number : ℕ) → number ≡ number_of to →
        MayCopy eq hash place bucket number asked log
    may_copy asked array_is index_is asked_to number number_is_to = record {
      segments = t.segments;
      first = t.size;
      hasher = t.hasher;
      opened = x.opened;
      segment = segment;
      wants = subst (λ a. WantsCopy eq hash place t.hasher t.segments segment a asked.index asked.to log) (sym array_is)
          (subst (λ i. WantsCopy eq hash place t.hasher t.segments segment ticket i asked.to log) (sym index_is)
          (subst (λ w. WantsCopy eq hash place t.hasher t.segments segment ticket index w log) (sym asked_to) copy_wanted_now));
      there = subst (λ a. slice_get ((state_of log).arrays a) asked.index ≡ Some bucket) (sym array_is)
          (subst (λ i. slice_get ((state_of log).arrays ticket) i ≡ Some bucket) (sym index_is) copy_there_now);
      to_is = number_is_to ∙ ap number_of (sym asked_to);
    }

    -- the number that the word's cell holds
    number_is : (new : List (Note K V S)) → IsLogOf eq hash place t new → IsPrefix old new → (number : ℕ) → cell (cells_of (state_of new)) bucket ≡ (number, true) →
        number ≡ number_of (word_at (words_in (state_of new) ticket) index)
    number_is new y pre number held = ap (λ c. c.0)
        (sym held ∙ ((cells_now eq hash place new (kept_as eq hash place t new y) (cells_of (state_of new)) refl).1 ticket index bucket (row_at new y pre)).1)

    -- it was unset
    module _ (new : List (Note K V S)) (leaves : Leaves eq hash place bucket 1 (Copied ticket index to) log new) where
      abbrev copied_log : List (Note K V S)
      copied_log = leaves.writes.log

      copied_begins : IsPrefix old copied_log
      copied_begins = prefix_through old log copied_log begins leaves.writes.begins

      copied_is : IsLogOf eq hash place t copied_log
      copied_is = log_more log copied_log x leaves.writes.begins leaves.writes.was_kept

      abbrev copied_kept : IsKept eq hash place copied_log
      copied_kept = kept_as eq hash place t copied_log copied_is

      unset : word_at (words_in (state_of copied_log) ticket) index ≡ Unset
      unset = one_is_unset (word_at (words_in (state_of copied_log) ticket) index) (sym (number_is copied_log copied_is copied_begins 1 leaves.writes.holds))

      wants_then : WantsCopy eq hash place t.hasher t.segments segment ticket index to copied_log
      wants_then = copy_wanted old copied_log copied_is copied_begins some_yet segment ticket index to wants

      copied_state_is : state_of new ≡ after {S = S} (state_of copied_log) (Copied ticket index to)
      copied_state_is = ap state_of leaves.writes.more ∙ state_more unopened copied_log (Copied ticket index to)

      is_set : word_at (words_in (state_of new) ticket) index ≢ Unset
      is_set e =
          let w = wants_then in
          let good = good_now eq hash place copied_log copied_kept in
          let is = subst (λ v. word_at (words_in (after {S = S} (state_of copied_log) (Copied ticket index v)) ticket) index ≡ v) (sym w.to_is)
          (copied_there S eq divided.laws (hash t.hasher) (place t.hasher t.segments) (divided.hashed t.hasher) (state_of copied_log) (entries_of copied_log) good
          segment ticket index w.from w.laid w.key w.call w.stands unset) in
          copied_set S eq divided.laws (hash t.hasher) (place t.hasher t.segments) (divided.hashed t.hasher) (state_of copied_log) (entries_of copied_log) good
          segment ticket index w.from w.laid w.key w.call w.stands unset
          (sym w.to_is ∙ (sym is ∙ (ap (λ s. word_at (words_in s ticket) index) (sym copied_state_is) ∙ e)))

      copied_effect : (w : WantsCopy eq hash place t.hasher t.segments segment ticket index to copied_log) →
          EffectAll eq (hash t.hasher) (keys_of (place t.hasher t.segments) (state_of copied_log) segment) w.key (access_of w.call) seen.Copied
          (memory_of (state_of copied_log) segment) (memory_of (state_of new) segment)
      copied_effect w = subst (λ l. EffectAll eq (hash t.hasher) (keys_of (place t.hasher t.segments) (state_of copied_log) segment) w.key (access_of w.call) seen.Copied
          (memory_of (state_of copied_log) segment) (memory_of (state_of l) segment)) (sym leaves.writes.more)
          (subst (λ u. EffectAll eq (hash t.hasher) (keys_of (place t.hasher t.segments) (state_of copied_log) segment) w.key (access_of w.call) seen.Copied
          (memory_of (state_of copied_log) segment) (memory_of (state_of (copied_log ++ Copied ticket index u ∷ [])) segment)) (sym w.to_is)
          (copying_effect eq hash place divided copied_log copied_kept (cells_of (state_of copied_log)) refl segment ticket index w.from w.laid w.key w.call w.stands unset))

      pub copied_so : Copies eq hash place t segment old new ticket index to true
      copied_so = record {
        found = copied_log;
        begins = copied_begins;
        goes_on = (Copied ticket index to ∷ [], sym leaves.writes.more);
        was = unset;
        is = is_set;
        wanted = wants_then;
        effect = copied_effect;
      }

    -- it was set
    module _ (new : List (Note K V S)) (found : ℕ) (sees : Sees eq hash place bucket found log new) (is_other : found ≢ 1) where
      set_log : IsLogOf eq hash place t new
      set_log = log_more log new x sees.begins sees.kept

      set_begins : IsPrefix old new
      set_begins = prefix_through old log new begins sees.begins

      was_set : word_at (words_in (state_of new) ticket) index ≢ Unset
      was_set e = is_other (number_is new set_log set_begins found sees.holds ∙ ap number_of e)

      pub set_so : Copies eq hash place t segment old new ticket index to false
      set_so = record {
        found = new;
        begins = set_begins;
        goes_on = prefix_self new;
        was = was_set;
        is = was_set;
        wanted = copy_wanted old new set_log set_begins some_yet segment ticket index to wants;
        effect = λ w. copy_there eq (hash t.hasher) (state_of new) (keys_of (place t.hasher t.segments) (state_of new) segment) segment ticket index
            w.from w.laid w.key w.call w.stands.stands was_set;
      }
