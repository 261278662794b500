-- An exchange may be made, and what it adds.
use Rattle.std.proofs.Common.{◌≡◌, ◌≢◌, ℕ, ◌+◌, ◌*◌, ◌<◌, ◌≤◌, Bool, false, cond, List, [], ◌∷◌, ◌++◌, length, map, Some, suc, inl, inr, refl, sym, ap, subst, ◌∙◌, arith}
use Rattle.std.proofs.lemmas.Bool.{eq-eqb, false≢true}
use Rattle.std.specs.List.{slice_get}
use Rattle.std.specs.Option.{option_map}
use mathlib.Core.List.{IsPrefix}
use Rattle.moka_hist.specs.Finite.{times}
use Rattle.moka_words.specs.declared.words.Word.{Word}
use Rattle.moka_words.specs.Words.{is_sealed, node_of, word_at}
use Rattle.moka_words.specs.Arrays.{bucket_at}
use Rattle.moka_growth.specs.declared.kinds.CallKind.TheVariants as kind
use Rattle.moka_growth.specs.Calls.{Call, Change}
use Rattle.moka_pairs.specs.Keys.{Agrees}
use Rattle.moka_pairs.specs.Pairs.{pair_at}
use Rattle.moka_history.specs.declared.note.Note.{Note}
use Rattle.moka_history.specs.declared.note.Note.TheVariants.{Changed}
use Rattle.moka_history.specs.Entries.{Entry}
use Rattle.moka_history.specs.States.{Ticket, after, memory_of, unopened, words_in}
use Rattle.moka_words.specs.Effect.{SetsWord}
use Rattle.std.proofs.lemmas.Option.{slice_get_within}
use Rattle.moka_history.proofs.Cells.{changed_sets}
use Rattle.moka_history.specs.Logs.{entries_of, entry_of, entry_with, state_of}
use Rattle.moka_history.specs.Cells.{cells_of, number_of}
use Rattle.moka_history.specs.Moving.{HoldsThere}
use Rattle.moka_history.specs.Rules.{IsFront, made_on}
use Rattle.moka_history.specs.Keeping.{Comes, IsDivided, IsSmall}
use Rattle.moka_history.proofs.Folds.{entries_begin, state_more}
use Rattle.moka_history.proofs.Fronts.{cells_now, entry_between, good_now, lasts_now, segments_are, words_have_pairs}
use Rattle.moka_history.proofs.Lists.{map_more, one_item, prefix_through, times_more}
use Rattle.moka_history.proofs.Numbers.{numbers_tell}
use Rattle.moka_shared.specs.declared.asked.Exchange.{Exchange}
use Rattle.moka_shared.specs.Accesses.{Exchanged, IsOther}
use Rattle.moka_shared.specs.Asks.{exchange_note}
use Rattle.moka_shared.specs.Changes.{Adds, CanChange, IsMet}
use Rattle.moka_shared.specs.Hashing.{segment_of}
use Rattle.moka_shared.specs.Probing.{GoesOn, HasProbed, IsLogOf, ReadsAt}
use Rattle.moka_shared.specs.Steps.{MayExchange, Sees, Spends}
use Rattle.moka_shared.specs.Tables.{Table}
use Rattle.moka_shared.proofs.Loading.{first_rooted, first_was, found_is, found_there, kept_as, opened_more, opened_some, row_is}
use Rattle.moka_shared.proofs.Probed.{long, own_at, probed_lasts}

-- an entry that comes last is one of those made on its ticket
made_last : {K V : Type 0} (es : List (Entry K V)) (e : Entry K V) → 1 ≤ made_on e.ticket (es ++ e ∷ [])
made_last es e =
    let last = times_more e.ticket (map (λ x. x.ticket) es) e.ticket in
    let same = eq-eqb e.ticket e.ticket refl in
    let all = ap (times e.ticket) (map_more (λ x. x.ticket) es e) in
    let more = ap (λ b. cond b (times e.ticket (map (λ x. x.ticket) es) + 1) (times e.ticket (map (λ x. x.ticket) es))) same in
    let is : made_on e.ticket (es ++ e ∷ []) ≡ times e.ticket (map (λ x. x.ticket) es) + 1 = all ∙ (last ∙ more) in
    omega (arith, is)

module _ {K V S : Type 0} (eq : K → K → Bool) (hash : S → K → ℕ) (place : S → ℕ → K → ℕ) (divided : IsDivided eq hash place) (t : Table S) (key : K)
    (h passed : ℕ) (from to : Word) (ticket : ℕ) (e : Entry K V) (front log : List (Note K V S))
    (can : CanChange eq hash place t h passed from to ticket key e front log) (x : IsLogOf eq hash place t log)
    (segment at : ℕ) (segment_is : segment ≡ segment_of t.segments h) (hash_is : segment_of t.segments h ≡ own_at place t key) (at_is : at ≡ bucket_at t.size h passed)
    (segment_below : segment < t.segments) (at_inside : at < t.size) where
  own_is : segment ≡ own_at place t key
  own_is = segment_is ∙ hash_is

  below : own_at place t key < t.segments
  below = subst (λ n. n < t.segments) own_is segment_below

  abbrev index : ℕ
  index = bucket_at t.size h passed

  inside : index < t.size
  inside = subst (λ n. n < t.size) at_is at_inside

  abbrev bucket : ℕ
  bucket = 1 + (own_at place t key * t.size + index)

  is_front : IsFront front log
  is_front = record { some = opened_some t.segments t.size t.hasher front can.was.opened; begins = can.begins }

  still : HasProbed eq place t key h log passed
  still = probed_lasts eq hash place divided t key below h can.hashed front log can.was x can.begins passed can.ends.within can.ends.probed

  abbrev changing : Call
  changing = record { kind = kind.Insert; hash = h; spent = false; point = Change (suc (own_at place t key)) t.size passed from to }

  comes : Comes eq (hash t.hasher) (place t.hasher t.segments) (state_of log) key changing (suc (own_at place t key)) t.size passed from to
  comes = record {
    within = subst (λ m. (own_at place t key) < m) (sym (segments_are eq hash place log (kept_as eq hash place t log x))) below;
    hashed = can.hashed;
    fits = λ keys agrees. (
      record {
        rooted = first_was eq hash place t log x (own_at place t key) below;
        size_is = sym (long eq hash place divided t key below h can.hashed log x);
        passed_are = still keys agrees;
        more = can.ends.within;
      },
      can.changes keys agrees,
    );
    comes = refl;
  }

  array_is : segment + 1 ≡ suc (own_at place t key)
  array_is = (let e = own_is in omega (arith, e))

  module _ (there from_number : ℕ) (place_is : there ≡ 1 + (segment * t.size + at)) (from_is : from_number ≡ number_of from) where
    there_is : there ≡ bucket
    there_is = place_is ∙ (ap (λ s. 1 + (s * t.size + at)) own_is ∙ ap (λ i. 1 + (own_at place t key * t.size + i)) at_is)

    abbrev asked : Exchange
    asked = record { ticket = ticket; array = segment + 1; index = at; to = to }

    pub may_change : (to_number : ℕ) → to_number ≡ number_of to → MayExchange eq hash place there from_number to_number asked log
    may_change to_number to_is = record {
      segments = t.segments;
      size = t.size;
      hasher = t.hasher;
      opened = x.opened;
      key = key;
      call = changing;
      length_is = t.size;
      passed = passed;
      word = from;
      comes = subst (λ a. Comes eq (hash t.hasher) (place t.hasher t.segments) (state_of log) key changing a t.size passed from to) (sym array_is) comes;
      small = can.small.0;
      from_is = from_is;
      to_is = to_is;
      index_is = at_is;
      there =
          ap (λ a. slice_get ((state_of log).arrays a) at) array_is
          ∙ (ap (λ i. slice_get ((state_of log).arrays (suc (own_at place t key))) i) at_is
          ∙ (row_is eq hash place t log x (own_at place t key) index below inside ∙ ap Some (sym there_is)));
    }

    -- what the exchange adds
    module _ (new : List (Note K V S)) (spends : Spends eq hash place there from_number (exchange_note asked) log new) where
      abbrev m : List (Note K V S)
      m = spends.writes.log

      m_log : IsLogOf eq hash place t m
      m_log = record { kept = spends.writes.was_kept; opened = opened_more t.segments t.size t.hasher log m x.opened spends.writes.begins; some = x.some }

      m_front : IsFront log m
      m_front = record { some = opened_some t.segments t.size t.hasher log x.opened; begins = spends.writes.begins }

      pairs_then : Agrees (state_of m).pairs (state_of log).pairs
      pairs_then = (lasts_now eq hash place m (kept_as eq hash place t m m_log) log m_front).pairs

      abbrev word_then : Word
      word_then = word_at (words_in (state_of m) (suc (own_at place t key))) index

      small_then : IsSmall word_then
      small_then n names = (words_have_pairs eq hash place m (kept_as eq hash place t m m_log) (own_at place t key) (suc (own_at place t key))
          (first_rooted eq hash place t m m_log (own_at place t key) below) index n names).3

      held : HoldsThere bucket (number_of from) m
      held = subst (λ k. HoldsThere k (number_of from) m) there_is (subst (λ n. HoldsThere there n m) from_is spends.writes.holds)

      word_is : word_then ≡ from
      word_is = numbers_tell word_then from small_then can.small.0
          (sym (ap (λ c. c.0) (sym held ∙ ((cells_now eq hash place m (kept_as eq hash place t m m_log) (cells_of (state_of m)) refl).1 (suc (own_at place t key)) index
          bucket (row_is eq hash place t m m_log (own_at place t key) index below inside)).1)))

      is : entry_of {S = S} (state_of m) (Changed ticket (suc (own_at place t key)) index to) ≡ Some spends.entry
      is = ap (λ a. entry_of {S = S} (state_of m) (Changed ticket a index to)) (sym array_is)
          ∙ (ap (λ i. entry_of {S = S} (state_of m) (Changed ticket (segment + 1) i to)) (sym at_is) ∙ spends.is)

      entry_is : spends.entry ≡ e
      entry_is = one_item (sym is
          ∙ (ap (λ w. option_map (λ p. entry_with (state_of m).pairs ticket w to p.0) (pair_at (state_of m).pairs (node_of to))) word_is
          ∙ can.is (state_of m).pairs pairs_then))

      pub spent_log : GoesOn eq hash place t log new
      spent_log =
          let begins = prefix_through log m new spends.writes.begins (exchange_note asked ∷ [], sym spends.writes.more) in
          record {
            begins = begins;
            is_log = record { kept = spends.writes.kept; opened = opened_more t.segments t.size t.hasher log new x.opened begins; some = x.some };
          }

      -- it sets one word
      own_exchanged : Exchanged (own_at place t key) index from to log new
      own_exchanged =
          let note_is : exchange_note asked ≡ Changed ticket (suc (own_at place t key)) index to =
          ap (λ a. Changed ticket a at to) array_is ∙ ap (λ i. Changed ticket (suc (own_at place t key)) i to) at_is in
          let placed = (good_now eq hash place m (kept_as eq hash place t m m_log)).owned.places in
          let row = row_is eq hash place t m m_log (own_at place t key) index below inside in
          let within = slice_get_within ((state_of m).arrays (suc (own_at place t key))) index bucket row in
          let state_is : state_of new ≡ after {S = S} (state_of m) (exchange_note asked) = ap state_of spends.writes.more ∙ state_more unopened m (exchange_note asked) in
          record {
            found = m;
            begins = spends.writes.begins;
            goes_on = (exchange_note asked ∷ [], sym spends.writes.more);
            there = word_is;
            sets = subst (λ s. SetsWord (suc (own_at place t key)) index to (memory_of (state_of m) (own_at place t key)) (memory_of s (own_at place t key))) (sym state_is)
                (changed_sets S (state_of m) placed ticket (suc (own_at place t key)) index to within (exchange_note asked) note_is (own_at place t key)).0;
          }

      pub exchanged : Exchanged (segment_of t.segments h) index from to log new
      exchanged = subst (λ s. Exchanged s index from to log new) (sym hash_is) own_exchanged

      between : IsPrefix (entries_of log) (entries_of m)
      between = entries_begin log m spends.writes.begins

      pub adds_entry : Adds e log new
      adds_entry =
          let all : entries_of new ≡ (entries_of log ++ between.0) ++ e ∷ [] =
          spends.entries ∙ (ap (λ y. entries_of m ++ y ∷ []) entry_is ∙ ap (λ es. es ++ e ∷ []) (sym between.1)) in
          let once = (good_now eq hash place new (kept_as eq hash place t new spent_log.is_log)).drawn.once e.ticket in
          let some : 1 ≤ made_on e.ticket (entries_of new) =
          subst (λ es. 1 ≤ made_on e.ticket es) (sym all) (made_last (entries_of log ++ between.0) e) in
          record { between = between.0; entries = all; once = omega (arith, once, some) }

    -- what it met instead
    module _ (new : List (Note K V S)) (found : ℕ) (sees : Sees eq hash place there found log new) (other : found ≢ from_number)
        (own : ℕ) (away : slice_get (state_of new).cells own ≡ Some (Ticket ticket false)) where
      seen : Sees eq hash place bucket found log new
      seen = subst (λ k. Sees eq hash place k found log new) there_is sees

      new_log : IsLogOf eq hash place t new
      new_log = record { kept = sees.kept; opened = opened_more t.segments t.size t.hasher log new x.opened sees.begins; some = x.some }

      front_new : IsFront front new
      front_new = record { some = is_front.some; begins = prefix_through front log new can.begins sees.begins }

      differs : word_at (words_in (state_of new) (suc (own_at place t key))) index ≢ word_at (words_in (state_of front) (suc (own_at place t key))) index
      differs same = other (
          found_is eq hash place t log new x (own_at place t key) index below inside found seen
          ∙ (ap number_of (same ∙ can.ends.there) ∙ sym from_is)
          )

      module _ (word : Word) (told : (w : Word) → IsSmall w → found ≡ number_of w → word ≡ w) where
        pub reads : ReadsAt t h passed word new
        reads = found_there eq hash place t log new x h passed segment at there found segment_is at_is segment_below at_inside place_is can.ends.within sees word told

        own_there : word_at (words_in (state_of new) (suc (own_at place t key))) index ≡ word
        own_there = ap (λ s. word_at (words_in (state_of new) (suc s)) index) (sym hash_is) ∙ reads.there

        pub met_other : IsOther (segment_of t.segments h) index from word new
        met_other = record {
          there = reads.there;
          other = λ same. other (
              found_is eq hash place t log new x (own_at place t key) index below inside found seen
              ∙ (ap number_of (own_there ∙ same) ∙ sym from_is)
              );
        }

        -- where that isn't sealed, it was changed by an entry
        came : is_sealed word ≡ false → (y : Entry K V) × (slice_get (entries_of new) (length (entries_of front)) ≡ Some y) × (y.ticket ≢ ticket)
        came bare =
            elim (entry_between eq hash place new (kept_as eq hash place t new new_log) front front_new (own_at place t key) (suc (own_at place t key)) index
            (first_rooted eq hash place t front can.was (own_at place t key) below) differs) [
              | inl sealed ↦ absurd (false≢true (sym bare ∙ (ap is_sealed (sym own_there) ∙ sealed)))
              | inr made ↦ (let (y, at_front, others) = made in (y, at_front, others own ticket away))
            ]

        pub met_entry : is_sealed word ≡ false → IsMet t h passed ticket front word new
        met_entry bare =
            let entry = came bare in
            record { entry = entry.0; there = entry.1; other = entry.2; met = reads.there }
