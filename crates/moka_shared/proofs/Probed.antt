-- What a probe knows, as the log goes on and the probe does.
use Rattle.std.proofs.Common.{◌≡◌, ℕ, ◌+◌, ◌^◌, ◌<◌, ◌≤◌, ◌==◌, Bool, true, false, List, length, Option, Some, None, suc, refl, sym, ap, subst, ◌∙◌, arith}
use Rattle.std.proofs.lemmas.Bool.{eq-eqb}
use Rattle.std.specs.Option.{option_map_or}
use denote.Ref.{Bor}
use mathlib.Core.List.{IsPrefix}
use Rattle.moka_words.specs.declared.words.Word.{Word}
use Rattle.moka_words.specs.declared.words.Word.TheVariants.{Unset, Empty, Live, Tomb, SealedEmpty, SealedLive, SealedTomb}
use Rattle.moka_words.specs.Words.{is_sealed, node_of, stored_in, word_at}
use Rattle.moka_words.specs.Arrays.{bucket_at, IsArray}
use Rattle.moka_words.specs.Later.{HasOther, IsAbsent}
use Rattle.moka_words.proofs.Passing.{ends_absent}
use Rattle.moka_growth.specs.declared.kinds.CallKind.TheVariants as kind
use Rattle.moka_growth.specs.Calls.{Call, Probe}
use Rattle.moka_growth.specs.Fits.{IsKey, IsOpen}
use Rattle.moka_growth.proofs.Exchanging.{bucket_within}
use Rattle.moka_growth.proofs.Finding.{FindsIn, absent_in, finds_here, finds_root}
use Rattle.moka_growth.proofs.Leading.{passed_more}
use Rattle.moka_pairs.specs.Keys.{Agrees, hash_by, mine_by, own_by, own_for, same_by}
use Rattle.moka_pairs.specs.Pairs.{pair_at}
use Rattle.moka_pairs.specs.Segments.{FitsAll, IsHashed}
use Rattle.moka_pairs.proofs.Divided.{segment_has}
use Rattle.moka_pairs.proofs.Names.{agrees_now, is_key}
use Rattle.moka_history.specs.declared.note.Note.{Note}
use Rattle.moka_history.specs.Entries.{map_after}
use Rattle.moka_history.specs.States.{State, memory_of, words_in}
use Rattle.moka_history.specs.Logs.{entries_of, state_of}
use Rattle.moka_history.specs.Rules.{IsFront, IsKept}
use Rattle.moka_history.specs.Keeping.{IsDivided}
use Rattle.moka_history.proofs.Fronts.{fits_more, fits_still, found_now, good_now, length_now, words_have_pairs}
use Rattle.moka_history.proofs.Named.{array_is}
use Rattle.moka_history.proofs.Lists.{one_item}
use Rattle.moka_shared.specs.declared.probe.Met.TheVariants as met
use Rattle.moka_shared.specs.Meeting.{IsOpenBy, IsOthers, Meets, Tells}
use Rattle.moka_shared.specs.Probing.{EndsAt, HasProbed, IsFirstRoot, IsLogOf, Loads, own_keys, own_words}
use Rattle.moka_shared.specs.Tables.{Table}
use Rattle.moka_shared.proofs.Loading.{bare_first, first_rooted, first_was, kept_as, opened_some}

-- the segment of a key
abbrev pub own_at : {K S : Type 0} → (S → ℕ → K → ℕ) → Table S → K → ℕ
own_at place t key = place t.hasher t.segments key

-- the call of a look that has passed so many buckets of this segment
abbrev pub looking : (segment size hash passed : ℕ) → Call
looking segment size hash passed = record { kind = kind.Get; hash = hash; spent = false; point = Probe (suc segment) size passed }

-- a free word, or one of a key, isn't sealed
pub open_bare : (own : ℕ → Bool) (w : Word) → IsOpen own w → is_sealed w ≡ false
open_bare own Unset opens = absurd opens
open_bare own Empty opens = refl
open_bare own (Live n) opens = refl
open_bare own (Tomb n) opens = refl
open_bare own SealedEmpty opens = absurd opens
open_bare own (SealedLive n) opens = absurd opens
open_bare own (SealedTomb n) opens = absurd opens

is_hashed : {K : Type 0} (by : K → ℕ) (key : K) (segment size h passed : ℕ) → h ≡ by key → IsHashed by (Some key) (looking segment size h passed)
is_hashed by key segment size h passed is k e = is ∙ ap by (one_item e)

module _ {K V S : Type 0} (eq : K → K → Bool) (hash : S → K → ℕ) (place : S → ℕ → K → ℕ) (divided : IsDivided eq hash place) (t : Table S) (key : K)
    (below : place t.hasher t.segments key < t.segments) (h : ℕ) (h_is : h ≡ hash t.hasher key) where
  pub begins_probed : (log : List (Note K V S)) → HasProbed eq place t key h log 0
  begins_probed log keys agrees k less = absurd (omega (arith, less))

  module _ (log : List (Note K V S)) (x : IsLogOf eq hash place t log) where
    abbrev kept : IsKept eq hash place log
    kept = kept_as eq hash place t log x

    abbrev now : State K V
    now = state_of log

    abbrev words : List Word
    words = own_words place t key log

    abbrev known : ℕ → Option K
    known = own_keys place t key log

    pub long : length words ≡ t.size
    long = length_now eq hash place log kept (own_at place t key) below

    -- the probe, as a call knows it
    fits : (passed : ℕ) → passed < t.size → HasProbed eq place t key h log passed →
        FitsAll eq (hash t.hasher) known (Some key) (memory_of now (own_at place t key)) (looking (own_at place t key) t.size h passed)
    fits passed inside probed keys agrees = record {
      rooted = first_was eq hash place t log x (own_at place t key) below;
      size_is = sym long;
      passed_are = probed keys agrees;
      more = inside;
    }

    -- the key of a node that a word names
    module _ (index n : ℕ) (named : node_of (word_at words index) ≡ Some n) where
      pub pair : (p : K × V) × (now.pairs n ≡ Some p) × (place t.hasher t.segments p.0 ≡ (own_at place t key)) × (n ≤ 2 ^ 60)
      pair = words_have_pairs eq hash place log kept (own_at place t key) (suc (own_at place t key)) (first_rooted eq hash place t log x (own_at place t key) below) index n named

      pub known_is : known n ≡ Some pair.0.0
      known_is = segment_has (λ k. place t.hasher t.segments k == (own_at place t key)) now.pairs n pair.0 pair.1 (eq-eqb (place t.hasher t.segments pair.0.0) (own_at place t key) pair.2)

      -- the test tells whether it is the call's own
      pub own_is : (keys : ℕ → Option K) → Agrees keys known → (b : Bool) → Tells (eq key) now.pairs n b → own_by eq keys key n ≡ b
      own_is keys agrees b tells = ap (λ o. option_map_or (eq key) o false) (agrees n pair.0.0 known_is) ∙ tells pair.0 pair.1

    -- one bucket more is passed
    pub probed_more : (passed : ℕ) → HasProbed eq place t key h log passed → (n : ℕ) →
        node_of (word_at words (bucket_at t.size h passed)) ≡ Some n → Tells (eq key) now.pairs n false → HasProbed eq place t key h log (suc passed)
    probed_more passed probed n named tells keys agrees =
        passed_more (own_for eq keys (Some key)) words h passed (probed keys agrees)
        (subst (λ m. HasOther (own_for eq keys (Some key)) (word_at words (bucket_at m h passed))) (sym long)
        (n, named, own_is (bucket_at t.size h passed) n named keys agrees false tells))

    -- where it ends
    pub ends_at : (passed : ℕ) (word : Word) → HasProbed eq place t key h log passed → passed < t.size →
        word_at words (bucket_at t.size h passed) ≡ word → IsOpenBy (eq key) now.pairs word → EndsAt eq place t key h log passed word
    ends_at passed word probed inside there opens = record {
      probed = probed;
      within = inside;
      there = there;
      opens = by word there opens;
    }
      where
        by : (w : Word) → word_at words (bucket_at t.size h passed) ≡ w → IsOpenBy (eq key) now.pairs w → IsOpen (own_by eq known key) w
        by Unset e o = absurd o
        by Empty e o = tt
        by (Live n) e o = own_is (bucket_at t.size h passed) n (ap node_of e) known (agrees_now known) true o
        by (Tomb n) e o = own_is (bucket_at t.size h passed) n (ap node_of e) known (agrees_now known) true o
        by SealedEmpty e o = absurd o
        by (SealedLive n) e o = absurd o
        by (SealedTomb n) e o = absurd o

    abbrev own : ℕ → Bool
    own = own_by eq known key

    own_key : IsKey (hash_by (hash t.hasher) known) (same_by eq known) (mine_by known) own (hash t.hasher key)
    own_key = is_key eq divided.laws (hash t.hasher) (divided.hashed t.hasher) key known

    array : IsArray (hash_by (hash t.hasher) known) (same_by eq known) words
    array = (array_is eq (hash t.hasher) (place t.hasher t.segments) now (entries_of log) (good_now eq hash place log kept) (own_at place t key)
        (suc (own_at place t key)) (first_rooted eq hash place t log x (own_at place t key) below)).array

    absent : (passed : ℕ) → HasProbed eq place t key h log passed → (passed < length words → node_of (word_at words (bucket_at (length words) h passed)) ≡ None) →
        IsAbsent own words
    absent passed probed free =
        ends_absent (hash_by (hash t.hasher) known) (same_by eq known) own words h passed array (λ j n e o. own_key.hashed n o ∙ sym h_is)
        (probed known (agrees_now known)) free

    history : IsFirstRoot (own_at place t key) log → (found : Option ℕ) → FindsIn own words found → map_after eq (entries_of log) key ≡ pair_at now.pairs found
    history first found finds = found_now eq hash place log kept divided key found below (finds_root own (memory_of now (own_at place t key)) (suc (own_at place t key)) first found finds)

    -- where it ended the first array is the root
    pub ended_first : (passed : ℕ) (word : Word) → EndsAt eq place t key h log passed word → IsFirstRoot (own_at place t key) log
    ended_first passed word ends = bare_first eq hash place t log x (own_at place t key) (bucket_at t.size h passed) below (bucket_within t.size h passed ends.within)
        (ap is_sealed ends.there ∙ open_bare own word ends.opens)

    -- what the map has where it ended
    pub ended_is_history : (passed : ℕ) (word : Word) → EndsAt eq place t key h log passed word → map_after eq (entries_of log) key ≡ pair_at now.pairs (stored_in word)
    ended_is_history passed word ends =
        history (ended_first passed word ends) (stored_in word) (finds_here {hash = hash_by (hash t.hasher) known} {same = same_by eq known} own_key.one words array (bucket_at t.size h passed) word
        ends.there ends.opens
        (λ empty. absent passed ends.probed (λ inside. ap (λ m. node_of (word_at words (bucket_at m h passed))) long ∙ (ap node_of (ends.there ∙ empty)))))

    pub full_is_history : HasProbed eq place t key h log t.size × IsFirstRoot (own_at place t key) log → map_after eq (entries_of log) key ≡ None
    full_is_history (probed, first) = history first None (absent_in own words (absent t.size probed (λ inside. absurd (let l = long in omega (arith, inside, l)))))

  -- what was passed after a front stays passed
  pub probed_lasts : (front log : List (Note K V S)) → IsLogOf eq hash place t front → (x : IsLogOf eq hash place t log) → IsPrefix front log → (passed : ℕ) →
      passed < t.size → HasProbed eq place t key h front passed → HasProbed eq place t key h log passed
  probed_lasts front log y x begins passed inside probed keys agrees =
      let is : IsFront front log = record { some = opened_some t.segments t.size t.hasher front y.opened; begins = begins } in
      let m = kept_as eq hash place t log x in
      (fits_still eq hash place log m front is (own_at place t key) below (Some key) (looking (own_at place t key) t.size h passed) divided (is_hashed (hash t.hasher) key (own_at place t key) t.size h passed h_is) tt
      (fits_more eq hash place log m front is (own_at place t key) below (Some key) (looking (own_at place t key) t.size h passed) (memory_of (state_of front) (own_at place t key)) (fits front y passed inside probed))
      keys agrees).passed_are

  -- a word that was loaded where the probe stands
  module _ (front log : List (Note K V S)) (y : IsLogOf eq hash place t front) (segment index : ℕ) (word : Word)
      (loads : Loads eq hash place t segment index word front log) (is : segment ≡ (own_at place t key)) (passed : ℕ) (at : index ≡ bucket_at t.size h passed)
      (inside : passed < t.size) (probed : HasProbed eq place t key h front passed) where
    still : HasProbed eq place t key h log passed
    still = probed_lasts front log y loads.goes_on.is_log loads.goes_on.begins passed inside probed

    pub there : word_at (own_words place t key log) (bucket_at t.size h passed) ≡ word
    there =
        ap (λ j. word_at (words_in (state_of log) (suc j)) (bucket_at t.size h passed)) (sym is)
        ∙ (ap (λ k. word_at (words_in (state_of log) (suc segment)) k) (sym at) ∙ loads.there)

    -- where it isn't sealed, the array is the root
    pub loaded_first : is_sealed word ≡ false → IsFirstRoot (own_at place t key) log
    loaded_first bare = bare_first eq hash place t log loads.goes_on.is_log (own_at place t key) (bucket_at t.size h passed) below
        (bucket_within t.size h passed inside) (ap is_sealed there ∙ bare)

    pub first_past : IsOthers (eq key) (state_of log).pairs word → IsFirstRoot (own_at place t key) log
    first_past m = loaded_first m.3

    -- it is another key's, and is passed
    pub goes_past : IsOthers (eq key) (state_of log).pairs word → HasProbed eq place t key h log (passed + 1)
    goes_past m =
        let more : suc passed ≡ passed + 1 = omega arith in
        subst (λ n. HasProbed eq place t key h log n) more (probed_more log loads.goes_on.is_log passed still m.0 (ap node_of there ∙ m.1) m.2)

    -- the probe ends there
    pub stops_open : {N : Type 0} (shown : Option (Bor N)) → Meets (eq key) (state_of log).pairs word (met.Open shown) → EndsAt eq place t key h log passed word
    stops_open shown m = ends_at log loads.goes_on.is_log passed word still inside there m
