-- The words of a first array that are loaded one after the other, all of them sealed.
use Rattle.std.proofs.Common.{◌≡◌, ℕ, ◌+◌, ◌<◌, ◌≤◌, ◌==◌, Bool, true, false, List, [], ◌∷◌, ◌++◌, length, Option, Some, None, suc, inl, inr, refl, sym, ap, subst, ◌∙◌, arith, ltb, if◌then◌else◌, length-append}
use Rattle.std.proofs.lemmas.Bool.{eq-eqb, le-ltb, lt-ltb}
use Rattle.std.proofs.lemmas.List.{append-nil}
use Rattle.std.specs.Option.{is_some, option_map, option_map_or, option_to_list}
use mathlib.Core.List.{IsPrefix}
use Rattle.moka_words.specs.declared.words.Word.{Word}
use Rattle.moka_words.specs.declared.accesses.Seen.{Seen}
use Rattle.moka_words.specs.declared.accesses.Seen.TheVariants as seen
use Rattle.moka_words.specs.Words.{is_sealed, node_of, stored_in, word_at}
use Rattle.moka_words.specs.Effect.{Memory, Effect}
use Rattle.moka_words.proofs.Laying.{stored_is_key}
use Rattle.moka_growth.specs.declared.kinds.CallKind.TheVariants as kind
use Rattle.moka_growth.specs.Calls.{Call, Going, Point, Step, access_of, goes, next_at, next_of, sealed, wanted}
use Rattle.moka_growth.specs.Calls as point
use Rattle.moka_growth.specs.Fits.{FitsAt, Rests}
use Rattle.moka_growth.specs.Growing.{next_size}
use Rattle.moka_pairs.specs.Keys.{Agrees, hash_by, own_for}
use Rattle.moka_pairs.specs.Segments.{Sees}
use Rattle.moka_pairs.proofs.Divided.{segment_has}
use Rattle.moka_pairs.proofs.Steps.{fits_after}
use Rattle.moka_history.specs.declared.note.Note.{Note}
use Rattle.moka_history.specs.Keeping.{IsDivided, IsSmall, StandsAt}
use Rattle.moka_history.specs.Logs.{state_of}
use Rattle.moka_history.specs.Rules.{IsKept, keys_of}
use Rattle.moka_history.specs.States.{memory_of, words_in}
use Rattle.moka_history.proofs.Fronts.{good_now, length_now, segments_are, words_have_pairs}
use Rattle.moka_history.proofs.Grows.{stands_now}
use Rattle.moka_history.proofs.Lists.{more_get, no_item, one_item}
use Rattle.moka_shared.specs.Fills.{AreFew, HasHash, HasKept, KeepsNode}
use Rattle.moka_shared.specs.Links.{HasSealed, WantsLink, sealing_at}
use Rattle.moka_shared.specs.Probing.{IsLogOf}
use Rattle.moka_shared.specs.Tables.{Table}
use Rattle.moka_shared.proofs.Loading.{first_rooted, first_was, kept_as}

-- a call that loads words to seal them rests wherever it stands
pub walk_rests : (segment size index : ℕ) (kept : List (ℕ × ℕ)) → Rests (sealing_at segment size index kept)
walk_rests segment size index kept = by (ltb index size)
  where
    by : (b : Bool) → Rests (if b then point.Seal (suc segment) size index kept else point.Next (Some (suc segment)) size kept)
    by true = tt
    by false = tt

-- it goes on past a sealed word
walk_goes : (c : Call) (segment size index : ℕ) (kept : List (ℕ × ℕ)) (word : Word) (h : ℕ) (s : Bool) → is_sealed word ≡ true →
    next_at c (point.Seal (suc segment) size index kept) (seen.Word word h s)
    ≡ Going (record c { point = sealing_at segment size (suc index) (kept ++ option_to_list (option_map (λ n. (n, h)) (stored_in word))) })
walk_goes c segment size index kept word h s is =
    let more = kept ++ option_to_list (option_map (λ n. (n, h)) (stored_in word)) in
    ap (λ b. if b then sealed c (suc segment) size index word h kept else goes c (point.Close (suc segment) size index word h kept)) is
    ∙ by more (ltb (suc index) size)
  where
    by : (more : List (ℕ × ℕ)) (b : Bool) →
        (if b then goes c (point.Seal (suc segment) size (suc index) more) else goes c (point.Next (Some (suc segment)) size more))
        ≡ Going (record c { point = if b then point.Seal (suc segment) size (suc index) more else point.Next (Some (suc segment)) size more })
    by more true = refl
    by more false = refl

-- how many nodes are kept then
pub kept_more : (kept : List (ℕ × ℕ)) (word : Word) (h stored : ℕ) → stored ≡ length kept → (more : ℕ) →
    (IsMore : (is_some (stored_in word) ≡ true → more ≡ 1) × (is_some (stored_in word) ≡ false → more ≡ 0)) →
    stored + more ≡ length (kept ++ option_to_list (option_map (λ n. (n, h)) (stored_in word)))
kept_more kept word h stored is more (one, none) = by (stored_in word) refl
  where
    by : (o : Option ℕ) → stored_in word ≡ o → stored + more ≡ length (kept ++ option_to_list (option_map (λ n. (n, h)) o))
    by None e =
        let no = none (ap is_some e) in
        let long = length-append kept ([]) in
        omega (arith, is, no, long)
    by (Some n) e =
        let yes = one (ap is_some e) in
        let long = length-append kept ((n, h) ∷ []) in
        omega (arith, is, yes, long)

-- no nodes are few, and so are those with one more
pub no_few : AreFew []
no_few i p at = absurd (no_item at)

pub few_more : {K V : Type 0} (by : K → ℕ) (pairs : ℕ → Option (K × V)) (word : Word) (old new : List (ℕ × ℕ)) (h : ℕ) →
    ((n : ℕ) → stored_in word ≡ Some n → HasHash by pairs n h) → KeepsNode by pairs word old new → IsSmall word → AreFew old → AreFew new
few_more by pairs word old new h hashed keeps small few = subst AreFew (sym (keeps h hashed)) (with_word (stored_in word) refl)
  where
    with_word : (o : Option ℕ) → stored_in word ≡ o → AreFew (old ++ option_to_list (option_map (λ n. (n, h)) o))
    with_word None is = subst AreFew (sym (append-nil old)) few
    with_word (Some n) is = λ i p at. elim (more_get old (n, h) i p at) [
      | inl was ↦ few i p was
      | inr last ↦ (let low = small n (stored_is_key word n is) in let same = ap (λ r. r.0) last.1 in omega (arith, low, same))
    ]

-- and one more at most
pub kept_count : {K V : Type 0} (by : K → ℕ) (pairs : ℕ → Option (K × V)) (word : Word) (old new : List (ℕ × ℕ)) (h : ℕ) →
    ((n : ℕ) → stored_in word ≡ Some n → HasHash by pairs n h) → KeepsNode by pairs word old new → length new ≤ length old + 1
kept_count by pairs word old new h hashed keeps = subst (λ ks. length ks ≤ length old + 1) (sym (keeps h hashed)) (with_word (stored_in word))
  where
    with_word : (o : Option ℕ) → length (old ++ option_to_list (option_map (λ n. (n, h)) o)) ≤ length old + 1
    with_word None = let long = length-append old ([]) in omega (arith, long)
    with_word (Some n) = let long = length-append old ((n, h) ∷ []) in omega (arith, long)

module _ {K V S : Type 0} (eq : K → K → Bool) (hash : S → K → ℕ) (place : S → ℕ → K → ℕ) (divided : IsDivided eq hash place) (t : Table S)
    (segment : ℕ) (below : segment < t.segments) where
  -- it begins at the first word
  pub begins_kept : (log : List (Note K V S)) → IsLogOf eq hash place t log → 0 < t.size → HasKept eq hash place t segment 0 [] log
  begins_kept log x some = record {
    call = record { kind = kind.Insert; hash = 0; spent = false; point = sealing_at segment t.size 0 [] };
    stands = record {
      within = subst (λ n. segment < n) (sym (segments_are eq hash place log (kept_as eq hash place t log x))) below;
      hashed = λ k e. absurd (no_item e);
      fits = λ ks agrees. subst
          (λ b. FitsAt (hash_by (hash t.hasher) ks) (own_for eq ks None) 0 (memory_of (state_of log) segment)
          (if b then point.Seal (suc segment) t.size 0 [] else point.Next (Some (suc segment)) t.size []))
          (sym (lt-ltb 0 t.size some))
          (record {
            rooted = first_was eq hash place t log x segment below;
            size_is = sym (length_now eq hash place log (kept_as eq hash place t log x) segment below);
            more = some;
            sealed = λ i low. absurd (omega (arith, low));
            kept_are = refl;
          });
      stands = refl;
    };
  }

  pub begins_walk : (log : List (Note K V S)) → IsLogOf eq hash place t log → 0 < t.size → HasSealed eq hash place t segment 0 0 log
  begins_walk log x some = let k = begins_kept log x some in record { call = k.call; kept = []; stands = k.stands; stored_is = refl }

  -- it goes on past a sealed word that was loaded
  module _ (old log : List (Note K V S)) (y : IsLogOf eq hash place t old) (x : IsLogOf eq hash place t log) (begins : IsPrefix old log) (index : ℕ)
      (inside : index < t.size) (walked_kept : List (ℕ × ℕ)) (walked : HasKept eq hash place t segment index walked_kept old) (word : Word)
      (there : word_at (words_in (state_of log) (suc segment)) index ≡ word) (is : is_sealed word ≡ true) where
    abbrev kept : IsKept eq hash place log
    kept = kept_as eq hash place t log x

    abbrev known : ℕ → Option K
    known = keys_of (place t.hasher t.segments) (state_of log) segment

    abbrev m : Memory
    m = memory_of (state_of log) segment

    stands : StandsAt eq (hash t.hasher) (place t.hasher t.segments) (state_of log) segment None walked.call (sealing_at segment t.size index walked_kept)
    stands = stands_now eq hash place divided t.segments t.size t.hasher old y.opened log kept begins segment None walked.call
        (sealing_at segment t.size index walked_kept) (walk_rests segment t.size index walked_kept) walked.stands

    at_seal : walked.call.point ≡ point.Seal (suc segment) t.size index walked_kept
    at_seal = stands.stands
        ∙ ap (λ b. if b then point.Seal (suc segment) t.size index walked_kept else point.Next (Some (suc segment)) t.size walked_kept) (lt-ltb index t.size inside)

    abbrev h : ℕ
    h = option_map_or (hash_by (hash t.hasher) known) (node_of word) 0

    -- the hash of its node, whatever keys are still to come
    one_hash : (ks : ℕ → Option K) → Agrees ks known → h ≡ option_map_or (hash_by (hash t.hasher) ks) (node_of word) 0
    one_hash ks agrees = by (node_of word) refl
      where
        by : (o : Option ℕ) → node_of word ≡ o → option_map_or (hash_by (hash t.hasher) known) o 0 ≡ option_map_or (hash_by (hash t.hasher) ks) o 0
        by None e = refl
        by (Some n) e =
            let (p, has, own, low) = words_have_pairs eq hash place log kept segment (suc segment) (first_rooted eq hash place t log x segment below) index n (ap node_of there ∙ e) in
            let is_known : known n ≡ Some p.0 = segment_has (λ k. place t.hasher t.segments k == segment) (state_of log).pairs n p has (eq-eqb (place t.hasher t.segments p.0) segment own) in
            ap (λ k. option_map_or (hash t.hasher) k 0) (is_known ∙ sym (agrees n p.0 is_known))

    no_own : (o : Option ℕ) → false ≡ option_map_or (λ n. false) o false
    no_own None = refl
    no_own (Some n) = refl

    abbrev saw : Seen
    saw = seen.Word word h false

    sees : Sees eq (hash t.hasher) known None walked.call saw m m
    sees = record {
      hashed = stands.hashed;
      fits = stands.fits;
      effect = λ ks agrees. subst (λ a. Effect (hash_by (hash t.hasher) ks) (own_for eq ks None) a saw m m) (sym (ap (wanted walked.call.hash) at_seal))
          (sym there, one_hash ks agrees, no_own (node_of word), (λ a. refl, record { arrays = refl; rooted = refl; fresh = refl }));
      choice = λ ks agrees. tt;
    }

    abbrev more : List (ℕ × ℕ)
    more = walked_kept ++ option_to_list (option_map (λ n. (n, h)) (stored_in word))

    abbrev next_call : Call
    next_call = record walked.call { point = sealing_at segment t.size (suc index) more }

    goes_on : next_of walked.call saw ≡ Going next_call
    goes_on = ap (λ p. next_at walked.call p saw) at_seal ∙ walk_goes walked.call segment t.size index walked_kept word h false is

    pub keeps_on : HasKept eq hash place t segment (suc index) more log
    keeps_on = record {
      call = next_call;
      stands = record {
        within = stands.within;
        hashed = stands.hashed;
        fits = fits_after eq divided.laws (hash t.hasher) (divided.hashed t.hasher) known None walked.call saw m m
            ((good_now eq hash place log kept).sound segment stands.within) sees next_call goes_on;
        stands = refl;
      };
    }

    hashed_so : (n : ℕ) → stored_in word ≡ Some n → HasHash (hash t.hasher) (state_of log).pairs n h
    hashed_so n stored p named =
        let node = stored_is_key word n stored in
        let (q, has, own, low) = words_have_pairs eq hash place log kept segment (suc segment) (first_rooted eq hash place t log x segment below) index n (ap node_of there ∙ node) in
        let is_known : known n ≡ Some q.0 = segment_has (λ k. place t.hasher t.segments k == segment) (state_of log).pairs n q has (eq-eqb (place t.hasher t.segments q.0) segment own) in
        ap (λ o. option_map_or (hash_by (hash t.hasher) known) o 0) node
        ∙ (ap (λ o. option_map_or (hash t.hasher) o 0) is_known ∙ ap (λ r. hash t.hasher r.0) (one_item (sym has ∙ named)))

    -- the node of the word is kept
    pub keeps_word : (all : List (ℕ × ℕ)) → KeepsNode (hash t.hasher) (state_of log).pairs word walked_kept all → IsSmall word → AreFew walked_kept →
        HasKept eq hash place t segment (suc index) all log × AreFew all × (length all ≤ length walked_kept + 1)
    keeps_word all keeps small few = (
      subst (λ ks. HasKept eq hash place t segment (suc index) ks log) (sym (keeps h hashed_so)) keeps_on,
      few_more (hash t.hasher) (state_of log).pairs word walked_kept all h hashed_so keeps small few,
      kept_count (hash t.hasher) (state_of log).pairs word walked_kept all h hashed_so keeps,
    )

  -- the same, where the nodes are counted alone
  module _ (old log : List (Note K V S)) (y : IsLogOf eq hash place t old) (x : IsLogOf eq hash place t log) (begins : IsPrefix old log) (index stored : ℕ)
      (inside : index < t.size) (sealed_so : HasSealed eq hash place t segment index stored old) (word : Word)
      (there : word_at (words_in (state_of log) (suc segment)) index ≡ word) (is : is_sealed word ≡ true) where
    pub counts_on : (more_is : ℕ) → (is_some (stored_in word) ≡ true → more_is ≡ 1) × (is_some (stored_in word) ≡ false → more_is ≡ 0) →
        HasSealed eq hash place t segment (suc index) (stored + more_is) log
    counts_on more_is by =
        let k = keeps_on old log y x begins index inside sealed_so.kept (record { call = sealed_so.call; stands = sealed_so.stands }) word there is in record {
          call = k.call;
          kept = more old log y x begins index inside sealed_so.kept (record { call = sealed_so.call; stands = sealed_so.stands }) word there is;
          stands = k.stands;
          stored_is = kept_more sealed_so.kept word (h old log y x begins index inside sealed_so.kept (record { call = sealed_so.call; stands = sealed_so.stands }) word there is)
              stored sealed_so.stored_is more_is by;
        }

  -- past the last word it wants an array of this length
  pub walked_wants : (log : List (Note K V S)) (stored count : ℕ) → HasSealed eq hash place t segment t.size stored log →
      count ≡ next_size (Some (suc segment)) t.size stored → WantsLink eq hash place t.hasher t.segments segment count log
  walked_wants log stored count w is = record {
    key = None;
    call = record w.call { point = point.Link (Some (suc segment)) t.size w.kept };
    size = t.size;
    kept = w.kept;
    stands = record {
      within = w.stands.within;
      hashed = w.stands.hashed;
      fits = λ ks agrees. subst (λ p. FitsAt (hash_by (hash t.hasher) ks) (own_for eq ks None) w.call.hash (memory_of (state_of log) segment) p) at_next (w.stands.fits ks agrees);
      stands = refl;
    };
    count_is = is ∙ ap (next_size (Some (suc segment)) t.size) w.stored_is;
  }
    where
      at_next : w.call.point ≡ point.Next (Some (suc segment)) t.size w.kept
      at_next = w.stands.stands
          ∙ ap (λ b. if b then point.Seal (suc segment) t.size t.size w.kept else point.Next (Some (suc segment)) t.size w.kept) (le-ltb t.size t.size (omega arith))
