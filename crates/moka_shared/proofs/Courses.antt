-- The course of a call whose loads a probe makes.
use Rattle.std.proofs.Common.{◌≡◌, ◌⊎◌, ℕ, zero, suc, ◌+◌, ◌*◌, ◌^◌, ◌<◌, ◌≤◌, Bool, true, false, List, [], ◌∷◌, Option, Some, None, inl, inr, refl, sym, ap, subst, ◌∙◌, if◌then◌else◌, arith, pow_mono}
use Rattle.std.proofs.Math.Nat.{le-min}
use Rattle.std.proofs.lemmas.Bool.{lt-leb, lt-ltb}
use Rattle.std.specs.Option.{option_map_or}
use Rattle.std.specs.Int.{IsPowerOfTwo}
use mathlib.Core.List.{IsPrefix}
use Rattle.moka_words.specs.declared.words.Word.{Word}
use Rattle.moka_words.specs.declared.words.Word.TheVariants.{Unset, Empty, Live, Tomb, SealedEmpty, SealedLive, SealedTomb}
use Rattle.moka_words.specs.declared.accesses.Seen.TheVariants as seen
use Rattle.moka_words.specs.Words.{is_sealed, node_of, stored_in, word_at}
use Rattle.moka_words.specs.Arrays.{bucket_at}
use Rattle.moka_words.specs.Effect.{Memory, IsUnchanged}
use Rattle.moka_growth.specs.declared.kinds.CallKind.{CallKind}
use Rattle.moka_growth.specs.declared.kinds.CallKind.TheVariants as kind
use Rattle.moka_growth.specs.Calls.{Step, Going, Seal, call_from, counted, in_root, is_due_by, past_all, probed}
use Rattle.moka_words.specs.Rehash.{has_many_tombstones, is_crowded, is_sparse, rehash_op}
use Rattle.moka_words.specs.declared.rehash.RehashOp.TheVariants.{Expand, Shrink, GcOnly, Skip}
use Rattle.moka_growth.specs.Fits.{IsOpen}
use Rattle.moka_pairs.specs.Keys.{Agrees, hash_by, own_by, own_for}
use Rattle.moka_pairs.specs.Pairs.{pair_at}
use Rattle.moka_history.specs.declared.note.Note.{Note}
use Rattle.moka_history.specs.Logs.{state_of}
use Rattle.moka_history.specs.Keeping.{IsDivided}
use Rattle.moka_pairs.proofs.Names.{agrees_now}
use Rattle.moka_history.proofs.Lists.{prefix_self, prefix_through}
use Rattle.moka_shared.specs.Accesses.{Accessed, Course, FoundSo, HasCome, HasKey, own_memory, probing, stands}
use Rattle.moka_shared.specs.declared.answers.TryGet.{TryGet}
use Rattle.moka_shared.specs.declared.answers.TryGet.TheVariants as get
use Rattle.moka_shared.specs.Looks.{Finds, IsFound}
use Rattle.moka_shared.specs.Meeting.{IsOthers}
use Rattle.moka_shared.specs.Probing.{EndsAt, HasProbed, IsFirstRoot, IsLogOf, Loads, own_keys, own_words}
use Rattle.moka_shared.specs.Tables.{Table}
use Rattle.moka_shared.proofs.Probed.{known_is, loaded_first, long, open_bare, own_at, own_is, there}

no_node : {n : ℕ} → None ≡ Some n → ⊥
no_node e = cc

no_other : true ≡ false → ⊥
no_other e = cc

pub unchanged : (m : Memory) → IsUnchanged m m
unchanged m = (λ a. refl, record { arrays = refl; rooted = refl; fresh = refl })

-- what has passed a bucket has begun
pub has_begun : (passed : ℕ) (Begun : Type 0) → 0 < passed → (passed ≡ 0) ⊎ Begun → Begun
has_begun passed Begun some (inl none) = absurd (omega (arith, some, none))
has_begun passed Begun some (inr begun) = begun

-- an array has a word
pub power_some : (n : ℕ) → IsPowerOfTwo n → 0 < n
power_some n power =
    let one : 1 ≤ 2 ^ power.0 = (let le : 0 ≤ power.0 = omega arith in pow_mono le) in
    let is = power.1 in
    omega (arith, one, is)

-- a call whose probe has more buckets stands at the next one
stands_there : (size segment : ℕ) (k : CallKind) (h passed : ℕ) → passed < size → stands size segment k h passed ≡ Going (probing size segment k h passed)
stands_there size segment k h zero inside = refl
stands_there size segment k h (suc passed) inside =
    subst (λ b. (if b then Going (probing size segment k h (suc passed)) else past_all k (probing size segment k h passed) (suc segment) size)
    ≡ Going (probing size segment k h (suc passed))) (sym (lt-ltb (suc passed) size inside)) refl

-- where nothing is counted the hint asks for nothing
skips : (l : ℕ) → 0 < l → is_due_by (rehash_op l 0 0) ≡ false
skips l some =
    let few : has_many_tombstones l 0 ≡ false = lt-leb l 0 some in
    let roomy : is_crowded l 0 ≡ false = lt-leb (suc (7 * l)) 0 (omega arith) in
    subst (λ b. is_due_by (if b then (if is_sparse l 0 0 then Shrink else GcOnly) else (if is_crowded l 0 then Expand else Skip)) ≡ false) (sym few)
    (subst (λ b. is_due_by (if b then Expand else Skip) ≡ false) (sym roomy) refl)

-- so a call begins to probe
begins : (k : CallKind) → HasKey k → (size segment h : ℕ) → 0 < size → Going (probing size segment k h 0) ≡ in_root (call_from k h) None (suc segment) size 0 0
begins kind.Get has size segment h some = refl
begins kind.Insert has size segment h some =
    subst (λ b. Going (probing size segment kind.Insert h 0)
    ≡ (if b then Going (record (call_from kind.Insert h) { spent = true; point = Seal (suc segment) size 0 [] }) else Going (probing size segment kind.Insert h 0)))
    (sym (skips (counted size) (le-min some (omega arith)))) refl
begins kind.Remove has size segment h some =
    subst (λ b. Going (probing size segment kind.Remove h 0)
    ≡ (if b then Going (record (call_from kind.Remove h) { spent = true; point = Seal (suc segment) size 0 [] }) else Going (probing size segment kind.Remove h 0)))
    (sym (skips (counted size) (le-min some (omega arith)))) refl
begins kind.Keys has size segment h some = absurd has

module _ {K V S : Type 0} (eq : K → K → Bool) (hash : S → K → ℕ) (place : S → ℕ → K → ℕ) (t : Table S) (key : K) (k : CallKind) (h : ℕ) where
  -- a course stays one as the log goes on, and as one of a log before
  pub course_later : (made : List (Accessed K V S)) (step : Step) (old a b : List (Note K V S)) → IsPrefix a b →
      Course eq hash place t key k h old made step a → Course eq hash place t key k h old made step b
  course_later [] step old a b more course = (prefix_through old a b course.0 more, course.1)
  course_later (x ∷ before) step old a b more course = (course.0, course.1, course.2, course.3, prefix_through x.left a b course.4 more)

  pub course_sooner : (made : List (Accessed K V S)) (step : Step) (first old new : List (Note K V S)) → IsPrefix first old →
      Course eq hash place t key k h old made step new → Course eq hash place t key k h first made step new
  course_sooner [] step first old new less course = (prefix_through first old new less course.0, course.1)
  course_sooner (x ∷ before) step first old new less course =
      (course.0, course_sooner before (Going course.0) first old x.found less course.1, course.2, course.3, course.4)

  pub come_later : (old a b : List (Note K V S)) (such : Step → Type 0) → IsPrefix a b → HasCome eq hash place t key k h old a such →
      HasCome eq hash place t key k h old b such
  come_later old a b such more come = record {
    accesses = come.accesses;
    step = come.step;
    course = course_later come.accesses come.step old a b more come.course;
    is = come.is;
  }

  pub come_sooner : (first old new : List (Note K V S)) (such : Step → Type 0) → IsPrefix first old → HasCome eq hash place t key k h old new such →
      HasCome eq hash place t key k h first new such
  come_sooner first old new such less come = record {
    accesses = come.accesses;
    step = come.step;
    course = course_sooner come.accesses come.step first old new less come.course;
    is = come.is;
  }

  pub come_so : (old new : List (Note K V S)) (such so : Step → Type 0) → ((step : Step) → such step → so step) →
      HasCome eq hash place t key k h old new such → HasCome eq hash place t key k h old new so
  come_so old new such so to come = record { accesses = come.accesses; step = come.step; course = come.course; is = to come.step come.is }

module _ {K V S : Type 0} (eq : K → K → Bool) (hash : S → K → ℕ) (place : S → ℕ → K → ℕ) (divided : IsDivided eq hash place) (t : Table S) (key : K)
    (below : place t.hasher t.segments key < t.segments) (h : ℕ) (h_is : h ≡ hash t.hasher key) (k : CallKind) (has : HasKey k) where
  module _ (log : List (Note K V S)) (x : IsLogOf eq hash place t log) where
    abbrev known : ℕ → Option K
    known = own_keys place t key log

    -- the array stands there as root
    abbrev rooted : Accessed K V S
    rooted = record { found = log; saw = seen.Root (Some (suc (own_at place t key))) t.size 0 0; left = log }

    pub course_begins : IsFirstRoot (own_at place t key) log → 0 < t.size → HasCome eq hash place t key k h log log (λ step. step ≡ stands t.size (own_at place t key) k h 0)
    course_begins first some = record {
      accesses = rooted ∷ [];
      step = stands t.size (own_at place t key) k h 0;
      course = (
        call_from k h,
        (prefix_self log, refl),
        record {
          goes_on = prefix_self log;
          effect = λ keys agrees. (sym first, sym (long eq hash place divided t key below h h_is log x), refl, refl, unchanged (own_memory eq hash place t key log));
        },
        begins k has t.size (own_at place t key) h some,
        prefix_self log,
      );
      is = refl;
    }

    module _ (passed : ℕ) (word : Word) (there : word_at (own_words place t key log) (bucket_at t.size h passed) ≡ word) where
      same_hash : (keys : ℕ → Option K) → Agrees keys known → (o : Option ℕ) → node_of word ≡ o →
          option_map_or (hash_by (hash t.hasher) known) o 0 ≡ option_map_or (hash_by (hash t.hasher) keys) o 0
      same_hash keys agrees None named = refl
      same_hash keys agrees (Some n) named =
          let is = known_is eq hash place divided t key below h h_is log x (bucket_at t.size h passed) n (ap node_of there ∙ named) in
          ap (λ o. option_map_or (hash t.hasher) o 0) (is ∙ sym (agrees n _ is))

      same_own : (keys : ℕ → Option K) → Agrees keys known → (o : Option ℕ) → node_of word ≡ o →
          option_map_or (own_for eq known (Some key)) o false ≡ option_map_or (own_for eq keys (Some key)) o false
      same_own keys agrees None named = refl
      same_own keys agrees (Some n) named =
          let is = known_is eq hash place divided t key below h h_is log x (bucket_at t.size h passed) n (ap node_of there ∙ named) in
          ap (λ o. option_map_or (eq key) o false) (is ∙ sym (agrees n _ is))

      abbrev own : Bool
      own = option_map_or (own_for eq known (Some key)) (node_of word) false

      abbrev load : Accessed K V S
      load = record { found = log; saw = seen.Word word (option_map_or (hash_by (hash t.hasher) known) (node_of word) 0) own; left = log }

      -- the load of a probe's bucket
      pub course_loads : (old front : List (Note K V S)) → IsPrefix front log → passed < t.size → HasCome eq hash place t key k h old front (λ step. step ≡ stands t.size (own_at place t key) k h passed) →
          HasCome eq hash place t key k h old log (λ step. step ≡ probed (probing t.size (own_at place t key) k h passed) (suc (own_at place t key)) t.size passed word own)
      course_loads old front more inside come = record {
        accesses = load ∷ come.accesses;
        step = probed (probing t.size (own_at place t key) k h passed) (suc (own_at place t key)) t.size passed word own;
        course = (
          probing t.size (own_at place t key) k h passed,
          course_later eq hash place t key k h come.accesses (Going (probing t.size (own_at place t key) k h passed)) old front log more
              (subst (λ s. Course eq hash place t key k h old come.accesses s front) (come.is ∙ stands_there t.size (own_at place t key) k h passed inside) come.course),
          record {
            goes_on = prefix_self log;
            effect = λ keys agrees. (sym there, same_hash keys agrees (node_of word) refl, same_own keys agrees (node_of word) refl, unchanged (own_memory eq hash place t key log));
          },
          refl,
          prefix_self log,
        );
        is = refl;
      }

      -- it is another key's
      goes_past : (w : Word) (n : ℕ) → node_of w ≡ Some n → is_sealed w ≡ false → option_map_or (own_for eq known (Some key)) (node_of w) false ≡ false →
          probed (probing t.size (own_at place t key) k h passed) (suc (own_at place t key)) t.size passed w (option_map_or (own_for eq known (Some key)) (node_of w) false) ≡ stands t.size (own_at place t key) k h (suc passed)
      goes_past Unset n named unsealed other = absurd (no_node named)
      goes_past Empty n named unsealed other = absurd (no_node named)
      goes_past (Live m) n named unsealed other = ap (λ b. probed (probing t.size (own_at place t key) k h passed) (suc (own_at place t key)) t.size passed (Live m) b) other
      goes_past (Tomb m) n named unsealed other = ap (λ b. probed (probing t.size (own_at place t key) k h passed) (suc (own_at place t key)) t.size passed (Tomb m) b) other
      goes_past SealedEmpty n named unsealed other = absurd (no_node named)
      goes_past (SealedLive m) n named unsealed other = absurd (no_other unsealed)
      goes_past (SealedTomb m) n named unsealed other = absurd (no_other unsealed)

      pub course_passes : (old front : List (Note K V S)) → IsPrefix front log → passed < t.size → (n : ℕ) → node_of word ≡ Some n → is_sealed word ≡ false → own ≡ false →
          HasCome eq hash place t key k h old front (λ step. step ≡ stands t.size (own_at place t key) k h passed) → HasCome eq hash place t key k h old log (λ step. step ≡ stands t.size (own_at place t key) k h (suc passed))
      course_passes old front more inside n named unsealed other come =
          come_so eq hash place t key k h old log (λ step. step ≡ probed (probing t.size (own_at place t key) k h passed) (suc (own_at place t key)) t.size passed word own) (λ step. step ≡ stands t.size (own_at place t key) k h (suc passed))
          (λ step is. is ∙ goes_past word n named unsealed other) (course_loads old front more inside come)

      -- it is free, or the key's
      is_own : (w : Word) → IsOpen (own_by eq known key) w →
          probed (probing t.size (own_at place t key) k h passed) (suc (own_at place t key)) t.size passed w (option_map_or (own_for eq known (Some key)) (node_of w) false)
          ≡ probed (probing t.size (own_at place t key) k h passed) (suc (own_at place t key)) t.size passed w true
      is_own Unset opens = absurd opens
      is_own Empty opens = refl
      is_own (Live m) opens = ap (λ b. probed (probing t.size (own_at place t key) k h passed) (suc (own_at place t key)) t.size passed (Live m) b) opens
      is_own (Tomb m) opens = ap (λ b. probed (probing t.size (own_at place t key) k h passed) (suc (own_at place t key)) t.size passed (Tomb m) b) opens
      is_own SealedEmpty opens = absurd opens
      is_own (SealedLive m) opens = absurd opens
      is_own (SealedTomb m) opens = absurd opens

      pub course_ends : (old front : List (Note K V S)) → IsPrefix front log → passed < t.size → IsOpen (own_by eq known key) word →
          HasCome eq hash place t key k h old front (λ step. step ≡ stands t.size (own_at place t key) k h passed) →
          HasCome eq hash place t key k h old log (λ step. step ≡ probed (probing t.size (own_at place t key) k h passed) (suc (own_at place t key)) t.size passed word true)
      course_ends old front more inside opens come =
          come_so eq hash place t key k h old log (λ step. step ≡ probed (probing t.size (own_at place t key) k h passed) (suc (own_at place t key)) t.size passed word own)
          (λ step. step ≡ probed (probing t.size (own_at place t key) k h passed) (suc (own_at place t key)) t.size passed word true)
          (λ step is. is ∙ is_own word opens) (course_loads old front more inside come)

  -- Where it stands that has passed so many buckets. Before the first load it has loaded no root.
  pub comes_there : (old front log : List (Note K V S)) → IsLogOf eq hash place t log → IsPrefix old front → IsPrefix front log → IsFirstRoot (own_at place t key) log →
      0 < t.size → (passed : ℕ) →
      (passed ≡ 0) ⊎ HasCome eq hash place t key k h old front (λ step. step ≡ stands t.size (own_at place t key) k h passed) →
      HasCome eq hash place t key k h old log (λ step. step ≡ stands t.size (own_at place t key) k h passed)
  comes_there old front log x less more first some passed (inl none) =
      subst (λ n. HasCome eq hash place t key k h old log (λ step. step ≡ stands t.size (own_at place t key) k h n)) (sym none)
      (come_sooner eq hash place t key k h old log log (λ step. step ≡ stands t.size (own_at place t key) k h 0) (prefix_through old front log less more)
      (course_begins log x first some))
  comes_there old front log x less more first some passed (inr come) =
      come_later eq hash place t key k h old front log (λ step. step ≡ stands t.size (own_at place t key) k h passed) more come

  -- a call that is broken off
  pub comes_at_all : (old log : List (Note K V S)) → IsPrefix old log → HasCome eq hash place t key k h old log (λ step. Unit {0})
  comes_at_all old log less = record { accesses = []; step = Going (call_from k h); course = (less, refl); is = tt }

  -- past all buckets
  pub course_full : (old new : List (Note K V S)) (passed : ℕ) → passed ≡ t.size → 0 < t.size → HasCome eq hash place t key k h old new (λ step. step ≡ stands t.size (own_at place t key) k h passed) →
      HasCome eq hash place t key k h old new (λ step. (n : ℕ) × (step ≡ past_all k (probing t.size (own_at place t key) k h n) (suc (own_at place t key)) t.size))
  course_full old new zero all some come = absurd (omega (arith, all, some))
  course_full old new (suc passed) all some come =
      come_so eq hash place t key k h old new (λ step. step ≡ stands t.size (own_at place t key) k h (suc passed)) (λ step. (n : ℕ) × (step ≡ past_all k (probing t.size (own_at place t key) k h n) (suc (own_at place t key)) t.size))
      (λ step is. (
        passed,
        is ∙ subst (λ b. (if b then Going (probing t.size (own_at place t key) k h (suc passed)) else past_all k (probing t.size (own_at place t key) k h passed) (suc (own_at place t key)) t.size)
            ≡ past_all k (probing t.size (own_at place t key) k h passed) (suc (own_at place t key)) t.size) (sym (lt-leb (suc (suc passed)) t.size (omega (arith, all)))) refl,
      )) come

  -- a word that was loaded where the probe stands
  module _ (old front log : List (Note K V S)) (y : IsLogOf eq hash place t front) (segment index : ℕ) (word : Word)
      (loads : Loads eq hash place t segment index word front log) (is : segment ≡ own_at place t key) (passed : ℕ) (at_is : index ≡ bucket_at t.size h passed)
      (inside : passed < t.size) (probed_so : HasProbed eq place t key h front passed) (less : IsPrefix old front)
      (come : (passed ≡ 0) ⊎ HasCome eq hash place t key k h old front (λ step. step ≡ stands t.size (own_at place t key) k h passed)) where
    here : word_at (own_words place t key log) (bucket_at t.size h passed) ≡ word
    here = there eq hash place divided t key below h h_is front log y segment index word loads is passed at_is inside probed_so

    begun : is_sealed word ≡ false → HasCome eq hash place t key k h old log (λ step. step ≡ stands t.size (own_at place t key) k h passed)
    begun bare = comes_there old front log loads.goes_on.is_log less loads.goes_on.begins
        (loaded_first eq hash place divided t key below h h_is front log y segment index word loads is passed at_is inside probed_so bare) (omega (arith, inside)) passed come

    pub probe_passes : IsOthers (eq key) (state_of log).pairs word → HasCome eq hash place t key k h old log (λ step. step ≡ stands t.size (own_at place t key) k h (passed + 1))
    probe_passes others =
        let more : suc passed ≡ passed + 1 = omega arith in
        let own_not = own_is eq hash place divided t key below h h_is log loads.goes_on.is_log (bucket_at t.size h passed) others.0 (ap node_of here ∙ others.1)
        (own_keys place t key log) (agrees_now (own_keys place t key log)) false others.2 in
        subst (λ n. HasCome eq hash place t key k h old log (λ step. step ≡ stands t.size (own_at place t key) k h n)) more
        (course_passes log loads.goes_on.is_log passed word here old log (prefix_self log) inside others.0 others.1 others.3
        (ap (λ o. option_map_or (own_for eq (own_keys place t key log) (Some key)) o false) others.1 ∙ own_not) (begun others.3))

    pub probe_ends : EndsAt eq place t key h log passed word →
        HasCome eq hash place t key k h old log (λ step. step ≡ probed (probing t.size (own_at place t key) k h passed) (suc (own_at place t key)) t.size passed word true)
    probe_ends ends = course_ends log loads.goes_on.is_log passed word here old log (prefix_self log) inside ends.opens (begun (open_bare (own_by eq (own_keys place t key log) key) word ends.opens))

-- what a look answers is where its call ended
module _ {K V S : Type 0} (eq : K → K → Bool) (t : Table S) (pairs : ℕ → Option (K × V)) (segment h : ℕ) where
  pub found_word : (passed : ℕ) (known : ℕ → Bool) (word : Word) → IsOpen known word → (got : TryGet V) → IsFound got → Finds (pair_at pairs (stored_in word)) got →
      (step : Step) → step ≡ probed (probing t.size segment kind.Get h passed) (suc segment) t.size passed word true → FoundSo pairs got step
  found_word passed known Unset opens got found finds step is = absurd opens
  found_word passed known Empty opens (get.Found value) found finds step is = (None, is, finds)
  found_word passed known (Live n) opens (get.Found value) found finds step is = (Some n, is, finds)
  found_word passed known (Tomb n) opens (get.Found value) found finds step is = (None, is, finds)
  found_word passed known SealedEmpty opens got found finds step is = absurd opens
  found_word passed known (SealedLive n) opens got found finds step is = absurd opens
  found_word passed known (SealedTomb n) opens got found finds step is = absurd opens
  found_word passed known Empty opens (get.Again m) found finds step is = tt
  found_word passed known (Live n) opens (get.Again m) found finds step is = tt
  found_word passed known (Tomb n) opens (get.Again m) found finds step is = tt
