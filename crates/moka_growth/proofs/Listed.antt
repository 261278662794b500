-- What calls list.
use Rattle.std.proofs.Common.{◌≡◌, ◌⊎◌, ℕ, ◌<◌, ◌≤◌, Bool, true, false, List, [], ◌∷◌, ◌++◌, length, Option, Some, None, suc, inl, inr, refl, sym, ap, subst, ◌∙◌, arith, ltb, if◌then◌else◌}
use Rattle.std.specs.List.{slice_get}
use Rattle.std.specs.Option.{option_to_list}
use Rattle.std.proofs.lemmas.Bool.{cases_lt, ltb-false}
use Rattle.std.proofs.lemmas.List.{append-nil, get_or_past}
use Rattle.moka_words.specs.declared.words.Word.{Word}
use Rattle.moka_words.specs.declared.words.Word.TheVariants.{Unset}
use Rattle.moka_words.specs.declared.accesses.Seen.{Seen}
use Rattle.moka_words.specs.declared.accesses.Seen.TheVariants as seen
use Rattle.moka_words.specs.Words.{node_of, stored_in, is_sealed, word_at, NamesKeys}
use Rattle.moka_words.specs.Arrays.{IsArray}
use Rattle.moka_words.specs.Later.{LaterWords, IsOwn}
use Rattle.moka_words.specs.Layout.{IsStored}
use Rattle.moka_words.specs.Effect.{Memory, root, words_of, Effect, IsUnchanged, LaterMemory}
use Rattle.moka_words.proofs.Effects.{more_arrays}
use Rattle.moka_words.proofs.Laying.{stored_is_key}
use Rattle.moka_growth.specs.Sound.{IsSound}
use Rattle.moka_growth.specs.Calls.{Point, Call, Ending, Step, Going, Decided, Nodes, wanted, walked, next_at, next_of, goes}
use Rattle.moka_growth.specs.Calls as call
use Rattle.moka_growth.specs.Fits.{HasBeenRoot, FitsAt, Fits}
use Rattle.moka_growth.specs.Listing.{listed, Differ, IsBefore, Lists, HasListed, ListsKey, HasKey, ArePresent}
use Rattle.moka_growth.specs.Laws.{Makes}
use Rattle.moka_growth.proofs.Copying.{one_more_cases, one_more_at}
use Rattle.moka_growth.proofs.Mapped.{bare_is_root}
use Rattle.moka_growth.specs.Turns.{Leads}
use Rattle.moka_growth.proofs.Fresh.{IsFresh, EndsFresh, IsListless, fresh_leads}

no_item : {n : ℕ} → None ≡ Some n → ⊥
no_item e = cc

two_items : {o : Option ℕ} {n k : ℕ} → o ≡ Some n → o ≡ Some k → n ≡ k
two_items d e = cc

none_item : {o : Option ℕ} {n : ℕ} → o ≡ None → o ≡ Some n → ⊥
none_item d e = cc

-- the nodes listed after a bucket
module _ {hash : ℕ → ℕ} {same : ℕ → ℕ → Bool} (names : NamesKeys hash same) (words : List Word) (array : IsArray hash same words)
    (i : ℕ) (w : Word) (there : word_at words i ≡ w) (nodes : List ℕ) (differ : Differ same nodes)
    (before : (x n : ℕ) → slice_get nodes x ≡ Some n → IsBefore same words i n) where
  further : (n : ℕ) → IsBefore same words i n → IsBefore same words (suc i) n
  further n b = let earlier = b.before in
      record { bucket = b.bucket; node = b.node; before = omega arith; there = b.there; alike = b.alike }

  -- the bucket's node has another key than those listed
  new_key : (x n k : ℕ) → slice_get nodes x ≡ Some n → node_of w ≡ Some k → same n k ≡ true → ⊥
  new_key x n k d e alike =
      let b = before x n d in
      let earlier = b.before in
      let one : b.bucket ≡ i = array.one b.bucket i b.node k b.there (ap node_of there ∙ e)
      (names.through b.node n k (names.either_way n b.node b.alike) alike) in
      omega arith

  abbrev More : List ℕ → Type 0
  More ns = Differ same ns × ((x n : ℕ) → slice_get ns x ≡ Some n → IsBefore same words (suc i) n)

  with_node : (k : ℕ) → node_of w ≡ Some k → More (nodes ++ k ∷ [])
  with_node k e = (λ x y n m d f alike. by x y n m (one_more_cases nodes k x n d) (one_more_cases nodes k y m f) alike, buckets)
    where
      by : (x y n m : ℕ) → (slice_get nodes x ≡ Some n) ⊎ ((x ≡ length nodes) × (n ≡ k)) →
          (slice_get nodes y ≡ Some m) ⊎ ((y ≡ length nodes) × (m ≡ k)) → same n m ≡ true → x ≡ y
      by x y n m (inl d) (inl f) alike = differ x y n m d f alike
      by x y n m (inl d) (inr f) alike = absurd (new_key x n k d e (subst (λ z. same n z ≡ true) f.1 alike))
      by x y n m (inr d) (inl f) alike =
          absurd (new_key y m k f e (names.either_way k m (subst (λ z. same z m ≡ true) d.1 alike)))
      by x y n m (inr d) (inr f) alike = d.0 ∙ sym f.0

      buckets : (x n : ℕ) → slice_get (nodes ++ k ∷ []) x ≡ Some n → IsBefore same words (suc i) n
      buckets x n d = elim (one_more_cases nodes k x n d) [
        | inl f ↦ further n (before x n f)
        | inr f ↦ record {
          bucket = i;
          node = k;
          before = omega arith;
          there = ap node_of there ∙ e;
          alike = subst (λ z. same z k ≡ true) (sym f.1) (names.itself k);
        }
      ]

  pub more_lists : More (nodes ++ option_to_list (stored_in w))
  more_lists = by (stored_in w) refl
    where
      by : (o : Option ℕ) → stored_in w ≡ o → More (nodes ++ option_to_list o)
      by None e = subst More (sym (append-nil nodes)) (differ, λ x n d. further n (before x n d))
      by (Some k) e = with_node k (stored_is_key w k e)

-- each node listed after a bucket was listed before, or is stored there
more_present : (nodes : List ℕ) (o : Option ℕ) (x n : ℕ) → slice_get (nodes ++ option_to_list o) x ≡ Some n →
    ((y : ℕ) × (slice_get nodes y ≡ Some n)) ⊎ (o ≡ Some n)
more_present nodes None x n d = inl (x, subst (λ ns. slice_get ns x ≡ Some n) (append-nil nodes) d)
more_present nodes (Some k) x n d = elim (one_more_cases nodes k x n d) [
  | inl f ↦ inl (x, f)
  | inr f ↦ inr (ap Some (sym f.1))
]

-- and none that was is left out
more_keeps : (key : ℕ → Bool) (nodes : List ℕ) (o : Option ℕ) → HasListed key nodes → HasListed key (nodes ++ option_to_list o)
more_keeps key nodes o h = (h.0, h.1, more_arrays nodes (option_to_list o) h.0 h.1 h.2, h.3)

more_has : (key : ℕ → Bool) (nodes : List ℕ) (o : Option ℕ) (n : ℕ) → o ≡ Some n → key n ≡ true → HasListed key (nodes ++ option_to_list o)
more_has key nodes None n e k = absurd (no_item e)
more_has key nodes (Some m) n e k = (length nodes, m, one_more_at nodes m, subst (λ z. key z ≡ true) (two_items e refl) k)

-- what a list says when its call ends
abbrev EndsWell : (ℕ → ℕ → Bool) → Memory → Point → Ending → Type 0
EndsWell same old p (call.Nodes nodes) = Differ same nodes × ArePresent (listed p) nodes old
EndsWell same old p e = Unit {0}

-- what it says of a key
abbrev EndsKey : (key : ℕ → Bool) → Ending → Type 0
EndsKey key (call.Nodes nodes) = HasListed key nodes
EndsKey key e = Unit {0}

-- nothing is listed at first
fresh_lists : (same : ℕ → ℕ → Bool) (old new : Memory) (before : List ℕ) (p : Point) → IsFresh p →
    Lists same new p × ArePresent before (listed p) old
fresh_lists same old new before (call.Walk a l i nodes) fresh =
    ((λ x y n k d e alike. absurd (none x n d), λ x n d. absurd (none x n d)), λ x n d. absurd (none x n d))
  where
    none : (x n : ℕ) → slice_get nodes x ≡ Some n → ⊥
    none x n d = no_item (ap (λ ns. slice_get ns x) (sym fresh.1) ∙ d)
fresh_lists same old new before (call.Root met) fresh = (tt, λ x n d. absurd (no_item d))
fresh_lists same old new before (call.Probe a l v) fresh = (tt, λ x n d. absurd (no_item d))
fresh_lists same old new before (call.Choose a l v w) fresh = (tt, λ x n d. absurd (no_item d))
fresh_lists same old new before (call.Change a l v from to) fresh = (tt, λ x n d. absurd (no_item d))
fresh_lists same old new before (call.Seal a l i kept) fresh = (tt, λ x n d. absurd (no_item d))
fresh_lists same old new before (call.Close a l i w x kept) fresh = (tt, λ x n d. absurd (no_item d))
fresh_lists same old new before (call.Next o l kept) fresh = (tt, λ x n d. absurd (no_item d))
fresh_lists same old new before (call.Link o l kept) fresh = (tt, λ x n d. absurd (no_item d))
fresh_lists same old new before (call.Copy from a i laid) fresh = (tt, λ x n d. absurd (no_item d))
fresh_lists same old new before (call.Swing from a) fresh = (tt, λ x n d. absurd (no_item d))

fresh_key : (key : ℕ → Bool) (new : Memory) (p : Point) → IsFresh p → ListsKey key new p
fresh_key key new (call.Walk a l i nodes) fresh = λ j n below d k. let first = fresh.0 in absurd (omega arith)
fresh_key key new (call.Root met) fresh = tt
fresh_key key new (call.Probe a l v) fresh = tt
fresh_key key new (call.Choose a l v w) fresh = tt
fresh_key key new (call.Change a l v from to) fresh = tt
fresh_key key new (call.Seal a l i kept) fresh = tt
fresh_key key new (call.Close a l i w x kept) fresh = tt
fresh_key key new (call.Next o l kept) fresh = tt
fresh_key key new (call.Link o l kept) fresh = tt
fresh_key key new (call.Copy from a i laid) fresh = tt
fresh_key key new (call.Swing from a) fresh = tt

leads_maps : (step : Step) (P Q : Call → Type 0) (E F : Ending → Type 0) → ((d : Call) → P d → Q d) → ((e : Ending) → E e → F e) →
    Leads step P E → Leads step Q F
leads_maps (Going d) P Q E F f g h = f d h
leads_maps (Decided e) P Q E F f g h = g e h

fresh_ends : (same : ℕ → ℕ → Bool) (old : Memory) (p : Point) (e : Ending) → EndsFresh old e → EndsWell same old p e
fresh_ends same old p (call.Kept found) h = tt
fresh_ends same old p (call.Changed found) h = tt
fresh_ends same old p (call.Nodes nodes) h = (λ x y n k d e alike. absurd (none x n d), λ x n d. absurd (none x n d))
  where
    none : (x n : ℕ) → slice_get nodes x ≡ Some n → ⊥
    none x n d = no_item (ap (λ ns. slice_get ns x) (sym h.0) ∙ d)

fresh_ends_key : (key : ℕ → Bool) (old : Memory) → HasKey key old → (e : Ending) → EndsFresh old e → EndsKey key e
fresh_ends_key key old has (call.Kept found) h = tt
fresh_ends_key key old has (call.Changed found) h = tt
fresh_ends_key key old has (call.Nodes nodes) h =
    absurd (no_item (subst (λ r. IsStored (words_of old r) has.0) h.1 has.1).1)

module _ {hash : ℕ → ℕ} {same : ℕ → ℕ → Bool} {mine : ℕ → Bool} (own : ℕ → Bool) (old new : Memory) (c : Call)
    (names : NamesKeys hash same) (sound : IsSound hash same mine old) where
  -- where a call lists nodes
  module _ (stays : IsUnchanged old new) (a l i : ℕ) (nodes : List ℕ) (been : HasBeenRoot old a) (long : l ≡ length (old.words a))
      (more : i < l) (w : Word) (there : w ≡ word_at (old.words a) i) where
    array : IsArray hash same (old.words a)
    array = (sound.roots been.place a been.before been.there).array

    is_root : is_sealed w ≡ false → root old ≡ Some a
    is_root bare = bare_is_root old new sound a i been (omega arith) (ap is_sealed (sym there) ∙ bare)

    walk_lists : Lists same old (call.Walk a l i nodes) → (x : ℕ) (s : Bool) →
        Leads (next_at c (call.Walk a l i nodes) (seen.Word w x s))
        (λ d. Lists same new d.point × ArePresent nodes (listed d.point) old) (EndsWell same old (call.Walk a l i nodes))
    walk_lists lists x s = by (is_sealed w) refl
      where
        Now : Type 0
        Now = Lists same new (call.Walk a l (suc i) (nodes ++ option_to_list (stored_in w)))

        now : Now
        now = subst (λ ws. Differ same (nodes ++ option_to_list (stored_in w))
            × ((x n : ℕ) → slice_get (nodes ++ option_to_list (stored_in w)) x ≡ Some n → IsBefore same ws (suc i) n))
            (sym (stays.0 a)) (more_lists names (old.words a) array i w (sym there) nodes lists.0 lists.1)

        present : is_sealed w ≡ false → ArePresent nodes (nodes ++ option_to_list (stored_in w)) old
        present bare x n d = elim (more_present nodes (stored_in w) x n d) [
          | inl f ↦ inl f
          | inr f ↦ inr (subst (λ r. IsStored (words_of old r) n) (sym (is_root bare)) (i, ap stored_in (sym there) ∙ f))
        ]

        goes_on : is_sealed w ≡ false → (b : Bool) →
            Leads (if b then goes c (call.Walk a l (suc i) (nodes ++ option_to_list (stored_in w)))
            else Decided (Nodes (nodes ++ option_to_list (stored_in w))))
            (λ d. Lists same new d.point × ArePresent nodes (listed d.point) old) (EndsWell same old (call.Walk a l i nodes))
        goes_on bare true = (now, present bare)
        goes_on bare false = (now.0, present bare)

        by : (b : Bool) → is_sealed w ≡ b →
            Leads (if b then goes c (call.Root (Some a)) else walked c a l i (nodes ++ option_to_list (stored_in w)))
            (λ d. Lists same new d.point × ArePresent nodes (listed d.point) old) (EndsWell same old (call.Walk a l i nodes))
        by true shut = (tt, λ x n d. absurd (no_item d))
        by false bare = goes_on bare (ltb (suc i) l)

    walk_key : (key : ℕ → Bool) → IsOwn same key → HasKey key old → ListsKey key old (call.Walk a l i nodes) → (x : ℕ) (s : Bool) →
        Leads (next_at c (call.Walk a l i nodes) (seen.Word w x s)) (λ d. ListsKey key new d.point) (EndsKey key)
    walk_key key is_own has lists x s = by (is_sealed w) refl
      where
        -- the bucket just passed stores the key, if it is the key's
        here : is_sealed w ≡ false → (n : ℕ) → node_of (word_at (old.words a) i) ≡ Some n → key n ≡ true →
            HasListed key (nodes ++ option_to_list (stored_in w))
        here bare n d k =
            let stored : IsStored (old.words a) has.0 = subst (λ r. IsStored (words_of old r) has.0) (is_root bare) has.1 in
            let one : stored.0 ≡ i = array.one stored.0 i has.0 n (stored_is_key (word_at (old.words a) stored.0) has.0 stored.1) d
            (is_own.one has.0 n has.2 k) in
            more_has key nodes (stored_in w) has.0
            (ap stored_in there ∙ (ap (λ j. stored_in (word_at (old.words a) j)) (sym one) ∙ stored.1)) has.2

        passed : is_sealed w ≡ false → (j n : ℕ) → j < suc i → node_of (word_at (old.words a) j) ≡ Some n → key n ≡ true →
            HasListed key (nodes ++ option_to_list (stored_in w))
        passed bare j n below d k = elim (cases_lt j i) [
          | inl before ↦ more_keeps key nodes (stored_in w) (lists j n before d k)
          | inr last ↦ let at : j ≡ i = omega arith in
              here bare n (ap (λ z. node_of (word_at (old.words a) z)) (sym at) ∙ d) k
        ]

        -- the key's bucket is one of those passed in the end
        whole : is_sealed w ≡ false → l ≤ suc i → HasListed key (nodes ++ option_to_list (stored_in w))
        whole bare all =
            let stored : IsStored (old.words a) has.0 = subst (λ r. IsStored (words_of old r) has.0) (is_root bare) has.1 in
            let bucket = stored_is_key (word_at (old.words a) stored.0) has.0 stored.1 in
            let within : stored.0 < length (old.words a) = elim (cases_lt stored.0 (length (old.words a))) [
              | inl h ↦ h
              | inr h ↦ absurd (no_item (sym (ap node_of (get_or_past (old.words a) stored.0 Unset h)) ∙ bucket))
            ] in
            passed bare stored.0 has.0 (omega arith) bucket has.2

        goes_on : is_sealed w ≡ false → (b : Bool) → ltb (suc i) l ≡ b →
            Leads (if b then goes c (call.Walk a l (suc i) (nodes ++ option_to_list (stored_in w)))
            else Decided (Nodes (nodes ++ option_to_list (stored_in w))))
            (λ d. ListsKey key new d.point) (EndsKey key)
        goes_on bare true e = λ j n below d k. passed bare j n below (ap (λ ws. node_of (word_at ws j)) (sym (stays.0 a)) ∙ d) k
        goes_on bare false e = whole bare (ltb-false (suc i) l e)

        by : (b : Bool) → is_sealed w ≡ b →
            Leads (if b then goes c (call.Root (Some a)) else walked c a l i (nodes ++ option_to_list (stored_in w)))
            (λ d. ListsKey key new d.point) (EndsKey key)
        by true shut = tt
        by false bare = goes_on bare (ltb (suc i) l) refl

  fresh_point : (p : Point) (s : Seen) → IsListless p → Effect hash own (wanted c.hash p) s old new →
      Leads (next_at c p s) (λ d. Lists same new d.point × ArePresent (listed p) (listed d.point) old) (EndsWell same old p)
  fresh_point p s none e = leads_maps (next_at c p s) (λ d. IsFresh d.point)
      (λ d. Lists same new d.point × ArePresent (listed p) (listed d.point) old) (EndsFresh old) (EndsWell same old p)
      (λ d fresh. fresh_lists same old new (listed p) d.point fresh) (λ x h. fresh_ends same old p x h)
      (fresh_leads old c hash own new p s none e)

  fresh_point_key : (key : ℕ → Bool) → HasKey key old → (p : Point) (s : Seen) → IsListless p →
      Effect hash own (wanted c.hash p) s old new → Leads (next_at c p s) (λ d. ListsKey key new d.point) (EndsKey key)
  fresh_point_key key has p s none e = leads_maps (next_at c p s) (λ d. IsFresh d.point) (λ d. ListsKey key new d.point)
      (EndsFresh old) (EndsKey key) (λ d fresh. fresh_key key new d.point fresh) (λ x h. fresh_ends_key key old has x h)
      (fresh_leads old c hash own new p s none e)

  point_lists : (p : Point) (s : Seen) → FitsAt hash own c.hash old p → Effect hash own (wanted c.hash p) s old new → Lists same old p →
      Leads (next_at c p s) (λ d. Lists same new d.point × ArePresent (listed p) (listed d.point) old) (EndsWell same old p)
  point_lists (call.Walk a l i nodes) (seen.Word w x s) fits e lists = walk_lists e.3 a l i nodes fits.0 fits.1 fits.2 w e.0 lists x s
  point_lists (call.Walk a l i nodes) s fits e lists = absurd e
  point_lists (call.Root met) s fits e lists = fresh_point (call.Root met) s tt e
  point_lists (call.Probe a l v) s fits e lists = fresh_point (call.Probe a l v) s tt e
  point_lists (call.Choose a l v w) s fits e lists = fresh_point (call.Choose a l v w) s tt e
  point_lists (call.Change a l v from to) s fits e lists = fresh_point (call.Change a l v from to) s tt e
  point_lists (call.Seal a l i kept) s fits e lists = fresh_point (call.Seal a l i kept) s tt e
  point_lists (call.Close a l i w x kept) s fits e lists = fresh_point (call.Close a l i w x kept) s tt e
  point_lists (call.Next o l kept) s fits e lists = fresh_point (call.Next o l kept) s tt e
  point_lists (call.Link o l kept) s fits e lists = fresh_point (call.Link o l kept) s tt e
  point_lists (call.Copy from a i laid) s fits e lists = fresh_point (call.Copy from a i laid) s tt e
  point_lists (call.Swing from a) s fits e lists = fresh_point (call.Swing from a) s tt e

  point_key : (key : ℕ → Bool) → IsOwn same key → HasKey key old → (p : Point) (s : Seen) → FitsAt hash own c.hash old p →
      Effect hash own (wanted c.hash p) s old new → ListsKey key old p →
      Leads (next_at c p s) (λ d. ListsKey key new d.point) (EndsKey key)
  point_key key is_own has (call.Walk a l i nodes) (seen.Word w x s) fits e lists =
      walk_key e.3 a l i nodes fits.0 fits.1 fits.2 w e.0 key is_own has lists x s
  point_key key is_own has (call.Walk a l i nodes) s fits e lists = absurd e
  point_key key is_own has (call.Root met) s fits e lists = fresh_point_key key has (call.Root met) s tt e
  point_key key is_own has (call.Probe a l v) s fits e lists = fresh_point_key key has (call.Probe a l v) s tt e
  point_key key is_own has (call.Choose a l v w) s fits e lists = fresh_point_key key has (call.Choose a l v w) s tt e
  point_key key is_own has (call.Change a l v from to) s fits e lists = fresh_point_key key has (call.Change a l v from to) s tt e
  point_key key is_own has (call.Seal a l i kept) s fits e lists = fresh_point_key key has (call.Seal a l i kept) s tt e
  point_key key is_own has (call.Close a l i w x kept) s fits e lists = fresh_point_key key has (call.Close a l i w x kept) s tt e
  point_key key is_own has (call.Next o l kept) s fits e lists = fresh_point_key key has (call.Next o l kept) s tt e
  point_key key is_own has (call.Link o l kept) s fits e lists = fresh_point_key key has (call.Link o l kept) s tt e
  point_key key is_own has (call.Copy from a i laid) s fits e lists = fresh_point_key key has (call.Copy from a i laid) s tt e
  point_key key is_own has (call.Swing from a) s fits e lists = fresh_point_key key has (call.Swing from a) s tt e

-- what is listed lasts
point_lists_last : {hash : ℕ → ℕ} {same : ℕ → ℕ → Bool} {mine : ℕ → Bool} (own : ℕ → Bool) (h : ℕ) (old new : Memory) →
    NamesKeys hash same → IsSound hash same mine old → LaterMemory same old new → (p : Point) → FitsAt hash own h old p → Lists same old p →
    Lists same new p
point_lists_last {hash} {same} own h old new names sound later (call.Walk a l i nodes) fits lists = (lists.0, lasts)
  where
    words : LaterWords same (old.words a) (new.words a)
    words = later.words fits.0.place a fits.0.there (sound.numbered fits.0.place a fits.0.there)

    lasts : (x n : ℕ) → slice_get nodes x ≡ Some n → IsBefore same (new.words a) i n
    lasts x n d =
        let b = lists.1 x n d in
        let key = (words.later b.bucket).key b.node b.there in
        record { bucket = b.bucket; node = key.0; before = b.before; there = key.1; alike = names.through n b.node key.0 b.alike key.2 }
point_lists_last own h old new names sound later (call.Root met) fits lists = tt
point_lists_last own h old new names sound later (call.Probe a l v) fits lists = tt
point_lists_last own h old new names sound later (call.Choose a l v w) fits lists = tt
point_lists_last own h old new names sound later (call.Change a l v from to) fits lists = tt
point_lists_last own h old new names sound later (call.Seal a l i kept) fits lists = tt
point_lists_last own h old new names sound later (call.Close a l i w x kept) fits lists = tt
point_lists_last own h old new names sound later (call.Next o l kept) fits lists = tt
point_lists_last own h old new names sound later (call.Link o l kept) fits lists = tt
point_lists_last own h old new names sound later (call.Copy from a i laid) fits lists = tt
point_lists_last own h old new names sound later (call.Swing from a) fits lists = tt

walk_key_last : {hash : ℕ → ℕ} {same : ℕ → ℕ → Bool} {mine : ℕ → Bool} (own key : ℕ → Bool) (h : ℕ) (old new : Memory) →
    IsOwn same key → IsSound hash same mine old → IsSound hash same mine new → LaterMemory same old new → HasKey key old →
    (a l i : ℕ) (nodes : List ℕ) → HasBeenRoot old a → ListsKey key old (call.Walk a l i nodes) → ListsKey key new (call.Walk a l i nodes)
walk_key_last {hash} {same} own key h old new is_own sound sound_new later has a l i nodes been lists j n below d k =
    by (node_of (word_at (old.words a) j)) refl
  where
    words : LaterWords same (old.words a) (new.words a)
    words = later.words been.place a been.there (sound.numbered been.place a been.there)

    array : IsArray hash same (new.words a)
    array = let before = been.before in let rooted = later.rooted in
        (sound_new.roots been.place a (omega arith) (later.arrays been.place a been.there)).array

    -- no key came to a bucket that had none: the key has another one
    never : node_of (word_at (old.words a) j) ≡ None → ⊥
    never free = shut (is_sealed (word_at (old.words a) j)) refl
      where
        within : j < length (old.words a)
        within = elim (cases_lt j (length (old.words a))) [
          | inl before ↦ before
          | inr past ↦ let long = words.length_stays in
              absurd (none_item (ap node_of (get_or_past (new.words a) j Unset (omega arith))) d)
        ]

        shut : (b : Bool) → is_sealed (word_at (old.words a) j) ≡ b → ⊥
        shut true e = none_item (ap node_of ((words.later j).sealed e) ∙ free) d
        shut false e =
            let stored : IsStored (old.words a) has.0 =
            subst (λ r. IsStored (words_of old r) has.0) (bare_is_root old new sound a j been within e) has.1 in
            let bucket = stored_is_key (word_at (old.words a) stored.0) has.0 stored.1 in
            let moved = (words.later stored.0).key has.0 bucket in
            let one : stored.0 ≡ j = array.one stored.0 j moved.0 n moved.1 d
            (is_own.one moved.0 n (sym (is_own.alike has.0 moved.0 moved.2) ∙ has.2) k) in
            none_item (ap (λ z. node_of (word_at (old.words a) z)) one ∙ free) bucket

    by : (o : Option ℕ) → node_of (word_at (old.words a) j) ≡ o → HasListed key nodes
    by None free = absurd (never free)
    by (Some m) there =
        let moved = (words.later j).key m there in
        let same_node : moved.0 ≡ n = two_items moved.1 d in
        lists j m below there (is_own.alike m moved.0 moved.2 ∙ (ap key same_node ∙ k))

point_key_last : {hash : ℕ → ℕ} {same : ℕ → ℕ → Bool} {mine : ℕ → Bool} (own key : ℕ → Bool) (h : ℕ) (old new : Memory) →
    IsOwn same key → IsSound hash same mine old → IsSound hash same mine new → LaterMemory same old new → HasKey key old → (p : Point) →
    FitsAt hash own h old p → ListsKey key old p → ListsKey key new p
point_key_last own key h old new is_own sound sound_new later has (call.Walk a l i nodes) fits lists =
    walk_key_last own key h old new is_own sound sound_new later has a l i nodes fits.0 lists
point_key_last own key h old new is_own sound sound_new later has (call.Root met) fits lists = tt
point_key_last own key h old new is_own sound sound_new later has (call.Probe a l v) fits lists = tt
point_key_last own key h old new is_own sound sound_new later has (call.Choose a l v w) fits lists = tt
point_key_last own key h old new is_own sound sound_new later has (call.Change a l v from to) fits lists = tt
point_key_last own key h old new is_own sound sound_new later has (call.Seal a l i kept) fits lists = tt
point_key_last own key h old new is_own sound sound_new later has (call.Close a l i w x kept) fits lists = tt
point_key_last own key h old new is_own sound sound_new later has (call.Next o l kept) fits lists = tt
point_key_last own key h old new is_own sound sound_new later has (call.Link o l kept) fits lists = tt
point_key_last own key h old new is_own sound sound_new later has (call.Copy from a i laid) fits lists = tt
point_key_last own key h old new is_own sound sound_new later has (call.Swing from a) fits lists = tt

pub listing_lasts : (hash : ℕ → ℕ) (same : ℕ → ℕ → Bool) (mine own : ℕ → Bool) (c : Call) (old new : Memory) → NamesKeys hash same →
    IsSound hash same mine old → LaterMemory same old new → Fits hash own old c → Lists same old c.point → Lists same new c.point
listing_lasts hash same mine own c old new names sound later fits lists =
    point_lists_last own c.hash old new names sound later c.point fits lists

pub listed_key_lasts : (hash : ℕ → ℕ) (same : ℕ → ℕ → Bool) (mine own key : ℕ → Bool) (c : Call) (old new : Memory) → IsOwn same key →
    IsSound hash same mine old → IsSound hash same mine new → LaterMemory same old new → Fits hash own old c → HasKey key old →
    ListsKey key old c.point → ListsKey key new c.point
listed_key_lasts hash same mine own key c old new is_own sound sound_new later fits has lists =
    point_key_last own key c.hash old new is_own sound sound_new later has c.point fits lists

pub listing_goes_on : (hash : ℕ → ℕ) (same : ℕ → ℕ → Bool) (mine own : ℕ → Bool) (c d : Call) (s : Seen) (old new : Memory) →
    Makes hash same mine own c s old new → Lists same old c.point → next_of c s ≡ Going d →
    Lists same new d.point × ArePresent (listed c.point) (listed d.point) old
listing_goes_on hash same mine own c d s old new m lists e =
    subst (λ step. Leads step (λ d. Lists same new d.point × ArePresent (listed c.point) (listed d.point) old) (EndsWell same old c.point)) e
    (point_lists own old new c m.names m.sound c.point s m.fits m.effect lists)

pub listing_ends : (hash : ℕ → ℕ) (same : ℕ → ℕ → Bool) (mine own : ℕ → Bool) (c : Call) (nodes : List ℕ) (s : Seen) (old new : Memory) →
    Makes hash same mine own c s old new → Lists same old c.point → next_of c s ≡ Decided (Nodes nodes) →
    Differ same nodes × ArePresent (listed c.point) nodes old
listing_ends hash same mine own c nodes s old new m lists e =
    subst (λ step. Leads step (λ d. Lists same new d.point × ArePresent (listed c.point) (listed d.point) old) (EndsWell same old c.point)) e
    (point_lists own old new c m.names m.sound c.point s m.fits m.effect lists)

pub listed_key_goes_on : (hash : ℕ → ℕ) (same : ℕ → ℕ → Bool) (mine own key : ℕ → Bool) (c d : Call) (s : Seen) (old new : Memory) →
    Makes hash same mine own c s old new → IsOwn same key → HasKey key old → ListsKey key old c.point → next_of c s ≡ Going d →
    ListsKey key new d.point
listed_key_goes_on hash same mine own key c d s old new m is_own has lists e =
    subst (λ step. Leads step (λ d. ListsKey key new d.point) (EndsKey key)) e
    (point_key own old new c m.names m.sound key is_own has c.point s m.fits m.effect lists)

pub listed_key_ends : (hash : ℕ → ℕ) (same : ℕ → ℕ → Bool) (mine own key : ℕ → Bool) (c : Call) (nodes : List ℕ) (s : Seen) (old new : Memory) →
    Makes hash same mine own c s old new → IsOwn same key → HasKey key old → ListsKey key old c.point →
    next_of c s ≡ Decided (Nodes nodes) → HasListed key nodes
listed_key_ends hash same mine own key c nodes s old new m is_own has lists e =
    subst (λ step. Leads step (λ d. ListsKey key new d.point) (EndsKey key)) e
    (point_key own old new c m.names m.sound key is_own has c.point s m.fits m.effect lists)
