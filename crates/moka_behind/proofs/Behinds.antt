-- What each call leaves of what a write-behind cache stands for.
use Rattle.std.proofs.Common.{◌≡◌, ◌⊎◌, inl, inr, ℕ, ◌==◌, nat_eq, Bool, true, false, cond, List, [], ◌∷◌, ◌++◌, length, take, Option, Some, None, IfSome, IsSome, is_some, unwrap_or, IsErr, IsErrOf, IfOk, OnOk, ◌↔◌, refl, sym, ap, ◌∙◌, subst, append_assoc, append-nil}
use Rattle.std.proofs.lemmas.Bool.{eqb-true, false≢true}
use Rattle.std.specs.declared.result.Result.{Result}
use Rattle.std.specs.declared.result.Result.TheVariants.{Ok, Err}
use Rattle.std.specs.List.{IsDistinct}
use Rattle.std.specs.Set.{is_member}
use Rattle.moka_hist.specs.Finite.{put_at}
use Rattle.std.specs.declared.cmp.PartialEq as PartialEq
use Rattle.std.specs.declared.hash.Hash as Hash
use Rattle.moka_small.specs.Small.{empty}
use Rattle.moka_polled.specs.Polled.{IsPolled}
use Rattle.moka_polled.specs.declared.machine.PolledMachine.{PolledMachine}
use Rattle.moka_keepers.specs.declared.write.Write.{Write}
use Rattle.moka_keepers.specs.Keeping.{Kept}
use Rattle.moka_keepers.specs.Owing.{Owes, Truth, true_pairs, truth_of, with_write}
use Rattle.moka_keepers.specs.Writes.{Pairs, after, last_of, made}
use Rattle.moka_keepers.proofs.Truths.{after-append}
use Rattle.moka_behind.specs.declared.behind.Behind.{Behind}
use Rattle.moka_behind.specs.declared.behind_error.BehindError.{BehindError}
use Rattle.moka_behind.specs.declared.behind_error.BehindError.TheVariants.{Fault, Memory}
use Rattle.moka_behind.specs.Behind.{IsBehind, IsOwn, IsSpent, IsUsable}
use Rattle.moka_behind.specs.Holding.{Holds, HoldsAsking}
use Rattle.moka_behind.specs.Looking.{CountsKeys}
use Rattle.moka_behind.specs.Stored.{keys_after, keys_found}
use Rattle.moka_behind.proofs.Keys.{keys_after-distinct, keys_after-same, keys_found-distinct, keys_found-same}

none_some : {A P : Type 0} {x : A} → None ≡ Some x → P
none_some e = absurd (cc)

-- ---- at the start

start_pairs : (pairs : Option Pairs) → IfSome pairs
    (λ p. (p ≡ after (unwrap_or pairs (λ key. None)) []) ⊎ (p ≡ after (unwrap_or pairs (λ key. None)) ([] ++ take 1 [])))
start_pairs None = tt
start_pairs (Some p) = inl refl

start_puts : (puts : Option (List Write)) → IfSome puts (λ ps. ps ≡ unwrap_or puts [] ++ [])
start_puts None = tt
start_puts (Some ps) = sym (append-nil ps)

pub owes-nothing : (kept : Kept) → Owes [] kept (truth_of kept) []
owes-nothing kept = record { writes = refl; puts = start_puts kept.puts; pairs = start_pairs kept.pairs }

-- ---- a write

later_pairs : (start : Pairs) (sent unsent : List Write) (w : Write) (p : Pairs) →
    (p ≡ after start sent) ⊎ (p ≡ after start (sent ++ take 1 unsent)) →
    (p ≡ after start sent) ⊎ (p ≡ after start (sent ++ take 1 (unsent ++ w ∷ [])))
later_pairs start sent unsent w p (inl h) = inl h
later_pairs start sent [] w p (inr h) = inl (h ∙ ap (λ (l : List Write). after start l) (append-nil sent))
later_pairs start sent (x ∷ xs) w p (inr h) = inr h

if_weaker : {A : Type 0} (o : Option A) (P Q : A → Type 0) → ((x : A) → P x → Q x) → IfSome o P → IfSome o Q
if_weaker None P Q f h = tt
if_weaker (Some x) P Q f h = f x h

pub owes-later : (unsent : List Write) (kept : Kept) (truth : Truth) (sent : List Write) (w : Write) →
    Owes unsent kept truth sent → Owes (unsent ++ w ∷ []) kept (with_write truth w) sent
owes-later unsent kept truth sent w o = record {
  writes = ap (λ (l : List Write). l ++ w ∷ []) o.writes ∙ append_assoc sent unsent (w ∷ []);
  puts = o.puts;
  pairs = if_weaker kept.pairs (λ p. (p ≡ after truth.start sent) ⊎ (p ≡ after truth.start (sent ++ take 1 unsent)))
      (λ p. (p ≡ after truth.start sent) ⊎ (p ≡ after truth.start (sent ++ take 1 (unsent ++ w ∷ []))))
      (later_pairs truth.start sent unsent w) o.pairs;
}

written_value : (b : Bool) (v o p : Option ℕ) (value : ℕ) → (o ≡ Some value → p ≡ Some value) → cond b v o ≡ Some value → cond b v p ≡ Some value
written_value true v o p value f e = e
written_value false v o p value f e = f e

pub wrote : (old new : Behind) (w : Write) (kept : Kept) (truth : Truth) (stored : List ℕ) (sent : List Write) →
    new.spent ≡ false → new.unsent ≡ old.unsent ++ w ∷ [] →
    ((pairs : Pairs) → Holds old.cache pairs → Holds new.cache (made pairs w)) →
    IsBehind old kept truth stored sent → IsBehind new kept (with_write truth w) (keys_after w.key w.value stored) sent
wrote old new w kept truth stored sent unspent unsent holds b = record {
  unspent = unspent;
  owes = subst (λ (l : List Write). Owes l kept (with_write truth w) sent) (sym unsent) (owes-later old.unsent kept truth sent w b.owes);
  pairs = made b.pairs w;
  holds = holds b.pairs b.holds;
  distinct = keys_after-distinct w.key w.value stored b.distinct;
  keys = λ q. keys_after-same w.key w.value stored q (b.pairs q) (b.keys q);
  true_values = λ key value tells e.
      ap (λ (m : Pairs). m key) (after-append truth.start truth.writes (w ∷ []))
      ∙ written_value (w.key == key) w.value (b.pairs key) (true_pairs truth key) value (b.true_values key value tells) e;
}

-- ---- a get

some_if : {A : Type 0} (o : Option A) (P : A → Type 0) (Q : Type 0) → IsSome o → ((x : A) → P x → Q) → IfSome o P → Q
some_if None P Q h f i = absurd (false≢true h)
some_if (Some x) P Q h f i = f x i

if_always : {A : Type 0} (o : Option A) (Q : Type 0) → (IsSome o → Q) → IfSome o (λ x. Q)
if_always None Q h = tt
if_always (Some x) Q h = h refl

-- a stored value was found
pub found_stored : (old new : Behind) (kept : Kept) (truth : Truth) (stored : List ℕ) (sent : List Write) (key value : ℕ) →
    new.spent ≡ false → new.unsent ≡ old.unsent →
    ((pairs : Pairs) → Holds old.cache pairs → (pairs key ≡ Some value) × Holds new.cache pairs) →
    IsBehind old kept truth stored sent →
    IsBehind new kept truth (keys_found key (Some value) stored) sent × IfSome kept.pairs (λ p. Some value ≡ true_pairs truth key)
found_stored old new kept truth stored sent key value unspent unsent holds b =
    let h = holds b.pairs b.holds in
    let known : is_member nat_eq stored key ≡ true = sym (b.keys key) ∙ ap is_some h.0 in (
      record {
        unspent = unspent;
        owes = subst (λ (l : List Write). Owes l kept truth sent) (sym unsent) b.owes;
        pairs = b.pairs;
        holds = h.1;
        distinct = subst (λ (m : Bool). IsDistinct nat_eq (cond m stored (stored ++ key ∷ []))) (sym known) b.distinct;
        keys = λ q. subst (λ (m : Bool). is_some (b.pairs q) ≡ is_member nat_eq (cond m stored (stored ++ key ∷ [])) q) (sym known) (b.keys q);
        true_values = b.true_values;
      },
      if_always kept.pairs (Some value ≡ true_pairs truth key) (λ tells. sym (b.true_values key value tells h.0)),
    )

put_value : (b : Bool) (found o p : Option ℕ) (value : ℕ) → (b ≡ true → found ≡ p) → (o ≡ Some value → p ≡ Some value) →
    cond b found o ≡ Some value → p ≡ Some value
put_value true found o p value here f e = sym (here refl) ∙ e
put_value false found o p value here f e = f e

-- what wasn't stored was found behind the cache
pub found_behind : (old new : Behind) (kept : Kept) (truth : Truth) (stored : List ℕ) (sent : List Write) (key : ℕ) (found : Option ℕ) →
    new.spent ≡ false → new.unsent ≡ old.unsent →
    ((pairs : Pairs) → Holds old.cache pairs → (pairs key ≡ None) × Holds new.cache (put_at pairs key found)) →
    IfSome kept.pairs (λ p. found ≡ true_pairs truth key) → IsBehind old kept truth stored sent →
    IsBehind new kept truth (keys_found key found stored) sent
found_behind old new kept truth stored sent key found unspent unsent holds is b =
    let h = holds b.pairs b.holds in
    record {
      unspent = unspent;
      owes = subst (λ (l : List Write). Owes l kept truth sent) (sym unsent) b.owes;
      pairs = put_at b.pairs key found;
      holds = h.1;
      distinct = keys_found-distinct key found stored b.distinct;
      keys = λ q. keys_found-same key found stored q (b.pairs q)
          (λ e. ap b.pairs (sym (eqb-true key q e)) ∙ h.0) (b.keys q);
      true_values = λ q value tells e.
          put_value (key == q) found (b.pairs q) (true_pairs truth q) value
          (λ same. some_if kept.pairs (λ p. found ≡ true_pairs truth key) (found ≡ true_pairs truth q) tells
          (λ p i. i ∙ ap (λ (k : ℕ). true_pairs truth k) (eqb-true key q same)) is)
          (b.true_values q value tells) e;
    }

-- nothing that it holds has changed
pub same_behind : (old new : Behind) (kept : Kept) (truth : Truth) (stored : List ℕ) (sent : List Write) →
    new.spent ≡ false → new.unsent ≡ old.unsent → ((pairs : Pairs) → Holds old.cache pairs → Holds new.cache pairs) →
    IsBehind old kept truth stored sent → IsBehind new kept truth stored sent
same_behind old new kept truth stored sent unspent unsent holds b = record {
  unspent = unspent;
  owes = subst (λ (l : List Write). Owes l kept truth sent) (sym unsent) b.owes;
  pairs = b.pairs;
  holds = holds b.pairs b.holds;
  distinct = b.distinct;
  keys = b.keys;
  true_values = b.true_values;
}

-- a key that isn't stored and is the behind's own has an unsent write
pub own_unsent : (old : Behind) (kept : Kept) (truth : Truth) (stored : List ℕ) (sent : List Write) (key : ℕ) →
    (b : IsBehind old kept truth stored sent) → b.pairs key ≡ None → IsOwn old stored key → IsSome (last_of key old.unsent)
own_unsent old kept truth stored sent key b absent (inl h) =
    absurd (false≢true (sym (ap is_some absent) ∙ b.keys key ∙ h))
own_unsent old kept truth stored sent key b absent (inr h) = h

-- ---- a shed

pub nothing_distinct : IsDistinct nat_eq []
unfolding IsDistinct
nothing_distinct = tt

pub emptied : (old new : Behind) (kept : Kept) (truth : Truth) (stored : List ℕ) (sent : List Write) →
    new.spent ≡ false → new.unsent ≡ old.unsent → ((pairs : Pairs) → Holds old.cache pairs → Holds new.cache (λ key. None)) →
    IsBehind old kept truth stored sent → IsBehind new kept truth [] sent
emptied old new kept truth stored sent unspent unsent holds b = record {
  unspent = unspent;
  owes = subst (λ (l : List Write). Owes l kept truth sent) (sym unsent) b.owes;
  pairs = λ key. None;
  holds = holds b.pairs b.holds;
  distinct = nothing_distinct;
  keys = λ key. refl;
  true_values = λ key value tells e. none_some e;
}

-- ---- a drain

told_pairs : (a b : Option Pairs) (P : Type 0) → IsSome b → (IsSome a → P) → ((p : Pairs) → b ≡ Some p → IsSome a) → P
told_pairs a None P h f g = absurd (false≢true h)
told_pairs a (Some p) P h f g = f (g p refl)

-- its cache is as it was, and the keeper tells less, if anything changed of what it tells
pub drained : (old new : Behind) (before after : Kept) (truth : Truth) (stored : List ℕ) (sent now : List Write) →
    new.spent ≡ old.spent → new.cache ≡ old.cache → Owes new.unsent after truth now →
    (IsSome after.pairs → IsSome before.pairs) → IsBehind old before truth stored sent → IsBehind new after truth stored now
drained old new before after truth stored sent now spent cache owes tells b = record {
  unspent = spent ∙ b.unspent;
  owes = owes;
  pairs = b.pairs;
  holds = subst (λ c. Holds c b.pairs) (sym cache) b.holds;
  distinct = b.distinct;
  keys = b.keys;
  true_values = λ key value told e. b.true_values key value (tells told) e;
}

all_pairs : (start : Pairs) (sent : List Write) (p : Pairs) → (p ≡ after start sent) ⊎ (p ≡ after start (sent ++ [])) → p ≡ after start sent
all_pairs start sent p (inl h) = h
all_pairs start sent p (inr h) = h ∙ ap (λ (l : List Write). after start l) (append-nil sent)

-- where nothing is unsent all was sent, and the keeper's map is the truth
pub all_sent : (kept : Kept) (truth : Truth) (sent : List Write) → Owes [] kept truth sent →
    (sent ≡ truth.writes) × IfSome kept.pairs (λ p. p ≡ true_pairs truth)
all_sent kept truth sent o =
    let e : sent ≡ truth.writes = sym (o.writes ∙ append-nil sent) in (
      e,
      if_weaker kept.pairs (λ p. (p ≡ after truth.start sent) ⊎ (p ≡ after truth.start (sent ++ take 1 []))) (λ p. p ≡ true_pairs truth)
          (λ p h. all_pairs truth.start sent p h ∙ ap (λ (l : List Write). after truth.start l) e) o.pairs,
    )

-- ---- answers

true_or : (b : Bool) (P : Type 0) → (b ≡ true → P) → (b ≡ false → P) → P
true_or true P f g = f refl
true_or false P f g = g refl

-- what answered isn't spent
pub unspent_ok : {T : Type 0} (E : Type 0) (x : T) (new : Behind) → (IsErr {T = T} {E = E} (Ok x) ↔ IsSpent new) → new.spent ≡ false
unspent_ok E x new both = true_or new.spent (new.spent ≡ false) (λ e. absurd (false≢true (both.1 e))) (λ e. e)

-- nor was it spent before
pub unspent_before : {T : Type 0} (E : Type 0) (x : T) (old : Behind) → (IsSpent old → IsErr {T = T} {E = E} (Ok x)) → old.spent ≡ false
unspent_before E x old stays = true_or old.spent (old.spent ≡ false) (λ e. absurd (false≢true (stays e))) (λ e. e)

-- it can be used afterwards
pub usable_after : {T E : Type 0} (r : Result T E) (old new : Behind) → (IsErr r ↔ IsSpent new) → (IsSpent old → IsErr r) → IsUsable old →
    OnOk r ((ps : Pairs) → Holds old.cache ps → (now : Pairs) × Holds new.cache now) → IsUsable new
usable_after {T} {E} (Ok x) old new both stays usable holds = λ unspent.
    let h = usable (unspent_before E x old stays) in
    holds h.0 h.1
usable_after (Err e) old new both stays usable holds = λ unspent. absurd (false≢true (sym unspent ∙ both.0 refl))

-- a set or a del
pub wrote_so : {T E : Type 0} (r : Result T E) (old new : Behind) (w : Write) → (IsErr r ↔ IsSpent new) →
    OnOk r (new.unsent ≡ old.unsent ++ w ∷ []) → OnOk r ((ps : Pairs) → Holds old.cache ps → Holds new.cache (made ps w)) →
    OnOk r ((kept : Kept) (truth : Truth) (stored : List ℕ) (sent : List Write) → IsBehind old kept truth stored sent →
    IsBehind new kept (with_write truth w) (keys_after w.key w.value stored) sent)
wrote_so {T} {E} (Ok x) old new w both unsent holds = λ kept truth stored sent b.
    wrote old new w kept truth stored sent (unspent_ok E x new both) unsent holds b
wrote_so (Err e) old new w both unsent holds = tt

-- it holds what the write left
pub holds_after : {T E : Type 0} (r : Result T E) (old new : Behind) (w : Write) →
    OnOk r ((ps : Pairs) → Holds old.cache ps → Holds new.cache (made ps w)) →
    OnOk r ((ps : Pairs) → Holds old.cache ps → (now : Pairs) × Holds new.cache now)
holds_after (Ok x) old new w holds = λ ps h. (made ps w, holds ps h)
holds_after (Err e) old new w holds = tt

-- ---- a new one

pub holds_empty : {E : Type 0} {same : PartialEq.Ghosts ℕ} {hash : Hash.Ghosts ℕ} (cache : PolledMachine ℕ ℕ E same hash) (capacity : ℕ) →
    IsPolled nat_eq cache (empty (Some capacity)) → Holds cache (λ key. None)
holds_empty cache capacity stands = record {
  small = empty (Some capacity);
  stands = stands;
  such = record { calls = λ n. refl; bounded = refl };
  values = λ key. refl;
}

pub begun : (new : Behind) (kept : Kept) → new.spent ≡ false → new.unsent ≡ [] → Holds new.cache (λ key. None) →
    IsBehind new kept (truth_of kept) [] []
begun new kept unspent unsent holds = record {
  unspent = unspent;
  owes = subst (λ (l : List Write). Owes l kept (truth_of kept) []) (sym unsent) (owes-nothing kept);
  pairs = λ key. None;
  holds = holds;
  distinct = nothing_distinct;
  keys = λ key. refl;
  true_values = λ key value tells e. none_some e;
}

-- ---- a shed, whatever it answers

-- it holds nothing
pub empty_after : {T E : Type 0} (r : Result T E) (old new : Behind) →
    OnOk r ((ps : Pairs) → Holds old.cache ps → Holds new.cache (λ key. None)) →
    OnOk r ((ps : Pairs) → Holds old.cache ps → (now : Pairs) × Holds new.cache now)
empty_after (Ok x) old new holds = λ ps h. (λ key. None, holds ps h)
empty_after (Err e) old new holds = tt

pub shed_so : {E : Type 0} (r : Result ℕ E) (old new : Behind) → (IsErr r ↔ IsSpent new) → new.unsent ≡ old.unsent →
    OnOk r ((ps : Pairs) → Holds old.cache ps → Holds new.cache (λ key. None)) →
    IfOk r (λ count. (ps : Pairs) → Holds old.cache ps → CountsKeys ps count) →
    IfOk r (λ count. (kept : Kept) (truth : Truth) (stored : List ℕ) (sent : List Write) → IsBehind old kept truth stored sent →
    (count ≡ length stored) × IsBehind new kept truth [] sent)
shed_so {E} (Ok count) old new both unsent empty counts = λ kept truth stored sent b. (
  counts b.pairs b.holds stored b.distinct b.keys,
  emptied old new kept truth stored sent (unspent_ok E count new both) unsent empty b,
)
shed_so (Err e) old new both unsent empty counts = tt

-- ---- a get of a key that isn't stored, whatever it answers

pub got_unspent : (found : Option ℕ) (new : Behind) → (IsErrOf {T = Option ℕ} {E = BehindError} (Ok found) Memory ↔ IsSpent new) → new.spent ≡ false
got_unspent found new both = true_or new.spent (new.spent ≡ false) (λ e. let no = both.1 e in absurd (cc)) (λ e. e)

pub fault_unspent : (r : Result (Option ℕ) BehindError) (new : Behind) → (IsErrOf r Memory ↔ IsSpent new) → IsErrOf r Fault → new.spent ≡ false
fault_unspent r new both fault = true_or new.spent (new.spent ≡ false) (λ e. let memory = both.1 e in absurd (cc)) (λ e. e)

pub got_so : (r : Result (Option ℕ) BehindError) (old mid new : Behind) (before after : Kept) (key call : ℕ) →
    ((ps : Pairs) → Holds old.cache ps → (ps key ≡ None) × HoldsAsking mid.cache call key ps) →
    mid.unsent ≡ old.unsent → new.unsent ≡ mid.unsent → after ≡ before →
    IfOk r (λ found. (ps : Pairs) → HoldsAsking mid.cache call key ps → Holds new.cache (put_at ps key found)) →
    IfOk r (λ found. (truth : Truth) (sent : List Write) → Owes mid.unsent before truth sent →
    IfSome after.pairs (λ p. found ≡ true_pairs truth key)) →
    (IsErrOf r Memory ↔ IsSpent new) →
    IfOk r (λ found. (truth : Truth) (stored : List ℕ) (sent : List Write) → IsBehind old before truth stored sent →
    IsBehind new after truth (keys_found key found stored) sent × IfSome after.pairs (λ p. found ≡ true_pairs truth key))
got_so (Ok found) old mid new before after key call looked first second told ends true_value both = λ truth stored sent b.
    let owes : Owes mid.unsent before truth sent = subst (λ (l : List Write). Owes l before truth sent) (sym first) b.owes in
    let is : IfSome after.pairs (λ p. found ≡ true_pairs truth key) = true_value truth sent owes in
    let was : IfSome before.pairs (λ p. found ≡ true_pairs truth key) =
    subst (λ (k : Kept). IfSome k.pairs (λ p. found ≡ true_pairs truth key)) told is in (
      subst (λ (k : Kept). IsBehind new k truth (keys_found key found stored) sent) (sym told)
          (found_behind old new before truth stored sent key found (got_unspent found new both) (second ∙ first)
          (λ ps h. let l = looked ps h in (l.0, ends ps l.1)) was b),
      is,
    )
got_so (Err e) old mid new before after key call looked first second told ends true_value both = tt

-- it can be used afterwards
pub got_usable : (r : Result (Option ℕ) BehindError) (old mid new : Behind) (key call : ℕ) → (usable : (ps : Pairs) × Holds old.cache ps) →
    ((ps : Pairs) → Holds old.cache ps → (ps key ≡ None) × HoldsAsking mid.cache call key ps) →
    IfOk r (λ found. (ps : Pairs) → HoldsAsking mid.cache call key ps → Holds new.cache (put_at ps key found)) →
    (IsErrOf r Fault → (ps : Pairs) → HoldsAsking mid.cache call key ps → Holds new.cache ps) →
    (IsErrOf r Memory ↔ IsSpent new) → IsUsable new
got_usable (Ok found) old mid new key call usable looked ends dropped both = λ unspent.
    (put_at usable.0 key found, ends usable.0 (looked usable.0 usable.1).1)
got_usable (Err Fault) old mid new key call usable looked ends dropped both = λ unspent.
    (usable.0, dropped refl usable.0 (looked usable.0 usable.1).1)
got_usable (Err Memory) old mid new key call usable looked ends dropped both = λ unspent.
    absurd (false≢true (sym unspent ∙ both.0 refl))
