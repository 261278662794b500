-- Calls that wait for owners are on their lists, as loads and lists change.
use Rattle.std.proofs.Common.{◌≡◌, ℕ, ◌+◌, ◌<◌, ◌==◌, nat_lt, Bool, true, false, cond, ◌&&◌, List, [], ◌∷◌, Option, Some, None, is_some, IsSome, IsNone, nat_eq, refl, sym, ap, subst, ◌∙◌, arith}
use Rattle.std.specs.HashMap.{get}
use Rattle.std.specs.Map.{lookup}
use Rattle.std.specs.Option.{option_and_then, option_map_or}
use Rattle.std.proofs.lemmas.Bool.{eqb-true, eqb-false}
use Rattle.std.proofs.lemmas.Bool.Decides.{nat_tests}
use Rattle.std.proofs.lemmas.List.Sums.{sum_by-cons}
use Rattle.std.specs.declared.cmp.PartialEq as PartialEq
use Rattle.std.specs.declared.hash.Hash as Hash
use Rattle.std.specs.declared.hash.Hasher as Hasher
use Rattle.std.specs.declared.hash.BuildHasher as BuildHasher
use Rattle.moka_hist.specs.Finite.{put_at}
use Rattle.moka_hist.specs.State.{DeskPart}
use Rattle.moka_hist.specs.Visits.{settlement_for}
use Rattle.moka_sync.specs.Waiting.{waits, without}
use Rattle.moka_desk.specs.Lines.{with_call}
use Rattle.moka_desk.specs.Loads.{load_part, unsettled, LoadsAre}
use Rattle.moka_desk.specs.Readers.{waiting_for}
use Rattle.moka_desk.specs.declared.loads.Loads.{Loads}
use Rattle.moka_desk.proofs.Misses.{some_still}
use Rattle.moka_desk.proofs.Woken.{itself, others_with, others_without, waits_with}

one : (P : ℕ → Type 0) (x y : ℕ) → Some x ≡ Some y → P x → P y
one P x y e p = subst P (ap (λ o. option_map_or (λ m. m) o x) e) p

pub nobody : (n : ℕ) → None ≡ Some n → ⊥
nobody n e = cc

no : true ≡ false → ⊥
no e = cc

-- what stands where it was put, and elsewhere as before
pub put_here : (f : ℕ → Option ℕ) (call owner : ℕ) → put_at f call (Some owner) call ≡ Some owner
put_here f call owner = ap (λ b. cond b (Some owner) (f call)) (itself call)

pub put_none : (f : ℕ → Option ℕ) (call k n : ℕ) → put_at f call None k ≡ Some n → f k ≡ Some n
put_none f call k n is = by (call == k) is where
  by : (b : Bool) → cond b None (f k) ≡ Some n → f k ≡ Some n
  by true e = absurd (nobody n e)
  by false e = e

-- ---- how many wait

-- one that waits for this owner counts
abbrev counts_for : ℕ → ℕ × ℕ → ℕ
counts_for n e = cond (e.1 == n) 1 0

-- somebody waits for an owner that one has joined
waiting_one : (xs : List (ℕ × ℕ)) (k n : ℕ) → lookup (nat_eq k) xs ≡ Some n → 0 < waiting_for xs n
waiting_one [] k n is = absurd (nobody n is)
waiting_one (x ∷ xs) k n is = by (nat_eq k x.0) is (waiting_one xs k n) where
  by : (b : Bool) → cond b (Some x.1) (lookup (nat_eq k) xs) ≡ Some n → (lookup (nat_eq k) xs ≡ Some n → 0 < waiting_for xs n) →
      0 < waiting_for (x ∷ xs) n
  by true e rest =
      let here : (x.1 == n) ≡ true = one (λ m. (x.1 == m) ≡ true) x.1 n e (itself x.1) in
      let all : waiting_for (x ∷ xs) n ≡ 1 + waiting_for xs n = sum_by-cons (counts_for n) x xs ∙ ap (λ b. cond b 1 0 + waiting_for xs n) here in
      omega (arith, all)
  by false e rest =
      let all : waiting_for (x ∷ xs) n ≡ cond (x.1 == n) 1 0 + waiting_for xs n = sum_by-cons (counts_for n) x xs in
      let more = rest e in
      omega (arith, all, more)

-- and not one alone, where two have
waiting_two : (xs : List (ℕ × ℕ)) (k m n : ℕ) → (k == m) ≡ false → lookup (nat_eq k) xs ≡ Some n → lookup (nat_eq m) xs ≡ Some n → 1 < waiting_for xs n
waiting_two [] k m n apart is too = absurd (nobody n is)
waiting_two (x ∷ xs) k m n apart is too =
    by (k == x.0) refl is (m == x.0) refl too (waiting_one xs k n) (waiting_one xs m n) (waiting_two xs k m n apart) where
      all : waiting_for (x ∷ xs) n ≡ cond (x.1 == n) 1 0 + waiting_for xs n
      all = sum_by-cons (counts_for n) x xs

      first : Some x.1 ≡ Some n → waiting_for (x ∷ xs) n ≡ 1 + waiting_for xs n
      first e = all ∙ ap (λ b. cond b 1 0 + waiting_for xs n) (one (λ i. (x.1 == i) ≡ true) x.1 n e (itself x.1))

      by : (a : Bool) → (k == x.0) ≡ a → cond a (Some x.1) (lookup (nat_eq k) xs) ≡ Some n →
          (b : Bool) → (m == x.0) ≡ b → cond b (Some x.1) (lookup (nat_eq m) xs) ≡ Some n →
          (lookup (nat_eq k) xs ≡ Some n → 0 < waiting_for xs n) → (lookup (nat_eq m) xs ≡ Some n → 0 < waiting_for xs n) →
          (lookup (nat_eq k) xs ≡ Some n → lookup (nat_eq m) xs ≡ Some n → 1 < waiting_for xs n) → 1 < waiting_for (x ∷ xs) n
      by true e f true d g one_k one_m two = absurd (eqb-false k m apart (eqb-true k x.0 e ∙ sym (eqb-true m x.0 d)))
      by true e f false d g one_k one_m two =
          let here = first f in
          let more = one_m g in
          omega (arith, here, more)
      by false e f true d g one_k one_m two =
          let here = first g in
          let more = one_k f in
          omega (arith, here, more)
      by false e f false d g one_k one_m two =
          let here = all in
          let more = two f g in
          omega (arith, here, more)

not_none : (n : ℕ) → 0 < n → nat_lt 0 n ≡ true
not_none n more = grind (arith, nat_tests, more)

not_one : (n : ℕ) → 1 < n → (n == 1) ≡ false
not_one n more = by (n == 1) refl where
  by : (b : Bool) → (n == 1) ≡ b → b ≡ false
  by true e = let is = eqb-true n 1 e in absurd (omega (arith, is, more))
  by false e = refl

module _ {K V E S H : Type 0} {same : PartialEq.Ghosts K} {hash : Hash.Ghosts K} {build : BuildHasher.Ghosts S H} {hasher : Hasher.Ghosts H} (eq : K → K → Bool) (loads : Loads K V E S H same hash build hasher) (w : DeskPart K V E) (h : LoadsAre eq loads (load_part w)) where
  pub some_reader : (k n : ℕ) → w.joined k ≡ Some n → nat_lt 0 (w.readers n) ≡ true
  some_reader k n is =
      ap (nat_lt 0) (sym (h.readers n) ∙ loads.all_are_counted n) ∙ not_none (waiting_for loads.joined.entries n) (waiting_one loads.joined.entries k n (h.joined k ∙ is))

  pub more_readers : (k m n : ℕ) → (k == m) ≡ false → w.joined k ≡ Some n → w.joined m ≡ Some n → (w.readers n == 1) ≡ false
  more_readers k m n apart is too =
      ap (λ x. x == 1) (sym (h.readers n) ∙ loads.all_are_counted n)
      ∙ not_one (waiting_for loads.joined.entries n) (waiting_two loads.joined.entries k m n apart (h.joined k ∙ is) (h.joined m ∙ too))

-- ---- whether an owner has ended

pub one_awaited : (o : Option ℕ) → is_some o ≡ true → (n : ℕ) × (o ≡ Some n)
one_awaited None e = absurd (no (sym e))
one_awaited (Some n) e = (n, refl)

not_ended : {A : Type 0} (f g : ℕ → Option A) → ((n : ℕ) → f n ≡ g n) → (o : Option ℕ) → is_some (unsettled o f) ≡ true → is_some (option_and_then g o) ≡ false
not_ended f g same None e = absurd (no (sym e))
not_ended f g same (Some m) e = ap is_some (sym (same m)) ∙ by (is_some (f m)) refl e where
  by : (b : Bool) → is_some (f m) ≡ b → is_some (cond b None (Some m)) ≡ true → is_some (f m) ≡ false
  by true d e = absurd (no (sym e))
  by false d e = d

ended : {A : Type 0} (f g : ℕ → Option A) → ((n : ℕ) → f n ≡ g n) → (o : Option ℕ) → IsSome o → is_some (unsettled o f) ≡ false → is_some (option_and_then g o) ≡ true
ended f g same None some e = absurd (no (sym some))
ended f g same (Some m) some e = ap is_some (sym (same m)) ∙ by (is_some (f m)) refl e where
  by : (b : Bool) → is_some (f m) ≡ b → is_some (cond b None (Some m)) ≡ false → is_some (f m) ≡ true
  by true d e = d
  by false d e = absurd (no e)

module _ {K V E S H : Type 0} {same : PartialEq.Ghosts K} {hash : Hash.Ghosts K} {build : BuildHasher.Ghosts S H} {hasher : Hasher.Ghosts H} (eq : K → K → Bool) (loads : Loads K V E S H same hash build hasher) (w : DeskPart K V E) (h : LoadsAre eq loads (load_part w)) where
  pub unread : (call : ℕ) → is_some (unsettled (get nat_eq loads.joined call) (λ n. get nat_eq loads.settled n)) ≡ true → is_some (settlement_for w call) ≡ false
  unread call e =
      not_ended (λ n. get nat_eq loads.settled n) w.settled h.settled (w.joined call)
      (ap (λ o. is_some (unsettled o (λ n. get nat_eq loads.settled n))) (sym (h.joined call)) ∙ e)

  pub has_ended : (call : ℕ) → IsSome (w.joined call) → is_some (unsettled (get nat_eq loads.joined call) (λ n. get nat_eq loads.settled n)) ≡ false → is_some (settlement_for w call) ≡ true
  has_ended call joins e =
      ended (λ n. get nat_eq loads.settled n) w.settled h.settled (w.joined call) joins
      (ap (λ o. is_some (unsettled o (λ n. get nat_eq loads.settled n))) (sym (h.joined call)) ∙ e)

  pub still_awaited : (call : ℕ) → IsSome (w.joined call) → is_some (settlement_for w call) ≡ false → is_some (unsettled (get nat_eq loads.joined call) (λ n. get nat_eq loads.settled n)) ≡ true
  still_awaited call joins none = by (is_some (unsettled (get nat_eq loads.joined call) (λ n. get nat_eq loads.settled n))) refl where
    by : (b : Bool) → is_some (unsettled (get nat_eq loads.joined call) (λ n. get nat_eq loads.settled n)) ≡ b → b ≡ true
    by true e = refl
    by false e = absurd (no (sym (has_ended call joins e) ∙ none))

-- ---- who is listed

module _ {A B : Type 0} (line : ℕ → List ℕ) (joined : ℕ → Option ℕ) (settled : ℕ → Option A) (owning : ℕ → Option B)
    (listed : (k n : ℕ) → joined k ≡ Some n → IsNone (settled n) → IsSome (owning n) × (waits k (line n) ≡ true)) where
  -- a call joins an owner
  pub joins_listed : (call owner : ℕ) (new : ℕ → List ℕ) → IsSome (owning owner) → ((n : ℕ) → new n ≡ cond (owner == n) (with_call call (line n)) (without call (line n))) →
      (k n : ℕ) → put_at joined call (Some owner) k ≡ Some n → IsNone (settled n) → IsSome (owning n) × (waits k (new n) ≡ true)
  joins_listed call owner new owns lines k n = by (call == k) refl where
    stays : (call == k) ≡ false → (b : Bool) → waits k (cond b (with_call call (line n)) (without call (line n))) ≡ waits k (line n)
    stays e true = others_with k call (line n) e
    stays e false = others_without k call (line n) e

    here : (call == k) ≡ true → waits k (new owner) ≡ true
    here e = ap (λ c. waits c (new owner)) (sym (eqb-true call k e)) ∙ ap (waits call) (lines owner)
        ∙ ap (λ b. waits call (cond b (with_call call (line owner)) (without call (line owner)))) (itself owner) ∙ waits_with call (line owner)

    by : (b : Bool) → (call == k) ≡ b → cond b (Some owner) (joined k) ≡ Some n → IsNone (settled n) → IsSome (owning n) × (waits k (new n) ≡ true)
    by true e is none = one (λ m. IsSome (owning m) × (waits k (new m) ≡ true)) owner n is (owns, here e)
    by false e is none =
        let was = listed k n is none in
        (was.0, ap (waits k) (lines n) ∙ stays e (owner == n) ∙ was.1)

  -- one comes to own
  pub owns_listed : (call : ℕ) (x : B) → (k n : ℕ) → joined k ≡ Some n → IsNone (settled n) → IsSome (put_at owning call (Some x) n) × (waits k (line n) ≡ true)
  owns_listed call x k n is none =
      let was = listed k n is none in
      (some_still (call == n) x (owning n) was.0, was.1)

  -- an owner ends, and those on its list are handed out
  pub settles_listed : (call : ℕ) (with : A) (awaited : Bool) (new : ℕ → List ℕ) → ((k : ℕ) → joined k ≡ Some call → awaited ≡ true) → ((n : ℕ) → new n ≡ cond (call == n) [] (line n)) →
      (k n : ℕ) → joined k ≡ Some n → IsNone (cond (is_some (owning call) && awaited && call == n) (Some with) (settled n)) →
      IsSome (put_at owning call None n) × (waits k (new n) ≡ true)
  settles_listed call with awaited new some lines k n is = by (call == n) refl where
    met : (a b : Bool) → b ≡ true → is_some (owning call) ≡ a → IsNone (cond (a && b && true) (Some with) (settled call)) → joined k ≡ Some call → ⊥
    met true true f e none mine = no none
    met false true f e none mine = no (sym (listed k call mine none).0 ∙ e)
    met a false f e none mine = no (sym f)

    other : (a b : Bool) → IsNone (cond (a && b && false) (Some with) (settled n)) → IsNone (settled n)
    other true true none = none
    other true false none = none
    other false b none = none

    by : (c : Bool) → (call == n) ≡ c → IsNone (cond (is_some (owning call) && awaited && c) (Some with) (settled n)) →
        IsSome (cond c None (owning n)) × (waits k (new n) ≡ true)
    by true e none =
        let mine : joined k ≡ Some call = is ∙ ap Some (sym (eqb-true call n e)) in
        absurd (met (is_some (owning call)) awaited (some k mine) refl (subst (λ m. IsNone (cond (is_some (owning call) && awaited && true) (Some with) (settled m))) (sym (eqb-true call n e)) none) mine)
    by false e none =
        let was = listed k n is (other (is_some (owning call)) awaited none) in
        (was.0, ap (waits k) (lines n) ∙ ap (λ b. waits k (cond b [] (line n))) e ∙ was.1)

  -- a call waits no longer
  pub leaves_listed : (call : ℕ) (readers : ℕ → ℕ) (new : ℕ → List ℕ) → ((k m n : ℕ) → (k == m) ≡ false → joined k ≡ Some n → joined m ≡ Some n → (readers n == 1) ≡ false) →
      ((n : ℕ) → new n ≡ without call (line n)) →
      (k n : ℕ) → put_at joined call None k ≡ Some n → IsNone (cond (option_map_or (λ o. o == n) (joined call) false && readers n == 1) None (settled n)) →
      IsSome (owning n) × (waits k (new n) ≡ true)
  leaves_listed call readers new more lines k n = by (call == k) refl where
    still : (call == k) ≡ false → joined k ≡ Some n → (o : Option ℕ) → joined call ≡ o → IsNone (cond (option_map_or (λ o. o == n) o false && readers n == 1) None (settled n)) → IsNone (settled n)
    still e is None mine none = none
    still e is (Some m) mine none = which (m == n) refl none where
      which : (b : Bool) → (m == n) ≡ b → IsNone (cond (b && readers n == 1) None (settled n)) → IsNone (settled n)
      which false f none = none
      which true f none =
          let two = more call k n e (mine ∙ ap Some (eqb-true m n f)) is in
          subst (λ b. IsNone (cond b None (settled n))) two none

    by : (b : Bool) → (call == k) ≡ b → cond b None (joined k) ≡ Some n → IsNone (cond (option_map_or (λ o. o == n) (joined call) false && readers n == 1) None (settled n)) →
        IsSome (owning n) × (waits k (new n) ≡ true)
    by true e is none = absurd (nobody n is)
    by false e is none =
        let was = listed k n is (still e is (joined call) refl none) in
        (was.0, ap (waits k) (lines n) ∙ others_without k call (line n) e ∙ was.1)
