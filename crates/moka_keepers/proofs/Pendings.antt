-- What is pending of a key as writes come and go.
use Rattle.std.proofs.Common.{◌≡◌, ◌≤◌, ◌<◌, ◌+◌, ◌-◌, ◌^◌, ℕ, ◌==◌, nat_lt, Bool, true, false, cond, List, [], ◌∷◌, ◌++◌, length, Option, Some, None, IfSome, refl, sym, ap, ◌∙◌, subst, arith}
use Rattle.std.proofs.lemmas.Bool.{eq-eqb, eqb-true, false≢true, lt-ltb}
use Rattle.std.specs.Option.{option_map, option_or}
use Rattle.moka_hist.specs.Finite.{put_at}
use Rattle.moka_keepers.specs.declared.write.Write.{Write}
use Rattle.moka_keepers.specs.declared.unsent.Pending.{Pending}
use Rattle.moka_keepers.specs.Writes.{count_of, last_of}
use Rattle.moka_keepers.specs.Pending.{less, noted, pending_of}

none_some : {A P : Type 0} {x : A} → None ≡ Some x → P
none_some e = absurd (cc)

-- ---- the last write of a key, and how many there are

or_cond : {A : Type 0} (b : Bool) (v : A) (o p : Option A) →
    option_or (cond b (Some v) o) p ≡ cond b (Some v) (option_or o p)
or_cond true v o p = refl
or_cond false v o p = refl

pub last_of-push : (key : ℕ) (ws : List Write) (w : Write) →
    last_of key (ws ++ w ∷ []) ≡ cond (w.key == key) (Some w.value) (last_of key ws)
last_of-push key [] w = refl
last_of-push key (x ∷ xs) w =
    ap (λ (o : Option (Option ℕ)). option_or o (cond (x.key == key) (Some x.value) None)) (last_of-push key xs w)
    ∙ or_cond (w.key == key) w.value (last_of key xs) (cond (x.key == key) (Some x.value) None)

more : (b c : Bool) (n : ℕ) →
    cond c (cond b (n + 1) n + 1) (cond b (n + 1) n) ≡ cond b (cond c (n + 1) n + 1) (cond c (n + 1) n)
more true true n = refl
more true false n = refl
more false true n = refl
more false false n = refl

pub count_of-push : (key : ℕ) (ws : List Write) (w : Write) →
    count_of key (ws ++ w ∷ []) ≡ cond (w.key == key) (count_of key ws + 1) (count_of key ws)
count_of-push key [] w = refl
count_of-push key (x ∷ xs) w =
    ap (λ (n : ℕ). cond (x.key == key) (n + 1) n) (count_of-push key xs w)
    ∙ more (w.key == key) (x.key == key) (count_of key xs)

at_most : (b : Bool) (n m : ℕ) → n ≤ m → cond b (n + 1) n ≤ m + 1
at_most true n m h = omega arith
at_most false n m h = omega arith

-- a key has at most as many writes as there are
pub count_of-le : (key : ℕ) (ws : List Write) → count_of key ws ≤ length ws
count_of-le key [] = omega arith
count_of-le key (x ∷ xs) =
    let h = at_most (x.key == key) (count_of key xs) (length xs) (count_of-le key xs) in omega arith

none_step : (o : Option (Option ℕ)) (b : Bool) (v : Option ℕ) (n : ℕ) → (o ≡ None → n ≡ 0) →
    option_or o (cond b (Some v) None) ≡ None → cond b (n + 1) n ≡ 0
none_step None true v n ih e = none_some (sym e)
none_step None false v n ih e = ih refl
none_step (Some l) b v n ih e = none_some (sym e)

-- a key of which no write is the last has none
pub count_of-none : (key : ℕ) (ws : List Write) → last_of key ws ≡ None → count_of key ws ≡ 0
count_of-none key [] e = refl
count_of-none key (x ∷ xs) e =
    none_step (last_of key xs) (x.key == key) x.value (count_of key xs) (count_of-none key xs) e

some_step : (o : Option (Option ℕ)) (b : Bool) (v l : Option ℕ) (n : ℕ) →
    ((k : Option ℕ) → o ≡ Some k → 0 < n) → option_or o (cond b (Some v) None) ≡ Some l → 0 < cond b (n + 1) n
some_step o true v l n ih e = omega arith
some_step None false v l n ih e = none_some e
some_step (Some k) false v l n ih e = ih k refl

-- one of which some write is the last has one at least
pub count_of-some : (key : ℕ) (ws : List Write) (l : Option ℕ) → last_of key ws ≡ Some l → 0 < count_of key ws
count_of-some key [] l e = none_some e
count_of-some key (x ∷ xs) l e =
    some_step (last_of key xs) (x.key == key) x.value l (count_of key xs) (count_of-some key xs) e

-- ---- what is pending

abbrev entry : ℕ → Option ℕ → Pending
entry n l = record { count = n; last = l }

abbrev pend : ℕ → Option (Option ℕ) → Option Pending
pend n o = option_map (λ l. entry n l) o

push_cases : (b : Bool) (n m : ℕ) (o p : Option (Option ℕ)) (v : Option ℕ) → (b ≡ true → (n ≡ m) × (o ≡ p)) →
    (p ≡ None → m ≡ 0) →
    pend (cond b (n + 1) n) (cond b (Some v) o) ≡ cond b (Some (noted (pend m p) v)) (pend n o)
push_cases false n m o p v same none = refl
push_cases true n m o None v same none =
    ap (λ (k : ℕ). Some (entry (k + 1) v)) ((same refl).0 ∙ none refl)
push_cases true n m o (Some l) v same none = ap (λ (k : ℕ). Some (entry (k + 1) v)) ((same refl).0)

-- what is pending of each key once one more write came
pub pending_of-push : (key : ℕ) (ws : List Write) (w : Write) →
    pending_of key (ws ++ w ∷ []) ≡ put_at (λ k. pending_of k ws) w.key (Some (noted (pending_of w.key ws) w.value)) key
pending_of-push key ws w =
    ap (λ (n : ℕ). pend n (last_of key (ws ++ w ∷ []))) (count_of-push key ws w)
    ∙ ap (λ (o : Option (Option ℕ)). pend (cond (w.key == key) (count_of key ws + 1) (count_of key ws)) o) (last_of-push key ws w)
    ∙ push_cases (w.key == key) (count_of key ws) (count_of w.key ws) (last_of key ws) (last_of w.key ws) w.value
    (λ e. let k = sym (eqb-true w.key key e) in (ap (λ (q : ℕ). count_of q ws) k, ap (λ (q : ℕ). last_of q ws) k))
    (count_of-none w.key ws)

some_less : (t : Bool) → t ≡ true → (k m : ℕ) → k ≡ m → (l : Option ℕ) →
    pend m (Some l) ≡ cond t (Some (entry k l)) None
some_less true e k m h l = ap (λ (n : ℕ). Some (entry n l)) (sym h)
some_less false e k m h l = absurd (false≢true e)

pop_own : (m : ℕ) (p : Option (Option ℕ)) (v : Option ℕ) → (p ≡ None → m ≡ 0) → ((l : Option ℕ) → p ≡ Some l → 0 < m) →
    pend m p ≡ less (pend (m + 1) (option_or p (Some v)))
pop_own m None v none some =
    sym (ap (λ (k : ℕ). less (pend (k + 1) (Some v))) (none refl))
pop_own m (Some l) v none some =
    let h : 0 < m = some l refl in
    let h2 : 1 < m + 1 = omega arith in
    let h3 : m + 1 - 1 ≡ m = omega arith in
    some_less (nat_lt 1 (m + 1)) (lt-ltb 1 (m + 1) h2) (m + 1 - 1) m h3 l

or_none : {A : Type 0} (o : Option A) → o ≡ option_or o None
or_none None = refl
or_none (Some x) = refl

pop_cases : (b r : Bool) → r ≡ true → (n m : ℕ) (o p : Option (Option ℕ)) (v : Option ℕ) →
    (b ≡ true → (n ≡ m) × (o ≡ p)) → (p ≡ None → m ≡ 0) → ((l : Option ℕ) → p ≡ Some l → 0 < m) →
    pend n o ≡ cond b (less (pend (cond r (m + 1) m) (option_or p (cond r (Some v) None))))
    (pend (cond b (n + 1) n) (option_or o (cond b (Some v) None)))
pop_cases false true e n m o p v same none some = ap (λ (q : Option (Option ℕ)). pend n q) (or_none o)
pop_cases true true e n m o p v same none some =
    ap (λ (k : ℕ). pend k o) ((same refl).0) ∙ ap (λ (q : Option (Option ℕ)). pend m q) ((same refl).1)
    ∙ pop_own m p v none some
pop_cases b false e n m o p v same none some = absurd (false≢true e)

-- what is pending of each key once the oldest write is off
pub pending_of-pop : (key : ℕ) (w : Write) (ws : List Write) →
    pending_of key ws ≡ put_at (λ k. pending_of k (w ∷ ws)) w.key (less (pending_of w.key (w ∷ ws))) key
pending_of-pop key w ws =
    pop_cases (w.key == key) (w.key == w.key) (eq-eqb w.key w.key refl) (count_of key ws) (count_of w.key ws)
    (last_of key ws) (last_of w.key ws) w.value
    (λ e. let k = sym (eqb-true w.key key e) in (ap (λ (q : ℕ). count_of q ws) k, ap (λ (q : ℕ). last_of q ws) k))
    (count_of-none w.key ws) (count_of-some w.key ws)

fit_some : (n room : ℕ) (o : Option (Option ℕ)) → n + 1 ≤ room → room < 2 ^ 63 → IfSome (pend n o) (λ p. p.count + 1 < 2 ^ 64)
fit_some n room None h r = tt
fit_some n room (Some l) h r = omega arith

-- one more write of a key can be counted where there is room for one more
pub fits_one_more : (key : ℕ) (ws : List Write) (o : Option Pending) (room : ℕ) → o ≡ pending_of key ws →
    length ws + 1 ≤ room → room < 2 ^ 63 → IfSome o (λ p. p.count + 1 < 2 ^ 64)
fits_one_more key ws o room e h r =
    let le = count_of-le key ws in
    let k : count_of key ws + 1 ≤ room = omega arith in
    subst (λ (x : Option Pending). IfSome x (λ p. p.count + 1 < 2 ^ 64)) (sym e) (fit_some (count_of key ws) room (last_of key ws) k r)

-- a map that had what is pending has it still, once one more write came and was noted
pub push_noted : (old new : ℕ → Option Pending) (ws : List Write) (w : Write) (now : List Write) →
    ((key : ℕ) → old key ≡ pending_of key ws) →
    ((key : ℕ) → new key ≡ put_at old w.key (Some (noted (old w.key) w.value)) key) → now ≡ ws ++ w ∷ [] →
    (key : ℕ) → new key ≡ pending_of key now
push_noted old new ws w now is change items key =
    change key
    ∙ ap (λ (o : Option Pending). cond (w.key == key) (Some (noted o w.value)) (old key)) (is w.key)
    ∙ ap (λ (o : Option Pending). cond (w.key == key) (Some (noted (pending_of w.key ws) w.value)) o) (is key)
    ∙ sym (pending_of-push key ws w) ∙ ap (λ (l : List Write). pending_of key l) (sym items)

-- and once the oldest write is off and counted less
pub pop_less : (old new : ℕ → Option Pending) (w : Write) (ws now : List Write) →
    ((key : ℕ) → old key ≡ pending_of key (w ∷ ws)) →
    ((key : ℕ) → new key ≡ put_at old w.key (less (old w.key)) key) → now ≡ ws →
    (key : ℕ) → new key ≡ pending_of key now
pop_less old new w ws now is change items key =
    change key
    ∙ ap (λ (o : Option Pending). cond (w.key == key) (less o) (old key)) (is w.key)
    ∙ ap (λ (o : Option Pending). cond (w.key == key) (less (pending_of w.key (w ∷ ws))) o) (is key)
    ∙ sym (pending_of-pop key w ws) ∙ ap (λ (l : List Write). pending_of key l) (sym items)
