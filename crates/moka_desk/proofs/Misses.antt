-- Who is listed misses its thing still, as the lists and the state change.
use Rattle.std.proofs.Common.{◌≡◌, ◌≢◌, ℕ, ◌==◌, Bool, true, false, not, cond, ◌&&◌, ◌||◌, List, [], ◌∷◌, Option, Some, None, is_some, IsSome, IsNone, IsSomeAnd, nat_eq, refl, sym, ap, ◌∙◌, subst}
use Rattle.std.specs.Option.{option_map, option_map_or, option_or}
use Rattle.std.specs.HashMap.{HashMap, get}
use Rattle.std.proofs.lemmas.Bool.{eqb-true, eqb-false}
use Rattle.moka_hist.specs.Finite.{put_at}
use Rattle.moka_hist.specs.declared.visits.Takes.{Takes}
use Rattle.moka_sync.specs.Holders.{is_others}
use Rattle.moka_sync.specs.Waiting.{waits, without}
use Rattle.moka_desk.specs.Lines.{with_call}
use Rattle.moka_desk.specs.Loads.{unsettled}
use Rattle.moka_desk.specs.ListedMiss.{EachListed}
use Rattle.moka_desk.specs.declared.asks.OpenAsk.{OpenAsk}
use Rattle.moka_desk.proofs.Listed.{waits_still, waits_no_more, waits_before}

no : false ≡ true → ⊥
no e = cc

module _ (old new : ℕ → List ℕ) (Is Then : ℕ → ℕ → Type 0) where
  -- nobody moves
  pub stay_listed : ((n : ℕ) → new n ≡ old n) → ((n c : ℕ) → Is n c → Then n c) → EachListed old Is → EachListed new Then
  stay_listed same keep h n c is = keep n c (h n c (sym (ap (waits c) (same n)) ∙ is))

  -- a call leaves each list: those that stay are others
  pub left_listed : (call : ℕ) → ((n : ℕ) → new n ≡ without call (old n)) → ((n c : ℕ) → (call == c) ≡ false → Is n c → Then n c) → EachListed old Is → EachListed new Then
  left_listed call left keep h n c is = by (call == c) refl where
    on : waits c (without call (old n)) ≡ true
    on = sym (ap (waits c) (left n)) ∙ is

    by : (b : Bool) → (call == c) ≡ b → Then n c
    by true e = absurd (no (sym (waits_no_more call (old n)) ∙ ap (λ k. waits k (without call (old n))) (eqb-true call c e) ∙ on))
    by false e = keep n c e (h n c (waits_still c call (old n) on))

  -- all of one list leave it: those that stay are on other lists
  pub come_listed : (number : ℕ) → ((n : ℕ) → new n ≡ cond (number == n) [] (old n)) → ((n c : ℕ) → (number == n) ≡ false → Is n c → Then n c) → EachListed old Is → EachListed new Then
  come_listed number come keep h n c is = by (number == n) refl (sym (ap (waits c) (come n)) ∙ is) where
    by : (b : Bool) → (number == n) ≡ b → waits c (cond b [] (old n)) ≡ true → Then n c
    by true e on = absurd (no on)
    by false e on = keep n c e (h n c on)

  -- so they do if that thing has come
  pub come_if_listed : (number : ℕ) (come : Bool) → ((n : ℕ) → new n ≡ cond (come && number == n) [] (old n)) →
      ((n c : ℕ) → (come && number == n) ≡ false → Is n c → Then n c) → EachListed old Is → EachListed new Then
  come_if_listed number come gone keep h n c is = by (come && number == n) refl (sym (ap (waits c) (gone n)) ∙ is) where
    by : (b : Bool) → (come && number == n) ≡ b → waits c (cond b [] (old n)) ≡ true → Then n c
    by true e on = absurd (no on)
    by false e on = keep n c e (h n c on)

  -- a call is listed, where it misses the thing
  pub wait_listed : (number call : ℕ) → ((n : ℕ) → new n ≡ cond (number == n) (with_call call (old n)) (without call (old n))) →
      Then number call → ((n c : ℕ) → Is n c → Then n c) → EachListed old Is → EachListed new Then
  wait_listed number call wait here keep h n c is = by (number == n) refl (call == c) refl (sym (ap (waits c) (wait n)) ∙ is) where
    by : (a : Bool) → (number == n) ≡ a → (b : Bool) → (call == c) ≡ b → waits c (cond a (with_call call (old n)) (without call (old n))) ≡ true → Then n c
    by true e true f on = subst (λ m. Then m c) (eqb-true number n e) (subst (λ k. Then number k) (eqb-true call c f) here)
    by true e false f on = keep n c (h n c (waits_before c call (old n) f on))
    by false e b f on = keep n c (h n c (waits_still c call (old n) on))

-- where nobody is listed
pub nobody_listed : (line : ℕ → List ℕ) (Is : ℕ → ℕ → Type 0) → ((n : ℕ) → line n ≡ []) → EachListed line Is
nobody_listed line Is none n c is = absurd (no (sym (ap (waits c) (none n)) ∙ is))

pub nothing_asked : {P : Type 0} → IsSome {T = Takes} None → P
nothing_asked e = absurd (no e)

-- the turn stays with the call that has it, as a call asks for it
pub kept_turn : (turn : Option ℕ) (n call : ℕ) → turn ≡ Some n → cond (option_map_or (λ holder. holder == call) turn true) (Some call) turn ≡ Some n
kept_turn None n call e = cc
kept_turn (Some k) n call e = by (k == call) refl where
  by : (b : Bool) → (k == call) ≡ b → cond b (Some call) (Some k) ≡ Some n
  by true f = ap Some (sym (eqb-true k call f)) ∙ e
  by false f = e

-- the call that has the turn is another
pub anothers_turn : (turn : Option ℕ) (call holder : ℕ) → cond (is_others turn call) turn None ≡ Some holder → (turn ≡ Some holder) × (holder ≢ call)
anothers_turn None call holder e = cc
anothers_turn (Some k) call holder e = by (k == call) refl e where
  by : (b : Bool) → (k == call) ≡ b → cond (not b) (Some k) None ≡ Some holder → (Some k ≡ Some holder) × (holder ≢ call)
  by true f e = cc
  by false f e = (e, λ same. eqb-false k call f (ap (λ o. option_map_or (λ m. m) o k) e ∙ same))

-- nobody but its owner has the turn
pub not_this : (turn : Option ℕ) (call n : ℕ) → turn ≡ Some call → turn ≡ Some n → call ≡ n
not_this turn call n e f = ap (λ o. option_map_or (λ m. m) o call) (sym e ∙ f)

-- the owner that a call waits for hasn't settled
pub unsettled_owner : {A : Type 0} (joined : Option ℕ) (settled : ℕ → Option A) (owner : ℕ) → unsettled joined settled ≡ Some owner → (joined ≡ Some owner) × IsNone (settled owner)
unsettled_owner None settled owner e = cc
unsettled_owner (Some k) settled owner e = by (is_some (settled k)) refl e where
  by : (b : Bool) → is_some (settled k) ≡ b → cond b None (Some k) ≡ Some owner → (Some k ≡ Some owner) × IsNone (settled owner)
  by true f e = cc
  by false f e = (e, subst (λ m. IsNone (settled m)) (ap (λ o. option_map_or (λ m. m) o k) e) f)

-- what isn't there isn't there once something is taken out, or put elsewhere
pub none_still : {A : Type 0} (b : Bool) (o : Option A) → IsNone o → IsNone (cond b None o)
none_still true o none = refl
none_still false o none = none

pub none_else : {A : Type 0} (a b c : Bool) (x : A) (o : Option A) → c ≡ false → IsNone o → IsNone (cond (a && b && c) (Some x) o)
none_else true true true x o e none = cc
none_else true true false x o e none = none
none_else true false c x o e none = none
none_else false b c x o e none = none

pub some_still : {A : Type 0} (b : Bool) (x : A) (o : Option A) → IsSome o → IsSome (cond b (Some x) o)
some_still true x o some = refl
some_still false x o some = some

pub there : {A : Type 0} (P : A → Type 0) (o : Option A) → IsSomeAnd o P → IsSome o
there P None h = absurd h
there P (Some x) h = refl

-- what two calls have isn't one where only one has it
pub apart : {A : Type 0} (f : ℕ → Option A) (n call : ℕ) → IsSome (f n) → IsNone (f call) → n ≢ call
apart f n call some none same = no (sym none ∙ ap (λ m. is_some (f m)) (sym same) ∙ some)

-- an ask with a waiter is open
pub answers_miss : {S : Type 0} (open_asks : HashMap ℕ OpenAsk S) (asks : ℕ → Option Takes) → ((n : ℕ) → option_map (λ a. a.takes) (get nat_eq open_asks n) ≡ asks n) →
    EachListed (λ n. option_map_or (λ a. cond a.place (n ∷ []) []) (get nat_eq open_asks n) []) (λ n c. (n ≡ c) × IsSome (asks n))
answers_miss open_asks asks are n c is = by (get nat_eq open_asks n) (are n) is where
  by : (o : Option OpenAsk) → option_map (λ a. a.takes) o ≡ asks n → waits c (option_map_or (λ a. cond a.place (n ∷ []) []) o []) ≡ true → (n ≡ c) × IsSome (asks n)
  by None e on = absurd (no on)
  by (Some a) e on = (own a.place on, sym (ap is_some e)) where
    own : (b : Bool) → waits c (cond b (n ∷ []) []) ≡ true → n ≡ c
    own false on = absurd (no on)
    own true on = one (c == n) refl on where
      one : (b : Bool) → (c == n) ≡ b → (b || false) ≡ true → n ≡ c
      one true e on = sym (eqb-true c n e)
      one false e on = absurd (no on)

-- what a call had stays as it was, where another gets something
pub still_at : {A : Type 0} (f : ℕ → Option A) (call k : ℕ) (x : Option A) (a : A) → IsNone (f call) → f k ≡ Some a → put_at f call x k ≡ Some a
still_at f call k x a none is = by (call == k) refl where
  by : (b : Bool) → (call == k) ≡ b → cond b x (f k) ≡ Some a
  by true e = absurd (no (sym none ∙ ap (λ m. is_some (f m)) (eqb-true call k e) ∙ ap is_some is))
  by false e = is

-- what holds either way holds
pub by_cases : (P : Bool → Type 0) → P true → P false → (b : Bool) → P b
by_cases P on off true = on
by_cases P on off false = off

pub by_option : {A : Type 0} (P : Option A → Type 0) → P None → ((x : A) → P (Some x)) → (o : Option A) → P o
by_option P empty full None = empty
by_option P empty full (Some x) = full x

-- ---- the key whose lock is held under a number

pub none_or : {A : Type 0} (x y : Option A) → IsNone x → IsNone y → IsNone (option_or x y)
none_or None y e f = f
none_or (Some a) y e f = cc

-- a call takes a lock
pub some_or : {A : Type 0} (b : Bool) (a : A) (x y : Option A) → IsSome (option_or x y) → IsSome (option_or (cond b (Some a) x) y)
some_or true a x y is = refl
some_or false a x y is = is

-- a lock is free, and what is held under another number stays
pub some_but : {A : Type 0} (b : Bool) (x y : Option A) → b ≡ false → IsSome (option_or x y) → IsSome (option_or (cond b None x) y)
some_but true x y e is = cc
some_but false x y e is = is

-- a call leaves: what is held under its number stays, where its notice runs
pub some_left : {A : Type 0} (runs b : Bool) (x y u : Option A) → (not runs && b) ≡ false → (b ≡ true → u ≡ option_or x y) → IsSome (option_or x y) →
    IsSome (option_or (cond b None x) (cond b (cond runs u None) y))
some_left runs false x y u e same is = is
some_left true true x y u e same is = ap is_some (same refl) ∙ is
some_left false true x y u e same is = cc

-- a notice ends that kept nothing, or what is held under another number
pub some_ended : {A : Type 0} (keeps b : Bool) (x y : Option A) → (keeps && b) ≡ false → (b ≡ true → is_some y ≡ keeps) → IsSome (option_or x y) →
    IsSome (option_or x (cond b None y))
some_ended keeps false x y e same is = is
some_ended true true x y e same is = cc
some_ended false true None y e same is = absurd (no (sym (same refl) ∙ is))
some_ended false true (Some a) y e same is = refl
