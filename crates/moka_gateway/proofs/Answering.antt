-- The calls of a list are told what was brought, and answer it.
use Rattle.std.proofs.Common.{◌≡◌, ℕ, ◌<◌, true, List, [], ◌∷◌, ◌++◌, drop, length, map, Option, Some, None, refl, sym, ap, ◌∙◌, subst, arith, nat_eq}
use Rattle.std.proofs.lemmas.List.{append_assoc}
use Rattle.std.specs.HashMap.{get}
use Rattle.std.specs.Map.{lookup}
use Rattle.std.specs.declared.cmp.PartialEq as PartialEq
use Rattle.std.specs.declared.hash.Hash as Hash
use Rattle.std.specs.declared.result.Result.{Result}
use Rattle.std.specs.declared.result.Result.TheVariants.{Ok, Err}
use Rattle.moka_hist.specs.Finite.{put_at}
use Rattle.moka_hist.specs.declared.events.Told.{Told}
use Rattle.moka_laws.proofs.Counting.{put_here, some_same}
use Rattle.moka_polled.specs.declared.machine.PolledMachine.{PolledMachine}
use Rattle.moka_polled.specs.Polled.{IsPolled, Takes}
use Rattle.moka_small.specs.Laws.{may_end}
use Rattle.moka_small.specs.Polled.{polled}
use Rattle.moka_small.specs.Seen as seen
use Rattle.moka_small.specs.Small.{Waits, Was_told}
use Rattle.moka_small.specs.Standing.{WaitersAreServed}
use Rattle.moka_collapsing.specs.declared.answer.Answer.{Answer}
use Rattle.moka_collapsing.specs.declared.slot.Given.{Given}
use Rattle.moka_collapsing.specs.Coming as coming
use Rattle.moka_collapsing.specs.Coming.{AreGone, ListsAreAnswered}
use Rattle.moka_collapsing.specs.Settling.{HasAnswer, IsAnswered, end_of}
use Rattle.moka_collapsing.specs.Standing.{Cache, Serves, load_of, requests_on, told_by}
use Rattle.moka_collapsing.specs.Upstream.{Upstream, Waiter, answer_of, given_at, given_to, settled, settled_at, ended}
use Rattle.moka_collapsing.specs.Waiting.{Waiting}
use Rattle.moka_gateway.specs.declared.fetches.Fetches.{Fetches}
use Rattle.moka_gateway.specs.Fetches.{Ends, IsAnswering, IsEnding, IsFetches, IsListIn}

-- ---- the call that asks

told_is : (brought : Result ℕ ℕ) → told_by brought ≡ seen.answer_of (end_of brought)
told_is (Ok value) = refl
told_is (Err error) = refl

fits : (key : ℕ) (brought : Result ℕ ℕ) → may_end (load_of key) (end_of brought) ≡ true
fits key (Ok value) = refl
fits key (Err error) = refl

module _ {same : PartialEq.Ghosts ℕ} {hash : Hash.Ghosts ℕ} (cache : PolledMachine ℕ ℕ ℕ same hash) (w : Waiting) (brought : Result ℕ ℕ) (s : IsListIn cache w) (call : ℕ) (at : call ≡ w.asking) where
  -- it takes what was brought
  pub takes_so : (t : Told ℕ ℕ) → t ≡ told_by brought → Takes call t (load_of s.key) (end_of brought) s.small
  takes_so t is = record { asks = ap s.small.stands at ∙ (s.serves.listed s.key w s.on).asks; is = is ∙ told_is brought; fits = fits s.key brought }

  abbrev pub told_small : Cache
  told_small = coming.told s.small s.key call brought

  gone : AreGone s.small
  gone = λ n end e. (s.polled.seen.views.orderly.ended n end e).0

  module _ (law : ListsAreAnswered) where
    -- and answers it
    pub asking_has : HasAnswer call (answer_of brought) told_small
    asking_has =
        subst (λ n. HasAnswer n (answer_of brought) (coming.told s.small s.key n brought)) (sym at)
        (law.asker s.small s.lists s.upstream s.key w brought s.serves s.on gone).0

    pub asking_ends : (new : PolledMachine ℕ ℕ ℕ same hash) → IsPolled nat_eq new (polled nat_eq told_small call asking_has.stand).1 →
        Ends new s.small s.key w.asking brought (drop 1 w.requests)
    asking_ends new p = record {
      small = (polled nat_eq told_small call (Was_told (load_of s.key) (end_of brought))).1;
      polled = subst (λ x. IsPolled nat_eq new (polled nat_eq told_small call x).1) same_stand p;
      answered =
          subst (λ n. IsAnswered s.small (polled nat_eq (coming.told s.small s.key n brought) n (Was_told (load_of s.key) (end_of brought))).1 s.key w.asking brought (drop 1 w.requests)) (sym at)
          (law.asker s.small s.lists s.upstream s.key w brought s.serves s.on gone).1;
    }
      where
        same_stand : asking_has.stand ≡ Was_told (load_of s.key) (end_of brought)
        same_stand = some_same (sym asking_has.stands ∙ put_here s.small.stands call (Some (Was_told (load_of s.key) (end_of brought))))

-- ---- one that waits

module _ {same : PartialEq.Ghosts ℕ} {hash : Hash.Ghosts ℕ} (law : ListsAreAnswered) (served : WaitersAreServed ℕ ℕ ℕ nat_eq) (cache : PolledMachine ℕ ℕ ℕ same hash) (base : Cache) (key asking : ℕ) (brought : Result ℕ ℕ)
    (first : Waiter) (rest : List Waiter) (e : Ends cache base key asking brought (first ∷ rest)) where
  pub waiting_has : HasAnswer first.0 (answer_of brought) e.small
  waiting_has = (law.waiter base e.small key asking brought first rest e.answered (served e.polled.state e.small first.0 asking (load_of key) e.polled.seen e.answered.waits.0)).0

  pub waiting_ends : (new : PolledMachine ℕ ℕ ℕ same hash) → IsPolled nat_eq new (polled nat_eq e.small first.0 waiting_has.stand).1 →
      Ends new base key asking brought rest
  waiting_ends new p = record {
    small = (polled nat_eq e.small first.0 (Waits asking (load_of key))).1;
    polled = subst (λ x. IsPolled nat_eq new (polled nat_eq e.small first.0 x).1) same_stand p;
    answered = (law.waiter base e.small key asking brought first rest e.answered (served e.polled.state e.small first.0 asking (load_of key) e.polled.seen e.answered.waits.0)).1;
  }
    where
      same_stand : waiting_has.stand ≡ Waits asking (load_of key)
      same_stand = some_same (sym waiting_has.stands ∙ e.answered.waits.0)

  pub waiting_answers : IsAnswering cache first.0
  waiting_answers = record { small = e.small; polled = e.polled; given = answer_of brought; has = waiting_has }

-- these are left of a list that is answered
pub still_ends : {same : PartialEq.Ghosts ℕ} {hash : Hash.Ghosts ℕ} (cache : PolledMachine ℕ ℕ ℕ same hash) (base : Cache) (key asking : ℕ) (brought : Result ℕ ℕ) (all rest : List Waiter) →
    all ≡ rest → Ends cache base key asking brought all → Ends cache base key asking brought rest
still_ends cache base key asking brought all rest is e = subst (λ l. Ends cache base key asking brought l) is e

abbrev pub is_ending : {same : PartialEq.Ghosts ℕ} {hash : Hash.Ghosts ℕ} (cache : PolledMachine ℕ ℕ ℕ same hash) (base : Cache) (key asking : ℕ) (brought : Result ℕ ℕ) (rest : List Waiter) →
    Ends cache base key asking brought rest → IsEnding cache rest
is_ending cache base key asking brought rest e = record { base = base; small = e.small; key = key; asking = asking; brought = brought; polled = e.polled; answered = e.answered }

-- the first of them is
pub ends_after : {same : PartialEq.Ghosts ℕ} {hash : Hash.Ghosts ℕ} (cache : PolledMachine ℕ ℕ ℕ same hash) (base : Cache) (key : ℕ) (w : Waiting) (brought : Result ℕ ℕ) (inside rest : List Waiter) (first : Waiter) →
    inside ≡ w.requests → inside ≡ first ∷ rest → Ends cache base key w.asking brought (drop 1 w.requests) → Ends cache base key w.asking brought rest
ends_after cache base key w brought inside rest first own is e =
    subst (λ l. Ends cache base key w.asking brought l) (ap (λ l. drop 1 l) (sym own) ∙ ap (λ l. drop 1 l) is) e

-- one answer more is listed
pub more_given : (brought : Result ℕ ℕ) (first : Waiter) (rest all : List Waiter) (g g1 whole : List Given) (a : Answer) → all ≡ first ∷ rest → a ≡ answer_of brought →
    g1 ≡ g ++ record { place = first.1; answer = a } ∷ [] → g ++ map (given_to (answer_of brought)) all ≡ whole →
    g1 ++ map (given_to (answer_of brought)) rest ≡ whole
more_given brought first rest all g g1 whole a first_is is pushed was =
    ap (λ l. l ++ map (given_to (answer_of brought)) rest) (pushed ∙ ap (λ x. g ++ record { place = first.1; answer = x } ∷ []) is)
    ∙ append_assoc g (given_to (answer_of brought) first ∷ []) (map (given_to (answer_of brought)) rest)
    ∙ ap (λ l. g ++ map (given_to (answer_of brought)) l) (sym first_is)
    ∙ was

-- and then all are
pub all_listed : (brought : Result ℕ ℕ) (first : Waiter) (rest all : List Waiter) (g0 g1 g2 : List Given) (a : Answer) → all ≡ first ∷ rest → a ≡ answer_of brought → g0 ≡ [] →
    g1 ≡ g0 ++ record { place = first.1; answer = a } ∷ [] → g2 ≡ g1 ++ map (given_to (answer_of brought)) rest → g2 ≡ map (given_to (answer_of brought)) all
all_listed brought first rest all g0 g1 g2 a first_is is none pushed others =
    others ∙ more_given brought first rest all g0 g1 (map (given_to (answer_of brought)) all) a first_is is pushed
    (ap (λ l. l ++ map (given_to (answer_of brought)) all) none)

-- ---- the whole list

pub given_some : (answer : Answer) (ws : List Waiter) → 0 < length ws → given_at answer ws ≡ Some (map (given_to answer) ws)
given_some answer [] h = absurd (omega (arith, h))
given_some answer (w ∷ ws) h = refl

pub settled_some : (u : Upstream) (key : ℕ) (answer : Answer) (ws : List Waiter) → 0 < length ws → settled_at u key answer ws ≡ ended u key answer
settled_some u key answer [] h = absurd (omega (arith, h))
settled_some u key answer (w ∷ ws) h = refl

module _ (old : Fetches) (key : ℕ) (u : Upstream) (f : IsFetches old u) where
  waiting_of : (x : Option Waiting) → get nat_eq old.lists key ≡ x → requests_on x ≡ u.waiting key
  waiting_of x is = ap requests_on (sym is) ∙ f.serves.waiting key

  -- no list is there
  pub nothing_given : get nat_eq old.lists key ≡ None → (answer : Answer) → None ≡ given_at answer (u.waiting key)
  nothing_given is answer = ap (given_at answer) (waiting_of None is)

  pub nothing_settled : get nat_eq old.lists key ≡ None → (answer : Answer) (new : Fetches) → new.cache ≡ old.cache → new.lists.entries ≡ old.lists.entries → IsFetches new (settled u key answer)
  nothing_settled is answer new cache entries =
      subst (IsFetches new) (ap (settled_at u key answer) (waiting_of None is)) (record {
        small = f.small;
        polled = subst (λ x. IsPolled nat_eq x f.small) (sym cache) f.polled;
        serves = subst (λ es. Serves f.small (λ k. lookup (nat_eq k) es) u) (sym entries) f.serves;
      })

  module _ (w : Waiting) (is : get nat_eq old.lists key ≡ Some w) where
    abbrev pub list_in : IsListIn old.cache w
    list_in = record { small = f.small; lists = get nat_eq old.lists; upstream = u; key = key; polled = f.polled; serves = f.serves; on = is }

    pub some_waits : 0 < length w.requests
    some_waits = (f.serves.listed key w is).some

    pub all_given : (answer : Answer) (given : List Given) → given ≡ map (given_to answer) w.requests → Some given ≡ given_at answer (u.waiting key)
    all_given answer given same = ap Some same ∙ sym (given_some answer w.requests some_waits) ∙ ap (given_at answer) (waiting_of (Some w) is)

    pub all_settled : ListsAreAnswered → (brought : Result ℕ ℕ) (new : Fetches) → Ends new.cache f.small key w.asking brought [] →
        ((k : ℕ) → get nat_eq new.lists k ≡ put_at (get nat_eq old.lists) key None k) → IsFetches new (settled u key (answer_of brought))
    all_settled law brought new e off =
        subst (IsFetches new) (sym (settled_some u key (answer_of brought) w.requests some_waits) ∙ ap (settled_at u key (answer_of brought)) (waiting_of (Some w) is)) (record {
          small = e.small;
          polled = e.polled;
          serves = law.all f.small e.small (get nat_eq old.lists) (get nat_eq new.lists) u key w.asking brought f.serves e.answered off;
        })
