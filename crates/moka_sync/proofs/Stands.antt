-- How the standing places change with the tickets and the places.
use Rattle.std.proofs.Common.{◌≡◌, ℕ, suc, ◌+◌, ◌≤◌, ◌==◌, ◌||◌, nat_eq, eq-eqb, ltb, Bool, true, false, cond, List, [], ◌∷◌, ◌++◌, length, Option, None, Some, is_some, refl, sym, ap, ◌∙◌, arith}
use Rattle.std.specs.Map.{lookup}
use Rattle.std.proofs.lemmas.List.Elements.{filter-append}
use Rattle.std.proofs.lemmas.List.{length-map, map-append}
use borrow.Author.Tests.{eqb-true}
use Rattle.std.proofs.lemmas.Bool.Decides.{nat_tests}
use Rattle.moka_hist.specs.Finite.{times}
use Rattle.moka_sync.specs.declared.places.Place.{Place}
use Rattle.moka_sync.specs.declared.tickets.Held.{Held}
use Rattle.moka_sync.specs.Tickets.{held_or, count_of, ticket_of}
use Rattle.moka_sync.specs.Waiting.{Waiting, waits, AreOnce, without}
use Rattle.moka_sync.specs.WaitView.{view_of, IsWaitList}
use Rattle.moka_sync.specs.declared.wait_list.WaitList.TheInside.{Inside}
use Rattle.moka_sync.specs.Standing.{is_standing, standing_places, standing, places_of, AreBelow, AreKept}

-- how often numbers stand in lists

pub times-append : (q : ℕ) (xs ys : List ℕ) → times q (xs ++ ys) ≡ times q xs + times q ys
times-append q [] ys = omega arith
times-append q (x ∷ xs) ys = by (q == x) (times-append q xs ys) where
  by : (b : Bool) → times q (xs ++ ys) ≡ times q xs + times q ys → cond b (times q (xs ++ ys) + 1) (times q (xs ++ ys)) ≡ cond b (times q xs + 1) (times q xs) + times q ys
  by true e = omega arith
  by false e = omega arith

-- the call is gone, and each other number stands as often as before
pub times-without : (c q : ℕ) (xs : List ℕ) → times q (without c xs) ≡ cond (c == q) 0 (times q xs)
times-without c q [] = by (c == q) where
  by : (b : Bool) → ◌≡◌ {A = ℕ} 0 (cond b 0 0)
  by true = refl
  by false = refl
times-without c q (x ∷ xs) = grind (arith, nat_tests, times-without c q xs)

-- a list is what is left of the call and what it is taken out of
pub length-without : (c : ℕ) (xs : List ℕ) → length (without c xs) + times c xs ≡ length xs
length-without c [] = refl
length-without c (x ∷ xs) = by (c == x) (length-without c xs) where
  by : (b : Bool) → length (without c xs) + times c xs ≡ length xs → length (cond b (without c xs) (x ∷ without c xs)) + cond b (times c xs + 1) (times c xs) ≡ suc (length xs)
  by true e = omega arith
  by false e = omega arith

-- a call waits where it stands in the list
pub waits-times : (c : ℕ) (xs : List ℕ) → waits c xs ≡ ltb 0 (times c xs)
waits-times c [] = refl
waits-times c (x ∷ xs) = by (c == x) (waits-times c xs) where
  by : (b : Bool) → waits c xs ≡ ltb 0 (times c xs) → (b || waits c xs) ≡ ltb 0 (cond b (times c xs + 1) (times c xs))
  by true e = grind (arith, nat_tests)
  by false e = e

-- places that stand

module _ (f : ℕ → Option ℕ) where
  -- what stands of two chains
  pub standing_places-append : (xs ys : List Place) → standing_places f (xs ++ ys) ≡ standing_places f xs ++ standing_places f ys
  standing_places-append xs ys = filter-append (is_standing f) xs ys

  -- no more places stand than there are
  pub standing_places-short : (xs : List Place) → length (standing_places f xs) ≤ length xs
  standing_places-short [] = omega arith
  standing_places-short (p ∷ ps) = by (is_standing f p) (standing_places-short ps) where
    by : (b : Bool) → length (standing_places f ps) ≤ length ps → length (cond b (p ∷ standing_places f ps) (standing_places f ps)) ≤ suc (length ps)
    by true h = omega arith
    by false h = omega arith

  -- as many calls stand as places
  pub standing-length : (xs : List Place) → length (standing f xs) ≡ length (standing_places f xs)
  standing-length xs = length-map (standing_places f xs) (λ (p : Place). p.call)

  -- where no fewer stand than there are, each does
  pub standing_places-all : (xs : List Place) → length xs ≤ length (standing_places f xs) → standing_places f xs ≡ xs
  standing_places-all [] few = refl
  standing_places-all (p ∷ ps) few = by (is_standing f p) (standing_places-short ps) (standing_places-all ps) few where
    by : (b : Bool) → length (standing_places f ps) ≤ length ps → (length ps ≤ length (standing_places f ps) → standing_places f ps ≡ ps) →
        suc (length ps) ≤ length (cond b (p ∷ standing_places f ps) (standing_places f ps)) → cond b (p ∷ standing_places f ps) (standing_places f ps) ≡ p ∷ ps
    by true short rest few = ap (λ ys. p ∷ ys) (rest (omega arith))
    by false short rest few = absurd (omega arith)

  -- what stands of what stands
  pub standing_places-twice : (xs : List Place) → standing_places f (standing_places f xs) ≡ standing_places f xs
  standing_places-twice [] = refl
  standing_places-twice (p ∷ ps) = by (is_standing f p) refl (standing_places-twice ps) where
    by : (b : Bool) → is_standing f p ≡ b → standing_places f (standing_places f ps) ≡ standing_places f ps → standing_places f (cond b (p ∷ standing_places f ps) (standing_places f ps)) ≡ cond b (p ∷ standing_places f ps) (standing_places f ps)
    by true s e = rw (s, e) refl
    by false s e = e

  -- a new place that stands comes at the end
  pub standing-append : (xs ys : List Place) → standing f (xs ++ ys) ≡ standing f xs ++ standing f ys
  standing-append xs ys = rw (standing_places-append xs ys) (map-append (λ (p : Place). p.call) (standing_places f xs) (standing_places f ys))

-- where a call without ticket gets the next one, all places stand as before
pub standing-ticket : (f g : ℕ → Option ℕ) (c next : ℕ) → f c ≡ None → ((q : ℕ) → g q ≡ cond (c == q) (Some next) (f q)) → (xs : List Place) → AreBelow next xs → standing_places g xs ≡ standing_places f xs
standing-ticket f g c next free given [] below = refl
standing-ticket f g c next free given (p ∷ ps) (b, bs) = by (c == p.call) refl (standing-ticket f g c next free given ps bs) where
  by : (t : Bool) → (c == p.call) ≡ t → standing_places g ps ≡ standing_places f ps → standing_places g (p ∷ ps) ≡ standing_places f (p ∷ ps)
  by true e rest =
      let here : f p.call ≡ None = rw (← eqb-true c p.call e) free in
      let other : (next == p.ticket) ≡ false = grind (arith, nat_tests) in
      rw (given p.call, e, here, other) rest
  by false e rest = rw (given p.call, e, rest) refl

-- where a call loses its ticket, its places stand no more
pub standing-lost : (f g : ℕ → Option ℕ) (c : ℕ) → ((q : ℕ) → g q ≡ cond (c == q) None (f q)) → (xs : List Place) → standing g xs ≡ without c (standing f xs)
standing-lost f g c given [] = refl
standing-lost f g c given (p ∷ ps) = by (c == p.call) refl (is_standing f p) refl (standing-lost f g c given ps) where
  by : (t : Bool) → (c == p.call) ≡ t → (s : Bool) → is_standing f p ≡ s → standing g ps ≡ without c (standing f ps) → standing g (p ∷ ps) ≡ without c (standing f (p ∷ ps))
  by true e true s rest = rw (s, given p.call, e) rest
  by true e false s rest = rw (s, given p.call, e) rest
  by false e true s rest = rw (given p.call, e, s, e) (ap (λ ys. p.call ∷ ys) rest)
  by false e false s rest = rw (given p.call, e, s) rest

-- tickets stay below the next

pub AreBelow-append : (n : ℕ) (xs ys : List Place) → AreBelow n xs → AreBelow n ys → AreBelow n (xs ++ ys)
AreBelow-append n [] ys h k = k
AreBelow-append n (p ∷ ps) ys (h, hs) k = (h, AreBelow-append n ps ys hs k)

-- below a ticket is below a later one
pub AreBelow-more : (m n : ℕ) (xs : List Place) → m ≤ n → AreBelow m xs → AreBelow n xs
AreBelow-more m n [] l h = tt
AreBelow-more m n (p ∷ ps) l (h, hs) = (omega arith, AreBelow-more m n ps l hs)

-- what stands of a chain below a ticket
pub AreBelow-standing : (f : ℕ → Option ℕ) (n : ℕ) (xs : List Place) → AreBelow n xs → AreBelow n (standing_places f xs)
AreBelow-standing f n [] h = tt
AreBelow-standing f n (p ∷ ps) (h, hs) = by (is_standing f p) (AreBelow-standing f n ps hs) where
  by : (b : Bool) → AreBelow n (standing_places f ps) → AreBelow n (cond b (p ∷ standing_places f ps) (standing_places f ps))
  by true k = (h, k)
  by false k = k

-- what is kept of a list of places through each change

pub AreKept-listed : (f g : ℕ → Option ℕ) (places : List Place) (c next : ℕ) → f c ≡ None → ((q : ℕ) → g q ≡ cond (c == q) (Some next) (f q)) → AreKept f places next → standing g (places ++ record { call = c; ticket = next } ∷ []) ≡ standing f places ++ c ∷ []
AreKept-listed f g places c next free given kept =
    let new : Place = record { call = c; ticket = next } in
    let stands : is_standing g new ≡ true = rw (given c, eq-eqb c c refl) (eq-eqb next next refl) in
    rw (standing-append g places (new ∷ []), standing-ticket f g c next free given places kept.below, stands) refl

-- the new place is kept with the others
pub AreKept-list : (f g : ℕ → Option ℕ) (places : List Place) (c next : ℕ) → f c ≡ None → ((q : ℕ) → g q ≡ cond (c == q) (Some next) (f q)) → AreKept f places next → AreKept g (places ++ record { call = c; ticket = next } ∷ []) (next + 1)
AreKept-list f g places c next free given kept = record {
  counted = λ q.
      rw (AreKept-listed f g places c next free given kept, times-append q (standing f places) (c ∷ []), kept.counted q, given q) (by q (c == q) refl);
  below = AreBelow-append (next + 1) places _ (AreBelow-more next (next + 1) places (omega arith) kept.below) (omega arith, tt);
} where
  by : (q : ℕ) (t : Bool) → (c == q) ≡ t → places_of (f q) + times q (c ∷ []) ≡ places_of (cond t (Some next) (f q))
  by q true e = rw (← eqb-true c q e, free, eq-eqb c c refl) refl
  by q false e =
      let other : (q == c) ≡ false = grind (arith, nat_tests) in
      rw other (omega arith)

-- the others are kept where a call loses its ticket
pub AreKept-lost : (f g : ℕ → Option ℕ) (places : List Place) (c next : ℕ) → ((q : ℕ) → g q ≡ cond (c == q) None (f q)) → AreKept f places next → AreKept g places next
AreKept-lost f g places c next given kept = record {
  counted = λ q. rw (standing-lost f g c given places, times-without c q (standing f places), kept.counted q, given q) (by q (c == q));
  below = kept.below;
} where
  by : (q : ℕ) (t : Bool) → cond t 0 (places_of (f q)) ≡ places_of (cond t None (f q))
  by q true = refl
  by q false = refl

-- a call waits where it has a ticket
pub waits-ticket : (f : ℕ → Option ℕ) (places : List Place) (next c : ℕ) → AreKept f places next → waits c (standing f places) ≡ is_some (f c)
waits-ticket f places next c kept = waits-times c (standing f places) ∙ ap (ltb 0) (kept.counted c) ∙ by (f c) where
  by : (o : Option ℕ) → ltb 0 (places_of o) ≡ is_some o
  by None = refl
  by (Some t) = refl

-- what is kept depends on the places that stand alone
pub AreKept-moved : (f : ℕ → Option ℕ) (old new : List Place) (next : ℕ) → standing_places f new ≡ standing_places f old → (AreBelow next old → AreBelow next new) → AreKept f old next → AreKept f new next
AreKept-moved f old new next same below kept = record {
  counted = λ q. rw same (kept.counted q);
  below = below kept.below;
}

-- no call waits twice
pub AreOnce-kept : (f : ℕ → Option ℕ) (places : List Place) (next : ℕ) → AreKept f places next → AreOnce (standing f places)
AreOnce-kept f places next kept = λ c. rw (kept.counted c) (by (f c)) where
  by : (o : Option ℕ) → places_of o ≤ 1
  by None = omega arith
  by (Some t) = omega arith

-- how many wait once a call is taken off
pub length-lost : (f g : ℕ → Option ℕ) (places : List Place) (c next : ℕ) → ((q : ℕ) → g q ≡ cond (c == q) None (f q)) → AreKept f places next → length (standing g places) + cond (is_some (f c)) 1 0 ≡ length (standing f places)
length-lost f g places c next given kept =
    rw (standing-lost f g c given places) (by (f c) (kept.counted c)) where
      by : (o : Option ℕ) → times c (standing f places) ≡ places_of o → length (without c (standing f places)) + cond (is_some o) 1 0 ≡ length (standing f places)
      by None e = omega (arith, length-without c (standing f places))
      by (Some t) e = omega (arith, length-without c (standing f places))

-- a call waits in two lists where it waits in one
pub waits-append : (q : ℕ) (xs ys : List ℕ) → waits q (xs ++ ys) ≡ (waits q xs || waits q ys)
waits-append q [] ys = refl
waits-append q (x ∷ xs) ys = by (q == x) (waits-append q xs ys) where
  by : (b : Bool) → waits q (xs ++ ys) ≡ (waits q xs || waits q ys) → (b || waits q (xs ++ ys)) ≡ ((b || waits q xs) || waits q ys)
  by true e = refl
  by false e = e

-- no call has a ticket once those of all that wait are gone
pub tickets-gone : (f g : ℕ → Option ℕ) (places : List Place) (next : ℕ) → AreKept f places next → ((q : ℕ) → g q ≡ cond (waits q (standing f places)) None (f q)) → (q : ℕ) → g q ≡ None
tickets-gone f g places next kept given q = given q ∙ ap (λ b. cond b None (f q)) (waits-ticket f places next q kept) ∙ by (f q) where
  by : (o : Option ℕ) → cond (is_some o) None o ≡ None
  by None = refl
  by (Some t) = refl

-- a call that doesn't wait has no ticket
pub no-ticket : (f : ℕ → Option ℕ) (places : List Place) (next c : ℕ) → AreKept f places next → waits c (standing f places) ≡ false → f c ≡ None
no-ticket f places next c kept e = by (f c) (sym (waits-ticket f places next c kept) ∙ e) where
  by : (o : Option ℕ) → is_some o ≡ false → o ≡ None
  by None e = refl
  by (Some t) e = cc

-- and so does one that a list doesn't show
pub unticketed : (w : Inside) (v : Waiting) (call : ℕ) (answer : Bool) → view_of w ≡ v → IsWaitList w → answer ≡ waits call v.calls → answer ≡ false → ticket_of w.tickets call ≡ None
unticketed w v call answer is inv waiting absent =
    no-ticket (ticket_of w.tickets) w.places w.next call inv.kept (ap (λ (u : Waiting). waits call u.calls) is ∙ sym waiting ∙ absent)

-- one more call loses its ticket
pub gone-more : (first before after : ℕ → Option ℕ) (xs : List ℕ) (c q : ℕ) → after q ≡ cond (c == q) None (before q) → before q ≡ cond (waits q xs) None (first q) → after q ≡ cond (waits q (xs ++ c ∷ [])) None (first q)
gone-more first before after xs c q e so_far =
    let same : (q == c) ≡ (c == q) = grind (arith, nat_tests) in
    rw (e, so_far, waits-append q xs (c ∷ []), same) (by (waits q xs) (c == q) (first q)) where
      by : (w t : Bool) (o : Option ℕ) → cond t None (cond w None o) ≡ cond (w || (t || false)) None o
      by true true o = refl
      by true false o = refl
      by false true o = refl
      by false false o = refl

-- entries of which no key has a value are none
pub length-none : (entries : List (ℕ × ℕ)) → ((q : ℕ) → lookup (nat_eq q) entries ≡ None) → length entries ≡ 0
length-none [] none = refl
length-none ((k, v) ∷ entries) none =
    let found : Some v ≡ None = (rw (eq-eqb k k refl) at (none k)) in
    cc

-- tickets of which no call has one are none
pub len-none : (first : Option Held) (entries : List (ℕ × ℕ)) → ((q : ℕ) → held_or first q (lookup (nat_eq q) entries) ≡ None) → length entries + count_of first ≡ 0
len-none None entries none = omega (arith, length-none entries none)
len-none (Some held) entries none =
    let found : Some held.ticket ≡ None = (rw (eq-eqb held.call held.call refl) at (none held.call)) in
    cc

-- nothing is kept of no places, where no call has a ticket
pub AreKept-none : (f : ℕ → Option ℕ) → ((q : ℕ) → f q ≡ None) → AreKept f [] 0
AreKept-none f none = record { counted = λ q. rw (none q) refl; below = tt }

-- what a wait list shows, part by part
pub Waiting-same : (calls calls' : List ℕ) (room room' : ℕ) → calls ≡ calls' → room ≡ room' → ◌≡◌ {A = Waiting} (record { calls = calls; room = room }) (record { calls = calls'; room = room' })
Waiting-same calls calls' room room' c r = cc
