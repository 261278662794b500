-- Notices and the writes that they tell of, in every reached state.
use Rattle.std.proofs.Common.{◌≡◌, ◌≢◌, ◌⊎◌, inl, inr, ℕ, zero, suc, ◌+◌, ◌<◌, ◌≤◌, ◌==◌, Bool, true, false, cond, List, [], ◌∷◌, length, map, Option, Some, None, is_some, IsSome, Contains, slice_index_or, refl, sym, ap, ◌∙◌, subst, arith}
use Rattle.std.proofs.lemmas.Bool.{eqb-true, false≢true}
use Rattle.std.specs.Option.{option_to_list}
use Rattle.moka_hist.specs.State.{State, Call}
use Rattle.moka_hist.specs.Plan.{held_by, hearing}
use Rattle.moka_hist.specs.Notices.{WriteAt, IsDue, IsOpened, HasReplaced, NoticesAreSettled}
use Rattle.moka_hist.specs.Visits.{number_of, old_of, is_running}
use Rattle.moka_hist.specs.declared.notices.Notice.{Notice}
use Rattle.moka_hist.specs.declared.writes.Owed.{Owed}
use Rattle.moka_hist.specs.declared.writes.Place.{Place}
use Rattle.moka_hist.specs.declared.writes.Place.TheVariants as place
use Rattle.moka_hist.specs.declared.writes.Write.{Write}
use Rattle.moka_laws.proofs.Counting.{same_number}
use Rattle.moka_laws.proofs.Sums.{sum_few, sum_holds, sum_has}
use Rattle.moka_laws.proofs.Weights.{weigh, weigh_call}
use Rattle.moka_laws.proofs.Posts.{once, among, post_of}
use Rattle.moka_laws.proofs.Balance.{times_first}
use Rattle.moka_laws.proofs.Owning.{plan_left}
use Rattle.moka_laws.proofs.Replacing.{IsReplacing, swap, swaps, swaps_owed, swap_of, swap_held, swaps_with, swaps_on, notice_of, told_once, plan_opens, opens_notice, listening, not_opened}
use Rattle.moka_laws.proofs.Noticing.{IsNoticing, guards, guards_few, guards_posts}

-- ---- lists of writes

swap_own : (w : Write) → IsSome (old_of w) → swap (number_of w) w ≡ 1
swap_own w some = ap (λ b. cond b (once (number_of w) (number_of w)) 0) some ∙ ap (λ b. cond {A = ℕ} b 1 0) (same_number (number_of w))

-- a write that counts is that of the number, and replaced a record
swap_counts : (x : ℕ) (w : Write) → 0 < swap x w → (number_of w ≡ x) × IsSome (old_of w)
swap_counts x w h = by (is_some (old_of w)) refl (x == number_of w) refl h
  where
    by : (b : Bool) → is_some (old_of w) ≡ b → (e : Bool) → (x == number_of w) ≡ e → 0 < cond b (cond e 1 0) 0 → (number_of w ≡ x) × IsSome (old_of w)
    by true some true is h = (sym (eqb-true x (number_of w) is), some)
    by true some false is h = absurd (omega arith)
    by false some e is h = absurd (omega arith)

contains_here : {A : Type 0} (x : A) (xs : List A) → Contains (x ∷ xs) x
contains_here x xs = (0, omega arith, refl)

contains_there : {A : Type 0} (x y : A) (xs : List A) → Contains xs x → Contains (y ∷ xs) x
contains_there x y xs h = (suc h.0, omega (arith, h.1), h.2)

-- what counts for each of a list's writes counts for the list
swap_in : (x : ℕ) (ws : List Write) (w : Write) → Contains ws w → swap x w ≤ swaps x ws
swap_in x [] w h = absurd (omega (arith, h.1))
swap_in x (v ∷ ws) w h = by h.0 h.1 h.2 (swap_in x ws w)
  where
    by : (k : ℕ) → k < length (v ∷ ws) → slice_index_or (v ∷ ws) k w ≡ w → (Contains ws w → swap x w ≤ swaps x ws) → swap x w ≤ swaps x (v ∷ ws)
    by zero l e more = omega (arith, ap (swap x) e)
    by (suc k) l e more = omega (arith, more (k, omega arith, e))

swaps_has : (x : ℕ) (ws : List Write) → 0 < swaps x ws → (w : Write) × Contains ws w × (0 < swap x w)
swaps_has x [] h = absurd (omega arith)
swaps_has x (w ∷ ws) h = by (swap x w) refl (swaps_has x ws)
  where
    by : (k : ℕ) → swap x w ≡ k → (0 < swaps x ws → (u : Write) × Contains ws u × (0 < swap x u)) → (u : Write) × Contains (w ∷ ws) u × (0 < swap x u)
    by zero e more = let m = more (omega arith) in (m.0, contains_there m.0 w ws m.1, m.2)
    by (suc k) e more = (w, contains_here w ws, omega arith)

owed_swaps : (x : ℕ) (os : List Owed) → swaps_owed x os ≡ swaps x (map (λ o. o.write) os)
owed_swaps x [] = refl
owed_swaps x (o ∷ os) = ap (λ v. swap x o.write + v) (owed_swaps x os)

among_in : (x : ℕ) (ws : List Write) (w : Write) → Contains ws w → once x (number_of w) ≤ among x ws
among_in x [] w h = absurd (omega (arith, h.1))
among_in x (v ∷ ws) w h = by h.0 h.1 h.2 (among_in x ws w)
  where
    by : (k : ℕ) → k < length (v ∷ ws) → slice_index_or (v ∷ ws) k w ≡ w → (Contains ws w → once x (number_of w) ≤ among x ws) →
        once x (number_of w) ≤ among x (v ∷ ws)
    by zero l e more = omega (arith, times_first x (number_of v) (map number_of ws), ap (λ u. once x (number_of u)) e)
    by (suc k) l e more = omega (arith, times_first x (number_of v) (map number_of ws), more (k, omega arith, e))

module _ {K V E : Type 0} (s : State K V E) (i : IsReplacing s) where
  -- ---- a write that replaced a record is counted, and what is counted stands somewhere

  call_swaps : (n : ℕ) (c : Call K V E) (w : Write) → s.calls n ≡ Some c → held_by c.plan ≡ Some w → (x : ℕ) → weigh (swap_of x) c.plan ≡ swap x w
  call_swaps n c w live held x =
      let e = ap (λ o. swaps x (option_to_list o)) held in omega (arith, swap_held x c.plan (i.balanced.tidy n c live))

  stands_counts : (p : Place) (w : Write) → WriteAt s p w → IsSome (old_of w) → 0 < swaps_with (number_of w) s + swaps_on (number_of w) s.world.desk
  stands_counts place.Held w h some =
      omega (
        arith,
        sum_holds s.world.desk.last (λ n. weigh_call (swap_of (number_of w)) (s.calls n)) h.0 (i.balanced.numbered h.0 h.1 h.2),
        ap (weigh_call (swap_of (number_of w))) h.2,
        call_swaps h.0 h.1 w h.2 h.3 (number_of w),
        swap_own w some,
      )
  stands_counts place.Owed w h some =
      omega (arith, owed_swaps (number_of w) s.world.desk.owed, swap_in (number_of w) (map (λ o. o.write) s.world.desk.owed) w h, swap_own w some)
  stands_counts place.Logged w h some = omega (arith, swap_in (number_of w) s.world.desk.log w h, swap_own w some)
  stands_counts place.Applied w h some = omega (arith, swap_in (number_of w) s.world.desk.applied w h, swap_own w some)

  has_counts : (x : ℕ) → HasReplaced s x → 0 < swaps_with x s + swaps_on x s.world.desk
  has_counts x h = subst (λ v. 0 < swaps_with v s + swaps_on v s.world.desk) h.named (stands_counts h.where_ h.write h.stands h.replaced)

  found_at : (x : ℕ) (p : Place) (w : Write) → WriteAt s p w → 0 < swap x w → HasReplaced s x
  found_at x p w h counts =
      let is = swap_counts x w counts in record { write = w; named = is.0; replaced = is.1; where_ = p; stands = h }

  held_counts : (x n : ℕ) (o : Option (Call K V E)) → s.calls n ≡ o → 0 < weigh_call (swap_of x) o → HasReplaced s x
  held_counts x n None e h = absurd (omega arith)
  held_counts x n (Some c) e h = by (held_by c.plan) refl (omega (arith, swap_held x c.plan (i.balanced.tidy n c e)))
    where
      by : (o : Option Write) → held_by c.plan ≡ o → 0 < swaps x (option_to_list o) → HasReplaced s x
      by None f k = absurd (omega arith)
      by (Some w) f k = found_at x place.Held w (n, c, e, f) (omega arith)

  counts_has : (x : ℕ) → 0 < swaps_with x s + swaps_on x s.world.desk → HasReplaced s x
  counts_has x h = by (swaps_with x s) (swaps_owed x s.world.desk.owed) (swaps x s.world.desk.log) refl refl refl
    where
      by : (a b c : ℕ) → swaps_with x s ≡ a → swaps_owed x s.world.desk.owed ≡ b → swaps x s.world.desk.log ≡ c → HasReplaced s x
      by (suc a) b c e f g =
          let at = sum_has s.world.desk.last (λ n. weigh_call (swap_of x) (s.calls n)) (omega arith) in held_counts x at.0 (s.calls at.0) refl at.1
      by zero (suc b) c e f g =
          let at = swaps_has x (map (λ o. o.write) s.world.desk.owed) (omega (arith, owed_swaps x s.world.desk.owed)) in found_at x place.Owed at.0 at.1 at.2
      by zero zero (suc c) e f g = let at = swaps_has x s.world.desk.log (omega arith) in found_at x place.Logged at.0 at.1 at.2
      by zero zero zero e f g = let at = swaps_has x s.world.desk.applied (omega arith) in found_at x place.Applied at.0 at.1 at.2

  -- ---- notices

  is_due : (n : ℕ) (o : Option (Call K V E)) → s.calls n ≡ o → 0 < weigh_call notice_of o → IsDue s n
  is_due n None e h = absurd (omega arith)
  is_due n (Some c) e h =
      record { call = c; live = e; opens = plan_opens c.plan (i.known n c e).plan h; between = i.mid n c e h }

  is_opened : (n : ℕ) → 0 < told_once (s.world.desk.notices n) → IsOpened s n
  is_opened n h = by (s.world.desk.notices n) refl h
    where
      by : (o : Option (Notice K V)) → s.world.desk.notices n ≡ o → 0 < told_once o → IsOpened s n
      by None e k = absurd (omega arith)
      by (Some x) e k = ap is_some e

  pub each_noticed : (n : ℕ) → s.world.desk.rules.listener ≡ true → HasReplaced s n → IsDue s n ⊎ IsOpened s n
  each_noticed n on h = by (weigh_call notice_of (s.calls n)) refl
    where
      by : (k : ℕ) → weigh_call notice_of (s.calls n) ≡ k → IsDue s n ⊎ IsOpened s n
      by (suc k) e = inl (is_due n (s.calls n) refl (omega arith))
      by zero e = inr (is_opened n (omega (arith, i.each on n, has_counts n h)))

  pub no_other : (n : ℕ) → IsDue s n ⊎ IsOpened s n → (s.world.desk.rules.listener ≡ true) × HasReplaced s n
  no_other n (inl d) =
      let some = opens_notice d.call.plan d.opens in
      let on = listening s i n d.call d.live some in
      (on, counts_has n (omega (arith, i.each on n, ap (weigh_call notice_of) d.live)))
  no_other n (inr o) =
      let once : told_once (s.world.desk.notices n) ≡ 1 = ap (λ b. cond {A = ℕ} b 1 0) o in
      let on : s.world.desk.rules.listener ≡ true = by s.world.desk.rules.listener refl in
      (on, counts_has n (omega (arith, i.each on n)))
    where
      by : (b : Bool) → s.world.desk.rules.listener ≡ b → b ≡ true
      by true e = refl
      by false e = absurd (false≢true (sym (ap is_some (i.quiet e n)) ∙ o))

module _ {K V E : Type 0} (s : State K V E) (i : IsNoticing s) where
  -- the write of a notice that runs is neither logged nor applied
  pub not_logged : (x : ℕ) → is_running s.world.desk x ≡ true → among x s.world.desk.log + among x s.world.desk.applied ≡ 0
  not_logged x run = omega (
    arith,
    i.heard x run,
    i.replacing.balanced.balance x,
    i.replacing.balanced.once x,
    guards_few x s.world.desk.owed i.owed_named,
    sum_few s.world.desk.last (λ m. guards x (hearing m (plan_left (s.calls m)))) (λ m. weigh_call (post_of x) (s.calls m)) (λ m. guards_posts s i x m),
  )

  none_logged : (w : Write) → WriteAt s place.Logged w ⊎ WriteAt s place.Applied w → is_running s.world.desk (number_of w) ≢ true
  none_logged w (inl h) run =
      omega (arith, not_logged (number_of w) run, among_in (number_of w) s.world.desk.log w h, ap (λ b. cond {A = ℕ} b 1 0) (same_number (number_of w)))
  none_logged w (inr h) run =
      omega (arith, not_logged (number_of w) run, among_in (number_of w) s.world.desk.applied w h, ap (λ b. cond {A = ℕ} b 1 0) (same_number (number_of w)))

  pub notices_settled : NoticesAreSettled s
  notices_settled = record {
    each = each_noticed s i.replacing;
    one = λ n d. ap is_some (not_opened s i.replacing n d.call d.live d.opens);
    no_other = no_other s i.replacing;
    numbered = i.noted.numbered;
    opened_once = i.noted.opened_once;
    skipped = i.noted.skipped;
    logged = none_logged;
  }
