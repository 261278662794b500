-- Each committed write stands in exactly one place, and no other write stands anywhere.
use Rattle.std.proofs.Common.{◌≡◌, ℕ, zero, suc, ◌+◌, ◌<◌, ◌≤◌, ◌==◌, Bool, true, false, cond, List, [], ◌∷◌, length, Option, Some, None, Contains, slice_index_or, refl, sym, ap, ◌∙◌, subst, arith}
use Rattle.std.proofs.lemmas.Bool.{eqb-true}
use Rattle.std.specs.Option.{option_to_list}
use Rattle.moka_hist.specs.Finite.{times}
use Rattle.moka_hist.specs.State.{State, Call}
use Rattle.moka_hist.specs.Plan.{held_by}
use Rattle.moka_hist.specs.Visits.{number_of}
use Rattle.moka_hist.specs.Places.{Holds, StandsAt, StandsOnce}
use Rattle.moka_hist.specs.declared.writes.Write.{Write}
use Rattle.moka_hist.specs.declared.writes.Place.{Place}
use Rattle.moka_hist.specs.declared.writes.Place.TheVariants as place
use Rattle.moka_laws.proofs.Counting.{times_same}
use Rattle.moka_laws.proofs.Sums.{sum_holds, sum_holds_two, sum_has}
use Rattle.moka_laws.proofs.Weights.{weigh_call}
use Rattle.moka_laws.proofs.Posts.{among, among_owed, post_of, posts_held}
use Rattle.moka_laws.proofs.Balance.{IsBalanced, with_calls}

-- a list contains what stands in it
pub contains_times : (x : ℕ) (xs : List ℕ) → Contains xs x → 0 < times x xs
contains_times x [] h = absurd (omega (arith, h.1))
contains_times x (y ∷ ys) h = by h.0 h.1 h.2 (contains_times x ys)
  where
    by : (k : ℕ) → k < length (y ∷ ys) → slice_index_or (y ∷ ys) k x ≡ x → (Contains ys x → 0 < times x ys) → 0 < times x (y ∷ ys)
    by zero l e more = subst (λ v. 0 < times x (v ∷ ys)) (sym e) (omega (arith, times_same x ys))
    by (suc k) l e more = grows (x == y) (more (k, omega arith, e))
      where
        grows : (b : Bool) → 0 < times x ys → 0 < cond b (times x ys + 1) (times x ys)
        grows true h = omega arith
        grows false h = h

pub times_contains : (x : ℕ) (xs : List ℕ) → 0 < times x xs → Contains xs x
times_contains x [] h = absurd (omega arith)
times_contains x (y ∷ ys) h = by (x == y) refl h (times_contains x ys)
  where
    by : (b : Bool) → (x == y) ≡ b → 0 < cond b (times x ys + 1) (times x ys) → (0 < times x ys → Contains ys x) → Contains (y ∷ ys) x
    by true e h more = (0, omega arith, sym (eqb-true x y e))
    by false e h more = let k = more h in (suc k.0, omega (arith, k.1), k.2)

module _ {K V E : Type 0} (s : State K V E) (i : IsBalanced s) where
  -- how often the write of the number stands at the place
  abbrev count : Place → ℕ → ℕ
  count place.Held x = with_calls x s
  count place.Owed x = among_owed x s.world.desk.owed
  count place.Logged x = among x s.world.desk.log
  count place.Applied x = among x s.world.desk.applied

  holder_counts : (n : ℕ) (x : ℕ) → Holds s n x → (n ≤ s.world.desk.last) × (0 < weigh_call (post_of x) (s.calls n))
  holder_counts n x h =
      let posts = posts_held x h.call.plan (i.tidy n h.call h.live) in
      let held : among x (option_to_list (held_by h.call.plan)) ≡ times x (x ∷ []) = ap (λ w. among x (option_to_list w)) h.held ∙ ap
      (λ v. times x (v ∷ [])) h.named in
      (i.numbered n h.call h.live, omega (arith, ap (weigh_call (post_of x)) h.live, times_same x []))

  stands_counts : (p : Place) (x : ℕ) → StandsAt s p x → 0 < count p x
  stands_counts place.Held x h =
      let one = holder_counts h.0 x h.1 in
      omega (arith, one.1, sum_holds s.world.desk.last (λ n. weigh_call (post_of x) (s.calls n)) h.0 one.0)
  stands_counts _ x h = h

  -- a live call whose plan posts a write holds it
  posts_holds : (n : ℕ) (x : ℕ) (c : Option (Call K V E)) → s.calls n ≡ c → 0 < weigh_call (post_of x) c → Holds s n x
  posts_holds n x None e h = absurd (omega arith)
  posts_holds n x (Some c) e h = by (held_by c.plan) refl (omega (arith, posts_held x c.plan (i.tidy n c e)))
    where
      by : (w : Option Write) → held_by c.plan ≡ w → 0 < among x (option_to_list w) → Holds s n x
      by None f h = absurd (omega arith)
      by (Some w) f h = record { call = c; live = e; write = w; held = f; named = named (x == number_of w) refl h }
        where
          named : (b : Bool) → (x == number_of w) ≡ b → 0 < cond b 1 0 → number_of w ≡ x
          named true g h = sym (eqb-true x (number_of w) g)
          named false g h = absurd (omega arith)

  counts_stands : (p : Place) (x : ℕ) → 0 < count p x → StandsAt s p x
  counts_stands place.Held x h =
      let some = sum_has s.world.desk.last (λ n. weigh_call (post_of x) (s.calls n)) h in
      (some.0, posts_holds some.0 x (s.calls some.0) refl some.1)
  counts_stands _ x h = h

  -- where the counts of the places make 1 there is one place
  one_of : (x : ℕ) → (p q : Place) → count place.Held x + (count place.Owed x + count place.Logged x + count place.Applied x) ≡ 1 →
      0 < count p x → 0 < count q x → q ≡ p
  one_of x place.Held place.Held e h k = refl
  one_of x place.Owed place.Owed e h k = refl
  one_of x place.Logged place.Logged e h k = refl
  one_of x place.Applied place.Applied e h k = refl
  one_of x p q e h k = absurd (omega arith)

  some_place : (x : ℕ) → count place.Held x + (count place.Owed x + count place.Logged x + count place.Applied x) ≡ 1 →
      (p : Place) × (0 < count p x)
  some_place x e = by (count place.Held x) (count place.Owed x) (count place.Logged x) (count place.Applied x) refl refl refl refl e
    where
      by : (a b c d : ℕ) → count place.Held x ≡ a → count place.Owed x ≡ b → count place.Logged x ≡ c → count place.Applied x ≡ d →
          a + (b + c + d) ≡ 1 → (p : Place) × (0 < count p x)
      by (suc a) b c d f g h k e = (place.Held, omega arith)
      by zero (suc b) c d f g h k e = (place.Owed, omega arith)
      by zero zero (suc c) d f g h k e = (place.Logged, omega arith)
      by zero zero zero (suc d) f g h k e = (place.Applied, omega arith)
      by zero zero zero zero f g h k e = absurd (omega arith)

  -- two calls don't hold one write
  held_once : (x n m : ℕ) → Holds s n x → Holds s m x → ¬ (n < m)
  held_once x n m h k less =
      let a = holder_counts n x h in
      let b = holder_counts m x k in
      omega (arith, a.1, b.1, i.balance x, i.once x, sum_holds_two s.world.desk.last (λ n. weigh_call (post_of x) (s.calls n)) n m a.0 b.0 less)

  pub stands_once : (x : ℕ) → Contains s.world.table.committed x → StandsOnce s x
  stands_once x h =
      let was = contains_times x s.world.table.committed h in
      let whole : count place.Held x + (count place.Owed x + count place.Logged x + count place.Applied x) ≡ 1 = omega
      (arith, i.balance x, i.once x) in
      let at = some_place x whole in
      record {
        place = at.0;
        stands = counts_stands at.0 x at.1;
        only = λ other stands. one_of x at.0 other whole at.1 (stands_counts other x stands);
        one_holder = λ n m a b. let l = held_once x n m a b in let g = held_once x m n b a in omega arith;
        once_owed = omega arith;
        once_logged = omega arith;
        once_applied = omega arith;
      }

  pub stands_committed : (x : ℕ) (p : Place) → StandsAt s p x → Contains s.world.table.committed x
  stands_committed x p h =
      let counts = stands_counts p x h in
      times_contains x s.world.table.committed (by p counts)
    where
      by : (p : Place) → 0 < count p x → 0 < times x s.world.table.committed
      by place.Applied h = omega (arith, i.balance x)
      by _ h = omega (arith, i.balance x)
