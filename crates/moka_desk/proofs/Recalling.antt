-- A desk without a history stands for states where a number that it doesn't recall was not applied.
use Rattle.std.proofs.Common.{◌≡◌, ℕ, suc, ◌+◌, ◌≤◌, ◌==◌, Bool, true, false, not, cond, ◌&&◌, ◌||◌, List, map, nat_eq, None, is_some, refl, sym, ap, ◌∙◌, subst, arith}
use Rattle.std.proofs.Math.Bool.{and-false}
use Rattle.std.proofs.lemmas.Bool.{eqb-true}
use Rattle.std.specs.HashMap.{get}
use Rattle.std.specs.HashSet.{contains, keys}
use Rattle.moka_hist.specs.Finite.{times}
use Rattle.moka_hist.specs.Visits.{is_replaced, number_of}
use Rattle.moka_hist.specs.declared.writes.Write.{Write}
use Rattle.moka_desk.specs.Held.{held_by}
use Rattle.moka_desk.specs.Records.{RecordsAre, count_of, is_made, standing_but}
use Rattle.moka_desk.specs.Writes.{ForgetsIn, IsUnusedIn, WritePart, WritesAre}
use Rattle.moka_desk.specs.declared.records.Records.{Records}
use Rattle.moka_desk.specs.declared.writes.Writes.{Writes}
use Rattle.moka_desk.proofs.Forgetting.{count_still, fewer_times, forget, gone_still, made_still, no_key, no_time, none_left, not_in, standing_still, total, total_keys}
use Rattle.moka_desk.proofs.Numbers.{none_in_both, still_once}
use Rattle.moka_desk.proofs.Owing.{held_by_none, stands_nowhere}

-- ---- the stamps that are kept say the same of the writes without those of the number

module _ (records : Records) (writes : List Write) (h : RecordsAre records writes (is_replaced writes)) (n k : ℕ) (stands_not : contains nat_eq records.standing n ≡ false) where
  abbrev kept : Bool
  kept = contains nat_eq records.early n

  abbrev pub left : List Write
  left = forget n k kept writes

  stood : (made gone : Bool) → (made && not gone) ≡ false → made ≡ true → gone ≡ true
  stood true true e f = refl
  stood true false e f = cc
  stood false gone e f = cc

  is_gone : is_made writes n ≡ true → is_replaced writes n ≡ true
  is_gone made = stood (is_made writes n) (is_replaced writes n) (sym (h.standing n) ∙ stands_not) made

  standing_at : (x : ℕ) (b : Bool) → (n == x) ≡ b → contains nat_eq records.standing x ≡ ((is_made writes x && not b) && not (is_replaced writes x && not (b && not kept)))
  standing_at x true e = ap (contains nat_eq records.standing) (sym (eqb-true n x e)) ∙ stands_not ∙ ap (λ b. b && not (is_replaced writes x && not (not kept))) (sym (and-false (is_made writes x)))
  standing_at x false e = h.standing x ∙ plain (is_made writes x) (is_replaced writes x) where
    plain : (m g : Bool) → (m && not g) ≡ ((m && true) && not (g && true))
    plain true true = refl
    plain true false = refl
    plain false g = refl

  early_here : (made gone early : Bool) → (made ≡ true → gone ≡ true) → (made ≡ false → early ≡ gone) → early ≡ (gone && not (not early))
  early_here true true true f g = refl
  early_here true true false f g = refl
  early_here true false early f g = let no : false ≡ true = f refl in cc
  early_here false true true f g = refl
  early_here false true false f g = refl
  early_here false false true f g = let no : true ≡ false = g refl in cc
  early_here false false false f g = refl

  early_at : (x : ℕ) (b : Bool) → (n == x) ≡ b → (is_made writes x && not b) ≡ false → contains nat_eq records.early x ≡ (is_replaced writes x && not (b && not kept))
  early_at x true e unmade =
      subst (λ y. contains nat_eq records.early y ≡ (is_replaced writes y && not (not kept))) (eqb-true n x e)
      (early_here (is_made writes n) (is_replaced writes n) kept is_gone (h.early n))
  early_at x false e unmade = h.early x (plain (is_made writes x) unmade) ∙ and_true (is_replaced writes x) where
    plain : (m : Bool) → (m && true) ≡ false → m ≡ false
    plain true e = e
    plain false e = refl

    and_true : (b : Bool) → b ≡ (b && true)
    and_true true = refl
    and_true false = refl

  once_at : (x : ℕ) (b m : Bool) (c : ℕ) → c ≡ cond m 1 0 → cond b 0 c ≡ cond (m && not b) 1 0
  once_at x true true c e = refl
  once_at x true false c e = refl
  once_at x false true c e = e
  once_at x false false c e = e

  pub records_forget : RecordsAre records left (is_replaced left)
  records_forget = record {
    standing = λ x. standing_at x (n == x) refl
        ∙ (λ i. sym (made_still n k kept writes x) i && not (sym (gone_still n k kept writes x) i));
    early = λ x unmade. early_at x (n == x) refl (sym (made_still n k kept writes x) ∙ unmade) ∙ sym (gone_still n k kept writes x);
    count = h.count ∙ sym (standing_still n k kept (is_replaced writes) writes is_gone)
        ∙ ap (λ (g : ℕ → Bool). standing_but g left) (λ i x. sym (gone_still n k kept writes x) i);
    once = λ x. count_still n k kept writes x ∙ once_at x (n == x) (is_made writes x) (count_of x writes) (h.once x)
        ∙ ap (λ b. cond b 1 0) (sym (made_still n k kept writes x));
  }

-- ---- so do the kept writes

module _ (s : Writes) (p : WritePart) (h : WritesAre s p) (n : ℕ) (placeless : get nat_eq s.held.holders n ≡ None) (unposted : contains nat_eq s.posted n ≡ false)
    (stands_not : contains nat_eq s.applied.records.standing n ≡ false) (brief : s.applied.history ≡ false) where
  abbrev pub k : ℕ
  k = suc (n + total_keys s.held.holders.entries + total (keys s.posted) + total (map number_of p.applied))

  abbrev pub rest : List Write
  rest = forget n k (contains nat_eq s.applied.records.early n) p.applied

  k_has_no_place : get nat_eq s.held.holders k ≡ None
  k_has_no_place = no_key k s.held.holders.entries (omega arith)

  k_not_posted : contains nat_eq s.posted k ≡ false
  k_not_posted = not_in k (keys s.posted) (omega arith)

  k_not_applied : times k (map number_of p.applied) ≡ 0
  k_not_applied = no_time k (map number_of p.applied) (omega arith)

  k_is_another : (n == k) ≡ false
  k_is_another = by (n == k) refl where
    by : (b : Bool) → (n == k) ≡ b → b ≡ false
    by true e = let same : n ≡ k = eqb-true n k e in absurd (omega (arith, same))
    by false e = refl

  n_at_most_once : times n (map number_of p.applied) ≤ 1
  n_at_most_once = let once = h.once n in omega (arith, once)

  once_still : (x : ℕ) (b : Bool) → (x == k) ≡ b → times x (map number_of rest) ≤ times x (map number_of p.applied) + cond b (times n (map number_of p.applied)) 0 →
      cond (is_some (get nat_eq s.held.holders x) || contains nat_eq s.posted x) 1 0 + times x (map number_of rest) ≤ 1
  once_still x true e few =
      let same = eqb-true x k e in
      let none : times x (map number_of p.applied) ≡ 0 = ap (λ y. times y (map number_of p.applied)) same ∙ k_not_applied in
      let most = n_at_most_once in
      let left : 0 + times x (map number_of rest) ≤ 1 = omega (arith, few, none, most) in
      still_once _ _ false false _ (ap (λ y. is_some (get nat_eq s.held.holders y)) same ∙ ap is_some k_has_no_place) (ap (contains nat_eq s.posted) same ∙ k_not_posted) left
  once_still x false e few = let once = h.once x in omega (arith, few, once)

  pub writes_forget : WritesAre s (record p { applied = rest })
  writes_forget = record {
    holding = h.holding;
    owed = h.owed;
    log = h.log;
    applied = record { records = records_forget s.applied.records p.applied h.applied.records n k stands_not; history = λ whole. no whole };
    once = λ x. once_still x (x == k) refl (fewer_times n k (contains nat_eq s.applied.records.early n) p.applied x);
    size = h.size;
  } where
    no : s.applied.history ≡ true → s.applied.writes.items ≡ rest
    no whole = cc

  unlogged : times n (map number_of s.log.items) ≡ 0
  unlogged = s.posted_are n ∙ ap (λ b. cond b 1 0) unposted

  pub is_unused_then : IsUnusedIn (record p { applied = rest }) n
  is_unused_then =
      let nowhere = stands_nowhere (get nat_eq s.held.holders) (held_by s.held.holdings) s.held.agree s.owed.items s.log.items rest s.nobody_holds_owed n placeless
      (none_in_both n s.log.items rest unlogged (none_left n k (contains nat_eq s.applied.records.early n) k_is_another p.applied)) in
      record {
        stands = rw (← h.owed, ← h.log) nowhere;
        held = λ m held is. held_by_none (get nat_eq s.held.holders) (held_by s.held.holdings) s.held.agree s.owed.items s.log.items rest s.nobody_holds_owed n placeless m held (h.holding m ∙ is);
      }

-- with a history the number was not applied
pub by_history : (s : Writes) (n : ℕ) (p : WritePart) → WritesAre s p → (s.applied.history ≡ true → IsUnusedIn p n) → get nat_eq s.held.holders n ≡ None → contains nat_eq s.posted n ≡ false →
    (s.applied.history ≡ false → contains nat_eq s.applied.records.standing n ≡ false) → ForgetsIn s p n
by_history s n p h exact placeless unposted stands_not = by s.applied.history refl where
  by : (b : Bool) → s.applied.history ≡ b → ForgetsIn s p n
  by true whole = record { others = p.applied; stand = h; unused = exact whole }
  by false brief = record {
    others = rest s p h n placeless unposted (stands_not brief) brief;
    stand = writes_forget s p h n placeless unposted (stands_not brief) brief;
    unused = is_unused_then s p h n placeless unposted (stands_not brief) brief;
  }
