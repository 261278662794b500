-- The steps of the book keep its rule.
use Rattle.std.proofs.Common.{◌≡◌, ◌≢◌, ℕ, ◌+◌, ◌<◌, ◌==◌, Bool, true, false, cond, inl, inr, List, [], ◌∷◌, ◌++◌, length, slice_set, replicate, length-append, refl, ap, sym, subst, ◌∙◌, arith, None}
use Rattle.std.specs.Prelude.{MatchBool}
use Rattle.std.proofs.lemmas.List.{append-nil, length-set, length-replicate, get_or-replicate}
use Rattle.std.proofs.lemmas.Bool.{eqb-true, eq-eqb, true≢false}
use Rattle.std.proofs.lemmas.Bool.Decides.{eqb_tells}
use mathlib.Core.List.{IsPrefix}
use prog.Atomic.{either}
use Rattle.logbook.specs.Pages.{Cell, cell, Nib, nib, keeps, gives, adds, no_nib, may_make, may_write, step, Moves, Goes}
use Rattle.moka_parts.specs.declared.change.Change.{Change}
use Rattle.moka_parts.specs.declared.note.Note.{Note}
use Rattle.moka_parts.specs.declared.note.Note.TheVariants.{Opened, Changed}
use Rattle.moka_parts.specs.Changes.{map_after, IsLegal, IsUnspent, count_of}
use Rattle.moka_parts.specs.Logs.{changes_in, IsOpenedFor, IsLog, Counts}
use Rattle.moka_parts.specs.Rules.{IsKept, AreSpent, Looks, Draws, Adds}
use Rattle.moka_parts.proofs.Prefixes.{prefix_trans}
use Rattle.moka_parts.proofs.Tickets.{are_spent_still, are_spent_more, unspent_away}
use Rattle.moka_parts.proofs.Cells.{set_here, set_other, set_same, set_home, more_same, none_past}
use Rattle.moka_parts.proofs.Histories.{count_of-more, legal_more, part_stays, changes_in-prefix, changes_in-more, opened_more, opened_same}

pub neq-eqb : (a b : ℕ) → a ≢ b → (a == b) ≡ false
neq-eqb a b apart = elim (eqb_tells a b) [ inl p ↦ absurd (apart p.1) | inr p ↦ p.0 ]

-- a number that is put in its own place
same_or_not : (n : ℕ) → either (n == 0) 0 n ≡ n
same_or_not n =
    let at : n ≡ 0 → either (n == 0) 0 n ≡ n = λ e. subst (λ (m : ℕ). either (m == 0) 0 m ≡ m) (sym e) refl in
    elim (eqb_tells n 0) [ inl p ↦ at p.1 | inr p ↦ ap (λ (b : Bool). either b 0 n) p.0 ]

below_door : (k : ℕ) → k < 65 → k ≢ 64 → k < 64
below_door k below apart = omega (arith, apart)

pub nothing_is_legal : {K V : Type 0} (eq : K → K → Bool) → IsLegal {K = K} {V = V} eq []
nothing_is_legal eq before c after e = absurd (omega (arith, ap length e, length-append before (c ∷ after)))

-- the log of a book that was just opened
pub just_opened : {K V S : Type 0} (eq : K → K → Bool) (s : S) (log : List (Note K V S)) → log ≡ Opened s ∷ [] → IsLog eq log
just_opened {K} {V} {S} eq s log is =
    let h : IsLog {V = V} eq (Opened s ∷ []) = record { hasher = s; opened = refl; legal = nothing_is_legal eq } in
    subst (λ (l : List (Note K V S)). IsLog eq l) (sym is) h

abbrev pub shown : {K V S : Type 0} → List (Note K V S) → List (Note K V S)
shown log = []

abbrev pub moved : {K V S : Type 0} → List (Note K V S) → List (Note K V S) → ℕ → Type 0
moved xs ys n = Unit {0}

module _ {K V S : Type 0} (eq : K → K → Bool) (part : S → K → ℕ) where
  -- the words say what they said
  kept_same : (cs ds : List Cell) (log : List (Note K V S)) → IsKept eq part cs log → 64 < length ds → ((n : ℕ) → cell ds n ≡ cell cs n) → IsKept eq part ds log
  kept_same cs ds log kept many same =
      record {
        hasher = kept.hasher;
        opened = kept.opened;
        many = many;
        door = ap (λ (c : Cell). c.1) (same 64) ∙ kept.door;
        counts = λ n below. same n ∙ kept.counts n below;
        spent = are_spent_still cs ds (λ n home. ap (λ (c : Cell). c.1) (same n) ∙ home) (changes_in log) kept.spent;
        legal = kept.legal;
      }

  -- a book of so many words that was just opened
  pub opened_kept : (s : S) (words : ℕ) → 64 < words → IsKept {V = V} eq part (replicate words (0, true)) (Opened s ∷ [])
  opened_kept s words above =
      let l = length-replicate {A = Cell} words (0, true) in
      record {
        hasher = s;
        opened = refl;
        many = omega (arith, l, above);
        door = ap (λ (c : Cell). c.1) (get_or-replicate {A = Cell} words 64 (0, true) (0, false) above);
        counts = λ n below. get_or-replicate {A = Cell} words n (0, true) (0, false) (omega (arith, above, below));
        spent = tt;
        legal = nothing_is_legal eq;
      }

  -- a load leaves the book, and tells how many changes the part has
  pub look_moves : (v : List (Note K V S)) (k : ℕ) (ask : Note K V S) → k < 64
      → Moves (IsKept eq part) shown moved k (v, (no_nib, None)) (λ n. n) (Looks eq part (step k 0 0 ask) (v, (no_nib, None)))
  look_moves v k ask below cs log kept pre away =
      let here = kept.counts k below in
      let all : log ++ [] ≡ log = append-nil log in
      let many = kept.many in
      let l = length-set cs k ((cell cs k).0, true) in
      let home = ap (λ (c : Cell). c.1) here in
      let h : IsKept eq part (slice_set cs k ((cell cs k).0, true)) log = kept_same cs (slice_set cs k ((cell cs k).0, true)) log kept (omega arith) (set_same cs k (omega arith) home) in
      let told : Looks eq part (step k 0 0 ask) (v, (no_nib, None)) (cell cs k).0 (log, (no_nib, None)) =
      (kept.hasher, record { opened = kept.opened; count_is = ap (λ (c : Cell). c.0) here; legal = kept.legal }) in (
        omega arith,
        home,
        (
          keeps,
          [],
          None,
          tt,
          subst (IsKept eq part (slice_set cs k ((cell cs k).0, true))) (sym all) h,
          inl (refl, refl),
          subst (λ (l : List (Note K V S)). Looks eq part (step k 0 0 ask) (v, (no_nib, None)) (cell cs k).0 (l, (no_nib, None))) (sym all) told,
        ),
      )

  -- an exchange that leaves its word draws a ticket
  pub draw_moves : (v : List (Note K V S)) (k : ℕ) (ask : Note K V S) → k < 65
      → Moves (IsKept eq part) shown moved k (v, (no_nib, None)) (λ n. either (n == 0) 0 n) (Draws eq part (step k 0 0 ask) (v, (no_nib, None)))
  draw_moves v k ask below cs log kept pre away =
      let many = kept.many in
      let home : (cell cs k).1 ≡ true = elim (eqb_tells k 64) [
        | inl p ↦ ap (λ (n : ℕ). (cell cs n).1) p.1 ∙ kept.door
        | inr p ↦ ap (λ (c : Cell). c.1) (kept.counts k (below_door k below p.1))
      ] in
      let all : log ++ [] ≡ log = append-nil log in
      let set = slice_set cs k ((cell cs k).0, true) in
      let l = length-set cs k ((cell cs k).0, true) in
      let m = length-append set ((0, false) ∷ []) in
      let h : IsKept eq part (set ++ (0, false) ∷ []) log =
      kept_same cs (set ++ (0, false) ∷ []) log kept (omega arith) (λ n. more_same set n ∙ set_same cs k (omega arith) home n) in
      let fresh : IsUnspent (length cs) (changes_in log) = unspent_away cs (length cs) (none_past cs) (changes_in log) kept.spent in
      let is : IsLog eq log = record { hasher = kept.hasher; opened = kept.opened; legal = kept.legal } in
      let told : Draws eq part (step k 0 0 ask) (v, (no_nib, None)) (cell cs k).0 (log, (nib may_make (length cs) 0, None)) = (is, refl, fresh) in (
        omega arith,
        home,
        (
          adds,
          [],
          None,
          tt,
          subst (λ (x : ℕ). IsKept eq part (slice_set cs k (x, true) ++ (0, false) ∷ []) (log ++ [])) (sym (same_or_not (cell cs k).0)) (subst (IsKept eq part (set ++ (0, false) ∷ [])) (sym all) h),
          inl (refl, refl),
          subst (λ (l : List (Note K V S)). Draws eq part (step k 0 0 ask) (v, (no_nib, None)) (cell cs k).0 (l, (nib may_make (length cs) 0, None))) (sym all) told,
        ),
      )

  module _ (alike : (s : S) (x y : K) → eq x y ≡ true → part s x ≡ part s y) where
    -- the words once the word k counts one more, and the ticket's word is at home
    module _ (cs : List Cell) (log : List (Note K V S)) (kept : IsKept eq part cs log) (k x t y : ℕ) (below : k < 64) (place : t < length cs) (away : (cell cs t).1 ≡ false) where
      abbrev once : List Cell
      once = slice_set cs k (x, true)

      abbrev then : List Cell
      then = slice_set once t (y, true)

      then_many : 64 < length then
      then_many = let many = kept.many in let l = length-set cs k (x, true) in let m = length-set once t (y, true) in omega arith

      in_cells : k < length cs
      in_cells = let many = kept.many in omega arith

      in_once : t < length once
      in_once = let l = length-set cs k (x, true) in omega arith

      apart : (n : ℕ) → (cell cs n).1 ≡ true → n ≢ t
      apart n home e = true≢false (sym home ∙ (ap (λ (m : ℕ). (cell cs m).1) e ∙ away))

      then_home : (n : ℕ) → (cell cs n).1 ≡ true → (cell then n).1 ≡ true
      then_home n home = set_home once t y in_once n (set_home cs k x in_cells n home)

      then_counts : (s : S) (more : List (Note K V S)) → s ≡ kept.hasher
          → ((n : ℕ) → n ≢ k → count_of (part s) n (changes_in more) ≡ count_of (part s) n (changes_in log)) → x ≡ count_of (part s) k (changes_in more)
          → (n : ℕ) → n < 64 → cell then n ≡ (count_of (part s) n (changes_in more), true)
      then_counts s more is others here n small =
          let counted : cell cs n ≡ (count_of (part s) n (changes_in log), true) = subst (λ (u : S). cell cs n ≡ (count_of (part u) n (changes_in log), true)) (sym is) (kept.counts n small) in
          let left : cell then n ≡ cell once n = set_other once t y n (apart n (ap (λ (c : Cell). c.1) counted)) in
          let same : n ≡ k → cell once n ≡ (count_of (part s) n (changes_in more), true) =
          λ e. subst (λ (m : ℕ). cell once m ≡ (count_of (part s) m (changes_in more), true)) (sym e) (set_here cs k x in_cells ∙ ap (λ (c : ℕ). (c, true)) here) in
          let other : n ≢ k → cell once n ≡ (count_of (part s) n (changes_in more), true) =
          λ e. set_other cs k x n e ∙ (counted ∙ ap (λ (c : ℕ). (c, true)) (sym (others n e))) in
          left ∙ elim (eqb_tells n k) [ inl p ↦ same p.1 | inr p ↦ other p.1 ]

      -- the rule holds of them and of a longer log
      then_kept : (c : Change K V) → c.spent ≡ t → (more : List (Note K V S)) → changes_in more ≡ changes_in log ++ c ∷ [] → IsOpenedFor kept.hasher more → IsLegal eq (changes_in more)
          → ((n : ℕ) → n ≢ k → count_of (part kept.hasher) n (changes_in more) ≡ count_of (part kept.hasher) n (changes_in log)) → x ≡ count_of (part kept.hasher) k (changes_in more)
          → IsKept eq part then more
      then_kept c spends more has opened legal others here =
          let own : (cell then c.spent).1 ≡ true = ap (λ (n : ℕ). (cell then n).1) spends ∙ ap (λ (d : Cell). d.1) (set_here once t y in_once) in
          let spent = are_spent_more then (changes_in log) c (are_spent_still cs then then_home (changes_in log) kept.spent) own in
          record {
            hasher = kept.hasher;
            opened = opened;
            many = then_many;
            door = then_home 64 kept.door;
            counts = then_counts kept.hasher more refl others here;
            spent = subst (AreSpent then) (sym has) spent;
            legal = legal;
          }

    goes : (front : List (Note K V S)) (k count : ℕ) (pen : Nib) (right : pen.right ≡ may_write) (c : Change K V) (cs : List Cell) (log v : List (Note K V S)) (kept : IsKept eq part cs log)
        → k < 64 → IsPrefix front log → count ≡ count_of (part kept.hasher) k (changes_in front) → part kept.hasher c.key ≡ k → c.before ≡ map_after eq (changes_in front) c.key
        → c.spent ≡ pen.key → pen.key < length cs → (cell cs pen.key).1 ≡ false
        → IsPrefix v log → (b : Bool) → ((cell cs k).0 == count) ≡ b
        → Goes (IsKept eq part) shown moved k (v, (pen, None)) (λ n. either (n == count) (count + 1) n) (Adds eq part (step k count (count + 1) (Changed c)) (v, (pen, None))) cs log
    goes front k count pen right c cs log v kept below begins seen at before spends place away pre true is =
        let here = kept.counts k below in
        let p = part kept.hasher in
        let found : (cell cs k).0 ≡ count = eqb-true (cell cs k).0 count is in
        let counted : count_of p k (changes_in log) ≡ count = sym (ap (λ (c : Cell). c.0) here) ∙ found in
        let stands = part_stays eq p (alike kept.hasher) k c.key (changes_in front) (changes_in log) (changes_in-prefix front log begins) at (counted ∙ seen) in
        let more = log ++ Changed c ∷ [] in
        let has = changes_in-more log c in
        let legal : IsLegal eq (changes_in more) = subst (IsLegal eq) (sym has) (legal_more eq (changes_in log) c kept.legal (before ∙ sym stands)) in
        let opened = opened_more kept.hasher log c kept.opened in
        let one : count + 1 ≡ count_of p k (changes_in more) =
        sym (ap (count_of p k) has ∙ (count_of-more p k (changes_in log) c ∙ (ap (λ (b : Bool). cond b (count_of p k (changes_in log) + 1) (count_of p k (changes_in log))) (eq-eqb (p c.key) k at) ∙ ap (λ (n : ℕ). n + 1) counted))) in
        let others : (n : ℕ) → n ≢ k → count_of p n (changes_in more) ≡ count_of p n (changes_in log) =
        λ n apart. ap (count_of p n) has ∙ (count_of-more p n (changes_in log) c ∙ ap (λ (b : Bool). cond b (count_of p n (changes_in log) + 1) (count_of p n (changes_in log))) (neq-eqb (p c.key) n (λ e. apart (sym e ∙ at)))) in
        let kept' : IsKept eq part (slice_set (slice_set cs k (count + 1, true)) pen.key (pen.value, true)) more =
        then_kept cs log kept k (count + 1) pen.key pen.value below place away c spends more has opened legal others one in
        let free : IsUnspent pen.key (changes_in log) = unspent_away cs pen.key away (changes_in log) kept.spent in (
          gives,
          Changed c ∷ [],
          None,
          right,
          rw is kept',
          inl (refl, refl),
          rw is (log, pre, refl, free, (kept.hasher, record { opened = opened; count_is = one; legal = legal })),
        )
    goes front k count pen right c cs log v kept below begins seen at before spends place away pre false is =
        let here = kept.counts k below in
        let many = kept.many in
        let all : log ++ [] ≡ log = append-nil log in
        let l = length-set cs k ((cell cs k).0, true) in
        let h : IsKept eq part (slice_set cs k ((cell cs k).0, true)) log =
        kept_same cs (slice_set cs k ((cell cs k).0, true)) log kept (omega arith) (set_same cs k (omega arith) (ap (λ (c : Cell). c.1) here)) in
        let told : Looks eq part (step k count (count + 1) (Changed c)) (v, (pen, None)) (cell cs k).0 (log, (pen, None)) × (pen ≡ pen) =
        ((kept.hasher, record { opened = kept.opened; count_is = ap (λ (c : Cell). c.0) here; legal = kept.legal }), refl) in (
          keeps,
          [],
          None,
          tt,
          rw is (subst (IsKept eq part (slice_set cs k ((cell cs k).0, true))) (sym all) h),
          inl (refl, refl),
          rw is (subst (λ (l : List (Note K V S)). Looks eq part (step k count (count + 1) (Changed c)) (v, (pen, None)) (cell cs k).0 (l, (pen, None)) × (pen ≡ pen)) (sym all) told),
        )

    -- the exchange adds the change where the word has the count of a beginning that says what stands at the key, and spends the ticket; or it leaves the book
    pub add_moves : (v front : List (Note K V S)) (k count : ℕ) (pen : Nib) → pen.right ≡ may_write → (c : Change K V) (s : S) → k < 64 → IsPrefix front v → Counts eq part s k count front
        → part s c.key ≡ k → c.before ≡ map_after eq (changes_in front) c.key → c.spent ≡ pen.key
        → Moves (IsKept eq part) shown moved k (v, (pen, None)) (λ n. either (n == count) (count + 1) n)
        (Adds eq part (step k count (count + 1) (Changed c)) (v, (pen, None)))
    add_moves v front k count pen right c s below begins seen at before spends cs log kept pre away =
        let here = kept.counts k below in
        let m = kept.many in
        let l : IsPrefix front log = prefix_trans front v log begins pre in
        let hasher_is : s ≡ kept.hasher = opened_same s kept.hasher front log l seen.opened kept.opened in
        let at' : part kept.hasher c.key ≡ k = subst (λ (t : S). part t c.key ≡ k) hasher_is at in
        let seen' : count ≡ count_of (part kept.hasher) k (changes_in front) = subst (λ (t : S). count ≡ count_of (part t) k (changes_in front)) hasher_is seen.count_is in
        let own = away right in (
          omega arith,
          ap (λ (c : Cell). c.1) here,
          goes front k count pen right c cs log v kept below l seen' at' before spends own.0 own.1 pre ((cell cs k).0 == count) refl,
        )

-- what an exchange tells whose word was found as it should be
pub was_added : (A B : Type 0) (b : Bool) → b ≡ true → MatchBool b A B → A
was_added A B = elim [ true ↦ (λ e h. h) | false ↦ (λ e h. absurd (true≢false (sym e))) ]

-- and one whose word was found otherwise
pub was_left : (A B : Type 0) (b : Bool) → b ≡ false → MatchBool b A B → B
was_left A B = elim [ true ↦ (λ e h. absurd (true≢false e)) | false ↦ (λ e h. h) ]
