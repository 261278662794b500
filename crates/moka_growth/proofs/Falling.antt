-- Each step lowers what a call has left.
use Rattle.std.proofs.Common.{◌≡◌, ◌≢◌, ℕ, ◌+◌, ◌-◌, ◌*◌, ◌<◌, ◌≤◌, Bool, true, false, List, [], ◌++◌, length, Option, Some, None, suc, refl, sym, ap, ◌∙◌, arith, eqb, ltb, if◌then◌else◌}
use Rattle.std.specs.Option.{option_eq, option_map, option_to_list}
use Rattle.std.proofs.lemmas.Bool.{ltb-true, ltb-false}
use Rattle.moka_words.specs.declared.words.Word.{Word}
use Rattle.moka_words.specs.declared.words.Word.TheVariants.{Unset, Empty, Live, Tomb, SealedEmpty, SealedLive, SealedTomb}
use Rattle.moka_words.specs.declared.accesses.Seen.TheVariants as seen
use Rattle.moka_words.specs.Words.{node_of, stored_in, is_sealed, word_at}
use Rattle.moka_words.specs.Arrays.{bucket_at}
use Rattle.moka_growth.specs.declared.kinds.CallKind.{CallKind}
use Rattle.moka_growth.specs.declared.kinds.CallKind.TheVariants as kind
use Rattle.moka_growth.specs.Growing.{laid_out}
use Rattle.moka_growth.specs.Calls.{Point, Call, Ending, Step, Going, Decided, Nodes, without_root, in_root, is_due, start_of, past_all, past, absent, present, probed, removed, chosen, missed, walked, sealed, copies, next_at, goes}
use Rattle.moka_growth.specs.Calls as call
use Rattle.moka_growth.specs.Left.{word_eq, is_behind, hints, to_grow, to_end, from_root, once_grown, once_met, left_at}
use Rattle.moka_growth.specs.Turns.{Leads}
use Rattle.moka_growth.proofs.Bounding.{to_end_next}
use Rattle.moka_growth.proofs.Weighing.{option_same, option_true, word_same, word_false, due_spends, grown_here, met_here, met_full, from_root_least, start_lower, met_lower}

module _ (most : ℕ) (c : Call) (r : Option ℕ) (root_words : List Word) (ws : ℕ → List Word) where
  -- what a call has left at a point, and that it has less after a step
  abbrev Has : Point → ℕ
  Has p = left_at most (hints c.kind c.spent) (is_behind c.kind r root_words) r ws c.hash p

  abbrev Lowers : ℕ → Step → Type 0
  Lowers n step = Leads step
      (λ d. left_at most (hints d.kind d.spent) (is_behind d.kind r root_words) r ws d.hash d.point < n) (λ e. Unit {0})

  has_root_here : (met : Option ℕ) (a : ℕ) → option_eq eqb met (Some a) ≡ true → r ≡ Some a →
      Has (call.Root met) ≡ 1 + to_grow most + to_end most (hints c.kind c.spent)
  has_root_here met a e is_root = ap (λ o. Has (call.Root o)) (option_true met (Some a) e) ∙
      ap (λ q. if q then 1 + to_grow most + to_end most (hints c.kind c.spent)
      else from_root most (hints c.kind c.spent) (is_behind c.kind r root_words))
      (ap (λ x. option_eq eqb (Some a) x) is_root ∙ option_same (Some a))

  has_root_elsewhere : (met o : Option ℕ) → option_eq eqb met o ≡ false → r ≡ o →
      Has (call.Root met) ≡ from_root most (hints c.kind c.spent) (is_behind c.kind r root_words)
  has_root_elsewhere None o e is_root = refl
  has_root_elsewhere (Some m) o e is_root =
      ap (λ q. if q then 1 + to_grow most + to_end most (hints c.kind c.spent)
      else from_root most (hints c.kind c.spent) (is_behind c.kind r root_words))
      (ap (λ x. option_eq eqb (Some m) x) is_root ∙ e)

  start_lowers : (k : CallKind) (a size : ℕ) → size ≤ most → r ≡ Some a →
      Has (start_of k a size) < from_root most (hints c.kind c.spent) (is_behind c.kind r root_words)
  start_lowers k a size short is_root = by k
    where
      begins : (size - 0) + 1 + once_met most (hints c.kind c.spent) (is_behind c.kind r root_words) r a
          < from_root most (hints c.kind c.spent) (is_behind c.kind r root_words)
      begins =
          let here = met_here most (hints c.kind c.spent) (is_behind c.kind r root_words) r a is_root in
          let lower = start_lower most (hints c.kind c.spent) (is_behind c.kind r root_words) size short in
          omega arith

      by : (k : CallKind) → Has (start_of k a size) < from_root most (hints c.kind c.spent) (is_behind c.kind r root_words)
      by kind.Get = begins
      by kind.Insert = begins
      by kind.Remove = begins
      by kind.Keys = begins

  pub root_lowers : (met : Option ℕ) (a size t l : ℕ) → size ≤ most → r ≡ Some a → Lowers (Has (call.Root met)) (in_root c met a size t l)
  root_lowers met a size t l short is_root =
      by (option_eq eqb met (Some a)) (is_due c.kind c.spent size t l) refl refl
    where
      by : (q d : Bool) → option_eq eqb met (Some a) ≡ q → is_due c.kind c.spent size t l ≡ d → Lowers (Has (call.Root met))
          (if q then goes c (call.Seal a size 0 [])
          else (if d then Going (record c { spent = true; point = call.Seal a size 0 [] }) else goes c (start_of c.kind a size)))
      by true d e due =
          let value = has_root_here met a e is_root in
          let here = grown_here most (hints c.kind c.spent) (is_behind c.kind r root_words) r (Some a) is_root in
          omega arith
      by false true e due =
          let value = has_root_elsewhere met (Some a) e is_root in
          let here = grown_here most (hints c.kind true) (is_behind c.kind r root_words) r (Some a) is_root in
          let spends = ap (to_end most) (due_spends c.kind c.spent size t l due) in
          let next = to_end_next most (hints c.kind true) in
          let least = from_root_least most (hints c.kind c.spent) (is_behind c.kind r root_words) in
          omega arith
      by false false e due =
          let value = has_root_elsewhere met (Some a) e is_root in
          let start = start_lowers c.kind a size short is_root in
          omega arith

  has_root_none : (met : Option ℕ) → r ≡ None →
      Has (call.Root met) ≡ from_root most (hints c.kind c.spent) (is_behind c.kind r root_words)
  has_root_none None is_root = refl
  has_root_none (Some m) is_root = has_root_elsewhere (Some m) None refl is_root

  pub none_lowers : (met : Option ℕ) → r ≡ None → (k : CallKind) → (k ≡ kind.Insert → is_behind c.kind r root_words ≡ true) →
      Lowers (Has (call.Root met)) (without_root k c)
  none_lowers met is_root kind.Get full = tt
  none_lowers met is_root kind.Insert full =
      let value = has_root_none met is_root in
      let here = grown_here most (hints c.kind c.spent) (is_behind c.kind r root_words) r None is_root in
      let is_full = ap (from_root most (hints c.kind c.spent)) (full refl) in
      let next = to_end_next most (hints c.kind c.spent) in
      omega arith
  none_lowers met is_root kind.Remove full = tt
  none_lowers met is_root kind.Keys full = tt

  -- where a call probes
  module _ (a size v : ℕ) (short : size ≤ most) (more : v < size) where
    met_lowers : (steps : ℕ) → 1 ≤ steps → (r ≡ Some a → is_behind c.kind r root_words ≡ true) →
        Has (call.Root (Some a)) < steps + once_met most (hints c.kind c.spent) (is_behind c.kind r root_words) r a
    met_lowers steps some full = met_lower most (hints c.kind c.spent) (is_behind c.kind r root_words) r a steps some full

    past_lowers : (size ≤ suc v → c.kind ≡ kind.Insert → (r ≡ Some a) × (is_behind c.kind r root_words ≡ true)) →
        Lowers (Has (call.Probe a size v)) (past c a size v)
    past_lowers full = by (ltb (suc v) size) refl
      where
        ends : (k : CallKind) → c.kind ≡ k → size ≤ suc v → Lowers (Has (call.Probe a size v)) (past_all k c a size)
        ends kind.Get e all = tt
        ends kind.Insert e all =
            let behind = full all e in
            let here = grown_here most (hints c.kind c.spent) (is_behind c.kind r root_words) r (Some a) behind.0 in
            let met = met_full most (hints c.kind c.spent) (is_behind c.kind r root_words) r a behind.0 behind.1 in
            omega arith
        ends kind.Remove e all = tt
        ends kind.Keys e all = tt

        by : (b : Bool) → ltb (suc v) size ≡ b → Lowers (Has (call.Probe a size v))
            (if b then goes c (call.Probe a size (suc v)) else past_all c.kind c a size)
        by true e = omega arith
        by false e = ends c.kind refl (ltb-false (suc v) size e)

    absent_lowers : (w : Word) (k : CallKind) → Lowers (Has (call.Probe a size v)) (absent k c a size v w)
    absent_lowers w kind.Get = tt
    absent_lowers w kind.Insert = omega arith
    absent_lowers w kind.Remove = tt
    absent_lowers w kind.Keys = tt

    present_lowers : (n : ℕ) (k : CallKind) → Lowers (Has (call.Probe a size v)) (present k c a size v n)
    present_lowers n kind.Get = tt
    present_lowers n kind.Insert = omega arith
    present_lowers n kind.Remove = omega arith
    present_lowers n kind.Keys = tt

    pub probe_lowers : (w : Word) (s : Bool) → w ≢ Unset → (is_sealed w ≡ true → r ≡ Some a → is_behind c.kind r root_words ≡ true) →
        (is_sealed w ≡ false → s ≡ false → (n : ℕ) → node_of w ≡ Some n → size ≤ suc v → c.kind ≡ kind.Insert →
        (r ≡ Some a) × (is_behind c.kind r root_words ≡ true)) →
        Lowers (Has (call.Probe a size v)) (probed c a size v w s)
    probe_lowers Unset s set_ shut full = absurd (set_ refl)
    probe_lowers Empty s set_ shut full = absent_lowers Empty c.kind
    probe_lowers (Live n) true set_ shut full = present_lowers n c.kind
    probe_lowers (Live n) false set_ shut full = past_lowers (full refl refl n refl)
    probe_lowers (Tomb n) true set_ shut full = absent_lowers (Tomb n) c.kind
    probe_lowers (Tomb n) false set_ shut full = past_lowers (full refl refl n refl)
    probe_lowers SealedEmpty s set_ shut full = met_lowers ((size - v) + 1) (omega arith) (shut refl)
    probe_lowers (SealedLive n) s set_ shut full = met_lowers ((size - v) + 1) (omega arith) (shut refl)
    probe_lowers (SealedTomb n) s set_ shut full = met_lowers ((size - v) + 1) (omega arith) (shut refl)

    has_missed : (from to : Word) → word_at (ws a) (bucket_at size c.hash v) ≢ from → Has (call.Change a size v from to)
        ≡ (size - v) + 2 + once_met most (hints c.kind c.spent) (is_behind c.kind r root_words) r a
    has_missed from to other = ap (λ q. if q then 1
        else (size - v) + 2 + once_met most (hints c.kind c.spent) (is_behind c.kind r root_words) r a)
        (word_false (word_at (ws a) (bucket_at size c.hash v)) from other)

    pub missed_lowers : (from to met : Word) → word_at (ws a) (bucket_at size c.hash v) ≢ from →
        (is_sealed met ≡ true → r ≡ Some a → is_behind c.kind r root_words ≡ true) →
        Lowers (Has (call.Change a size v from to)) (missed c a size v met)
    missed_lowers from to met other shut = by (is_sealed met) refl
      where
        by : (b : Bool) → is_sealed met ≡ b → Lowers (Has (call.Change a size v from to))
            (if b then goes c (call.Root (Some a)) else goes c (call.Probe a size v))
        by true e =
            let value = has_missed from to other in
            let lower = met_lowers ((size - v) + 2) (omega arith) (shut e) in
            omega arith
        by false e = let value = has_missed from to other in omega arith

    pub walk_lowers : (nodes : List ℕ) (w : Word) (x : ℕ) (s : Bool) →
        (is_sealed w ≡ true → r ≡ Some a → is_behind c.kind r root_words ≡ true) →
        Lowers (Has (call.Walk a size v nodes)) (next_at c (call.Walk a size v nodes) (seen.Word w x s))
    walk_lowers nodes w x s shut = by (is_sealed w) refl
      where
        goes_on : (b : Bool) (ns : List ℕ) → Lowers (Has (call.Walk a size v nodes))
            (if b then goes c (call.Walk a size (suc v) ns) else Decided (Nodes ns))
        goes_on true ns = omega arith
        goes_on false ns = tt

        by : (b : Bool) → is_sealed w ≡ b → Lowers (Has (call.Walk a size v nodes))
            (if b then goes c (call.Root (Some a)) else walked c a size v (nodes ++ option_to_list (stored_in w)))
        by true e = met_lowers ((size - v) + 1) (omega arith) (shut e)
        by false e = goes_on (ltb (suc v) size) (nodes ++ option_to_list (stored_in w))

    -- a word that is sealed, by whomever
    pub sealed_lowers : (n : ℕ) (w : Word) (x : ℕ) (kept : List (ℕ × ℕ)) →
        2 * (size - v) + 2 + most + once_grown most (hints c.kind c.spent) (is_behind c.kind r root_words) r (Some a) ≤ n →
        Lowers n (sealed c a size v w x kept)
    sealed_lowers n w x kept lower = by (ltb (suc v) size) refl (kept ++ option_to_list (option_map (λ m. (m, x)) (stored_in w)))
      where
        by : (b : Bool) → ltb (suc v) size ≡ b → (ps : List (ℕ × ℕ)) →
            Lowers n (if b then goes c (call.Seal a size (suc v) ps) else goes c (call.Next (Some a) size ps))
        by true e ps = omega arith
        by false e ps = omega arith

    pub seal_lowers : (kept : List (ℕ × ℕ)) (w : Word) (x : ℕ) (s : Bool) → w ≡ word_at (ws a) v →
        Lowers (Has (call.Seal a size v kept)) (next_at c (call.Seal a size v kept) (seen.Word w x s))
    seal_lowers kept w x s there = by (is_sealed w)
      where
        value : Has (call.Close a size v w x kept) ≡ 2 * (size - v) + 2 + most
            + once_grown most (hints c.kind c.spent) (is_behind c.kind r root_words) r (Some a)
        value = ap (λ q. (if q then 2 * (size - v) + 2 else 2 * (size - v) + 4) + most
            + once_grown most (hints c.kind c.spent) (is_behind c.kind r root_words) r (Some a))
            (ap (λ u. word_eq u w) (sym there) ∙ word_same w)

        by : (b : Bool) → Lowers (Has (call.Seal a size v kept))
            (if b then sealed c a size v w x kept else goes c (call.Close a size v w x kept))
        by true = sealed_lowers (Has (call.Seal a size v kept)) w x kept (omega arith)
        by false = let is = value in omega arith

    pub close_missed : (kept : List (ℕ × ℕ)) (w : Word) (x : ℕ) → word_at (ws a) v ≢ w →
        Has (call.Seal a size v kept) < Has (call.Close a size v w x kept)
    close_missed kept w x other =
        let value : Has (call.Close a size v w x kept) ≡ 2 * (size - v) + 4 + most
        + once_grown most (hints c.kind c.spent) (is_behind c.kind r root_words) r (Some a) =
        ap (λ q. (if q then 2 * (size - v) + 2 else 2 * (size - v) + 4) + most
        + once_grown most (hints c.kind c.spent) (is_behind c.kind r root_words) r (Some a))
        (word_false (word_at (ws a) v) w other) in
        omega arith

  -- the array to copy into
  pub copies_lower : (n : ℕ) (from : Option ℕ) (b k : ℕ) (kept : List (ℕ × ℕ)) → k ≤ most → length (laid_out kept k) ≡ k →
      2 + most + once_grown most (hints c.kind c.spent) (is_behind c.kind r root_words) r from ≤ n → Lowers n (copies c from b k kept)
  copies_lower n from b k kept short long lower = by (ltb 0 k) refl
    where
      by : (d : Bool) → ltb 0 k ≡ d → Lowers n
          (if d then goes c (call.Copy from b 0 (laid_out kept k)) else goes c (call.Swing from b))
      by true e = omega arith
      by false e = omega arith

  pub copy_lowers : (n : ℕ) (from : Option ℕ) (a i : ℕ) (laid : List Word) → i < length laid →
      (length laid - i) + 1 + once_grown most (hints c.kind c.spent) (is_behind c.kind r root_words) r from ≤ n →
      Lowers n (next_at c (call.Copy from a i laid) seen.Copied)
  copy_lowers n from a i laid more lower = by (ltb (suc i) (length laid)) refl
    where
      by : (d : Bool) → ltb (suc i) (length laid) ≡ d → Lowers n
          (if d then goes c (call.Copy from a (suc i) laid) else goes c (call.Swing from a))
      by true e = let below = ltb-true (suc i) (length laid) e in omega arith
      by false e = omega arith
