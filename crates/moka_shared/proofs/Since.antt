-- What a pass tells, from what its caller had seen before.
use Rattle.std.proofs.Common.{◌≡◌, ℕ, ◌<◌, ◌≤◌, Bool, false, List, [], ◌∷◌, ◌++◌, append_assoc, Option, Some, None, inl, inr, refl, sym, ap, subst, ◌∙◌, arith}
use Rattle.std.specs.List.{slice_get}
use Rattle.std.specs.Option.{option_map}
use mathlib.Core.List.{IsPrefix}
use Rattle.moka_history.specs.declared.note.Note.{Note}
use Rattle.moka_history.specs.Entries.{Entry, map_after}
use Rattle.moka_history.specs.States.{Ticket}
use Rattle.moka_history.specs.Logs.{entries_of, state_of}
use Rattle.moka_history.specs.Rules.{IsKept, made_on}
use Rattle.moka_history.proofs.Folds.{entries_begin, entries_grow}
use Rattle.moka_history.proofs.Fronts.{good_now, lasts_now, made_still}
use Rattle.moka_shared.specs.declared.answers.Missed.{Missed}
use Rattle.moka_shared.specs.declared.answers.Missed.TheVariants as missed
use Rattle.moka_shared.specs.declared.answers.Put.{Put}
use Rattle.moka_shared.specs.declared.answers.Put.TheVariants as put
use Rattle.moka_shared.specs.declared.answers.TryChange.{TryChange}
use Rattle.moka_shared.specs.declared.answers.TryChange.TheVariants as change
use Rattle.moka_shared.specs.declared.seat.Seat.{Seat}
use Rattle.moka_shared.specs.declared.standing.Standing.{Standing}
use Rattle.moka_shared.specs.declared.standing.Standing.TheVariants as standing
use Rattle.moka_shelf.specs.Looks.{Hiding}
use Rattle.moka_shared.specs.Changes.{Adds, AreMade, HereSo, IsCopy, IsHere, IsMetBy, IsReason, Makes, MakesNone, Puts, PutsOn, Stands, entry_for, entry_put}
use Rattle.moka_shared.specs.Inserts.{Inserts, StandsSo}
use Rattle.moka_shared.specs.Looks.{IsNodeHidden}
use Rattle.moka_shared.specs.Removals.{Changes}
use Rattle.moka_shared.specs.Tables.{Table}

module _ {K V S : Type 0} (eq : K → K → Bool) (hash : S → K → ℕ) (place : S → ℕ → K → ℕ) (new : List (Note K V S)) (kept : IsKept eq hash place new) where
  -- tickets that have an entry have one still
  pub made_lasts : (old : List (Note K V S)) → IsPrefix old new → (ns : List ℕ) → AreMade ns (entries_of old) → AreMade ns (entries_of new)
  made_lasts old begins [] made = tt
  made_lasts old begins (n ∷ ns) made = (by old begins made.0, made_lasts old begins ns made.1)
    where
      by : (front : List (Note K V S)) → IsPrefix front new → made_on n (entries_of front) ≡ 1 → made_on n (entries_of new) ≡ 1
      by [] pre one = absurd (omega (arith, one))
      by (x ∷ front) pre one = made_still eq hash place new kept (x ∷ front) (record { some = omega arith; begins = pre }) n one

  -- a ticket whose cell isn't home has no entry
  pub none_made : (own ticket : ℕ) → slice_get (state_of new).cells own ≡ Some (Ticket ticket false) → made_on ticket (entries_of new) ≡ 0
  none_made own ticket at = ((good_now eq hash place new kept).drawn.cells own ticket false at).1

  pub last_since : (old : List (Note K V S)) → IsPrefix old new → (state_of old).last ≤ (state_of new).last
  last_since [] pre = omega arith
  last_since (x ∷ old) pre = (lasts_now eq hash place new kept (x ∷ old) (record { some = omega arith; begins = pre })).last

-- an entry that was added since
adds_since : {K V S : Type 0} (e : Entry K V) (old mid new : List (Note K V S)) → IsPrefix old mid → Adds e mid new → Adds e old new
adds_since e old mid new begins adds =
    let rest = entries_begin old mid begins in
    record {
      between = rest.0 ++ adds.between;
      entries = adds.entries
          ∙ (ap (λ es. (es ++ adds.between) ++ e ∷ []) (sym rest.1)
          ∙ ap (λ es. es ++ e ∷ []) (append_assoc (entries_of old) rest.0 adds.between));
      once = adds.once;
    }

module _ {K V S H D : Type 0} (eq : K → K → Bool) (place : S → ℕ → K → ℕ) (looked : H → Hiding) (t : Table S) (h : ℕ)
    (old mid new : Seat K V S H D) (begins : IsPrefix old.front.log mid.front.log) (mine : mid.mine ≡ old.mine) where
  -- what holds of what had been seen later holds of what had been seen before
  module _ (rises : (state_of old.front.log).last ≤ (state_of mid.front.log).last) (hidden : looked mid.hidden ≡ looked old.hidden) (drawn : mid.drawn ≡ old.drawn) where
    pub none_since : MakesNone mid new → MakesNone old new
    none_since r = record {
      mine = r.mine ∙ mine;
      none = elim r.none [
        | inl same ↦ inl (same ∙ drawn)
        | inr vain ↦ (let late = vain.late in inr (record {
          ticket = vain.ticket;
          late = omega (arith, rises, late);
          drawn = vain.drawn ∙ ap (λ m. vain.ticket ∷ m.numbers) drawn;
          none = vain.none;
        }))
      ];
    }

    pub makes_since : (e : ℕ → Entry K V) → Makes mid new e → Makes old new e
    makes_since e p =
        let late = p.late in
        record {
          ticket = p.ticket;
          late = omega (arith, rises, late);
          adds = adds_since (e p.ticket) old.front.log mid.front.log new.front.log begins p.adds;
          drawn = p.drawn ∙ ap (λ m. p.ticket ∷ m.numbers) drawn;
          mine = p.mine ∙ ap (λ m. p.ticket ∷ m.numbers) mine;
        }

    pub reason_since : (m : Missed) → IsReason eq place looked t h mid new m → IsReason eq place looked t h old new m
    reason_since (missed.Sealed w a i) r = (r.0, r.1 ∙ hidden)
    reason_since (missed.NodeHidden n) r = subst (λ x. IsNodeHidden t h new.front.log x (looked new.hidden) n) hidden r
    reason_since (missed.ArrayHidden a) r = absurd r
    reason_since (missed.Lost w) r =
        let late = r.late in
        let past = r.past in
        let grown = entries_grow old.front.log mid.front.log begins in
        record {
          ticket = r.ticket;
          late = omega (arith, rises, late);
          drawn = r.drawn ∙ ap (λ m. r.ticket ∷ m.numbers) drawn;
          passed = r.passed;
          front = r.front;
          past = omega (arith, grown, past);
          met = r.met;
        }
    reason_since (missed.Ticket n) r = let late = r.0 in (omega (arith, rises, late), r.1)
    reason_since (missed.NoFree n) r = r
    reason_since missed.Spent r = r

    pub puts_since : (A B : Type 0) (P Q : V → Type 0) → (A → B) → ((v : V) → P v → Q v) → (r : Put V) →
        Puts eq place looked t h mid new A P r → Puts eq place looked t h old new B Q r
    puts_since A B P Q done there put.Done p = done p
    puts_since A B P Q done there (put.There found) p = ((p.0.0 ∙ mine, p.0.1 ∙ drawn), there found p.1)
    puts_since A B P Q done there (put.Missed m) p = (none_since p.0, reason_since m p.1)
    puts_since A B P Q done there put.Memory p = none_since p

    pub inserts_since : (key : K) (value : V) (r : Put V) → Inserts eq place looked t h key value mid new r → Inserts eq place looked t h key value old new r
    inserts_since key value r p = puts_since (Makes mid new (λ n. entry_put n key value None)) (Makes old new (λ n. entry_put n key value None))
        (λ found. Some found ≡ option_map (λ p. p.1) (map_after eq (entries_of new.front.log) key))
        (λ found. Some found ≡ option_map (λ p. p.1) (map_after eq (entries_of new.front.log) key)) (makes_since (λ n. entry_put n key value None)) (λ v q. q) r p

    pub changes_since : (key : K) (to : Option V) (r : TryChange V) → Changes eq place looked t h key to mid new r → Changes eq place looked t h key to old new r
    changes_since key to (change.Changed former) p = record {
      pair = p.pair;
      same = p.same;
      value_is = p.value_is;
      makes = makes_since (λ n. entry_for n key to p.pair) p.makes;
    }
    changes_since key to change.Absent p = ((p.0.0 ∙ mine, p.0.1 ∙ drawn), p.1)
    changes_since key to (change.Again m) p = (none_since p.0, reason_since m p.1)
    changes_since key to change.Memory p = none_since p

  -- what is changed on a ticket that was drawn
  module _ (e : ℕ → Entry K V) (passed ticket : ℕ) (late : (state_of old.front.log).last < ticket) (drawn : new.drawn.numbers ≡ ticket ∷ old.drawn.numbers) where
    in_vain : new.mine ≡ mid.mine → made_on ticket (entries_of new.front.log) ≡ 0 → MakesNone old new
    in_vain same none = record { mine = same ∙ mine; none = inr (record { ticket = ticket; late = late; drawn = drawn; none = none }) }

    met_since : looked new.hidden ≡ looked old.hidden → (m : Missed) → IsMetBy t h passed ticket old.front.log new.front.log m → IsReason eq place looked t h old new m
    met_since hides (missed.Sealed w a i) r = (r, hides)
    met_since hides (missed.NodeHidden n) r = absurd r
    met_since hides (missed.ArrayHidden a) r = absurd r
    met_since hides (missed.Lost w) r = record {
      ticket = ticket;
      late = late;
      drawn = drawn;
      passed = passed;
      front = old.front.log;
      past = omega arith;
      met = r;
    }
    met_since hides (missed.Ticket n) r = absurd r
    met_since hides (missed.NoFree n) r = absurd r
    met_since hides missed.Spent r = absurd r

    pub puts_drawn : looked new.hidden ≡ looked old.hidden → (r : Put V) → PutsOn t h passed ticket (e ticket) old.front.log mid new r → Puts eq place looked t h old new (Makes old new e) (λ v. ⊥) r
    puts_drawn hides put.Done p = record {
      ticket = ticket;
      late = late;
      adds = adds_since (e ticket) old.front.log mid.front.log new.front.log begins p.0;
      drawn = drawn;
      mine = p.1 ∙ ap (λ m. ticket ∷ m.numbers) mine;
    }
    puts_drawn hides (put.There found) p = absurd p
    puts_drawn hides (put.Missed m) p = (in_vain p.0 p.1, met_since hides m p.2)
    puts_drawn hides put.Memory p = in_vain p.0 p.1

module _ {K V S H D : Type 0} (eq : K → K → Bool) (place : S → ℕ → K → ℕ) (looked : H → Hiding) (t : Table S) (h : ℕ) (old new : Seat K V S H D) where
  -- the same, said otherwise
  pub puts_as : (A B : Type 0) (P Q : V → Type 0) → (A → B) → ((v : V) → P v → Q v) → (r : Put V) →
      Puts eq place looked t h old new A P r → Puts eq place looked t h old new B Q r
  puts_as A B P Q done there put.Done p = done p
  puts_as A B P Q done there (put.There found) p = (p.0, there found p.1)
  puts_as A B P Q done there (put.Missed m) p = p
  puts_as A B P Q done there put.Memory p = p

  -- nothing stands there
  pub stands_none : (A : Type 0) (B : V → Type 0) (r : Put V) → Puts eq place looked t h old new A (λ v. ⊥) r → StandsSo B r
  stands_none A B put.Done p = tt
  stands_none A B (put.There found) p = absurd p.1
  stands_none A B (put.Missed m) p = tt
  stands_none A B put.Memory p = tt

-- what is so of a copy
pub copy_so : {V : Type 0} (holds : V → Type 0) (v : V) → holds v → (r : Standing V) → IsCopy v r → HereSo holds r
copy_so holds v so (standing.Here copy) is = subst holds (sym is) so
copy_so holds v so standing.Memory is = tt

pub copy_stands : {K V S : Type 0} (eq : K → K → Bool) (key : K) (number : ℕ) (log : List (Note K V S)) (v : V) →
    IsHere eq key number log v → (r : Standing V) → IsCopy v r → Stands eq key number log r
copy_stands eq key number log v here (standing.Here copy) is = subst (IsHere eq key number log) (sym is) here
copy_stands eq key number log v here standing.Memory is = tt

module _ {K V S H D : Type 0} (eq : K → K → Bool) (hash : S → K → ℕ) (place : S → ℕ → K → ℕ) (looked : H → Hiding) (t : Table S) (h : ℕ)
    (old new : Seat K V S H D) (begins : IsPrefix old.front.log new.front.log) (kept : IsKept eq hash place new.front.log)
    (made : AreMade old.mine.numbers (entries_of old.front.log)) where
  still : AreMade old.mine.numbers (entries_of new.front.log)
  still = made_lasts eq hash place new.front.log kept old.front.log begins old.mine.numbers made

  same_made : new.mine ≡ old.mine → AreMade new.mine.numbers (entries_of new.front.log)
  same_made e = subst (λ m. AreMade m.numbers (entries_of new.front.log)) (sym e) still

  one_made : (e : ℕ → Entry K V) → ((n : ℕ) → (e n).ticket ≡ n) → Makes old new e → AreMade new.mine.numbers (entries_of new.front.log)
  one_made e on p = subst (λ ns. AreMade ns (entries_of new.front.log)) (sym p.mine)
      (subst (λ n. made_on n (entries_of new.front.log) ≡ 1) (on p.ticket) p.adds.once, still)

  -- each of the caller's tickets has one entry still
  pub puts_made : (e : ℕ → Entry K V) → ((n : ℕ) → (e n).ticket ≡ n) → (P : V → Type 0) (r : Put V) → Puts eq place looked t h old new (Makes old new e) P r →
      AreMade new.mine.numbers (entries_of new.front.log)
  puts_made e on P put.Done p = one_made e on p
  puts_made e on P (put.There found) p = same_made p.0.0
  puts_made e on P (put.Missed m) p = same_made p.0.mine
  puts_made e on P put.Memory p = same_made p.mine

  pub inserts_made : (key : K) (value : V) (r : Put V) → Inserts eq place looked t h key value old new r → AreMade new.mine.numbers (entries_of new.front.log)
  inserts_made key value r p =
      puts_made (λ n. entry_put n key value None) (λ n. refl) (λ found. Some found ≡ option_map (λ p. p.1) (map_after eq (entries_of new.front.log) key)) r p

  for_on : (key : K) (to : Option V) (pair : K × V) (n : ℕ) → (entry_for n key to pair).ticket ≡ n
  for_on key (Some v) pair n = refl
  for_on key None pair n = refl

  pub changes_made : (key : K) (to : Option V) (r : TryChange V) → Changes eq place looked t h key to old new r →
      AreMade new.mine.numbers (entries_of new.front.log)
  changes_made key to (change.Changed former) p = one_made (λ n. entry_for n key to p.pair) (for_on key to p.pair) p.makes
  changes_made key to change.Absent p = same_made p.0.0
  changes_made key to (change.Again m) p = same_made p.0.mine
  changes_made key to change.Memory p = same_made p.mine
