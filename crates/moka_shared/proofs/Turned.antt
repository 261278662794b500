-- The course of a call that chooses, and exchanges a word.
use Rattle.std.proofs.Common.{◌≡◌, ℕ, suc, Bool, true, false, List, ◌∷◌, Some, None, inl, inr, refl, sym, ap, subst, ◌∙◌}
use mathlib.Core.List.{IsPrefix}
use Rattle.moka_words.specs.declared.words.Word.{Word}
use Rattle.moka_words.specs.declared.words.Word.TheVariants.{Unset, Empty, Live, Tomb, SealedEmpty, SealedLive, SealedTomb}
use Rattle.moka_words.specs.declared.accesses.Choice.{Choice}
use Rattle.moka_words.specs.declared.accesses.Choice.TheVariants as choice
use Rattle.moka_words.specs.declared.accesses.Seen.TheVariants as seen
use Rattle.moka_words.specs.Words.{stored_in}
use Rattle.moka_words.specs.Arrays.{bucket_at}
use Rattle.moka_growth.specs.declared.kinds.CallKind.{CallKind}
use Rattle.moka_growth.specs.declared.kinds.CallKind.TheVariants as kind
use Rattle.moka_growth.specs.Calls.{Call, Changed, Choose, Change, Decided, Going, Kept, Step, chosen, missed, probed, removed}
use Rattle.moka_growth.specs.Fits.{IsOpen}
use Rattle.moka_history.specs.declared.note.Note.{Note}
use Rattle.moka_history.proofs.Lists.{one_item, prefix_self, prefix_through}
use Rattle.moka_shared.specs.declared.answers.Missed.{Missed}
use Rattle.moka_shared.specs.declared.answers.Missed.TheVariants as again
use Rattle.moka_shared.specs.declared.answers.Put.{Put}
use Rattle.moka_shared.specs.declared.answers.Put.TheVariants as put
use Rattle.moka_shared.specs.declared.answers.TryChange.{TryChange}
use Rattle.moka_shared.specs.declared.answers.TryChange.TheVariants as change
use Rattle.moka_shared.specs.declared.seat.Seat.{Seat}
use Rattle.moka_shelf.specs.Looks.{Hiding}
use Rattle.moka_shared.specs.Accesses.{ChangedSo, ChangesBy, Course, Exchanged, HasCome, IsChosen, IsOther, MissedSo, MissesBy, PutsBy, StoredSo, StoresBy, own_memory, probing}
use Rattle.moka_shared.specs.Changes.{Puts}
use Rattle.moka_shared.specs.Hashing.{segment_of}
use Rattle.moka_shared.specs.Tables.{Table}
use Rattle.moka_shared.proofs.Courses.{come_later, come_so, course_later, unchanged}
use Rattle.moka_shared.proofs.Probed.{own_at}

no_node : {n : ℕ} → None ≡ Some n → ⊥
no_node e = cc

module _ {K V S : Type 0} (t : Table S) (h passed : ℕ) (from : Word) where
  -- an exchange after what had been seen later
  pub puts_by_since : {W : Type 0} (old mid new : List (Note K V S)) → IsPrefix old mid → (r : Put W) → PutsBy t h passed from mid new r → PutsBy t h passed from old new r
  puts_by_since old mid new less put.Done p = (
    p.0,
    p.1,
    record { found = p.2.found; begins = prefix_through old mid p.2.found less p.2.begins; goes_on = p.2.goes_on; there = p.2.there; sets = p.2.sets },
  )
  puts_by_since old mid new less (put.There v) p = tt
  puts_by_since old mid new less (put.Missed (again.Lost w)) p = p
  puts_by_since old mid new less (put.Missed (again.Sealed w a i)) p = tt
  puts_by_since old mid new less (put.Missed (again.NodeHidden n)) p = tt
  puts_by_since old mid new less (put.Missed (again.ArrayHidden n)) p = tt
  puts_by_since old mid new less (put.Missed (again.Ticket n)) p = tt
  puts_by_since old mid new less (put.Missed (again.NoFree n)) p = tt
  puts_by_since old mid new less (put.Missed again.Spent) p = tt
  puts_by_since old mid new less put.Memory p = tt

  -- of a word that stores nothing
  pub stores_by : {W H D : Type 0} (eq : K → K → Bool) (place : S → ℕ → K → ℕ) (looked : H → Hiding) (before after : Seat K W S H D) (A : Type 0)
      (old new : List (Note K V S)) → stored_in from ≡ None → (r : Put W) → Puts eq place looked t h before after A (λ v. ⊥) r → PutsBy t h passed from old new r →
      StoresBy t h passed from old new r
  stores_by eq place looked before after A old new none put.Done so p = (p, none)
  stores_by eq place looked before after A old new none (put.There v) so p = absurd so.1
  stores_by eq place looked before after A old new none (put.Missed m) so p = (p, none)
  stores_by eq place looked before after A old new none put.Memory so p = tt

module _ {K V S : Type 0} (eq : K → K → Bool) (hash : S → K → ℕ) (place : S → ℕ → K → ℕ) (t : Table S) (key : K) (h passed : ℕ)
    (seg_is : segment_of t.segments h ≡ own_at place t key) (word : Word) (known : ℕ → Bool) (opens : IsOpen known word)
    (old mid new : List (Note K V S)) (begins : IsPrefix mid new) where
  abbrev index : ℕ
  index = bucket_at t.size h passed

  module _ (k : CallKind) where
    abbrev choosing : Call
    choosing = record { kind = k; hash = h; spent = false; point = Choose (suc (own_at place t key)) t.size passed word }

    abbrev changing : Word → Call
    changing to = record { kind = k; hash = h; spent = false; point = Change (suc (own_at place t key)) t.size passed word to }

    -- what is chosen, at the memory of the load
    chooses : (answer : Choice) → HasCome eq hash place t key k h old mid (λ step. step ≡ Going choosing) →
        HasCome eq hash place t key k h old mid (λ step. step ≡ chosen choosing (suc (own_at place t key)) t.size passed word answer)
    chooses answer come = record {
      accesses = record { found = mid; saw = seen.Chosen answer; left = mid } ∷ come.accesses;
      step = chosen choosing (suc (own_at place t key)) t.size passed word answer;
      course = (
        choosing,
        subst (λ s. Course eq hash place t key k h old come.accesses s mid) come.is come.course,
        record { goes_on = prefix_self mid; effect = λ keys agrees. unchanged (own_memory eq hash place t key mid) },
        refl,
        prefix_self mid,
      );
      is = refl;
    }

    removes : (n : ℕ) → stored_in word ≡ Some n → (w : Word) → word ≡ w → IsOpen known w →
        chosen choosing (suc (own_at place t key)) t.size passed word choice.Remove ≡ Going (changing (Tomb n))
    removes n stored Unset is unsealed = absurd unsealed
    removes n stored Empty is unsealed = absurd (no_node (ap stored_in (sym is) ∙ stored))
    removes n stored (Live m) is unsealed =
        let same : m ≡ n = one_item (ap stored_in (sym is) ∙ stored) in
        subst (λ w. removed choosing (suc (own_at place t key)) t.size passed w ≡ Going (changing (Tomb n))) (sym is)
        (subst (λ w. Going (record choosing { point = Change (suc (own_at place t key)) t.size passed (Live m) (Tomb m) })
        ≡ Going (record choosing { point = Change (suc (own_at place t key)) t.size passed w (Tomb n) })) (sym is)
        (ap (λ i. Going (record choosing { point = Change (suc (own_at place t key)) t.size passed (Live m) (Tomb i) })) same))
    removes n stored (Tomb m) is unsealed = absurd (no_node (ap stored_in (sym is) ∙ stored))
    removes n stored SealedEmpty is unsealed = absurd unsealed
    removes n stored (SealedLive m) is unsealed = absurd unsealed
    removes n stored (SealedTomb m) is unsealed = absurd unsealed

    to_change : (to : Word) → IsChosen word to → HasCome eq hash place t key k h old mid (λ step. step ≡ Going choosing) →
        HasCome eq hash place t key k h old mid (λ step. step ≡ Going (changing to))
    to_change to is come = elim is [
      | inl put ↦ come_so eq hash place t key k h old mid _ (λ step. step ≡ Going (changing to)) (λ step e. e ∙ ap (λ w. Going (changing w)) (sym put.1)) (chooses (choice.Put put.0) come)
      | inr gone ↦ come_so eq hash place t key k h old mid _ (λ step. step ≡ Going (changing to))
          (λ step e. e ∙ (removes gone.0 gone.1 word refl opens ∙ ap (λ w. Going (changing w)) (sym gone.2))) (chooses choice.Remove come)
    ]

    exchanges : (to : Word) → HasCome eq hash place t key k h old mid (λ step. step ≡ Going (changing to)) →
        Exchanged (segment_of t.segments h) index word to mid new → HasCome eq hash place t key k h old new (λ step. step ≡ Decided (Changed (stored_in word)))
    exchanges to come there =
        let made = subst (λ s. Exchanged s index word to mid new) seg_is there in
        record {
          accesses = record { found = made.found; saw = seen.Exchanged None; left = new } ∷ come.accesses;
          step = Decided (Changed (stored_in word));
          course = (
            changing to,
            course_later eq hash place t key k h come.accesses (Going (changing to)) old mid made.found made.begins
                (subst (λ s. Course eq hash place t key k h old come.accesses s mid) come.is come.course),
            record { goes_on = made.goes_on; effect = λ keys agrees. (made.there, made.sets) },
            refl,
            prefix_self new,
          );
          is = refl;
        }

    meets : (to met : Word) → HasCome eq hash place t key k h old mid (λ step. step ≡ Going (changing to)) →
        IsOther (segment_of t.segments h) index word met new →
        HasCome eq hash place t key k h old new (MissedSo t.size (own_at place t key) (again.Lost met))
    meets to met come there =
        let other = subst (λ s. IsOther s index word met new) seg_is there in
        record {
          accesses = record { found = new; saw = seen.Exchanged (Some met); left = new } ∷ come.accesses;
          step = missed (changing to) (suc (own_at place t key)) t.size passed met;
          course = (
            changing to,
            course_later eq hash place t key k h come.accesses (Going (changing to)) old mid new begins
                (subst (λ s. Course eq hash place t key k h old come.accesses s mid) come.is come.course),
            record { goes_on = prefix_self new; effect = λ keys agrees. (sym other.there, other.other, unchanged (own_memory eq hash place t key new)) },
            refl,
            prefix_self new,
          );
          is = (changing to, passed, refl);
        }

    -- a pass that breaks its call off
    breaks : (such : Step → Type 0) → HasCome eq hash place t key k h old mid such → HasCome eq hash place t key k h old new (λ step. Unit {0})
    breaks such come = come_so eq hash place t key k h old new such (λ step. Unit {0}) (λ step is. tt) (come_later eq hash place t key k h old mid new such begins come)

    misses : HasCome eq hash place t key k h old mid (λ step. step ≡ Going choosing) → (m : Missed) → MissesBy t h passed word mid new m →
        HasCome eq hash place t key k h old new (MissedSo t.size (own_at place t key) m)
    misses come (again.Lost met) p = meets p.0 met (to_change p.0 p.1 come) p.2
    misses come (again.Sealed w a i) p = breaks _ come
    misses come (again.NodeHidden n) p = breaks _ come
    misses come (again.ArrayHidden n) p = breaks _ come
    misses come (again.Ticket n) p = breaks _ come
    misses come (again.NoFree n) p = breaks _ come
    misses come again.Spent p = breaks _ come

  -- an insert asks what is to be done, and so does a change where a node is stored
  insert_asks : (w : Word) → IsOpen known w → probed (probing t.size (own_at place t key) kind.Insert h passed) (suc (own_at place t key)) t.size passed w true
      ≡ Going (record { kind = kind.Insert; hash = h; spent = false; point = Choose (suc (own_at place t key)) t.size passed w })
  insert_asks Unset o = absurd o
  insert_asks Empty o = refl
  insert_asks (Live n) o = refl
  insert_asks (Tomb n) o = refl
  insert_asks SealedEmpty o = absurd o
  insert_asks (SealedLive n) o = absurd o
  insert_asks (SealedTomb n) o = absurd o

  change_asks : (w : Word) (n : ℕ) → stored_in w ≡ Some n → IsOpen known w →
      probed (probing t.size (own_at place t key) kind.Remove h passed) (suc (own_at place t key)) t.size passed w true
      ≡ Going (record { kind = kind.Remove; hash = h; spent = false; point = Choose (suc (own_at place t key)) t.size passed w })
  change_asks Unset n stored o = absurd o
  change_asks Empty n stored o = absurd (no_node stored)
  change_asks (Live m) n stored o = refl
  change_asks (Tomb m) n stored o = absurd (no_node stored)
  change_asks SealedEmpty n stored o = absurd o
  change_asks (SealedLive m) n stored o = absurd o
  change_asks (SealedTomb m) n stored o = absurd o

  change_finds_none : (w : Word) → stored_in w ≡ None → IsOpen known w →
      probed (probing t.size (own_at place t key) kind.Remove h passed) (suc (own_at place t key)) t.size passed w true ≡ Decided (Kept None)
  change_finds_none Unset none o = absurd o
  change_finds_none Empty none o = refl
  change_finds_none (Live m) none o = absurd (no_node (sym none))
  change_finds_none (Tomb m) none o = refl
  change_finds_none SealedEmpty none o = absurd o
  change_finds_none (SealedLive m) none o = absurd o
  change_finds_none (SealedTomb m) none o = absurd o

  abbrev Ended : CallKind → Step → Type 0
  Ended k step = step ≡ probed (probing t.size (own_at place t key) k h passed) (suc (own_at place t key)) t.size passed word true

  insert_stands : HasCome eq hash place t key kind.Insert h old mid (Ended kind.Insert) →
      HasCome eq hash place t key kind.Insert h old mid (λ step. step ≡ Going (choosing kind.Insert))
  insert_stands come =
      come_so eq hash place t key kind.Insert h old mid (Ended kind.Insert) (λ step. step ≡ Going (choosing kind.Insert)) (λ step is. is ∙ insert_asks word opens) come

  change_stands : (n : ℕ) → stored_in word ≡ Some n → HasCome eq hash place t key kind.Remove h old mid (Ended kind.Remove) →
      HasCome eq hash place t key kind.Remove h old mid (λ step. step ≡ Going (choosing kind.Remove))
  change_stands n stored come =
      come_so eq hash place t key kind.Remove h old mid (Ended kind.Remove) (λ step. step ≡ Going (choosing kind.Remove))
      (λ step is. is ∙ change_asks word n stored opens) come

  pub insert_course : {W : Type 0} → HasCome eq hash place t key kind.Insert h old mid (Ended kind.Insert) → (r : Put W) → StoresBy t h passed word mid new r →
      HasCome eq hash place t key kind.Insert h old new (StoredSo t.size (own_at place t key) r)
  insert_course come put.Done p =
      come_so eq hash place t key kind.Insert h old new (λ step. step ≡ Decided (Changed (stored_in word))) (λ step. step ≡ Decided (Changed None))
      (λ step is. is ∙ ap (λ o. Decided (Changed o)) p.1)
      (exchanges kind.Insert p.0.0 (to_change kind.Insert p.0.0 p.0.1 (insert_stands come)) p.0.2)
  insert_course come (put.There v) p =
      come_later eq hash place t key kind.Insert h old mid new (λ step. (n : ℕ) × (step ≡ Decided (Kept (Some n)))) begins
      (come_so eq hash place t key kind.Insert h old mid (λ step. step ≡ Decided (Kept (stored_in word))) (λ step. (n : ℕ) × (step ≡ Decided (Kept (Some n))))
      (λ step is. (p.0, is ∙ ap (λ o. Decided (Kept o)) p.1)) (chooses kind.Insert choice.Keep (insert_stands come)))
  insert_course come (put.Missed m) p = misses kind.Insert (insert_stands come) m p.0
  insert_course come put.Memory p = breaks kind.Insert (Ended kind.Insert) come

  pub change_course : {W : Type 0} → HasCome eq hash place t key kind.Remove h old mid (Ended kind.Remove) → (r : TryChange W) → ChangesBy t h passed word mid new r →
      HasCome eq hash place t key kind.Remove h old new (ChangedSo t.size (own_at place t key) r)
  change_course come (change.Changed former) p =
      come_so eq hash place t key kind.Remove h old new (λ step. step ≡ Decided (Changed (stored_in word))) (λ step. (n : ℕ) × (step ≡ Decided (Changed (Some n))))
      (λ step is. (p.1.0, is ∙ ap (λ o. Decided (Changed o)) p.1.1))
      (exchanges kind.Remove p.0.0 (to_change kind.Remove p.0.0 p.0.1 (change_stands p.1.0 p.1.1 come)) p.0.2)
  change_course come change.Absent p =
      come_later eq hash place t key kind.Remove h old mid new (λ step. step ≡ Decided (Kept None)) begins
      (come_so eq hash place t key kind.Remove h old mid (Ended kind.Remove) (λ step. step ≡ Decided (Kept None)) (λ step is. is ∙ change_finds_none word p opens) come)
  change_course come (change.Again m) p = misses kind.Remove (change_stands p.1.0 p.1.1 come) m p.0
  change_course come change.Memory p = breaks kind.Remove (Ended kind.Remove) come
