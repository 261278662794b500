-- What steps of rows tell.
use Rattle.std.proofs.Common.{◌≡◌, ◌≢◌, ◌==◌, ℕ, ◌<◌, ◌≤◌, Bool, true, false, List, [], ◌∷◌, ◌++◌, length, Option, Some, None, inl, inr, refl, sym, ap, subst, ◌∙◌, arith, length-append}
use Rattle.std.proofs.lemmas.Bool.{eq-eqb, false≢true}
use Rattle.std.specs.Prelude.{IsSome, is_some}
use Rattle.std.specs.List.{slice_get}
use mathlib.Core.List.{IsPrefix}
use Rattle.logbook.specs.Pages.{Book, Named, Nib, View, inked, left_with, may_make, may_write, nib, step}
use Rattle.moka_pairs.specs.Keys.{Agrees}
use Rattle.moka_history.specs.declared.note.Note.{Note}
use Rattle.moka_history.specs.States.{Plan, Row}
use Rattle.moka_history.specs.Logs.{entries_of, state_of}
use Rattle.moka_history.specs.Moving.{Added, Adds, AnnouncesArray, BringsHome, HasCell, IsBrought, IsHome, Joins, Seals, WasReady}
use Rattle.moka_history.specs.Rules.{IsFront, IsKept, IsOfArray, IsRowStill}
use Rattle.moka_history.proofs.Fronts.{lasts_now}
use Rattle.moka_history.proofs.Lists.{more_get, no_item, one_item, prefix_through}
use Rattle.moka_history.proofs.Owners.{row_is_row}
use Rattle.moka_history.proofs.Resting.{row_through}
use Rattle.moka_shared.specs.declared.answers.Missed.{Missed}
use Rattle.moka_shared.specs.declared.answers.Missed.TheVariants as missed
use Rattle.moka_shared.specs.Changes.{IsUndrawn}
use Rattle.moka_shared.specs.Links.{JoinsRow}
use Rattle.moka_shared.specs.Rows.{AreRow, HoldsTicket, IsAnnounced, IsBehind, IsOfRow, Leaves}
use Rattle.moka_shared.specs.Probing.{GoesOn, IsLogOf}
use Rattle.moka_shared.specs.Tables.{Table, word_named}
use Rattle.moka_shared.proofs.Loading.{opened_more}
use Rattle.moka_shared.proofs.Told.{was_made}

-- what there was is there still
agrees_some : {A : Type 0} (more known : ℕ → Option A) → Agrees more known → (n : ℕ) → IsSome (known n) → IsSome (more n)
agrees_some {A} more known agrees n has = by (known n) refl has
  where
    by : (o : Option A) → known n ≡ o → IsSome o → IsSome (more n)
    by None e h = absurd (false≢true h)
    by (Some a) e h = ap is_some (agrees n a e)

-- a pen that has made its word may write it
pub pen_made : (p q : Nib) (n : ℕ) → p.right ≡ may_make → q ≡ inked p n → (q ≡ nib may_write q.key n) × (q.key ≡ p.key)
pen_made p q n right is =
    let q_is : q ≡ nib may_write p.key n = is ∙ ap (λ r. nib (left_with r) p.key n) right in
    let key_is : q.key ≡ p.key = ap (λ x. x.key) q_is in
    (q_is ∙ ap (λ k. nib may_write k n) (sym key_is), key_is)

-- and that one is the book's, under the pen's key
pub word_made : (w : Named) (b made : Book) (p q : Nib) → w ≡ record { tracked = true; key = p.key; book = made } → made ≡ b → q.key ≡ p.key →
    w ≡ word_named b q.key
word_made w b made p q is book key = is ∙ (ap (λ x. word_named x p.key) book ∙ ap (λ k. word_named b k) (sym key))

module _ {K V S : Type 0} (eq : K → K → Bool) (hash : S → K → ℕ) (place : S → ℕ → K → ℕ) where
  -- a step that was made, and left the entries
  module _ (key old new found : ℕ) (ask note : Note K V S) (asks : ask ≡ note) (v w : View (Note K V S) ℕ) where
    pub leaves : (a : Added eq hash place (step key old new ask) v found w) → entries_of w.0 ≡ entries_of a.log → Leaves eq hash place key found note v.0 w.0
    leaves a same = subst (λ (n : Note K V S). Leaves eq hash place key found n v.0 w.0) asks record {
      writes = record { log = a.log; begins = a.begins; was_kept = a.was_kept; holds = a.there; more = a.more; kept = a.kept };
      entries = same;
    }

    pub was_announced : AnnouncesArray eq hash place (step key old new ask) v found w → found ≡ old → Adds eq hash place (step key old new ask) v found w
    was_announced told same = was_made _ _ (found == old) (eq-eqb found old same) told

    -- a cell that was added
    pub cell_added : Adds eq hash place (step key old new ask) v found w → HasCell w.1.0.key note (state_of w.0)
    cell_added adds = subst (λ (n : Note K V S). HasCell w.1.0.key n (state_of w.0)) asks adds.cell

    -- one that was brought home
    pub cell_brought : BringsHome eq hash place (step key old new ask) v found w → IsBrought note (state_of w.0)
    cell_brought brings = subst (λ (n : Note K V S). IsBrought n (state_of w.0)) asks brings.home

    pub was_sealed : Seals eq hash place (step key old new ask) v found w → found ≡ old → Leaves eq hash place key old note v.0 w.0
    was_sealed told same =
        let made = was_made _ _ (found == old) (eq-eqb found old same) told in
        subst (λ (n : ℕ). Leaves eq hash place key n note v.0 w.0) same (leaves made.0 made.1)

    pub was_joined : Joins eq hash place (step key old new ask) v found w → found ≡ old → old ≡ 0 → JoinsRow eq hash place key v.1.0.key note v.0 w.0
    was_joined told same none =
        let made = was_made _ _ (found == old) (eq-eqb found old same) told in
        let first : (l : Leaves eq hash place key found ask v.0 w.0) × WasReady v.1.0.key key ask (state_of l.writes.log) = (
          record {
            writes = record { log = made.added.log; begins = made.added.begins; was_kept = made.added.was_kept; holds = made.added.there; more = made.added.more; kept = made.added.kept };
            entries = made.entries;
          },
          made.ready,
        ) in
        let then = subst (λ (n : ℕ). (l : Leaves eq hash place key n note v.0 w.0) × WasReady v.1.0.key key note (state_of l.writes.log)) (same ∙ none)
        (subst (λ (n : Note K V S). (l : Leaves eq hash place key found n v.0 w.0) × WasReady v.1.0.key key n (state_of l.writes.log)) asks first) in
        record { leaves = then.0; ready = then.1 }

  pub leaves_begin : (key found : ℕ) (note : Note K V S) (old new : List (Note K V S)) → Leaves eq hash place key found note old new → IsPrefix old new
  leaves_begin key found note old new x = prefix_through old x.writes.log new x.writes.begins (note ∷ [], sym x.writes.more)

  -- a log that goes on is one of the table
  pub goes_by : (t : Table S) (old new : List (Note K V S)) → IsLogOf eq hash place t old → IsPrefix old new → IsKept eq hash place new → GoesOn eq hash place t old new
  goes_by t old new x begins kept = record {
    begins = begins;
    is_log = record { kept = kept; opened = opened_more t.segments t.size t.hasher old new x.opened begins; some = x.some };
  }

  pub leaves_go : (t : Table S) (key found : ℕ) (note : Note K V S) (old new : List (Note K V S)) → IsLogOf eq hash place t old →
      Leaves eq hash place key found note old new → GoesOn eq hash place t old new
  leaves_go t key found note old new x leaving = goes_by t old new x (leaves_begin key found note old new leaving) leaving.writes.kept

  -- what stands after a front stands after a log
  module _ (front log : List (Note K V S)) (some : 0 < length front) (begins : IsPrefix front log) (kept : IsKept eq hash place log) where
    abbrev is_front : IsFront front log
    is_front = record { some = some; begins = begins }

    pub some_more : 0 < length log
    some_more =
        let all = ap (λ l. length l) begins.1 in
        let long = length-append front begins.0 in
        omega (arith, some, all, long)

    pub row_still : (key ticket : ℕ) → IsRowStill (state_of front) key ticket true → IsRowStill (state_of log) key ticket true
    row_still key ticket = row_through eq (place kept.hasher kept.segments) (state_of front) (state_of log) (lasts_now eq hash place log kept front is_front) key ticket true

    pub home_lasts : (key : ℕ) → IsHome key front → IsHome key log
    home_lasts key (inl (inl door)) = inl (inl door)
    home_lasts key (inl (inr at)) = inl (inr (at.0, at.1, (lasts_now eq hash place log kept front is_front).arrays at.0 at.1 key at.2))
    home_lasts key (inr row) = inr (row.0, row_still key row.0 row.1)

    pub still_planned : (ticket : ℕ) → IsSome ((state_of front).plans ticket) → IsSome ((state_of log).plans ticket)
    still_planned ticket has = agrees_some (state_of log).plans (state_of front).plans (lasts_now eq hash place log kept front is_front).plans ticket has

    -- a cell that isn't home there is another than those that are home
    pub apart : (key k ticket n : ℕ) → slice_get (state_of log).cells key ≡ Some (Row ticket false) → IsRowStill (state_of front) k n true → k ≢ key
    apart key k ticket n away home same = by (row_still k n home)
      where
        by : IsRowStill (state_of log) k n true → ⊥
        by (inl (c, at, still)) =
            let is = one_item (sym at ∙ (ap (slice_get (state_of log).cells) same ∙ away)) in
            false≢true (sym (row_is_row is).1 ∙ still refl)
        by (inr (o, at, of_array, own)) = subst IsOfArray (one_item (sym at ∙ (ap (slice_get (state_of log).cells) same ∙ away))) of_array

    pub row_lasts : (b : Book) (ticket : ℕ) (words : List Named) → AreRow b ticket words front → AreRow b ticket words log
    row_lasts b ticket words are = record {
      each = λ i w at. (let x = are.each i w at in record { named = x.named; home = row_still w.key ticket x.home });
      differ = are.differ;
    }

    pub holds_ticket : (ticket : ℕ) (plan : Plan) (pen : Nib) → IsAnnounced ticket plan pen front → HoldsTicket ticket plan pen log
    holds_ticket ticket plan pen x =
        let lasts = lasts_now eq hash place log kept front is_front in
        let (b, there, home) = lasts.announced pen.key ticket false x.there in
        record { home = b; nib = x.nib; there = there; plan_is = lasts.plans ticket plan x.plan_is }

    pub holds_yet : (ticket : ℕ) (plan : Plan) (pen : Nib) → HoldsTicket ticket plan pen front → HoldsTicket ticket plan pen log
    holds_yet ticket plan pen x =
        let lasts = lasts_now eq hash place log kept front is_front in
        let (b, there, home) = lasts.announced pen.key ticket x.home x.there in
        record { home = b; nib = x.nib; there = there; plan_is = lasts.plans ticket plan x.plan_is }

    pub behind_lasts : (b : Book) (ticket : ℕ) (words : List Named) (behind : Named) → IsBehind b ticket words behind front → IsBehind b ticket words behind log
    behind_lasts b ticket words behind are = record {
      one = record { named = are.one.named; home = row_still behind.key ticket are.one.home };
      apart = are.apart;
    }

-- no words
pub no_row : {K V S : Type 0} (b : Book) (ticket : ℕ) (words : List Named) (log : List (Note K V S)) → words ≡ [] → AreRow b ticket words log
no_row b ticket words log none = record {
  each = λ i w at. absurd (no_item (sym (ap (λ ws. slice_get ws i) none) ∙ at));
  differ = λ i j v w at there same. absurd (no_item (sym (ap (λ ws. slice_get ws i) none) ∙ at));
}

-- one word more, which is none of those that there are
pub row_more : {K V S : Type 0} (b : Book) (ticket : ℕ) (words : List Named) (w : Named) (log : List (Note K V S)) → AreRow b ticket words log →
    IsOfRow b ticket w log → ((i : ℕ) (v : Named) → slice_get words i ≡ Some v → v.key ≢ w.key) → AreRow b ticket (words ++ w ∷ []) log
row_more b ticket words w log are is other = record {
  each = λ i v at. elim (more_get words w i v at) [
    | inl old ↦ are.each i v old
    | inr last ↦ subst (λ x. IsOfRow b ticket x log) (sym last.1) is
  ];
  differ = λ i j u v at there same. elim (more_get words w i u at) [
    | inl old ↦ elim (more_get words w j v there) [
      | inl old_yet ↦ are.differ i j u v old old_yet same
      | inr last ↦ absurd (other i u old (same ∙ ap (λ x. x.key) last.1))
    ]
    | inr last ↦ elim (more_get words w j v there) [
      | inl old ↦ absurd (other j v old (sym same ∙ ap (λ x. x.key) last.1))
      | inr last_yet ↦ last.0 ∙ sym last_yet.0
    ]
  ];
}

-- the first word
pub row_first : {K V S : Type 0} (b : Book) (ticket : ℕ) (words : List Named) (w : Named) (log : List (Note K V S)) → words ≡ [] → IsOfRow b ticket w log →
    AreRow b ticket (words ++ w ∷ []) log
row_first b ticket words w log none is = row_more b ticket words w log (no_row b ticket words log none) is
    (λ i v at same. absurd (no_item (sym (ap (λ ws. slice_get ws i) none) ∙ at)))

-- a word that was made after those of a row
pub row_grows : {K V S : Type 0} (eq : K → K → Bool) (hash : S → K → ℕ) (place : S → ℕ → K → ℕ) (front log : List (Note K V S)) (some : 0 < length front)
    (begins : IsPrefix front log) (kept : IsKept eq hash place log) (b : Book) (ticket : ℕ) (words : List Named) (w : Named) →
    AreRow b ticket words front → IsOfRow b ticket w log →
    ((k n : ℕ) → IsRowStill (state_of front) k n true → k ≢ w.key) → AreRow b ticket (words ++ w ∷ []) log
row_grows eq hash place front log some begins kept b ticket words w are is other =
    row_more b ticket words w log (row_lasts eq hash place front log some begins kept b ticket words are) is
    (λ i v at. other v.key ticket (are.each i v at).home)

-- and the one behind them is none of these
pub behind_grows : {K V S : Type 0} (eq : K → K → Bool) (hash : S → K → ℕ) (place : S → ℕ → K → ℕ) (front log : List (Note K V S)) (some : 0 < length front)
    (begins : IsPrefix front log) (kept : IsKept eq hash place log) (b : Book) (ticket : ℕ) (words : List Named) (behind w : Named) →
    IsBehind b ticket words behind front → ((k n : ℕ) → IsRowStill (state_of front) k n true → k ≢ w.key) → IsBehind b ticket (words ++ w ∷ []) behind log
behind_grows eq hash place front log some begins kept b ticket words behind w are other = record {
  one = (behind_lasts eq hash place front log some begins kept b ticket words behind are).one;
  apart = λ i v at same. elim (more_get words w i v at) [
    | inl old ↦ are.apart i v old same
    | inr last ↦ other behind.key ticket are.one.home (sym same ∙ ap (λ x. x.key) last.1)
  ];
}

-- why no ticket was drawn, by who had seen less
pub undrawn_since : {K V S : Type 0} (old mid new : List (Note K V S)) → (state_of old).last ≤ (state_of mid).last → (m : Missed) → IsUndrawn mid new m →
    IsUndrawn old new m
undrawn_since old mid new rises (missed.Ticket ticket) r = let late = r.0 in (omega (arith, rises, late), r.1)
undrawn_since old mid new rises missed.Spent r = r
undrawn_since old mid new rises (missed.Sealed word array index) r = absurd r
undrawn_since old mid new rises (missed.NodeHidden number) r = absurd r
undrawn_since old mid new rises (missed.ArrayHidden array) r = absurd r
undrawn_since old mid new rises (missed.Lost word) r = absurd r
undrawn_since old mid new rises (missed.NoFree count) r = absurd r
