-- An exchange that may be made is a step that can be made, whatever the book is.
use Rattle.std.proofs.Common.{◌≡◌, ◌==◌, ℕ, Bool, List, None, Option, Some, ap, cond, refl, subst, suc}
use Rattle.std.proofs.lemmas.Bool.{eq-eqb}
use Rattle.boxcar.specs.Table.{first}
use Rattle.std.specs.List.{slice_get}
use prog.Atomic.{either}
use Rattle.logbook.specs.Pages.{Moves, Nib, may_write, nib, no_nib, step}
use Rattle.moka_words.specs.Arrays.{bucket_at}
use Rattle.moka_history.specs.declared.note.Note.{Note}
use Rattle.moka_history.specs.declared.note.Note.TheVariants.{Changed, Swung}
use Rattle.moka_history.specs.Cells.{number_of}
use Rattle.moka_history.specs.States.{Ticket, no_next, root_number}
use Rattle.moka_history.specs.Logs.{state_of}
use Rattle.moka_history.specs.Rules.{Holds}
use Rattle.moka_history.specs.Keeping.{IsDivided}
use Rattle.moka_history.specs.Moving.{Copies, Joins, Seals, Swings, moved, shown}
use Rattle.moka_history.proofs.Grows.{copying_moves, linking_moves, swinging_moves}
use Rattle.moka_history.proofs.Moves.{sealing_moves}
use Rattle.moka_history.proofs.Plays.{changing_moves}
use Rattle.moka_shared.specs.declared.asked.Exchange.{Exchange}
use Rattle.moka_shared.specs.declared.asked.Seal.{Seal}
use Rattle.moka_shared.specs.declared.asked.Copying.{Copying}
use Rattle.moka_shared.specs.declared.asked.Linking.{Linking}
use Rattle.moka_shared.specs.declared.asked.Swinging.{Swinging}
use Rattle.moka_shared.specs.Asks.{copy_note, exchange_note, link_note, seal_note, swing_note}
use Rattle.moka_shared.specs.Links.{MayCopy, MayJoin}
use Rattle.moka_shared.specs.Rows.{MaySeal}
use Rattle.moka_shared.specs.Swings.{MaySwing}
use Rattle.moka_shared.specs.Steps.{ChangesOrStays, MayExchange}
use Rattle.moka_shared.proofs.Loading.{opened_some}
use Rattle.moka_shared.proofs.Staying.{moves_more}

-- a first array's word names none by 0, and a root's word names a first array by it
pub none_first : (segment : ℕ) → no_next segment (suc segment) ≡ 0
none_first segment = ap (λ b. cond b 0 1) (eq-eqb (suc segment) (suc segment) refl)

pub zero_first : (segment : ℕ) → root_number segment (suc segment) ≡ 0
zero_first segment = ap (λ b. cond b 0 (suc segment)) (eq-eqb (suc segment) (suc segment) refl)

module _ {K V S : Type 0} (eq : K → K → Bool) (hash : S → K → ℕ) (place : S → ℕ → K → ℕ) (divided : IsDivided eq hash place) where
  pub exchange_moves : (bucket from to : ℕ) (asked : Exchange) (log : List (Note K V S)) → MayExchange eq hash place bucket from to asked log →
      (pen : Nib) (home : Bool) → pen ≡ nib may_write pen.key 0 → slice_get (state_of log).cells pen.key ≡ Some (Ticket asked.ticket home) →
      (ask : Note K V S) → ask ≡ exchange_note asked → (state : Option ℕ) → state ≡ None →
      Moves (Holds eq hash place) shown moved bucket (log, (pen, state)) (λ n. either (n == from) to n)
      (ChangesOrStays eq hash place (step bucket from to ask) (log, (pen, state)))
  exchange_moves bucket from to asked log may pen home pen_is at ask ask_is state none =
      let there = subst (λ (i : ℕ). slice_get ((state_of log).arrays asked.array) i ≡ Some bucket) may.index_is may.there in
      rw (pen_is, ask_is, none, may.from_is, may.to_is, may.index_is)
      (moves_more eq hash place log (opened_some may.segments may.size may.hasher log may.opened) (nib may_write pen.key 0) refl None bucket
      (number_of may.word) (number_of asked.to) (Changed asked.ticket asked.array (bucket_at may.length_is may.call.hash may.passed) asked.to)
      (λ n. either (n == number_of may.word) (number_of asked.to) n)
      (changing_moves eq hash place divided may.segments may.size may.hasher log may.opened may.key may.call asked.array may.length_is may.passed may.word
      asked.to may.comes may.small bucket pen.key asked.ticket home there at))

  pub seal_moves : (bucket from to : ℕ) (asked : Seal) (log : List (Note K V S)) → MaySeal bucket from to asked log →
      (pen : Nib) → pen ≡ no_nib → (ask : Note K V S) → ask ≡ seal_note asked → (state : Option ℕ) → state ≡ None →
      Moves (Holds eq hash place) shown moved bucket (log, (pen, state)) (λ n. either (n == from) to n)
      (Seals eq hash place (step bucket from to ask) (log, (pen, state)))
  seal_moves bucket from to asked log may pen pen_is ask ask_is state none =
      rw (pen_is, ask_is, none, may.from_is, may.to_is, may.asked_is)
      (sealing_moves eq hash place divided log may.some may.segment asked.array asked.index bucket may.within may.rooted may.there may.word may.small may.bare)

  pub link_moves : (next : ℕ) (asked : Linking) (log : List (Note K V S)) (pen : Nib) → pen ≡ nib may_write pen.key 0 →
      MayJoin eq hash place next pen.key asked log → (ask : Note K V S) → ask ≡ link_note asked → (state : Option ℕ) → state ≡ None →
      Moves (Holds eq hash place) shown moved next (log, (pen, state)) (λ n. either (n == 0) asked.ticket n)
      (Joins eq hash place (step next 0 asked.ticket ask) (log, (pen, state)))
  link_moves next asked log pen pen_is may ask ask_is state none =
      let w = may.wants in
      rw (pen_is, ask_is, none)
      (subst (λ (z : ℕ). Moves (Holds eq hash place) shown moved next (log, (nib may_write pen.key 0, None)) (λ n. either (n == z) asked.ticket n)
      (Joins eq hash place (step next z asked.ticket (link_note asked)) (log, (nib may_write pen.key 0, None)))) (none_first asked.segment)
      (linking_moves eq hash place divided may.segments may.first may.hasher log may.opened asked.segment (suc asked.segment) w.size w.kept w.key w.call w.stands
      pen.key asked.ticket next asked.keys.numbers (first asked.behind.numbers) may.may w.count_is))

  pub copy_moves : (bucket to : ℕ) (asked : Copying) (log : List (Note K V S)) → MayCopy eq hash place bucket to asked log →
      (pen : Nib) → pen ≡ no_nib → (ask : Note K V S) → ask ≡ copy_note asked → (state : Option ℕ) → state ≡ None →
      Moves (Holds eq hash place) shown moved bucket (log, (pen, state)) (λ n. either (n == 1) to n)
      (Copies eq hash place (step bucket 1 to ask) (log, (pen, state)))
  copy_moves bucket to asked log may pen pen_is ask ask_is state none =
      let w = may.wants in
      rw (pen_is, ask_is, none, may.to_is, w.to_is)
      (copying_moves eq hash place divided may.segments may.first may.hasher log may.opened may.segment asked.array asked.index w.from w.laid w.key w.call w.stands
      bucket may.there)

  pub swing_moves : (root : ℕ) (asked : Swinging) (log : List (Note K V S)) → MaySwing eq hash place root asked log →
      (pen : Nib) → pen ≡ no_nib → (ask : Note K V S) → ask ≡ swing_note asked → (state : Option ℕ) → state ≡ None →
      Moves (Holds eq hash place) shown moved root (log, (pen, state)) (λ n. either (n == 0) asked.to n)
      (Swings eq hash place (step root 0 asked.to ask) (log, (pen, state)))
  swing_moves root asked log may pen pen_is ask ask_is state none =
      let w = may.wants in
      rw (pen_is, ask_is, none, may.from_is)
      (subst (λ (z : ℕ). Moves (Holds eq hash place) shown moved root (log, (no_nib, None)) (λ n. either (n == z) asked.to n)
      (Swings eq hash place (step root z asked.to (Swung asked.segment (suc asked.segment) asked.to)) (log, (no_nib, None)))) (zero_first asked.segment)
      (swinging_moves eq hash place divided may.segments may.first may.hasher log may.opened asked.segment (suc asked.segment) asked.to w.key w.call w.stands
      root may.number may.there))
