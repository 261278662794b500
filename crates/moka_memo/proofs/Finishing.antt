-- Rounds of turns, up to the last.
use Rattle.std.proofs.Common.{◌≡◌, ◌⊎◌, inl, inr, ◌<◌, ◌≤◌, ℕ, ◌+◌, true, List, [], ◌∷◌, ◌++◌, length, take, get_or, Option, Some, None, is_some, refl, sym, ap, ◌∙◌, subst, arith, append-nil, append_assoc}
use Rattle.std.proofs.lemmas.Bool.{false≢true}
use Rattle.std.proofs.lemmas.List.{take_more}
use Rattle.moka_evaluator.specs.Evaluator.{Evaluator, Stack, live, numbers_to}
use Rattle.moka_evaluator.specs.Finishing.{after_round, answer_in, finished, moves_left, moves_to, round, take_turns}
use Rattle.moka_evaluator.specs.Sound.{IsSound}
use Rattle.moka_evaluator.specs.Steps.{turned}
use Rattle.moka_evaluator.specs.declared.answers.Answer.{Answer}
use Rattle.moka_evaluator.specs.declared.turns.Turned.{Turned}
use Rattle.moka_evaluator.proofs.Living.{its_number}
use Rattle.moka_stacks.specs.Queries.{count_of, stack_at}
use Rattle.moka_memo.specs.Memo.{IsMemo}
use Rattle.moka_memo.specs.declared.memo.Memo.{Memo}

-- ---- turns of several queries

-- one more query takes a turn
abbrev pub one_more : List Answer × Evaluator → ℕ → List Answer × Evaluator
one_more came q = (came.0 ++ answer_in q (turned came.1 q).0, (turned came.1 q).1)

turns_more : (queries : List ℕ) (e : Evaluator) (q : ℕ) → take_turns e (queries ++ q ∷ []) ≡ one_more (take_turns e queries) q
turns_more [] e q = λ i. (append-nil (answer_in q (turned e q).0) i, (turned e q).1)
turns_more (p ∷ queries) e q =
    let rest = turns_more queries (turned e p).1 q in
    (λ i. (answer_in p (turned e p).0 ++ (rest i).0, (rest i).1)) ∙
    (λ i. (
      sym (append_assoc (answer_in p (turned e p).0) (take_turns (turned e p).1 queries).0
          (answer_in q (turned (take_turns (turned e p).1 queries).1 q).0)) i,
      (turned (take_turns (turned e p).1 queries).1 q).1,
    ))

-- the answers and the memo are those of these turns
abbrev pub Came : Memo → List Answer → List Answer → List Answer × Evaluator → Type 0
Came memo before answers came = (answers ≡ before ++ came.0) × IsMemo memo came.1

-- the next one took its turn
pub next_came : (e : Evaluator) (before answers more : List Answer) (old new : Memo) (queries : List ℕ) (i d : ℕ) → i < length queries →
    Came old before answers (take_turns e (take i queries)) → (said : Turned) →
    ((f : Evaluator) → IsMemo old f → (said ≡ (turned f (get_or queries i d)).0) × IsMemo new (turned f (get_or queries i d)).1) →
    more ≡ answers ++ answer_in (get_or queries i d) said → Came new before more (take_turns e (take (i + 1) queries))
next_came e before answers more old new queries i d less came said turns pushed =
    let after = take_turns e (take i queries) in
    let q = get_or queries i d in
    let turn = turns after.1 came.1 in
    subst (Came new before more) (sym (ap (take_turns e) (take_more queries i d less) ∙ turns_more (take i queries) e q)) (
      pushed ∙ ap (λ xs. xs ++ answer_in q said) came.0 ∙ append_assoc before after.0 (answer_in q said) ∙
          ap (λ t. before ++ (after.0 ++ answer_in q t)) turn.0,
      turn.1,
    )

-- ---- rounds

-- what is to come makes the whole of the answers
abbrev pub SoFar : Memo → List Answer → Evaluator → Type 0
SoFar memo answers e =
    (d : Evaluator) × IsMemo memo d × (answers ++ (finished d).0 ≡ (finished e).0) × ((finished d).1 ≡ (finished e).1)

pub begin : (memo : Memo) (e : Evaluator) → IsMemo memo e → SoFar memo [] e
begin memo e is = (e, is, refl, refl)

pub another : (old new : Memo) (answers more : List Answer) (e : Evaluator) → ((d : Evaluator) → IsSound d → finished d ≡ after_round d) →
    SoFar old answers e → ((d : Evaluator) → IsMemo old d → Came new answers more (round d)) → SoFar new more e
another old new answers more e on so_far came =
    let d = so_far.0 in
    let is = so_far.1 in
    let goes = on d is.sound in
    let one = came d is in (
      (round d).1,
      one.1,
      ap (λ xs. xs ++ (finished (round d).1).0) one.0 ∙ append_assoc answers (round d).0 (finished (round d).1).0 ∙
          ap (λ x. answers ++ x.0) (sym goes) ∙ so_far.2,
      ap (λ x. x.1) (sym goes) ∙ so_far.3,
    )

-- what the memo has still to move
pub memo_moves : (memo : Memo) (e : Evaluator) → IsMemo memo e → moves_to memo.last (stack_at memo.queries) ≡ moves_left e
memo_moves memo e is = λ i. moves_to (is.last i) (λ q. is.stack q i)

no_length : {A : Type 0} (xs : List A) → length xs ≡ 0 → xs ≡ []
no_length [] e = refl
no_length (x ∷ xs) e = absurd (omega (arith, e))

pub fewer_moves : (old new : Memo) (d : Evaluator) → IsMemo old d → IsMemo new (round d).1 →
    ((live d ≡ []) ⊎ (moves_left (round d).1 < moves_left d)) → 0 < count_of old.queries →
    moves_to new.last (stack_at new.queries) < moves_to old.last (stack_at old.queries)
fewer_moves old new d is was (inl none) some =
    let empty : count_of old.queries ≡ 0 = is.live ∙ ap length none in absurd (omega (arith, some, empty))
fewer_moves old new d is was (inr less) some =
    subst (λ n. n < moves_to old.last (stack_at old.queries)) (sym (memo_moves new (round d).1 was))
    (subst (λ n. moves_left (round d).1 < n) (sym (memo_moves old d is)) less)

-- none is live: that were all answers
pub all_came : (memo : Memo) (answers : List Answer) (e : Evaluator) → ((d : Evaluator) → live d ≡ [] → finished d ≡ ([], d)) →
    count_of memo.queries ≡ 0 → SoFar memo answers e → (answers ≡ (finished e).0) × IsMemo memo (finished e).1
all_came memo answers e none empty so_far =
    let d = so_far.0 in
    let over = none d (no_length (live d) (sym so_far.1.live ∙ empty)) in (
      sym (append-nil answers) ∙ ap (λ x. answers ++ x.0) (sym over) ∙ so_far.2,
      subst (IsMemo memo) (ap (λ x. x.1) (sym over) ∙ so_far.3) so_far.1,
    )

-- so no query of whatever it stands for is
pub none_lives : (memo : Memo) → count_of memo.queries ≡ 0 → (e : Evaluator) → IsMemo memo e → live e ≡ []
none_lives memo empty e is = no_length (live e) (sym is.live ∙ empty)

-- the numbers of those that it keeps are those of the live queries
pub numbers_live : (memo : Memo) (e : Evaluator) → IsMemo memo e → (xs : List ℕ) →
    ((last : ℕ) → ((q : ℕ) → is_some (stack_at memo.queries q) ≡ true → (0 < q) × (q ≤ last)) →
    xs ≡ numbers_to last (λ q. is_some (stack_at memo.queries q))) → xs ≡ live e
numbers_live memo e is xs numbers = numbers e.last range ∙ (λ i. numbers_to e.last (λ q. is_some (is.stack q i)))
  where
    in_range : (q : ℕ) (x : Option Stack) → e.stack q ≡ x → is_some x ≡ true → (0 < q) × (q ≤ e.last)
    in_range q None none some = absurd (false≢true some)
    in_range q (Some s) at some = its_number e is.sound q s at

    range : (q : ℕ) → is_some (stack_at memo.queries q) ≡ true → (0 < q) × (q ≤ e.last)
    range q some = in_range q (e.stack q) refl (ap is_some (sym (is.stack q)) ∙ some)
