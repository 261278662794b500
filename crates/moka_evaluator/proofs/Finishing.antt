-- Each round moves some query, and what is left to move gets less.
use Rattle.std.proofs.Common.{◌≡◌, ◌≢◌, ◌⊎◌, inl, inr, ◌<◌, ◌≤◌, ◌+◌, ℕ, zero, suc, ◌==◌, nat_lt, Bool, true, false, cond, ◌||◌, List, [], ◌∷◌, ◌++◌, Option, Some, None, is_some, refl, sym, ap, ◌∙◌, subst, arith}
use Rattle.std.proofs.lemmas.Bool.{eqb-true, eq-eqb, false≢true, ltb-true, ltb-false}
use Rattle.std.proofs.lemmas.List.Folds.{list_any-append}
use Rattle.moka_hist.specs.Finite.{put_at}
use Rattle.moka_evaluator.specs.Evaluator.{Evaluator, Stack, is_in, live, numbers_to}
use Rattle.moka_evaluator.specs.Finishing.{after_round, below_moves, finished, moves_left, moves_to, round, rounds, stack_moves, take_turns, to_find, to_go_on, to_operand, to_work, top_moves}
use Rattle.moka_evaluator.specs.Plain.{next_operand, with_value}
use Rattle.moka_evaluator.specs.Sound.{IsSound, LieBelow, Owns}
use Rattle.moka_evaluator.specs.Steps.{needs, off, owns_top, seeking, seeks, seeks_unknown, turned, turned_at, waits, worked_out, works}
use Rattle.moka_evaluator.specs.declared.frames.Frame.{Frame}
use Rattle.moka_evaluator.specs.declared.frames.Operands.{Operands}
use Rattle.moka_evaluator.specs.declared.frames.Operands.TheVariants.{Nothing, First, Both}
use Rattle.moka_evaluator.specs.declared.rules.Rule.{Rule}
use Rattle.moka_evaluator.specs.declared.rules.Rule.TheVariants.{Const, Add, Mul, Min, Max, If}
use Rattle.moka_evaluator.specs.declared.turns.Turned.{Turned}
use Rattle.moka_evaluator.proofs.Basics.{none_some, or_left, or_right, put_here, put_there, some_same}
use Rattle.moka_evaluator.proofs.Calling.{turned_sound}
use Rattle.moka_evaluator.proofs.Living.{its_number}
use Rattle.moka_evaluator.proofs.Stacks.{need_less, needs_is, stack_above}

-- ---- moves that are left

-- an operand of a lesser rule is found in fewer moves
find_less : (r a : ℕ) → a < r → to_find a < to_operand r
find_less zero a less = absurd (omega (arith, less))
find_less (suc n) a less = by (find_less n a) (nat_lt a n) refl
  where
    more : (x y : ℕ) → x < y → x < 3 + (y + y)
    more x y h = omega (arith, h)

    last : (y : ℕ) → 2 + (y + y) < 3 + (y + y)
    last y = omega arith

    by : (a < n → to_find a < to_operand n) → (b : Bool) → nat_lt a n ≡ b → to_find a < to_operand (suc n)
    by before true e = more (to_find a) (to_operand n) (before (ltb-true a n e))
    by before false e =
        let at_least : n ≤ a = ltb-false a n e in
        let same : n ≡ a = omega (arith, at_least, less) in
        subst (λ k. to_find k < to_operand (suc n)) same (last (to_operand n))

work_some : (r : ℕ) (operands : Operands) → 0 < to_work r operands
work_some r Nothing = some (to_operand r + to_operand r)
  where
    some : (y : ℕ) → 0 < 1 + y
    some y = omega arith
work_some r (First x) = some (to_operand r)
  where
    some : (y : ℕ) → 0 < 1 + y
    some y = omega arith
work_some r (Both x y) = omega arith

-- a frame that owns its rule has fewer moves left than one that seeks it
own_fewer : (r : ℕ) (operands : Operands) → to_work r operands < to_find r
own_fewer r Nothing = fewer (to_operand r)
  where
    fewer : (y : ℕ) → 1 + (y + y) < 2 + (y + y)
    fewer y = omega arith
own_fewer r (First x) = fewer (to_operand r)
  where
    fewer : (y : ℕ) → 1 + y < 2 + (y + y)
    fewer y = omega arith
own_fewer r (Both x y) = fewer (to_operand r)
  where
    fewer : (y : ℕ) → 1 < 2 + (y + y)
    fewer y = omega arith

-- the frame below with one more operand is on top
handed_most : (r : ℕ) (operands : Operands) (v : ℕ) → to_work r (with_value operands v) ≤ to_go_on r operands
handed_most r Nothing v = same (to_operand r)
  where
    same : (y : ℕ) → 1 + y ≤ 1 + y
    same y = omega arith
handed_most r (First x) v = omega arith
handed_most r (Both x y) v = omega arith

-- no rule needs a third operand
both_none : (rule : Rule) (x y a : ℕ) → next_operand rule (Both x y) ≡ Some a → ⊥
both_none (Const n) x y a e = none_some e
both_none (Add b c) x y a e = none_some e
both_none (Mul b c) x y a e = none_some e
both_none (Min b c) x y a e = none_some e
both_none (Max b c) x y a e = none_some e
both_none (If b c d) x y a e = none_some e

-- a frame was put on for an operand that was needed
put_on_fewer : (rule : Rule) (r a : ℕ) (operands : Operands) → next_operand rule operands ≡ Some a → a < r →
    to_find a + to_go_on r operands < to_work r operands
put_on_fewer rule r a Nothing need less = fewer (to_find a) (to_operand r) (find_less r a less)
  where
    fewer : (x y : ℕ) → x < y → x + (1 + y) < 1 + (y + y)
    fewer x y h = omega (arith, h)
put_on_fewer rule r a (First v) need less = fewer (to_find a) (to_operand r) (find_less r a less)
  where
    fewer : (x y : ℕ) → x < y → x + 1 < 1 + y
    fewer x y h = omega (arith, h)
put_on_fewer rule r a (Both v w) need less = absurd (both_none rule v w a need)

top_some : (f : Frame) → 0 < top_moves f
top_some f = by f.owns
  where
    some : (y : ℕ) → 0 < 2 + y
    some y = omega arith

    by : (b : Bool) → 0 < cond b (to_work f.rule f.operands) (to_find f.rule)
    by true = work_some f.rule f.operands
    by false = some (to_operand f.rule + to_operand f.rule)

-- ---- of all queries

moves_same : (n : ℕ) (f g : ℕ → Option Stack) → ((k : ℕ) → k ≤ n → f k ≡ g k) → moves_to n f ≡ moves_to n g
moves_same zero f g same = refl
moves_same (suc n) f g same =
    let here : f (suc n) ≡ g (suc n) = same (suc n) (omega arith) in
    let before : moves_to n f ≡ moves_to n g = moves_same n f g (λ k le. same k (omega (arith, le))) in
    λ i. before i + stack_moves (here i)

-- one of them has fewer left
moves_less : (n : ℕ) (f g : ℕ → Option Stack) (q : ℕ) → 0 < q → q ≤ n → stack_moves (f q) < stack_moves (g q) →
    ((k : ℕ) → q ≢ k → f k ≡ g k) → moves_to n f < moves_to n g
moves_less zero f g q positive le less others = absurd (omega (arith, positive, le))
moves_less (suc n) f g q positive le less others = by (moves_less n f g q positive) (q == suc n) refl
  where
    by : (q ≤ n → stack_moves (f q) < stack_moves (g q) → ((k : ℕ) → q ≢ k → f k ≡ g k) → moves_to n f < moves_to n g) →
        (b : Bool) → (q == suc n) ≡ b → moves_to (suc n) f < moves_to (suc n) g
    by before true e =
        let same : q ≡ suc n = eqb-true q (suc n) e in
        let equal : moves_to n f ≡ moves_to n g = moves_same n f g (λ k low. others k (λ is. beyond same k low is)) in
        sum_less (moves_to n f) (moves_to n g) (stack_moves (f (suc n))) (stack_moves (g (suc n))) equal
        (subst (λ k. stack_moves (f k) < stack_moves (g k)) same less)
      where
        beyond : q ≡ suc n → (k : ℕ) → k ≤ n → q ≡ k → ⊥
        beyond same k low is = omega (arith, same, low, is)

        sum_less : (x y z w : ℕ) → x ≡ y → z < w → x + z < y + w
        sum_less x y z w a b = omega (arith, a, b)
    by before false e =
        let apart : q ≢ suc n = λ is. false≢true (sym e ∙ eq-eqb q (suc n) is) in
        let fewer : moves_to n f < moves_to n g = before (within apart) less others in
        sum_less (moves_to n f) (moves_to n g) (stack_moves (f (suc n))) (stack_moves (g (suc n))) fewer
        (ap stack_moves (others (suc n) apart))
      where
        within : q ≢ suc n → q ≤ n
        within apart = omega (arith, le, apart)

        sum_less : (x y z w : ℕ) → x < y → z ≡ w → x + z < y + w
        sum_less x y z w a b = omega (arith, a, b)

-- ---- a turn

-- all but the lines is as it was
abbrev pub Kept : Evaluator → Evaluator → Type 0
Kept e after = (line : ℕ → List ℕ) × (after ≡ record e { line = line })

-- the query waits: another one owns the unknown rule that its top frame seeks
pub record Stuck (e : Evaluator) (q : ℕ) (s : Stack) : Type 0 where
  pub other : ℕ
  pub owned : e.owner s.top.rule ≡ Some other
  pub differs : (other == q) ≡ false

-- after it fewer moves are left, or the query waits
abbrev pub Goes : Evaluator → ℕ → Stack → Turned × Evaluator → Type 0
Goes e q s came = (moves_left came.1 < moves_left e) ⊎ (Stuck e q s × Kept e came.1)

module _ (e : Evaluator) (sound : IsSound e) (q : ℕ) (s : Stack) (lives : e.stack q ≡ Some s) where
  -- its stack has fewer moves left
  stack_less : (t : Option Stack) → stack_moves t < stack_moves (Some s) → moves_to e.last (put_at e.stack q t) < moves_left e
  stack_less t less =
      let number = its_number e sound q s lives in
      moves_less e.last (put_at e.stack q t) e.stack q number.0 number.1
      (subst (λ x. stack_moves x < stack_moves (e.stack q)) (sym (put_here e.stack q t))
      (subst (λ x. stack_moves t < stack_moves x) (sym lives) less))
      (λ k other. put_there e.stack q t k other)

  -- its top frame came off
  off_less : (v : ℕ) → moves_to e.last (put_at e.stack q (off s.below v).1) < moves_left e
  off_less v = stack_less (off s.below v).1 (by s.below (sound.stacks q s lives).below)
    where
      alone : (x : ℕ) → 0 < x → 0 < x + 0
      alone x h = omega (arith, h)

      more : (x y z w : ℕ) → 0 < x → y ≤ z → y + w < x + (z + w)
      more x y z w a b = omega (arith, a, b)

      by : (below : List Frame) → LieBelow e.rules e.owner q s.top.rule below →
          stack_moves (off below v).1 < top_moves s.top + below_moves below
      by [] lie = alone (top_moves s.top) (top_some s.top)
      by (f ∷ fs) lie =
          more (top_moves s.top) (top_moves (record f { operands = with_value f.operands v })) (to_go_on f.rule f.operands) (below_moves fs)
          (top_some s.top)
          (subst (λ b. cond b (to_work f.rule (with_value f.operands v)) (to_find f.rule) ≤ to_go_on f.rule f.operands) (sym lie.0.owns)
          (handed_most f.rule f.operands v))

  -- it owns the rule of its top frame
  own_less : s.top.owns ≡ false →
      moves_to e.last (put_at e.stack q (Some (record s { top = record s.top { owns = true } }))) < moves_left e
  own_less isnt = stack_less (Some (record s { top = record s.top { owns = true } }))
      (more (to_work s.top.rule s.top.operands) (to_find s.top.rule) (top_moves s.top) (below_moves s.below)
      (own_fewer s.top.rule s.top.operands)
      (ap (λ b. cond b (to_work s.top.rule s.top.operands) (to_find s.top.rule)) isnt))
    where
      more : (x y z w : ℕ) → x < y → z ≡ y → x + w < z + w
      more x y z w a b = omega (arith, a, b)

  -- a frame was put on
  push_less : (a : ℕ) → s.top.owns ≡ true → needs e.rules s.top ≡ Some a →
      moves_to e.last (put_at e.stack q (Some (record { top = seeking a; below = s.top ∷ s.below }))) < moves_left e
  push_less a owns need =
      let top = (sound.stacks q s lives).top in
      stack_less (Some (record { top = seeking a; below = s.top ∷ s.below }))
      (more (to_find a) (to_go_on s.top.rule s.top.operands) (to_work s.top.rule s.top.operands) (top_moves s.top) (below_moves s.below)
      (put_on_fewer top.rule s.top.rule a s.top.operands (sym (needs_is e.rules e.owner q s.top top) ∙ need)
      (need_less e.rules sound.acyclic e.owner q s.top top a need).1)
      (ap (λ b. cond b (to_work s.top.rule s.top.operands) (to_find s.top.rule)) owns))
    where
      more : (x y z u w : ℕ) → x + y < z → u ≡ z → x + (y + w) < u + w
      more x y z u w a b = omega (arith, a, b)

  works_goes : s.top.owns ≡ true → (x : Option ℕ) → needs e.rules s.top ≡ x → Goes e q s (works e q s x)
  works_goes owns None none = inl (off_less (worked_out e.rules s.top))
  works_goes owns (Some a) need = inl (push_less a owns need)

  seeks_goes : s.top.owns ≡ false → (x : Option ℕ) → Goes e q s (seeks e q s x)
  seeks_goes isnt (Some v) = inl (off_less v)
  seeks_goes isnt None = by (e.owner s.top.rule) refl
    where
      by : (o : Option ℕ) → e.owner s.top.rule ≡ o → Goes e q s (seeks_unknown e q s o)
      by None free = inl (own_less isnt)
      by (Some o) owned = which (o == q) refl
        where
          which : (b : Bool) → (o == q) ≡ b → Goes e q s (cond b (owns_top e q s) (waits e q s.top.rule))
          which true same = inl (own_less isnt)
          which false differs =
              inr (record { other = o; owned = owned; differs = differs }, ((waits e q s.top.rule).1.line, refl))

  pub turn_goes : Goes e q s (turned e q)
  turn_goes = subst (λ x. Goes e q s (turned_at e q x)) (sym lives) (by s.top.owns refl)
    where
      by : (b : Bool) → s.top.owns ≡ b → Goes e q s (cond b (works e q s (needs e.rules s.top)) (seeks e q s (e.known s.top.rule)))
      by true owns = works_goes owns (needs e.rules s.top) refl
      by false isnt = seeks_goes isnt (e.known s.top.rule)

-- a turn of any query
turn_any : (e : Evaluator) → IsSound e → (q : ℕ) → (moves_left (turned e q).1 < moves_left e) ⊎ Kept e (turned e q).1
turn_any e sound q = by (e.stack q) refl
  where
    kept : (s : Stack) → Goes e q s (turned e q) → (moves_left (turned e q).1 < moves_left e) ⊎ Kept e (turned e q).1
    kept s (inl less) = inl less
    kept s (inr stuck) = inr stuck.1

    by : (x : Option Stack) → e.stack q ≡ x → (moves_left (turned e q).1 < moves_left e) ⊎ Kept e (turned e q).1
    by None none = inr (e.line, ap (λ x. (turned_at e q x).1) none)
    by (Some s) lives = kept s (turn_goes e sound q s lives)

-- what lines are makes no difference to stacks
turned_lines : (e : Evaluator) (line : ℕ → List ℕ) (q : ℕ) → moves_left (turned (record e { line = line }) q).1 ≡ moves_left (turned e q).1
turned_lines e line q = by (e.stack q)
  where
    then : Evaluator
    then = record e { line = line }

    work : (s : Stack) (x : Option ℕ) → moves_left (works then q s x).1 ≡ moves_left (works e q s x).1
    work s None = refl
    work s (Some a) = refl

    own : (s : Stack) (b : Bool) → moves_left (cond b (owns_top then q s) (waits then q s.top.rule)).1 ≡ moves_left (cond b (owns_top e q s) (waits e q s.top.rule)).1
    own s true = refl
    own s false = refl

    unknown : (s : Stack) (o : Option ℕ) → moves_left (seeks_unknown then q s o).1 ≡ moves_left (seeks_unknown e q s o).1
    unknown s None = refl
    unknown s (Some o) = own s (o == q)

    seek : (s : Stack) (x : Option ℕ) → moves_left (seeks then q s x).1 ≡ moves_left (seeks e q s x).1
    seek s (Some v) = refl
    seek s None = unknown s (e.owner s.top.rule)

    turn_it : (s : Stack) (b : Bool) → moves_left (cond b (works then q s (needs e.rules s.top)) (seeks then q s (e.known s.top.rule))).1 ≡
        moves_left (cond b (works e q s (needs e.rules s.top)) (seeks e q s (e.known s.top.rule))).1
    turn_it s true = work s (needs e.rules s.top)
    turn_it s false = seek s (e.known s.top.rule)

    by : (x : Option Stack) → moves_left (turned_at then q x).1 ≡ moves_left (turned_at e q x).1
    by None = refl
    by (Some s) = turn_it s s.top.owns

-- ---- somebody moves

-- some live query does
abbrev Somebody : Evaluator → Type 0
Somebody e = (p : ℕ) × (t : Stack) × (e.stack p ≡ Some t) × (moves_left (turned e p).1 < moves_left e)

-- the query moves, or the one that owns the rule that it seeks, or one whose top frame is for a lesser
-- rule
moves_or : (e : Evaluator) → IsSound e → (q : ℕ) (s : Stack) → e.stack q ≡ Some s →
    ((o : ℕ) (t : Stack) → e.stack o ≡ Some t → t.top.rule < s.top.rule → Somebody e) → Somebody e
moves_or e sound q s lives lesser = by (turn_goes e sound q s lives)
  where
    -- the owner's top frame is for the rule, which it was passed
    owner_goes : (o : ℕ) (t : Stack) → e.owner s.top.rule ≡ Some o → e.stack o ≡ Some t → t.top.rule ≡ s.top.rule →
        Goes e o t (turned e o) → Somebody e
    owner_goes o t owned at same (inl less) = (o, t, at, less)
    owner_goes o t owned at same (inr stuck) = absurd (false≢true (sym stuck.0.differs ∙
        eq-eqb stuck.0.other o (some_same (sym stuck.0.owned ∙ ap e.owner same ∙ owned))))

    by : Goes e q s (turned e q) → Somebody e
    by (inl less) = (q, s, lives, less)
    by (inr stuck) = which (sound.owners s.top.rule stuck.0.other stuck.0.owned)
      where
        which : Owns e stuck.0.other s.top.rule → Somebody e
        which owns = at_top (nat_lt owns.stack.top.rule s.top.rule) refl
          where
            above : owns.stack.top.rule ≤ s.top.rule
            above = stack_above e.rules sound.acyclic e.owner stuck.0.other owns.stack (sound.stacks stuck.0.other owns.stack owns.is) s.top.rule owns.frame

            at_top : (b : Bool) → nat_lt owns.stack.top.rule s.top.rule ≡ b → Somebody e
            at_top true less = lesser stuck.0.other owns.stack owns.is (ltb-true owns.stack.top.rule s.top.rule less)
            at_top false isnt =
                let least : s.top.rule ≤ owns.stack.top.rule = ltb-false owns.stack.top.rule s.top.rule isnt in
                let same : owns.stack.top.rule ≡ s.top.rule = omega (arith, above, least) in
                owner_goes stuck.0.other owns.stack stuck.0.owned owns.is same (turn_goes e sound stuck.0.other owns.stack owns.is)

-- so, of lesser and lesser rules, some query moves
somebody : (e : Evaluator) → IsSound e → (n q : ℕ) (s : Stack) → e.stack q ≡ Some s → s.top.rule ≤ n → Somebody e
somebody e sound zero q s lives most =
    moves_or e sound q s lives (λ o t at less. absurd (omega (arith, most, less)))
somebody e sound (suc m) q s lives most =
    moves_or e sound q s lives (λ o t at less. somebody e sound m o t at (omega (arith, most, less)))

-- ---- rounds

pub turns_sound : (queries : List ℕ) (e : Evaluator) → IsSound e → IsSound (take_turns e queries).1
turns_sound [] e sound = sound
turns_sound (q ∷ queries) e sound = turns_sound queries (turned e q).1 (turned_sound e q sound)

kept_moves : (e after : Evaluator) → Kept e after → moves_left after ≡ moves_left e
kept_moves e after kept = ap moves_left kept.1

turns_most : (queries : List ℕ) (e : Evaluator) → IsSound e → moves_left (take_turns e queries).1 ≤ moves_left e
turns_most [] e sound = same (moves_left e)
  where
    same : (n : ℕ) → n ≤ n
    same n = omega arith
turns_most (q ∷ queries) e sound = by (turn_any e sound q) (turns_most queries (turned e q).1 (turned_sound e q sound))
  where
    below : (x y z : ℕ) → x ≤ y → y < z → x ≤ z
    below x y z a b = omega (arith, a, b)

    by : (moves_left (turned e q).1 < moves_left e) ⊎ Kept e (turned e q).1 → moves_left (take_turns e (q ∷ queries)).1 ≤ moves_left (turned e q).1 →
        moves_left (take_turns e (q ∷ queries)).1 ≤ moves_left e
    by (inl less) rest = below (moves_left (take_turns e (q ∷ queries)).1) (moves_left (turned e q).1) (moves_left e) rest less
    by (inr kept) rest = subst (λ n. moves_left (take_turns e (q ∷ queries)).1 ≤ n) (kept_moves e (turned e q).1 kept) rest

-- one of them moves
turns_less : (queries : List ℕ) (e : Evaluator) → IsSound e → (p : ℕ) → is_in p queries ≡ true → moves_left (turned e p).1 < moves_left e →
    moves_left (take_turns e queries).1 < moves_left e
turns_less [] e sound p at moves = absurd (false≢true at)
turns_less (q ∷ queries) e sound p at moves =
    by (turns_less queries (turned e q).1 (turned_sound e q sound) p) (turn_any e sound q) (q == p) refl at
  where
    rest : moves_left (take_turns e (q ∷ queries)).1 ≤ moves_left (turned e q).1
    rest = turns_most queries (turned e q).1 (turned_sound e q sound)

    below : (x y z : ℕ) → x ≤ y → y < z → x < z
    below x y z a b = omega (arith, a, b)

    by : (is_in p queries ≡ true → moves_left (turned (turned e q).1 p).1 < moves_left (turned e q).1 →
        moves_left (take_turns e (q ∷ queries)).1 < moves_left (turned e q).1) →
        (moves_left (turned e q).1 < moves_left e) ⊎ Kept e (turned e q).1 → (b : Bool) → (q == p) ≡ b → (b || is_in p queries) ≡ true →
        moves_left (take_turns e (q ∷ queries)).1 < moves_left e
    by later (inl less) b same at = below (moves_left (take_turns e (q ∷ queries)).1) (moves_left (turned e q).1) (moves_left e) rest less
    by later (inr kept) true same at =
        below (moves_left (take_turns e (q ∷ queries)).1) (moves_left (turned e q).1) (moves_left e) rest
        (subst (λ k. moves_left (turned e k).1 < moves_left e) (sym (eqb-true q p same)) moves)
    by later (inr kept) false other at =
        subst (λ n. moves_left (take_turns e (q ∷ queries)).1 < n) (kept_moves e (turned e q).1 kept)
        (later at
        (subst (λ d. moves_left (turned d p).1 < moves_left d) (sym kept.1)
        (subst (λ n. n < moves_left e) (sym (turned_lines e kept.0 p)) moves)))

-- ---- who is live

in_front : (p : ℕ) (xs ys : List ℕ) → is_in p xs ≡ true → is_in p (xs ++ ys) ≡ true
in_front p xs ys e = list_any-append (λ k. k == p) xs ys ∙ or_left (is_in p xs) (is_in p ys) e

in_back : (p : ℕ) (xs ys : List ℕ) → is_in p ys ≡ true → is_in p (xs ++ ys) ≡ true
in_back p xs ys e = list_any-append (λ k. k == p) xs ys ∙ or_right (is_in p xs) (is_in p ys) e

numbered : (n : ℕ) (test : ℕ → Bool) (p : ℕ) → 0 < p → p ≤ n → test p ≡ true → is_in p (numbers_to n test) ≡ true
numbered zero test p positive le passes = absurd (omega (arith, positive, le))
numbered (suc n) test p positive le passes = by (numbered n test p positive) (p == suc n) refl
  where
    by : (p ≤ n → test p ≡ true → is_in p (numbers_to n test) ≡ true) → (b : Bool) → (p == suc n) ≡ b → is_in p (numbers_to (suc n) test) ≡ true
    by before true e =
        let same : p ≡ suc n = eqb-true p (suc n) e in
        in_back p (numbers_to n test) (cond (test (suc n)) (suc n ∷ []) [])
        (ap (λ b. is_in p (cond b (suc n ∷ []) [])) (ap test (sym same) ∙ passes) ∙ or_left (suc n == p) false (eq-eqb (suc n) p (sym same)))
    by before false e =
        in_front p (numbers_to n test) (cond (test (suc n)) (suc n ∷ []) []) (before (within (λ is. false≢true (sym e ∙ eq-eqb p (suc n) is))) passes)
      where
        within : p ≢ suc n → p ≤ n
        within apart = omega (arith, le, apart)

some_number : (n : ℕ) (test : ℕ → Bool) → (numbers_to n test ≡ []) ⊎ ((q : ℕ) × (test q ≡ true))
some_number zero test = inl refl
some_number (suc n) test = by (some_number n test) (test (suc n)) refl
  where
    by : (numbers_to n test ≡ []) ⊎ ((q : ℕ) × (test q ≡ true)) → (b : Bool) → test (suc n) ≡ b →
        (numbers_to (suc n) test ≡ []) ⊎ ((q : ℕ) × (test q ≡ true))
    by before true e = inr (suc n, e)
    by (inr q) false e = inr q
    by (inl none) false e = inl (λ i. none i ++ cond (e i) (suc n ∷ []) [])

is_this_stack : (x : Option Stack) → is_some x ≡ true → (s : Stack) × (x ≡ Some s)
is_this_stack None e = absurd (false≢true e)
is_this_stack (Some s) e = (s, refl)

-- no query is live, or a round moves some
pub round_goes : (e : Evaluator) → IsSound e → (live e ≡ []) ⊎ (moves_left (round e).1 < moves_left e)
round_goes e sound = by (some_number e.last (λ q. is_some (e.stack q)))
  where
    same : (n : ℕ) → n ≤ n
    same n = omega arith

    by : (live e ≡ []) ⊎ ((q : ℕ) × (is_some (e.stack q) ≡ true)) → (live e ≡ []) ⊎ (moves_left (round e).1 < moves_left e)
    by (inl none) = inl none
    by (inr one) =
        let s = is_this_stack (e.stack one.0) one.1 in
        let moves = somebody e sound s.0.top.rule one.0 s.0 s.1 (same s.0.top.rule) in
        let number = its_number e sound moves.0 moves.1 moves.2 in
        inr (turns_less (live e) e sound moves.0
        (numbered e.last (λ q. is_some (e.stack q)) moves.0 number.0 number.1 (ap is_some moves.2)) moves.3)

-- ---- rounds to the end

idle : (n : ℕ) (e : Evaluator) → live e ≡ [] → rounds n e ≡ ([], e)
idle zero e none = refl
idle (suc n) e none =
    let once : round e ≡ ([], e) = ap (take_turns e) none in
    (λ i. ((once i).0 ++ (rounds n (once i).1).0, (rounds n (once i).1).1)) ∙ idle n e none

fewer : (x y n : ℕ) → x < y → y ≤ suc n → x ≤ n
fewer x y n a b = omega (arith, a, b)

none_left : (x y : ℕ) → x < y → y ≤ 0 → ⊥
none_left x y a b = omega (arith, a, b)

none_goes : (e : Evaluator) → moves_left e ≤ 0 → (live e ≡ []) ⊎ (moves_left (round e).1 < moves_left e) → live e ≡ []
none_goes e most (inl none) = none
none_goes e most (inr less) = absurd (none_left (moves_left (round e).1) (moves_left e) less most)

pub rounds_end : (n : ℕ) (e : Evaluator) → IsSound e → moves_left e ≤ n → live (rounds n e).1 ≡ []
rounds_end zero e sound most = none_goes e most (round_goes e sound)
rounds_end (suc n) e sound most = by (rounds_end n (round e).1 (turns_sound (live e) e sound)) (round_goes e sound)
  where
    by : (moves_left (round e).1 ≤ n → live (rounds n (round e).1).1 ≡ []) →
        (live e ≡ []) ⊎ (moves_left (round e).1 < moves_left e) → live (rounds (suc n) e).1 ≡ []
    by later (inl none) = ap (λ x. live x.1) (idle (suc n) e none) ∙ none
    by later (inr less) = later (fewer (moves_left (round e).1) (moves_left e) n less most)

pub rounds_sound : (n : ℕ) (e : Evaluator) → IsSound e → IsSound (rounds n e).1
rounds_sound zero e sound = sound
rounds_sound (suc n) e sound = rounds_sound n (round e).1 (turns_sound (live e) e sound)

-- further rounds change nothing
pub enough : (n k : ℕ) (e : Evaluator) → IsSound e → moves_left e ≤ n → moves_left e ≤ k → rounds n e ≡ rounds k e
enough zero k e sound a b = sym (idle k e (none_goes e a (round_goes e sound)))
enough (suc n) zero e sound a b = idle (suc n) e (none_goes e b (round_goes e sound))
enough (suc n) (suc k) e sound a b =
    by (enough n k (round e).1 (turns_sound (live e) e sound)) (round_goes e sound)
  where
    by : (moves_left (round e).1 ≤ n → moves_left (round e).1 ≤ k → rounds n (round e).1 ≡ rounds k (round e).1) →
        (live e ≡ []) ⊎ (moves_left (round e).1 < moves_left e) → rounds (suc n) e ≡ rounds (suc k) e
    by later (inl none) = idle (suc n) e none ∙ sym (idle (suc k) e none)
    by later (inr less) =
        let rest = later (fewer (moves_left (round e).1) (moves_left e) n less a) (fewer (moves_left (round e).1) (moves_left e) k less b) in
        λ i. ((round e).0 ++ (rest i).0, (rest i).1)

pub finish_ends : (e : Evaluator) → IsSound e → live (finished e).1 ≡ []
finish_ends e sound = rounds_end (moves_left e) e sound (same (moves_left e))
  where
    same : (n : ℕ) → n ≤ n
    same n = omega arith

pub finish_sound : (e : Evaluator) → IsSound e → IsSound (finished e).1
finish_sound e sound = rounds_sound (moves_left e) e sound

pub finish_none : (e : Evaluator) → live e ≡ [] → finished e ≡ ([], e)
finish_none e none = idle (moves_left e) e none

-- a round, and then the rest
pub finish_on : (e : Evaluator) → IsSound e → finished e ≡ after_round e
finish_on e sound = enough (moves_left e) (suc (moves_left (round e).1 + moves_left e)) e sound (same (moves_left e)) (more (moves_left e) (moves_left (round e).1)) ∙
    (let rest = enough (moves_left (round e).1 + moves_left e) (moves_left (round e).1) (round e).1 (turns_sound (live e) e sound)
    (also (moves_left (round e).1) (moves_left e)) (same (moves_left (round e).1)) in
    λ i. ((round e).0 ++ (rest i).0, (rest i).1))
  where
    same : (n : ℕ) → n ≤ n
    same n = omega arith

    more : (x y : ℕ) → x ≤ suc (y + x)
    more x y = omega arith

    also : (x y : ℕ) → x ≤ x + y
    also x y = omega arith
