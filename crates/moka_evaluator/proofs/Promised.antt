-- What a user of an evaluator is promised.
use Rattle.std.proofs.Common.{◌≡◌, ◌<◌, ◌≤◌, ◌+◌, ℕ, suc, ◌==◌, nat_lt, Bool, true, false, cond, ◌&&◌, ◌||◌, List, [], ◌∷◌, filter, length, Option, Some, None, is_some, refl, sym, ap, ◌∙◌, arith}
use Rattle.std.proofs.lemmas.Bool.{eqb-true, false≢true}
use Rattle.std.specs.List.{list_any}
use Rattle.moka_hist.specs.Finite.{put_at}
use Rattle.moka_evaluator.specs.Evaluator.{Evaluator, Stack, live}
use Rattle.moka_evaluator.specs.Laws.{AnswersArePlain, InOneFrame, KnownStays, OneEvaluates, OthersStay, RuleStays, StaysKnown, asked_for, evaluates, lowest}
use Rattle.moka_evaluator.specs.Plain.{plain, rule_at}
use Rattle.moka_evaluator.specs.Sound.{IsSound, IsStack, LieBelow}
use Rattle.moka_evaluator.specs.Steps.{asked, dropped, just, let_go, line_after, most_live, needs, off, owns_top, passed, seeking, seeks, seeks_unknown, turned, turned_at, waits, worked_out, works}
use Rattle.moka_evaluator.specs.declared.frames.Frame.{Frame}
use Rattle.moka_evaluator.specs.declared.rules.Rule.{Rule}
use Rattle.moka_evaluator.specs.declared.turns.Turned.TheVariants as turn
use Rattle.moka_evaluator.proofs.Basics.{none_some, put_here, put_there, some_same}
use Rattle.moka_evaluator.proofs.Calling.{asked_sound, dropped_sound, turned_sound}
use Rattle.moka_evaluator.proofs.Stacks.{below_above, worked_plain}

value_same : {v w : ℕ} → turn.Value v ≡ turn.Value w → v ≡ w
value_same e = cc

moved_not : {v : ℕ} → turn.Moved ≡ turn.Value v → ⊥
moved_not e = cc

waits_not : {r v : ℕ} → turn.Waits r ≡ turn.Value v → ⊥
waits_not e = cc

no_query : {v : ℕ} → turn.NoQuery ≡ turn.Value v → ⊥
no_query e = cc

-- what comes off with a value and leaves no frame is the answer
off_answers : (rules : List Rule) (r w v : ℕ) (below : List Frame) → w ≡ plain rules r → (off below w).0 ≡ turn.Value v →
    v ≡ plain rules (lowest r below)
off_answers rules r w v [] worth e = sym (value_same e) ∙ worth
off_answers rules r w v (f ∷ fs) worth e = absurd (moved_not e)

module _ (e : Evaluator) (sound : IsSound e) (q : ℕ) (s : Stack) (is : e.stack q ≡ Some s) where
  seeks_plain : (x : Option ℕ) → e.known s.top.rule ≡ x → (v : ℕ) → (seeks e q s x).0 ≡ turn.Value v →
      v ≡ plain e.rules (asked_for s)
  seeks_plain (Some w) known v says = off_answers e.rules s.top.rule w v s.below (sound.plain s.top.rule w known) says
  seeks_plain None unknown v says = by (e.owner s.top.rule) says
    where
      by : (o : Option ℕ) → (seeks_unknown e q s o).0 ≡ turn.Value v → v ≡ plain e.rules (asked_for s)
      by None says = absurd (moved_not says)
      by (Some o) says = which (o == q) says
        where
          which : (b : Bool) → (cond b (owns_top e q s) (waits e q s.top.rule)).0 ≡ turn.Value v → v ≡ plain e.rules (asked_for s)
          which true says = absurd (moved_not says)
          which false says = absurd (waits_not says)

  works_plain : (x : Option ℕ) → needs e.rules s.top ≡ x → (v : ℕ) → (works e q s x).0 ≡ turn.Value v →
      v ≡ plain e.rules (asked_for s)
  works_plain (Some a) need v says = absurd (moved_not says)
  works_plain None none v says =
      off_answers e.rules s.top.rule (worked_out e.rules s.top) v s.below
      (worked_plain e.rules sound.acyclic e.owner q s.top (sound.stacks q s is).top none) says

  turns_plain : (v : ℕ) → (turned_at e q (Some s)).0 ≡ turn.Value v → v ≡ plain e.rules (asked_for s)
  turns_plain v says = by s.top.owns says
    where
      by : (b : Bool) → (cond b (works e q s (needs e.rules s.top)) (seeks e q s (e.known s.top.rule))).0 ≡ turn.Value v →
          v ≡ plain e.rules (asked_for s)
      by true says = works_plain (needs e.rules s.top) refl v says
      by false says = seeks_plain (e.known s.top.rule) refl v says

  -- ---- the rule that it was asked for

  -- what is put there is found there
  put_found : (x : Option Stack) (t : Stack) → put_at e.stack q x q ≡ Some t → x ≡ Some t
  put_found x t at = sym (put_here e.stack q x) ∙ at

  off_rule : (r w : ℕ) (below : List Frame) (t : Stack) → (off below w).1 ≡ Some t → asked_for t ≡ lowest r below
  off_rule r w [] t left = absurd (none_some left)
  off_rule r w (f ∷ fs) t left = ap asked_for (sym (some_same left))

  seeks_rule : (x : Option ℕ) (t : Stack) → (seeks e q s x).1.stack q ≡ Some t → asked_for t ≡ asked_for s
  seeks_rule (Some w) t at = off_rule s.top.rule w s.below t (put_found (off s.below w).1 t at)
  seeks_rule None t at = by (e.owner s.top.rule) at
    where
      own : (owns_top e q s).1.stack q ≡ Some t → asked_for t ≡ asked_for s
      own at = ap asked_for (sym (some_same (put_found (Some (record s { top = record s.top { owns = true } })) t at)))

      by : (o : Option ℕ) → (seeks_unknown e q s o).1.stack q ≡ Some t → asked_for t ≡ asked_for s
      by None at = own at
      by (Some o) at = which (o == q) at
        where
          which : (b : Bool) → (cond b (owns_top e q s) (waits e q s.top.rule)).1.stack q ≡ Some t → asked_for t ≡ asked_for s
          which true at = own at
          which false at = ap asked_for (some_same (sym at ∙ is))

  works_rule : (x : Option ℕ) (t : Stack) → (works e q s x).1.stack q ≡ Some t → asked_for t ≡ asked_for s
  works_rule (Some a) t at =
      ap asked_for (sym (some_same (put_found (Some (record { top = seeking a; below = s.top ∷ s.below })) t at)))
  works_rule None t at = off_rule s.top.rule (worked_out e.rules s.top) s.below t (put_found (off s.below (worked_out e.rules s.top)).1 t at)

  turns_rule : (t : Stack) → (turned_at e q (Some s)).1.stack q ≡ Some t → asked_for t ≡ asked_for s
  turns_rule t at = by s.top.owns at
    where
      by : (b : Bool) → (cond b (works e q s (needs e.rules s.top)) (seeks e q s (e.known s.top.rule))).1.stack q ≡ Some t →
          asked_for t ≡ asked_for s
      by true at = works_rule (needs e.rules s.top) t at
      by false at = seeks_rule (e.known s.top.rule) t at

pub answers_plain : AnswersArePlain
answers_plain e q s v sound is says = turns_plain e sound q s is v (ap (λ x. (turned_at e q x).0) (sym is) ∙ says)

pub rule_stays : RuleStays
rule_stays e q s t sound is at = turns_rule e sound q s is t (ap (λ x. (turned_at e q x).1.stack q) (sym is) ∙ at)

-- ---- the others

pub others_stay : OthersStay
others_stay e p q other = by (e.stack q)
  where
    put_other : (t : Option Stack) → put_at e.stack q t p ≡ e.stack p
    put_other t = put_there e.stack q t p other

    own : (s : Stack) (b : Bool) → (cond b (owns_top e q s) (waits e q s.top.rule)).1.stack p ≡ e.stack p
    own s true = put_other (Some (record s { top = record s.top { owns = true } }))
    own s false = refl

    unknown : (s : Stack) (o : Option ℕ) → (seeks_unknown e q s o).1.stack p ≡ e.stack p
    unknown s None = put_other (Some (record s { top = record s.top { owns = true } }))
    unknown s (Some o) = own s (o == q)

    seek : (s : Stack) (x : Option ℕ) → (seeks e q s x).1.stack p ≡ e.stack p
    seek s (Some w) = put_other (off s.below w).1
    seek s None = unknown s (e.owner s.top.rule)

    work : (s : Stack) (x : Option ℕ) → (works e q s x).1.stack p ≡ e.stack p
    work s (Some a) = put_other (Some (record { top = seeking a; below = s.top ∷ s.below }))
    work s None = put_other (off s.below (worked_out e.rules s.top)).1

    turn_it : (s : Stack) (b : Bool) → (cond b (works e q s (needs e.rules s.top)) (seeks e q s (e.known s.top.rule))).1.stack p ≡ e.stack p
    turn_it s true = work s (needs e.rules s.top)
    turn_it s false = seek s (e.known s.top.rule)

    by : (x : Option Stack) → (turned_at e q x).1.stack p ≡ e.stack p
    by None = refl
    by (Some s) = turn_it s s.top.owns

-- ---- known values

module _ (e : Evaluator) (sound : IsSound e) (r v : ℕ) (known : e.known r ≡ Some v) where
  asked_known : (x : ℕ) → (asked e x).1.known r ≡ Some v
  asked_known x = by (is_some (rule_at e.rules x) && nat_lt (length (live e)) most_live)
    where
      by : (b : Bool) → (cond {A = Option ℕ × Evaluator} b
          (Some (e.last + 1), record e { stack = put_at e.stack (e.last + 1) (Some (just x)); last = e.last + 1 }) (None, e)).1.known r ≡ Some v
      by true = known
      by false = known

  module _ (q : ℕ) (s : Stack) (is : e.stack q ≡ Some s) where
    own_known : (b : Bool) → (cond b (owns_top e q s) (waits e q s.top.rule)).1.known r ≡ Some v
    own_known true = known
    own_known false = known

    unknown_known : (o : Option ℕ) → (seeks_unknown e q s o).1.known r ≡ Some v
    unknown_known None = known
    unknown_known (Some o) = own_known (o == q)

    seek_known : (x : Option ℕ) → (seeks e q s x).1.known r ≡ Some v
    seek_known (Some w) = known
    seek_known None = unknown_known (e.owner s.top.rule)

    -- a rule whose frame owns it isn't known yet
    work_known : s.top.owns ≡ true → (x : Option ℕ) → (works e q s x).1.known r ≡ Some v
    work_known owns (Some a) = known
    work_known owns None = put_there e.known s.top.rule (Some (worked_out e.rules s.top)) r (λ same. none_some
        (sym (sound.closed r v known) ∙ ap e.owner (sym same) ∙ (sound.stacks q s is).top.owned owns)) ∙ known

    turn_known : (b : Bool) → s.top.owns ≡ b →
        (cond b (works e q s (needs e.rules s.top)) (seeks e q s (e.known s.top.rule))).1.known r ≡ Some v
    turn_known true owns = work_known owns (needs e.rules s.top)
    turn_known false seeks_it = seek_known (e.known s.top.rule)

  turned_known : (q : ℕ) (x : Option Stack) → e.stack q ≡ x → (turned_at e q x).1.known r ≡ Some v
  turned_known q None none = known
  turned_known q (Some s) is = turn_known q s is s.top.owns refl

  dropped_known : (q : ℕ) → (dropped e q).1.known r ≡ Some v
  dropped_known q = by (is_some (e.stack q))
    where
      by : (b : Bool) → (cond {A = Bool × Evaluator} b (true, let_go e q (passed e q) (line_after e q)) (false, e)).1.known r ≡ Some v
      by true = known
      by false = known

pub known_closed : (e : Evaluator) → IsSound e → (r v : ℕ) → e.known r ≡ Some v → StaysKnown e r v
known_closed e sound r v known = record { known = known; closed = sound.closed r v known }

pub known_stays : KnownStays
known_stays e r v x sound known = (
  known_closed (asked e x).1 (asked_sound e x sound) r v (asked_known e sound r v known x),
  known_closed (turned e x).1 (turned_sound e x sound) r v (turned_known e sound r v known x (e.stack x) refl),
  known_closed (dropped e x).1 (dropped_sound e x sound) r v (dropped_known e sound r v known x),
)

-- ---- one evaluates

and_both : (a b : Bool) → (a && b) ≡ true → (a ≡ true) × (b ≡ true)
and_both true b e = (refl, e)
and_both false b e = absurd (false≢true e)

owns_below : (rules : List Rule) (owner : ℕ → Option ℕ) (q above r : ℕ) (fs : List Frame) → LieBelow rules owner q above fs →
    list_any (λ f. f.owns && f.rule == r) fs ≡ true → owner r ≡ Some q
owns_below rules owner q above r [] lie e = absurd (false≢true e)
owns_below rules owner q above r (f ∷ fs) lie e =
    by (owns_below rules owner q f.rule r fs lie.1) (f.owns && f.rule == r) refl e
  where
    by : (list_any (λ f. f.owns && f.rule == r) fs ≡ true → owner r ≡ Some q) → (b : Bool) → (f.owns && f.rule == r) ≡ b →
        (b || list_any (λ f. f.owns && f.rule == r) fs) ≡ true → owner r ≡ Some q
    by more true here e = let both = and_both f.owns (f.rule == r) here in
        ap owner (sym (eqb-true f.rule r both.1)) ∙ lie.0.frame.owned both.0
    by more false here e = more e

pub evaluates_owned : (rules : List Rule) (owner : ℕ → Option ℕ) (q r : ℕ) (s : Stack) → IsStack rules owner q s → evaluates s r ≡ true →
    owner r ≡ Some q
evaluates_owned rules owner q r s stack e = by (s.top.owns && s.top.rule == r) refl e
  where
    by : (b : Bool) → (s.top.owns && s.top.rule == r) ≡ b → (b || list_any (λ f. f.owns && f.rule == r) s.below) ≡ true → owner r ≡ Some q
    by true here e = let both = and_both s.top.owns (s.top.rule == r) here in
        ap owner (sym (eqb-true s.top.rule r both.1)) ∙ stack.top.owned both.0
    by false here e = owns_below rules owner q s.top.rule r s.below stack.below e

pub one_evaluates : OneEvaluates
one_evaluates e p q r s t sound here there own too =
    some_same (sym (evaluates_owned e.rules e.owner p r s (sound.stacks p s here) own) ∙
    evaluates_owned e.rules e.owner q r t (sound.stacks q t there) too)

-- no frame is for a rule that none is for
none_filtered : (r : ℕ) (fs : List Frame) → list_any (λ f. f.rule == r) fs ≡ false → length (filter (λ f. f.rule == r) fs) ≡ 0
none_filtered r [] e = refl
none_filtered r (f ∷ fs) e = by (none_filtered r fs) (f.rule == r) refl e
  where
    by : (list_any (λ f. f.rule == r) fs ≡ false → length (filter (λ f. f.rule == r) fs) ≡ 0) → (b : Bool) → (f.rule == r) ≡ b →
        (b || list_any (λ f. f.rule == r) fs) ≡ false → length (cond b (f ∷ filter (λ f. f.rule == r) fs) (filter (λ f. f.rule == r) fs)) ≡ 0
    by more true here e = absurd (false≢true (sym e))
    by more false here e = more e

module _ (e : Evaluator) (sound : IsSound e) (q r : ℕ) where
  -- the frames below are of greater rules, each of another one
  below_once : (above : ℕ) (fs : List Frame) → LieBelow e.rules e.owner q above fs → length (filter (λ f. f.rule == r) fs) ≤ 1
  below_once above [] lie = omega arith
  below_once above (f ∷ fs) lie = by (below_once f.rule fs lie.1) (f.rule == r) refl
    where
      others : f.rule ≡ r → (b : Bool) → list_any (λ g. g.rule == r) fs ≡ b → b ≡ false
      others same true more =
          let less : f.rule < r = below_above e.rules sound.acyclic e.owner q f.rule fs lie.1 r more in absurd (omega (arith, less, same))
      others same false more = refl

      by : length (filter (λ f. f.rule == r) fs) ≤ 1 → (b : Bool) → (f.rule == r) ≡ b →
          length (cond b (f ∷ filter (λ f. f.rule == r) fs) (filter (λ f. f.rule == r) fs)) ≤ 1
      by rest true here =
          let none : length (filter (λ f. f.rule == r) fs) ≡ 0 =
          none_filtered r fs (others (eqb-true f.rule r here) (list_any (λ g. g.rule == r) fs) refl) in
          one_more (length (filter (λ f. f.rule == r) fs)) none
        where
          one_more : (n : ℕ) → n ≡ 0 → suc n ≤ 1
          one_more n e = omega (arith, e)
      by rest false here = rest

pub in_one_frame : InOneFrame
in_one_frame e q r s sound is = by (s.top.rule == r) refl
  where
    stack : IsStack e.rules e.owner q s
    stack = sound.stacks q s is

    others : s.top.rule ≡ r → (b : Bool) → list_any (λ g. g.rule == r) s.below ≡ b → b ≡ false
    others same true more =
        let less : s.top.rule < r = below_above e.rules sound.acyclic e.owner q s.top.rule s.below stack.below r more in
        absurd (omega (arith, less, same))
    others same false more = refl

    one_more : (n : ℕ) → n ≡ 0 → suc n ≤ 1
    one_more n e = omega (arith, e)

    by : (b : Bool) → (s.top.rule == r) ≡ b →
        length (cond b (s.top ∷ filter (λ f. f.rule == r) s.below) (filter (λ f. f.rule == r) s.below)) ≤ 1
    by true here = one_more (length (filter (λ f. f.rule == r) s.below))
        (none_filtered r s.below (others (eqb-true s.top.rule r here) (list_any (λ g. g.rule == r) s.below) refl))
    by false here = below_once e sound q r s.top.rule s.below stack.below
