-- Frames, and stacks of them.
use Rattle.std.proofs.Common.{◌≡◌, ◌<◌, ◌≤◌, ℕ, ◌==◌, Bool, true, false, ◌||◌, List, [], ◌∷◌, Option, Some, None, refl, sym, ap, ◌∙◌, arith}
use Rattle.std.proofs.lemmas.Bool.{eqb-true, false≢true}
use Rattle.std.specs.List.{list_any}
use Rattle.std.specs.Option.{option_map_or, option_and_then}
use Rattle.moka_evaluator.specs.Evaluator.{Stack}
use Rattle.moka_evaluator.specs.Plain.{IsAcyclic, next_operand, plain, value_from, with_value}
use Rattle.moka_evaluator.specs.Sound.{IsFrame, IsStack, LieBelow, LiesBelow, has_frame}
use Rattle.moka_evaluator.specs.Steps.{needs, worked_out}
use Rattle.moka_evaluator.specs.declared.frames.Frame.{Frame}
use Rattle.moka_evaluator.specs.declared.rules.Rule.{Rule}
use Rattle.moka_evaluator.proofs.Worths.{handed, needed, plain_is, worked}

module _ (rules : List Rule) where
  -- what a frame needs is what its rule needs
  pub needs_is : (owner : ℕ → Option ℕ) (q : ℕ) (f : Frame) (frame : IsFrame rules owner q f) →
      needs rules f ≡ next_operand frame.rule f.operands
  needs_is owner q f frame = ap (option_and_then (λ rule. next_operand rule f.operands)) frame.is

  -- a frame whose rule needs nothing gives the plain value
  pub worked_plain : IsAcyclic rules → (owner : ℕ → Option ℕ) (q : ℕ) (f : Frame) → IsFrame rules owner q f →
      needs rules f ≡ None → worked_out rules f ≡ plain rules f.rule
  worked_plain acyclic owner q f frame none =
      ap (λ x. option_map_or (λ rule. value_from rule f.operands) x 0) frame.is ∙
      worked (plain rules) frame.rule f.operands (sym (needs_is owner q f frame) ∙ none) frame.worth ∙
      sym (plain_is rules acyclic f.rule frame.rule frame.is)

  module _ (acyclic : IsAcyclic rules) where
    -- the operand that a frame needs is an earlier rule
    pub need_less : (owner : ℕ → Option ℕ) (q : ℕ) (f : Frame) → IsFrame rules owner q f → (a : ℕ) → needs rules f ≡ Some a →
        (0 < a) × (a < f.rule)
    need_less owner q f frame a e =
        needed (λ a. (0 < a) × (a < f.rule)) frame.rule f.operands a (acyclic f.rule frame.rule frame.is)
        (sym (needs_is owner q f frame) ∙ e)

    -- the frames below are of greater rules
    pub below_above : (owner : ℕ → Option ℕ) (q r : ℕ) (fs : List Frame) → LieBelow rules owner q r fs → (x : ℕ) →
        list_any (λ f. f.rule == x) fs ≡ true → r < x
    below_above owner q r [] lie x e = absurd (false≢true e)
    below_above owner q r (f ∷ fs) lie x e =
        by (below_above owner q f.rule fs lie.1 x) (need_less owner q f lie.0.frame r lie.0.needs).1 (f.rule == x) refl e
      where
        by : (list_any (λ f. f.rule == x) fs ≡ true → f.rule < x) → r < f.rule → (b : Bool) → (f.rule == x) ≡ b →
            (b || list_any (λ f. f.rule == x) fs) ≡ true → r < x
        by more less true same e = let is : f.rule ≡ x = eqb-true f.rule x same in omega (arith, less, is)
        by more less false other e = let then : f.rule < x = more e in omega (arith, less, then)

    -- each frame of a stack is of the top's rule or a greater one
    pub stack_above : (owner : ℕ → Option ℕ) (q : ℕ) (s : Stack) → IsStack rules owner q s → (x : ℕ) → has_frame s x ≡ true →
        s.top.rule ≤ x
    stack_above owner q s stack x e = by (s.top.rule == x) refl e
      where
        by : (b : Bool) → (s.top.rule == x) ≡ b → (b || list_any (λ f. f.rule == x) s.below) ≡ true → s.top.rule ≤ x
        by true same e = let is : s.top.rule ≡ x = eqb-true s.top.rule x same in omega (arith, is)
        by false other e = let less : s.top.rule < x = below_above owner q s.top.rule s.below stack.below x e in omega (arith, less)

    -- ---- another owner of some rules

    pub frame_kept : (owner after : ℕ → Option ℕ) (q : ℕ) (f : Frame) → (owner f.rule ≡ Some q → after f.rule ≡ Some q) →
        IsFrame rules owner q f → IsFrame rules after q f
    frame_kept owner after q f keeps frame = record {
      rule = frame.rule;
      is = frame.is;
      owned = λ owns. keeps (frame.owned owns);
      worth = frame.worth;
    }

    pub below_kept : (owner after : ℕ → Option ℕ) (q r : ℕ) (fs : List Frame) →
        ((x : ℕ) → r < x → owner x ≡ Some q → after x ≡ Some q) → LieBelow rules owner q r fs → LieBelow rules after q r fs
    below_kept owner after q r [] keeps lie = tt
    below_kept owner after q r (f ∷ fs) keeps lie =
        let less : r < f.rule = (need_less owner q f lie.0.frame r lie.0.needs).1 in (
          record {
            frame = frame_kept owner after q f (keeps f.rule less) lie.0.frame;
            owns = lie.0.owns;
            needs = lie.0.needs;
          },
          below_kept owner after q f.rule fs (λ x more. keeps x (omega (arith, less, more))) lie.1,
        )

    pub stack_kept : (owner after : ℕ → Option ℕ) (q : ℕ) (s : Stack) →
        ((x : ℕ) → owner x ≡ Some q → after x ≡ Some q) → IsStack rules owner q s → IsStack rules after q s
    stack_kept owner after q s keeps stack = record {
      top = frame_kept owner after q s.top (keeps s.top.rule) stack.top;
      below = below_kept owner after q s.top.rule s.below (λ x less. keeps x) stack.below;
    }

    -- the frame below with the value of the frame above
    pub frame_handed : (owner after : ℕ → Option ℕ) (q r v : ℕ) (f : Frame) → LiesBelow rules owner q r f → v ≡ plain rules r →
        (owner f.rule ≡ Some q → after f.rule ≡ Some q) →
        IsFrame rules after q (record f { operands = with_value f.operands v })
    frame_handed owner after q r v f lies is keeps = record {
      rule = lies.frame.rule;
      is = lies.frame.is;
      owned = λ owns. keeps (lies.frame.owned owns);
      worth = handed (plain rules) lies.frame.rule f.operands r v lies.frame.worth
          (sym (needs_is owner q f lies.frame) ∙ lies.needs) is;
    }
