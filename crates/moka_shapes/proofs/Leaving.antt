-- What a step has to show of the plan that it leaves, whatever suits an item.
use Rattle.std.proofs.Common.{◌≡◌, List, [], ◌∷◌, None, refl, sym, ◌∙◌, subst}
use Rattle.moka_hist.specs.State.{Call}
use Rattle.moka_hist.specs.Next.{Next, goes}
use Rattle.moka_hist.specs.Plan.{Item}
use Rattle.moka_hist.specs.Plan as plan
use Rattle.moka_hist.specs.declared.accesses.Turn.{Turn}
use Rattle.moka_hist.specs.declared.accesses.Turn.TheVariants as turn
use Rattle.moka_hist.specs.declared.replies.Answer.{Answer}
use Rattle.moka_laws.proofs.Owning.{plan_left}

same_answer : {K V E : Type 0} (a b : Answer K V E) → ◌≡◌ {A = Turn K V E} (turn.Answer a) (turn.Answer b) → a ≡ b
same_answer a b e = cc

-- each item is such
abbrev pub AllSuit : {K V E : Type 0} → (Item K V E → Type 0) → List (Item K V E) → Type 0
AllSuit Suits [] = Unit {0}
AllSuit Suits (item ∷ rest) = Suits item × AllSuit Suits rest

-- what suits an item, and what the call may answer
module _ {K V E : Type 0} (Suits : Item K V E → Type 0) (May : Answer K V E → Type 0) where
  -- what a step has to show
  pub record Leaves (next : Next K V E) : Type 0 where
    pub suits : AllSuit Suits (plan_left next.left)
    pub now : (a : Answer K V E) → next.turn ≡ turn.Answer a → May a

  pub answers_so : (a : Answer K V E) (next : Next K V E) → next.left ≡ None → next.turn ≡ turn.Answer a → May a → Leaves next
  answers_so a next none is may = record {
    suits = subst (λ v. AllSuit Suits (plan_left v)) (sym none) tt;
    now = λ b e. subst May (same_answer {K = K} a b (sym is ∙ e)) may;
  }

  pub on : (next : Next K V E) → ((a : Answer K V E) → next.turn ≡ turn.Answer a → ⊥) → AllSuit Suits (plan_left next.left) → Leaves next
  on next going q = record { suits = q; now = λ a e. absurd (going a e) }

  pub goes_suits : ((a : Answer K V E) → Suits (plan.Reply a) → May a) → (c : Call K V E) (rest : List (Item K V E)) → AllSuit Suits rest → Leaves (goes c rest)
  goes_suits replies c (plan.Reply a ∷ []) q = answers_so a _ refl refl (replies a q.0)
  goes_suits replies c _ q = on _ (λ b e. cc) q
