-- A removal that asks for no stamp misses by cause.
use Rattle.std.proofs.Common.{◌≡◌, ◌⊎◌, inl, inr, ℕ, Bool, true, false, List, ◌∷◌, Option, Some, None, is_some, IsSome, refl, sym, ap, ◌∙◌, subst}
use Rattle.std.proofs.lemmas.Bool.{false≢true}
use Rattle.std.specs.Prelude.{IsSomeAnd}
use Rattle.moka_hist.specs.Finite.{put_at}
use Rattle.moka_hist.specs.State.{State, World, Call}
use Rattle.moka_hist.specs.Plan.{Item, Removal}
use Rattle.moka_hist.specs.Plan as plan
use Rattle.moka_hist.specs.Next.{Next}
use Rattle.moka_hist.specs.Step.{state_after}
use Rattle.moka_hist.specs.Tables.{removed, taken_by}
use Rattle.moka_hist.specs.Writing.{nothing_rest, stamp_asked}
use Rattle.moka_hist.specs.declared.records.Mode.TheVariants as mode
use Rattle.moka_hist.specs.declared.records.Stored.{Stored}
use Rattle.moka_laws.specs.Removals.{MissedByCause, MissesByCause}
use Rattle.moka_laws.proofs.Counting.{none_some, put_here}
use Rattle.moka_laws.proofs.FirstItem.{call_cases}
use Rattle.moka_laws.proofs.Outcomes.{outcomes}
use Rattle.moka_laws.proofs.StepCases.{OnStep}

module _ {K V : Type 0} where
  -- where no stamp is asked for, whatever stands there is taken out
  any_taken : (asked : Option ℕ) (o : Option (K × Stored V)) → asked ≡ None → taken_by asked o ≡ o
  any_taken None None e = refl
  any_taken None (Some pair) e = refl
  any_taken (Some stamp) o e = absurd (none_some (sym e))

module _ {K V E : Type 0} (eq : K → K → Bool) (s : State K V E) (n : ℕ) (c : Call K V E)
    (removal : Removal K) (key : K) where
  abbrev Missed : Option (Call K V E) → Type 0
  Missed left = IsSomeAnd left (λ d. d.plan ≡ nothing_rest c.rules.listener removal)

  abbrev Undecided : Option (Call K V E) → Type 0
  Undecided left = left ≡ Some (record c { mode = mode.Mid })

  record Outcome (w : World K V E) (next : Next K V E) : Type 0 where
    only : Missed next.left → s.world.table.stored key ≡ None
    each : s.world.table.stored key ≡ None → Missed next.left ⊎ Undecided next.left
    taken : IsSome (s.world.table.stored key) →
        (w.table ≡ removed eq n s.world.table key) ⊎ Undecided next.left

  -- the plan begins as that of one that found nothing
  abbrev begins_so : List (Item K V E) → Bool
  begins_so (plan.Unlock false ∷ rest) = true
  begins_so (plan.Idle ∷ rest) = true
  begins_so _ = false

  nothing_begins : (b : Bool) → begins_so (nothing_rest b removal) ≡ true
  nothing_begins true = refl
  nothing_begins false = refl

  not_missed : (p : List (Item K V E)) → begins_so p ≡ false →
      p ≡ nothing_rest c.rules.listener removal → ⊥
  not_missed p other e =
      false≢true (sym other ∙ ap begins_so e ∙ nothing_begins c.rules.listener)

  module _ (any : stamp_asked removal ≡ None) where
    was : (out : Option (K × Stored V)) →
        taken_by (stamp_asked removal) (s.world.table.stored key) ≡ out →
        s.world.table.stored key ≡ out
    was out e = sym (any_taken (stamp_asked removal) (s.world.table.stored key) any) ∙ e

    finds_none : (w : World K V E) (next : Next K V E) →
        taken_by (stamp_asked removal) (s.world.table.stored key) ≡ None → Missed next.left →
        Outcome w next
    finds_none w next none misses = record {
      only = λ h. was None none;
      each = λ h. inl misses;
      taken = λ h. absurd (false≢true (ap is_some (sym (was None none)) ∙ h));
    }

    takes_out : (w : World K V E) (next : Next K V E) (pair : K × Stored V) →
        taken_by (stamp_asked removal) (s.world.table.stored key) ≡ Some pair →
        w.table ≡ removed eq n s.world.table key → (Missed next.left → ⊥) → Outcome w next
    takes_out w next pair some out never = record {
      only = λ h. absurd (never h);
      each = λ none. absurd (none_some (sym none ∙ was (Some pair) some));
      taken = λ h. inl out;
    }

    outcome : (rest : List (Item K V E)) → c.plan ≡ plan.Out removal key ∷ rest →
        OnStep eq Outcome s.world n c (plan.Out removal key ∷ rest)
    outcome rest e = outcomes eq Outcome s.world n c (plan.Out removal key) rest (
      λ more. record {
        only = λ h. absurd (not_missed c.plan (ap begins_so e) h);
        each = λ none. inr refl;
        taken = λ some. inr refl;
      },
      λ off none. finds_none _ _ none (ap (λ b. nothing_rest b removal) (sym off)),
      λ on none. finds_none _ _ none (ap (λ b. nothing_rest b removal) (sym on)),
      λ k old off some. takes_out _ _ (k, old) some refl (not_missed _ refl),
      λ k old on some. takes_out _ _ (k, old) some refl (not_missed _ refl),
    )

module _ {K V E : Type 0} (eq : K → K → Bool) where
  pub missed_by_cause : MissedByCause K V E eq
  missed_by_cause s t n c removal key rest reply live e any step =
      call_cases eq (Outcome eq s n c removal key)
      (λ v _. MissesByCause eq s n c removal key v) s t n c (plan.Out removal key ∷ rest) reply
      live e step (outcome eq s n c removal key any rest e)
      (λ w next o. so_missed w next (put_here s.calls n next.left) o)
    where
      so_missed : (w : World K V E) (next : Next K V E) →
          put_at s.calls n next.left n ≡ next.left → Outcome eq s n c removal key w next →
          MissesByCause eq s n c removal key (state_after s n w next)
      so_missed w next here o = record {
        only = λ h. o.only (subst (Missed eq s n c removal key) here h);
        each = λ none. each_now (o.each none);
        taken = λ some. taken_now (o.taken some);
      }
        where
          each_now : Missed eq s n c removal key next.left ⊎
              Undecided eq s n c removal key next.left →
              Missed eq s n c removal key (put_at s.calls n next.left n) ⊎
              Undecided eq s n c removal key (put_at s.calls n next.left n)
          each_now (inl h) = inl (subst (Missed eq s n c removal key) (sym here) h)
          each_now (inr h) = inr (here ∙ h)

          taken_now : (w.table ≡ removed eq n s.world.table key) ⊎
              Undecided eq s n c removal key next.left →
              (w.table ≡ removed eq n s.world.table key) ⊎
              Undecided eq s n c removal key (put_at s.calls n next.left n)
          taken_now (inl h) = inl h
          taken_now (inr h) = inr (here ∙ h)
