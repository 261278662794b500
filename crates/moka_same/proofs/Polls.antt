-- Two polls from alike states reply the same, and leave alike states.
use Rattle.std.proofs.Common.{◌≡◌, ℕ, zero, suc, Bool, List, [], ◌∷◌, Some, None, ◌⊎◌, inl, inr, refl, sym, ap, ◌∙◌, subst, arith}
use Rattle.std.specs.Cmp.{IsEquivalence}
use Rattle.moka_hist.specs.Finite.{put_at}
use Rattle.moka_hist.specs.Plan.{Item}
use Rattle.moka_hist.specs.Plan as plan
use Rattle.moka_hist.specs.Run.{Any, IsReached, Polls, reply_of}
use Rattle.moka_hist.specs.State.{Call, DeskPart, State, TablePart}
use Rattle.moka_hist.specs.Visits.{retired}
use Rattle.moka_hist.specs.declared.accesses.Turn.TheVariants as turn
use Rattle.moka_hist.specs.declared.replies.Reply.{Reply}
use Rattle.moka_laws.proofs.NoWalks.{walking}
use Rattle.moka_laws.proofs.Reached.{step_reached}
use Rattle.moka_laws.proofs.Walks.{IsComing}
use Rattle.moka_laws.proofs.Weights.{weigh}
use Rattle.moka_same.specs.Alike.{Alike}
use Rattle.moka_same.proofs.Deciding.{Rolls, as_step, rolled}
use Rattle.moka_same.proofs.Quiet.{Choosing, Coming, Free, IsSeeking, Lists, Quiet, QuietIf, QuietState, Seeking, Striking, step_quiet}
use Rattle.moka_same.proofs.Retiring.{Carried, same_left}
use Rattle.moka_same.proofs.Same.{ListsNext, step_same}
use Rattle.moka_same.proofs.Seeking.{WalkedFromList, closed, lists_out}

-- the replies are the same, and the states alike
pub record Both {K V E : Type 0} (r q : Reply K V E) (t v : State K V E) : Type 0 where
  pub says : q ≡ r
  pub states : Alike t v

module _ {K V E : Type 0} where
  lists_or_not : (p : List (Item K V E)) → ListsNext p ⊎ (ListsNext p → ⊥)
  lists_or_not (plan.List_keys part ∷ rest) = inl tt
  lists_or_not [] = inr (λ h. h)
  lists_or_not (_ ∷ rest) = inr (λ h. h)

  -- a call that lists keys next, where no walk is live, is maintenance that carries these
  record ListsSo (c : Call K V E) : Type 0 where
    ids : List (ℕ × ℕ)
    carried : c.carried ≡ Some ids
    part : ℕ
    rest : List (Item K V E)
    is : c.plan ≡ plan.List_keys part ∷ rest
    seeks : IsSeeking rest

  rest_seeks : (part : ℕ) (rest : List (Item K V E)) → IsSeeking (plan.List_keys part ∷ rest) →
      IsSeeking rest
  rest_seeks part rest (Lists _ _ r) = r

  not_coming : (parts part : ℕ) (rest : List (Item K V E)) →
      IsComing parts (plan.List_keys part ∷ rest) → ⊥
  not_coming parts part rest h = elim h [ ]

  not_choosing : (parts part : ℕ) (rest : List (Item K V E)) →
      (plan.Candidates parts ∷ []) ≡ (plan.List_keys part ∷ rest) → ⊥
  not_choosing parts part rest e = cc

  lists_as : (c : Call K V E) → Quiet c → (p : List (Item K V E)) → c.plan ≡ p → ListsNext p →
      ListsSo c
  lists_as c (Free calm) (plan.List_keys part ∷ rest) e next =
      let heavy : weigh walking (plan.List_keys part ∷ rest) ≡ 0 = sym (ap (weigh walking) e) ∙ calm in
      absurd (omega (arith, heavy))
  lists_as c (Coming parts coming) (plan.List_keys part ∷ rest) e next =
      absurd (not_coming parts part rest (subst (IsComing parts) e coming))
  lists_as c (Choosing parts is) (plan.List_keys part ∷ rest) e next =
      absurd (not_choosing parts part rest (sym is ∙ e))
  lists_as c (Seeking ids is r) (plan.List_keys part ∷ rest) e next = record {
    ids = ids;
    carried = is;
    part = part;
    rest = rest;
    is = e;
    seeks = rest_seeks part rest (subst IsSeeking e r);
  }
  lists_as c (Striking ids there stored more is struck r) (plan.List_keys part ∷ rest) e next =
      absurd (by (sym struck ∙ e))
    where
      by : (plan.Strike there stored ∷ more) ≡ (plan.List_keys part ∷ rest) → ⊥
      by e = cc
  lists_as c q [] e next = absurd next
  lists_as c q (_ ∷ rest) e next = absurd next

module _ {K V E : Type 0} (eq : K → K → Bool) (laws : IsEquivalence eq) (n : ℕ) where
  -- two that list keys first
  lists_same : (k j : ℕ) (s u t v : State K V E) (c d : Call K V E) (r q : Reply K V E) →
      IsReached eq s → IsReached eq u → QuietState s → Alike s u → s.calls n ≡ Some c →
      u.calls n ≡ Some d → ListsNext c.plan → Rolls eq n k s r t → Rolls eq n j u q v → Both r q t v
  lists_same k j s u t v c d r q reached also quiet alike live there next h g = record {
    says = two.says ∙ sym one.says;
    states = record {
      table = two.table ∙ ap (λ (x : TablePart K V). closed n x) alike.table ∙ sym one.table;
      desk = two.desk ∙ ap (λ (x : DeskPart K V E). retired x two.last) alike.desk ∙
          same_left s.world.desk s.world.table so.ids one.last two.last one.carried here ∙
          sym one.desk;
      calls = two.calls ∙ ap (λ f. put_at f n None) alike.calls ∙ sym one.calls;
    };
  }
    where
      so : ListsSo c
      so = lists_as c (subst QuietIf live (quiet n)) c.plan refl next

      one : WalkedFromList eq n laws s so.ids r t
      one = lists_out eq n laws k s t c so.ids so.part so.rest r reached live so.carried so.is
          so.seeks h

      two : WalkedFromList eq n laws u so.ids q v
      two = lists_out eq n laws j u v c so.ids so.part so.rest q also
          (ap (λ f. f n) alike.calls ∙ live) so.carried so.is so.seeks g

      here : Carried s.world.desk s.world.table so.ids two.last
      here = subst (λ (x : DeskPart K V E). Carried x s.world.table so.ids two.last) alike.desk
          (subst (λ (x : TablePart K V). Carried u.world.desk x so.ids two.last) alike.table
          two.carried)

  polls_same : (k j : ℕ) (s u t v : State K V E) (r q : Reply K V E) → IsReached eq s →
      IsReached eq u → QuietState s → Alike s u → Rolls eq n k s r t → Rolls eq n j u q v →
      Both r q t v
  unfolding Rolls
  polls_same zero zero s u t v r q reached also quiet alike h g = by (lists_or_not h.call.plan)
    where
      by : ListsNext h.call.plan ⊎ (ListsNext h.call.plan → ⊥) → Both r q t v
      by (inl next) = lists_same zero zero s u t v h.call g.call r q reached also quiet alike
          h.decides.live g.decides.live next h g
      by (inr other) =
          let same = step_same eq n s u t v h.call g.call h.said g.said alike other h.decides
          g.decides in
          record { says = g.says ∙ ap reply_of same.0 ∙ sym h.says; states = same.1 }
  polls_same zero (suc j) s u t v r q reached also quiet alike h g = by (lists_or_not h.call.plan)
    where
      by : ListsNext h.call.plan ⊎ (ListsNext h.call.plan → ⊥) → Both r q t v
      by (inl next) = lists_same zero (suc j) s u t v h.call g.1 r q reached also quiet alike
          h.decides.live g.2.live next h g
      by (inr other) =
          let same = step_same eq n s u t g.0 h.call g.1 h.said turn.Going alike other h.decides
          g.2 in
          absurd (h.ends (h.says ∙ ap reply_of (sym same.0)))
  polls_same (suc k) zero s u t v r q reached also quiet alike h g = by (lists_or_not h.1.plan)
    where
      by : ListsNext h.1.plan ⊎ (ListsNext h.1.plan → ⊥) → Both r q t v
      by (inl next) = lists_same (suc k) zero s u t v h.1 g.call r q reached also quiet alike
          h.2.live g.decides.live next h g
      by (inr other) =
          let same = step_same eq n s u h.0 v h.1 g.call turn.Going g.said alike other h.2
          g.decides in
          absurd (g.ends (g.says ∙ ap reply_of same.0))
  polls_same (suc k) (suc j) s u t v r q reached also quiet alike h g =
      by (lists_or_not h.1.plan) (polls_same k j h.0 g.0 t v r q)
    where
      by : ListsNext h.1.plan ⊎ (ListsNext h.1.plan → ⊥) →
          (IsReached eq h.0 → IsReached eq g.0 → QuietState h.0 → Alike h.0 g.0 →
          Rolls eq n k h.0 r t → Rolls eq n j g.0 q v → Both r q t v) → Both r q t v
      by (inl next) on = lists_same (suc k) (suc j) s u t v h.1 g.1 r q reached also quiet alike
          h.2.live g.2.live next h g
      by (inr other) on = on
          (step_reached eq s h.0 n turn.Going reached (as_step eq n s h.0 h.1 turn.Going h.2))
          (step_reached eq u g.0 n turn.Going also (as_step eq n u g.0 g.1 turn.Going g.2))
          (step_quiet eq s h.0 n turn.Going quiet (as_step eq n s h.0 h.1 turn.Going h.2))
          (step_same eq n s u h.0 g.0 h.1 g.1 turn.Going turn.Going alike other h.2 g.2).1 h.3 g.3

  pub poll_same : (s u t v : State K V E) (r q : Reply K V E) → IsReached eq s → IsReached eq u →
      QuietState s → Alike s u → Polls eq Any s n r t → Polls eq Any u n q v → Both r q t v
  poll_same s u t v r q reached also quiet alike h g =
      let a = rolled eq n s t r h in
      let b = rolled eq n u v q g in
      polls_same a.0 b.0 s u t v r q reached also quiet alike a.1 b.1
