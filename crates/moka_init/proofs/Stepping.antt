-- A step makes the flow's access, and goes on with what it gave.
use Rattle.std.proofs.Common.{◌≡◌, Bool, List, Some, sym, subst, ◌∙◌}
use Rattle.moka_hist.specs.State.{World}
use Rattle.moka_hist.specs.Next.{Next}
use Rattle.moka_hist.specs.Step.{CallMoves, May, next_of}
use Rattle.moka_hist.specs.declared.accesses.Got.{Got}
use Rattle.moka_hist.specs.declared.accesses.Turn.{Turn}
use Rattle.moka_hist.specs.declared.accesses.Turn.TheVariants as turn
use Rattle.moka_bound.specs.Falling.{Counts}
use Rattle.moka_init.specs.declared.flow.Flow.{Flow}
use Rattle.moka_init.specs.FlowPlan.{call_of, is_begun, next_in}
use Rattle.moka_init.specs.Forms.{HasForm}
use Rattle.moka_init.specs.Grounds.{Account, Accesses, Gives, IsOn, access_at}
use Rattle.moka_init.specs.Steps.{MovesThere, Nears}
use Rattle.moka_init.specs.Telling.{Made, TellsStep}
use Rattle.moka_init.proofs.Begun.{still_on}
use Rattle.moka_init.proofs.Near.{near}

module _ {K V E : Type 0} where
  pub moves_so : (eq : K → K → Bool) (old new : Flow K V E) (t : Turn K V E) (given : Got K V E) (stood stands : World K V E → Type 0) →
      Gives eq old.call stood (access_at old) given stands → HasForm (access_at old) given → next_in t new ≡ next_of old.call (call_of old) given →
      MovesThere eq stood old (next_in t new) stands
  moves_so eq old new t given stood stands gives form next = (given, form, next, gives)

  -- so it moves in each of these worlds
  pub moves_in : (eq : K → K → Bool) (flow : Flow K V E) (next : Next K V E) (stood stands : World K V E → Type 0) → MovesThere eq stood flow next stands →
      (w : World K V E) → stood w → May w (access_at flow) → (new : World K V E) × CallMoves eq flow.call (call_of flow) w next new × stands new
  moves_in eq flow next stood stands moves w h may =
      let r = moves.3 w h may in (r.0, record { given = moves.0; gets = r.1; goes = moves.2 }, r.2)

  pub tells_step : (old new : Flow K V E) (t : Turn K V E) (given : Got K V E) (account then : Account K V E) →
      Accesses account (access_at old) given then → next_in t new ≡ next_of old.call (call_of old) given →
      (before : List (Made K V E)) → account.made ≡ Some before → TellsStep old.call (call_of old) (next_in t new) before then.made
  tells_step old new t given account then told next before made = (given, next, told.tells before made)

  pub on_so : (old new : Flow K V E) (t : Turn K V E) (given : Got K V E) (account then : Account K V E) →
      Accesses account (access_at old) given then → next_in t new ≡ next_of old.call (call_of old) given →
      account.call ≡ old.call → new.call ≡ old.call → new.begun ≡ is_begun given → IsOn then new
  on_so old new t given account then told next on number begun = record {
    call = told.call ∙ on ∙ sym number;
    begun = still_on then.begun old new given t number begun told.begun next;
  }

  pub nears_so : (eq : K → K → Bool) (old new : Flow K V E) (t : Turn K V E) (given : Got K V E) (stood stands : World K V E → Type 0) (account then : Account K V E) →
      Gives eq old.call stood (access_at old) given stands → Accesses account (access_at old) given then →
      next_in t new ≡ next_of old.call (call_of old) given → account.call ≡ old.call → t ≡ turn.Going →
      ((w : World K V E) → stood w → Counts account.call w account.work) → ((w : World K V E) → stands w → Counts then.call w then.work) →
      Nears stood account old then new
  nears_so eq old new t given stood stands account then gives told next on going counted counts = λ w h may has_log.
      let r = gives w h may in
      let was = subst (λ n. Counts n w account.work) on (counted w h) in
      let is = subst (λ n. Counts n r.0 then.work) (told.call ∙ on) (counts r.0 r.2) in
      near eq old new t w r.0 given account then (rw was.size has_log) may r.1 next going was is told
