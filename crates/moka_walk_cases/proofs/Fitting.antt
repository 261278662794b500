-- An answer that fits what a walk wants fits the walk's access.
use Rattle.std.proofs.Common.{◌≡◌, Bool, true, false, subst}
use Rattle.moka_hist.specs.Step.{Access, want_for}
use Rattle.moka_hist.specs.Step as step
use Rattle.moka_hist.specs.declared.accesses.Got.{Got}
use Rattle.moka_hist.specs.declared.accesses.Got.TheVariants as got
use Rattle.moka_hist.specs.declared.accesses.Want.{Want}
use Rattle.moka_hist.specs.declared.visits.Found.{Found}
use Rattle.moka_hist.specs.declared.visits.Visit.{Visit}
use Rattle.moka_hist.specs.declared.visits.Visit.TheVariants as visit
use Rattle.moka_init.specs.Forms.{HasForm, IsFoundBy}
use Rattle.moka_walk_cases.specs.Wants.{FitsVisit, FitsWalk}

module _ {K V E : Type 0} where
  fits_found : (made : Visit K V E) (f : Found V E) → FitsVisit made f → IsFoundBy made f
  fits_found (visit.Clock n) f fits = fits
  fits_found (visit.Scan key stored) f fits = fits
  fits_found (visit.TakeOwed n) f fits = absurd (fits)
  fits_found (visit.NoticeEnded n number) f fits = absurd (fits)
  fits_found (visit.LockKey n key) f fits = absurd (fits)
  fits_found (visit.UnlockKey n wrote) f fits = absurd (fits)
  fits_found (visit.OpenNotice n key value stamp modified handed upsert) f fits = absurd (fits)
  fits_found (visit.StampMoment n) f fits = absurd (fits)
  fits_found (visit.Judge replace key stored) f fits = absurd (fits)
  fits_found (visit.Holds key stored cause) f fits = absurd (fits)
  fits_found (visit.WaitOrOwn n key kind) f fits = absurd (fits)
  fits_found (visit.OwnAlone n key) f fits = absurd (fits)
  fits_found (visit.ReadSettled n) f fits = absurd (fits)
  fits_found (visit.Settle n with) f fits = absurd (fits)
  fits_found (visit.OpenAsk n takes) f fits = absurd (fits)
  fits_found (visit.TakeTold n) f fits = absurd (fits)
  fits_found (visit.PostWrite n write) f fits = absurd (fits)
  fits_found (visit.TakeTurn n) f fits = absurd (fits)
  fits_found (visit.ApplyOne n) f fits = absurd (fits)
  fits_found (visit.EndTurn n) f fits = absurd (fits)
  fits_found visit.InvalidateAll f fits = absurd (fits)
  fits_found (visit.Register test) f fits = absurd (fits)
  fits_found visit.Candidates f fits = absurd (fits)
  fits_found (visit.Strike ids key stored) f fits = absurd (fits)
  fits_found (visit.Retire ids) f fits = absurd (fits)

  fits_form : (begun : Bool) (a : Access K V E) (g : Got K V E) → FitsWalk (want_for begun a) g → HasForm a g
  fits_form false (step.On_table o) (got.Table t) fits = tt
  fits_form false (step.On_table o) (got.Desk f) fits = fits
  fits_form true (step.On_table o) (got.Table t) fits = tt
  fits_form true (step.On_table o) (got.Desk f) fits = fits
  fits_form false (step.On_desk v) (got.Table t) fits = fits
  fits_form false (step.On_desk v) (got.Desk f) fits = fits_found v f fits
  fits_form true (step.On_desk v) (got.Table t) fits = fits
  fits_form true (step.On_desk v) (got.Desk f) fits = fits_found v f fits

  pub wanted_form : (begun : Bool) (a : Access K V E) (wish : Want K V E) (g : Got K V E) → wish ≡ want_for begun a → FitsWalk wish g → HasForm a g
  wanted_form begun a wish g is fits = fits_form begun a g (subst (λ (w : Want K V E). FitsWalk w g) is fits)
