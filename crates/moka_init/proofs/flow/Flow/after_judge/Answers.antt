-- A hit goes on alike, whatever the call had still to do.
use Rattle.std.proofs.Common.{List, [], ◌∷◌, ◌≡◌, refl, sym, subst}
use Rattle.moka_hist.specs.Looking.{after_judge, hits}
use Rattle.moka_hist.specs.Plan.{Item}
use Rattle.moka_hist.specs.Plan as plan
use Rattle.moka_hist.specs.Next.{Next}
use Rattle.moka_hist.specs.declared.visits.Found.TheVariants as found
use Rattle.moka_init.specs.FlowPlan.{standing, GoesOn}
use Rattle.moka_init.specs.PointPlan.{aim_of, plan_at}
use Rattle.moka_init.specs.declared.flow.Flow.{Flow}
use Rattle.moka_init.specs.declared.points.Look.{Look}
use Rattle.moka_init.specs.declared.points.Look.TheVariants as look
use Rattle.moka_init.proofs.flow.Flow.after_judge.Goals as goal

module _ {K V E : Type 0} where
  hits_alike : (flow : Flow K V E) (p q : List (Item K V E)) (l : Look K V) (there : K) (value : V)
      → hits (standing flow p) (aim_of l) there value ≡ hits (standing flow q) (aim_of l) there value
  hits_alike flow p q (look.Answer key) there value = refl
  hits_alike flow p q (look.Load sought) there value = refl
  hits_alike flow p q (look.Own sought) there value = refl
  hits_alike flow p q (look.Insert key unused) there value = refl
  hits_alike flow p q (look.Compute compute) there value = refl
  hits_alike flow p q (look.Report key) there value = refl

pub returns-in-Judge-true : goal.returns-in-Judge-true
returns-in-Judge-true g c =
    let old = c.args.self.now in
    let judge = plan.Judge (aim_of c.args.look) c.args.key c.args.stored ∷ [] in
    let on : Next g.row.K.Denot g.row.V.Denot g.row.E.Denot → Type 0 =
    λ next. GoesOn old next c.hits.result c.hits.new.self in
    subst (λ f. on (after_judge (standing old judge) (aim_of c.args.look) c.args.key c.args.stored f))
    (sym (c.in-Judge-true.is))
    (subst (λ b. on (after_judge (standing old judge) (aim_of c.args.look) c.args.key c.args.stored
    (found.Judge b))) (sym c.in-Judge-true.field-0-test)
    (subst on (hits_alike old (plan_at old.point) judge c.args.look c.args.key c.args.stored.value)
    c.hits.ensures))
