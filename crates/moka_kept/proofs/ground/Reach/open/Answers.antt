-- The notice is opened in the world that is kept.
use Rattle.std.proofs.Common.{inl, inr, nat_eq, refl, sym, ◌∙◌, subst}
use Rattle.std.proofs.lemmas.Bool.{false≢true}
use Rattle.std.specs.HashMap.{get}
use Rattle.moka_hist.specs.Step.{Access}
use Rattle.moka_hist.specs.declared.accesses.Got.{Got}
use Rattle.moka_hist.specs.declared.accesses.Got.TheVariants as got
use Rattle.moka_hist.specs.declared.visits.Found.TheVariants as found
use Rattle.moka_desk.proofs.Outcomes.{on_err}
use Rattle.moka_init.specs.FlowPlan.{call_of, next_in}
use Rattle.moka_init.specs.Forms.{HasForm}
use Rattle.moka_init.specs.Grounds.{access_at}
use Rattle.moka_init.specs.PointPlan.{is_copied}
use Rattle.moka_init.proofs.Still.{access_still, live_still, next_still}
use Rattle.moka_kept.specs.Kept.{MayMake}
use Rattle.moka_kept.proofs.Opened.{kept_opened, kept_unopened, not_so, opened_ends, opens, opens_form}
use Rattle.moka_kept.proofs.Reached.{allowing, fresh_none, still_none}
use Rattle.moka_kept.proofs.Wanting.{of_call}
use Rattle.moka_kept.proofs.ground.Reach.open.Goals as goal

pub returns-in_err-copy-clause-begun : goal.returns-in_err-copy-clause-begun
returns-in_err-copy-clause-begun g c = still_none c.args.flow.now c.copy.new.self c.copy.ensures.still c.requires.rests.begun

pub returns-in_err-copy-clause-err : goal.returns-in_err-copy-clause-err
returns-in_err-copy-clause-err g c = on_err c.from_residual.result c.copy.ensures.still

pub returns-in_err-copy-clause-number : goal.returns-in_err-copy-clause-number
returns-in_err-copy-clause-number g c = c.copy.ensures.still.number

pub returns-in_err-copy-clause-needs : goal.returns-in_err-copy-clause-needs
returns-in_err-copy-clause-needs g c = on_err c.from_residual.result (inl (not_so (is_copied c.args.flow.now.point) (λ is. false≢true (c.in_err-copy.ensures.copied is))))

pub returns-in_err-told-clause-kept : goal.returns-in_err-told-clause-kept
returns-in_err-told-clause-kept g c = kept_unopened g.K.PartialEq.eq g.P.Fact.holds (get nat_eq c.args.self.now.ends) c.args.self.now.layers c.open_unheard.new.self c.in_err-told.ensures.err c.requires.kept

pub returns-in_err-told-clause-begun : goal.returns-in_err-told-clause-begun
returns-in_err-told-clause-begun g c = still_none c.args.flow.now c.copy.new.self c.copy.ensures.still c.requires.rests.begun

pub returns-in_err-told-clause-err : goal.returns-in_err-told-clause-err
returns-in_err-told-clause-err g c = on_err c.from_residual-in_err-told.result c.copy.ensures.still

pub returns-in_err-told-clause-number : goal.returns-in_err-told-clause-number
returns-in_err-told-clause-number g c = c.copy.ensures.still.number

pub returns-in_err-told-clause-needs : goal.returns-in_err-told-clause-needs
returns-in_err-told-clause-needs g c = on_err c.from_residual-in_err-told.result (inr c.in_err-told.ensures.needs_place)

pub take-requires-clause-live : goal.take-requires-clause-live
take-requires-clause-live g c = live_still c.args.flow.now c.copy.new.self c.copy.ensures.still c.requires.rests.live

pub take-requires-clause-form : goal.take-requires-clause-form
take-requires-clause-form g c =
    let flow = c.args.flow.now in
    let due = opens flow.call flow.call (access_at flow) c.args.opening c.requires.due (of_call flow.call (call_of flow)) refl in
    subst (λ (a : Access g.row.K.Denot g.row.V.Denot g.row.E.Denot). HasForm a (got.Desk (found.OpenNotice c.in_ok-told.told)))
    (sym (access_still flow c.copy.new.self c.copy.ensures.still)) (opens_form flow.call (access_at flow) c.args.opening c.in_ok-told.told due)

pub returns-clause-kept : goal.returns-clause-kept
returns-clause-kept g c =
    let eq = g.K.PartialEq.eq in
    let holds = g.P.Fact.holds in
    let ends = get nat_eq c.args.self.now.ends in
    let layers = c.args.self.now.layers in
    let flow = c.args.flow.now in
    let before = c.requires.kept in
    let may = c.requires.may before.world.desk before.stands.desk in
    let kept = allowing eq holds ends layers before (λ v. MayMake v (access_at flow)) may.1 in
    let due = opens flow.call c.number-call.result (access_at flow) c.args.opening c.requires.due (of_call flow.call (call_of flow)) c.number-call.ensures in
    kept_opened eq holds ends layers c.open_unheard.new.self c.number-call.result (access_at flow) c.args.opening due c.visits_keep_sound.ensures.sound (c.in_ok-told.ensures.makes due.key due.value) kept may.1.holds

pub returns-clause-untaken : goal.returns-clause-untaken
returns-clause-untaken g c =
    let eq = g.K.PartialEq.eq in
    let holds = g.P.Fact.holds in
    let ends = get nat_eq c.args.self.now.ends in
    let layers = c.args.self.now.layers in
    let flow = c.args.flow.now in
    let before = c.requires.kept in
    let may = c.requires.may before.world.desk before.stands.desk in
    let kept = allowing eq holds ends layers before (λ v. MayMake v (access_at flow)) may.1 in
    let due = opens flow.call c.number-call.result (access_at flow) c.args.opening c.requires.due (of_call flow.call (call_of flow)) c.number-call.ensures in
    let given : Got g.row.K.Denot g.row.V.Denot g.row.E.Denot = got.Desk (found.OpenNotice c.in_ok-told.told) in
    opened_ends eq holds ends layers flow c.number-call.result c.args.opening due c.in_ok-told.told (next_in c.take.result c.take.new.self) kept
    (c.requires.ends kept.world.desk kept.stands.desk) (c.requires.reads kept.world.desk kept.stands.desk) may.1.holds (c.in_ok-told.ensures.finds due.key due.value)
    (c.take.ensures.next ∙ next_still flow c.copy.new.self given c.copy.ensures.still)

pub returns-clause-begun : goal.returns-clause-begun
returns-clause-begun g c = fresh_none c.take.new.self c.take.ensures.begun

pub returns-clause-number : goal.returns-clause-number
returns-clause-number g c = c.take.ensures.number ∙ c.copy.ensures.still.number
