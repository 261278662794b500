-- What a load ends with is noted where somebody waits for it.
use Rattle.std.proofs.Common.{◌≡◌, ℕ, Result, Ok, Err, OnOk, nat_eq, sym, ◌∙◌, subst}
use Rattle.std.specs.HashMap.{get}
use Rattle.moka_hist.specs.Step.{On_desk, Access}
use Rattle.moka_hist.specs.declared.visits.Settled.{Settled}
use Rattle.moka_hist.specs.declared.visits.Visit.TheVariants as visit
use Rattle.moka_init.specs.FlowPlan.{call_of}
use Rattle.moka_init.specs.Grounds.{access_at}
use Rattle.moka_kept.specs.Facts.{facts}
use Rattle.moka_kept.proofs.Noting.{is_noted, not_awaited}
use Rattle.moka_kept.proofs.Wanting.{OfCall, of_call}
use Rattle.moka_kept.proofs.ground.Reach.note_end.Goals as goal

-- the load that is ended is the call's own
own_end : {K V E : Type 0} (call number : ℕ) (made : Access K V E) → OfCall call made → number ≡ call → (n : ℕ) (with : Settled V E) → made ≡ On_desk (visit.Settle n with) → n ≡ number
own_end call number made own is n with e = subst (λ a. OfCall call a) e own ∙ sym is

pub returns-then-not-is_awaited-clause-noted : goal.returns-then-not-is_awaited-clause-noted
returns-then-not-is_awaited-clause-noted g c = λ ends w stands.
    let flow = c.args.flow.now in
    not_awaited g.P.Fact.holds (get nat_eq c.args.self.now.ends) w c.number-call.result (access_at flow)
    (own_end flow.call c.number-call.result (access_at flow) (of_call flow.call (call_of flow)) c.number-call.ensures) (sym (c.is_awaited.ensures w stands) ∙ c.if-not-is_awaited.true)

ok_so : {A F : Type 0} (r : Result A F) (P Q : Type 0) → (P → Q) → OnOk r P → OnOk r Q
ok_so (Ok a) P Q so h = so h
ok_so (Err e) P Q so h = tt

pub returns-in-Some-clause-noted : goal.returns-in-Some-clause-noted
returns-in-Some-clause-noted g c = ok_so c.note.result _ _ (λ noted ends w stands.
    let flow = c.args.flow.now in
    is_noted (facts g.K.PartialEq.eq g.P.Fact.holds) c.args.key.now c.in-Some.key (get nat_eq c.note.new.self.ends) w c.number-call.result (access_at flow) c.in-Some.is
    (own_end flow.call c.number-call.result (access_at flow) (of_call flow.call (call_of flow)) c.number-call.ensures) noted c.requires.so) c.note.ensures.noted
