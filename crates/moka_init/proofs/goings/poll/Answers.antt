-- What the steps so far did, and one more.
use Rattle.std.proofs.Common.{◌≡◌, ◌+◌, true, refl, sym, subst, ◌∙◌, ◌++◌, ◌⊎◌, arith}
use Rattle.moka_hist.specs.Step.{Access}
use Rattle.moka_init.specs.FlowPlan.{call_of, next_in}
use Rattle.moka_init.specs.Grounds.{Account, IsOn, TakesCopies}
use Rattle.moka_init.proofs.Going.{moves_none, live_going, may_fit, safe_next, flow_more, flow_last, has_log_still}
use Rattle.moka_init.proofs.Still.{access_still, live_still, on_still}
use Rattle.moka_init.proofs.Stepping.{moves_in}
use Rattle.moka_init.proofs.Told.{told_none, told_more, told_last}
use Rattle.moka_init.proofs.goings.poll.Goals as goal

pub loop-turn-init : goal.loop-turn-init
loop-turn-init g c = (
  0,
  record {
    live = c.requires.live;
    on = c.requires.on;
    keeps = g.met.G.Ground.keeps_same c.args.ground.now;
    number = refl;
    so_many = omega arith;
    moved = λ w h safe. (w, moves_none g.K.PartialEq.eq c.args.flow.now.call (call_of c.args.flow.now) w, h);
    told = λ before e. told_none c.args.flow.now.call (call_of c.args.flow.now) before (g.G.Ground.account c.args.ground.now).made e;
  },
)

pub returns-then-not-is_going-clause-polls : goal.returns-then-not-is_going-clause-polls
returns-then-not-is_going-clause-polls g c = λ w h safe.
    let so_far = c.loop-turn.invariant in
    let m = so_far.1.moved w h safe in
    let r = moves_in g.K.PartialEq.eq c.loop-turn.flow (next_in c.in-Ok.turn c.step.new.flow) (g.G.Ground.stands c.loop-turn.ground) (g.G.Ground.stands c.step.new.ground) c.in-Ok.ensures.moves m.0 m.2
    (safe_next g.K.PartialEq.eq so_far.0 c.args.flow.now c.loop-turn.flow w m.0 so_far.1.number m.1 safe) in (
      r.0,
      flow_last g.K.PartialEq.eq so_far.0 c.args.flow.now c.loop-turn.flow c.step.new.flow w m.0 r.0 c.in-Ok.turn so_far.1.number
          (λ e. let f : c.is_going.result ≡ true = c.is_going.ensures.1 e in cc) m.1 r.1,
      r.2,
    )

pub returns-then-not-is_going-clause-tells : goal.returns-then-not-is_going-clause-tells
returns-then-not-is_going-clause-tells g c = λ before e.
    let so_far = c.loop-turn.invariant in
    let told = so_far.1.told before e in
    told_last so_far.0 c.args.flow.now c.loop-turn.flow c.step.new.flow c.in-Ok.turn before (g.G.Ground.account c.loop-turn.ground).made (g.G.Ground.account c.step.new.ground).made
    so_far.1.number told (c.in-Ok.ensures.tells (before ++ told.path) told.told)

pub loop-turn-preserved : goal.loop-turn-preserved
loop-turn-preserved g c =
    let going = c.is_going.ensures.0 (cc) in
    let so_far = c.loop-turn.invariant in (
      so_far.0 + 1,
      record {
        live = live_going c.in-Ok.turn c.step.new.flow going c.in-Ok.ensures.leaves;
        on = c.in-Ok.ensures.on;
        keeps = g.met.G.Ground.keeps_on c.args.ground.now c.loop-turn.ground c.step.new.ground so_far.1.keeps c.step.ensures.keeps;
        number = c.step.ensures.number ∙ so_far.1.number;
        so_many = omega (arith, so_far.1.so_many, c.saturating_add-steps.ensures);
        moved = λ w h safe.
            let m = so_far.1.moved w h safe in
            let r = moves_in g.K.PartialEq.eq c.loop-turn.flow (next_in c.in-Ok.turn c.step.new.flow) (g.G.Ground.stands c.loop-turn.ground) (g.G.Ground.stands c.step.new.ground) c.in-Ok.ensures.moves m.0 m.2
            (safe_next g.K.PartialEq.eq so_far.0 c.args.flow.now c.loop-turn.flow w m.0 so_far.1.number m.1 safe) in
            (r.0, flow_more g.K.PartialEq.eq so_far.0 c.args.flow.now c.loop-turn.flow c.step.new.flow w m.0 r.0 c.in-Ok.turn so_far.1.number going m.1 r.1, r.2);
        told = λ before e.
            let told = so_far.1.told before e in
            told_more so_far.0 c.args.flow.now c.loop-turn.flow c.step.new.flow c.in-Ok.turn before (g.G.Ground.account c.loop-turn.ground).made (g.G.Ground.account c.step.new.ground).made
            so_far.1.number going told (c.in-Ok.ensures.tells (before ++ told.path) told.told);
      },
    )

pub step-requires-clause-fits : goal.step-requires-clause-fits
step-requires-clause-fits g c =
    let so_far = c.loop-turn.invariant in
    let safe = c.requires.safe in
    let m = so_far.1.moved safe.0 safe.1 safe.2 in
    may_fit g.G.Ground.account g.G.Ground.stands g.G.Ground.fits g.met.G.Ground.allows c.loop-turn.ground c.loop-turn.flow m.0 so_far.1.on m.2
    (safe_next g.K.PartialEq.eq so_far.0 c.args.flow.now c.loop-turn.flow safe.0 m.0 so_far.1.number m.1 safe.2)

pub loop-turn-smaller : goal.loop-turn-smaller
loop-turn-smaller g c =
    let so_far = c.loop-turn.invariant in
    let safe = c.requires.safe in
    let m = so_far.1.moved safe.0 safe.1 safe.2 in
    c.in-Ok.ensures.nears (c.is_going.ensures.0 (cc)) m.0 m.2 (safe_next g.K.PartialEq.eq so_far.0 c.args.flow.now c.loop-turn.flow safe.0 m.0 so_far.1.number m.1 safe.2)
    (has_log_still g.K.PartialEq.eq so_far.0 c.args.flow.now.call (call_of c.args.flow.now) safe.0 (call_of c.loop-turn.flow) m.0 m.1 safe.3)

pub returns-in-Err-clause-live : goal.returns-in-Err-clause-live
returns-in-Err-clause-live g c =
    live_still c.loop-turn.flow c.step.new.flow c.in-Err.ensures.err c.loop-turn.invariant.1.live

pub returns-in-Err-clause-on : goal.returns-in-Err-clause-on
returns-in-Err-clause-on g c =
    subst (λ (a : Account g.row.K.Denot g.row.V.Denot g.row.E.Denot). IsOn a c.step.new.flow)
    (sym c.in-Err.ensures.err_account)
    (on_still (g.G.Ground.account c.loop-turn.ground) c.loop-turn.flow c.step.new.flow
    c.in-Err.ensures.err c.loop-turn.invariant.1.on)

pub returns-in-Err-clause-unfinished : goal.returns-in-Err-clause-unfinished
returns-in-Err-clause-unfinished g c =
    let so_far = c.loop-turn.invariant in
    let still = c.in-Err.ensures.err in
    let here = access_still c.loop-turn.flow c.step.new.flow still in (
      so_far.0,
      so_far.1.so_many,
      (λ w h safe.
          let m = so_far.1.moved w h safe in
          let may = safe_next g.K.PartialEq.eq so_far.0 c.args.flow.now c.loop-turn.flow w m.0
          so_far.1.number m.1 safe in (
            m.0,
            rw still.call m.1,
            c.in-Err.ensures.err_stands m.0 m.2,
            subst (λ (a : Access g.row.K.Denot g.row.V.Denot g.row.E.Denot).
                TakesCopies a ⊎ g.G.Ground.needs m.0 a) (sym here)
                (c.in-Err.ensures.err_needs m.0 m.2 may),
          )),
      (λ before e. rw (still.call, c.in-Err.ensures.err_account) (so_far.1.told before e)),
    )

pub returns-in-Err-clause-keeps : goal.returns-in-Err-clause-keeps
returns-in-Err-clause-keeps g c = g.met.G.Ground.keeps_on c.args.ground.now c.loop-turn.ground c.step.new.ground c.loop-turn.invariant.1.keeps c.step.ensures.keeps

pub returns-then-not-is_going-clause-keeps : goal.returns-then-not-is_going-clause-keeps
returns-then-not-is_going-clause-keeps g c = g.met.G.Ground.keeps_on c.args.ground.now c.loop-turn.ground c.step.new.ground c.loop-turn.invariant.1.keeps c.step.ensures.keeps
