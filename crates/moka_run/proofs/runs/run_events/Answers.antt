-- The run so far, and one event more.
use Rattle.std.proofs.Common.{◌≡◌, ℕ, ◌+◌, List, [], ◌∷◌, ◌++◌, take, drop, length, Some, refl, sym, ap, subst, ◌∙◌, arith}
use Rattle.std.proofs.lemmas.List.{take_more, take_all}
use Rattle.std.proofs.lemmas.Option.{slice_get_read}
use Rattle.std.specs.Prelude.{slice_get}
use Rattle.moka_hist.specs.Places.{IsLawful}
use Rattle.moka_hist.specs.Run.{Run}
use Rattle.moka_hist.specs.declared.events.Event.{Event}
use Rattle.moka_hist.specs.declared.replies.Reply.{Reply}
use Rattle.moka_run.specs.Running.{At_start, told_in}
use Rattle.moka_run.specs.declared.report.Memory.{Memory}
use Rattle.moka_run.proofs.Tellings.{next_told}
use Rattle.moka_run.proofs.Stopping.{stops_between, stops_in, begins_reached}
use Rattle.moka_run.proofs.runs.run_events.Goals as goal

pub returns-in-Err-clause-memory : goal.returns-in-Err-clause-memory
returns-in-Err-clause-memory g c = λ s h reached.
    let at_done : ℕ → Memory g.row.K.Denot g.row.V.Denot g.row.E.Denot = λ n. record { done = n; steps = 0; replies = c.new.result.items } in
    let with_replies : List (Reply g.row.K.Denot g.row.V.Denot g.row.E.Denot) → Memory g.row.K.Denot g.row.V.Denot g.row.E.Denot = λ rs. record { done = 0; steps = 0; replies = rs } in
    stops_between g.K.PartialEq.eq g.T.Tests c.args.cache.now c.args.events.now c.stopped.result 0 [] s s
    (c.stopped.ensures ∙ ap at_done c.new.ensures.len ∙ ap with_replies c.new.ensures.items) refl h (At_start refl refl)

pub loop-event-init : goal.loop-event-init
loop-event-init g c = record {
  told = c.in-Ok.ensures.len;
  room = omega (arith, c.in-Ok.ensures.capacity);
  valid = c.requires.valid;
  ran = λ s h reached. (s, subst (λ (rs : List (Reply g.row.K.Denot g.row.V.Denot g.row.E.Denot)). Run g.K.PartialEq.eq (IsLawful g.K.PartialEq.eq) s [] rs s) (sym c.in-Ok.ensures.empty) refl, h, reached);
  left = c.in-Ok.ensures.told;
}

pub serve_next-requires-clause-front : goal.serve_next-requires-clause-front
serve_next-requires-clause-front g c =
    let i = c.loop-event.event-index in (
      told_in (drop (i + 1) c.args.events.now),
      next_told c.args.events.now i c.event-item.result c.loop-event.told.items c.loop-event-test.true c.event-item.is c.loop-event.invariant.left,
    )

pub returns-in-Err-serve_next-clause-memory : goal.returns-in-Err-serve_next-clause-memory
returns-in-Err-serve_next-clause-memory g c = λ s h reached.
    let i = c.loop-event.event-index in
    let m = c.loop-event.invariant.ran s h reached in
    let k = c.in-Err-serve_next.ensures.stops m.0 m.2 m.3 in
    let at_done : ℕ → Memory g.row.K.Denot g.row.V.Denot g.row.E.Denot = λ n. record { done = n; steps = c.in-Err-serve_next.unfinished.steps; replies = c.loop-event.replies.items } in
    let next : slice_get c.args.events.now i ≡ Some c.event-item.result =
    slice_get_read c.args.events.now (length c.args.events.now) i c.event-item.result refl c.loop-event-test.true c.event-item.is in
    stops_in g.K.PartialEq.eq g.T.Tests c.serve_next.new.cache c.args.events.now c.stopped-in-Err-serve_next.result i c.in-Err-serve_next.unfinished.steps c.loop-event.replies.items s m.0 k.0 c.event-item.result
    (c.stopped-in-Err-serve_next.ensures ∙ ap at_done c.loop-event.invariant.told) m.1 next (λ j n going. (c.steps_are_lawful.ensures.lawful j m.0 k.0 n m.3).0 going) k.1 k.2 (c.in-Err-serve_next.ensures.needs k.0 k.2)

pub returns-in-Err-serve_next-clause-valid : goal.returns-in-Err-serve_next-clause-valid
returns-in-Err-serve_next-clause-valid g c =
    let v = c.loop-event.invariant.valid in
    let k = c.in-Err-serve_next.ensures.stops v.state v.stands v.reached in
    let steps = c.in-Err-serve_next.unfinished.steps in
    record {
      state = k.0;
      stands = k.2;
      reached = begins_reached g.K.PartialEq.eq v.state k.0 c.event-item.result steps v.reached (λ j n going. c.reached_by_steps.ensures.reached j v.state k.0 n v.reached going) k.1;
    }

pub loop-event-preserved : goal.loop-event-preserved
loop-event-preserved g c =
    let i = c.loop-event.event-index in
    let e = c.event-item.result in
    let r = c.in-Ok-serve_next.reply in
    let v = c.loop-event.invariant.valid in
    let p = c.in-Ok-serve_next.ensures.serves v.state v.stands v.reached in
    record {
      told = c.push_reserved.ensures.len ∙ ap (λ (n : ℕ). n + 1) c.loop-event.invariant.told;
      room = omega (arith, c.push_reserved.ensures.capacity, c.loop-event.invariant.room);
      left = c.serve_next.ensures.rest (told_in (drop (i + 1) c.args.events.now))
          (next_told c.args.events.now i e c.loop-event.told.items c.loop-event-test.true c.event-item.is c.loop-event.invariant.left);
      valid = record { state = p.0; stands = p.2; reached = c.reached_by_event.ensures.reached v.state p.0 e r v.reached p.1 };
      ran = λ s h reached.
          let m = c.loop-event.invariant.ran s h reached in
          let k = c.in-Ok-serve_next.ensures.serves m.0 m.2 m.3 in
          let there = c.reached_by_event.ensures.reached m.0 k.0 e r m.3 k.1 in
          let more = c.lawful_run_goes_on.ensures.goes_on s m.0 k.0 (take i c.args.events.now) c.loop-event.replies.items e r m.1
          ((c.event_is_lawful.ensures.lawful m.0 k.0 e r m.3).0 k.1) (c.reached_is_lawful.ensures.lawful k.0 there) in
          let events : take (i + 1) c.args.events.now ≡ take i c.args.events.now ++ e ∷ [] =
          take_more c.args.events.now i e c.loop-event-test.true ∙ ap (λ x. take i c.args.events.now ++ x ∷ []) (sym c.event-item.is) in (
            k.0,
            subst (λ (rs : List (Reply g.row.K.Denot g.row.V.Denot g.row.E.Denot)). Run g.K.PartialEq.eq (IsLawful g.K.PartialEq.eq) s (take (i + 1) c.args.events.now) rs k.0) (sym c.push_reserved.ensures.items)
                (subst (λ (es : List (Event g.row.K.Denot g.row.V.Denot g.row.E.Denot)). Run g.K.PartialEq.eq (IsLawful g.K.PartialEq.eq) s es (c.loop-event.replies.items ++ r ∷ []) k.0) (sym events) more),
            k.2,
            there,
          );
    }

pub returns-clause-run : goal.returns-clause-run
returns-clause-run g c = λ s h reached.
    let m = c.loop-event.invariant.ran s h reached in
    record {
      final = m.0;
      run = subst (λ (es : List (Event g.row.K.Denot g.row.V.Denot g.row.E.Denot)). Run g.K.PartialEq.eq (IsLawful g.K.PartialEq.eq) s es c.loop-event.replies.items m.0) (take_all c.loop-event.event-index c.args.events.now c.loop-event-test.false) m.1;
      stands = m.2;
    }
