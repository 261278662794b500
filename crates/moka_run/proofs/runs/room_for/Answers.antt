-- What one event more tells is copied behind the others.
use Rattle.std.proofs.Common.{◌≡◌, ◌+◌, List, [], ◌∷◌, ◌++◌, take, sym, ap, ◌∙◌}
use Rattle.std.proofs.lemmas.List.{take_more, take_all}
use Rattle.moka_hist.specs.declared.events.Event.{Event}
use Rattle.moka_hist.specs.declared.events.Told.{Told}
use Rattle.moka_run.specs.Running.{told_by, told_in}
use Rattle.moka_run.proofs.Tellings.{told_one_more}
use Rattle.moka_run.proofs.runs.room_for.Goals as goal

pub loop-event-preserved : goal.loop-event-preserved
loop-event-preserved g c =
    let i = c.loop-event.event-index in
    let e = c.event-item.result in
    let events : take (i + 1) c.args.events.now ≡ take i c.args.events.now ++ e ∷ [] =
    take_more c.args.events.now i e c.loop-event-test.true ∙ ap (λ x. take i c.args.events.now ++ x ∷ []) (sym c.event-item.is) in
    record {
      copied = c.in_ok-copy_told.ensures ∙ ap (λ (l : List (Told g.row.V.Denot g.row.E.Denot)). l ++ told_by e) c.loop-event.invariant.copied
          ∙ sym (told_one_more (take i c.args.events.now) e) ∙ ap (λ (es : List (Event g.row.K.Denot g.row.V.Denot g.row.E.Denot)). told_in es) (sym events);
    }

pub returns-clause-told : goal.returns-clause-told
returns-clause-told g c =
    c.loop-event.invariant.copied ∙ ap (λ (es : List (Event g.row.K.Denot g.row.V.Denot g.row.E.Denot)). told_in es) (take_all c.loop-event.event-index c.args.events.now c.loop-event-test.false)
