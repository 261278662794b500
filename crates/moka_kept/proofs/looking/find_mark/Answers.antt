-- The look decides, and changes nothing.
use Rattle.std.proofs.Common.{ap, ◌∙◌, arith}
use Rattle.std.specs.Option.{option_map}
use Rattle.moka_hist.specs.declared.tables.TableOp.TheVariants as op
use Rattle.moka_table.specs.Plain.{map_of}
use Rattle.moka_kept.specs.Counts.{mark_of}
use Rattle.moka_kept.proofs.Looks.{looked_count, looked_found, looked_same}
use Rattle.moka_kept.proofs.looking.find_mark.Goals as goal

pub returns-clause-there : goal.returns-clause-there
returns-clause-there g c =
    let eq = g.K.PartialEq.eq in
    let key = c.in_ok-key.key in
    let moves = c.in_ok-turn.ensures.moves (op.Get key) c.begin-look.ensures.operation in
    c.mark_found.ensures
    ∙ looked_found eq key _ _ _ _ c.in_ok-turn.turn (λ going. let nearer = c.in_ok-turn.ensures.nears going in omega (arith, nearer)) moves
    ∙ ap (λ k. option_map (λ pair. mark_of pair.1) (map_of eq c.args.table.now k)) (g.met.K.Exact.exact _ _ c.in_ok-key.ensures.cases)

pub returns-clause-map : goal.returns-clause-map
returns-clause-map g c =
    looked_same g.K.PartialEq.eq c.in_ok-key.key _ _ _ _ c.in_ok-turn.turn (c.in_ok-turn.ensures.moves (op.Get c.in_ok-key.key) c.begin-look.ensures.operation)

pub returns-clause-count : goal.returns-clause-count
returns-clause-count g c =
    looked_count g.K.PartialEq.eq c.in_ok-key.key _ _ _ _ c.in_ok-turn.turn (c.in_ok-turn.ensures.moves (op.Get c.in_ok-key.key) c.begin-look.ensures.operation)

pub returns-clause-peak : goal.returns-clause-peak
returns-clause-peak g c =
    let peak = c.step.ensures.peak in
    let count = looked_count g.K.PartialEq.eq c.in_ok-key.key _ _ _ _ c.in_ok-turn.turn (c.in_ok-turn.ensures.moves (op.Get c.in_ok-key.key) c.begin-look.ensures.operation) in
    omega (arith, peak, count)
