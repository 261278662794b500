use Rattle.std.proofs.Common.{subst, ◌∙◌}
use Rattle.moka_buckets.specs.KeyOps.{MovesKey}
use Rattle.moka_hist.specs.declared.tables.TableTurn.TheVariants as turn
use Rattle.moka_buckets.specs.Views.{count_of, map_in}
use Rattle.moka_map.proofs.Answering.{moves_same}
use Rattle.moka_map.proofs.running.run.Goals as goal

pub loop-call-preserved : goal.loop-call-preserved
loop-call-preserved g c =
    let map = map_in g.S.BuildHasher g.S.Hasher.Hasher g.K.PartialEq.eq g.K.Hash.hash_input in
    let known = c.loop-call.invariant in
    let stepped = c.in_ok-step_key.ensures in
    let going = subst (λ t. MovesKey g.K.PartialEq.eq c.args.operation (map c.loop-call.table) (count_of c.loop-call.table) t (map c.step_key.new.self) (count_of c.step_key.new.self))
    c.in-Going.is (stepped.moves c.args.operation known.operation) in
    let undecided = stepped.undecided c.in-Going.is in
    record {
      fits = undecided.1;
      operation = undecided.0 ∙ known.operation;
      map = λ q. going.0 q ∙ known.map q;
      count = going.1 ∙ known.count;
      hasher = stepped.hasher ∙ known.hasher;
      segments = stepped.segments ∙ known.segments;
    }

pub returns-in-Decided-clause-ok : goal.returns-in-Decided-clause-ok
returns-in-Decided-clause-ok g c =
    let map = map_in g.S.BuildHasher g.S.Hasher.Hasher g.K.PartialEq.eq g.K.Hash.hash_input in
    let known = c.loop-call.invariant in
    let old = c.args.table.now in
    let mid = c.loop-call.table in
    let new = c.step_key.new.self in
    let decided = turn.Decided c.in-Decided.answer in
    let moves = subst (λ t. MovesKey g.K.PartialEq.eq c.args.operation (map mid) (count_of mid) t (map new) (count_of new))
    c.in-Decided.is (c.in_ok-step_key.ensures.moves c.args.operation known.operation) in
    subst (λ n. MovesKey g.K.PartialEq.eq c.args.operation (map old) n decided (map new) (count_of new)) known.count
    (moves_same g.K.PartialEq.eq (map old) (map mid) known.map c.args.operation (count_of mid) decided (map new) (count_of new) moves)
