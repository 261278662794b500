-- A change beside what was begun leaves layers that stand for some world.
use Rattle.moka_walk_cases.proofs.Standing.{may_go_on, stands_after}
use Rattle.moka_walk_cases.proofs.changes.change.Goals as goal

pub change_table-requires : goal.change_table-requires
change_table-requires g c = record { goes = may_go_on g.T.Table c.args.layers.now c.requires.stands }

pub returns : goal.returns
returns g c = record {
  stands = stands_after g.T.Table c.args.layers.now c.change_table.new.table c.requires.stands c.change_table.ensures.goes
      c.change_table.ensures.first c.change_table.ensures.parts c.change_table.ensures.part_of;
}
