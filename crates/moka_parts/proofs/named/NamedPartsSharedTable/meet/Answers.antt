use Rattle.std.proofs.Common.{refl}
use Rattle.moka_parts.proofs.Prefixes.{prefix_trans}
use Rattle.moka_parts.proofs.Histories.{changes_in-prefix}
use Rattle.moka_parts.proofs.named.NamedPartsSharedTable.meet.Goals as goal

pub returns-clause-left : goal.returns-clause-left
returns-clause-left g c = rw (← c.a.view_is, ← c.b.view_is) (
  changes_in-prefix c.a.inside.front c.learn.new.self c.learn.ensures.this,
  changes_in-prefix c.b.inside.front c.learn.new.self c.learn.ensures.other,
)

pub returns-clause-right : goal.returns-clause-right
returns-clause-right g c =
    let b = c.learn-2.new.self in
    rw (← c.a.view_is, ← c.b.view_is) (
      changes_in-prefix c.a.inside.front b (prefix_trans c.a.inside.front c.learn.new.self b c.learn.ensures.this c.learn-2.ensures.other),
      changes_in-prefix c.b.inside.front b c.learn-2.ensures.this,
    )

pub returns-clause-one : goal.returns-clause-one
returns-clause-one g c = changes_in-prefix c.learn.new.self c.learn-2.new.self c.learn-2.ensures.other

pub returns-clause-rests : goal.returns-clause-rests
returns-clause-rests g c = rw (← c.a.view_is, ← c.b.view_is) (refl, refl)
