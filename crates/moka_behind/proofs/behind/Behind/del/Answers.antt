-- The write is the last of all.
use Rattle.std.proofs.Common.{None}
use Rattle.moka_keepers.specs.Writes.{write_of}
use Rattle.moka_behind.proofs.Behinds.{holds_after, usable_after, wrote_so}
use Rattle.moka_behind.proofs.behind.Behind.del.Goals as goal

pub returns-clause-del : goal.returns-clause-del
returns-clause-del c =
    wrote_so c.write.result c.args.self.now c.write.new.self (write_of c.args.key None) c.write.ensures.spent
    c.write.ensures.unsent c.write.ensures.made

pub returns-clause-usable : goal.returns-clause-usable
returns-clause-usable c =
    usable_after c.write.result c.args.self.now c.write.new.self c.write.ensures.spent c.write.ensures.stays
    c.requires.usable
    (holds_after c.write.result c.args.self.now c.write.new.self (write_of c.args.key None)
    c.write.ensures.made)
