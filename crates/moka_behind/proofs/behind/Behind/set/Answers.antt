-- The write is the last of all.
use Rattle.std.proofs.Common.{Some}
use Rattle.moka_keepers.specs.Writes.{write_of}
use Rattle.moka_behind.proofs.Behinds.{holds_after, usable_after, wrote_so}
use Rattle.moka_behind.proofs.behind.Behind.set.Goals as goal

pub returns-clause-set : goal.returns-clause-set
returns-clause-set c =
    wrote_so c.write.result c.args.self.now c.write.new.self (write_of c.args.key (Some c.args.value)) c.write.ensures.spent
    c.write.ensures.unsent c.write.ensures.made

pub returns-clause-usable : goal.returns-clause-usable
returns-clause-usable c =
    usable_after c.write.result c.args.self.now c.write.new.self c.write.ensures.spent c.write.ensures.stays
    c.requires.usable
    (holds_after c.write.result c.args.self.now c.write.new.self (write_of c.args.key (Some c.args.value))
    c.write.ensures.made)
