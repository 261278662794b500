use Rattle.std.proofs.Common.{ap}
use Rattle.moka_shelf.specs.Looks.{hiding}
use Rattle.moka_words.specs.Words.{node_of}
use Rattle.moka_shared.specs.Tables.{names_of}
use Rattle.moka_shared.proofs.Shown.{stops_shown}
use Rattle.moka_shared.proofs.table.HashMap.meets.Goals as goal

pub returns-in-Live-clause-stops : goal.returns-in-Live-clause-stops
returns-in-Live-clause-stops g c =
    stops_shown (names_of c.args.self.now.book) c.args.word c.in-Live.number (ap node_of c.in-Live.is) (hiding g.L.Shelf.hidden g.L.Shelf.last c.args.hidden.now) (hiding g.L.Shelf.hidden g.L.Shelf.last c.tests.new.hidden) c.tests.result c.tests.ensures.shows

pub returns-in-Tomb-clause-stops : goal.returns-in-Tomb-clause-stops
returns-in-Tomb-clause-stops g c =
    stops_shown (names_of c.args.self.now.book) c.args.word c.in-Tomb.number (ap node_of c.in-Tomb.is) (hiding g.L.Shelf.hidden g.L.Shelf.last c.args.hidden.now)
    (hiding g.L.Shelf.hidden g.L.Shelf.last c.tests-in-Tomb.new.hidden) c.tests-in-Tomb.result
    c.tests-in-Tomb.ensures.shows
