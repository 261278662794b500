use Rattle.std.proofs.Common.{◌≡◌, ◌+◌, ◌++◌, ◌≤◌, [], length, map}
use Rattle.moka_lines.specs.Lines.{AreInPlace, lines}
use Rattle.moka_lines.proofs.reading.read_lines.Given as goal

abbrev pub invariant-loop-rest : goal.invariant-loop-rest
invariant-loop-rest g l =
    record {
      split : lines l.fn.text ≡ map g.G.Grammar.spell l.said.items ++ lines l.rest;
      fit : AreInPlace g.G.Grammar.fits [] l.said.items;
      read : g.G.Grammar.has_read l.grammar l.said.items;
      place : l.number ≡ length l.said.items + 1;
      count : l.number + length l.rest ≤ length l.fn.text + 1;
    }

abbrev pub decreases-loop-rest : goal.decreases-loop-rest
decreases-loop-rest g l = length l.rest
