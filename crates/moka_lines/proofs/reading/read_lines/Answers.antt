-- A line more is said, or this is the first bad one.
use Rattle.std.proofs.Common.{◌≡◌, ◌<◌, ◌++◌, ◌∷◌, [], length, length-append, map, sym, ap, ◌∙◌, subst, arith}
use Rattle.moka_lines.specs.Lines.{AreInPlace, lines}
use Rattle.moka_lines.proofs.InPlace.{is_bad, more_said, none_of, one_more, some_of}
use Rattle.moka_lines.proofs.reading.read_lines.Goals as goal

pub returns-in_default-clause-bad_line : goal.returns-in_default-clause-bad_line
returns-in_default-clause-bad_line g c = λ line e.
    let some : 0 < length c.loop-rest.rest.now = grind (arith, c.loop-rest-test.ensures) in
    let same : line ≡ c.loop-rest.number = cc in
    is_bad g.G.Grammar.spell g.G.Grammar.fits c.args.text.now c.loop-rest.rest.now c.cut_line.result.0.now c.loop-rest.said.items c.loop-rest.invariant.split some c.cut_line.ensures.front
    c.loop-rest.number line c.loop-rest.invariant.place same c.loop-rest.invariant.fit
    (none_of c.in_ok-line.field-0 c.in_default.is c.in_ok-line.ensures.none c.loop-rest.said.items c.loop-rest.invariant.read)

pub loop-rest-preserved : goal.loop-rest-preserved
loop-rest-preserved g c =
    let some : 0 < length c.loop-rest.rest.now = grind (arith, c.loop-rest-test.ensures) in
    let said = c.loop-rest.said.items in
    let line = c.in-Some.line in
    let spelled = some_of _ c.in_ok-line.field-0 line c.in-Some.is c.in_ok-line.ensures.spelled in
    let fits = some_of _ c.in_ok-line.field-0 line c.in-Some.is c.in_ok-line.ensures.fits said c.loop-rest.invariant.read in
    let goes = some_of _ c.in_ok-line.field-0 line c.in-Some.is c.in_ok-line.ensures.goes_on said c.loop-rest.invariant.read in
    let items = c.in_ok-push.ensures.items in
    record {
      split =
          more_said g.G.Grammar.spell g.G.Grammar.fits c.args.text.now c.loop-rest.rest.now c.cut_line.result.0.now said c.loop-rest.invariant.split some c.cut_line.ensures.front
          line c.cut_line.result.1.now c.cut_line.ensures.rest spelled
          ∙ ap (λ s. map g.G.Grammar.spell s ++ lines c.cut_line.result.1.now) (sym items);
      fit = subst (AreInPlace g.G.Grammar.fits []) (sym items) (one_more g.G.Grammar.fits said line c.loop-rest.invariant.fit fits);
      read = subst (g.G.Grammar.has_read c.read.new.self) (sym items) goes;
      place = omega (arith, c.loop-rest.invariant.place, ap length items, length-append said (line ∷ []));
      count = let less = c.cut_line.ensures.shorter some in omega (arith, c.loop-rest.invariant.count);
    }
