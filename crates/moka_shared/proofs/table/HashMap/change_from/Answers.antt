use Rattle.moka_shared.proofs.table.HashMap.change_from.Goals as goal

pub returns-in-Done-clause-answers : goal.returns-in-Done-clause-answers
returns-in-Done-clause-answers g c =
    let here = c.requires.here in
    record {
      pair = here.pair;
      same = here.same;
      value_is = here.value_is;
      makes = c.in-Done.ensures.puts here.pair here.named;
    }

pub returns-in-Missed-clause-answers : goal.returns-in-Missed-clause-answers
returns-in-Missed-clause-answers g c = c.in-Missed.ensures.puts c.requires.here.pair c.requires.here.named

pub returns-in-Memory-clause-answers : goal.returns-in-Memory-clause-answers
returns-in-Memory-clause-answers g c = c.in-Memory.ensures.puts c.requires.here.pair c.requires.here.named

pub returns-in-Done-clause-exchange : goal.returns-in-Done-clause-exchange
returns-in-Done-clause-exchange g c = (c.in-Done.ensures.exchange, (c.args.number, c.requires.stored))

pub returns-in-Missed-clause-exchange : goal.returns-in-Missed-clause-exchange
returns-in-Missed-clause-exchange g c = (c.in-Missed.ensures.exchange, (c.args.number, c.requires.stored))
