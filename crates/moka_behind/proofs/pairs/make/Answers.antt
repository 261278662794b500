-- A write's call is run to its end.
use Rattle.std.proofs.Common.{◌∙◌, ap}
use Rattle.moka_small.specs.Small.{is_plain_start}
use Rattle.moka_behind.proofs.Running.{made_holds, start_by-plain}
use Rattle.moka_behind.proofs.pairs.make.Goals as goal

pub run-requires : goal.run-requires
run-requires c = record {
  plain = ap is_plain_start c.start_of.ensures ∙ start_by-plain c.args.write.key c.args.write.value;
  stands = (c.requires.1.small, c.requires.1.stands);
}

pub returns : goal.returns
returns c = λ ps h.
    made_holds c.run.new.pairs c.args.pairs.now c.args.write c.start_of.result ps c.in_ok-_done._done.0 c.in_ok-_done._done.1
    c.start_of.ensures c.in_ok-_done.ensures h
