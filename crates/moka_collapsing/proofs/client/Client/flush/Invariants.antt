use Rattle.std.proofs.Common.{◌≡◌, ◌++◌, length}
use Rattle.std.specs.String.{string_bytes}
use Rattle.moka_collapsing.specs.Clients.{due_bytes, flushed}
use Rattle.moka_collapsing.proofs.client.Client.flush.Given as goal

abbrev pub invariant-loop-answer : goal.invariant-loop-answer
invariant-loop-answer l =
    record {
      bytes : string_bytes l.text ++ due_bytes l.self ≡ due_bytes l.fn.self;
      left : flushed l.self ≡ flushed l.fn.self;
    }

abbrev pub decreases-loop-answer : goal.decreases-loop-answer
decreases-loop-answer l = length l.self.requests
