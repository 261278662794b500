use Rattle.std.proofs.Common.{◌≡◌, take}
use Rattle.moka_requests.specs.Requests.{new_requests, unfinished_after}
use Rattle.moka_requests.proofs.reader.Reader.read.Given as goal

abbrev pub invariant-loop-byte : goal.invariant-loop-byte
invariant-loop-byte l =
    record {
      requests : l.requests.items ≡ new_requests l.fn.self (take l.byte-index l.bytes);
      unfinished : l.self ≡ unfinished_after l.fn.self (take l.byte-index l.bytes);
    }
