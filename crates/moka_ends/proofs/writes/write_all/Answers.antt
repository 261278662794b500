-- One more piece is put after those before.
use Rattle.std.proofs.Common.{rules, take, drop, sym, subst, List, ℕ}
use Rattle.std.proofs.lemmas.List.{take_rest}
use Rattle.std.proofs.Math.Seq.{take-add}
use Rattle.moka_ends.specs.Bytes.{Extends}
use Rattle.moka_ends.proofs.TakenAndLeft.{Extends-append}
use Rattle.moka_ends.proofs.writes.write_all.Goals as goal

pub loop-done-preserved : goal.loop-done-preserved
loop-done-preserved g c =
    let n = c.in_ok-count.count in
    let done = c.loop-done.done in
    let bytes = c.args.bytes.now in
    let first = g.S.Sink.written c.args.sink.now in
    let now = g.S.Sink.written c.write.new.self in
    let both = Extends-append first (g.S.Sink.written c.loop-done.sink) now (take done bytes) (take n (drop done bytes)) c.loop-done.invariant.written (rw take_rest at c.in_ok-count.ensures.next) in
    record {
      within = search rules;
      written = subst (λ (xs : List ℕ). Extends first xs now) (sym (take-add done n bytes)) both;
      faults = search rules;
    }
