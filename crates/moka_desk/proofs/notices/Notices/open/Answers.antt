use Rattle.std.proofs.Common.{◌≡◌, true, false, refl, sym, ◌∙◌, nat_eq}
use Rattle.std.specs.HashMap.{get}
use Rattle.moka_hist.specs.declared.notices.Notice.{Notice}
use Rattle.moka_hist.specs.declared.notices.NoticeState.TheVariants as notice
use Rattle.moka_desk.specs.Notices.{running}
use Rattle.moka_desk.proofs.Noticed.{listed_heard, listed_past, listed_runs, none_told, opened_heard, opened_past, opened_runs}
use Rattle.moka_desk.proofs.notices.Notices.open.Goals as goal

pub returns-then-self-clause-ok : goal.returns-then-self-clause-ok
returns-then-self-clause-ok g c = λ p h free.
    let r = c.make_room.ensures.same p h in
    let mid = c.make_room.new.self in
    let off : p.off ≡ true = sym r.off ∙ sym c.list.ensures.off ∙ c.if-self.true in
    let x : Notice g.row.K.Denot g.row.V.Denot = record { number = c.args.number; key = c.args.heard.key; value = c.args.heard.value; cause = c.args.heard.cause; state = notice.Skipped } in
    let none = none_told (get nat_eq mid.running) p.notices c.args.number r.running free in
    record {
      running = λ n.
          rw (off, c.keep.ensures.running, c.list.ensures.running)
          (listed_runs (get nat_eq mid.running) p.notices c.args.number r.running x refl (get nat_eq mid.running) none (λ m e. refl) n);
      heard = λ whole n.
          let listed = sym c.keep.ensures.kind ∙ whole in
          let kept = sym c.list.ensures.kind ∙ listed in
          rw (off, c.keep.ensures.running, c.list.ensures.running)
          (listed_heard (get nat_eq mid.running) p.notices c.args.number (r.heard kept) x refl (get nat_eq mid.running) none (λ m e. refl) n);
      past = λ whole n.
          let listed = sym c.keep.ensures.kind ∙ whole in
          let kept = sym c.list.ensures.kind ∙ listed in
          rw (off, c.keep.ensures.past whole n, c.list.ensures.past)
          (listed_past (get nat_eq mid.past) p.notices (r.past kept) c.args.number x refl n);
      opened = λ whole.
          let listed = sym c.keep.ensures.kind ∙ whole in
          let kept = sym c.list.ensures.kind ∙ listed in
          rw (c.keep.ensures.opened, c.list.ensures.opened listed, r.opened kept) refl;
      off = c.keep.ensures.off ∙ c.list.ensures.off ∙ r.off;
    }

pub returns-clause-ok : goal.returns-clause-ok
returns-clause-ok g c = λ p h free.
    let r = c.make_room.ensures.same p h in
    let mid = c.make_room.new.self in
    let off : p.off ≡ false = sym r.off ∙ sym c.list.ensures.off ∙ c.if-self.false in
    record {
      running = λ n.
          rw (off, c.put.ensures.updates.0 n, c.list.ensures.running)
          (opened_runs (get nat_eq mid.running) p.notices c.args.number r.running c.if_kept-kept.result (running c.args.number c.args.heard) refl n);
      heard = λ whole n.
          let kept = sym c.list.ensures.kind ∙ whole in
          rw (off, c.put.ensures.updates.0 n, c.if_kept-kept.ensures, whole, c.list.ensures.running)
          (opened_heard (get nat_eq mid.running) p.notices c.args.number (r.heard kept) c.args.heard n);
      past = λ whole n.
          let kept = sym c.list.ensures.kind ∙ whole in
          rw (off, c.list.ensures.past) (opened_past (get nat_eq mid.past) p.notices (r.past kept) c.args.number c.args.heard free n);
      opened = λ whole. let kept = sym c.list.ensures.kind ∙ whole in rw (c.list.ensures.opened whole, r.opened kept) refl;
      off = c.list.ensures.off ∙ r.off;
    }
