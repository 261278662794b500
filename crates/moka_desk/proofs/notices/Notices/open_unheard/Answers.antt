use Rattle.std.proofs.Common.{◌≡◌, true, false, is_some, refl, sym, ap, ◌∙◌, nat_eq, None}
use Rattle.std.specs.HashMap.{get, spare}
use Rattle.std.proofs.lemmas.Bool.{false≢true}
use Rattle.moka_hist.specs.declared.notices.Notice.{Notice}
use Rattle.moka_hist.specs.declared.notices.NoticeState.TheVariants as notice
use Rattle.moka_desk.specs.Notices.{heard_in, running}
use Rattle.moka_desk.proofs.Noticed.{listed_runs, none_left, none_told, opened_runs}
use Rattle.moka_desk.proofs.Outcomes.{on_err}
use Rattle.moka_desk.proofs.notices.Notices.open_unheard.Goals as goal

pub returns-then-self-clause-ok : goal.returns-then-self-clause-ok
returns-then-self-clause-ok g c = λ heard p h free.
    let s = c.args.self.now in
    let off : p.off ≡ true = sym h.off ∙ c.if-self.true in
    let x : Notice g.row.K.Denot g.row.V.Denot = record { number = c.args.number; key = heard.key; value = heard.value; cause = heard.cause; state = notice.Skipped } in
    let none = none_told (get nat_eq s.running) p.notices c.args.number h.running free in
    record {
      running = λ n. rw off (listed_runs (get nat_eq s.running) p.notices c.args.number h.running x refl (get nat_eq s.running) none (λ m e. refl) n);
      heard = λ whole. absurd (false≢true (sym c.requires ∙ whole));
      past = λ whole. absurd (false≢true (sym c.requires ∙ whole));
      opened = λ whole. absurd (false≢true (sym c.requires ∙ whole));
      off = h.off;
    }

pub returns-clause-ok : goal.returns-clause-ok
returns-clause-ok g c = λ heard p h free.
    let off : p.off ≡ false = sym h.off ∙ c.if-self.false in
    record {
      running = λ n.
          rw (off, c.put.ensures.updates.0 n)
          (opened_runs (get nat_eq c.reserve.new.self) p.notices c.args.number (λ m. ap is_some (c.reserve.ensures.entries.2 m) ∙ h.running m) None (running c.args.number heard) refl n);
      heard = λ whole. absurd (false≢true (sym c.requires ∙ whole));
      past = λ whole. absurd (false≢true (sym c.requires ∙ whole));
      opened = λ whole. absurd (false≢true (sym c.requires ∙ whole));
      off = h.off;
    }

pub returns-in_err-reserve-clause-err : goal.returns-in_err-reserve-clause-err
returns-in_err-reserve-clause-err g c = on_err c.from_residual.result (λ p h. record {
  running = λ n. ap is_some (c.reserve.ensures.entries.2 n) ∙ h.running n;
  heard = λ whole n. ap (heard_in n) (c.reserve.ensures.entries.2 n) ∙ h.heard whole n;
  past = h.past;
  opened = h.opened;
  off = h.off;
})

pub returns-in_err-reserve-clause-needs : goal.returns-in_err-reserve-clause-needs
returns-in_err-reserve-clause-needs g c = on_err c.from_residual.result (none_left (spare c.args.self.now.running) (λ few. false≢true (c.in_err-reserve.ensures.succeeds few)))
