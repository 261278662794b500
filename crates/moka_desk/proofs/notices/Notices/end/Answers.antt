use Rattle.std.proofs.Common.{◌≡◌, ◌==◌, ◌||◌, true, cond, Some, is_some, refl, ap, sym, ◌∙◌, nat_eq}
use Rattle.std.specs.HashMap.{get}
use Rattle.std.specs.Option.{option_map}
use Rattle.moka_hist.specs.Finite.{put_at}
use Rattle.moka_hist.specs.Telling.{with_end}
use Rattle.moka_desk.specs.Notices.{heard_in, if_past, running, runs_in}
use Rattle.moka_desk.proofs.Noticed.{gone_at, gone_else, if_some, kept_runs, listed_heard, listed_past, listed_runs, some_runs}
use Rattle.moka_desk.proofs.notices.Notices.end.Goals as goal

pub returns-in-Some-clause-makes : goal.returns-in-Some-clause-makes
returns-in-Some-clause-makes g c = λ p h may.
    let s = c.args.self.now in
    let number = c.args.number in
    let was = c.in-Some.heard in
    let same : c.silence.new.self.running ≡ s.running = ap (λ t. t.running) c.silence.ensures in
    let here : get nat_eq s.running number ≡ Some was = ap (λ m. get nat_eq m number) (sym same) ∙ sym c.remove.ensures.value ∙ c.in-Some.is in
    let on : runs_in (p.notices number) ≡ true = sym (h.running number) ∙ ap is_some here in
    let there = some_runs (p.notices number) on in
    let gone = c.remove.ensures.updates.0 in
    let none = gone_at (get nat_eq c.silence.new.self.running) (get nat_eq c.remove.new.self) number gone in
    let was_kept = λ (whole : c.keep_ended.new.self.history ≡ true). ap (λ t. t.history) (sym c.silence.ensures) ∙ sym c.keep_ended.ensures.kind ∙ whole in
    record {
      running = λ n.
          rw (there.1, c.keep_ended.ensures.running)
          (listed_runs (get nat_eq s.running) p.notices number h.running (with_end there.0) refl (get nat_eq c.remove.new.self) none
          (λ m e. gone_else (get nat_eq c.silence.new.self.running) (get nat_eq c.remove.new.self) number gone m e ∙ ap (λ t. get nat_eq t m) same) n);
      heard = λ whole n.
          rw (there.1, c.keep_ended.ensures.running)
          (listed_heard (get nat_eq s.running) p.notices number (h.heard (was_kept whole)) (with_end there.0) refl (get nat_eq c.remove.new.self) none
          (λ m e. gone_else (get nat_eq c.silence.new.self.running) (get nat_eq c.remove.new.self) number gone m e ∙ ap (λ t. get nat_eq t m) same) n);
      past = λ whole n.
          let kept = kept_runs number was (p.notices number) (ap (heard_in number) (sym here) ∙ h.heard (was_kept whole) number) on in
          let ended = with_end (running number kept.0) in
          let listed = if_some _ was kept.0 kept.1 (c.keep_ended.ensures.past whole) in
          listed n
          ∙ ap (λ m. cond (number == n) (Some ended) (get nat_eq m n)) (ap (λ t. t.past) c.silence.ensures)
          ∙ listed_past (get nat_eq s.past) p.notices (h.past (was_kept whole)) number ended refl n
          ∙ ap (λ o. if_past (put_at p.notices number o n)) (sym (ap (option_map with_end) kept.2));
      opened = λ whole. rw (c.keep_ended.ensures.opened, ap (λ t. t.opened) c.silence.ensures) (h.opened (was_kept whole));
      off = c.keep_ended.ensures.off ∙ ap (λ t. t.off) c.silence.ensures ∙ ap (λ b. b || c.args.off) h.off;
    }
