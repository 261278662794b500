-- The moments that are forgotten are those of what has left.
use Rattle.std.proofs.Common.{◌&&◌, not, cond, None, nat_eq, sym, ap, ◌∙◌}
use Rattle.std.specs.HashMap.{get}
use Rattle.std.specs.List.{list_any}
use Rattle.moka_desk.specs.Forgetting.{has_left, is_kept, names}
use Rattle.moka_desk.specs.Writes.{write_part}
use Rattle.moka_desk.proofs.state.Desk.forget_left.Goals as goal

pub returns-clause-makes : goal.returns-clause-makes
returns-clause-makes g c = λ w h.
    let s = c.args.self.now in
    record {
      rules = h.rules;
      clock = h.clock;
      valid_after = h.valid_after;
      predicates = h.predicates;
      accessed = λ keeps n.
          c.forget_listed.ensures n
          ∙ ap (λ b. cond (not b && (list_any (names n) s.writes.applied.writes.items && not (is_kept s.writes n))) None (get nat_eq s.accessed n)) (sym c.if-self.false)
          ∙ ap (λ o. cond (has_left s.writes n) None o) (h.accessed keeps n);
      turn = h.turn;
      published = h.published;
      last = h.last;
      writes = c.give_list_up.ensures.makes (write_part w) h.writes;
      loads = h.loads;
      locks = h.locks;
      notices = h.notices;
      asks = h.asks;
      listed = h.listed;
    }
