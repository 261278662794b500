use Rattle.std.proofs.Common.{◌≡◌, true, sym, subst}
use Rattle.moka_hist.specs.Visits.{number_of}
use Rattle.moka_desk.specs.Writes.{write_part}
use Rattle.moka_desk.specs.Held.{holds_number}
use Rattle.moka_desk.proofs.Allowed.{holds_its_own}
use Rattle.moka_desk.proofs.state.Desk.post_write.Goals as goal

pub post-requires : goal.post-requires
post-requires g c =
    let w = c.requires.0 in
    let h = c.requires.1 in
    subst (λ o. holds_number c.args.call (number_of c.args.write) o ≡ true) (sym (h.writes.holding c.args.call)) (holds_its_own (w.holding c.args.call) c.args.call c.args.write c.requires.2)

pub returns-clause-makes : goal.returns-clause-makes
returns-clause-makes g c = λ w h may. record {
  rules = h.rules;
  clock = h.clock;
  valid_after = h.valid_after;
  predicates = h.predicates;
  accessed = h.accessed;
  turn = h.turn;
  published = h.published;
  last = h.last;
  writes = c.post.ensures.makes (write_part w) h.writes;
  loads = h.loads;
  locks = h.locks;
  notices = h.notices;
  asks = h.asks;
  listed = h.listed;
}
