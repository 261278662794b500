-- The clock has moved on.
use Rattle.std.proofs.Common.{◌≡◌, Bool, false, cond, nat_lt, refl, sym, subst, ◌∙◌}
use Rattle.moka_hist.specs.Run.{at_moment}
use Rattle.moka_desk.specs.StandsFor as desk
use Rattle.moka_machine.proofs.Happening.{match_false, not_true}
use Rattle.moka_machine.proofs.machine.Machine.at.Goals as goal

pub returns-then-at : goal.returns-then-at
returns-then-at g c = λ s h reached.
    let w = s.world.desk in
    let e : nat_lt c.args.moment w.clock ≡ false = not_true (nat_lt c.args.moment w.clock) (sym (c.at.ensures.finds w h.world.desk) ∙ c.if-at.true) in (
      at_moment s c.args.moment,
      match_false _ _ _ e (record { reply = refl; after = refl }),
      record {
        world = record {
          table = h.world.table;
          handed = h.world.handed;
          stay = h.world.stay;
          desk = subst (λ (b : Bool). desk.StandsFor g.K.PartialEq.eq c.at.new.self (cond b w (record w { clock = c.args.moment }))) e (c.at.ensures.makes w h.world.desk);
        };
        calls = h.calls;
        each = h.each;
        used = h.used;
        history = c.at.ensures.kept ∙ h.history;
      },
    )
