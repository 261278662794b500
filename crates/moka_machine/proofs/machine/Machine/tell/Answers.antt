-- The ask is answered, or none is open that takes the answer.
use Rattle.std.proofs.Common.{◌≡◌, Bool, true, false, cond, refl, sym, subst, ◌∙◌}
use Rattle.moka_hist.specs.Run.{with_desk}
use Rattle.moka_hist.specs.Telling.{is_asked, told}
use Rattle.moka_desk.specs.StandsFor as desk
use Rattle.moka_machine.specs.Machine.{MachineIs}
use Rattle.moka_machine.specs.declared.machine.Machine.{Machine}
use Rattle.moka_machine.proofs.Happening.{match_true, match_false}
use Rattle.moka_machine.proofs.Telling.{told_stands, still_stands}
use Rattle.moka_machine.proofs.machine.Machine.tell.Goals as goal

pub returns-then-tell_desk : goal.returns-then-tell_desk
returns-then-tell_desk g c = λ s h reached.
    let eq = g.K.PartialEq.eq in
    let w = s.world.desk in
    let n = c.args.call in
    let a = c.args.answer in
    let d = c.tell_desk.new.self.layers.desk in
    let e : is_asked w n a ≡ true = sym (c.tell_desk.ensures.finds w h.world.desk) ∙ c.if-tell_desk.true in
    let stands : desk.StandsFor eq d (told w n a) =
    subst (λ (b : Bool). desk.StandsFor eq d (cond b (told w n a) w)) c.if-tell_desk.true (c.tell_desk.ensures.makes w h.world.desk) in (
      with_desk s (told w n a),
      match_true _ _ _ e (record { reply = refl; after = refl }),
      subst (λ (m : Machine g.row.K.Denot g.row.V.Denot g.row.E.Denot g.row.T.Denot g.K.PartialEq g.K.Hash). MachineIs eq g.T.Tests m (with_desk s (told w n a))) (sym c.tell_desk.ensures.rest)
          (told_stands eq g.T.Tests c.args.self.now d s n a h stands (c.tell_desk.ensures.kept ∙ h.history)),
    )

pub returns-else-tell_desk : goal.returns-else-tell_desk
returns-else-tell_desk g c = λ s h reached.
    let eq = g.K.PartialEq.eq in
    let w = s.world.desk in
    let n = c.args.call in
    let a = c.args.answer in
    let d = c.tell_desk.new.self.layers.desk in
    let e : is_asked w n a ≡ false = sym (c.tell_desk.ensures.finds w h.world.desk) ∙ c.if-tell_desk.false in
    let stands : desk.StandsFor eq d w =
    subst (λ (b : Bool). desk.StandsFor eq d (cond b (told w n a) w)) c.if-tell_desk.false (c.tell_desk.ensures.makes w h.world.desk) in (
      s,
      match_false _ _ _ e (record { reply = refl; same = refl }),
      subst (λ (m : Machine g.row.K.Denot g.row.V.Denot g.row.E.Denot g.row.T.Denot g.K.PartialEq g.K.Hash). MachineIs eq g.T.Tests m s) (sym c.tell_desk.ensures.rest)
          (still_stands eq g.T.Tests c.args.self.now d s h stands (c.tell_desk.ensures.kept ∙ h.history)),
    )
