-- The end of a notice is told in the world that is kept.
use Rattle.std.proofs.Common.{◌≡◌, ℕ, Option, Some, None, IfNone, refl, sym, ap, ◌∙◌, subst}
use Rattle.moka_hist.specs.State.{DeskPart}
use Rattle.moka_hist.specs.Visits.{is_running}
use Rattle.moka_hist.specs.Telling.{is_asked, told}
use Rattle.moka_desk.specs.StandsFor.{StandsFor}
use Rattle.moka_kept.specs.Taking.{end_told}
use Rattle.moka_kept.specs.declared.heard.ListenerEnd.{ListenerEnd}
use Rattle.moka_kept.specs.declared.heard.ListenerEnd.TheVariants as end
use Rattle.std.proofs.Common.{nat_eq}
use Rattle.std.specs.HashMap.{get}
use Rattle.moka_kept.proofs.Keeping.{kept_told}
use Rattle.moka_kept.proofs.ground.Reach.hear.Goals as goal

pub returns-clause-kept : goal.returns-clause-kept
returns-clause-kept g c =
    kept_told g.K.PartialEq.eq g.P.Fact.holds (get nat_eq c.args.self.now.ends) c.args.self.now.layers c.tell.new.self c.args.notice c.told_by.result c.tell.result c.telling_keeps_sound.ensures.sound c.tell.ensures.makes c.requires

pub returns-clause-told : goal.returns-clause-told
returns-clause-told g c = λ w stands.
    subst (λ t. StandsFor g.K.PartialEq.eq c.tell.new.self (told w c.args.notice t)) c.told_by.ensures (c.in_ok-tell.ensures.makes w stands)

-- the listener is asked as long as the notice runs
running_asked : {K V E : Type 0} (w : DeskPart K V E) (n : ℕ) (ended : ListenerEnd) → is_running w n ≡ is_asked w n (end_told ended)
running_asked w n end.Done = refl
running_asked w n end.Off = refl

when_none : {A : Type 0} (o : Option A) (P : Type 0) → P → IfNone o P
when_none None P p = p
when_none (Some a) P p = tt

pub returns-in_err-tell-clause-refused : goal.returns-in_err-tell-clause-refused
returns-in_err-tell-clause-refused g c = when_none c.from_residual.result _ (λ w stands.
    running_asked w c.args.notice c.args.end ∙ (ap (λ t. is_asked w c.args.notice t) (sym c.told_by.ensures) ∙ sym (c.in_err-tell.ensures.finds w stands)))
