-- A look leaves the world that is kept, and tells what each world has that the layers stand for.
use Rattle.std.proofs.Common.{nat_eq, ◌∙◌, ap, sym}
use Rattle.std.specs.HashMap.{get}
use Rattle.std.specs.Option.{option_map}
use Rattle.moka_kept.specs.Counts.{mark_of}
use Rattle.moka_kept.specs.Counts.{shows}
use Rattle.moka_kept.proofs.Looks.{kept_table, sees_there, shown_meets}
use Rattle.moka_kept.proofs.ground.Reach.contains_key.Goals as goal

pub returns-clause-kept : goal.returns-clause-kept
returns-clause-kept g c =
    kept_table g.K.PartialEq.eq g.P.Fact.holds (get nat_eq c.args.self.now.ends) c.args.self.now.layers c.find_mark.new.table c.find_mark.ensures.map c.find_mark.ensures.count c.find_mark.ensures.peak c.requires.kept

pub returns-in_err-mark-clause-kept : goal.returns-in_err-mark-clause-kept
returns-in_err-mark-clause-kept g c =
    kept_table g.K.PartialEq.eq g.P.Fact.holds (get nat_eq c.args.self.now.ends) c.args.self.now.layers c.find_mark.new.table c.find_mark.ensures.map c.find_mark.ensures.count c.find_mark.ensures.peak c.requires.kept

pub returns-clause-sees : goal.returns-clause-sees
returns-clause-sees g c = λ w stands.
    c.is_shown.ensures w.desk stands.desk
    ∙ ap (shows w.desk) c.in_ok-mark.ensures.there
    ∙ sym (sees_there g.K.PartialEq.eq c.args.self.now.layers w c.args.key.now stands)

pub returns-clause-meets : goal.returns-clause-meets
returns-clause-meets g c = λ there.
    let kept = c.requires.kept in
    let found = c.in_ok-mark.ensures.there ∙ ap (λ o. option_map (λ pair. mark_of pair.1) o) (kept.stands.table.map c.args.key.now) in
    shown_meets g.K.PartialEq.eq g.P.Fact.holds g.met.P.Fact.alike kept.world.table.stored kept.stored kept.world.desk c.args.key.now
    (sym (c.is_shown.ensures kept.world.desk kept.stands.desk ∙ ap (shows kept.world.desk) found) ∙ there)
