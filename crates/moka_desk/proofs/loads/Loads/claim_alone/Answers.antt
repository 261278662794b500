-- Where another call owns the load nothing changes.
use Rattle.std.proofs.Common.{◌≡◌, ℕ, true, false, Option, Some, None, is_some, sym, ap, ◌∙◌}
use Rattle.std.proofs.lemmas.Bool.{false≢true}
use Rattle.moka_hist.specs.State.{DeskPart}
use Rattle.moka_hist.specs.Visits.{claimed_alone}
use Rattle.moka_desk.specs.Loads.{load_part, LoadsAre}
use Rattle.moka_desk.proofs.SameLoads.{get_same}
use Rattle.moka_desk.proofs.loads.Loads.claim_alone.Goals as goal

pub returns-then-contains_key-clause-ok : goal.returns-then-contains_key-clause-ok
returns-then-contains_key-clause-ok g c = λ w h.
    let eq = g.K.PartialEq.eq in
    let load = c.args.load in
    let owned : is_some (w.owners load) ≡ true =
    ap is_some (sym (h.owners load) ∙ get_same eq c.args.self.now.owners load) ∙ sym c.contains_key.ensures ∙ c.if-contains_key.true in
    by w h (w.owners load) owned
  where
    by : (w : _) (h : LoadsAre g.K.PartialEq.eq c.args.self.now (load_part w)) (o : Option ℕ) → is_some o ≡ true →
        LoadsAre g.K.PartialEq.eq c.args.self.now (load_part (claimed_alone g.K.PartialEq.eq w c.args.call c.args.load o))
    by w h None e = absurd (false≢true e)
    by w h (Some owner) e = h

pub returns-clause-ok : goal.returns-clause-ok
returns-clause-ok g c = λ w h.
    let eq = g.K.PartialEq.eq in
    let load = c.args.load in
    let free : is_some (w.owners load) ≡ false =
    ap is_some (sym (h.owners load) ∙ get_same eq c.args.self.now.owners load) ∙ sym c.contains_key.ensures ∙ c.if-contains_key.false in
    by w (c.in_ok-own.ensures.ok (load_part w) h) (w.owners load) free
  where
    by : (w : DeskPart g.row.K.Denot g.row.V.Denot g.row.E.Denot)
        → LoadsAre g.K.PartialEq.eq c.own.new.self (load_part (claimed_alone g.K.PartialEq.eq w c.args.call c.args.load None))
        → (o : Option ℕ) → is_some o ≡ false →
        LoadsAre g.K.PartialEq.eq c.own.new.self (load_part (claimed_alone g.K.PartialEq.eq w c.args.call c.args.load o))
    by w h None e = h
    by w h (Some owner) e = absurd (false≢true (sym e))
