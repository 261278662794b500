use Rattle.std.proofs.Common.{◌≡◌, ℕ, ◌==◌, Bool, true, false, refl, ap, subst, sym, ◌∙◌}
use Rattle.std.proofs.lemmas.Bool.{eqb-true}
use Rattle.std.specs.Bool.{OnTrue}
use mathlib.Core.List.{IsPrefix}
use Rattle.moka_parts.specs.Hashing.{part_in}
use Rattle.moka_parts.specs.Logs.{Counts}
use Rattle.moka_parts.proofs.Prefixes.{prefix_trans}
use Rattle.moka_parts.proofs.Steps.{look_moves}
use Rattle.moka_parts.proofs.front.Front.sees.Goals as goal

pub load-requires : goal.load-requires
load-requires g c =
    let h = c.requires.word.0 in
    let offer = c.plain-offer.ensures in
    let part = part_in g.S.BuildHasher g.S.Hasher.Hasher g.K.Hash.hash_input in (
      ap (λ w. w.tracked) h,
      c.self.invariant.0 ∙ sym (ap (λ w. w.book) h),
      offer.0,
      rw (ap (λ w. w.key) h, offer.3) (look_moves g.K.PartialEq.eq part c.self.inside.seen.log c.args.number c.plain-offer.result.ask c.requires.word.1),
    )

pub invariant_of-self : goal.invariant_of-self
invariant_of-self g c =
    let told = c.load.ensures.6.1 in
    (c.load.ensures.0 ∙ c.self.invariant.0, record { hasher = told.0; opened = told.1.opened; legal = told.1.legal })

pub returns-then-number-asked-clause-grows : goal.returns-then-number-asked-clause-grows
returns-then-number-asked-clause-grows g c = prefix_trans c.args.self.now c.learn.new.self c.learn-2.new.self c.learn.ensures.this c.learn-2.ensures.this

pub returns-then-number-asked-clause-start : goal.returns-then-number-asked-clause-start
returns-then-number-asked-clause-start g c = prefix_trans c.args.start.now c.learn.new.self c.learn-2.new.self c.learn.ensures.other c.learn-2.ensures.this

pub returns-clause-grows : goal.returns-clause-grows
returns-clause-grows g c =
    let now : IsPrefix c.learn-2.new.self c.load.new.seen.log = rw (← c.self.view_is) c.load.ensures.5 in
    prefix_trans c.args.self.now c.learn-2.new.self c.load.new.seen.log (prefix_trans c.args.self.now c.learn.new.self c.learn-2.new.self c.learn.ensures.this c.learn-2.ensures.this) now

pub returns-clause-start : goal.returns-clause-start
returns-clause-start g c =
    let now : IsPrefix c.learn-2.new.self c.load.new.seen.log = rw (← c.self.view_is) c.load.ensures.5 in
    prefix_trans c.args.start.now c.learn-2.new.self c.load.new.seen.log (prefix_trans c.args.start.now c.learn.new.self c.learn-2.new.self c.learn.ensures.other c.learn-2.ensures.this) now

pub returns-clause-front : goal.returns-clause-front
returns-clause-front g c =
    let now : IsPrefix c.learn-2.new.self c.load.new.seen.log = rw (← c.self.view_is) c.load.ensures.5 in
    prefix_trans c.args.front.now c.learn-2.new.self c.load.new.seen.log c.learn-2.ensures.other now

pub returns-clause-counts : goal.returns-clause-counts
returns-clause-counts g c =
    let eq = g.K.PartialEq.eq in
    let part = part_in g.S.BuildHasher g.S.Hasher.Hasher g.K.Hash.hash_input in
    let new = c.load.new.seen.log in
    let at : c.args.word.now.key ≡ c.args.asked = ap (λ w. w.key) c.requires.word.0 ∙ c.if-number-asked.false in
    let counts : (s : g.row.S.Denot) × Counts eq part s c.args.asked c.load.result new = subst (λ (n : ℕ). (s : g.row.S.Denot) × Counts eq part s n c.load.result new) at c.load.ensures.6.1 in
    let Told : ℕ → Type 0 = λ (n : ℕ). (c.args.number ≡ c.args.asked) × ((s : g.row.S.Denot) × Counts eq part s c.args.asked n new) in
    let by : (b : Bool) → (c.load.result == c.args.count) ≡ b → OnTrue b (Told c.args.count) =
    elim [ true ↦ (λ e. subst Told (eqb-true c.load.result c.args.count e) (c.if-number-asked.false, counts)) | false ↦ (λ e. tt) ] in
    by (c.load.result == c.args.count) refl
