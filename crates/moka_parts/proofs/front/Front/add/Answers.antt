use Rattle.std.proofs.Common.{◌≡◌, ◌+◌, ◌==◌, ℕ, List, [], ◌∷◌, ◌++◌, refl, sym, subst, ◌∙◌, ap, arith}
use Rattle.std.proofs.lemmas.Bool.{eq-eqb}
use mathlib.Core.List.{IsPrefix}
use Rattle.moka_parts.specs.declared.note.Note.{Note}
use Rattle.moka_parts.specs.declared.note.Note.TheVariants.{Changed}
use Rattle.moka_parts.specs.Asks.{asked_change}
use Rattle.moka_parts.specs.Changes.{made_with}
use Rattle.moka_parts.specs.Hashing.{part_in}
use Rattle.moka_parts.specs.Logs.{Counts, changes_in}
use Rattle.moka_parts.proofs.Alike.{part_alike}
use Rattle.moka_parts.proofs.Making.{one_more_made, next_ticket}
use Rattle.moka_parts.proofs.Prefixes.{prefix_trans}
use Rattle.moka_parts.proofs.Steps.{add_moves, was_added, was_left, neq-eqb}
use Rattle.moka_parts.proofs.front.Front.add.Goals as goal

pub compare_exchange-found-requires : goal.compare_exchange-found-requires
compare_exchange-found-requires g c =
    let h = c.requires.word.0 in
    let offer = c.plain-offer.ensures in
    let eq = g.K.PartialEq.eq in
    let part = part_in g.S.BuildHasher g.S.Hasher.Hasher g.K.Hash.hash_input in
    let alike = part_alike g.S.BuildHasher g.S.Hasher.Hasher g.K.Hash.hash_input eq g.met.K.Hash.respects_eq in
    let change = asked_change g.K.PartialEq.eq c.own.inside.ticket.nib.key c.draw-next.result.1.nib.key c.args.asked.now in
    let stands = c.requires.stands.1 in
    let drawn = c.draw-next.new.self in
    let grown = prefix_trans c.args.self.now c.learn.new.self drawn c.learn.ensures.this c.draw-next.ensures.grows in
    let begins : IsPrefix stands.front c.self.inside.seen.log = rw c.self.view_is (prefix_trans stands.front c.args.self.now drawn stands.begins grown) in (
      ap (λ w. w.tracked) h,
      c.self.invariant.0 ∙ sym (ap (λ w. w.book) h),
      c.own.invariant.0 ∙ sym (ap (λ w. w.book) h),
      offer.0,
      rw (ap (λ w. w.key) h, offer.1, offer.3)
          (add_moves eq part alike c.self.inside.seen.log stands.front c.args.number c.args.count c.own.inside.ticket.nib c.own.invariant.1 change c.requires.stands.0
          c.requires.word.1 begins stands.seen stands.here stands.before refl),
    )

pub invariant_of-own-2 : goal.invariant_of-own-2
invariant_of-own-2 g c =
    let change = asked_change g.K.PartialEq.eq c.own.inside.ticket.nib.key c.draw-next.result.1.nib.key c.args.asked.now in
    let drawn = c.draw-next.new.self in
    let seen = c.self.inside.seen.log in
    let new = c.compare_exchange-found.new.seen.log in
    let a = was_added _ _ (c.compare_exchange-found.result == c.args.count) (eq-eqb c.compare_exchange-found.result c.args.count c.if-found-count.false) c.compare_exchange-found.ensures.7 in
    let is : new ≡ a.0 ++ Changed change ∷ [] = a.2 ∙ ap (λ (e : Note g.row.K.Denot g.row.V.Denot g.row.S.Denot). a.0 ++ e ∷ []) c.plain-offer.ensures.1 in
    let from : IsPrefix c.own.inside.last seen = rw c.self.view_is (prefix_trans c.own.inside.last c.learn.new.self drawn c.learn.ensures.other c.draw-next.ensures.grows) in (
      c.draw-next.ensures.ticket.0,
      c.draw-next.ensures.ticket.1,
      rw c.again.ensures (next_ticket c.own.inside.first.key c.own.inside.ticket.nib.key c.own.inside.last seen a.0 new change c.own.invariant.2 refl from a.1 a.3 is),
    )

pub returns-clause-added : goal.returns-clause-added
returns-clause-added g c =
    let eq = g.K.PartialEq.eq in
    let part = part_in g.S.BuildHasher g.S.Hasher.Hasher g.K.Hash.hash_input in
    let change = asked_change g.K.PartialEq.eq c.own.inside.ticket.nib.key c.draw-next.result.1.nib.key c.args.asked.now in
    let drawn = c.draw-next.new.self in
    let new = c.compare_exchange-found.new.seen.log in
    let a = was_added _ _ (c.compare_exchange-found.result == c.args.count) (eq-eqb c.compare_exchange-found.result c.args.count c.if-found-count.false) c.compare_exchange-found.ensures.7 in
    let is : new ≡ a.0 ++ Changed change ∷ [] = a.2 ∙ ap (λ (e : Note g.row.K.Denot g.row.V.Denot g.row.S.Denot). a.0 ++ e ∷ []) c.plain-offer.ensures.1 in
    let grown = prefix_trans c.args.self.now c.learn.new.self drawn c.learn.ensures.this c.draw-next.ensures.grows in
    let before : IsPrefix drawn a.0 = subst (λ (l : List (Note g.row.K.Denot g.row.V.Denot g.row.S.Denot)). IsPrefix l a.0) c.self.view_is a.1 in
    let counts : Counts eq part a.4.0 c.args.number (c.args.count + 1) new = subst (λ (n : ℕ). Counts eq part a.4.0 n (c.args.count + 1) new) (ap (λ w. w.key) c.requires.word.0) a.4.1 in
    rw (← c.own.view_is) (record { log = a.0; begins = prefix_trans c.args.self.now drawn a.0 grown before; new_is = is; hasher = a.4.0; counts = counts })

pub returns-clause-made : goal.returns-clause-made
returns-clause-made g c =
    let change = asked_change g.K.PartialEq.eq c.own.inside.ticket.nib.key c.draw-next.result.1.nib.key c.args.asked.now in
    let drawn = c.draw-next.new.self in
    let seen = c.self.inside.seen.log in
    let new = c.compare_exchange-found.new.seen.log in
    let first = c.own.inside.first.key in
    let a = was_added _ _ (c.compare_exchange-found.result == c.args.count) (eq-eqb c.compare_exchange-found.result c.args.count c.if-found-count.false) c.compare_exchange-found.ensures.7 in
    let is : new ≡ a.0 ++ Changed change ∷ [] = a.2 ∙ ap (λ (e : Note g.row.K.Denot g.row.V.Denot g.row.S.Denot). a.0 ++ e ∷ []) c.plain-offer.ensures.1 in
    let from : IsPrefix c.own.inside.last seen = rw c.self.view_is (prefix_trans c.own.inside.last c.learn.new.self drawn c.learn.ensures.other c.draw-next.ensures.grows) in
    let one = one_more_made first c.own.inside.ticket.nib.key c.own.inside.last seen a.0 new change c.own.invariant.2 refl from a.1 a.3 is in
    let last : made_with first (changes_in c.again.result) ≡ made_with first (changes_in new) = ap (λ (l : List (Note g.row.K.Denot g.row.V.Denot g.row.S.Denot)). made_with first (changes_in l)) c.again.ensures in
    rw (← c.own.view_is) (record { first = refl; one = last ∙ one; all = sym last })

pub draw-next-requires : goal.draw-next-requires
draw-next-requires g c = record { word = (c.requires.word.0, let small = c.requires.word.1 in omega (arith, small)) }

pub invariant_of-self-2 : goal.invariant_of-self-2
invariant_of-self-2 g c =
    let a = was_added _ _ (c.compare_exchange-found.result == c.args.count) (eq-eqb c.compare_exchange-found.result c.args.count c.if-found-count.false) c.compare_exchange-found.ensures.7 in
    (c.compare_exchange-found.ensures.0 ∙ c.self.invariant.0, record { hasher = a.4.0; opened = a.4.1.opened; legal = a.4.1.legal })

pub returns-then-found-count-clause-grows : goal.returns-then-found-count-clause-grows
returns-then-found-count-clause-grows g c =
    let drawn = c.draw-next.new.self in
    let grown = prefix_trans c.args.self.now c.learn.new.self drawn c.learn.ensures.this c.draw-next.ensures.grows in
    prefix_trans c.args.self.now drawn c.compare_exchange-found.new.seen.log grown (rw (← c.self.view_is) c.compare_exchange-found.ensures.6)

pub returns-clause-grows : goal.returns-clause-grows
returns-clause-grows g c =
    let drawn = c.draw-next.new.self in
    let grown = prefix_trans c.args.self.now c.learn.new.self drawn c.learn.ensures.this c.draw-next.ensures.grows in
    prefix_trans c.args.self.now drawn c.compare_exchange-found.new.seen.log grown (rw (← c.self.view_is) c.compare_exchange-found.ensures.6)

pub returns-then-count-eq18446744073709551615-clause-grows : goal.returns-then-count-eq18446744073709551615-clause-grows
returns-then-count-eq18446744073709551615-clause-grows g c = c.learn.ensures.this

pub invariant_of-self : goal.invariant_of-self
invariant_of-self g c =
    let found = c.compare_exchange-found in
    let left = was_left _ _ (found.result == c.args.count) (neq-eqb found.result c.args.count c.if-found-count.true) found.ensures.7 in
    (found.ensures.0 ∙ c.self.invariant.0, record { hasher = left.0.0; opened = left.0.1.opened; legal = left.0.1.legal })

pub invariant_of-own : goal.invariant_of-own
invariant_of-own g c =
    let found = c.compare_exchange-found in
    let left = was_left _ _ (found.result == c.args.count) (neq-eqb found.result c.args.count c.if-found-count.true) found.ensures.7 in
    (found.ensures.5 ∙ c.own.invariant.0, ap (λ n. n.right) left.1 ∙ c.own.invariant.1, c.own.invariant.2 ∙ sym (ap (λ n. n.key) left.1))

pub returns-then-found-count-clause-rests : goal.returns-then-found-count-clause-rests
returns-then-found-count-clause-rests g c =
    let found = c.compare_exchange-found in
    let first = c.own.inside.first.key in
    let left = was_left _ _ (found.result == c.args.count) (neq-eqb found.result c.args.count c.if-found-count.true) found.ensures.7 in
    rw (← c.own.view_is) (ap (λ n. (first, (n.key, made_with first (changes_in c.own.inside.last)))) left.1)
