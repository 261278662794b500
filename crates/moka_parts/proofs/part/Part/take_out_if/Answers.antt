use Rattle.std.proofs.Common.{◌≡◌, ◌+◌, ◌<◌, ℕ, true, false, Option, None, IfSome, refl, ap, sym, subst, ◌∙◌}
use mathlib.Core.List.{IsPrefix}
use Rattle.moka_parts.specs.declared.change.Change.{Change}
use Rattle.moka_parts.specs.Calls.{Judged}
use Rattle.moka_parts.specs.Changes.{map_after}
use Rattle.moka_parts.specs.Hands.{Makes, change_by, ticket}
use Rattle.moka_parts.specs.Hashing.{part_in}
use Rattle.moka_parts.specs.Logs.{Counts, Grows, changes_in}
use Rattle.moka_parts.specs.Pairs.{pair_at, lent}
use Rattle.moka_parts.specs.Parts.{EndsBy}
use Rattle.moka_parts.specs.Rules.{word_of}
use Rattle.moka_parts.proofs.Alike.{part_alike}
use Rattle.moka_parts.proofs.Prefixes.{prefix_trans}
use Rattle.moka_parts.proofs.Parting.{is_here, front_says, find_says, part_follows}
use Rattle.moka_parts.proofs.Holding.{may_call}
use Rattle.moka_parts.proofs.Taking.{stays, takes}
use Rattle.moka_parts.proofs.part.Part.take_out_if.Goals as goal

pub add-requires-clause-stands : goal.add-requires-clause-stands
add-requires-clause-stands g c =
    let eq = g.K.PartialEq.eq in
    let part = part_in g.S.BuildHasher g.S.Hasher.Hasher g.K.Hash.hash_input in
    let alike = part_alike g.S.BuildHasher g.S.Hasher.Hasher g.K.Hash.hash_input eq g.met.K.Hash.respects_eq in
    let holds = g.F.Fact.holds in
    let inside = c.self.inside in
    let kept = c.self.invariant in
    let key = c.args.key.now in
    let seen = c.sees.new.self in
    let same = c.if-not-sees.ensures.counts.0 in
    let counts = c.if-not-sees.ensures.counts.1 in
    let asked = c.out-asked.ensures 0 0 in
    let key_is = ap (λ (d : Change g.row.K.Denot g.row.V.Denot). d.key) asked in
    let found_is = ap (λ (d : Change g.row.K.Denot g.row.V.Denot). d.before) asked in
    let here : part kept.hasher key ≡ c.args.number =
    is_here eq part holds alike c.args.number key kept.hasher c.args.start.now inside.front seen c.requires.part c.sees.ensures.start c.sees.ensures.front
    counts.0 counts.1.opened kept.counts.opened in
    let says = front_says eq part holds alike g.J.Naming.book inside.number inside.count inside.word inside.front inside.map kept key (here ∙ sym same) in (
      kept.hasher,
      record {
        front = inside.front;
        begins = c.sees.ensures.front;
        seen = subst (λ (n : _). Counts eq part kept.hasher n inside.count inside.front) same kept.counts;
        here = subst (λ (k : _). part kept.hasher k ≡ c.args.number) (sym key_is) here;
        before = found_is ∙ (says ∙ ap (map_after eq (changes_in inside.front)) (sym key_is));
      },
    )

pub returns-then-not-holds_of-clause-ok : goal.returns-then-not-holds_of-clause-ok
returns-then-not-holds_of-clause-ok g c =
    let eq = g.K.PartialEq.eq in
    let part = part_in g.S.BuildHasher g.S.Hasher.Hasher g.K.Hash.hash_input in
    let alike = part_alike g.S.BuildHasher g.S.Hasher.Hasher g.K.Hash.hash_input eq g.met.K.Hash.respects_eq in
    let inside = c.self.inside in
    let new = c.sees.new.self in
    let seen = c.if-not-sees.ensures.counts in
    let says = find_says eq part g.F.Fact.holds alike g.J.Naming.book inside.number inside.count inside.word inside.front inside.map c.self.invariant
    c.args.number inside.count seen.0 refl c.args.key.now c.args.start.now new c.requires.part c.sees.ensures.start c.sees.ensures.front seen.1.0 seen.1.1 in
    (stays (λ p. Judged g.C.FnOnce c.args.condition p false) _ (lent c.find.result) (map_after eq (changes_in new) c.args.key.now) (c.find.ensures ∙ says) c.if-not-holds_of.ensures, refl)

pub invariant_of-self : goal.invariant_of-self
invariant_of-self g c =
    let eq = g.K.PartialEq.eq in
    let part = part_in g.S.BuildHasher g.S.Hasher.Hasher g.K.Hash.hash_input in
    let alike = part_alike g.S.BuildHasher g.S.Hasher.Hasher g.K.Hash.hash_input eq g.met.K.Hash.respects_eq in
    let holds = g.F.Fact.holds in
    let inside = c.self.inside in
    let kept = c.self.invariant in
    let key = c.args.key.now in
    let seen = c.sees.new.self in
    let change = change_by c.args.own.now c.add.new.own key None (pair_at eq inside.map key) in
    let asked = c.out-asked.ensures (ticket c.args.own.now) (ticket c.add.new.own) in
    let same = c.if-not-sees.ensures.counts.0 in
    let counts = c.if-not-sees.ensures.counts.1 in
    let grows : Grows eq part inside.number (inside.count + 1) change seen c.add.new.self =
    subst (λ (n : _). Grows eq part n (inside.count + 1) change seen c.add.new.self) (sym same)
    (subst (λ (d : Change g.row.K.Denot g.row.V.Denot). Grows eq part c.args.number (inside.count + 1) d seen c.add.new.self) asked c.if-not-add.ensures.added) in
    let here : part kept.hasher key ≡ inside.number =
    is_here eq part holds alike c.args.number key kept.hasher c.args.start.now inside.front seen c.requires.part c.sees.ensures.start c.sees.ensures.front
    counts.0 counts.1.opened kept.counts.opened ∙ sym same in
    let follows = part_follows eq part holds alike g.J.Naming.book inside.number inside.count inside.word inside.front inside.map kept change seen c.add.new.self
    here c.sees.ensures.front grows c.take-taken.new.map c.take-taken.ensures.map (λ q e. tt) in
    rw c.again.ensures follows

pub returns-clause-ok : goal.returns-clause-ok
returns-clause-ok g c =
    let eq = g.K.PartialEq.eq in
    let part = part_in g.S.BuildHasher g.S.Hasher.Hasher g.K.Hash.hash_input in
    let inside = c.self.inside in
    let key = c.args.key.now in
    let own = c.args.own.now in
    let own' = c.add.new.own in
    let asked = c.out-asked.ensures (ticket own) (ticket own') in
    let added = subst (λ (d : Change g.row.K.Denot g.row.V.Denot). Grows eq part c.args.number (inside.count + 1) d c.sees.new.self c.add.new.self) asked c.if-not-add.ensures.added in
    let made = subst (λ (d : Change g.row.K.Denot g.row.V.Denot). Makes d own own' (changes_in c.add.new.self)) asked c.if-not-add.ensures.made in
    let from : IsPrefix c.args.me.now added.log =
    prefix_trans c.args.me.now c.sees.new.self added.log c.sees.ensures.grows added.begins in
    takes (λ p. Judged g.C.FnOnce c.args.condition p true) _ _ (λ o. EndsBy key None o own own' c.args.me.now c.add.new.self)
    (lent c.find.result) c.take-taken.result.0 (c.take-taken.ensures.pair ∙ sym c.find.ensures) c.if-not-holds_of.ensures
    (subst (λ o. EndsBy key None o own own' c.args.me.now c.add.new.self) (sym c.find.ensures) ((added.log, from, added.new_is), made)) (λ p e j. (e, j))

pub returns-clause-fact : goal.returns-clause-fact
returns-clause-fact g c =
    subst (λ (o : Option (g.row.K.Denot × g.row.V.Denot)). IfSome o (λ p. g.F.Fact.holds c.args.key.now p.1)) (sym c.take-taken.ensures.pair) (c.self.invariant.meets c.args.key.now)

pub holds_of-requires : goal.holds_of-requires
holds_of-requires g c =
    may_call (g.F.Fact.holds c.args.key.now) _ c.find.result (pair_at g.K.PartialEq.eq c.self.inside.map c.args.key.now) c.find.ensures (c.self.invariant.meets c.args.key.now) c.requires.callable

pub sees-requires : goal.sees-requires
sees-requires g c = record { word = (c.self.invariant.word_is, c.self.invariant.small) }

pub add-requires-clause-word : goal.add-requires-clause-word
add-requires-clause-word g c =
    let same = c.if-not-sees.ensures.counts.0 in
    (c.self.invariant.word_is ∙ ap (word_of g.J.Naming.book) same, subst (λ (n : ℕ). n < 64) same c.self.invariant.small)

pub returns-then-not-add-clause-grows : goal.returns-then-not-add-clause-grows
returns-then-not-add-clause-grows g c = prefix_trans c.args.me.now c.sees.new.self c.add.new.self c.sees.ensures.grows c.add.ensures.grows

pub returns-clause-grows : goal.returns-clause-grows
returns-clause-grows g c = prefix_trans c.args.me.now c.sees.new.self c.add.new.self c.sees.ensures.grows c.add.ensures.grows
