use Rattle.std.proofs.Common.{◌≡◌, ◌+◌, ◌<◌, ℕ, Some, cond, Option, IfSome, sym, subst, ap, ◌∙◌}
use Rattle.std.proofs.lemmas.Result.{IfOk-from_err}
use Rattle.moka_parts.specs.Hands.{change_by}
use Rattle.moka_parts.specs.Hashing.{part_in}
use Rattle.moka_parts.specs.Logs.{Counts, Grows}
use Rattle.moka_parts.specs.Pairs.{pair_at, pair_in}
use Rattle.moka_parts.specs.Rules.{word_of}
use Rattle.moka_parts.proofs.Alike.{part_alike}
use Rattle.moka_parts.proofs.Holding.{may_lend}
use Rattle.moka_parts.proofs.Prefixes.{prefix_trans}
use Rattle.moka_parts.proofs.Refusing.{on_err}
use Rattle.moka_parts.proofs.Parting.{is_here, front_says, part_follows, with_pairs}
use Rattle.moka_parts.proofs.part.Part.put.Goals as goal

pub add-requires-clause-stands : goal.add-requires-clause-stands
add-requires-clause-stands g c =
    let eq = g.K.PartialEq.eq in
    let part = part_in g.S.BuildHasher g.S.Hasher.Hasher g.K.Hash.hash_input in
    let alike = part_alike g.S.BuildHasher g.S.Hasher.Hasher g.K.Hash.hash_input eq g.met.K.Hash.respects_eq in
    let holds = g.F.Fact.holds in
    let inside = c.self.inside in
    let kept = c.self.invariant in
    let key = c.args.key in
    let seen = c.learn-2.new.self in
    let same = c.if-self-number.false in
    let start = prefix_trans c.args.start.now c.learn.new.self seen c.learn.ensures.other c.learn-2.ensures.this in
    let here : part kept.hasher key ≡ c.args.number =
    is_here eq part holds alike c.args.number key kept.hasher c.args.start.now inside.front seen c.requires.part start c.learn-2.ensures.other
    c.learn-2.ensures.log.hasher c.learn-2.ensures.log.opened kept.counts.opened in
    let says = front_says eq part holds alike g.J.Naming.book inside.number inside.count inside.word inside.front inside.map kept key (here ∙ sym same) in (
      kept.hasher,
      record {
        front = inside.front;
        begins = c.learn-2.ensures.other;
        seen = subst (λ (n : _). Counts eq part kept.hasher n inside.count inside.front) same kept.counts;
        here = here;
        before = c.make_room.ensures.map key ∙ says;
      },
    )

pub invariant_of-self : goal.invariant_of-self
invariant_of-self g c =
    let part = part_in g.S.BuildHasher g.S.Hasher.Hasher g.K.Hash.hash_input in
    let alike = part_alike g.S.BuildHasher g.S.Hasher.Hasher g.K.Hash.hash_input g.K.PartialEq.eq g.met.K.Hash.respects_eq in
    let inside = c.self.inside in
    with_pairs g.K.PartialEq.eq part g.F.Fact.holds alike g.J.Naming.book inside.number inside.count inside.word inside.front inside.map c.self.invariant
    c.make_room.new.map c.make_room.ensures.map

pub invariant_of-self-2 : goal.invariant_of-self-2
invariant_of-self-2 g c =
    let eq = g.K.PartialEq.eq in
    let part = part_in g.S.BuildHasher g.S.Hasher.Hasher g.K.Hash.hash_input in
    let alike = part_alike g.S.BuildHasher g.S.Hasher.Hasher g.K.Hash.hash_input eq g.met.K.Hash.respects_eq in
    let holds = g.F.Fact.holds in
    let inside = c.self.inside in
    let kept = c.self.invariant in
    let key = c.args.key in
    let value = c.args.value in
    let seen = c.learn-2.new.self in
    let change = change_by c.args.own.now c.add.new.own key (Some value) (pair_at eq c.make_room.new.map key) in
    let same = c.if-self-number.false in
    let grows : Grows eq part inside.number (inside.count + 1) change seen c.add.new.self =
    subst (λ (n : _). Grows eq part n (inside.count + 1) change seen c.add.new.self) (sym same) c.if-not-add.ensures.added in
    let start = prefix_trans c.args.start.now c.learn.new.self seen c.learn.ensures.other c.learn-2.ensures.this in
    let here : part kept.hasher key ≡ inside.number =
    is_here eq part holds alike c.args.number key kept.hasher c.args.start.now inside.front seen c.requires.part start c.learn-2.ensures.other
    c.learn-2.ensures.log.hasher c.learn-2.ensures.log.opened kept.counts.opened ∙ sym same in
    let made : (q : g.row.K.Denot) → pair_at eq c.replace-given.new.map q ≡ cond (eq key q) (Some (key, value)) (pair_at eq inside.map q) =
    λ q. c.replace-given.ensures.map q
    ∙ ap (λ (o : Option (g.row.K.Denot × g.row.V.Denot)). cond (eq key q) (Some (key, value)) o) (c.make_room.ensures.map q) in
    let follows = part_follows eq part holds alike g.J.Naming.book inside.number inside.count inside.word inside.front inside.map kept change seen c.add.new.self
    here c.learn-2.ensures.other grows c.replace-given.new.map made (λ q e. g.met.F.Fact.alike key q value e c.requires.fact) in
    rw c.again.ensures follows

pub returns-clause-ends : goal.returns-clause-ends
returns-clause-ends g c =
    let added = c.if-not-add.ensures.added in
    let seen = c.learn-2.new.self in
    let from = prefix_trans c.args.me.now seen added.log (prefix_trans c.args.me.now c.learn.new.self seen c.learn.ensures.this c.learn-2.ensures.this) added.begins in
    let eq = g.K.PartialEq.eq in
    let same = c.make_room.ensures.map c.args.key in
    let there : pair_at eq c.make_room.new.map c.args.key ≡ pair_in eq c.args.self.now c.args.key = rw (← c.self.view_is) same in
    let fact = subst (λ (o : Option (g.row.K.Denot × g.row.V.Denot)). IfSome o (λ p. g.F.Fact.holds c.args.key p.1)) (sym same) (c.self.invariant.meets c.args.key) in
    (pair_at eq c.make_room.new.map c.args.key, (((added.log, from, added.new_is), c.if-not-add.ensures.made), there, fact), c.replace-given.ensures.shown)

pub add-requires-clause-word : goal.add-requires-clause-word
add-requires-clause-word g c =
    let same = c.if-self-number.false in
    (c.self.invariant.word_is ∙ ap (word_of g.J.Naming.book) same, subst (λ (n : ℕ). n < 64) same c.self.invariant.small)

pub returns-then-self-number-clause-grows : goal.returns-then-self-number-clause-grows
returns-then-self-number-clause-grows g c = prefix_trans c.args.me.now c.learn.new.self c.learn-2.new.self c.learn.ensures.this c.learn-2.ensures.this

pub returns-then-self-number-clause-ends : goal.returns-then-self-number-clause-ends
returns-then-self-number-clause-ends g c = IfOk-from_err c.refused.result.0 _ c.refused.ensures

pub returns-then-is_err-clause-grows : goal.returns-then-is_err-clause-grows
returns-then-is_err-clause-grows g c = prefix_trans c.args.me.now c.learn.new.self c.learn-2.new.self c.learn.ensures.this c.learn-2.ensures.this

pub returns-then-is_err-clause-ends : goal.returns-then-is_err-clause-ends
returns-then-is_err-clause-ends g c = IfOk-from_err c.refused-then-is_err.result.0 _ c.refused-then-is_err.ensures

pub returns-then-is_err-clause-err : goal.returns-then-is_err-clause-err
returns-then-is_err-clause-err g c = on_err c.refused-then-is_err.result.0 _ (rw (← c.self.view_is) c.make_room.ensures.map)

pub invariant_of-self-then-not-add : goal.invariant_of-self-then-not-add
invariant_of-self-then-not-add g c =
    let part = part_in g.S.BuildHasher g.S.Hasher.Hasher g.K.Hash.hash_input in
    let alike = part_alike g.S.BuildHasher g.S.Hasher.Hasher g.K.Hash.hash_input g.K.PartialEq.eq g.met.K.Hash.respects_eq in
    let inside = c.self.inside in
    with_pairs g.K.PartialEq.eq part g.F.Fact.holds alike g.J.Naming.book inside.number inside.count inside.word inside.front inside.map c.self.invariant
    c.make_room.new.map c.make_room.ensures.map

pub returns-then-not-add-clause-grows : goal.returns-then-not-add-clause-grows
returns-then-not-add-clause-grows g c =
    let seen = c.learn-2.new.self in
    prefix_trans c.args.me.now seen c.add.new.self (prefix_trans c.args.me.now c.learn.new.self seen c.learn.ensures.this c.learn-2.ensures.this) c.add.ensures.grows

pub returns-then-not-add-clause-ends : goal.returns-then-not-add-clause-ends
returns-then-not-add-clause-ends g c = IfOk-from_err c.refused-then-not-add.result.0 _ c.refused-then-not-add.ensures

pub returns-then-not-add-clause-err : goal.returns-then-not-add-clause-err
returns-then-not-add-clause-err g c = on_err c.refused-then-not-add.result.0 _ (rw (← c.self.view_is) c.make_room.ensures.map)

pub replace-given-requires-clause-callable : goal.replace-given-requires-clause-callable
replace-given-requires-clause-callable g c = λ shown same.
    c.requires.callable shown (may_lend (g.F.Fact.holds c.args.key) shown _ (same ∙ c.make_room.ensures.map c.args.key) (c.self.invariant.meets c.args.key))

pub returns-clause-grows : goal.returns-clause-grows
returns-clause-grows g c =
    let seen = c.learn-2.new.self in
    prefix_trans c.args.me.now seen c.add.new.self (prefix_trans c.args.me.now c.learn.new.self seen c.learn.ensures.this c.learn-2.ensures.this) c.add.ensures.grows
