-- Each round lets the first of the requests leave that are left.
use Rattle.std.proofs.Common.{◌≡◌, ◌∷◌, ◌++◌, List, [], ap, append_assoc, arith, flat_map, length, refl, sym, ◌∙◌}
use Rattle.moka_collapsing.specs.Folds.{folded}
use Rattle.moka_collapsing.specs.Reference.{key_of}
use Rattle.moka_collapsing.specs.Upstream.{left}
use Rattle.moka_gateway.proofs.Rows.{leaving_done, one_left}
use Rattle.moka_gateway.proofs.gateway.leave_all.Goals as goal

none_left : {A : Type 0} (xs : List A) → length xs ≡ 0 → xs ≡ []
none_left [] none = refl
none_left (x ∷ xs) none = absurd (omega (arith, none))

pub loop-slot-init : goal.loop-slot-init
loop-slot-init c = record {
  keys = ap (λ l. l ++ flat_map key_of c.args.slots.items) c.new-keys.ensures.items;
  left = λ u f. record { mid = u; stands = f; comes = refl };
}

pub leave-requires : goal.leave-requires
leave-requires c = let l = c.loop-slot.invariant.left c.requires.0 c.requires.1 in (l.mid, l.stands)

pub loop-slot-preserved : goal.loop-slot-preserved
loop-slot-preserved c =
    let l = c.loop-slot.invariant in
    let rest = c.pop_front.new.self.items in
    let first : c.loop-slot.slots.items ≡ c.in-Some.slot ∷ rest = c.in-Some.ensures.items in record {
      keys = ap (λ keys. keys ++ flat_map key_of rest) c.in_ok-leave.ensures.keys
          ∙ append_assoc c.loop-slot.keys.items (key_of c.in-Some.slot) (flat_map key_of rest)
          ∙ ap (λ slots. c.loop-slot.keys.items ++ flat_map key_of slots) (sym first)
          ∙ l.keys;
      left = λ u f. one_left c.loop-slot.fetches c.leave.new.fetches c.in-Some.slot rest c.loop-slot.slots.items (folded left u c.args.slots.items) first c.in_ok-leave.ensures.left (l.left u f);
    }

pub returns-clause-left : goal.returns-clause-left
returns-clause-left c = λ u f.
    let none : c.loop-slot.slots.items ≡ [] = none_left c.loop-slot.slots.items (sym c.loop-slot.slots.ok.0 ∙ c.in_default.ensures.cases.0) in
    leaving_done c.loop-slot.fetches c.loop-slot.slots.items (folded left u c.args.slots.items) none (c.loop-slot.invariant.left u f)
