use Rattle.std.proofs.Common.{None, Bool, true, false, ◌≡◌, ◌&&◌, ◌||◌, refl, ap, ◌∙◌}
use Rattle.moka_desk.specs.Woken.{is_told}
use Rattle.moka_desk.proofs.Misses.{answers_miss, nobody_listed, nothing_asked}
use Rattle.moka_desk.proofs.Waiters.{nobody}
use Rattle.moka_desk.proofs.state.Desk.made.Goals as goal

-- three that are alike hold together exactly where one does
thrice : (b : Bool) → (b && (b && b)) ≡ b
thrice true = refl
thrice false = refl

pub returns-clause-stands : goal.returns-clause-stands
returns-clause-stands g c = λ tests. record {
  rules = refl;
  clock = refl;
  valid_after = refl;
  predicates = c.new.ensures 0;
  accessed = λ kept n. rw c.new-2.ensures.empty refl;
  turn = refl;
  published = refl;
  last = refl;
  writes = c.in_ok-new.ensures.none;
  loads = c.new-4.ensures;
  locks = c.new-5.ensures;
  notices = c.new-6.ensures.none;
  asks = c.new-7.ensures.none;
  listed = λ k n is none. absurd (nobody n is);
}

pub returns-clause-misses : goal.returns-clause-misses
returns-clause-misses g c = λ w. record {
  turns = nobody_listed _ _ c.new-8.ensures.turns;
  settlements = nobody_listed _ _ c.new-8.ensures.settlements;
  answers = λ n k on. nothing_asked (answers_miss c.new-7.result.open_asks (λ _. None) c.new-7.ensures.none.open_asks n k on).1;
  locks = nobody_listed _ _ c.new-8.ensures.locks;
  notices = nobody_listed _ _ c.new-8.ensures.notices;
}

pub returns-clause-unwoken : goal.returns-clause-unwoken
returns-clause-unwoken g c = λ call.
    ap (λ b. b || is_told c.new-7.result call) (c.new-8.ensures.unwoken call) ∙ c.new-7.ensures.unwoken call

pub returns-clause-history : goal.returns-clause-history
returns-clause-history g c = rw (c.in_ok-new.ensures.kind, c.new-6.ensures.kind) (thrice c.args.history)
