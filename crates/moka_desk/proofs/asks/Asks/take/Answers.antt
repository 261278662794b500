-- A call that was told something has no open ask.
use Rattle.std.proofs.Common.{◌≡◌, ℕ, ◌==◌, Bool, true, false, cond, [], ◌∷◌, Option, None, Some, is_some, nat_eq, refl, sym, ap, ◌∙◌}
use Rattle.std.specs.HashMap.{HashMap, get}
use Rattle.std.specs.Option.{option_map_or}
use Rattle.std.proofs.lemmas.Bool.{eqb-true}
use Rattle.moka_desk.specs.Asks.{asker_at, asks_if, is_open}
use Rattle.moka_desk.specs.declared.asks.OpenAsk.{OpenAsk}
use Rattle.moka_desk.proofs.asks.Asks.take.Goals as goal

no : true ≡ false → ⊥
no e = cc

-- where no ask is open nobody waits for its answer
nobody : (o : Option OpenAsk) (n : ℕ) → is_some o ≡ false → option_map_or (λ a. cond a.place (n ∷ []) []) o [] ≡ []
nobody None n e = refl
nobody (Some ask) n e = absurd (no e)

-- nor comes to wait
stays : {S : Type 0} (asks : HashMap ℕ OpenAsk S) (call n : ℕ) → is_open asks call ≡ false → asker_at asks n ≡ asks_if (is_open asks call) call n (asker_at asks n)
stays asks call n closed = by (call == n) refl ∙ ap (λ b. asks_if b call n (asker_at asks n)) (sym closed) where
  by : (b : Bool) → (call == n) ≡ b → asker_at asks n ≡ cond b (cond false (call ∷ []) []) (asker_at asks n)
  by true e = ap (λ m. asker_at asks m) (sym (eqb-true call n e)) ∙ nobody (get nat_eq asks call) call closed
  by false e = refl

-- an answer stands only where no ask does
shut : {A : Type 0} (b : Bool) (o : Option A) (answer : A) → o ≡ Some answer → (b ≡ true → o ≡ None) → b ≡ false
shut true o answer is untold = absurd (gone (sym (untold refl) ∙ is)) where
  gone : None ≡ Some answer → ⊥
  gone e = cc
shut false o answer is untold = refl

pub returns-in-Some-clause-waits : goal.returns-in-Some-clause-waits
returns-in-Some-clause-waits g c = λ n.
    let s = c.args.self.now in
    let call = c.args.call in
    stays s.open_asks call n
    (shut (is_open s.open_asks call) (get nat_eq s.told call) c.in-Some.answer (sym c.remove_at.ensures.value ∙ c.in-Some.is) (s.open_are_untold call))
