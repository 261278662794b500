-- Two runs on one machine, the first of which replaced a value under a listener.
use Rattle.std.proofs.Common.{◌≡◌, ◌<◌, ℕ, Bool, List, [], ◌∷◌, Option, Some, refl, ap, ◌∙◌, subst, arith}
use Rattle.std.specs.Cmp.{IsEquivalence}
use Rattle.std.specs.declared.cmp.PartialEq as PartialEq
use Rattle.std.specs.declared.hash.Hash as Hash
use Rattle.moka_hist.specs.Places.{IsLawful}
use Rattle.moka_hist.specs.Run.{Any, Divides, IsReached, Run}
use Rattle.moka_hist.specs.State.{State, fresh}
use Rattle.moka_hist.specs.declared.events.Event.{Event}
use Rattle.moka_hist.specs.declared.replies.Answer.TheVariants as answer
use Rattle.moka_hist.specs.declared.replies.Reply.{Reply}
use Rattle.moka_hist.specs.declared.replies.Reply.TheVariants as reply
use Rattle.moka_laws.specs.OwnKeys.{ReachedByLawfulRun}
use Rattle.moka_laws.proofs.Between.{run_more}
use Rattle.moka_callers.specs.Undisturbed.{InsertedIsFound}
use Rattle.moka_machine.specs.Machine.{MachineIs}
use Rattle.moka_machine.specs.TheTable.{the_division}
use Rattle.moka_machine.specs.declared.machine.Machine.{Machine}
use Rattle.moka_uses.specs.ReadBack.{found_in, log_size, no_tests, no_tests_handed}
use Rattle.moka_uses.specs.Replaced.{IsReadReplaced, listening_rules, looking_again, replaced, replacing}
use Rattle.moka_uses.specs.declared.reading.NoTests.{NoTests}
use Rattle.moka_uses.proofs.ReadAgain.{read_again}
use Rattle.moka_uses.proofs.TwoRuns.{Ran}

module _ {K V : Type 0} where
  abbrev begun : State K V ℕ
  begun = fresh K V ℕ (the_division K) listening_rules log_size no_tests_handed

module _ {K V : Type 0} (eq : K → K → Bool) where
  begun_reached : IsReached eq (begun {K = K} {V = V})
  begun_reached = record {
    division = the_division K;
    divides = record {
      some = omega arith;
      few = omega arith;
      part = λ q. omega arith;
      alike = λ a b e. refl;
    };
    rules = listening_rules;
    size = log_size;
    handed = no_tests_handed;
    has_log = omega arith;
    events = [];
    replies = [];
    run = refl;
  }

  any_run : (s t : State K V ℕ) (es : List (Event K V ℕ)) (rs : List (Reply K V ℕ)) →
      IsReached eq s → Run eq (IsLawful eq) s es rs t → Run eq Any s es rs t
  any_run s t es rs h run = run_more eq (IsLawful eq) Any (λ v i p. tt) s t es rs h run

module _ {K V : Type 0} {same : PartialEq.Ghosts K} {hash : Hash.Ghosts K} where
  pub read_replaced_of : (eq : K → K → Bool) (m₀ m₁ m₂ : Machine K V ℕ NoTests same hash)
      (key : K) (first value : V) (events others : List (Event K V ℕ))
      (stored looked : List (Reply K V ℕ)) (call last : Reply K V ℕ) (found : Option V) →
      IsEquivalence eq → InsertedIsFound K V ℕ eq → ReachedByLawfulRun K V ℕ eq →
      MachineIs eq no_tests m₀ begun → events ≡ replacing key first value →
      Ran eq m₀ events stored m₁ → others ≡ looking_again key → Ran eq m₁ others looked m₂ →
      looked ≡ call ∷ last ∷ [] → found ≡ found_in last →
      IsReadReplaced eq key first value found
  read_replaced_of eq m₀ m₁ m₂ key first value events others stored looked call last found laws law
      reaching begins these ran those again two is =
      let a = ran begun begins (begun_reached eq) in
      let there : IsReached eq a.final =
      reaching begun a.final events stored (begun_reached eq) a.run in
      let b = again a.final a.stands there in
      let stores : Run eq (IsLawful eq) begun (replacing key first value) stored a.final =
      subst (λ es. Run eq (IsLawful eq) begun es stored a.final) these a.run in
      let looks : Run eq (IsLawful eq) a.final (looking_again key) (call ∷ last ∷ []) b.final =
      subst (λ rs. Run eq (IsLawful eq) a.final (looking_again key) rs b.final) two
      (subst (λ es. Run eq (IsLawful eq) a.final es looked b.final) those b.run) in
      let both = read_again eq key first value (laws.refl key) (the_division K) no_tests_handed law
      stored a.final b.final call last
      (any_run eq begun a.final (replacing key first value) stored (begun_reached eq) stores)
      (any_run eq a.final b.final (looking_again key) (call ∷ last ∷ []) there looks) in
      record {
        mid = a.final;
        stores = subst (λ rs. Run eq (IsLawful eq) begun (replacing key first value) rs a.final)
            both.0 stores;
        call = call;
        last = last;
        final = b.final;
        looks = looks;
        is = is;
        same = is ∙ ap found_in both.1;
      }
