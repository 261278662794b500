-- What is read back after it was stored. The errors of loads are numbers, which no lookup answers.
use Rattle.std.specs.Prelude.{◌≡◌, ℕ, Bool, false, List, [], ◌∷◌, Option, Some, None}
use Rattle.moka_hist.specs.State.{Handed, State, fresh}
use Rattle.moka_hist.specs.Places.{IsLawful}
use Rattle.moka_hist.specs.Run.{Run}
use Rattle.moka_hist.specs.declared.events.Event.{Event}
use Rattle.moka_hist.specs.declared.events.Event.TheVariants as event
use Rattle.moka_hist.specs.declared.events.Start.TheVariants as start
use Rattle.moka_hist.specs.declared.replies.Answer.TheVariants as answer
use Rattle.moka_hist.specs.declared.record_tests.Tests as Tests
use Rattle.moka_hist.specs.declared.rules.Rules.{Rules}
use Rattle.moka_hist.specs.declared.replies.Reply.{Reply}
use Rattle.moka_hist.specs.declared.replies.Reply.TheVariants as reply
use Rattle.moka_ids.specs.Drawn.{ids_from, seeded}
use Rattle.moka_machine.specs.TheTable.{the_division}
use Rattle.moka_uses.specs.declared.reading.NoTests.{NoTests}

-- no rule is set
abbrev pub no_rules : Rules
no_rules =
    record {
      max_capacity = None;
      time_to_live = None;
      time_to_idle = None;
      listener = false;
      closures = false;
    }

-- how many writes the log of the caller's cache has room for
abbrev pub log_size : ℕ
log_size = 8

-- no test holds, and no predicate
abbrev pub no_test : {K V : Type 0} → ℕ → K → V → Bool
no_test number key value = false

-- what contracts see of tests of which none holds
abbrev pub no_tests : {K V : Type 0} → Tests.Ghosts NoTests K V
no_tests = record { answers = λ it. no_test; hides = λ it. no_test }

-- what the caller's cache is handed: these tests, and ids of seed 0, of which it draws none
abbrev pub no_tests_handed : {K V : Type 0} → Handed K V
no_tests_handed = record { tests = no_test; predicates = no_test; ids = ids_from (seeded 0) }

module _ {K V : Type 0} where
  -- the value is stored under the key, by call 1
  abbrev pub storing : K → V → List (Event K V ℕ)
  storing key value = event.Start (start.Insert key value) ∷ event.Poll 1 ∷ []

  -- the key is looked up, by call 2
  abbrev pub looking : K → List (Event K V ℕ)
  looking key = event.Start (start.Get key) ∷ event.Poll 2 ∷ []

-- the value that a lookup answers, where it answers one: this reply alone does
abbrev pub found_in : {K V E : Type 0} → Reply K V E → Option V
found_in (reply.Answer (answer.Found found)) = found
found_in _ = None

-- The reference cache, begun with no record, stored the value under the key in one run, and in a
-- second the lookup of the key found this, which is the value. Each state on the way is lawful.
pub record IsReadBack {K V : Type 0} (eq : K → K → Bool) (key : K) (value : V) (found : Option V)
    : Type 0 where
  pub stored : List (Reply K V ℕ)
  pub mid : State K V ℕ
  pub stores : Run eq (IsLawful eq) (fresh K V ℕ (the_division K) no_rules log_size no_tests_handed)
      (storing key value) stored mid
  pub call : Reply K V ℕ
  pub last : Reply K V ℕ
  pub final : State K V ℕ
  pub looks : Run eq (IsLawful eq) mid (looking key) (call ∷ last ∷ []) final
  pub is : found ≡ found_in last
  pub same : found ≡ Some value
