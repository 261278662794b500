-- What is found under a key whose record a second insert replaced, which the listener heard of. The
-- errors of loads are numbers, which no lookup answers.
use Rattle.std.specs.Prelude.{◌≡◌, ℕ, Bool, true, false, List, [], ◌∷◌, Option, Some, None}
use Rattle.moka_hist.specs.State.{State, fresh}
use Rattle.moka_hist.specs.Places.{IsLawful}
use Rattle.moka_hist.specs.Run.{Run}
use Rattle.moka_hist.specs.declared.events.Event.{Event}
use Rattle.moka_hist.specs.declared.events.Event.TheVariants as event
use Rattle.moka_hist.specs.declared.events.Start.TheVariants as start
use Rattle.moka_hist.specs.declared.events.Told.TheVariants as told
use Rattle.moka_hist.specs.declared.replies.Answer.TheVariants as answer
use Rattle.moka_hist.specs.declared.replies.Ask.TheVariants as ask
use Rattle.moka_hist.specs.declared.replies.Reply.{Reply}
use Rattle.moka_hist.specs.declared.replies.Reply.TheVariants as reply
use Rattle.moka_hist.specs.declared.rules.Cause.TheVariants as cause
use Rattle.moka_hist.specs.declared.rules.Rules.{Rules}
use Rattle.moka_machine.specs.TheTable.{the_division}
use Rattle.moka_uses.specs.ReadBack.{found_in, log_size, no_tests_handed}

-- a listener hears, and no other rule is set
abbrev pub listening_rules : Rules
listening_rules =
    record {
      max_capacity = None;
      time_to_live = None;
      time_to_idle = None;
      listener = true;
      closures = false;
    }

module _ {K V : Type 0} where
  -- the first value is stored under the key by call 1; call 2 stores the second under the other key,
  -- is told that the listener is done, and goes on
  abbrev pub replacing_by : K → K → V → V → List (Event K V ℕ)
  replacing_by key again first value =
      event.Start (start.Insert key first) ∷ event.Poll 1 ∷
      event.Start (start.Insert again value) ∷ event.Poll 2 ∷ event.Tell 2 told.Done ∷
      event.Poll 2 ∷ []

  -- so in its place, under the same key
  abbrev pub replacing : K → V → V → List (Event K V ℕ)
  replacing key first value = replacing_by key key first value

  -- what is replied: both inserts are done, and the listener heard of the first value
  abbrev pub replaced : K → V → List (Reply K V ℕ)
  replaced key first =
      reply.Call 1 ∷ reply.Answer answer.Done ∷ reply.Call 2 ∷
      reply.Ask (ask.Listener key first cause.Replaced) ∷ reply.Told ∷
      reply.Answer answer.Done ∷ []

  -- the key is looked up, by call 3
  abbrev pub looking_again : K → List (Event K V ℕ)
  looking_again key = event.Start (start.Get key) ∷ event.Poll 3 ∷ []

-- The reference cache with a listener, begun with no record, stored both values under the key in one
-- run, and the listener heard of the first. In a second run the lookup of the key found this, which
-- is the second value. Each state on the way is lawful.
pub record IsReadReplaced {K V : Type 0} (eq : K → K → Bool) (key : K) (first value : V)
    (found : Option V) : Type 0 where
  pub mid : State K V ℕ
  pub stores : Run eq (IsLawful eq)
      (fresh K V ℕ (the_division K) listening_rules log_size no_tests_handed)
      (replacing key first value) (replaced key first) mid
  pub call : Reply K V ℕ
  pub last : Reply K V ℕ
  pub final : State K V ℕ
  pub looks : Run eq (IsLawful eq) mid (looking_again key) (call ∷ last ∷ []) final
  pub is : found ≡ found_in last
  pub same : found ≡ Some value
