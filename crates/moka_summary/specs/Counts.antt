-- How many replies are of each kind.
use Rattle.std.specs.Prelude.{ℕ, ◌+◌, ◌≤◌, ◌≡◌, Bool, true, false, if◌then◌else◌, List, [], ◌∷◌, length}
use Rattle.moka_hist.specs.declared.replies.Reply.{Reply}
use Rattle.moka_hist.specs.declared.replies.Reply.TheVariants as reply

-- a call was started
abbrev pub is_call : Reply ℕ ℕ ℕ → Bool
is_call (reply.Call _) = true
is_call _ = false

-- a call has answered
abbrev pub is_answer : Reply ℕ ℕ ℕ → Bool
is_answer (reply.Answer _) = true
is_answer _ = false

-- a call asks
abbrev pub is_ask : Reply ℕ ℕ ℕ → Bool
is_ask (reply.Ask _) = true
is_ask _ = false

-- a call waits
abbrev pub is_wait : Reply ℕ ℕ ℕ → Bool
is_wait reply.Wait = true
is_wait _ = false

-- an event was refused
abbrev pub is_refused : Reply ℕ ℕ ℕ → Bool
is_refused (reply.Refused _) = true
is_refused _ = false

-- one where it holds
abbrev pub one : Bool → ℕ
one holds = if holds then 1 else 0

-- of how many replies the test holds
abbrev pub count : (Reply ℕ ℕ ℕ → Bool) → List (Reply ℕ ℕ ℕ) → ℕ
count test [] = 0
count test (r ∷ rs) = one (test r) + count test rs

-- how many replies there were, one an event, and how many of them were of these kinds
pub record Counts : Type 0 where
  pub events : ℕ
  pub calls : ℕ
  pub answers : ℕ
  pub asks : ℕ
  pub waits : ℕ
  pub refused : ℕ

-- the counts of these replies
abbrev pub tally : List (Reply ℕ ℕ ℕ) → Counts
tally replies =
    record {
      events = length replies;
      calls = count is_call replies;
      answers = count is_answer replies;
      asks = count is_ask replies;
      waits = count is_wait replies;
      refused = count is_refused replies;
    }

-- one more reply was counted
pub record CountsOn (old : Counts) (r : Reply ℕ ℕ ℕ) (new : Counts) : Type 0 where
  pub events : new.events ≡ old.events + 1
  pub calls : new.calls ≡ old.calls + one (is_call r)
  pub answers : new.answers ≡ old.answers + one (is_answer r)
  pub asks : new.asks ≡ old.asks + one (is_ask r)
  pub waits : new.waits ≡ old.waits + one (is_wait r)
  pub refused : new.refused ≡ old.refused + one (is_refused r)

-- none of these counts is more than that of all
pub record AreFew (events calls answers asks waits refused : ℕ) : Type 0 where
  pub few_calls : calls ≤ events
  pub few_answers : answers ≤ events
  pub few_asks : asks ≤ events
  pub few_waits : waits ≤ events
  pub few_refused : refused ≤ events
