-- What calls of a cache before a keeper reply.
use Rattle.std.specs.Prelude.{◌≡◌, ◌⊎◌, ℕ, ◌<◌, true, nat_eq, List, [], ◌∷◌, ◌++◌, length, take, drop, Option, Some, None, IfSome, IsSome, flat_map}
use Rattle.std.specs.Set.{is_member}
use Rattle.moka_ends.specs.Faults.{HasRisen}
use Rattle.moka_keepers.specs.declared.write.Write.{Write}
use Rattle.moka_keepers.specs.Keeping.{Kept}
use Rattle.moka_keepers.specs.Owing.{Owes, Truth, true_pairs, truth_of, with_write}
use Rattle.moka_keepers.specs.Writes.{last_of, write_of}
use Rattle.moka_behind.specs.Behind.{IsBehind}
use Rattle.moka_behind.specs.declared.behind.Behind.{Behind}
use Rattle.moka_behind.specs.Stored.{keys_after, keys_found}
use Rattle.moka_behind_run.specs.Replies.{replies_text, reply_line}
use Rattle.moka_behind_run.specs.declared.calls.Call.{Call}
use Rattle.moka_behind_run.specs.declared.calls.Call.TheVariants as call
use Rattle.moka_behind_run.specs.declared.replies.Reply.{Reply}
use Rattle.moka_behind_run.specs.declared.replies.Reply.TheVariants as reply

-- what is true, which keys are stored, and which writes were sent
pub record Standing : Type 0 where
  pub truth : Truth
  pub stored : List ℕ
  pub sent : List Write

-- what a keeper tells, and how many faults it has had
pub record Seen : Type 0 where
  pub told : Kept
  pub faults : ℕ

-- at first nothing was written, and nothing is stored
abbrev pub first : Kept → Standing
first kept = record { truth = truth_of kept; stored = []; sent = [] }

-- the writes that are unsent
abbrev pub unsent : Standing → List Write
unsent s = drop (length s.sent) s.truth.writes

-- a set, or a del, was made
abbrev pub written : Standing → ℕ → Option ℕ → Standing
written s key value =
    record s {
      truth = with_write s.truth (write_of key value);
      stored = keys_after key value s.stored;
    }

-- the key is stored, or has an unsent write
abbrev pub IsHeld : Standing → ℕ → Type 0
IsHeld s key = (is_member nat_eq s.stored key ≡ true) ⊎ IsSome (last_of key (unsent s))

-- a look answered this: the truth, where the keeper tells its map
pub record Finds (old : Seen) (s : Standing) (key : ℕ) (found : Option ℕ) (new : Seen)
    (t : Standing) : Type 0 where
  pub keeper : new ≡ old
  pub value : IfSome new.told.pairs (λ ps. found ≡ true_pairs s.truth key)
  pub after : t ≡ record s { stored = keys_found key found s.stored }

-- a look failed, since the keeper did, and it had to be asked
pub record Fails (old : Seen) (s : Standing) (key : ℕ) (new : Seen) (t : Standing) : Type 0 where
  pub told : new.told ≡ old.told
  pub fault : HasRisen old.faults new.faults
  pub asked : IsHeld s key → ⊥
  pub after : t ≡ s

-- so many writes were sent, all that were unsent, and the keeper's map is the truth
pub record Drains (old : Seen) (s : Standing) (count : ℕ) (new : Seen) (t : Standing) : Type 0 where
  pub faults : new.faults ≡ old.faults
  pub all : count ≡ length (unsent s)
  pub owes : Owes [] new.told s.truth s.truth.writes
  pub is_true : IfSome new.told.pairs (λ ps. ps ≡ true_pairs s.truth)
  pub after : t ≡ record s { sent = s.truth.writes }

-- some writes were sent, and the put of the next one failed
pub record Stops (old : Seen) (s : Standing) (new : Seen) (t : Standing) : Type 0 where
  pub fault : HasRisen old.faults new.faults
  pub count : ℕ
  pub fewer : count < length (unsent s)
  pub owes : Owes (unsent t) new.told t.truth t.sent
  pub after : t ≡ record s { sent = s.sent ++ take count (unsent s) }

-- a call replies so
abbrev pub Replies : Seen → Standing → Call → Reply → Seen → Standing → Type 0
Replies old s (call.Set key value) reply.Done new t = (new ≡ old) × (t ≡ written s key (Some value))
Replies old s (call.Del key) reply.Done new t = (new ≡ old) × (t ≡ written s key None)
Replies old s (call.Get key) (reply.Found found) new t = Finds old s key found new t
Replies old s (call.Get key) reply.Fault new t = Fails old s key new t
Replies old s call.Shed (reply.Shed count) new t =
    (new ≡ old) × (count ≡ length s.stored) × (t ≡ record s { stored = [] })
Replies old s call.Drain (reply.Drained count) new t = Drains old s count new t
Replies old s call.Drain reply.Fault new t = Stops old s new t
Replies old s c r new t = ⊥

-- a call replied so, and the cache stands for what is so afterwards
pub record GoesOn (old : Seen) (s : Standing) (c : Call) (r : Reply) (new : Seen) (behind : Behind)
    : Type 0 where
  pub after : Standing
  pub replies : Replies old s c r new after
  pub stands : IsBehind behind new.told after.truth after.stored after.sent

-- so it is of each standing that the cache stood for
abbrev pub Serves : Seen → Behind → Call → Reply → Seen → Behind → Type 0
Serves old before c r new behind =
    (s : Standing) → IsBehind before old.told s.truth s.stored s.sent → GoesOn old s c r new behind

-- calls reply so, one after the other
abbrev pub Runs : Seen → Standing → List Call → List Reply → Seen → Standing → Type 0
Runs old s [] [] new t = (new ≡ old) × (t ≡ s)
Runs old s [] (r ∷ replies) new t = ⊥
Runs old s (c ∷ calls) [] new t = ⊥
Runs old s (c ∷ calls) (r ∷ replies) new t =
    (mid : Seen) × (u : Standing) × Replies old s c r mid u × Runs mid u calls replies new t

-- The text is of the replies to the calls, on a cache that is new, over this keeper.
pub record Behaves (old : Seen) (calls : List Call) (text : List ℕ) (new : Seen) : Type 0 where
  pub replies : List Reply
  pub last : Standing
  pub run : Runs old (first old.told) calls replies new last
  pub is : text ≡ replies_text replies (length (unsent last))

-- so of a keeper that tells this, and has had so many faults
abbrev pub BehavesBy : {K : Type 0} → (K → Kept) → (K → ℕ) → K → List Call → List ℕ → K → Type 0
BehavesBy told faults old calls text new =
    Behaves (record { told = told old; faults = faults old }) calls text
    (record { told = told new; faults = faults new })

-- So far calls were replied to, by these lines, and the cache stands for what is so then.
pub record SoFar (old : Seen) (calls : List Call) (lines : List ℕ) (new : Seen) (behind : Behind)
    : Type 0 where
  pub replies : List Reply
  pub last : Standing
  pub run : Runs old (first old.told) calls replies new last
  pub is : lines ≡ flat_map reply_line replies
  pub stands : IsBehind behind new.told last.truth last.stored last.sent
