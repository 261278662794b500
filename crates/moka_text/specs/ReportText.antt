-- The text of a report.
use Rattle.std.specs.Prelude.{ℕ, true, false, List, ◌∷◌, ◌++◌, Some, None, flat_map, codes, decimal}
use Rattle.moka_hist.specs.declared.entries.CompResult.{CompResult}
use Rattle.moka_hist.specs.declared.entries.CompResult.TheVariants as done
use Rattle.moka_hist.specs.declared.replies.Ask.{Ask}
use Rattle.moka_hist.specs.declared.replies.Ask.TheVariants as ask
use Rattle.moka_hist.specs.declared.replies.Answer.{Answer}
use Rattle.moka_hist.specs.declared.replies.Answer.TheVariants as answer
use Rattle.moka_hist.specs.declared.replies.Refusal.{Refusal}
use Rattle.moka_hist.specs.declared.replies.Refusal.TheVariants as refusal
use Rattle.moka_hist.specs.declared.replies.Reply.{Reply}
use Rattle.moka_hist.specs.declared.replies.Reply.TheVariants as reply
use Rattle.moka_hist.specs.declared.records.Stored.{Stored}
use Rattle.moka_hist.specs.declared.writes.Place.{Place}
use Rattle.moka_hist.specs.declared.writes.Place.TheVariants as place
use Rattle.moka_hist.specs.declared.rules.Cause.{Cause}
use Rattle.moka_hist.specs.declared.notices.Notice.{Notice}
use Rattle.moka_hist.specs.declared.notices.NoticeState.{NoticeState}
use Rattle.moka_hist.specs.declared.notices.NoticeState.TheVariants as state
use Rattle.moka_ids.specs.Text.{id_text}
use Rattle.moka_lines.specs.Texts.{ended}
use Rattle.moka_text.specs.Words.{cause_word}

-- what a compute has done
abbrev pub done_words : CompResult ℕ ℕ → List ℕ
done_words (done.Inserted entry) = codes "inserted " ++ decimal entry.value
done_words (done.ReplacedWith entry) = codes "replaced " ++ decimal entry.value
done_words (done.Removed entry) = codes "removed " ++ decimal entry.value
done_words (done.Unchanged entry) = codes "unchanged " ++ decimal entry.value
done_words (done.StillNone key) = codes "stillnone"

abbrev pub answer_words : Answer ℕ ℕ ℕ → List ℕ
answer_words answer.Done = codes "done"
answer_words (answer.Found (Some value)) = codes "some " ++ decimal value
answer_words (answer.Found None) = codes "none"
answer_words (answer.Loaded value true) = codes "value " ++ decimal value ++ codes " fresh"
answer_words (answer.Loaded value false) = codes "value " ++ decimal value
answer_words answer.Nothing = codes "nothing"
answer_words (answer.InitErr error) = codes "error " ++ decimal error
answer_words (answer.Computed done) = done_words done
answer_words (answer.ComputeErr error) = codes "error " ++ decimal error
answer_words answer.RetriesExhausted = codes "exhausted"
answer_words answer.Evicted = codes "evicted"
answer_words answer.Kept = codes "kept"
answer_words answer.End = codes "end"
answer_words (answer.Id id) = codes "id " ++ id_text id
answer_words answer.ClosuresDisabled = codes "disabled"
answer_words answer.NoId = codes "noid"

abbrev pub refusal_words : Refusal → List ℕ
refusal_words refusal.UnknownCall = codes "UnknownCall"
refusal_words refusal.NotParked = codes "NotParked"
refusal_words refusal.NotAsked = codes "NotAsked"
refusal_words refusal.ClockBack = codes "ClockBack"
refusal_words refusal.CallsSpent = codes "CallsSpent"

-- a key, the value that stood under it, and why it left
abbrev pub left_words : ℕ → ℕ → Cause → List ℕ
left_words key value cause = decimal key ++ 32 ∷ decimal value ++ 32 ∷ cause_word cause

abbrev pub ask_words : Ask ℕ ℕ → List ℕ
ask_words ask.Init = codes "init"
ask_words (ask.Compute None) = codes "compute none"
ask_words (ask.Compute (Some pair)) =
    codes "compute " ++ decimal pair.0 ++ 32 ∷ decimal pair.1
ask_words (ask.Listener key value cause) = codes "listener " ++ left_words key value cause

-- the words of a reply
abbrev pub reply_words : Reply ℕ ℕ ℕ → List ℕ
reply_words reply.At = codes "at"
reply_words (reply.Call number) = codes "call " ++ decimal number
reply_words reply.Going = codes "going"
reply_words reply.Wait = codes "wait"
reply_words (reply.Ask ask) = codes "ask " ++ ask_words ask
reply_words (reply.Answer answer) = codes "answer " ++ answer_words answer
reply_words (reply.Item key value) = codes "item " ++ decimal key ++ 32 ∷ decimal value
reply_words reply.Told = codes "told"
reply_words reply.Dropped = codes "dropped"
reply_words (reply.Refused why) = codes "refused " ++ refusal_words why

-- the line of a reply
abbrev pub reply_line : Reply ℕ ℕ ℕ → List ℕ
reply_line r = ended (reply_words r)

-- the line of a key and its record: the value, the stamp, and the moment of the write
abbrev pub entry_line : ℕ × Stored ℕ → List ℕ
entry_line e =
    ended (codes "entry " ++ decimal e.0 ++ 32 ∷ decimal e.1.value
    ++ codes " stamp " ++ decimal e.1.stamp ++ codes " at " ++ decimal e.1.modified)

abbrev pub place_word : Place → List ℕ
place_word place.Held = codes "held"
place_word place.Owed = codes "owed"
place_word place.Logged = codes "logged"
place_word place.Applied = codes "applied"

-- the line of a committed write, by its number, and of where it stands
abbrev pub write_line : ℕ × Place → List ℕ
write_line w = ended (codes "write " ++ decimal w.0 ++ 32 ∷ place_word w.1)

-- how far a notice is
abbrev pub state_word : NoticeState → List ℕ
state_word state.Waiting = codes "waiting"
state_word state.Running = codes "running"
state_word state.Ended = codes "ended"
state_word state.Skipped = codes "skipped"

-- the line of a notice: the number of its write, what left, and how far it is
abbrev pub notice_line : Notice ℕ ℕ → List ℕ
notice_line n =
    ended (codes "notice " ++ decimal n.number ++ 32 ∷ left_words n.key n.value n.cause
    ++ 32 ∷ state_word n.state)

-- the line of a registered predicate: the number of its test, and the moment since which it stands
abbrev pub test_line : ℕ × ℕ → List ℕ
test_line t = ended (codes "test " ++ decimal t.0 ++ codes " at " ++ decimal t.1)

-- the replies, then what is stored, then the committed writes, then the notices, then the predicates
abbrev pub report_text :
    List (Reply ℕ ℕ ℕ) → List (ℕ × Stored ℕ) → List (ℕ × Place) → List (Notice ℕ ℕ) → List (ℕ × ℕ)
    → List ℕ
report_text replies entries places notices tests =
    flat_map reply_line replies ++ flat_map entry_line entries ++ flat_map write_line places
    ++ flat_map notice_line notices ++ flat_map test_line tests
