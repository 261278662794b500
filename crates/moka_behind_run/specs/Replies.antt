-- The text of replies.
use Rattle.std.specs.Prelude.{ℕ, List, ◌++◌, Some, None, flat_map, codes, decimal}
use Rattle.moka_lines.specs.Texts.{ended}
use Rattle.moka_behind_run.specs.declared.replies.Reply.{Reply}
use Rattle.moka_behind_run.specs.declared.replies.Reply.TheVariants as reply

-- the line of a reply, without its end
abbrev pub reply_words : Reply → List ℕ
reply_words reply.Done = codes "done"
reply_words (reply.Found (Some value)) = codes "some " ++ decimal value
reply_words (reply.Found None) = codes "none"
reply_words reply.Fault = codes "fault"
reply_words (reply.Shed count) = codes "shed " ++ decimal count
reply_words (reply.Drained count) = codes "drained " ++ decimal count

abbrev pub reply_line : Reply → List ℕ
reply_line reply = ended (reply_words reply)

-- how many writes are unsent in the end
abbrev pub unsent_line : ℕ → List ℕ
unsent_line count = ended (codes "unsent " ++ decimal count)

-- the text of replies, and of what is unsent after them
abbrev pub replies_text : List Reply → ℕ → List ℕ
replies_text replies unsent = flat_map reply_line replies ++ unsent_line unsent
