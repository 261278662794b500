-- The text of a summary: twelve lines of a word and a number.
use Rattle.std.specs.Prelude.{ℕ, List, ◌++◌, codes, decimal}
use Rattle.moka_lines.specs.Texts.{ended}
use Rattle.moka_summary.specs.declared.summary.Summary.{Summary}

-- a line of a word and a number
abbrev pub line : List ℕ → ℕ → List ℕ
line word number = ended (word ++ decimal number)

abbrev pub summary_text : Summary → List ℕ
summary_text s =
    line (codes "turns ") s.turns
    ++ line (codes "events ") s.replies.events
    ++ line (codes "calls ") s.replies.calls
    ++ line (codes "answers ") s.replies.answers
    ++ line (codes "asks ") s.replies.asks
    ++ line (codes "waits ") s.replies.waits
    ++ line (codes "refused ") s.replies.refused
    ++ line (codes "entries ") s.entries
    ++ line (codes "owed ") s.owed
    ++ line (codes "logged ") s.logged
    ++ line (codes "applied ") s.applied
    ++ line (codes "notices ") s.notices
