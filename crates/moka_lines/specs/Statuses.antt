-- The exit statuses and their lines.
use Rattle.std.specs.Prelude.{ℕ, List, [], ◌++◌, codes, decimal}
use Rattle.moka_lines.specs.declared.status.Status.{Status}
use Rattle.moka_lines.specs.declared.status.Status.TheVariants as status

-- the number with which a program ends
abbrev pub exit_code : Status → ℕ
exit_code status.Done = 0
exit_code status.BadWords = 1
exit_code (status.BadLine line) = 2
exit_code status.TooLong = 3
exit_code status.ReadFault = 4
exit_code status.WriteFault = 5
exit_code status.Memory = 6

-- the line on standard error, without its end
abbrev pub status_words : Status → List ℕ
status_words status.Done = []
status_words status.BadWords = codes "bad words"
status_words (status.BadLine line) = codes "bad line " ++ decimal line
status_words status.TooLong = codes "too long"
status_words status.ReadFault = codes "read fault"
status_words status.WriteFault = codes "write fault"
status_words status.Memory = codes "memory"
