-- The lines of a source, and how each is spelled.
use Rattle.std.specs.Prelude.{ℕ, ◌^◌, ◌<◌, List, ◌∷◌, ◌++◌, Result, Ok, Err, codes, decimal}
use Rattle.moka_gateway_run.specs.Pieces.{IsPiece, shown}
use Rattle.moka_gateway_run.specs.declared.lines.Line.{Line}
use Rattle.moka_gateway_run.specs.declared.lines.Line.TheVariants as line

-- what the upstream answers
abbrev pub answer_words : Result ℕ ℕ → List ℕ
answer_words (Ok value) = codes "value " ++ decimal value
answer_words (Err error) = codes "error " ++ decimal error

-- the one spelling of a line
abbrev pub line_words : Line → List ℕ
line_words line.Open = codes "open"
line_words (line.Feed client bytes) = codes "feed " ++ (decimal client ++ 32 ∷ shown bytes)
line_words (line.Reply key answer) = codes "reply " ++ (decimal key ++ 32 ∷ answer_words answer)
line_words (line.Close client) = codes "close " ++ decimal client

abbrev pub AnswerFits : Result ℕ ℕ → Type 0
AnswerFits (Ok value) = value < 2 ^ 32
AnswerFits (Err error) = error < 2 ^ 32

-- clients are of 64 bits, keys, values and errors of 32
abbrev pub LineFits : Line → Type 0
LineFits line.Open = Unit {0}
LineFits (line.Feed client bytes) = (client < 2 ^ 64) × IsPiece bytes
LineFits (line.Reply key answer) = (key < 2 ^ 32) × AnswerFits answer
LineFits (line.Close client) = client < 2 ^ 64

-- whichever lines came before
abbrev pub FitsAnywhere : List Line → Line → Type 0
FitsAnywhere before l = LineFits l
