-- What the lines of a source come to, by the reference gateway.
use Rattle.std.specs.Prelude.{◌≡◌, ℕ, List, [], ◌∷◌, ◌++◌, map, Option, Some, None, codes, flat_map}
use Rattle.moka_lines.specs.Programs.{IsAnswer}
use Rattle.moka_lines.specs.Texts.{ended}
use Rattle.moka_collapsing.specs.declared.out.Out.{Out}
use Rattle.moka_collapsing.specs.declared.out.Out.TheVariants as out
use Rattle.moka_collapsing.specs.Reference.{Reference, closes, feeds, fresh, opens, replies}
use Rattle.moka_collapsing.specs.Runs.{Event, Open, Feed, Reply, Close, run_of}
use Rattle.moka_collapsing.specs.Served.{IsServed}
use Rattle.moka_gateway.specs.declared.gateway.Gateway.{Gateway}
use Rattle.moka_gateway.specs.Gateway.{IsGateway}
use Rattle.moka_gateway_run.specs.Lines.{FitsAnywhere, line_words}
use Rattle.moka_gateway_run.specs.Replies.{cancel_line, client_line, fetch_line, to_line}
use Rattle.moka_gateway_run.specs.declared.lines.Line.{Line}
use Rattle.moka_gateway_run.specs.declared.lines.Line.TheVariants as line

-- a line for each thing that is to be done
abbrev pub out_line : Out → List ℕ
out_line (out.Fetch key) = fetch_line key
out_line (out.Cancel key) = cancel_line key
out_line (out.To client bytes) = to_line client bytes

-- what a call came to: these bytes first and then what is to be done, or that it is refused
abbrev pub done_text : List ℕ → Option (List Out) → List ℕ
done_text first (Some outs) = first ++ flat_map out_line outs
done_text first None = ended (codes "refused")

-- the text of a line, and the gateway afterwards
abbrev pub played : Reference → Line → List ℕ × Reference
played g line.Open = (client_line (opens g).0, (opens g).1)
played g (line.Feed client bytes) =
    (done_text [] (feeds g client bytes).0, (feeds g client bytes).1)
played g (line.Reply key answer) =
    (done_text [] (replies g key answer).0, (replies g key answer).1)
played g (line.Close client) =
    (done_text (ended (codes "closed")) (closes g client).0, (closes g client).1)

-- the text grew by that of a line, and the gateway stands for this one afterwards
abbrev pub Plays : Gateway → List ℕ → List ℕ → List ℕ × Reference → Type 0
Plays gateway before after came = (after ≡ before ++ came.0) × IsGateway gateway came.1

-- and of lines, one after the other
abbrev pub played_all : Reference → List Line → List ℕ
played_all g [] = []
played_all g (l ∷ lines) = (played g l).0 ++ played_all (played g l).1 lines

-- the text of the lines of a source, on a gateway that is new
abbrev pub gateway_text : List Line → List ℕ
gateway_text lines = played_all fresh lines

-- what a line says that happens
abbrev pub event_of : Line → Event
event_of line.Open = Open
event_of (line.Feed client bytes) = Feed client bytes
event_of (line.Reply key answer) = Reply key answer
event_of (line.Close client) = Close client

-- The lines are answered by this text, which goes on after some of them with the gateway that their
-- run has come to, and the whole run is served. Nothing else is handed to the program.
pub record AreAnsweredBy (old : Unit {0}) (lines : List Line) (written : List ℕ) (new : Unit {0})
    : Type 0 where
  pub text : written ≡ gateway_text lines
  pub goes_on : (before after : List Line) → lines ≡ before ++ after → written
      ≡ gateway_text before ++ played_all (run_of (map event_of before)).gateway after
  pub served : IsServed (map event_of lines)

-- the text is that of the lines that the bytes say
abbrev pub IsGatewayText : List ℕ → List ℕ → Type 0
IsGatewayText = IsAnswer line_words FitsAnywhere AreAnsweredBy tt tt
