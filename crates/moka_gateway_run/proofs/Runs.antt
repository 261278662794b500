-- The text of lines, and the run of what they say.
use Rattle.std.proofs.Common.{◌≡◌, ℕ, List, [], ◌∷◌, ◌++◌, map, refl, sym, ap, ◌∙◌, append_assoc}
use Rattle.moka_collapsing.specs.Folds.{folded}
use Rattle.moka_collapsing.specs.Reference.{Reference}
use Rattle.moka_collapsing.specs.Runs.{Event, Run, begun_run, brought_by, happens}
use Rattle.moka_collapsing.specs.Served.{IsServed}
use Rattle.moka_gateway_run.specs.Playing.{AreAnsweredBy, event_of, gateway_text, played, played_all}
use Rattle.moka_gateway_run.specs.declared.lines.Line.{Line}
use Rattle.moka_gateway_run.specs.declared.lines.Line.TheVariants as line

-- a line leaves the gateway that what it says leaves
same_gateway : (g : Reference) (l : Line) → (played g l).1 ≡ (brought_by g (event_of l)).1
same_gateway g line.Open = refl
same_gateway g (line.Feed client bytes) = refl
same_gateway g (line.Reply key answer) = refl
same_gateway g (line.Close client) = refl

-- the text of lines in two parts
in_two : (r : Run) (before after : List Line) →
    played_all r.gateway (before ++ after) ≡ played_all r.gateway before ++ played_all (folded happens r (map event_of before)).gateway after
in_two r [] after = refl
in_two r (l ∷ before) after =
    let next = happens r (event_of l) in
    let first = (played r.gateway l).0 in
    ap (λ g. first ++ played_all g (before ++ after)) (same_gateway r.gateway l)
    ∙ ap (λ t. first ++ t) (in_two next before after)
    ∙ sym (append_assoc first (played_all next.gateway before) (played_all (folded happens next (map event_of before)).gateway after))
    ∙ ap (λ g. (first ++ played_all g before) ++ played_all (folded happens next (map event_of before)).gateway after) (sym (same_gateway r.gateway l))

pub are_answered : ((events : List Event) → IsServed events) → (old new : Unit {0}) (lines : List Line) (text : List ℕ) → text ≡ gateway_text lines → AreAnsweredBy old lines text new
are_answered all old new lines text is = record {
  text = is;
  goes_on = λ before after e. is ∙ ap gateway_text e ∙ in_two begun_run before after;
  served = all (map event_of lines);
}
