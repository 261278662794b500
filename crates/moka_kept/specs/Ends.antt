-- How a listener may end a notice.
use Rattle.std.specs.Prelude.{ℕ}
use Rattle.moka_kept.specs.declared.heard.ListenerEnd.{ListenerEnd}
use Rattle.moka_kept.specs.declared.heard.ListenerEnd.TheVariants as end

-- it may end any notice by Done, and by Off those with which it quits
abbrev pub MayEnd : {L : Type 0} → (L → ℕ → Type 0) → L → ℕ → ListenerEnd → Type 0
MayEnd quits listener notice end.Done = Unit {0}
MayEnd quits listener notice end.Off = quits listener notice
