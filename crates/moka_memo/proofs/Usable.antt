-- A memo that was usable is so after a call.
use Rattle.std.proofs.Common.{◌≡◌, true, false, sym, ◌∙◌}
use Rattle.std.proofs.lemmas.Bool.{false≢true}
use Rattle.moka_evaluator.specs.Evaluator.{Evaluator}
use Rattle.moka_memo.specs.Memo.{IsMemo, IsUsable}
use Rattle.moka_memo.specs.declared.memo.Memo.{Memo}

pub usable_after : (old new : Memo) (after : Evaluator → Evaluator) → old.spent ≡ false → IsUsable old →
    ((e : Evaluator) → IsMemo old e → IsMemo new (after e)) → IsUsable new
usable_after old new after unspent usable moves same =
    let stands = usable unspent in (after stands.0, (moves stands.0 stands.1.0, tt))

pub spent_usable : (memo : Memo) → memo.spent ≡ true → IsUsable memo
spent_usable memo spent unspent = absurd (false≢true (sym unspent ∙ spent))
