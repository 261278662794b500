-- The words ask for one workload, which comes to one summary.
use Rattle.std.proofs.Common.{◌≡◌, sym, ap, ◌∙◌, subst}
use Rattle.moka_ends.specs.Bytes.{Extends}
use Rattle.moka_summary.specs.SummaryText.{summary_text}
use Rattle.moka_make.specs.Summing.{IsSummaryText}
use Rattle.moka_make.proofs.laws.makes_write_one.Goals as goal

pub returns : goal.returns
returns c = λ words old new old' new' a b.
    let one = c.words_ask_for_one.ensures words a.turns b.turns a.seed b.seed a.asks b.asks in
    let other : IsSummaryText a.turns a.seed b.text =
    subst (λ turns. IsSummaryText turns a.seed b.text) (sym one.0)
    (subst (λ seed. IsSummaryText b.turns seed b.text) (sym one.1) b.sums) in
    let same : b.text ≡ a.text =
    other.is ∙ ap summary_text (c.workloads_come_to_one.ensures a.turns a.seed other.summary
    a.sums.summary other.sums a.sums.sums) ∙ sym a.sums.is in
    record {
      text = a.text;
      first = a.writes;
      second = subst (λ text. Extends old' text new') same b.writes;
    }
