-- Two runs, of copies of the key, which are the key.
use Rattle.std.proofs.Common.{◌∙◌, ap, length, sym}
use Rattle.std.proofs.lemmas.Result.{IfOk-weaker}
use Rattle.moka_uses.specs.Replaced.{IsReadReplaced, looking_again, replacing_by}
use Rattle.moka_uses.proofs.TwoValues.{read_replaced_of}
use Rattle.moka_uses.proofs.replacing.read_replaced.Goals as goal

pub returns : goal.returns
returns g c =
    let eq = g.K.PartialEq.eq in
    let looked = g.met.K.Exact.exact c.args.key c.in_ok-clone.field-0 c.in_ok-clone.ensures.cases in
    let second = g.met.K.Exact.exact c.args.key c.in_ok-again.again c.in_ok-again.ensures.cases in
    let stores = c.deref.ensures.value ∙ c.in_ok-stores.ensures ∙
    ap (λ k. replacing_by c.args.key k c.args.first c.args.value) second in
    let looks = c.deref-2.ensures.value ∙ c.in_ok-looks.ensures ∙ ap looking_again looked in
    IfOk-weaker c.found.result _
    (λ found. IsReadReplaced eq c.args.key c.args.first c.args.value found)
    (λ found is. read_replaced_of eq c.in_ok-cache.cache c.run_all.new.cache
    c.run_all-looked.new.cache c.args.key c.args.first c.args.value c.deref.result.now
    c.deref-2.result.now c.in-Ok.field-0.replies c.in_ok-report.report.replies is.0 is.1 found
    g.met.K.Eq.laws c.inserted_is_found.ensures.found c.reached_by_lawful_run.ensures.reached
    c.in_ok-cache.ensures.fresh stores c.in-Ok.ensures.run looks c.in_ok-report.ensures.run
    (sym c.as_slice.ensures ∙ is.2) is.3)
    c.found.ensures

pub found-requires : goal.found-requires
found-requires g c = record { two = ap length c.as_slice.ensures ∙ c.in_ok-report.ensures.answered ∙ ap length (c.deref-2.ensures.value ∙ c.in_ok-looks.ensures) }
