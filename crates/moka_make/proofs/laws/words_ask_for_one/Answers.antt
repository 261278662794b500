-- Each of the two words spells one number.
use Rattle.std.proofs.Common.{[], get_or, sym, ap, ◌∙◌, arith}
use Rattle.std.proofs.lemmas.Fmt.{decimal_injective}
use Rattle.moka_make.proofs.laws.words_ask_for_one.Goals as goal

pub returns : goal.returns
returns c = λ words turns turns' seed seed' a b.
    let same = sym a.spelled ∙ b.spelled in
    let few = a.few in
    let few' = b.few in (
      decimal_injective turns turns' (omega arith) (omega arith) (ap (λ ws. get_or ws 1 []) same),
      decimal_injective seed seed' a.fits b.fits (ap (λ ws. get_or ws 2 []) same),
    )
