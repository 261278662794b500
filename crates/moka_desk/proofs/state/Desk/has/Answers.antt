-- The need is that of the visit.
use Rattle.std.proofs.Common.{sym, subst}
use Rattle.std.specs.Prelude.{◌↔◌, IsTrue}
use Rattle.moka_hist.specs.Conditions.{MayVisit}
use Rattle.moka_desk.specs.Meets.{Meets}
use Rattle.moka_desk.specs.Past.{AllowsAlike}
use Rattle.moka_desk.proofs.Allowing.{alike_also, alike_same}
use Rattle.moka_desk.proofs.Histories.{tests_alike, tests_allowed, tests_exact}
use Rattle.moka_desk.proofs.Needing.{meets_is_may}
use Rattle.moka_desk.proofs.state.Desk.has.Goals as goal

pub returns-clause-exact : goal.returns-clause-exact
returns-clause-exact g c = λ whole w made h is need.
    let alike = AllowsAlike g.K.PartialEq.eq c.args.self.now w (λ v. Meets v c.args.call c.args.need) in
    let meets = subst (λ n. IsTrue c.meets-meets.result ↔ Meets w c.args.call n) (sym need) (tests_exact alike _ _ (c.meets-meets.ensures w h) whole) in
    let may = meets_is_may w c.args.call made is in
    ((λ yes. may.0 (meets.0 yes)), (λ allowed. meets.1 (may.1 allowed)))

pub returns-clause-allowed : goal.returns-clause-allowed
returns-clause-allowed g c = λ w made h is need allowed.
    let alike = AllowsAlike g.K.PartialEq.eq c.args.self.now w (λ v. Meets v c.args.call c.args.need) in
    tests_allowed alike _ _ (c.meets-meets.ensures w h) (subst (λ n. Meets w c.args.call n) need ((meets_is_may w c.args.call made is).1 allowed))

pub returns-clause-alike : goal.returns-clause-alike
returns-clause-alike g c = λ yes w made h is need.
    let eq = g.K.PartialEq.eq in
    let desk = c.args.self.now in
    let call = c.args.call in
    alike_also eq desk w h (λ v. Meets v call c.args.need) (λ v. MayVisit v made) (λ v meets. (meets_is_may v call made is).0 (subst (λ n. Meets v call n) (sym need) meets))
    (tests_alike _ _ (c.meets-meets.ensures w h) (alike_same eq desk w h (λ v. Meets v call c.args.need)) yes)
