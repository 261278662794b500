use Rattle.std.proofs.Common.{◌≡◌, Option, None, Some, MatchOption, sym, ap, ◌∙◌}
use Rattle.std.specs.Option.{option_map}
use Rattle.std.proofs.lemmas.Result.{on_ok_weaker}
use Rattle.moka_parts.specs.Pairs.{pair_in, PutsAt, SamePairs}
use Rattle.moka_parts.proofs.Refusing.{none_answered, refused_alike}
use Rattle.moka_parts.proofs.Taking.{no_value}
use Rattle.moka_parts.proofs.bare.Bare.put_if_absent.Goals as goal

pub returns-in-Ok-None-clause-answers : goal.returns-in-Ok-None-clause-answers
returns-in-Ok-None-clause-answers g c =
    let eq = g.K.PartialEq.eq in
    let key = c.args.key in
    let now = pair_in eq c.args.self.now key in
    let none : now ≡ None = no_value now (sym (ap (option_map (λ p. p.1)) c.find.ensures.pair) ∙ (sym c.in-Ok-None.ensures ∙ c.in-Ok-None.field-0-is)) in
    none_answered c.put.result.0 c.answered.result.0
    (λ (there : Option g.row.V.Denot). MatchOption there ((now ≡ None) × PutsAt eq key (Some (key, c.args.value)) c.args.self.now c.put.new.self)
    (λ v. (option_map (λ p. p.1) now ≡ Some v) × SamePairs eq c.args.self.now c.put.new.self))
    c.answered.ensures.ok c.answered.ensures.err (on_ok_weaker c.put.result.0 (λ (m : PutsAt eq key (Some (key, c.args.value)) c.args.self.now c.put.new.self). (none, m)) c.put.ensures.map)

pub returns-in-Ok-None-clause-err : goal.returns-in-Ok-None-clause-err
returns-in-Ok-None-clause-err g c = refused_alike c.put.result.0 c.answered.result.0 _ c.answered.ensures.ok c.put.ensures.err
