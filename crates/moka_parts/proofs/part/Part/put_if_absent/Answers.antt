use Rattle.std.proofs.Common.{Option, Some, ◌∙◌, sym}
use Rattle.std.proofs.lemmas.Result.{IfOk-weaker}
use Rattle.moka_parts.specs.Pairs.{pair_in}
use Rattle.moka_parts.specs.Parts.{EndsBy}
use Rattle.moka_parts.proofs.Prefixes.{prefix_trans}
use Rattle.moka_parts.proofs.Taking.{no_value, absent_put}
use Rattle.moka_parts.proofs.part.Part.put_if_absent.Goals as goal

pub returns-in-Ok-None-clause-answers : goal.returns-in-Ok-None-clause-answers
returns-in-Ok-None-clause-answers g c =
    let seen = c.copy_at.new.me in
    let now = pair_in g.K.PartialEq.eq c.args.self.now c.args.key in
    let ends = λ (before : Option (g.row.K.Denot × g.row.V.Denot)). EndsBy c.args.key (Some c.args.value) before c.args.own.now c.put.new.own c.args.me.now c.put.new.me in
    absent_put c.put.result.0 c.answered.result.0 ends _ now c.answered.ensures.ok c.answered.ensures.err
    (IfOk-weaker c.put.result.0 _ _ (λ t s. (s.0, ((s.1.0.0.0, prefix_trans c.args.me.now seen s.1.0.0.0 c.copy_at.ensures.grows s.1.0.0.1, s.1.0.0.2), s.1.0.1), s.1.1)) c.put.ensures.ends)
    (no_value now (sym c.in-Ok-None.ensures.pair ∙ c.in-Ok-None.field-0-is))
