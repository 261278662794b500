-- The reply says whether the answer was taken.
use Rattle.std.proofs.Common.{◌∙◌}
use Rattle.std.proofs.lemmas.Result.{IfOk-weaker}
use Rattle.moka_polled.specs.Polled.{AnySmall}
use Rattle.moka_polled.proofs.Carrying.{tells, tells_either, tells_none, usable_either}
use Rattle.moka_polled.proofs.machine.PolledMachine.tell_if_asked.Goals as goal

pub returns-clause-told : goal.returns-clause-told
returns-clause-told g c = IfOk-weaker c.told.result _ _ (λ took serves m load end p taken.
    let told = serves m p in
    let came = tells g.K.PartialEq.eq c.told.new.self m c.tell_is_told.ensures.told c.args.call c.args.answer load end
    told.reply taken told.served in
    (told.says ∙ came.0, came.1))
    c.told.ensures.serves

pub returns-clause-refused : goal.returns-clause-refused
returns-clause-refused g c = IfOk-weaker c.told.result _ _ (λ took serves m end p is none.
    let told = serves m p in
    let came = tells_none g.K.PartialEq.eq c.told.new.self m c.tell_is_told.ensures.refused c.args.call c.args.answer end
    told.reply is none told.served in
    (told.says ∙ came.0, came.1))
    c.told.ensures.serves

pub returns-clause-usable : goal.returns-clause-usable
returns-clause-usable g c =
    usable_either g.K.PartialEq.eq c.args.self.now c.told.new.self c.told.result AnySmall c.requires.usable
    c.told.ensures.spent c.told.ensures.stays
    (IfOk-weaker c.told.result _ _ (λ took serves m p any. let told = serves m p in
    tells_either g.K.PartialEq.eq c.told.new.self m c.tell_is_told.ensures.told c.tell_is_told.ensures.refused c.args.call
    c.args.answer told.reply c.requires.end told.served)
    c.told.ensures.serves)
