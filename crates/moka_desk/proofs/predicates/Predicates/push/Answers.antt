use Rattle.std.proofs.Common.{◌≡◌, ◌∷◌, [], ◌++◌, ◌==◌, None, Some, cond, sym, ap, ◌∙◌}
use Rattle.moka_desk.specs.Predicates.{registered_under}
use Rattle.moka_desk.proofs.OwnIds.{own_push, under_push}
use Rattle.moka_desk.proofs.Timely.{timely_push}
use Rattle.moka_desk.proofs.predicates.Predicates.push.Goals as goal

pub returns : goal.returns
returns c = λ p h now.
    let one = c.args.one in
    let free : registered_under p.registered one.id ≡ None = sym (h.ids one.id) ∙ c.requires.free in
    record {
      registered = c.push_reserved.ensures.items ∙ ap (λ rs. rs ++ one ∷ []) h.registered;
      ids = λ id. c.in-Ok.ensures.updates.0 id ∙ ap (cond (one.id == id) (Some one)) (h.ids id) ∙ sym (under_push p.registered one id free);
      once = own_push p.registered one h.once free;
      timely = timely_push p.clock p.registered one h.timely now;
    }
