use Rattle.std.proofs.Common.{ap, ◌∙◌, filter, not, is_some, nat_eq}
use Rattle.std.specs.HashMap.{get}
use Rattle.std.specs.List.{list_any}
use Rattle.moka_hist.specs.Visits.{is_named}
use Rattle.moka_desk.proofs.OwnIds.{found_stay, known_stay, own_kept, timely_kept}
use Rattle.moka_desk.proofs.predicates.Predicates.retire.Goals as goal

pub returns : goal.returns
returns c = λ p h.
    let leaving = c.args.leaving.now in
    let left = c.forget_all.ensures p.registered h.ids in
    record {
      registered = c.keep_known.ensures ∙ ap (filter (λ r. is_some (get nat_eq c.forget_all.new.ids r.id))) h.registered
          ∙ known_stay p.registered leaving (λ id. get nat_eq c.forget_all.new.ids id) h.once left;
      ids = λ id. left id ∙ found_stay p.registered leaving h.once id;
      once = own_kept (λ r. not (list_any (λ named. is_named named r) leaving)) p.registered h.once;
      timely = timely_kept (λ r. not (list_any (λ named. is_named named r) leaving)) p.clock p.registered h.timely;
    }
