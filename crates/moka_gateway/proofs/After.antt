-- What a gateway stands for after one event more.
use Rattle.std.proofs.Common.{List, [], ◌∷◌, ◌++◌, sym, subst}
use Rattle.moka_collapsing.specs.Reference.{Reference}
use Rattle.moka_collapsing.specs.Runs.{Event, begun_run, brought_by, happens, run_of}
use Rattle.moka_collapsing.specs.Served.{IsServed}
use Rattle.moka_collapsing.proofs.Cutting.{folded_append}
use Rattle.moka_gateway.specs.declared.gateway.Gateway.{Gateway}
use Rattle.moka_gateway.specs.Gateway.{IsAfter, IsGateway}

pub after_one : ((events : List Event) → IsServed events) → (old new : Gateway) (e : Event) →
    ((g : Reference) → IsGateway old g → IsGateway new (brought_by g e).1) → (events : List Event) → IsAfter old events → IsAfter new (events ++ e ∷ [])
after_one all old new e stands events h = record {
  stands = subst (λ r. IsGateway new r.gateway) (sym (folded_append happens begun_run events (e ∷ []))) (stands (run_of events).gateway h.stands);
  served = all (events ++ e ∷ []);
}
