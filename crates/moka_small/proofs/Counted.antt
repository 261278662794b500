-- How many wait for an owner, as the small state counts them.
use Rattle.std.proofs.Common.{◌≡◌, ℕ, ◌==◌, Bool, true, false, cond, ◌&&◌, None, ap, ◌∙◌, refl}
use Rattle.std.specs.Option.{option_map, option_map_or}
use Rattle.moka_hist.specs.State.{State}
use Rattle.moka_hist.specs.Run.{IsReached}
use Rattle.moka_hist.specs.Visits.{settled_without}
use Rattle.moka_laws.specs.Readers.{how_many}
use Rattle.moka_laws.proofs.Unread.{readers_counted}
use Rattle.moka_small.specs.Small.{Small, waiting, waits_for}
use Rattle.moka_small.specs.Seen.{Views, settled_as}

-- `readers` counts those that wait
pub readers_are : {K V E : Type 0} (eq : K → K → Bool) (s : State K V E) (m : Small K V E) (owner : ℕ) →
    IsReached eq s → Views s m → s.world.desk.readers owner ≡ waiting m owner
readers_are eq s m owner reached views =
    (readers_counted eq s owner reached).count ∙
    (λ i. how_many (views.last i) (λ n. option_map_or (λ o. o == owner) (views.joined n i) false))

-- what is kept of the owners once a call has left that waited for one, if it did
pub kept_without : {K V E : Type 0} (eq : K → K → Bool) (s : State K V E) (m : Small K V E) →
    IsReached eq s → Views s m → (n k : ℕ) → settled_without s.world.desk n k ≡
    option_map settled_as (cond (waits_for (m.stands n) k && waiting m k == 1) None (m.ends k))
kept_without eq s m reached views n k =
    ap (λ x. cond (option_map_or (λ o. o == k) x false && s.world.desk.readers k == 1) None (s.world.desk.settled k)) (views.joined n) ∙
    ap (λ q. cond (waits_for (m.stands n) k && q == 1) None (s.world.desk.settled k)) (readers_are eq s m k reached views) ∙
    by (waits_for (m.stands n) k && waiting m k == 1)
  where
    by : (b : Bool) → cond b None (s.world.desk.settled k) ≡ option_map settled_as (cond b None (m.ends k))
    by true = refl
    by false = views.settled k
