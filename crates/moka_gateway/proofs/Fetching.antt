-- What the fetches stand for after each of their calls.
use Rattle.std.proofs.Common.{◌≡◌, ℕ, ◌+◌, Bool, true, [], ◌∷◌, Option, Some, None, refl, sym, ap, ◌∙◌, subst, nat_eq}
use Rattle.std.specs.HashMap.{get}
use Rattle.std.specs.Option.{option_map, option_and_then}
use Rattle.moka_hist.specs.Finite.{put_at}
use Rattle.moka_hist.specs.declared.events.Start.TheVariants as start
use Rattle.moka_laws.proofs.Counting.{put_here}
use Rattle.std.specs.declared.cmp.PartialEq as PartialEq
use Rattle.std.specs.declared.hash.Hash as Hash
use Rattle.moka_hist.specs.declared.events.Start.{Start}
use Rattle.moka_polled.specs.declared.machine.PolledMachine.{PolledMachine}
use Rattle.moka_polled.specs.Polled.{IsPolled, IsUsable, MayDrop}
use Rattle.moka_small.specs.declared.outcome.Outcome.{Outcome}
use Rattle.moka_small.specs.declared.outcome.Outcome.TheVariants as outcome
use Rattle.moka_small.specs.Small.{Begun, Stand, started}
use Rattle.moka_small.specs.Polled.{claims, gone_waiter, or_else, owner_of, polled, value_under}
use Rattle.moka_collapsing.specs.declared.answer.Answer.TheVariants as answer
use Rattle.moka_gateway.specs.declared.fetches.Fetches.{Fetches}
use Rattle.moka_collapsing.specs.declared.slot.Asked.{Asked}
use Rattle.moka_collapsing.specs.declared.slot.Place.{Place}
use Rattle.moka_collapsing.specs.declared.slot.Slot.TheVariants as slot
use Rattle.moka_collapsing.specs.Upstream.{Upstream, asked, left}
use Rattle.moka_collapsing.specs.Waiting.{freed, with_waiter, without_waiter}
use Rattle.moka_collapsing.specs.Standing.{Cache, Serves, begun, load_of}
use Rattle.moka_collapsing.specs.Coming.{Comes, IsLeft, RequestsCome, RequestsLeave}
use Rattle.moka_gateway.specs.Fetches.{IsFetches, is_of_request}

-- ---- a request comes

-- its call stands at its beginning
pub live_at : (m : Cache) (s : Start ℕ ℕ) (number : ℕ) → number ≡ m.last + 1 → (started m s).stands number ≡ Some (Begun s)
live_at m s number is = ap (put_at m.stands (m.last + 1) (Some (Begun s))) is ∙ put_here m.stands (m.last + 1) (Some (Begun s))

pub began : {same : PartialEq.Ghosts ℕ} {hash : Hash.Ghosts ℕ} (mid new : PolledMachine ℕ ℕ ℕ same hash) (m : Cache) (key number : ℕ) (out : Outcome ℕ ℕ) →
    number ≡ m.last + 1 → IsPolled nat_eq mid (started m (start.Try key)) →
    ((m1 : Cache) (stand : Stand ℕ ℕ ℕ) → IsPolled nat_eq mid m1 → m1.stands number ≡ Some stand → (out ≡ (polled nat_eq m1 number stand).0) × IsPolled nat_eq new (polled nat_eq m1 number stand).1) →
    (number ≡ m.last + 1) × (out ≡ (begun m key).0) × IsPolled nat_eq new (begun m key).1
began mid new m key number out is p poll =
    let s : Cache = started m (start.Try key) in
    let it = poll s (Begun (start.Try key)) p (live_at m (start.Try key) number is) in (
      is,
      it.0 ∙ ap (λ n. (polled nat_eq s n (Begun (start.Try key))).0) is,
      subst (λ n. IsPolled nat_eq new (polled nat_eq s n (Begun (start.Try key))).1) is it.1,
    )

by_kind : (m : Cache) (n key : ℕ) (value owner : Option ℕ) → is_of_request (or_else m n value (claims m n (load_of key) owner)).0 ≡ true
by_kind m n key (Some value) owner = refl
by_kind m n key None (Some owner) = refl
by_kind m n key None None = refl

pub kind_of : (m : Cache) (key : ℕ) → is_of_request (begun m key).0 ≡ true
kind_of m key =
    let s : Cache = started m (start.Try key) in
    by_kind s (m.last + 1) key (value_under s key) (owner_of nat_eq s (load_of key))

-- the cache of `new` is what a call that was begun leaves
abbrev pub Begins : Fetches → Fetches → ℕ → ℕ → Outcome ℕ ℕ → Type 0
Begins old new key number out =
    (m : Cache) → IsPolled nat_eq old.cache m →
    (number ≡ m.last + 1) × (out ≡ (begun m key).0) × IsPolled nat_eq new.cache (begun m key).1

module _ (law : RequestsCome) (old mid : Fetches) (key : ℕ) (place : Place) (number : ℕ) (out : Outcome ℕ ℕ) (begins : Begins old mid key number out) (same : mid.lists ≡ old.lists)
    (u : Upstream) (f : IsFetches old u) where
  abbrev it : (number ≡ f.small.last + 1) × (out ≡ (begun f.small key).0) × IsPolled nat_eq mid.cache (begun f.small key).1
  it = begins f.small f.polled

  it_came : Comes f.small (begun f.small key).1 (get nat_eq old.lists) u key place (begun f.small key).0
  it_came = law f.small (get nat_eq old.lists) u key place f.serves f.polled.seen.views.orderly.numbered

  pub loaded_ok : (value : ℕ) (fresh : Bool) → out ≡ outcome.Loaded value fresh → (a : Asked) → a ≡ record { slot = slot.Answered (answer.Value value); fetch = None } →
      (a ≡ (asked u key place).0) × IsFetches mid (asked u key place).1
  loaded_ok value fresh is a says =
      let r = it_came.loaded value fresh (sym it.1 ∙ is) in (
        says ∙ r.0,
        record {
          small = (begun f.small key).1;
          polled = it.2;
          serves = subst (λ l. Serves (begun f.small key).1 (get nat_eq l) (asked u key place).1) (sym same) r.1;
        },
      )

  pub asks_ok : out ≡ outcome.Asks → (new : Fetches) → new.cache ≡ mid.cache →
      ((k : ℕ) → get nat_eq new.lists k ≡ put_at (get nat_eq mid.lists) key (Some (record { asking = number; requests = (number, place) ∷ [] })) k) →
      (a : Asked) → a ≡ record { slot = slot.Waits key number; fetch = Some key } →
      (a ≡ (asked u key place).0) × IsFetches new (asked u key place).1
  asks_ok is new cache on a says =
      let r = it_came.asks (sym it.1 ∙ is) (get nat_eq new.lists) (λ k. on k
      ∙ ap (λ l. put_at (get nat_eq l) key (Some (record { asking = number; requests = (number, place) ∷ [] })) k) same
      ∙ ap (λ n. put_at (get nat_eq old.lists) key (Some (record { asking = n; requests = (n, place) ∷ [] })) k) it.0) in (
        says ∙ ap (λ n. record { slot = slot.Waits key n; fetch = Some key }) it.0 ∙ r.0,
        record {
          small = (begun f.small key).1;
          polled = subst (λ x. IsPolled nat_eq x (begun f.small key).1) (sym cache) it.2;
          serves = r.1;
        },
      )

  pub waits_ok : out ≡ outcome.Waits → (new : Fetches) → new.cache ≡ mid.cache →
      ((k : ℕ) → get nat_eq new.lists k ≡ put_at (get nat_eq mid.lists) key (option_map (with_waiter number place) (get nat_eq mid.lists key)) k) →
      (a : Asked) → a ≡ record { slot = slot.Waits key number; fetch = None } →
      (a ≡ (asked u key place).0) × IsFetches new (asked u key place).1
  waits_ok is new cache on a says =
      let r = it_came.waits (sym it.1 ∙ is) (get nat_eq new.lists) (λ k. on k
      ∙ ap (λ l. put_at (get nat_eq l) key (option_map (with_waiter number place) (get nat_eq l key)) k) same
      ∙ ap (λ n. put_at (get nat_eq old.lists) key (option_map (with_waiter n place) (get nat_eq old.lists key)) k) it.0) in (
        says ∙ ap (λ n. record { slot = slot.Waits key n; fetch = None }) it.0 ∙ r.0,
        record {
          small = (begun f.small key).1;
          polled = subst (λ x. IsPolled nat_eq x (begun f.small key).1) (sym cache) it.2;
          serves = r.1;
        },
      )

-- ---- leaving

module _ (law : RequestsLeave) (old mid new : Fetches) (key number : ℕ) (cache : mid.cache ≡ old.cache)
    (on : (k : ℕ) → get nat_eq mid.lists k ≡ put_at (get nat_eq old.lists) key (option_and_then (without_waiter number) (get nat_eq old.lists key)) k)
    (u : Upstream) (f : IsFetches old u) where
  leaves : IsLeft f.small (get nat_eq mid.lists) (left u (slot.Waits key number)) (option_and_then (λ w. freed w number) (get nat_eq old.lists key))
  leaves = law f.small (get nat_eq old.lists) (get nat_eq mid.lists) u key number f.serves on

  -- nobody's call is free
  pub stays_ok : (x : Option ℕ) → x ≡ option_and_then (λ w. freed w number) (get nat_eq old.lists key) → x ≡ None → IsFetches mid (left u (slot.Waits key number))
  stays_ok x is none = record {
    small = f.small;
    polled = subst (λ c. IsPolled nat_eq c f.small) (sym cache) f.polled;
    serves = leaves.stays (sym is ∙ none);
  }

  pub may_drop : (x : Option ℕ) → x ≡ option_and_then (λ w. freed w number) (get nat_eq old.lists key) → (call : ℕ) → x ≡ Some call → IsUsable nat_eq mid.cache (MayDrop call)
  may_drop x is call some = λ unspent. let d = (leaves.drops call (sym is ∙ some)).0 in (f.small, subst (λ c. IsPolled nat_eq c f.small) (sym cache) f.polled, record { live = d.live; alone = d.alone })

  pub drops_ok : (x : Option ℕ) → x ≡ option_and_then (λ w. freed w number) (get nat_eq old.lists key) → (call : ℕ) → x ≡ Some call →
      new.lists ≡ mid.lists → ((m : Cache) → IsPolled nat_eq mid.cache m → MayDrop call m → IsPolled nat_eq new.cache (gone_waiter m call)) →
      IsFetches new (left u (slot.Waits key number))
  drops_ok x is call some same gone =
      let d = leaves.drops call (sym is ∙ some) in
      record {
        small = gone_waiter f.small call;
        polled = gone f.small (subst (λ c. IsPolled nat_eq c f.small) (sym cache) f.polled) (record { live = d.0.live; alone = d.0.alone });
        serves = subst (λ l. Serves (gone_waiter f.small call) (get nat_eq l) (left u (slot.Waits key number))) (sym same) d.1;
      }
