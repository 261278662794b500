-- A request for a key: what the call comes to, and what the cache serves then.
use Rattle.std.proofs.Common.{◌≡◌, ◌≢◌, ℕ, ◌+◌, ◌<◌, ◌≤◌, Bool, false, List, [], ◌∷◌, ◌++◌, drop, length, Option, Some, None, refl, sym, ap, ◌∙◌, subst, arith, inl, inr}
use Rattle.std.specs.Option.{option_map}
use Rattle.moka_hist.specs.Finite.{put_at}
use Rattle.moka_hist.specs.declared.events.Start.TheVariants as start
use Rattle.moka_laws.proofs.Counting.{none_some, some_same, put_here}
use Rattle.moka_small.specs.declared.outcome.Outcome.{Outcome}
use Rattle.moka_small.specs.declared.outcome.Outcome.TheVariants as outcome
use Rattle.moka_small.specs.Small.{Asks, Stand, Waits, started, with_stand}
use Rattle.moka_small.specs.Polled.{gone}
use Rattle.moka_collapsing.specs.declared.answer.Answer.TheVariants as answer
use Rattle.moka_collapsing.specs.declared.slot.Place.{Place}
use Rattle.moka_collapsing.specs.declared.slot.Slot.TheVariants as slot
use Rattle.moka_collapsing.specs.Upstream.{Upstream, Waiter, asked, asked_at, fetch_of, joined}
use Rattle.moka_collapsing.specs.Waiting.{Waiting, place_of, with_waiter}
use Rattle.moka_collapsing.specs.Standing.{Cache, Serves, begun, load_of, requests_on}
use Rattle.moka_collapsing.specs.Coming.{Comes, RequestsCome}
use Rattle.moka_collapsing.proofs.Listed.{each_drop, each_map, found_last}
use Rattle.moka_collapsing.proofs.Serving.{Joins, begins_list, calls_stay, comes_first, comes_later, comes_stored, drop_append, joins_last, more_on, serves_joined, serves_stored}

abbrev loads : ℕ → Bool → Outcome ℕ ℕ
loads value fresh = outcome.Loaded value fresh

abbrev asks_out : Outcome ℕ ℕ
asks_out = outcome.Asks

abbrev waits_out : Outcome ℕ ℕ
waits_out = outcome.Waits

module _ (m : Cache) (lists : ℕ → Option Waiting) (u : Upstream) (key : ℕ) (place : Place) (serves : Serves m lists u)
    (fresh : (n : ℕ) → m.last < n → m.stands n ≡ None) where
  abbrev at_start : Cache
  at_start = started m (start.Try key)

  is_asked : (x : Option ℕ) → u.stored key ≡ x → asked u key place ≡ asked_at x u key place
  is_asked x e = ap (λ y. asked_at y u key place) e

  -- ---- the key is stored
  came_stored : (value : ℕ) → u.stored key ≡ Some value → Comes m (begun m key).1 lists u key place (begun m key).0
  came_stored value e =
      let is = comes_stored m lists u key serves fresh value (serves.stored key ∙ e) in
      let out = ap (λ p. p.0) is in
      let asked_is = is_asked (Some value) e in
      record {
        loaded = λ v f same. (
          ap (λ w. record { slot = slot.Answered (answer.Value w); fetch = None }) (loaded_same v value f false (sym same ∙ out)) ∙ ap (λ p. p.0) (sym asked_is),
          subst (λ c. Serves c lists (asked u key place).1) (ap (λ p. p.1) (sym is))
              (subst (λ v. Serves (gone at_start (m.last + 1)) lists v) (ap (λ p. p.1) (sym asked_is)) (serves_stored m lists u key serves fresh)),
        );
        asks = λ same lists1 on. absurd (loaded_asks value false (sym out ∙ same));
        waits = λ same lists1 on. absurd (loaded_waits value false (sym out ∙ same));
        others = λ a w l. l value false out;
      }
    where
      loaded_same : (a b : ℕ) (f g : Bool) → loads a f ≡ loads b g → a ≡ b
      loaded_same a b f g e = cc

      loaded_asks : (a : ℕ) (f : Bool) → loads a f ≡ asks_out → ⊥
      loaded_asks a f e = cc

      loaded_waits : (a : ℕ) (f : Bool) → loads a f ≡ waits_out → ⊥
      loaded_waits a f e = cc

  -- ---- it isn't, and nobody asks
  asks_first : u.stored key ≡ None → lists key ≡ None → (lists1 : ℕ → Option Waiting) →
      ((k : ℕ) → lists1 k ≡ put_at lists key (Some (record { asking = m.last + 1; requests = (m.last + 1, place) ∷ [] })) k) →
      Serves (with_stand at_start (m.last + 1) (Some (Asks (load_of key)))) lists1 (joined u key place)
  asks_first none nobody lists1 on =
      let w : Waiting = record { asking = m.last + 1; requests = (m.last + 1, place) ∷ [] } in
      let stand : Stand ℕ ℕ ℕ = Asks (load_of key) in
      let m1 = with_stand at_start (m.last + 1) (Some stand) in
      let here = on key ∙ put_here lists key (Some w) in
      serves_joined m m1 lists lists1 u key place w stand serves
      (record {
        fresh = fresh;
        last = refl;
        values = λ k. refl;
        stands = λ n. refl;
        on = on;
        requests = ap (λ l. requests_on l ++ (m.last + 1, place) ∷ []) (sym nobody);
        asking = λ v other. absurd (none_some (sym nobody ∙ other));
        here = inl (record { key = key; list = w; on = here; call = refl; stands = refl });
      })
      (begins_list m m1 key place refl (put_here at_start.stands (m.last + 1) (Some stand)))

  came_first : u.stored key ≡ None → lists key ≡ None → Comes m (begun m key).1 lists u key place (begun m key).0
  came_first none nobody =
      let is = comes_first m lists u key serves fresh (serves.stored key ∙ none) nobody in
      let out = ap (λ p. p.0) is in
      let asked_is = is_asked None none in
      let empty : u.waiting key ≡ [] = sym (serves.waiting key) ∙ ap requests_on nobody in
      record {
        loaded = λ v f same. absurd (asks_loaded v f (sym out ∙ same));
        asks = λ same lists1 on. (
          ap (λ f. record { slot = slot.Waits key (m.last + 1); fetch = f }) (sym (ap (λ l. fetch_of l key) empty))
              ∙ ap (λ n. record { slot = slot.Waits key (n + 1); fetch = fetch_of (u.waiting key) key }) serves.last ∙ ap (λ p. p.0) (sym asked_is),
          subst (λ c. Serves c lists1 (asked u key place).1) (ap (λ p. p.1) (sym is))
              (subst (λ v. Serves (with_stand at_start (m.last + 1) (Some (Asks (load_of key)))) lists1 v) (ap (λ p. p.1) (sym asked_is)) (asks_first none nobody lists1 on)),
        );
        waits = λ same lists1 on. absurd (asks_waits (sym out ∙ same));
        others = λ a w l. a out;
      }
    where
      asks_loaded : (a : ℕ) (f : Bool) → asks_out ≡ loads a f → ⊥
      asks_loaded a f e = cc

      asks_waits : asks_out ≡ waits_out → ⊥
      asks_waits e = cc

  -- ---- it isn't, and somebody asks
  waits_later : (w : Waiting) → lists key ≡ Some w → (lists1 : ℕ → Option Waiting) →
      ((k : ℕ) → lists1 k ≡ put_at lists key (option_map (with_waiter (m.last + 1) place) (lists key)) k) →
      Serves (with_stand at_start (m.last + 1) (Some (Waits w.asking (load_of key)))) lists1 (joined u key place)
  waits_later w on_list lists1 on =
      let new : Waiter = (m.last + 1, place) in
      let old = serves.listed key w on_list in
      let w1 : Waiting = record { asking = w.asking; requests = w.requests ++ new ∷ [] } in
      let stand : Stand ℕ ℕ ℕ = Waits w.asking (load_of key) in
      let m1 = with_stand at_start (m.last + 1) (Some stand) in
      let some : option_map (with_waiter (m.last + 1) place) (lists key) ≡ Some w1 = ap (option_map (with_waiter (m.last + 1) place)) on_list ∙ ap Some (joins_last m key place w old) in
      let on1 : (k : ℕ) → lists1 k ≡ put_at lists key (Some w1) k = λ k. on k ∙ ap (λ x. put_at lists key x k) some in
      let here = on1 key ∙ put_here lists key (Some w1) in
      let tail : drop 1 w1.requests ≡ drop 1 w.requests ++ new ∷ [] = drop_append w.requests new old.some in
      let j : Joins m m1 lists lists1 key place w1 stand = record {
        fresh = fresh;
        last = refl;
        values = λ k. refl;
        stands = λ n. refl;
        on = on1;
        requests = ap (λ l. requests_on l ++ new ∷ []) (sym on_list);
        asking = λ v other. ap (λ l. l.asking) (some_same (sym on_list ∙ other));
        here = inr (record {
          key = key;
          list = w1;
          on = here;
          place = place;
          call = ap (λ l. place_of l (m.last + 1)) tail ∙ found_last (drop 1 w.requests) (m.last + 1) place
              (each_drop (λ v. v.0 ≢ m.last + 1) w.requests (each_map (λ v. v.0 ≤ m.last) (λ v. v.0 ≢ m.last + 1) (λ v h e. absurd (omega (arith, h, e))) w.requests old.numbered));
          stands = refl;
        });
      } in
      serves_joined m m1 lists lists1 u key place w1 stand serves j
      (more_on m m1 key place w old refl (calls_stay m m1 lists lists1 u key place w1 stand serves j) (put_here at_start.stands (m.last + 1) (Some stand)))

  some_fetches_none : (ws : List Waiter) → 0 < length ws → None ≡ fetch_of ws key
  some_fetches_none [] h = absurd (omega (arith, h))
  some_fetches_none (w ∷ ws) h = refl

  came_later : (w : Waiting) → u.stored key ≡ None → lists key ≡ Some w → Comes m (begun m key).1 lists u key place (begun m key).0
  came_later w none on_list =
      let is = comes_later m lists u key serves fresh w (serves.stored key ∙ none) on_list in
      let out = ap (λ p. p.0) is in
      let asked_is = is_asked None none in
      let same_list : w.requests ≡ u.waiting key = sym (ap requests_on on_list) ∙ serves.waiting key in
      record {
        loaded = λ v f same. absurd (waits_loaded v f (sym out ∙ same));
        asks = λ same lists1 on. absurd (waits_asks (sym out ∙ same));
        waits = λ same lists1 on. (
          ap (λ f. record { slot = slot.Waits key (m.last + 1); fetch = f }) (some_fetches_none w.requests (serves.listed key w on_list).some ∙ ap (λ l. fetch_of l key) same_list)
              ∙ ap (λ n. record { slot = slot.Waits key (n + 1); fetch = fetch_of (u.waiting key) key }) serves.last ∙ ap (λ p. p.0) (sym asked_is),
          subst (λ c. Serves c lists1 (asked u key place).1) (ap (λ p. p.1) (sym is))
              (subst (λ v. Serves (with_stand at_start (m.last + 1) (Some (Waits w.asking (load_of key)))) lists1 v) (ap (λ p. p.1) (sym asked_is)) (waits_later w on_list lists1 on)),
        );
        others = λ a w l. w out;
      }
    where
      waits_loaded : (a : ℕ) (f : Bool) → waits_out ≡ loads a f → ⊥
      waits_loaded a f e = cc

      waits_asks : waits_out ≡ asks_out → ⊥
      waits_asks e = cc

  pub came : Comes m (begun m key).1 lists u key place (begun m key).0
  came = by (u.stored key) refl (lists key) refl
    where
      by : (x : Option ℕ) → u.stored key ≡ x → (l : Option Waiting) → lists key ≡ l → Comes m (begun m key).1 lists u key place (begun m key).0
      by (Some value) e l f = came_stored value e
      by None e None f = came_first e f
      by None e (Some w) f = came_later w e f

pub all_come : RequestsCome
all_come m lists u key place serves fresh = came m lists u key place serves fresh
