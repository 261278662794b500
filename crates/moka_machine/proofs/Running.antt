-- Calls that run, as the machine's world moves on.
use Rattle.std.proofs.Common.{◌≡◌, ◌≢◌, ◌<◌, ◌≤◌, ◌==◌, ℕ, Bool, true, false, cond, Option, Some, None, refl, sym, ap, subst, ◌∙◌, ◌⊎◌, inl, inr, arith}
use Rattle.std.proofs.lemmas.Bool.Decides.{eqb_tells}
use Rattle.std.specs.declared.cmp.PartialEq as PartialEq
use Rattle.std.specs.declared.hash.Hash as Hash
use Rattle.moka_hist.specs.Bound.{times_of}
use Rattle.moka_hist.specs.State.{Call, Stay, TablePart, World}
use Rattle.moka_hist.specs.Finite.{put_at}
use Rattle.moka_init.specs.FlowPlan.{call_of}
use Rattle.moka_init.specs.Grounds.{HasBegun}
use Rattle.moka_layers.specs.Layers.{BegunIs, TableIs, operation_in}
use Rattle.moka_hist.specs.declared.record_tests.Tests as Tests
use Rattle.moka_machine.specs.Calls.{place_at, running_at}
use Rattle.moka_machine.specs.Machine.{IsOf, IsOut, Without, MachineIs}
use Rattle.moka_machine.specs.TheTable.{TheCall, TheTable, the_table}
use Rattle.moka_machine.specs.declared.calls.Calls.{Calls}
use Rattle.moka_machine.specs.declared.call_places.Running.{Running}
use Rattle.moka_machine.specs.declared.machine.Machine.{Machine}
use Rattle.moka_machine.proofs.Places.{runs_at, set_calls, set_each, set_used}

-- a call that hasn't stepped on the table has left nothing undecided there
not_last : (stay : Stay) (last n : ℕ) → stay.call ≤ last → last < n → times_of stay n ≡ 0
not_last stay last n is less = by (eqb_tells stay.call n)
  where
    by : (((stay.call == n) ≡ true) × (stay.call ≡ n)) ⊎ (((stay.call == n) ≡ false) × (stay.call ≢ n)) → times_of stay n ≡ 0
    by (inl e) = let same = e.1 in absurd (omega (arith, same, is, less))
    by (inr e) = ap (λ b. cond b stay.times 0) e.0

module _ {K V : Type 0} (eq : K → K → Bool) where
  -- a call that starts has begun nothing
  pub starts : (table : TheTable K V) (part : TablePart K V) (stay : Stay) (last n : ℕ) → TableIs (the_table eq) table part → stay.call ≤ last → last < n
      → part.listings n ≡ None → BegunIs (the_table eq) table n None part stay
  starts table part stay last n is called less unlisted =
      let none = not_last stay last n called less in
      record { fits = tt; within = omega arith; patient = omega (arith, none, is.peak); listing = unlisted }

module _ {K V E : Type 0} (eq : K → K → Bool) where
  -- a call that was started before another
  pub given_before : (table : TheTable K V) (part : TablePart K V) (stay : Stay) (last more n : ℕ) (r : Running K V E) → last ≤ more → IsOf eq table part stay last n r
      → IsOf eq table part stay more n r
  given_before table part stay last more n r less is =
      let given = is.given in
      record { number = is.number; live = is.live; on = is.on; begun = is.begun; given = omega (arith, given, less) }

module _ {K V E T : Type 0} {same : PartialEq.Ghosts K} {hash : Hash.Ghosts K} (eq : K → K → Bool) (q : Tests.Ghosts T K V) where
  -- the call is back in its place
  pub back_in : (m : Machine K V E T same hash) (n : ℕ) (back : Running K V E) (after : Option (TheCall K V)) (new : Calls K V E) (others : ℕ → Option (Call K V E)) (w : World K V E)
      → back.begun ≡ m.layers.begun
      → ((k : ℕ) → place_at new k ≡ put_at (place_at m.calls) n (Some (Some back)) k)
      → Without eq q m n others w → IsOut eq m back.flow.value
      → MachineIs eq q (record { layers = record m.layers { begun = after }; calls = new }) (record { world = w; calls = put_at others n (Some (call_of back.flow.value)) })
  back_in m n back after new others w same_begun puts h out =
      let layers = h.reaches.layers in
      let runs = runs_at (place_at m.calls) (place_at new) n (Some (Some back)) puts in
      let is : IsOf eq m.layers.table w.table w.stay w.desk.last n back =
      record {
        number = sym out.on.call ∙ h.number;
        live = out.live;
        on = subst (λ (b : Option (TheCall K V)). HasBegun (operation_in (the_table eq) b) back.flow.value) (sym same_begun) out.on.begun;
        begun = subst (λ (b : Option (TheCall K V)). BegunIs (the_table eq) m.layers.table n b w.table w.stay) (sym same_begun)
            (subst (λ (k : ℕ). BegunIs (the_table eq) m.layers.table k m.layers.begun w.table w.stay) h.number layers.begun);
        given = subst (λ (k : ℕ). k ≤ w.desk.last) h.number layers.given;
      } in
      record {
        world = record { table = layers.world.table; desk = layers.world.desk; handed = layers.world.handed; stay = layers.world.stay };
        calls = set_calls (running_at m.calls) (running_at new) others n (Some back) (Some (call_of back.flow.value)) refl runs h.calls;
        each = set_each (IsOf eq m.layers.table w.table w.stay w.desk.last) (running_at m.calls) (running_at new) n (Some back)
            (λ x e. let f : back ≡ x = cc in subst (λ (r : Running K V E). IsOf eq m.layers.table w.table w.stay w.desk.last n r) f is) runs h.reaches.each;
        used = set_used (place_at m.calls) (place_at new) n (Some (Some back)) puts (λ e. e) (λ k ne. h.reaches.used k (λ e. ne (sym h.number ∙ e)));
        history = h.reaches.history;
      }

  -- the call has given its place up
  pub gone_out : (m : Machine K V E T same hash) (n : ℕ) (new : Calls K V E) (others : ℕ → Option (Call K V E)) (w : World K V E)
      → ((k : ℕ) → place_at new k ≡ put_at (place_at m.calls) n None k) → Without eq q m n others w
      → MachineIs eq q (record { layers = record m.layers { begun = None }; calls = new }) (record { world = w; calls = put_at others n None })
  gone_out m n new others w puts h =
      let layers = h.reaches.layers in
      let runs = runs_at (place_at m.calls) (place_at new) n None puts in
      record {
        world = record { table = layers.world.table; desk = layers.world.desk; handed = layers.world.handed; stay = layers.world.stay };
        calls = set_calls (running_at m.calls) (running_at new) others n None None refl runs h.calls;
        each = set_each (IsOf eq m.layers.table w.table w.stay w.desk.last) (running_at m.calls) (running_at new) n None (λ x e. absurd (cc)) runs h.reaches.each;
        used = set_used (place_at m.calls) (place_at new) n None puts (λ e. e) (λ k ne. h.reaches.used k (λ e. ne (sym h.number ∙ e)));
        history = h.reaches.history;
      }
