-- Who owns a load, and whom those have that wait.
use Rattle.std.proofs.Common.{◌≡◌, ◌⊎◌, inl, inr, Bool, true, false, Option, Some, None, is_some, IsSome, sym, ap, ◌∙◌, refl}
use Rattle.std.proofs.lemmas.Bool.{false≢true}
use Rattle.std.specs.Cmp.{IsEquivalence}
use Rattle.std.specs.Option.{option_and_then, option_map, option_map_or}
use Rattle.moka_hist.specs.Finite.{load_eq}
use Rattle.moka_hist.specs.declared.loads.Load.{Load}
use Rattle.moka_laws.proofs.Counting.{none_some, some_same}
use Rattle.moka_laws.proofs.Reading.{Answered, OwnerOf}
use Rattle.moka_laws.proofs.Roles.{awaited}
use Rattle.moka_laws.proofs.Owning.{plan_left}
use Rattle.moka_laws.proofs.Safe.{in_well}
use Rattle.moka_laws.proofs.SoundReached.{reached_sound}
use Rattle.moka_small.specs.Small.{End, load_at, owner_at}
use Rattle.moka_small.specs.Polled.{owns}
use Rattle.moka_small.specs.Seen.{call_at, rules_of, settled_as}
use Rattle.moka_small.specs.Standing.{OneOwnsEach, WaitersAreServed}

module _ {K V E : Type 0} (eq : K → K → Bool) (laws : IsEquivalence eq) where
  pub owns_alone : OneOwnsEach K V E eq
  owns_alone s m a b load other seen here there equal =
      let sound = reached_sound eq laws s seen.reached in
      some_same (sym (sound.owned load a (seen.views.owning a ∙ here)) ∙ sound.one_owner load other equal ∙
      sound.owned other b (seen.views.owning b ∙ there))

module _ {K V E : Type 0} (eq : K → K → Bool) where
  pub has_owner : WaitersAreServed K V E eq
  has_owner s m n owner load seen live =
      by ((in_well eq s seen.reached).served.waits n owner load
      (seen.views.joined n ∙ ap (option_and_then owner_at) live)
      (ap (λ c. awaited (plan_left c)) (seen.views.calls n ∙ ap (option_map (call_at (rules_of m.capacity))) live)))
    where
      kept : (x : Option (End V E)) → s.world.desk.settled owner ≡ option_map settled_as x → IsSome (s.world.desk.settled owner) → IsSome x
      kept None e some = absurd (false≢true (sym (ap is_some e) ∙ some))
      kept (Some end) e some = refl

      owning : (x : Option (Load K)) → s.world.desk.owning owner ≡ x → OwnerOf eq s.world.desk.owning owner load →
          option_map_or (λ own. load_eq eq own load) x false ≡ true
      owning None e o = absurd (none_some (sym e ∙ o.1))
      owning (Some own) e o = ap (λ x. option_map_or (λ own. load_eq eq own load) x false) (sym e ∙ o.1) ∙ o.2

      by : Answered eq s.world.desk.owning s.world.desk.settled owner load →
          (owns eq (m.stands owner) load ≡ true) ⊎ IsSome (m.ends owner)
      by (inl own) = inl (owning (option_and_then load_at (m.stands owner)) (seen.views.owning owner) own)
      by (inr some) = inr (kept (m.ends owner) (seen.views.settled owner) some)
