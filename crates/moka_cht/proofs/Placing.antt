-- A pair put at each kind of place.
use Rattle.std.proofs.Common.{◌≡◌, ◌≢◌, ℕ, ◌<◌, Bool, true, false, List, length, Option, Some, None, IsSome, is_some, inl, inr, refl, sym, ap, ◌∙◌, subst, set, arith}
use Rattle.std.proofs.lemmas.Bool.{cases_eq, cases_lt, false≢true}
use Rattle.std.proofs.lemmas.List.{get_or-set_same, get_or-set_other, length-set}
use Rattle.std.specs.Cmp.{IsEquivalence}
use Rattle.moka_words.specs.declared.words.Word.{Word}
use Rattle.moka_words.specs.declared.words.Word.TheVariants.{Unset, Empty, Live, Tomb}
use Rattle.moka_words.specs.Words.{node_of, stored_in, word_at}
use Rattle.moka_words.specs.Arrays.{bucket_at}
use Rattle.moka_words.specs.Later.{HasPassed}
use Rattle.moka_cht.specs.declared.node.Node.{Node}
use Rattle.moka_cht.specs.declared.node.Node.TheVariants.{Unused, Pair}
use Rattle.moka_cht.specs.declared.probe.Aim.{Aim}
use Rattle.moka_cht.specs.declared.probe.Place.{Place}
use Rattle.moka_cht.specs.declared.probe.Place.TheVariants.{Free, Dead, Stored}
use Rattle.moka_cht.specs.declared.probe.Point.{Point}
use Rattle.moka_cht.specs.declared.probe.Point.TheVariants.{Choose}
use Rattle.moka_cht.specs.declared.probe.Probe.{Probe}
use Rattle.moka_cht.specs.Nodes.{Sets, key_in, node_at, own_key, pair_in}
use Rattle.moka_cht.specs.Probes.{AtPlace, EndsAt, IsChoice, IsOwnPoint, bucket_of, word_of}
use Rattle.moka_cht.specs.Buckets.{AllNamed, Buckets, IsHashOf, IsSound, IsTable, filled, stored}
use Rattle.moka_cht.specs.Calls.{Exchanges, Puts}
use Rattle.moka_cht.proofs.Agreeing.{key_used, named_key}
use Rattle.moka_cht.proofs.Lookups.{filled_none, filled_some, free_absent, has_pair, live_pair, stored_dead, stored_some}
use Rattle.moka_cht.proofs.Putting.{put_all}

-- the probe that asks what to do stands where it ends
pub ends_here : (own : ℕ → Bool) (words : List Word) (aim : Aim) (h : ℕ) (p : Probe) (at : Place) → AtPlace own words aim h p → p.point ≡ Choose at → EndsAt own words h p.passed at
ends_here own words aim h p at place is =
    let choice = subst (IsChoice words p) is place.choice in
    record {
      within = let long = place.stands.long in let within = place.on.within in omega arith;
      passed = subst (λ x. HasPassed own words x p.passed) place.hash_is place.stands.passed;
      there = ap (λ x. word_at words (bucket_at x h p.passed)) place.stands.long ∙ ap (λ x. word_at words (bucket_at p.length x p.passed)) (sym place.hash_is) ∙ choice.0;
      own_place = subst (IsOwnPoint own) is place.stands.found;
    }

pub bucket_here : (own : ℕ → Bool) (words : List Word) (aim : Aim) (h : ℕ) (p : Probe) → AtPlace own words aim h p → bucket_of p ≡ bucket_at (length words) h p.passed
bucket_here own words aim h p place = ap (λ x. bucket_at x p.hash p.passed) (sym place.stands.long) ∙ ap (λ x. bucket_at (length words) x p.passed) place.hash_is

module _ {K V : Type 0} (eq : K → K → Bool) (laws : IsEquivalence eq) (words : List Word) (nodes : List (Node K V)) (spare : Option ℕ) (sound : IsSound eq words nodes spare)
    (old : Buckets K V) (view : record { words = words; nodes = nodes } ≡ old)
    (h : ℕ) (key : K) (value : V) (hashed : IsHashOf eq old key h)
    (b : ℕ) (new : List (Node K V)) (unused : node_at nodes b ≡ Unused) (sets : Sets b (Pair h key value) nodes new)
    (p : Probe) (aim : Aim) (place : AtPlace (own_key eq old.nodes key) old.words aim h p)
    (ws : List Word) (words_are : ws ≡ set words (bucket_of p) (Live b)) where
  abbrev both : Buckets K V
  both = record { words = words; nodes = nodes }

  hashed_both : IsHashOf eq both key h
  hashed_both = subst (λ x. IsHashOf eq x key h) (sym view) hashed

  place_both : AtPlace (own_key eq nodes key) words aim h p
  place_both = subst (λ x. AtPlace (own_key eq x.nodes key) x.words aim h p) (sym view) place

  words_both : ws ≡ set words (bucket_at (length words) h p.passed) (Live b)
  words_both = words_are ∙ ap (λ x. set words x (Live b)) (bucket_here (own_key eq nodes key) words aim h p place_both)

  ends_both : (at : Place) → p.point ≡ Choose at → EndsAt (own_key eq nodes key) words h p.passed at
  ends_both at is = ends_here (own_key eq nodes key) words aim h p at place_both is

  -- at a bucket without a key
  pub put_free : p.point ≡ Choose Free → IsSound eq ws new None × (filled eq old key ≡ None) × Puts eq h key value old (record { words = ws; nodes = new })
      × Exchanges eq key Empty (Live b) old (record { words = ws; nodes = new })
  put_free is =
      let ends = ends_both Free is in
      let none = ap node_of ends.there in
      let all = put_all eq laws words nodes sound.table sound.named h key value hashed_both b new unused sets p.passed Free ends new refl (λ n here. absurd cc) (λ n here. refl) ws words_both in (
        record { table = all.0; named = all.1; is_spare = tt },
        ap (λ x. filled eq x key) (sym view) ∙ filled_none eq laws words nodes key (free_absent eq laws words nodes sound.table.array key h p.passed hashed_both ends),
        subst (λ x. Puts eq h key value x (record { words = ws; nodes = new })) view all.2,
        subst (λ x. Exchanges eq key Empty (Live b) x (record { words = ws; nodes = new })) view all.3,
      )

  module _ (m : ℕ) (last : List (Node K V)) (last_is : last ≡ set new m Unused) where
    -- where the place has this node
    over : (at : Place) → p.point ≡ Choose at → node_of (word_of at) ≡ Some m →
        IsSound eq ws last (Some m) × Puts eq h key value old (record { words = ws; nodes = last }) × Exchanges eq key (word_of at) (Live b) old (record { words = ws; nodes = last })
    over at is named_at =
        let ends = ends_both at is in
        let here = ap node_of ends.there ∙ named_at in
        let used = named_key eq words nodes sound.table (bucket_at (length words) h p.passed) m here in
        let within : m < length new = let below = used.0 in let longer = sets.longer in omega arith in
        let long : length last ≡ length new = ap length last_is ∙ length-set new m Unused in
        let gone_m : node_at last m ≡ Unused = ap (λ x. node_at x m) last_is ∙ get_or-set_same new m Unused Unused within in
        let all = put_all eq laws words nodes sound.table sound.named h key value hashed_both b new unused sets p.passed at ends last long
        (λ n there. let same : n ≡ m = cc in subst (λ x. node_at last x ≡ Unused) (sym same) gone_m)
        (λ n away. ap (λ x. node_at x n) last_is ∙ get_or-set_other new m n Unused Unused (λ same. away (here ∙ ap Some (sym same)))) ws words_both in (
          record { table = all.0; named = all.1; is_spare = (let below = within in let l = long in omega arith, gone_m) },
          subst (λ x. Puts eq h key value x (record { words = ws; nodes = last })) view all.2,
          subst (λ x. Exchanges eq key (word_of at) (Live b) x (record { words = ws; nodes = last })) view all.3,
        )

    -- at a tombstone of the key
    pub put_dead : p.point ≡ Choose (Dead m) → IsSound eq ws last (Some m) × IsSome (filled eq old key) × (stored eq old key ≡ None) × Puts eq h key value old (record { words = ws; nodes = last })
        × Exchanges eq key (Tomb m) (Live b) old (record { words = ws; nodes = last })
    put_dead is =
        let ends = ends_both (Dead m) is in
        let all = over (Dead m) is refl in (
          all.0,
          ap is_some (ap (λ x. filled eq x key) (sym view) ∙ filled_some eq laws words nodes sound.table.array key (bucket_at (length words) h p.passed) m (ap node_of ends.there) ends.own_place),
          ap (λ x. stored eq x key) (sym view) ∙ stored_dead eq laws words nodes sound.table.array key (bucket_at (length words) h p.passed) m ends.there ends.own_place,
          all.1,
          all.2,
        )

    -- at its live bucket
    pub put_stored : p.point ≡ Choose (Stored m) → IsSound eq ws last (Some m) × ((pair : K × V) × (stored eq old key ≡ Some pair) × (pair_in (node_at new m) ≡ Some pair))
        × Puts eq h key value old (record { words = ws; nodes = last }) × Exchanges eq key (Live m) (Live b) old (record { words = ws; nodes = last })
    put_stored is =
        let ends = ends_both (Stored m) is in
        let i = bucket_at (length words) h p.passed in
        let all = over (Stored m) is refl in
        let kept = live_pair eq words nodes sound.table i m ends.there in
        let (pair, pair_is) = has_pair (pair_in (node_at nodes m)) kept.1 in
        let used = named_key eq words nodes sound.table i m (ap node_of ends.there) in
        let apart : m ≢ b = λ same. key_used (node_at nodes m) used.1 (ap (node_at nodes) same ∙ unused) in (
          all.0,
          (pair, ap (λ x. stored eq x key) (sym view) ∙ stored_some eq laws words nodes sound.table.array key i m pair (ap stored_in ends.there) ends.own_place pair_is, ap pair_in (sets.others m apart) ∙ pair_is),
          all.1,
          all.2,
        )
