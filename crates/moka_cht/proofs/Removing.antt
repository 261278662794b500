-- An array from which a pair was removed: it is an array still, and one key is absent.
use Rattle.std.proofs.Common.{◌≡◌, ◌≢◌, ℕ, ◌<◌, Bool, true, false, cond, List, length, Option, Some, None, IsSome, is_some, inl, inr, refl, sym, ap, ◌∙◌, subst, set, arith}
use Rattle.std.proofs.lemmas.Bool.{cases_eq, false≢true}
use Rattle.std.proofs.lemmas.List.{get_or-set_same, get_or-set_other, length-set}
use Rattle.std.specs.Cmp.{IsEquivalence}
use Rattle.std.specs.Option.{IfSome, option_map, option_map_or}
use Rattle.std.specs.Int.{IsPowerOfTwo}
use Rattle.moka_hist.specs.Finite.{put_key}
use Rattle.moka_words.specs.declared.words.Word.{Word}
use Rattle.moka_words.specs.declared.words.Word.TheVariants.{Unset, Live, Tomb}
use Rattle.moka_words.specs.Words.{NamesKeys, is_sealed, node_of, stored_in, word_at}
use Rattle.moka_words.specs.Arrays.{IsArray, bucket_at}
use Rattle.moka_words.specs.Later.{Later}
use Rattle.moka_words.proofs.Alone.{alone_set}
use Rattle.moka_words.proofs.Exchanges.{exchange_keeps_array}
use Rattle.moka_cht.specs.declared.node.Node.{Node}
use Rattle.moka_cht.specs.declared.node.Node.TheVariants.{Unused, Pair, Removed}
use Rattle.moka_cht.specs.declared.probe.Aim.{Aim}
use Rattle.moka_cht.specs.declared.probe.Place.TheVariants.{Stored}
use Rattle.moka_cht.specs.declared.probe.Point.TheVariants.{Choose}
use Rattle.moka_cht.specs.declared.probe.Probe.{Probe}
use Rattle.moka_cht.specs.Nodes.{AllKept, IsKept, has_key, hash_in, key_in, node_at, node_hash, own_key, pair_in, same_key}
use Rattle.moka_cht.specs.Probes.{AtPlace, bucket_of}
use Rattle.moka_cht.specs.Buckets.{AllNamed, Buckets, IsSound, IsSpare, IsTable, at_key, filled, hash_for, pair_for, stored}
use Rattle.moka_cht.specs.Calls.{Exchanges}
use Rattle.moka_cht.proofs.Firsts.{first_same}
use Rattle.moka_cht.proofs.Sameness.{names_keys, own_apart, own_nodes}
use Rattle.moka_cht.proofs.Lookups.{live_pair, others_apart, stored_dead, stored_named, stored_some, within_words}
use Rattle.moka_cht.proofs.Agreeing.{array_along, at_same, kept_along, key_used, named_key, one_hash, set_at}
use Rattle.moka_cht.proofs.Placing.{bucket_here, ends_here}

-- the key of a pair
pub pair_key : {K V : Type 0} (node : Node K V) (k : K) (v : V) → pair_in node ≡ Some (k, v) → key_in node ≡ Some k
pair_key Unused k v e = absurd cc
pair_key (Pair h x y) k v e = ap (option_map (λ p. p.0)) e
pair_key (Removed h x) k v e = absurd cc

module _ {K V : Type 0} (eq : K → K → Bool) (laws : IsEquivalence eq) (words : List Word) (nodes : List (Node K V)) (spare : Option ℕ) (sound : IsSound eq words nodes spare)
    (q : K) (i m : ℕ) (here : word_at words i ≡ Live m) (own : own_key eq nodes q m ≡ true) (k : K) (v : V) (pair_is : pair_in (node_at nodes m) ≡ Some (k, v)) where
  abbrev after : List Word
  after = set words i (Tomb m)

  abbrev last : List (Node K V)
  last = set nodes m (Removed (node_hash nodes m) k)

  within : i < length words
  within = within_words words i (Live m) here (λ e. cc)

  used : m < length nodes
  used = (live_pair eq words nodes sound.table i m here).0

  named_here : node_of (word_at words i) ≡ Some m
  named_here = ap node_of here

  node_after : node_at last m ≡ Removed (node_hash nodes m) k
  node_after = get_or-set_same nodes m (Removed (node_hash nodes m) k) Unused used

  rest : (n : ℕ) → n ≢ m → node_at last n ≡ node_at nodes n
  rest n apart = get_or-set_other nodes m n (Removed (node_hash nodes m) k) Unused apart

  -- no key and no hash has changed
  keys_stay : (n : ℕ) → key_in (node_at last n) ≡ key_in (node_at nodes n)
  keys_stay n = elim (cases_eq n m) [ inl same ↦ subst (λ x. key_in (node_at last x) ≡ key_in (node_at nodes x)) (sym same) (ap key_in node_after ∙ sym (pair_key (node_at nodes m) k v pair_is)) | inr apart ↦ ap key_in (rest n apart) ]

  hashes_stay : (n : ℕ) → node_hash last n ≡ node_hash nodes n
  hashes_stay n = elim (cases_eq n m) [ inl same ↦ subst (λ x. node_hash last x ≡ node_hash nodes x) (sym same) (ap hash_in node_after) | inr apart ↦ ap hash_in (rest n apart) ]

  names : NamesKeys (node_hash nodes) (same_key eq nodes)
  names = names_keys eq laws nodes (one_hash eq words nodes sound.table sound.named)

  later : Later (same_key eq nodes) (word_at words i) (Tomb m)
  later = record {
    key = λ n there. let same : n ≡ m = cc in (m, refl, subst (λ x. same_key eq nodes x m ≡ true) (sym same) (names.itself m));
    set = λ e. absurd cc;
    sealed = λ e. absurd (false≢true (sym (ap is_sealed here) ∙ e));
  }

  pub array_after : IsArray (node_hash last) (same_key eq last) after
  array_after =
      array_along eq after nodes last (λ j n there. keys_stay n) (λ j n there. hashes_stay n)
      (exchange_keeps_array (node_hash nodes) (same_key eq nodes) words i (Tomb m) names sound.table.array later (λ n none named. absurd cc))

  word_after : word_at after i ≡ Tomb m
  word_after = get_or-set_same words i (Tomb m) Unset within

  -- other buckets have other nodes
  apart_elsewhere : (j n : ℕ) → j ≢ i → node_of (word_at words j) ≡ Some n → n ≢ m
  apart_elsewhere j n away there same = away (sound.table.array.one j i n m there named_here (subst (λ x. same_key eq nodes x m ≡ true) (sym same) (names.itself m)))

  kept_after : AllKept last after
  kept_after j below =
      set_at (IsKept last) words i (Tomb m) j within
      (λ away. kept_along nodes last (word_at words j) (let e = length-set nodes m (Removed (node_hash nodes m) k) in omega arith) (λ n there. rest n (apart_elsewhere j n away there))
      (sound.table.kept j (let e = length-set words i (Tomb m) in omega arith)))
      (λ e. ((let e = length-set nodes m (Removed (node_hash nodes m) k) in let u = used in omega arith), ap is_some (ap key_in node_after), ap pair_in node_after))

  pub table_after : IsTable eq after last
  table_after =
      let e = length-set words i (Tomb m) in
      record { power = subst IsPowerOfTwo (sym e) sound.table.power; small = let small = sound.table.small in omega arith; kept = kept_after; array = array_after }

  pub named_after : AllNamed after last
  named_after n is_used = let (j, there) = sound.named n (λ e. was_used e) in (j, set_at (λ w. node_of w ≡ Some n) words i (Tomb m) j within (λ away. there) (λ e. at_here e there))
    where
      was_used : node_at nodes n ≡ Unused → ⊥
      was_used e = elim (cases_eq n m) [ inl same ↦ key_used (node_at nodes m) (ap is_some (pair_key (node_at nodes m) k v pair_is)) (ap (node_at nodes) (sym same) ∙ e) | inr apart ↦ is_used (rest n apart ∙ e) ]

      at_here : {j : ℕ} → j ≡ i → node_of (word_at words j) ≡ Some n → node_of (Tomb m) ≡ Some n
      at_here e there = sym named_here ∙ ap (λ x. node_of (word_at words x)) (sym e) ∙ there

  pub sound_after : IsSound eq after last spare
  sound_after = record { table = table_after; named = named_after; is_spare = spare_after spare sound.is_spare }
    where
      spare_after : (s : Option ℕ) → IsSpare nodes s → IsSpare last s
      spare_after None e = e
      spare_after (Some n) e = (
        (let l = length-set nodes m (Removed (node_hash nodes m) k) in let below = e.0 in omega arith),
        rest n (λ same. key_used (node_at nodes m) (ap is_some (pair_key (node_at nodes m) k v pair_is)) (ap (node_at nodes) (sym same) ∙ e.1)) ∙ e.1,
      )

  own_last : (x : K) (n : ℕ) → own_key eq last x n ≡ own_key eq nodes x n
  own_last x n = ap (λ o. option_map_or (eq x) o false) (keys_stay n)

  pub hashes_after : (x : K) → filled eq (record { words = after; nodes = last }) x ≡ filled eq (record { words = words; nodes = nodes }) x
  hashes_after x = first_same (hash_for eq last x) (hash_for eq nodes x) Unset after words (length-set words i (Tomb m)) each
    where
      at_node : (o : Option ℕ) → at_key eq last x (λ node. Some (hash_in node)) o ≡ at_key eq nodes x (λ node. Some (hash_in node)) o
      at_node None = refl
      at_node (Some n) = ap (λ c. cond c (Some (node_hash last n)) None) (own_last x n) ∙ ap (λ h. cond (own_key eq nodes x n) (Some h) None) (hashes_stay n)

      each : (j : ℕ) → hash_for eq last x (word_at after j) ≡ hash_for eq nodes x (word_at words j)
      each j = set_at (λ w. hash_for eq last x w ≡ hash_for eq nodes x (word_at words j)) words i (Tomb m) j within (λ away. at_node (node_of (word_at words j)))
          (λ e. at_node (Some m) ∙ ap (at_key eq nodes x (λ node. Some (hash_in node))) (sym named_here ∙ ap (λ y. node_of (word_at words y)) (sym e)))

  pub pairs_after : (x : K) → stored eq (record { words = after; nodes = last }) x ≡ put_key eq (stored eq (record { words = words; nodes = nodes })) q None x
  pairs_after x = by (eq q x) refl
    where
      nothing : (o : Option ℕ) → ((n : ℕ) → o ≡ Some n → own_key eq nodes x n ≡ false) → at_key eq nodes x pair_in o ≡ None
      nothing None other = refl
      nothing (Some n) other = ap (λ c. cond c (pair_in (node_at nodes n)) None) (other n refl)

      each : eq q x ≡ false → (j : ℕ) → pair_for eq last x (word_at after j) ≡ pair_for eq nodes x (word_at words j)
      each apart j = set_at (λ w. pair_for eq last x w ≡ pair_for eq nodes x (word_at words j)) words i (Tomb m) j within
          (λ away. at_same eq nodes last x pair_in (stored_in (word_at words j)) (λ n e. rest n (apart_elsewhere j n away (stored_named (word_at words j) n e))))
          (λ e. sym (nothing (stored_in (word_at words j)) (λ n is. own_apart eq laws nodes q x n
          (let there = ap (λ y. stored_in (word_at words y)) (sym e) ∙ is in let same : m ≡ n = the_same n there in subst (λ y. own_key eq nodes q y ≡ true) same own) apart)))
        where
          the_same : (n : ℕ) → stored_in (word_at words i) ≡ Some n → m ≡ n
          the_same n is = let mine : stored_in (word_at words i) ≡ Some m = ap stored_in here in cc

      own_same : eq q x ≡ true → own_key eq last x m ≡ true
      own_same same = own_last x m ∙ own_other (key_in (node_at nodes m)) own
        where
          own_other : (a : Option K) → option_map_or (eq q) a false ≡ true → option_map_or (eq x) a false ≡ true
          own_other None e = absurd (false≢true e)
          own_other (Some l) e = sym (laws.congr q x l same) ∙ e

      by : (c : Bool) → eq q x ≡ c → stored eq (record { words = after; nodes = last }) x ≡ cond (eq q x) None (stored eq (record { words = words; nodes = nodes }) x)
      by true same = stored_dead eq laws after last array_after x i m word_after (own_same same) ∙ sym (ap (λ c. cond c None (stored eq (record { words = words; nodes = nodes }) x)) same)
      by false apart = first_same (pair_for eq last x) (pair_for eq nodes x) Unset after words (length-set words i (Tomb m)) (each apart) ∙ sym (ap (λ c. cond c None (stored eq (record { words = words; nodes = nodes }) x)) apart)

module _ {K V : Type 0} (eq : K → K → Bool) (laws : IsEquivalence eq) (words : List Word) (nodes : List (Node K V)) (spare : Option ℕ) (sound : IsSound eq words nodes spare)
    (old : Buckets K V) (view : record { words = words; nodes = nodes } ≡ old) (q : K) (h : ℕ) (p : Probe) (aim : Aim) (place : AtPlace (own_key eq old.nodes q) old.words aim h p)
    (m : ℕ) (is : p.point ≡ Choose (Stored m)) where
  place_both : AtPlace (own_key eq nodes q) words aim h p
  place_both = subst (λ x. AtPlace (own_key eq x.nodes q) x.words aim h p) (sym view) place

  -- what is stored where the probe stands
  pub stands_live : (word_at words (bucket_of p) ≡ Live m) × (own_key eq nodes q m ≡ true)
  stands_live =
      let ends = ends_here (own_key eq nodes q) words aim h p (Stored m) place_both is in
      (ap (word_at words) (bucket_here (own_key eq nodes q) words aim h p place_both) ∙ ends.there, ends.own_place)

  pub stands_pair : (m < length nodes) × IsSome (pair_in (node_at nodes m))
  stands_pair = live_pair eq words nodes sound.table (bucket_of p) m stands_live.0

  pub stands_stored : (pair : K × V) → pair_in (node_at nodes m) ≡ Some pair → stored eq old q ≡ Some pair
  stands_stored pair pair_is = ap (λ x. stored eq x q) (sym view) ∙ stored_some eq laws words nodes sound.table.array q (bucket_of p) m pair (ap stored_in stands_live.0) stands_live.1 pair_is

  module _ (k : K) (v : V) (pair_is : pair_in (node_at nodes m) ≡ Some (k, v)) (ws : List Word) (words_are : ws ≡ set words (bucket_of p) (Tomb m))
      (ns : List (Node K V)) (nodes_are : ns ≡ set nodes m (Removed (node_hash nodes m) k)) where
    abbrev new : Buckets K V
    new = record { words = ws; nodes = ns }

    new_is : new ≡ record { words = set words (bucket_of p) (Tomb m); nodes = set nodes m (Removed (node_hash nodes m) k) }
    new_is = cc

    pub removed_sound : IsSound eq ws ns spare
    removed_sound = subst (λ x. IsSound eq x.words x.nodes spare) (sym new_is) (sound_after eq laws words nodes spare sound q (bucket_of p) m stands_live.0 stands_live.1 k v pair_is)

    pub removed_pairs : (x : K) → stored eq new x ≡ put_key eq (stored eq old) q None x
    removed_pairs x = ap (λ b. stored eq b x) new_is ∙ pairs_after eq laws words nodes spare sound q (bucket_of p) m stands_live.0 stands_live.1 k v pair_is x ∙ ap (λ b. put_key eq (stored eq b) q None x) view

    pub removed_hashes : (x : K) → filled eq new x ≡ filled eq old x
    removed_hashes x = ap (λ b. filled eq b x) new_is ∙ hashes_after eq laws words nodes spare sound q (bucket_of p) m stands_live.0 stands_live.1 k v pair_is x ∙ ap (λ b. filled eq b x) view

    pub removed_word : Exchanges eq q (Live m) (Tomb m) old new
    removed_word =
        subst (λ b. Exchanges eq q (Live m) (Tomb m) b new) view
        (subst (λ x. Exchanges eq q (Live m) (Tomb m) (record { words = words; nodes = nodes }) (record { words = x; nodes = ns })) (sym words_are)
        (record { index = bucket_of p; effect = (stands_live.0, alone_set words (bucket_of p) (Tomb m)) }))
