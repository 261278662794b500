-- An array in which a pair was put: it is an array still, and its maps have changed at one key.
use Rattle.std.proofs.Common.{◌≡◌, ◌≢◌, ℕ, ◌<◌, ◌≤◌, Bool, true, false, cond, eqb, List, length, Option, Some, None, IsSome, is_some, inl, inr, refl, sym, ap, ◌∙◌, subst, set, arith}
use borrow.Author.Tests.{eqb-true}
use Rattle.std.proofs.lemmas.Bool.{cases_eq, cases_lt, false≢true}
use Rattle.std.proofs.lemmas.List.{get_or-set_same, get_or-set_other, length-set}
use Rattle.std.specs.Cmp.{IsEquivalence}
use Rattle.std.specs.Int.{IsPowerOfTwo}
use Rattle.std.specs.Option.{option_map_or}
use Rattle.moka_words.specs.declared.words.Word.{Word}
use Rattle.moka_words.specs.declared.words.Word.TheVariants.{Unset, Empty, Live, Tomb}
use Rattle.moka_words.specs.Words.{NamesKeys, is_sealed, node_of, stored_in, word_at}
use Rattle.moka_words.specs.Arrays.{IsArray, IsNew, bucket_at}
use Rattle.moka_words.specs.Later.{HasPassed, IsAbsent, Later}
use Rattle.moka_words.proofs.Passing.{absent_new, ends_absent}
use Rattle.moka_words.proofs.Exchanges.{exchange_keeps_array}
use Rattle.moka_cht.specs.declared.node.Node.{Node}
use Rattle.moka_cht.specs.declared.node.Node.TheVariants.{Unused, Pair}
use Rattle.moka_cht.specs.declared.probe.Place.{Place}
use Rattle.moka_cht.specs.declared.probe.Place.TheVariants.{Free, Dead, Stored}
use Rattle.moka_cht.specs.Nodes.{AllKept, IsKept, Sets, has_key, hash_in, key_in, node_at, node_hash, own_key, pair_in, same_key, same_keys}
use Rattle.moka_cht.specs.Probes.{EndsAt, IsOwnPlace, word_of}
use Rattle.moka_cht.specs.Buckets.{AllNamed, IsHashOf, IsTable, at_key, filled, hash_for, pair_for, stored}
use Rattle.moka_words.proofs.Alone.{alone_set}
use Rattle.moka_cht.specs.Calls.{Exchanges, Puts}
use Rattle.moka_cht.proofs.Firsts.{first_same}
use Rattle.moka_cht.proofs.Sameness.{names_keys, own_apart, own_nodes, same_either_way}
use Rattle.moka_cht.proofs.Lookups.{filled_some, own_hash, stored_named, stored_some}
use Rattle.moka_cht.proofs.Agreeing.{array_along, absent_along, at_same, kept_along, key_used, named_key, named_within, one_hash, own_stays, passed_along, set_at}

-- the nodes of the call's key at a place
pub place_own : (own : ℕ → Bool) (at : Place) (w : Word) (n : ℕ) → w ≡ word_of at → IsOwnPlace own at → node_of w ≡ Some n → own n ≡ true
place_own own Free w n is own_place named = let none = ap node_of is in absurd cc
place_own own (Dead m) w n is own_place named = let there = ap node_of is in let same : m ≡ n = cc in subst (λ x. own x ≡ true) same own_place
place_own own (Stored m) w n is own_place named = let there = ap node_of is in let same : m ≡ n = cc in subst (λ x. own x ≡ true) same own_place

-- a place is not sealed
pub place_open : (at : Place) (w : Word) → w ≡ word_of at → is_sealed w ≡ true → ⊥
place_open Free w is sealed = false≢true (sym (ap is_sealed is) ∙ sealed)
place_open (Dead m) w is sealed = false≢true (sym (ap is_sealed is) ∙ sealed)
place_open (Stored m) w is sealed = false≢true (sym (ap is_sealed is) ∙ sealed)

module _ {K V : Type 0} (eq : K → K → Bool) (laws : IsEquivalence eq) (words : List Word) (nodes : List (Node K V)) (table : IsTable eq words nodes) (named : AllNamed words nodes)
    (h : ℕ) (key : K) (value : V) (hashed : IsHashOf eq (record { words = words; nodes = nodes }) key h)
    (b : ℕ) (new : List (Node K V)) (unused : node_at nodes b ≡ Unused) (sets : Sets b (Pair h key value) nodes new)
    (k : ℕ) (at : Place) (ends : EndsAt (own_key eq nodes key) words h k at)
    (last : List (Node K V)) (long : length last ≡ length new)
    (gone : (n : ℕ) → node_of (word_at words (bucket_at (length words) h k)) ≡ Some n → node_at last n ≡ Unused)
    (rest : (n : ℕ) → (node_of (word_at words (bucket_at (length words) h k)) ≡ Some n → ⊥) → node_at last n ≡ node_at new n) where
  abbrev i : ℕ
  i = bucket_at (length words) h k

  abbrev after : List Word
  after = set words i (Live b)

  within : i < length words
  within = let some = ends.within in omega arith

  -- what was named is not the new node
  not_new : (j n : ℕ) → node_of (word_at words j) ≡ Some n → n ≢ b
  not_new j n here same = key_used (node_at nodes n) (named_key eq words nodes table j n here).1 (subst (λ x. node_at nodes x ≡ Unused) (sym same) unused)

  stays : (j n : ℕ) → node_of (word_at words j) ≡ Some n → node_at new n ≡ node_at nodes n
  stays j n here = sets.others n (not_new j n here)

  keys_stay : (j n : ℕ) → node_of (word_at words j) ≡ Some n → key_in (node_at new n) ≡ key_in (node_at nodes n)
  keys_stay j n here = ap key_in (stays j n here)

  hashes_stay : (j n : ℕ) → node_of (word_at words j) ≡ Some n → node_hash new n ≡ node_hash nodes n
  hashes_stay j n here = ap hash_in (stays j n here)

  own_new : (q : K) → own_key eq new q b ≡ eq q key
  own_new q = ap (has_key eq q) sets.there

  hash_new : node_hash new b ≡ h
  hash_new = ap hash_in sets.there

  -- a node of the new key was filled under its hash
  hash_as_new : (m : ℕ) → m ≢ b → same_key eq new b m ≡ true → node_hash new m ≡ h
  hash_as_new m apart same = by (key_in (node_at nodes m)) refl (sym same_here ∙ same)
    where
      same_here : same_key eq new b m ≡ same_keys eq (eqb b m) (Some key) (key_in (node_at nodes m))
      same_here = ap (λ x. same_keys eq (eqb b m) (key_in x) (key_in (node_at new m))) sets.there ∙ ap (λ x. same_keys eq (eqb b m) (Some key) (key_in x)) (sets.others m apart)

      by : (a : Option K) → key_in (node_at nodes m) ≡ a → same_keys eq (eqb b m) (Some key) a ≡ true → node_hash new m ≡ h
      by (Some l) is e =
          let (j, here) = named m (key_used (node_at nodes m) (ap is_some is)) in
          let own : own_key eq nodes key m ≡ true = ap (λ o. option_map_or (eq key) o false) is ∙ e in
          ap hash_in (sets.others m apart) ∙ own_hash eq laws words nodes table.array key h hashed j m here own
      by None is e = absurd (apart (sym (eqb-true b m e)))

  hashed_new : (n m : ℕ) → same_key eq new n m ≡ true → node_hash new n ≡ node_hash new m
  hashed_new n m same = elim (cases_eq n b) [ inl first ↦ elim (cases_eq m b) [ inl second ↦ ap (node_hash new) (first ∙ sym second) | inr second ↦ from_new first second ] | inr first ↦ elim (cases_eq m b) [ inl second ↦ to_new first second | inr second ↦ of_old first second ] ]
    where
      from_new : n ≡ b → m ≢ b → node_hash new n ≡ node_hash new m
      from_new first second = ap (node_hash new) first ∙ hash_new ∙ sym (hash_as_new m second (subst (λ x. same_key eq new x m ≡ true) first same))

      to_new : n ≢ b → m ≡ b → node_hash new n ≡ node_hash new m
      to_new first second = hash_as_new n first (subst (λ x. same_key eq new x n ≡ true) second (same_either_way eq laws new n m same)) ∙ sym hash_new ∙ sym (ap (node_hash new) second)

      of_old : n ≢ b → m ≢ b → node_hash new n ≡ node_hash new m
      of_old first second =
          let before : same_key eq new n m ≡ same_key eq nodes n m =
          ap (λ x. same_keys eq (eqb n m) (key_in x) (key_in (node_at new m))) (sets.others n first)
          ∙ ap (λ x. same_keys eq (eqb n m) (key_in (node_at nodes n)) (key_in x)) (sets.others m second) in
          ap hash_in (sets.others n first) ∙ one_hash eq words nodes table named n m (sym before ∙ same) ∙ sym (ap hash_in (sets.others m second))

  names_new : NamesKeys (node_hash new) (same_key eq new)
  names_new = names_keys eq laws new hashed_new

  own_at : (n : ℕ) → node_of (word_at words i) ≡ Some n → own_key eq nodes key n ≡ true
  own_at n here = place_own (own_key eq nodes key) at (word_at words i) n ends.there ends.own_place here

  later : Later (same_key eq new) (word_at words i) (Live b)
  later = record {
    key = λ n here. (b, refl, (own_nodes eq laws new key).one n b (own_stays eq words nodes new keys_stay hashes_stay key i n here ∙ own_at n here) (own_new key ∙ laws.refl key));
    set = λ e. absurd cc;
    sealed = λ e. absurd (place_open at (word_at words i) ends.there e);
  }

  is_new : (n : ℕ) → node_of (word_at words i) ≡ None → node_of (Live b) ≡ Some n → IsNew (node_hash new) (same_key eq new) words i n
  is_new n none is =
      let absent = ends_absent (node_hash nodes) (same_key eq nodes) (own_key eq nodes key) words h k table.array (own_hash eq laws words nodes table.array key h hashed) ends.passed (λ e. none) in
      let here = absent_new (node_hash new) (same_key eq new) (own_key eq new key) words k b (own_nodes eq laws new key) (own_new key ∙ laws.refl key) ends.within
      (subst (λ x. HasPassed (own_key eq new key) words x k) (sym hash_new) (passed_along eq words nodes new keys_stay hashes_stay key h k ends.passed))
      (absent_along eq words nodes new keys_stay hashes_stay key absent) in
      let same : b ≡ n = cc in
      subst (λ x. IsNew (node_hash new) (same_key eq new) words i x) same (subst (λ x. IsNew (node_hash new) (same_key eq new) words (bucket_at (length words) x k) b) hash_new here)

  array_set : IsArray (node_hash new) (same_key eq new) after
  array_set = exchange_keeps_array (node_hash new) (same_key eq new) words i (Live b) names_new (array_along eq words nodes new keys_stay hashes_stay table.array) later is_new

  -- what is named now is not gone
  last_stays : (j n : ℕ) → node_of (word_at after j) ≡ Some n → node_at last n ≡ node_at new n
  last_stays j n here = rest n (set_at (λ w. node_of w ≡ Some n → node_of (word_at words i) ≡ Some n → ⊥) words i (Live b) j within elsewhere at_place here)
    where
      elsewhere : j ≢ i → node_of (word_at words j) ≡ Some n → node_of (word_at words i) ≡ Some n → ⊥
      elsewhere apart there old = apart (table.array.one j i n n there old ((own_nodes eq laws nodes key).one n n (own_at n old) (own_at n old)))

      at_place : j ≡ i → node_of (Live b) ≡ Some n → node_of (word_at words i) ≡ Some n → ⊥
      at_place e there old = not_new i n old cc

  pub array_after : IsArray (node_hash last) (same_key eq last) after
  array_after = array_along eq after new last (λ j n here. ap key_in (last_stays j n here)) (λ j n here. ap hash_in (last_stays j n here)) array_set

  pub word_after : word_at after i ≡ Live b
  word_after = get_or-set_same words i (Live b) Unset within

  node_after : node_at last b ≡ Pair h key value
  node_after = last_stays i b (ap node_of word_after) ∙ sets.there

  kept_after : AllKept last after
  kept_after j below =
      kept_along new last (word_at after j) (omega (arith, long)) (λ n here. last_stays j n here)
      (set_at (IsKept new) words i (Live b) j within (λ apart. kept_along nodes new (word_at words j) sets.longer (λ n here. stays j n here) (table.kept j (let e = length-set words i (Live b) in omega arith)))
      (λ e. (sets.within, ap (λ x. is_some (pair_in x)) sets.there)))

  pub table_after : IsTable eq after last
  table_after =
      let e = length-set words i (Live b) in
      record { power = subst IsPowerOfTwo (sym e) table.power; small = let small = table.small in omega arith; kept = kept_after; array = array_after }

  pub named_after : AllNamed after last
  named_after n used = elim (cases_eq n b) [ inl same ↦ (i, ap node_of word_after ∙ ap Some (sym same)) | inr apart ↦ of_old apart ]
    where
      of_old : n ≢ b → (j : ℕ) × (node_of (word_at after j) ≡ Some n)
      of_old apart = let (j, here) = named n (λ e. used (was_rest ∙ sets.others n apart ∙ e)) in (j, set_at (λ w. node_of w ≡ Some n) words i (Live b) j within (λ away. here) (λ e. absurd (not_here (subst (λ x. node_of (word_at words x) ≡ Some n) e here))))
        where
          not_here : node_of (word_at words i) ≡ Some n → ⊥
          not_here here = used (gone n here)

          was_rest : node_at last n ≡ node_at new n
          was_rest = rest n not_here

  -- buckets of other keys are as before
  others_same : {A : Type 0} (q : K) (sel : Word → Option ℕ) (f : Node K V → Option A) → ((w : Word) (n : ℕ) → sel w ≡ Some n → node_of w ≡ Some n) → sel (Live b) ≡ Some b → eq key q ≡ false → (j : ℕ) →
      at_key eq last q f (sel (word_at after j)) ≡ at_key eq nodes q f (sel (word_at words j))
  others_same q sel f sel_named sel_new apart j = set_at (λ w. at_key eq last q f (sel w) ≡ at_key eq nodes q f (sel (word_at words j))) words i (Live b) j within elsewhere here
    where
      elsewhere : j ≢ i → at_key eq last q f (sel (word_at words j)) ≡ at_key eq nodes q f (sel (word_at words j))
      elsewhere away = at_same eq nodes last q f (sel (word_at words j)) (λ n e. let there = sel_named (word_at words j) n e in
          last_stays j n (ap node_of (get_or-set_other words i j (Live b) Unset away) ∙ there) ∙ stays j n there)

      nothing : (o : Option ℕ) → ((n : ℕ) → o ≡ Some n → own_key eq nodes q n ≡ false) → at_key eq nodes q f o ≡ None
      nothing None other = refl
      nothing (Some n) other = ap (λ x. cond x (f (node_at nodes n)) None) (other n refl)

      new_other : own_key eq last q b ≡ false
      new_other = ap (has_key eq q) node_after ∙ laws.symm q key ∙ apart

      here : j ≡ i → at_key eq last q f (sel (Live b)) ≡ at_key eq nodes q f (sel (word_at words j))
      here e =
          ap (at_key eq last q f) sel_new ∙ ap (λ x. cond x (f (node_at last b)) None) new_other
          ∙ sym (nothing (sel (word_at words j)) (λ n is. own_apart eq laws nodes key q n (own_at n (subst (λ x. node_of (word_at words x) ≡ Some n) e (sel_named (word_at words j) n is))) apart))

  pub puts_after : Puts eq h key value (record { words = words; nodes = nodes }) (record { words = after; nodes = last })
  puts_after = record { pairs = λ q. pairs q (eq key q) refl; hashes = λ q. hashes q (eq key q) refl }
    where
      own_last : (q : K) → eq key q ≡ true → own_key eq last q b ≡ true
      own_last q same = ap (has_key eq q) node_after ∙ laws.symm q key ∙ same

      pairs : (q : K) (x : Bool) → eq key q ≡ x → stored eq (record { words = after; nodes = last }) q ≡ cond (eq key q) (Some (key, value)) (stored eq (record { words = words; nodes = nodes }) q)
      pairs q true same = stored_some eq laws after last array_after q i b (key, value) (ap stored_in word_after) (own_last q same) (ap pair_in node_after) ∙ sym (ap (λ x. cond x (Some (key, value)) (stored eq (record { words = words; nodes = nodes }) q)) same)
      pairs q false apart = first_same (pair_for eq last q) (pair_for eq nodes q) Unset after words (length-set words i (Live b)) (others_same q stored_in pair_in stored_named refl apart)
          ∙ sym (ap (λ x. cond x (Some (key, value)) (stored eq (record { words = words; nodes = nodes }) q)) apart)

      hashes : (q : K) (x : Bool) → eq key q ≡ x → filled eq (record { words = after; nodes = last }) q ≡ cond (eq key q) (Some h) (filled eq (record { words = words; nodes = nodes }) q)
      hashes q true same = filled_some eq laws after last array_after q i b (ap node_of word_after) (own_last q same) ∙ ap (λ x. Some (hash_in x)) node_after ∙ sym (ap (λ x. cond x (Some h) (filled eq (record { words = words; nodes = nodes }) q)) same)
      hashes q false apart = first_same (hash_for eq last q) (hash_for eq nodes q) Unset after words (length-set words i (Live b)) (others_same q node_of (λ node. Some (hash_in node)) (λ w n e. e) refl apart)
          ∙ sym (ap (λ x. cond x (Some h) (filled eq (record { words = words; nodes = nodes }) q)) apart)

  -- all of it, of the words as they are then
  pub put_all : (ws : List Word) → ws ≡ after →
      IsTable eq ws last × AllNamed ws last × Puts eq h key value (record { words = words; nodes = nodes }) (record { words = ws; nodes = last })
      × Exchanges eq key (word_of at) (Live b) (record { words = words; nodes = nodes }) (record { words = ws; nodes = last })
  put_all ws are =
      subst (λ x. IsTable eq x last × AllNamed x last × Puts eq h key value (record { words = words; nodes = nodes }) (record { words = x; nodes = last })
      × Exchanges eq key (word_of at) (Live b) (record { words = words; nodes = nodes }) (record { words = x; nodes = last })) (sym are)
      (table_after, named_after, puts_after, record { index = i; effect = (ends.there, alone_set words i (Live b)) })
