-- A pair that is put, and a tombstone, are changes of the key.
use Rattle.std.proofs.Common.{◌≡◌, ℕ, ◌^◌, ◌<◌, ◌≤◌, ◌==◌, Bool, true, false, List, Option, Some, None, inl, inr, suc, refl, sym, ap, subst, ◌∙◌, arith}
use Rattle.std.proofs.lemmas.Bool.{cases_lt, eq-eqb}
use Rattle.std.specs.Option.{option_map, option_map_or}
use mathlib.Core.List.{IsPrefix}
use Rattle.moka_words.specs.declared.words.Word.{Word}
use Rattle.moka_words.specs.declared.words.Word.TheVariants.{Unset, Empty, Live, Tomb, SealedEmpty, SealedLive, SealedTomb}
use Rattle.moka_words.specs.Words.{node_of, stored_in, word_at}
use Rattle.moka_words.specs.Arrays.{bucket_at}
use Rattle.moka_words.proofs.Laying.{stored_is_key}
use Rattle.moka_growth.specs.Fits.{IsChange, IsOpen}
use Rattle.moka_pairs.specs.Keys.{Agrees, own_by, own_for}
use Rattle.moka_pairs.specs.Pairs.{pair_at}
use Rattle.moka_pairs.proofs.Divided.{segment_grows, segment_has}
use Rattle.moka_history.specs.declared.note.Note.{Note}
use Rattle.moka_history.specs.Logs.{entry_with, state_of}
use Rattle.moka_history.specs.Rules.{IsFront}
use Rattle.moka_history.specs.Keeping.{IsDivided, IsSmall}
use Rattle.moka_history.proofs.Fronts.{good_now, lasts_now, words_have_pairs}
use Rattle.moka_history.proofs.Lists.{no_item, one_item}
use Rattle.moka_shared.specs.Changes.{CanChange, entry_put, entry_taken}
use Rattle.moka_shared.specs.Probing.{EndsAt, IsLogOf, own_keys, own_words}
use Rattle.moka_shared.specs.Tables.{Table}
use Rattle.moka_shared.proofs.Loading.{first_rooted, kept_as, opened_some}
use Rattle.moka_shared.proofs.Probed.{known_is, own_at, pair}

no_node : {n : ℕ} → None ≡ Some n → ⊥
no_node e = cc

module _ {K V S : Type 0} (eq : K → K → Bool) (hash : S → K → ℕ) (place : S → ℕ → K → ℕ) (divided : IsDivided eq hash place) (t : Table S) (key : K)
    (below : place t.hasher t.segments key < t.segments) (h : ℕ) (h_is : h ≡ hash t.hasher key) where
  -- a probe that ended after a front, and a log that goes on from there
  module _ (front log : List (Note K V S)) (y : IsLogOf eq hash place t front) (x : IsLogOf eq hash place t log) (begins : IsPrefix front log)
      (passed : ℕ) (from : Word) (ends : EndsAt eq place t key h front passed from) where
    abbrev index : ℕ
    index = bucket_at t.size h passed

    is_front : IsFront front log
    is_front = record { some = opened_some t.segments t.size t.hasher front y.opened; begins = begins }

    more_pairs : Agrees (state_of log).pairs (state_of front).pairs
    more_pairs = (lasts_now eq hash place log (kept_as eq hash place t log x) front is_front).pairs

    -- the log knows the keys that the front knew
    more_keys : Agrees (own_keys place t key log) (own_keys place t key front)
    more_keys = segment_grows (λ k. place t.hasher t.segments k == (own_at place t key)) (state_of log).pairs (state_of front).pairs more_pairs

    from_small : IsSmall from
    from_small n at = (words_have_pairs eq hash place front (kept_as eq hash place t front y) (own_at place t key) (suc (own_at place t key))
        (first_rooted eq hash place t front y (own_at place t key) below) index n (ap node_of ends.there ∙ at)).3

    -- the node of a word that was the key's has the key
    own_still : (n : ℕ) → node_of (word_at (own_words place t key front) index) ≡ Some n → own_by eq (own_keys place t key front) key n ≡ true →
        (keys : ℕ → Option K) → Agrees keys (own_keys place t key log) → own_by eq keys key n ≡ true
    own_still n at own keys agrees =
        let known = known_is eq hash place divided t key below h h_is front y index n at in
        ap (λ o. option_map_or (eq key) o false) (agrees n _ (more_keys n _ known)) ∙ (sym (ap (λ o. option_map_or (eq key) o false) known) ∙ own)

    -- what the word stored has the pair that it had
    former_is : (pairs : ℕ → Option (K × V)) → Agrees pairs (state_of log).pairs → (o : Option ℕ) → stored_in from ≡ o →
        pair_at pairs (stored_in from) ≡ pair_at (state_of front).pairs (stored_in from)
    former_is pairs agrees None none = ap (pair_at pairs) none ∙ sym (ap (pair_at (state_of front).pairs) none)
    former_is pairs agrees (Some n) some =
        let there = pair eq hash place divided t key below h h_is front y index n (ap node_of ends.there ∙ stored_is_key from n some) in
        ap (pair_at pairs) some ∙ (agrees n there.0 (more_pairs n there.0 there.1) ∙ sym (ap (pair_at (state_of front).pairs) some ∙ there.1))

    -- a pair that the log names under a ticket
    module _ (ticket : ℕ) (value : V) (named : (state_of log).pairs ticket ≡ Some (key, value)) where
      own_ticket : (keys : ℕ → Option K) → Agrees keys (own_keys place t key log) → own_by eq keys key ticket ≡ true
      own_ticket keys agrees =
          ap (λ o. option_map_or (eq key) o false)
          (agrees ticket key (segment_has (λ k. place t.hasher t.segments k == (own_at place t key)) (state_of log).pairs ticket (key, value) named (eq-eqb (own_at place t key) (own_at place t key) refl)))
          ∙ divided.laws.refl key

      puts : (keys : ℕ → Option K) → Agrees keys (own_keys place t key log) → IsChange (own_for eq keys (Some key)) from (Live ticket)
      puts keys agrees = by from ends.there ends.opens
        where
          by : (w : Word) → word_at (own_words place t key front) index ≡ w → IsOpen (own_by eq (own_keys place t key front) key) w →
              IsChange (own_for eq keys (Some key)) w (Live ticket)
          by Unset e o = absurd o
          by Empty e o = own_ticket keys agrees
          by (Live n) e o = (own_still n (ap node_of e) o keys agrees, own_ticket keys agrees)
          by (Tomb n) e o = (own_still n (ap node_of e) o keys agrees, own_ticket keys agrees)
          by SealedEmpty e o = absurd o
          by (SealedLive n) e o = absurd o
          by (SealedTomb n) e o = absurd o

      ticket_small : ticket ≤ 2 ^ 60
      ticket_small =
          let good = good_now eq hash place log (kept_as eq hash place t log x) in
          elim (cases_lt (state_of log).last ticket) [
            | inl less ↦ absurd (no_item (sym (good.drawn.pairs ticket less) ∙ named))
            | inr more ↦ (let last = good.drawn.last in omega (arith, more, last))
          ]

      pub can_put : CanChange eq hash place t h passed from (Live ticket) ticket key
          (entry_put ticket key value (pair_at (state_of front).pairs (stored_in from))) front log
      can_put = record {
        hashed = h_is;
        was = y;
        begins = begins;
        ends = ends;
        small = (from_small, λ n e. subst (λ m. m ≤ 2 ^ 60) (one_item e) ticket_small);
        changes = puts;
        is = λ pairs agrees.
            let there = agrees ticket (key, value) named in
            ap (option_map (λ p. entry_with pairs ticket from (Live ticket) p.0)) there
            ∙ (ap (λ o. Some (record { ticket = ticket; key = key; put = option_map (λ p. p.1) o; former = pair_at pairs (stored_in from) })) there
            ∙ ap (λ o. Some (entry_put ticket key value o)) (former_is pairs agrees (stored_in from) refl));
      }

    -- a node that the word stores
    module _ (n : ℕ) (stored : stored_in from ≡ Some n) (p : K × V) (named : (state_of front).pairs n ≡ Some p) where
      takes : (keys : ℕ → Option K) → Agrees keys (own_keys place t key log) → IsChange (own_for eq keys (Some key)) from (Tomb n)
      takes keys agrees = by from ends.there ends.opens stored
        where
          by : (w : Word) → word_at (own_words place t key front) index ≡ w → IsOpen (own_by eq (own_keys place t key front) key) w → stored_in w ≡ Some n →
              IsChange (own_for eq keys (Some key)) w (Tomb n)
          by Unset e o f = absurd o
          by Empty e o f = absurd (no_node f)
          by (Live m) e o f = (own_still m (ap node_of e) o keys agrees, one_item f)
          by (Tomb m) e o f = absurd (no_node f)
          by SealedEmpty e o f = absurd o
          by (SealedLive m) e o f = absurd o
          by (SealedTomb m) e o f = absurd o

      pub can_take : (ticket : ℕ) → CanChange eq hash place t h passed from (Tomb n) ticket key (entry_taken ticket p) front log
      can_take ticket = record {
        hashed = h_is;
        was = y;
        begins = begins;
        ends = ends;
        small = (from_small, λ m e. from_small m (stored_is_key from n stored ∙ e));
        changes = takes;
        is = λ pairs agrees.
            let there = agrees n p (more_pairs n p named) in
            ap (option_map (λ q. entry_with pairs ticket from (Tomb n) q.0)) there
            ∙ ap (λ o. Some (record { ticket = ticket; key = p.0; put = None; former = o })) (ap (pair_at pairs) stored ∙ there);
      }

      -- the key of its pair is equal to the call's
      pub is_own : eq key p.0 ≡ true
      is_own = by from ends.there ends.opens stored
        where
          by : (w : Word) → word_at (own_words place t key front) index ≡ w → IsOpen (own_by eq (own_keys place t key front) key) w → stored_in w ≡ Some n → eq key p.0 ≡ true
          by Unset e o f = absurd o
          by Empty e o f = absurd (no_node f)
          by (Live m) e o f =
              let there = pair eq hash place divided t key below h h_is front y index m (ap node_of e) in
              let known = known_is eq hash place divided t key below h h_is front y index m (ap node_of e) in
              let same : p ≡ there.0 = one_item (sym named ∙ (ap (state_of front).pairs (sym (one_item f)) ∙ there.1)) in
              ap (λ q. eq key q.0) same ∙ (sym (ap (λ o. option_map_or (eq key) o false) known) ∙ o)
          by (Tomb m) e o f = absurd (no_node f)
          by SealedEmpty e o f = absurd o
          by (SealedLive m) e o f = absurd o
          by (SealedTomb m) e o f = absurd o
