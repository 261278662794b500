-- The operations on the table's map.
use Rattle.std.specs.Prelude.{◌≡◌, ℕ, ◌+◌, ◌-◌, ◌==◌, ◌≤◌, max, Bool, true, not, cond, ◌&&◌, ◌||◌, List, [], ◌∷◌, ◌++◌, All, length, Option, Some, None, is_some, unwrap_or}
use Rattle.std.specs.Option.{option_map}
use Rattle.std.specs.List.{IsDistinct, list_any}
use Rattle.moka_hist.specs.Finite.{put_at, put_key}
use Rattle.moka_hist.specs.Bound.{array_bound}
use Rattle.moka_hist.specs.State.{Listed, TablePart}
use Rattle.moka_hist.specs.declared.records.Stored.{Stored}
use Rattle.moka_hist.specs.declared.tables.TableOp.{TableOp}
use Rattle.moka_hist.specs.declared.tables.TableOp.TheVariants as op
use Rattle.moka_hist.specs.declared.tables.TableAnswer.{TableAnswer}
use Rattle.moka_hist.specs.declared.tables.TableAnswer.TheVariants as found

module _ {K : Type 0} where
  -- once the key was stored each list that was begun may give it
  abbrev pub listings_with : (K → K → Bool) → (ℕ → Option (Listed K)) → K → ℕ → Option (Listed K)
  listings_with eq listings key n =
      option_map {T = Listed K} (λ l. record l { may = λ q. l.may q || eq key q }) (listings n)

  -- once it was taken out none of them has to give it
  abbrev pub listings_without : (K → K → Bool) → (ℕ → Option (Listed K)) → K → ℕ →
      Option (Listed K)
  listings_without eq listings key n =
      option_map {T = Listed K} (λ l. record l { must = λ q. l.must q && not (eq key q) })
      (listings n)

module _ {K V : Type 0} where
  abbrev pub answer_of : Option (K × Stored V) → TableAnswer K V
  answer_of None = found.None
  answer_of (Some pair) = found.Some pair.0 pair.1

  -- the key that the operation is on; a list is on none
  abbrev pub key_of : TableOp K V → Option K
  key_of (op.Get key) = Some key
  key_of (op.InsertOrModify key stored) = Some key
  key_of (op.InsertIfAbsent key stored) = Some key
  key_of (op.RemoveIf key stamp) = Some key
  key_of (op.Keys part) = None

  -- the pair, where its record has the stamp that is asked for, if any is
  abbrev pub taken_by : Option ℕ → Option (K × Stored V) → Option (K × Stored V)
  taken_by stamp None = None
  taken_by None (Some pair) = Some pair
  taken_by (Some stamp) (Some pair) = cond (pair.1.stamp == stamp) (Some pair) None

  -- the map after an operation
  abbrev pub stored_with : (K → K → Bool) → (K → Option (K × Stored V)) → TableOp K V → K →
      Option (K × Stored V)
  stored_with eq f (op.Get key) = f
  stored_with eq f (op.InsertOrModify key stored) = put_key eq f key (Some (key, stored))
  stored_with eq f (op.InsertIfAbsent key stored) =
      cond (is_some (f key)) f (put_key eq f key (Some (key, stored)))
  stored_with eq f (op.RemoveIf key stamp) =
      cond (is_some (taken_by stamp (f key))) (put_key eq f key None) f
  stored_with eq f (op.Keys part) = f

  -- the key is stored, and of the part
  abbrev pub is_stored_in : TablePart K V → ℕ → K → Bool
  is_stored_in t part q = is_some (t.stored q) && t.division.part_of q == part

  -- a list of the part that begins now has to give what is stored, and nothing else
  abbrev pub listed_now : TablePart K V → ℕ → Listed K
  listed_now t part =
      record { part = part; must = is_stored_in t part; may = is_stored_in t part }

  -- the lists that were begun once the call of this number has made a step of the operation
  abbrev pub listings_begun : TablePart K V → ℕ → TableOp K V → ℕ → Option (Listed K)
  listings_begun t n (op.Get key) = t.listings
  listings_begun t n (op.InsertOrModify key stored) = t.listings
  listings_begun t n (op.InsertIfAbsent key stored) = t.listings
  listings_begun t n (op.RemoveIf key stamp) = t.listings
  listings_begun t n (op.Keys part) =
      put_at t.listings n (Some (unwrap_or (t.listings n) (listed_now t part)))

  -- the table then: nothing else has changed
  abbrev pub begun : TablePart K V → ℕ → TableOp K V → TablePart K V
  begun t n operation = record t { listings = listings_begun t n operation }

  -- The keys are a list of a part that was begun so: no two are equal, each is of the part, those are
  -- there that it has to give and none but those that it may, and there are no more than an array is
  -- long.
  pub record GivesKeys (eq : K → K → Bool) (t : TablePart K V) (listed : Listed K)
      (keys : List K) : Type 0 where
    pub distinct : IsDistinct eq keys
    pub of_part : All (λ q. t.division.part_of q ≡ listed.part) keys
    pub whole : (q : K) → listed.must q ≡ true → list_any (eq q) keys ≡ true
    pub within : All (λ q. listed.may q ≡ true) keys
    pub few : length keys ≤ array_bound t

  -- a write of the call of this number puts the pair in the place of the one that was there
  abbrev pub written : (K → K → Bool) → ℕ → TablePart K V → K → Stored V → TablePart K V
  written eq n t key stored =
      let keys : ℕ = cond (is_some (t.stored key)) t.keys (t.keys + 1) in
      record {
        division = t.division;
        listings = listings_with eq t.listings key;
        stored = put_key eq t.stored key (Some (key, stored));
        keys = keys;
        peak = max t.peak keys;
        committed = t.committed ++ n ∷ [];
      }

  -- a removal of the call of this number takes the pair out
  abbrev pub removed : (K → K → Bool) → ℕ → TablePart K V → K → TablePart K V
  removed eq n t key = record {
    division = t.division;
    listings = listings_without eq t.listings key;
    stored = put_key eq t.stored key None;
    keys = t.keys - 1;
    peak = t.peak;
    committed = t.committed ++ n ∷ [];
  }

  -- the table where something is there, and where nothing is
  abbrev pub by_pair : Option (K × Stored V) → TablePart K V → TablePart K V → TablePart K V
  by_pair None there absent = absent
  by_pair (Some pair) there absent = there

  -- What an operation of the call of this number answers, and what it leaves. A look answers the
  -- pair at its key and changes nothing; a write answers the pair that it takes the place of, and
  -- is committed; a removal answers the pair that it takes out, if any, and is committed with it;
  -- and one that stores only where the key is absent answers the pair that is there, and then
  -- changes nothing. A list answers keys, and changes no pair; the table is as it was begun.
  abbrev pub Operates : (K → K → Bool) → ℕ → TablePart K V → TableOp K V → TableAnswer K V →
      TablePart K V → Type 0
  Operates eq n t (op.Get key) answer new = (answer ≡ answer_of (t.stored key)) × (new ≡ t)
  Operates eq n t (op.InsertOrModify key stored) answer new =
      (answer ≡ answer_of (t.stored key)) × (new ≡ written eq n t key stored)
  Operates eq n t (op.InsertIfAbsent key stored) answer new =
      (answer ≡ answer_of (t.stored key)) ×
      (new ≡ by_pair (t.stored key) t (written eq n t key stored))
  Operates eq n t (op.RemoveIf key stamp) answer new =
      let out : Option (K × Stored V) = taken_by stamp (t.stored key) in
      (answer ≡ answer_of out) × (new ≡ by_pair out (removed eq n t key) t)
  Operates eq n t (op.Keys part) answer new =
      (listed : Listed K) × (keys : List K) × (t.listings n ≡ Some listed)
      × GivesKeys eq t listed keys × (answer ≡ found.Keys keys)
      × (new ≡ record t { listings = put_at t.listings n None })
