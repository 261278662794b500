-- What a look finds in the table, and in the world that is kept; and that it changes nothing.
use Rattle.std.proofs.Common.{◌≡◌, ◌≢◌, ℕ, nat_le, Bool, true, false, ◌&&◌, ◌||◌, List, [], ◌∷◌, Option, Some, None, refl, sym, ap, ◌∙◌, arith}
use Rattle.std.proofs.Math.Bool.{and-false}
use Rattle.std.specs.List.{list_any}
use Rattle.std.specs.HashMap.{hash_map_len}
use Rattle.std.specs.Option.{option_map, option_map_or}
use Rattle.std.specs.declared.cmp.PartialEq as PartialEq
use Rattle.std.specs.declared.hash.Hash as Hash
use Rattle.std.specs.declared.hash.Hasher as Hasher
use Rattle.std.specs.declared.hash.BuildHasher as BuildHasher
use Rattle.moka_hist.specs.State.{DeskPart, World}
use Rattle.moka_hist.specs.Tables.{answer_of}
use Rattle.moka_hist.specs.Visible.{is_visible}
use Rattle.moka_hist.specs.Visits.{does_hit, is_seen, times_at}
use Rattle.moka_hist.specs.declared.predicates.Registered.{Registered}
use Rattle.moka_hist.specs.declared.records.Stored.{Stored}
use Rattle.moka_hist.specs.declared.tables.TableAnswer.{TableAnswer}
use Rattle.moka_hist.specs.declared.tables.TableOp.TheVariants as op
use Rattle.moka_hist.specs.declared.tables.TableTurn.{TableTurn}
use Rattle.moka_hist.specs.declared.tables.TableTurn.TheVariants as turn
use Rattle.moka_layers.specs.Layers.{WorldIs}
use Rattle.moka_table.specs.Map.{Moves, Pairs, SameMap}
use Rattle.moka_table.specs.Plain.{map_of, peak_of, plain_table}
use Rattle.moka_table.specs.declared.plain.PlainTable.{PlainTable}
use Rattle.moka_kept.specs.Counts.{mark_found, mark_of, sees, shows}
use Rattle.moka_laws.specs.Fair.{TableFair}
use Rattle.std.proofs.lemmas.Bool.{false≢true}
use Rattle.moka_kept.specs.Kept.{CacheLayers, IsKept, in_hand}

module _ {K V : Type 0} (eq : K → K → Bool) where
  -- the step of a look left the map
  pub looked_same : (key : K) (old new : Pairs K V) (keys count : ℕ) (t : TableTurn K V) → Moves eq (op.Get key) old keys t new count → SameMap old new
  looked_same key old new keys count turn.Going moves = moves.0
  looked_same key old new keys count (turn.Decided a) moves = moves.1

  pub looked_count : (key : K) (old new : Pairs K V) (keys count : ℕ) (t : TableTurn K V) → Moves eq (op.Get key) old keys t new count → count ≡ keys
  looked_count key old new keys count turn.Going moves = moves.1
  looked_count key old new keys count (turn.Decided a) moves = moves.2

  answered : (o : Option (K × Stored V)) (a : TableAnswer K V) → a ≡ answer_of o → mark_found (turn.Decided a) ≡ option_map (λ pair. mark_of pair.1) o
  answered None a e = ap (λ (x : TableAnswer K V). mark_found (turn.Decided x)) e
  answered (Some pair) a e = ap (λ (x : TableAnswer K V). mark_found (turn.Decided x)) e

  -- it found what the map has there
  pub looked_found : (key : K) (old new : Pairs K V) (keys count : ℕ) (t : TableTurn K V) → t ≢ turn.Going → Moves eq (op.Get key) old keys t new count → mark_found t ≡ option_map (λ pair. mark_of pair.1) (old key)
  looked_found key old new keys count turn.Going apart moves = absurd (apart refl)
  looked_found key old new keys count (turn.Decided a) apart moves = answered (old key) a moves.0

-- predicates that hold of nothing hit no record
unhit : {K V E : Type 0} (w : DeskPart K V E) (key : K) (stored : Stored V) → (λ test k v. false) ≡ w.predicates
    → (registered : List Registered) → list_any (does_hit w key stored) registered ≡ false
unhit {K} {V} w key stored none [] = refl
unhit {K} {V} w key stored none (r ∷ rest) =
    ap (λ (holds : ℕ → K → V → Bool). (nat_le stored.modified r.moment && holds r.test key stored.value) || list_any (does_hit w key stored) rest) (sym none)
    ∙ ap (λ b. b || list_any (does_hit w key stored) rest) (and-false (nat_le stored.modified r.moment))
    ∙ unhit w key stored none rest

-- a call without a replace test sees the record that is there where it is visible
seen : {K V E : Type 0} (w : World K V E) → (λ test k v. false) ≡ w.desk.predicates
    → (o : Option (K × Stored V)) → option_map_or (λ pair. is_seen w.desk None pair.0 pair.1) o false ≡ shows w.desk (option_map (λ pair. mark_of pair.1) o)
seen w none None = refl
seen w none (Some pair) =
    ap (λ hit. is_visible w.desk.rules (times_at w.desk pair.1.stamp pair.1.modified) hit) (unhit w.desk pair.0 pair.1 none w.desk.registered)

module _ {K V E S H : Type 0} {same : PartialEq.Ghosts K} {hash : Hash.Ghosts K} {build : BuildHasher.Ghosts S H} {hasher : Hasher.Ghosts H} (eq : K → K → Bool) where
  -- a table that is as it was leaves the world that is kept
  pub kept_table : (holds : K → V → Type 0) (ends : ℕ → Option K) (layers : CacheLayers K V E S H same hash build hasher) (table : PlainTable K V S H) → SameMap (map_of eq layers.table) (map_of eq table)
      → hash_map_len table.pairs ≡ hash_map_len layers.table.pairs → peak_of table ≡ peak_of layers.table → IsKept eq holds ends layers → IsKept eq holds ends (record layers { table = table })
  kept_table holds ends layers table map count peak kept =
      let there = kept.stands.table in
      let most = there.peak in
      record {
        world = kept.world;
        stands = record {
          table = record { map = λ q. map q ∙ there.map q; keys = count ∙ there.keys; peak = omega (arith, peak, most); first = there.first; parts = there.parts; part_of = there.part_of };
          desk = kept.stands.desk;
          handed = kept.stands.handed;
          stay = kept.stands.stay;
        };
        sound = kept.sound;
        log = kept.log;
        decided = kept.decided;
        none_begun = kept.none_begun;
        unlisted = kept.unlisted;
        stored = kept.stored;
        ended = kept.ended;
      }

  -- where the layers stand for a world, a get sees what their table has of the key where it is visible
  pub sees_there : (layers : CacheLayers K V E S H same hash build hasher) (w : World K V E) (key : K) → WorldIs eq (plain_table eq) in_hand layers w
      → sees w key ≡ shows w.desk (option_map (λ pair. mark_of pair.1) (map_of eq layers.table key))
  sees_there layers w key stands =
      seen w stands.handed.predicates (w.table.stored key)
      ∙ ap (λ o. shows w.desk (option_map (λ pair. mark_of pair.1) o)) (sym (stands.table.map key))

-- a record that is shown was found, and its value meets the fact for the key that was looked up
pub shown_meets : {K V E : Type 0} (eq : K → K → Bool) (holds : K → V → Type 0)
    → ((a b : K) (value : V) → eq a b ≡ true → holds a value → holds b value) → (stored : K → Option (K × Stored V)) → TableFair holds eq stored
    → (w : DeskPart K V E) (key : K) → shows w (option_map (λ pair. mark_of pair.1) (stored key)) ≡ true → (value : V) × holds key value
shown_meets {K} {V} {E} eq holds alike stored fair w key is = by (stored key) refl is
  where
    by : (o : Option (K × Stored V)) → stored key ≡ o → shows w (option_map (λ pair. mark_of pair.1) o) ≡ true → (value : V) × holds key value
    by None e is = absurd (false≢true is)
    by (Some pair) e is = let met = fair key pair e in (pair.1.value, alike pair.0 key pair.1.value met.1 met.0)
