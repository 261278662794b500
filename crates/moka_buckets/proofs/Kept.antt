-- Calls that list keys, while operations make their steps.
use Rattle.std.proofs.Common.{◌≡◌, ℕ, max, Bool, true, false, List, length, Option, Some, None, IsSome, Result, ◌↔◌, inl, inr, refl, sym, ap, subst, ◌∙◌, arith, set}
use Rattle.std.proofs.lemmas.Bool.{cases_eq, false≢true}
use Rattle.std.proofs.lemmas.Option.{slice_get_within}
use Rattle.std.proofs.Math.ListN.{length-set}
use Rattle.std.specs.Cmp.{IsEquivalence}
use Rattle.std.specs.List.{slice_get}
use Rattle.std.specs.Option.{option_map_or}
use Rattle.std.specs.declared.alloc.AllocError.{AllocError}
use Rattle.moka_hist.specs.declared.tables.TableTurn.{TableTurn}
use Rattle.moka_words.specs.Effect.{Memory}
use Rattle.moka_growth.specs.Calls.{Step, Going, Decided}
use Rattle.moka_growth.specs.Listing.{Differ}
use Rattle.moka_buckets.specs.declared.node.Node.{Node}
use Rattle.moka_buckets.specs.declared.part.Part.{Part}
use Rattle.moka_buckets.specs.declared.bucket_call.BucketCall.{BucketCall}
use Rattle.moka_buckets.specs.declared.keys_call.KeysCall.{KeysCall}
use Rattle.moka_pairs.specs.Keys.{is_one_key, same_by, own_by}
use Rattle.moka_pairs.specs.Segments.{SoundAll}
use Rattle.moka_buckets.specs.Nodes.{key_in, pair_in, Agrees}
use Rattle.moka_buckets.specs.Tables.{IsWell}
use Rattle.moka_buckets.specs.Walks.{AreNodes, Covers, WalksOn, listed_in}
use Rattle.moka_buckets.specs.Parts.{memory_at, keys_at, peak_at, map_at, map_over, segment_of, AreParts, Goes}
use Rattle.moka_buckets.specs.Keys.{CoversIt, FitsKeys, FitsThere, KeepsKeys, ListsIt}
use Rattle.moka_buckets.proofs.Placed.{get-set-same, get-set-other}
use Rattle.moka_pairs.proofs.Names.{agrees_through}
use Rattle.moka_pairs.proofs.Grown.{grown_same, sound_grown}
use Rattle.moka_pairs.proofs.Mapped.{has_key}
use Rattle.moka_buckets.proofs.Known.{keys_grow}
use Rattle.moka_buckets.proofs.Led.{walks_last, covers_last}
use Rattle.moka_buckets.proofs.Elsewhere.{lists_as, named_by, walks_at}

one_item : {A : Type 0} {x y : A} → Some x ≡ Some y → x ≡ y
one_item d = cc

-- nodes that are made change nothing for those that are listed
module _ {K V : Type 0} (eq : K → K → Bool) (hash : K → ℕ) (nodes more : List (Node K V))
    (grows : (n : ℕ) (node : Node K V) → slice_get nodes n ≡ Some node → slice_get more n ≡ Some node) where
  pub agrees_less : (keys : ℕ → Option K) → Agrees keys more → Agrees keys nodes
  agrees_less keys agrees = agrees_through keys (key_in more) (key_in nodes) agrees (keys_grow nodes more grows)

  pub key_more : (n : ℕ) → IsSome (key_in nodes n) → key_in more n ≡ key_in nodes n
  key_more n has = grown_same (key_in more) (key_in nodes) (keys_grow nodes more grows) n has

  named_more : (ns : List ℕ) → AreNodes nodes ns → AreNodes more ns
  named_more ns named x n e = subst IsSome (sym (key_more n (named x n e))) (named x n e)

  differ_more : (ns : List ℕ) → AreNodes nodes ns → Differ (same_by eq (key_in nodes)) ns → Differ (same_by eq (key_in more)) ns
  differ_more ns named differ x y n k e f same = differ x y n k e f
      (ap (λ o. is_one_key eq o (key_in nodes k)) (sym (key_more n (named x n e))) ∙ (ap (λ o. is_one_key eq (key_in more n) o) (sym (key_more k (named y k f))) ∙ same))

  pub walks_more : (m : Memory) (s : Step) → WalksOn eq hash m nodes s → WalksOn eq hash m more s
  walks_more m (Going c) w = record {
    kind = w.kind;
    seeks = w.seeks;
    fits = λ keys agrees. w.fits keys (agrees_less keys agrees);
    lists = λ keys agrees. w.lists keys (agrees_less keys agrees);
    named = named_more _ w.named;
    few = w.few;
  }
  walks_more m (Decided e) w = record { differ = differ_more (listed_in e) w.named w.differ; named = named_more (listed_in e) w.named; few = w.few }

  own_more : (key : K) (n : ℕ) → own_by eq (key_in nodes) key n ≡ true → own_by eq (key_in more) key n ≡ true
  own_more key n own = by (key_in nodes n) refl own
    where
      by : (o : Option K) → key_in nodes n ≡ o → option_map_or (eq key) o false ≡ true → own_by eq (key_in more) key n ≡ true
      by None e f = absurd (false≢true f)
      by (Some k) e f = ap (λ o. option_map_or (eq key) o false) (key_more n (subst IsSome (sym e) refl) ∙ e) ∙ f

  pub covers_more : (m : Memory) (key : K) (s : Step) → Covers eq m nodes key s → Covers eq m more key s
  covers_more m key (Going c) covers = λ keys agrees. covers keys (agrees_less keys agrees)
  covers_more m key (Decided e) (x, n, at, own) = (x, n, at, own_more key n own)

module _ {K V : Type 0} (eq : K → K → Bool) (laws : IsEquivalence eq) (hash : K → ℕ) (respects : (x y : K) → eq x y ≡ true → hash x ≡ hash y)
    (first most len : ℕ) (parts : List (Part K V)) (well : AreParts eq hash parts first most len) (i : ℕ) (p new : Part K V)
    (there : slice_get parts i ≡ Some p) (before after : BucketCall K V) (gives : Result (TableTurn K V) AllocError)
    (goes : Goes eq hash first p before gives new after) where
  now : slice_get (set parts i new) i ≡ Some new
  now = get-set-same parts i new (slice_get_within parts i p there)

  -- the segment is well for its nodes, those made included
  well_old : IsWell eq hash (memory_at p) p.nodes.items first (peak_at p)
  well_old = (well.each i p there).well

  sound_more : SoundAll eq hash (key_in new.nodes.items) (memory_at p)
  sound_more = sound_grown eq hash (key_in p.nodes.items) (key_in new.nodes.items) (keys_grow p.nodes.items new.nodes.items goes.done.grows) (memory_at p) well_old.sound

  walks_new : (s : Step) → WalksOn eq hash (memory_at p) p.nodes.items s → WalksOn eq hash (memory_at new) new.nodes.items s
  walks_new s w = walks_last eq laws hash respects new.nodes.items (memory_at p) (memory_at new)
      sound_more goes.done.later s
      (walks_more eq hash p.nodes.items new.nodes.items goes.done.grows (memory_at p) s w)

  covers_new : (key : K) → IsSome (map_at eq p key) → (s : Step) → WalksOn eq hash (memory_at p) p.nodes.items s → Covers eq (memory_at p) p.nodes.items key s →
      Covers eq (memory_at new) new.nodes.items key s
  covers_new key has s w covers = covers_last eq laws hash respects new.nodes.items (memory_at p) (memory_at new) sound_more goes.done.later
      (goes.done.well (max (peak_at p) (keys_at new)) (omega arith) (omega arith)).sound key
      (λ keys agrees. has_key eq laws hash respects (key_in p.nodes.items) (pair_in p.nodes.items) (memory_at p) key has keys
      (agrees_less eq hash p.nodes.items new.nodes.items goes.done.grows keys agrees)) s
      (walks_more eq hash p.nodes.items new.nodes.items goes.done.grows (memory_at p) s w)
      (covers_more eq hash p.nodes.items new.nodes.items goes.done.grows (memory_at p) key s covers)

  long : length (set parts i new) ≡ length parts
  long = length-set parts i new

  fits_there : (c : KeysCall) → FitsThere eq hash parts c → FitsThere eq hash (set parts i new) c
  fits_there c f = elim (cases_eq c.segment i) [
    | inl d ↦ record {
      part = new;
      there = ap (slice_get (set parts i new)) d ∙ now;
      walks = walks_new c.table (subst (λ x. WalksOn eq hash (memory_at x) x.nodes.items c.table) (one_item (sym f.there ∙ (ap (slice_get parts) d ∙ there))) f.walks);
    }
    | inr d ↦ record { part = f.part; there = get-set-other parts i c.segment new d ∙ f.there; walks = f.walks }
  ]

  fits : (c : KeysCall) → FitsKeys eq hash parts c → FitsKeys eq hash (set parts i new) c
  fits c (inl f) = inl (fits_there c f)
  fits c (inr f) = inr (record { absent = let a = f.absent in let l = long in omega (arith, a, l); empty = f.empty })

  lists : (c : KeysCall) (key : K) → FitsKeys eq hash parts c → ListsIt (set parts i new) c key ↔ ListsIt parts c key
  lists c key f = lists_as eq hash parts i p new there c key
      (λ d x n e. key_more eq hash p.nodes.items new.nodes.items goes.done.grows n
      (named_by eq hash p c.table (walks_at eq hash parts c p (ap (slice_get parts) d ∙ there) f) x n e))

  covers : (c : KeysCall) (key : K) → FitsKeys eq hash parts c → segment_of (length parts) (hash key) ≡ c.segment → IsSome (map_over eq hash parts key) →
      CoversIt eq parts c key → CoversIt eq (set parts i new) c key
  covers c key f at has (q, e, covered) = elim (cases_eq c.segment i) [
    | inl d ↦ (new, ap (slice_get (set parts i new)) d ∙ now, mine (ap (slice_get parts) d ∙ there))
    | inr d ↦ (q, get-set-other parts i c.segment new d ∙ e, covered)
  ]
    where
      mine : slice_get parts c.segment ≡ Some p → Covers eq (memory_at new) new.nodes.items key c.table
      mine here = covers_new key (subst IsSome (ap (λ o. option_map_or (λ x. map_at eq x key) o None) (ap (slice_get parts) at ∙ here)) has) c.table
          (walks_at eq hash parts c p here f) (subst (λ x. Covers eq (memory_at x) x.nodes.items key c.table) (one_item (sym e ∙ here)) covered)

  pub keeps_keys : KeepsKeys eq hash parts (set parts i new)
  keeps_keys = record { fits = fits; lists = lists; covers = covers }
