-- Calls that list keys, where a step is made in their segment, and where theirs isn't there.
use Rattle.std.proofs.Common.{◌≡◌, ◌↔◌, ℕ, ◌<◌, ◌≤◌, Bool, true, List, [], length, None, Some, Ok, refl, inl, inr, sym, ap, subst, ◌∙◌, arith, set}
use Rattle.std.proofs.lemmas.Bool.{cases_eq, false≢true}
use Rattle.std.proofs.lemmas.Option.{slice_get_past, slice_get_within}
use Rattle.std.specs.List.{slice_get}
use Rattle.std.specs.Option.{option_map_or}
use Rattle.moka_growth.specs.declared.kinds.CallKind.TheVariants as kind
use Rattle.moka_growth.specs.Calls.{Step, Going, Decided, Nodes, call_from}
use Rattle.moka_calls.specs.Standing.{IsGoing}
use Rattle.moka_buckets.specs.declared.part.Part.{Part}
use Rattle.moka_buckets.specs.declared.keys_call.KeysCall.{KeysCall}
use Rattle.moka_buckets.specs.Nodes.{key_in}
use Rattle.moka_buckets.specs.Walks.{carried, is_ended, listed_by, node_next, word_next, AreNodes, WalksOn}
use Rattle.moka_buckets.specs.Parts.{memory_at, AreParts}
use Rattle.moka_buckets.specs.Keys.{FitsKeys, FitsThere, FitsNowhere, ListsIt, WalksOver, word_over}
use Rattle.moka_buckets.proofs.Placed.{get-set-same, get-set-other}

one_item : {A : Type 0} {x y : A} → Some x ≡ Some y → x ≡ y
one_item d = cc

pub never_there : {X : Type 0} (xs : List X) (i : ℕ) → length xs ≤ i → (x : X) → slice_get xs i ≡ Some x → ⊥
never_there xs i past x at = let within = slice_get_within xs i x at in omega (arith, within, past)

module _ {K V : Type 0} (eq : K → K → Bool) (hash : K → ℕ) where
  -- a call fits the segment that it is to
  pub walks_at : (parts : List (Part K V)) (c : KeysCall) (p : Part K V) → slice_get parts c.segment ≡ Some p → FitsKeys eq hash parts c →
      WalksOn eq hash (memory_at p) p.nodes.items c.table
  walks_at parts c p here (inl f) = subst (λ x. WalksOn eq hash (memory_at x) x.nodes.items c.table) (one_item (sym f.there ∙ here)) f.walks
  walks_at parts c p here (inr f) = absurd (never_there parts c.segment f.absent p here)

  pub there_of : (parts : List (Part K V)) (c : KeysCall) → c.segment < length parts → FitsKeys eq hash parts c → FitsThere eq hash parts c
  there_of parts c within (inl f) = f
  there_of parts c within (inr f) = let past = f.absent in absurd (omega (arith, within, past))

  pub nowhere_of : (parts : List (Part K V)) (c : KeysCall) → length parts ≤ c.segment → FitsKeys eq hash parts c → FitsNowhere parts c
  nowhere_of parts c past (inl f) = absurd (never_there parts c.segment past f.part f.there)
  nowhere_of parts c past (inr f) = f

  -- there it has made no step, if it goes on
  pub begun_nowhere : (parts : List (Part K V)) (c : KeysCall) → FitsNowhere parts c → IsGoing c.table → c.table ≡ Going (call_from kind.Keys 0)
  begun_nowhere parts c f going = elim f.empty [ inl begun ↦ begun | inr done ↦ absurd (subst IsGoing done going) ]

  pub named_by : (p : Part K V) (s : Step) → WalksOn eq hash (memory_at p) p.nodes.items s → AreNodes p.nodes.items (listed_by s)
  named_by p (Going c) w = w.named
  named_by p (Decided e) w = w.named

  -- What a call has listed stays, where the nodes that it listed have the same keys.
  pub lists_as : (parts : List (Part K V)) (i : ℕ) (p new : Part K V) → slice_get parts i ≡ Some p → (c : KeysCall) (key : K) →
      (c.segment ≡ i → (x n : ℕ) → slice_get (listed_by c.table) x ≡ Some n → key_in new.nodes.items n ≡ key_in p.nodes.items n) →
      ListsIt (set parts i new) c key ↔ ListsIt parts c key
  lists_as parts i p new there c key same = (to, from)
    where
      now : slice_get (set parts i new) i ≡ Some new
      now = get-set-same parts i new (slice_get_within parts i p there)

      to : ListsIt (set parts i new) c key → ListsIt parts c key
      to (q, at, x, n, e, is) = elim (cases_eq c.segment i) [
        | inl d ↦ (
          p,
          ap (slice_get parts) d ∙ there,
          x,
          n,
          e,
          sym (same d x n e)
              ∙ subst (λ y. key_in y.nodes.items n ≡ Some key) (one_item (sym at ∙ (ap (slice_get (set parts i new)) d ∙ now))) is,
        )
        | inr d ↦ (q, sym (get-set-other parts i c.segment new d) ∙ at, x, n, e, is)
      ]

      from : ListsIt parts c key → ListsIt (set parts i new) c key
      from (q, at, x, n, e, is) = elim (cases_eq c.segment i) [
        | inl d ↦ (
          new,
          ap (slice_get (set parts i new)) d ∙ now,
          x,
          n,
          e,
          same d x n e
              ∙ subst (λ y. key_in y.nodes.items n ≡ Some key) (one_item (sym at ∙ (ap (slice_get parts) d ∙ there))) is,
        )
        | inr d ↦ (q, get-set-other parts i c.segment new d ∙ at, x, n, e, is)
      ]

  no_word : (parts : List (Part K V)) (c : KeysCall) → length parts ≤ c.segment → word_over parts c ≡ None
  no_word parts c past = ap (λ o. option_map_or (λ p. word_next (memory_at p) c.table) o None) (slice_get_past parts c.segment past)

  -- the step of a call to a segment that isn't there
  pub walks_nowhere : (first most len : ℕ) (parts : List (Part K V)) → AreParts eq hash parts first most len → (before after : KeysCall) → FitsNowhere parts before →
      after.segment ≡ before.segment → after.table ≡ Decided (Nodes []) → WalksOver eq hash first parts most len before (Ok true) parts after
  walks_nowhere first most len parts well before after fits segment ended = record {
    segment = segment;
    well = well;
    long = refl;
    map = λ q. refl;
    fits = inr (record { absent = subst (λ i. length parts ≤ i) (sym segment) fits.absent; empty = inr ended });
    absent = λ past. refl;
    ended = sym (ap is_ended ended);
    nears = λ e. absurd (false≢true (sym e));
    lists = λ key l. absurd (never_there parts before.segment fits.absent l.0 (subst (λ i. slice_get parts i ≡ Some l.0) segment l.1));
    covers = λ key d has l. absurd (never_there parts before.segment fits.absent l.0 l.1);
    others = λ c f. f;
    keys = record { fits = λ c f. f; lists = λ c key f. (λ l. l, λ l. l); covers = λ c key f d has covers. covers };
    adds = ap listed_by ended ∙ sym (ap (λ w. carried (listed_by before.table) w (node_next w)) (no_word parts before fits.absent));
    nodes = λ i. refl;
    err = tt;
  }
