-- What an operation on the table says of a map.
use Rattle.std.proofs.Common.{◌≡◌, ℕ, ◌+◌, ◌-◌, Bool, true, false, cond, Option, Some, None, is_some, refl, ap, ◌∙◌}
use Rattle.moka_hist.specs.Finite.{put_key}
use Rattle.moka_hist.specs.Tables.{answer_of, taken_by}
use Rattle.moka_hist.specs.declared.records.Stored.{Stored}
use Rattle.moka_buckets.specs.KeyOps.{MovesKey}
use Rattle.moka_buckets.specs.declared.key_op.KeyOp.{KeyOp}
use Rattle.moka_buckets.specs.declared.key_op.KeyOp.TheVariants as op
use Rattle.moka_hist.specs.declared.tables.TableTurn.{TableTurn}
use Rattle.moka_hist.specs.declared.tables.TableTurn.TheVariants as turn
use Rattle.moka_table.specs.Map.{Pairs, SameMap}
use Rattle.moka_map.specs.Maps.{entry_of}

-- functions that agree at q agree there whichever is chosen
chosen_at : {K A : Type 0} (b : Bool) (f g h k : K → A) (q : K) → f q ≡ h q → g q ≡ k q → cond b f g q ≡ cond b h k q
chosen_at true f g h k q e d = e
chosen_at false f g h k q e d = d

module _ {K V : Type 0} (eq : K → K → Bool) (old mid : Pairs K V) (same : SameMap old mid) where
  put_same : (key q : K) (w : Option (K × Stored V)) → put_key eq mid key w q ≡ put_key eq old key w q
  put_same key q w = ap (cond (eq key q) w) (same q)

  -- an operation that decides after steps that left the map decides by the map before them
  pub moves_same : (o : KeyOp K V) (keys : ℕ) (t : TableTurn K V) (new : Pairs K V) (count : ℕ) → MovesKey eq o mid keys t new count → MovesKey eq o old keys t new count
  moves_same o keys turn.Going new count m = (λ q. m.0 q ∙ same q, m.1)
  moves_same (op.Get key) keys (turn.Decided a) new count m = (m.0 ∙ ap answer_of (same key), λ q. m.1 q ∙ same q, m.2)
  moves_same (op.InsertOrModify key stored) keys (turn.Decided a) new count m =
      (m.0 ∙ ap answer_of (same key), λ q. m.1 q ∙ put_same key q (Some (key, stored)), m.2 ∙ ap (λ o. cond (is_some o) keys (keys + 1)) (same key))
  moves_same (op.InsertIfAbsent key stored) keys (turn.Decided a) new count m = (
    m.0 ∙ ap answer_of (same key),
    λ q. m.1 q ∙ (ap (λ o. cond (is_some o) mid (put_key eq mid key (Some (key, stored))) q) (same key) ∙
        chosen_at (is_some (old key)) mid (put_key eq mid key (Some (key, stored))) old (put_key eq old key (Some (key, stored))) q (same q) (put_same key q (Some (key, stored)))),
    m.2 ∙ ap (λ o. cond (is_some o) keys (keys + 1)) (same key),
  )
  moves_same (op.RemoveIf key stamp) keys (turn.Decided a) new count m = (
    m.0 ∙ ap (λ o. answer_of (taken_by stamp o)) (same key),
    λ q. m.1 q ∙ (ap (λ o. cond (is_some (taken_by stamp o)) (put_key eq mid key None) mid q) (same key) ∙
        chosen_at (is_some (taken_by stamp (old key))) (put_key eq mid key None) mid (put_key eq old key None) old q (put_same key q None) (same q)),
    m.2 ∙ ap (λ o. cond (is_some (taken_by stamp o)) (keys - 1) keys) (same key),
  )

module _ {K V : Type 0} where
  pub some_entry : (o : Option (K × Stored V)) → is_some o ≡ is_some (entry_of o)
  some_entry None = refl
  some_entry (Some p) = refl

  pub entry_put : (eq : K → K → Bool) (f : Pairs K V) (key : K) (w : Option (K × Stored V)) (q : K) →
      entry_of (put_key eq f key w q) ≡ put_key eq (λ x. entry_of (f x)) key (entry_of w) q
  entry_put eq f key w q = by (eq key q)
    where
      by : (b : Bool) → entry_of (cond b w (f q)) ≡ cond b (entry_of w) (entry_of (f q))
      by true = refl
      by false = refl

  -- whatever its stamp, what is there is taken
  pub taken_any : (o : Option (K × Stored V)) → taken_by None o ≡ o
  taken_any None = refl
  taken_any (Some p) = refl
