-- What the choice of an operation says of its answer and of its change.
use Rattle.std.proofs.Common.{◌≡◌, ℕ, ◌+◌, ◌-◌, ◌==◌, Bool, true, false, cond, List, Option, Some, None, IsSome, is_some, refl, sym, ap, ◌∙◌}
use Rattle.std.proofs.lemmas.Bool.{false≢true}
use Rattle.moka_hist.specs.Finite.{put_key}
use Rattle.moka_hist.specs.Tables.{taken_by}
use Rattle.moka_hist.specs.declared.records.Stored.{Stored}
use Rattle.moka_buckets.specs.KeyOps.{key_of, keys_after, pair_answered, stored_with}
use Rattle.moka_buckets.specs.declared.key_op.KeyOp.{KeyOp}
use Rattle.moka_buckets.specs.declared.key_op.KeyOp.TheVariants as op
use Rattle.moka_words.specs.declared.accesses.Choice.TheVariants as choice
use Rattle.moka_growth.specs.Calls.{Ending}
use Rattle.moka_growth.specs.Calls as call
use Rattle.moka_table.specs.Map.{Pairs}
use Rattle.moka_buckets.specs.declared.node.Node.{Node}
use Rattle.moka_buckets.specs.Nodes.{pair_at}
use Rattle.moka_buckets.specs.Tables.{choose, kind_of, is_look, put_of, stored_by}
use Rattle.moka_buckets.specs.Putting.{puts_at}
use Rattle.moka_buckets.proofs.Courses.{EndsBy}

keep_put : {n : ℕ} → choice.Keep ≡ choice.Put n → ⊥
keep_put e = cc

keep_out : choice.Keep ≡ choice.Remove → ⊥
keep_out e = cc

out_put : {n : ℕ} → choice.Remove ≡ choice.Put n → ⊥
out_put e = cc

put_keep : {n : ℕ} → choice.Put n ≡ choice.Keep → ⊥
put_keep e = cc

put_out : {n : ℕ} → choice.Put n ≡ choice.Remove → ⊥
put_out e = cc

one_put : {n k : ℕ} → choice.Put n ≡ choice.Put k → n ≡ k
one_put e = cc

-- which node is put
puts_node : (made : Option ℕ) (n : ℕ) → put_of made ≡ choice.Put n → made ≡ Some n
puts_node None n e = absurd (keep_put e)
puts_node (Some k) n e = ap Some (one_put e)

puts_nothing : (made : Option ℕ) → put_of made ≡ choice.Remove → ⊥
puts_nothing None e = keep_out e
puts_nothing (Some n) e = put_out e

keeps_none : (made : Option ℕ) → put_of made ≡ choice.Keep → IsSome made → ⊥
keeps_none None e has = false≢true has
keeps_none (Some n) e has = put_keep e

-- a removal is a choice of its test
out_is : (b : Bool) → cond b choice.Remove choice.Keep ≡ choice.Remove → b ≡ true
out_is true e = refl
out_is false e = absurd (keep_out e)

kept_is : (b : Bool) → cond b choice.Remove choice.Keep ≡ choice.Keep → b ≡ false
kept_is true e = absurd (keep_out (sym e))
kept_is false e = refl

never_put : (b : Bool) (n : ℕ) → cond b choice.Remove choice.Keep ≡ choice.Put n → ⊥
never_put true n e = out_put e
never_put false n e = keep_put e

module _ {K V : Type 0} where
  -- the pair that is taken is the one there
  taken_is : (stamp : Option ℕ) (p : Option (K × Stored V)) → is_some (taken_by stamp p) ≡ true → taken_by stamp p ≡ p
  taken_is stamp None e = absurd (false≢true e)
  taken_is None (Some pair) e = refl
  taken_is (Some s) (Some pair) e = by (pair.1.stamp == s) e
    where
      by : (b : Bool) → is_some (cond b (Some pair) None) ≡ true → cond b (Some pair) None ≡ Some pair
      by true f = refl
      by false f = absurd (false≢true f)

  none_taken : (o : Option (K × Stored V)) → is_some o ≡ false → o ≡ None
  none_taken None e = refl
  none_taken (Some pair) e = absurd (false≢true (sym e))

  -- the pair that is stored is under the operation's key
  pub stored_pair : (o : KeyOp K V) → IsSome (stored_by o) → (stored : Stored V) × (stored_by o ≡ Some (key_of o, stored))
  stored_pair (op.Get key) has = absurd (false≢true has)
  stored_pair (op.InsertOrModify key stored) has = (stored, refl)
  stored_pair (op.InsertIfAbsent key stored) has = (stored, refl)
  stored_pair (op.RemoveIf key stamp) has = absurd (false≢true has)

-- an operation that ends by a look puts nothing
pub look_puts : {K V : Type 0} (o : KeyOp K V) (found : Option ℕ) (e : Ending) → EndsBy (kind_of o) found e → (present : Option ℕ) →
    puts_at o present ≡ true → ⊥
look_puts (op.Get key) found e ends present puts = false≢true puts
look_puts (op.InsertOrModify key stored) found e ends present puts = absurd ends
look_puts (op.InsertIfAbsent key stored) found e ends present puts = absurd ends
look_puts (op.RemoveIf key stamp) found e ends present puts = false≢true puts

module _ {K V : Type 0} (nodes : List (Node K V)) where
  -- how an operation ends that has not changed anything is its choice
  pub look_of : (o : KeyOp K V) (made found : Option ℕ) (e : Ending) → EndsBy (kind_of o) found e →
      (f : Option ℕ) × (e ≡ call.Kept f) × (choose nodes o made f ≡ choice.Keep) × (cond (is_look o) found None ≡ cond (is_look o) f None)
  look_of (op.Get key) made found e ends = (found, ends, refl, refl)
  look_of (op.InsertOrModify key stored) made found e ends = absurd ends
  look_of (op.InsertIfAbsent key stored) made found e ends = absurd ends
  look_of (op.RemoveIf key stamp) made found e ends = (None, ends, refl, refl)

  -- the node that is put is the one that was made
  pub put_named : (o : KeyOp K V) (made found : Option ℕ) (n : ℕ) → choose nodes o made found ≡ choice.Put n → made ≡ Some n
  put_named (op.Get key) made found n e = absurd (keep_put e)
  put_named (op.InsertOrModify key stored) made found n e = puts_node made n e
  put_named (op.InsertIfAbsent key stored) made None n e = puts_node made n e
  put_named (op.InsertIfAbsent key stored) made (Some m) n e = absurd (keep_put e)
  put_named (op.RemoveIf key stamp) made found n e = absurd (never_put (is_some (taken_by stamp (pair_at nodes found))) n e)

  -- a node is taken out that is present
  pub out_present : (o : KeyOp K V) (made found : Option ℕ) → choose nodes o made found ≡ choice.Remove → IsSome found
  out_present (op.Get key) made found e = absurd (keep_out e)
  out_present (op.InsertOrModify key stored) made found e = absurd (puts_nothing made e)
  out_present (op.InsertIfAbsent key stored) made None e = absurd (puts_nothing made e)
  out_present (op.InsertIfAbsent key stored) made (Some m) e = refl
  out_present (op.RemoveIf key stamp) made None e = absurd (keep_out e)
  out_present (op.RemoveIf key stamp) made (Some m) e = refl

  module _ (eq : K → K → Bool) (f : Pairs K V) (keys : ℕ) where
    -- an operation that keeps what is there leaves the map, and answers the pair if it is a look
    pub left_by : (o : KeyOp K V) (made found : Option ℕ) → (puts_at o found ≡ true → IsSome made) → choose nodes o made found ≡ choice.Keep →
        f (key_of o) ≡ pair_at nodes found → (IsSome found → IsSome (pair_at nodes found)) →
        (pair_answered f o ≡ pair_at nodes (cond (is_look o) found None)) × ((q : K) → stored_with eq f o q ≡ f q) × (keys_after f keys o ≡ keys)
    left_by (op.Get key) made found named e here has = (here, λ q. refl, refl)
    left_by (op.InsertOrModify key stored) made found named e here has = absurd (keeps_none made e (named refl))
    left_by (op.InsertIfAbsent key stored) made None named e here has = absurd (keeps_none made e (named refl))
    left_by (op.InsertIfAbsent key stored) made (Some m) named e here has =
        let there : is_some (f key) ≡ true = ap is_some here ∙ has refl in (
          here,
          λ q. ap (λ b. cond b f (put_key eq f key (Some (key, stored))) q) there,
          ap (λ b. cond b keys (keys + 1)) there,
        )
    left_by (op.RemoveIf key stamp) made found named e here has =
        let none : is_some (taken_by stamp (f key)) ≡ false = ap (λ p. is_some (taken_by stamp p)) here ∙ kept_is (is_some (taken_by stamp (pair_at nodes found))) e in (
          none_taken (taken_by stamp (f key)) none,
          λ q. ap (λ b. cond b (put_key eq f key None) f q) none,
          ap (λ b. cond b (keys - 1) keys) none,
        )

    -- an operation that puts a node answers the pair in whose place that one is
    pub put_by_choice : (o : KeyOp K V) (made found : Option ℕ) (n : ℕ) (stored : Stored V) → choose nodes o made found ≡ choice.Put n →
        f (key_of o) ≡ pair_at nodes found → stored_by o ≡ Some (key_of o, stored) →
        (pair_answered f o ≡ pair_at nodes found) × ((q : K) → stored_with eq f o q ≡ put_key eq f (key_of o) (Some (key_of o, stored)) q)
        × (keys_after f keys o ≡ cond (is_some (f (key_of o))) keys (keys + 1))
    put_by_choice (op.Get key) made found n stored e here is = absurd (keep_put e)
    put_by_choice (op.InsertOrModify key st) made found n stored e here is = (here, λ q. ap (λ p. put_key eq f key p q) is, refl)
    put_by_choice (op.InsertIfAbsent key st) made None n stored e here is = (
      here,
      λ q. ap (λ p. cond (is_some p) f (put_key eq f key (Some (key, st))) q) here ∙ ap (λ p. put_key eq f key p q) is,
      refl,
    )
    put_by_choice (op.InsertIfAbsent key st) made (Some m) n stored e here is = absurd (keep_put e)
    put_by_choice (op.RemoveIf key stamp) made found n stored e here is = absurd (never_put (is_some (taken_by stamp (pair_at nodes found))) n e)

    -- an operation that takes a node out answers its pair
    pub out_by_choice : (o : KeyOp K V) (made found : Option ℕ) → choose nodes o made found ≡ choice.Remove → f (key_of o) ≡ pair_at nodes found →
        (pair_answered f o ≡ pair_at nodes found) × ((q : K) → stored_with eq f o q ≡ put_key eq f (key_of o) None q) × (keys_after f keys o ≡ keys - 1)
    out_by_choice (op.Get key) made found e here = absurd (keep_out e)
    out_by_choice (op.InsertOrModify key stored) made found e here = absurd (puts_nothing made e)
    out_by_choice (op.InsertIfAbsent key stored) made None e here = absurd (puts_nothing made e)
    out_by_choice (op.InsertIfAbsent key stored) made (Some m) e here = absurd (keep_out e)
    out_by_choice (op.RemoveIf key stamp) made found e here =
        let is : is_some (taken_by stamp (pair_at nodes found)) ≡ true = out_is (is_some (taken_by stamp (pair_at nodes found))) e in
        let there : is_some (taken_by stamp (f key)) ≡ true = ap (λ p. is_some (taken_by stamp p)) here ∙ is in (
          ap (taken_by stamp) here ∙ taken_is stamp (pair_at nodes found) is,
          λ q. ap (λ b. cond b (put_key eq f key None) f q) there,
          ap (λ b. cond b (keys - 1) keys) there,
        )
