-- What is told a call, and what its state answers, by the forms of both.
use Rattle.std.proofs.Common.{◌≡◌, Option, Some, None, IfSome, Result, Ok, Err, IfOk, refl, sym, ap, ◌∙◌, subst}
use Rattle.std.proofs.lemmas.Option.{none-some, same_Some}
use Rattle.moka_hist.specs.declared.entries.CompResult.{CompResult}
use Rattle.moka_hist.specs.declared.entries.CompResult.TheVariants as done
use Rattle.moka_hist.specs.declared.entries.Entry.{Entry}
use Rattle.moka_hist.specs.declared.events.Op.{Op}
use Rattle.moka_hist.specs.declared.events.Op.TheVariants as op
use Rattle.moka_hist.specs.declared.events.Told.{Told}
use Rattle.moka_hist.specs.declared.events.Told.TheVariants as told
use Rattle.moka_hist.specs.declared.replies.Answer.{Answer}
use Rattle.moka_hist.specs.declared.replies.Answer.TheVariants as answer
use Rattle.moka_laws.specs.Given.{value_done, value_in, value_of}
use Rattle.moka_cache.specs.Asked.{TellsDone, TellsOption, TellsPut, TellsResult, TellsValue}
use Rattle.moka_cache.specs.Entries.{computed_in, entry_in, loaded_entry_in, optionally_loaded_entry_in, stored_in, try_computed_in, try_loaded_entry_in}
use Rattle.moka_cache.specs.Loaded.{loaded_in, optionally_loaded_in, try_loaded_in}
use Rattle.moka_cache.specs.Stages as stages
use Rattle.moka_cache.specs.declared.errors.LoadError.{LoadError}
use Rattle.moka_cache.specs.declared.errors.RetriesExhausted.{RetriesExhausted}

-- ---- what a call brings, and is told

module _ {K V : Type 0} (holds : K → V → Type 0) where
  pub brings_one : (key : K) (value : V) → holds key value → (k : K) (v : V) → ◌≡◌ {A = Option (K × V)} (Some (key, value)) (Some (k, v)) → holds k v
  brings_one key value so k v is =
      let own : K × V = (key, value) in
      let other : K × V = (k, v) in
      subst (λ (p : K × V). holds p.0 p.1) (same_Some own other is) so

  one : (key : K) (value : V) → holds key value → (k : K) (v : V) → Some key ≡ Some k → Some value ≡ Some v → holds k v
  one key value so k v is e = subst (λ x. holds x v) (same_Some key k is) (subst (λ x. holds key x) (same_Some value v e) so)

  module _ {E : Type 0} (key : K) where
    pub value_told : (such : V → Type 0) → ((value : V) → such value → holds key value) → (t : Told V E) (k : K) (v : V) → TellsValue such t → Some key ≡ Some k
        → value_in t ≡ Some v → holds k v
    value_told such so (told.Value value) k v tells is e = one key value (so value tells) k v is e
    value_told such so told.Nothing k v tells is e = absurd tells
    value_told such so (told.Err error) k v tells is e = absurd tells
    value_told such so (told.Op done) k v tells is e = absurd tells
    value_told such so told.Done k v tells is e = absurd tells
    value_told such so told.Off k v tells is e = absurd tells

    pub option_told : (such : Option V → Type 0) → ((value : V) → such (Some value) → holds key value) → (t : Told V E) (k : K) (v : V) → TellsOption such t → Some key ≡ Some k
        → value_in t ≡ Some v → holds k v
    option_told such so (told.Value value) k v tells is e = one key value (so value tells) k v is e
    option_told such so told.Nothing k v tells is e = absurd (none-some v e)
    option_told such so (told.Err error) k v tells is e = absurd tells
    option_told such so (told.Op done) k v tells is e = absurd tells
    option_told such so told.Done k v tells is e = absurd tells
    option_told such so told.Off k v tells is e = absurd tells

    pub result_told : (such : Result V E → Type 0) → ((value : V) → such (Ok value) → holds key value) → (t : Told V E) (k : K) (v : V) → TellsResult such t → Some key ≡ Some k
        → value_in t ≡ Some v → holds k v
    result_told such so (told.Value value) k v tells is e = one key value (so value tells) k v is e
    result_told such so (told.Err error) k v tells is e = absurd (none-some v e)
    result_told such so told.Nothing k v tells is e = absurd tells
    result_told such so (told.Op done) k v tells is e = absurd tells
    result_told such so told.Done k v tells is e = absurd tells
    result_told such so told.Off k v tells is e = absurd tells

    pub op_told : (such : Result (Op V) E → Type 0) → ((value : V) → such (Ok (op.Put value)) → holds key value) → (t : Told V E) (k : K) (v : V) → TellsDone such t → Some key ≡ Some k
        → value_in t ≡ Some v → holds k v
    op_told such so (told.Op (op.Put value)) k v tells is e = one key value (so value tells) k v is e
    op_told such so (told.Op op.Nop) k v tells is e = absurd (none-some v e)
    op_told such so (told.Op op.Remove) k v tells is e = absurd (none-some v e)
    op_told such so (told.Err error) k v tells is e = absurd (none-some v e)
    op_told such so (told.Value value) k v tells is e = absurd tells
    op_told such so told.Nothing k v tells is e = absurd tells
    op_told such so told.Done k v tells is e = absurd tells
    op_told such so told.Off k v tells is e = absurd tells

    pub put_told : (such : Result (Op V) E → Type 0) → ((value : V) → such (Ok (op.Put value)) → holds key value) → (t : Told V E) (k : K) (v : V) → TellsPut such t → Some key ≡ Some k
        → value_in t ≡ Some v → holds k v
    put_told such so (told.Value value) k v tells is e = one key value (so value tells) k v is e
    put_told such so told.Nothing k v tells is e = absurd tells
    put_told such so (told.Err error) k v tells is e = absurd tells
    put_told such so (told.Op done) k v tells is e = absurd tells
    put_told such so told.Done k v tells is e = absurd tells
    put_told such so told.Off k v tells is e = absurd tells

-- ---- what a state answers

-- the value that a compute left, if it left one, is so
abbrev DoneSo : {K V : Type 0} → (V → Type 0) → CompResult K V → Type 0
DoneSo {K} {V} P made = (value : V) → value_done made ≡ Some value → P value

module _ {K V E : Type 0} (P : V → Type 0) where
  -- the values of the answer are so
  abbrev Values : Answer K V E → Type 0
  Values given = (value : V) → value_of given ≡ Some value → P value

  value_same : (given : Answer K V E) (value : V) → stages.value_in given ≡ Some value → value_of given ≡ Some value
  value_same (answer.Found found) value is = is
  value_same (answer.Loaded v fresh) value is = is
  value_same answer.Done value is = is
  value_same answer.Nothing value is = is
  value_same (answer.InitErr error) value is = is
  value_same (answer.Computed done) value is = absurd (none-some value is)
  value_same (answer.ComputeErr error) value is = is
  value_same answer.RetriesExhausted value is = is
  value_same answer.Evicted value is = is
  value_same answer.Kept value is = is
  value_same answer.End value is = is
  value_same (answer.Id id) value is = is
  value_same answer.ClosuresDisabled value is = is
  value_same answer.NoId value is = is

  pub found_so : (given : Answer K V E) (found : Option V) → Some found ≡ Some (stages.value_in given) → Values given → IfSome found P
  found_so given None is so = tt
  found_so given (Some value) is so = so value (value_same given value (sym (same_Some (Some value) (stages.value_in given) is)))

  pub loaded_so : (given : Answer K V E) (r : Result V RetriesExhausted) → Some r ≡ loaded_in given → Values given → IfOk r P
  loaded_so (answer.Loaded value fresh) r is so = subst (λ (x : Result V RetriesExhausted). IfOk x P) (sym (same_Some r (Ok value) is)) (so value refl)
  loaded_so answer.RetriesExhausted r is so = subst (λ (x : Result V RetriesExhausted). IfOk x P) (sym (same_Some r (Err (record {})) is)) tt
  loaded_so _ r is so = absurd (none-some r (sym is))

  pub optionally_so : (given : Answer K V E) (r : Result (Option V) RetriesExhausted) → Some r ≡ optionally_loaded_in given → Values given → IfOk r (λ found. IfSome found P)
  optionally_so (answer.Loaded value fresh) r is so =
      subst (λ (x : Result (Option V) RetriesExhausted). IfOk x (λ found. IfSome found P)) (sym (same_Some r (Ok (Some value)) is)) (so value refl)
  optionally_so answer.Nothing r is so = subst (λ (x : Result (Option V) RetriesExhausted). IfOk x (λ found. IfSome found P)) (sym (same_Some r (Ok None) is)) tt
  optionally_so answer.RetriesExhausted r is so =
      subst (λ (x : Result (Option V) RetriesExhausted). IfOk x (λ found. IfSome found P)) (sym (same_Some r (Err (record {})) is)) tt
  optionally_so _ r is so = absurd (none-some r (sym is))

  pub tried_so : (given : Answer K V E) (r : Result V (LoadError E)) → Some r ≡ try_loaded_in given → Values given → IfOk r P
  tried_so (answer.Loaded value fresh) r is so = subst (λ (x : Result V (LoadError E)). IfOk x P) (sym (same_Some r (Ok value) is)) (so value refl)
  tried_so (answer.InitErr error) r is so = subst (λ (x : Result V (LoadError E)). IfOk x P) (sym (same_Some r _ is)) tt
  tried_so answer.RetriesExhausted r is so = subst (λ (x : Result V (LoadError E)). IfOk x P) (sym (same_Some r _ is)) tt
  tried_so _ r is so = absurd (none-some r (sym is))

  -- ---- entries

  pub entry_so : (named : Option K) (given : Answer K V E) (entry : Entry K V) → Some entry ≡ entry_in named given → Values given → P entry.value
  entry_so named (answer.Loaded value fresh) entry is so = subst P (sym (ap (λ (x : Entry K V). x.value) (same_Some entry _ is))) (so value refl)
  entry_so named _ entry is so = absurd (none-some entry (sym is))

  pub loaded_entry_so : (named : Option K) (given : Answer K V E) (r : Result (Entry K V) RetriesExhausted) → Some r ≡ loaded_entry_in named given → Values given → IfOk r (λ entry. P entry.value)
  loaded_entry_so named (answer.Loaded value fresh) r is so =
      subst (λ (x : Result (Entry K V) RetriesExhausted). IfOk x (λ entry. P entry.value)) (sym (same_Some r _ is)) (so value refl)
  loaded_entry_so named answer.RetriesExhausted r is so =
      subst (λ (x : Result (Entry K V) RetriesExhausted). IfOk x (λ entry. P entry.value)) (sym (same_Some r (Err (record {})) is)) tt
  loaded_entry_so named _ r is so = absurd (none-some r (sym is))

  pub optional_entry_so : (named : Option K) (given : Answer K V E) (r : Result (Option (Entry K V)) RetriesExhausted) → Some r ≡ optionally_loaded_entry_in named given → Values given
      → IfOk r (λ found. IfSome found (λ entry. P entry.value))
  optional_entry_so named (answer.Loaded value fresh) r is so =
      subst (λ (x : Result (Option (Entry K V)) RetriesExhausted). IfOk x (λ found. IfSome found (λ entry. P entry.value))) (sym (same_Some r _ is)) (so value refl)
  optional_entry_so named answer.Nothing r is so =
      subst (λ (x : Result (Option (Entry K V)) RetriesExhausted). IfOk x (λ found. IfSome found (λ entry. P entry.value))) (sym (same_Some r (Ok None) is)) tt
  optional_entry_so named answer.RetriesExhausted r is so =
      subst (λ (x : Result (Option (Entry K V)) RetriesExhausted). IfOk x (λ found. IfSome found (λ entry. P entry.value))) (sym (same_Some r (Err (record {})) is)) tt
  optional_entry_so named _ r is so = absurd (none-some r (sym is))

  pub tried_entry_so : (named : Option K) (given : Answer K V E) (r : Result (Entry K V) (LoadError E)) → Some r ≡ try_loaded_entry_in named given → Values given → IfOk r (λ entry. P entry.value)
  tried_entry_so named (answer.Loaded value fresh) r is so =
      subst (λ (x : Result (Entry K V) (LoadError E)). IfOk x (λ entry. P entry.value)) (sym (same_Some r _ is)) (so value refl)
  tried_entry_so named (answer.InitErr error) r is so = subst (λ (x : Result (Entry K V) (LoadError E)). IfOk x (λ entry. P entry.value)) (sym (same_Some r _ is)) tt
  tried_entry_so named answer.RetriesExhausted r is so = subst (λ (x : Result (Entry K V) (LoadError E)). IfOk x (λ entry. P entry.value)) (sym (same_Some r _ is)) tt
  tried_entry_so named _ r is so = absurd (none-some r (sym is))

  -- ---- computes

  pub computed_so : (given : Answer K V E) (made : CompResult K V) → Some made ≡ computed_in given → Values given → DoneSo P made
  computed_so (answer.Computed done) made is so = λ value e. so value (sym (ap value_done (same_Some made done is)) ∙ e)
  computed_so _ made is so = λ value e. absurd (none-some made (sym is))

  pub try_computed_so : (given : Answer K V E) (r : Result (CompResult K V) E) → Some r ≡ try_computed_in given → Values given → IfOk r (DoneSo P)
  try_computed_so (answer.Computed done) r is so = subst (λ (x : Result (CompResult K V) E). IfOk x (DoneSo P)) (sym (same_Some r (Ok done) is)) so
  try_computed_so (answer.ComputeErr error) r is so = subst (λ (x : Result (CompResult K V) E). IfOk x (DoneSo P)) (sym (same_Some r (Err error) is)) tt
  try_computed_so _ r is so = absurd (none-some r (sym is))

  pub stored_so : (given : Answer K V E) (entry : Entry K V) → Some entry ≡ stored_in given → Values given → P entry.value
  stored_so (answer.Computed (done.Inserted made)) entry is so = so entry.value (ap (λ (x : Entry K V). Some x.value) (sym (same_Some entry made is)))
  stored_so (answer.Computed (done.ReplacedWith made)) entry is so = so entry.value (ap (λ (x : Entry K V). Some x.value) (sym (same_Some entry made is)))
  stored_so (answer.Computed (done.Removed made)) entry is so = absurd (none-some entry (sym is))
  stored_so (answer.Computed (done.Unchanged made)) entry is so = absurd (none-some entry (sym is))
  stored_so (answer.Computed (done.StillNone key)) entry is so = absurd (none-some entry (sym is))
  stored_so _ entry is so = absurd (none-some entry (sym is))
