-- Keys that are always filled under the hash that is their own.
use Rattle.std.proofs.Common.{◌≡◌, ℕ, Bool, true, false, cond, Option, Some, None, Result, Ok, Err, IfOk, OnErr, refl, sym, ap, ◌∙◌, subst}
use denote.Ref.{Bor}
use Rattle.std.specs.Fn.{Mut}
use Rattle.std.specs.Option.{IfSome}
use Rattle.std.specs.Result.{is_ok}
use Rattle.std.proofs.lemmas.Bool.{false≢true}
use Rattle.std.specs.declared.alloc.AllocError.{AllocError}
use Rattle.moka_cht.specs.declared.insertion.Insertion.{Insertion}
use Rattle.moka_cht.specs.declared.insertion.Insertion.TheVariants.{Inserted, ReplacedTombstone, AlreadyPresent, NoFree}
use Rattle.moka_cht.specs.Buckets.{Buckets, IsHashOf, filled}
use Rattle.moka_cht.specs.Calls.{Inserts, KeepsPresent, Modifies, Puts, Removes}

module _ {K V : Type 0} (eq : K → K → Bool) (h : K → ℕ) (respects : (k q : K) → eq k q ≡ true → h k ≡ h q) where
  -- each key that has a bucket was filled under its own hash
  abbrev pub Follows : Buckets K V → Type 0
  Follows b = (q : K) → IsHashOf eq b q (h q)

  pub follows_puts : (hash : ℕ) (key : K) (value : V) (old new : Buckets K V) → hash ≡ h key → Puts eq hash key value old new → Follows old → Follows new
  follows_puts hash key value old new is puts follows q = subst (λ o. IfSome o (λ x. x ≡ h q)) (sym (puts.hashes q)) (by (eq key q) refl)
    where
      by : (b : Bool) → eq key q ≡ b → IfSome (cond (eq key q) (Some hash) (filled eq old q)) (λ x. x ≡ h q)
      by true same = subst (λ b. IfSome (cond b (Some hash) (filled eq old q)) (λ x. x ≡ h q)) (sym same) (is ∙ respects key q same)
      by false apart = subst (λ b. IfSome (cond b (Some hash) (filled eq old q)) (λ x. x ≡ h q)) (sym apart) (follows q)

  pub follows_inserts : (hash : ℕ) (key : K) (value : V) (present : K × V → V → Buckets K V → Type 0) (old new : Buckets K V) → hash ≡ h key →
      ((pair : K × V) (v : V) → present pair v new → Follows new) → Follows old →
      (r : Result (Insertion V) AllocError) → IfOk r (λ x. Inserts eq hash key value present old x new) → OnErr r (new ≡ old) → Follows new
  follows_inserts hash key value present old new is kept follows (Ok Inserted) done err = follows_puts hash key value old new is done.1 follows
  follows_inserts hash key value present old new is kept follows (Ok ReplacedTombstone) done err = follows_puts hash key value old new is done.2 follows
  follows_inserts hash key value present old new is kept follows (Ok (AlreadyPresent v)) done err = kept done.0 v done.2
  follows_inserts hash key value present old new is kept follows (Ok (NoFree v)) done err = subst Follows (sym done.3) follows
  follows_inserts hash key value present old new is kept follows (Err e) done err = subst Follows (sym err) follows

  pub follows_keeps : (hash : ℕ) (key : K) (value : V) (is_clone : V → V → Type 0) (old new : Buckets K V) → hash ≡ h key → Follows old →
      (r : Result (Insertion V) AllocError) → IfOk r (λ x. Inserts eq hash key value (KeepsPresent is_clone old) old x new) → OnErr r (new ≡ old) → Follows new
  follows_keeps hash key value is_clone old new is follows r done err =
      follows_inserts hash key value (KeepsPresent is_clone old) old new is (λ pair v kept. subst Follows (sym kept.1) follows) follows r done err

  pub follows_modifies : {F : Type 0} (g : Mut F (Bor K × (Bor V × Unit {0})) V) (f : F) (hash : ℕ) (key : K) (value : V) (old new : Buckets K V) → hash ≡ h key → Follows old →
      (r : Result (Insertion V) AllocError) → IfOk r (λ x. Inserts eq hash key value (Modifies g f eq hash key old) old x new) → OnErr r (new ≡ old) → Follows new
  follows_modifies g f hash key value old new is follows r done err =
      follows_inserts hash key value (Modifies g f eq hash key old) old new is (λ pair v kept. follows_puts hash key kept.1.0 old new is kept.1.2 follows) follows r done err

  pub follows_removes : {F : Type 0} (g : Mut F (Bor K × (Bor V × Unit {0})) Bool) (f : F) (q : K) (old new : Buckets K V) → Follows old → (r : Option V) → Removes g f eq q old r new → Follows new
  follows_removes g f q old new follows None done = subst Follows (sym done.0) follows
  follows_removes g f q old new follows (Some v) done = λ x. subst (λ o. IfSome o (λ y. y ≡ h x)) (sym (done.2 x)) (follows x)

  pub follows_removes_ok : {F : Type 0} (g : Mut F (Bor K × (Bor V × Unit {0})) Bool) (f : F) (q : K) (old new : Buckets K V) → Follows old → (r : Result (Option V) AllocError) → is_ok r ≡ true →
      IfOk r (λ v. Removes g f eq q old v new) → Follows new
  follows_removes_ok g f q old new follows (Ok v) ok done = follows_removes g f q old new follows v done
  follows_removes_ok g f q old new follows (Err e) ok done = absurd (false≢true ok)
