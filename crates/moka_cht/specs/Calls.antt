-- The calls of an array: what they ask, what they answer, and what they leave.
use Rattle.std.specs.Prelude.{◌≡◌, ℕ, ◌⊎◌, Bool, true, false, List, [], ◌∷◌, Option, Some, None, IsSome}
use denote.Ref.{Bor}
use Rattle.std.specs.Fn.{Mut, Called, ComputesKey}
use Rattle.moka_hist.specs.Finite.{put_key}
use Rattle.moka_words.specs.Effect.{Effect, alone}
use Rattle.moka_words.specs.declared.words.Word.{Word}
use Rattle.moka_words.specs.declared.words.Word.TheVariants.{Empty, Live, Tomb}
use Rattle.moka_words.specs.declared.accesses.Access.TheVariants as access
use Rattle.moka_words.specs.declared.accesses.Seen.TheVariants as seen
use Rattle.moka_cht.specs.declared.insertion.Insertion.{Insertion}
use Rattle.moka_cht.specs.declared.insertion.Insertion.TheVariants.{Inserted, ReplacedTombstone, AlreadyPresent, NoFree}
use Rattle.moka_cht.specs.Nodes.{node_hash, own_key}
use Rattle.moka_cht.specs.Buckets.{Buckets, HasNoEmpty, IsHashOf, filled, stored}

-- a call of f at a `&` to x and one to y gives r, and leaves f'
pub record CalledOnPair {F A B R : Type 0} (g : Mut F (Bor A × (Bor B × Unit {0})) R) (f : F)
    (x : A) (y : B) (r : R) (f' : F) : Type 0 where
  pub first : Bor A
  pub second : Bor B
  pub shows_first : first.now ≡ x
  pub shows_second : second.now ≡ y
  pub called : Called g f (first, (second, tt)) r f'

-- some call of f on the pair gives r
abbrev pub AnswersPair : {F A B R : Type 0} → Mut F (Bor A × (Bor B × Unit {0})) R → F → A → B → R →
    Type 0
AnswersPair {F} g f x y r = (f' : F) × CalledOnPair g f x y r f'

-- calls of f at the elements, one after the other, give these, and leave it so
abbrev pub CallsEach : {F A R : Type 0} → Mut F (Bor A × Unit {0}) R → F → List A → List R → F →
    Type 0
CallsEach g f [] [] last = last ≡ f
CallsEach {F} {A} g f (x ∷ xs) (r ∷ rs) last =
    (shown : Bor A) × (f' : F) × (shown.now ≡ x) × Called g f (shown, tt) r f' ×
    CallsEach g f' xs rs last
CallsEach g f [] (r ∷ rs) last = ⊥
CallsEach g f (x ∷ xs) [] last = ⊥

-- they give these
abbrev pub ListsCalls : {F A R : Type 0} → Mut F (Bor A × Unit {0}) R → F → List A → List R → Type 0
ListsCalls {F} g f xs rs = (last : F) × CallsEach g f xs rs last

-- the test is true of this key alone, and the hash is that under which the key's bucket was filled
pub record Asks {F K V : Type 0} (g : Mut F (Bor K × Unit {0}) Bool) (eq : K → K → Bool)
    (b : Buckets K V) (hash : ℕ) (f : F) (q : K) : Type 0 where
  pub computes : ComputesKey g (eq q) f
  pub hashed : IsHashOf eq b q hash

module _ {K V : Type 0} where
  -- one word was exchanged, and no other has changed
  pub record Exchanges (eq : K → K → Bool) (q : K) (from to : Word) (old new : Buckets K V)
      : Type 0 where
    pub index : ℕ
    pub effect : Effect (node_hash old.nodes) (own_key eq old.nodes q)
        (access.Exchange 0 index from to) (seen.Exchanged None) (alone old.words) (alone new.words)

  -- the pair stands under its key, whose bucket was filled under the hash; other keys are as before
  pub record Puts (eq : K → K → Bool) (hash : ℕ) (key : K) (value : V) (old new : Buckets K V)
      : Type 0 where
    pub pairs : (q : K) → stored eq new q ≡ put_key eq (stored eq old) key (Some (key, value)) q
    pub hashes : (q : K) → filled eq new q ≡ put_key eq (filled eq old) key (Some hash) q

  -- What an insert answers, and what it leaves. `present` says both where the key is present with
  -- this pair.
  abbrev pub Inserts : (K → K → Bool) → (hash : ℕ) → K → V →
      (present : K × V → V → Buckets K V → Type 0) → (old : Buckets K V) → Insertion V →
      (new : Buckets K V) → Type 0
  Inserts eq hash key value present old Inserted new =
      (filled eq old key ≡ None) × Puts eq hash key value old new ×
      ((n : ℕ) × Exchanges eq key Empty (Live n) old new)
  Inserts eq hash key value present old ReplacedTombstone new =
      IsSome (filled eq old key) × (stored eq old key ≡ None) × Puts eq hash key value old new
      × ((m n : ℕ) × Exchanges eq key (Tomb m) (Live n) old new)
  Inserts eq hash key value present old (AlreadyPresent v) new =
      (pair : K × V) × (stored eq old key ≡ Some pair) × present pair v new
  Inserts eq hash key value present old (NoFree v) new =
      (filled eq old key ≡ None) × HasNoEmpty old × (v ≡ value) × (new ≡ old)

  -- the one that comes only where the key is absent
  abbrev pub NeverPresent : K × V → V → Buckets K V → Type 0
  NeverPresent pair v new = ⊥

  -- the insert that keeps what is present, and answers a clone of it
  abbrev pub KeepsPresent : (V → V → Type 0) → Buckets K V → K × V → V → Buckets K V → Type 0
  KeepsPresent is_clone old pair v new = is_clone pair.1 v × (new ≡ old)

  -- the one that stores what f makes of it, and answers what was there
  abbrev pub Modifies : {F : Type 0} → Mut F (Bor K × (Bor V × Unit {0})) V → F → (K → K → Bool) →
      (hash : ℕ) → K → Buckets K V → K × V → V → Buckets K V → Type 0
  Modifies g f eq hash key old pair v new =
      (v ≡ pair.1) × ((modified : V) × AnswersPair g f pair.0 pair.1 modified ×
      Puts eq hash key modified old new)
      × ((m n : ℕ) × Exchanges eq key (Live m) (Live n) old new)

  -- What a removal answers of the key, and what it leaves.
  abbrev pub Removes : {F : Type 0} → Mut F (Bor K × (Bor V × Unit {0})) Bool → F → (K → K → Bool) →
      K → (old : Buckets K V) → Option V → (new : Buckets K V) → Type 0
  Removes g f eq q old None new =
      (new ≡ old) × ((stored eq old q ≡ None) ⊎
      ((pair : K × V) × (stored eq old q ≡ Some pair) × AnswersPair g f pair.0 pair.1 false))
  Removes g f eq q old (Some v) new =
      ((pair : K × V) × (stored eq old q ≡ Some pair) × (v ≡ pair.1) ×
      AnswersPair g f pair.0 pair.1 true)
      × ((x : K) → stored eq new x ≡ put_key eq (stored eq old) q None x)
      × ((x : K) → filled eq new x ≡ filled eq old x)
      × ((n : ℕ) × Exchanges eq q (Live n) (Tomb n) old new)
