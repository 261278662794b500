-- What keys of numbers say of hashes and of each other, as the laws of growth ask for.
use Rattle.std.proofs.Common.{◌≡◌, ℕ, Bool, true, false, Option, Some, None, refl, sym, ap, subst, ◌∙◌}
use Rattle.std.proofs.lemmas.Bool.{false≢true}
use Rattle.std.specs.Cmp.{IsEquivalence}
use Rattle.std.specs.Option.{option_map_or, is_some}
use Rattle.moka_words.specs.Words.{NamesKeys}
use Rattle.moka_words.specs.Later.{IsOwn}
use Rattle.moka_growth.specs.Calls.{Call}
use Rattle.moka_growth.specs.Fits.{IsKey}
use Rattle.moka_pairs.specs.Keys.{Agrees, Respects, is_one_key, hash_by, same_by, own_by, own_for, mine_by}
use Rattle.moka_pairs.specs.Segments.{IsHashed}

module _ {K : Type 0} (eq : K → K → Bool) (laws : IsEquivalence eq) (hash : K → ℕ) (respects : Respects eq hash) where
  itself : (o : Option K) → is_one_key eq o o ≡ true
  itself None = refl
  itself (Some k) = laws.refl k

  either_way : (o p : Option K) → is_one_key eq o p ≡ true → is_one_key eq p o ≡ true
  either_way None None e = refl
  either_way None (Some l) e = absurd (false≢true e)
  either_way (Some k) None e = absurd (false≢true e)
  either_way (Some k) (Some l) e = laws.symm l k ∙ e

  through : (o p q : Option K) → is_one_key eq o p ≡ true → is_one_key eq p q ≡ true → is_one_key eq o q ≡ true
  through None None q e f = f
  through None (Some l) q e f = absurd (false≢true e)
  through (Some k) None q e f = absurd (false≢true e)
  through (Some k) (Some l) None e f = absurd (false≢true f)
  through (Some k) (Some l) (Some j) e f = laws.congr k l j e ∙ f

  hashed : (o p : Option K) → is_one_key eq o p ≡ true → option_map_or hash o 0 ≡ option_map_or hash p 0
  hashed None None e = refl
  hashed None (Some l) e = absurd (false≢true e)
  hashed (Some k) None e = absurd (false≢true e)
  hashed (Some k) (Some l) e = respects k l e

  pub names_keys : (keys : ℕ → Option K) → NamesKeys (hash_by hash keys) (same_by eq keys)
  names_keys keys = record {
    itself = λ n. itself (keys n);
    either_way = λ n m. either_way (keys n) (keys m);
    through = λ n m k. through (keys n) (keys m) (keys k);
    hashed = λ n m. hashed (keys n) (keys m);
  }

  module _ (key : K) where
    alike : (o p : Option K) → is_one_key eq o p ≡ true → option_map_or (eq key) o false ≡ option_map_or (eq key) p false
    alike None None e = refl
    alike None (Some l) e = absurd (false≢true e)
    alike (Some k) None e = absurd (false≢true e)
    alike (Some k) (Some l) e = laws.symm key k ∙ (laws.congr k l key e ∙ laws.symm l key)

    one : (o p : Option K) → option_map_or (eq key) o false ≡ true → option_map_or (eq key) p false ≡ true → is_one_key eq o p ≡ true
    one None p e f = absurd (false≢true e)
    one (Some k) None e f = absurd (false≢true f)
    one (Some k) (Some l) e f = sym (laws.congr key k l e) ∙ f

    own_hash : (o : Option K) → option_map_or (eq key) o false ≡ true → option_map_or hash o 0 ≡ hash key
    own_hash None e = absurd (false≢true e)
    own_hash (Some k) e = sym (respects key k e)

    own_mine : (o : Option K) → option_map_or (eq key) o false ≡ true → is_some o ≡ true
    own_mine None e = absurd (false≢true e)
    own_mine (Some k) e = refl

    pub is_own : (keys : ℕ → Option K) → IsOwn (same_by eq keys) (own_by eq keys key)
    is_own keys = record { alike = λ n m. alike (keys n) (keys m); one = λ n m. one (keys n) (keys m) }

    pub is_key : (keys : ℕ → Option K) → IsKey (hash_by hash keys) (same_by eq keys) (mine_by keys) (own_by eq keys key) (hash key)
    is_key keys = record {
      one = is_own keys;
      hashed = λ n. own_hash (keys n);
      of_segment = λ n. own_mine (keys n);
    }

  -- no number has the key of a call without one
  no_key : (keys : ℕ → Option K) (h : ℕ) → IsKey (hash_by hash keys) (same_by eq keys) (mine_by keys) (own_for eq keys None) h
  no_key keys h = record {
    one = record { alike = λ n m e. refl; one = λ n m e f. absurd (false≢true e) };
    hashed = λ n e. absurd (false≢true e);
    of_segment = λ n e. absurd (false≢true e);
  }

  -- the numbers of the key of a call, if it has one
  pub is_key_for : (keys : ℕ → Option K) (key : Option K) (c : Call) → IsHashed hash key c →
      IsKey (hash_by hash keys) (same_by eq keys) (mine_by keys) (own_for eq keys key) c.hash
  is_key_for keys None c hashed = no_key keys c.hash
  is_key_for keys (Some key) c hashed = subst (λ h. IsKey (hash_by hash keys) (same_by eq keys) (mine_by keys) (own_by eq keys key) h)
      (sym (hashed key refl)) (is_key key keys)

-- a call has the hash of its key
pub hashed_by : {K : Type 0} (hash : K → ℕ) (key : K) (c : Call) → c.hash ≡ hash key → IsHashed hash (Some key) c
hashed_by {K} hash key c is k e = is ∙ ap hash (one e)
  where
    one : {x y : K} → Some x ≡ Some y → x ≡ y
    one d = cc

-- the keys that are known agree with themselves, and with fewer
pub agrees_now : {A : Type 0} (known : ℕ → Option A) → Agrees known known
agrees_now known n a e = e

pub agrees_through : {A : Type 0} (most more known : ℕ → Option A) → Agrees most more → Agrees more known → Agrees most known
agrees_through most more known f g n a e = f n a (g n a e)

module _ {K : Type 0} (known keys : ℕ → Option K) (agrees : Agrees keys known) where
  -- the hash that a number has whose key is known
  pub hash_seen : (hash : K → ℕ) (o : Option ℕ) (n : ℕ) (k : K) → o ≡ Some n → known n ≡ Some k → hash k ≡ option_map_or (hash_by hash keys) o 0
  hash_seen hash o n k is there = sym (ap (λ x. option_map_or hash x 0) (agrees n k there)) ∙ sym (ap (λ p. option_map_or (hash_by hash keys) p 0) is)

  never : (o : Option ℕ) → false ≡ option_map_or (λ m. false) o false
  never None = refl
  never (Some m) = refl

  -- and whether its key is the call's
  pub own_seen : (eq : K → K → Bool) (key : Option K) (o : Option ℕ) (n : ℕ) (k : K) → o ≡ Some n → known n ≡ Some k →
      option_map_or (λ q. eq q k) key false ≡ option_map_or (own_for eq keys key) o false
  own_seen eq None o n k is there = never o
  own_seen eq (Some key) o n k is there =
      sym (ap (λ x. option_map_or (eq key) x false) (agrees n k there)) ∙ sym (ap (λ p. option_map_or (own_by eq keys key) p false) is)
