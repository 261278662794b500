-- Steps that leave all words, pairs and entries.
use Rattle.std.proofs.Common.{◌≡◌, ℕ, ◌≤◌, Bool, List, Option, Some, refl, sym, ap, ◌∙◌, arith}
use Rattle.std.specs.Cmp.{IsEquivalence}
use Rattle.std.specs.List.{slice_get}
use Rattle.moka_words.specs.Words.{node_of, word_at}
use Rattle.moka_growth.specs.Maps.{IsElsewhere}
use Rattle.moka_pairs.specs.Keys.{Agrees, Respects}
use Rattle.moka_pairs.proofs.Names.{agrees_now}
use Rattle.moka_history.specs.Entries.{Entry}
use Rattle.moka_words.specs.declared.words.Word.{Word}
use Rattle.moka_history.specs.States.{Owner, Bucket, Ticket, Array, Row, Next, Root, Plan, State, memory_of, words_in}
use Rattle.moka_history.specs.Rules.{AreLinked, IsOwned, IsDrawn, IsGood, IsRowStill, Lasts}
use Rattle.moka_history.proofs.Owners.{Stays}
use Rattle.moka_history.proofs.Resting.{rests_sound, rests_later, rests_map}
use Rattle.moka_history.proofs.Rooted.{was_rooted}

-- the state with other plans and cells
abbrev pub quiet : {K V : Type 0} → State K V → (last : ℕ) → (ℕ → Option Plan) → List Owner → State K V
quiet s last plans cells = record s { last = last; plans = plans; cells = cells }

module _ {K V : Type 0} (eq : K → K → Bool) (laws : IsEquivalence eq) (hash place : K → ℕ) (respects : Respects eq hash)
    (s : State K V) (es : List (Entry K V)) (good : IsGood eq hash place s es) (last : ℕ) (plans : ℕ → Option Plan) (cells : List Owner)
    (words : (a : ℕ) → words_in (quiet s last plans cells) a ≡ words_in s a) (low : s.last ≤ last) where
  abbrev new : State K V
  new = quiet s last plans cells

  elsewhere : (i : ℕ) → IsElsewhere (memory_of s i) (memory_of new i)
  elsewhere i = record { words = λ p a e. words a; arrays = refl; rooted = refl; fresh = omega (arith, low) }

  pub quiet_good : IsOwned new → IsDrawn new es → AreLinked new → IsGood eq hash place new es
  quiet_good owned drawn linked = record {
    owned = owned;
    drawn = drawn;
    linked = linked;
    sound = λ i below. rests_sound eq laws hash place respects s new (agrees_now s.pairs) i (good.sound i below) (elsewhere i);
    puts = λ i a index n p r named at. good.puts i a index n p (was_rooted s new i a refl refl refl r)
        (sym (ap (λ ws. node_of (word_at ws index)) (words a)) ∙ named) at;
    legal = good.legal;
    map_is = λ q below. good.map_is q below
        ∙ sym (rests_map eq laws hash place respects s new (agrees_now s.pairs) (place q) (good.sound (place q) below) (elsewhere (place q)) q);
  }

  pub quiet_lasts : Agrees plans s.plans → Stays Ticket s.cells cells → Stays Array s.cells cells →
      ((k n : ℕ) (b : Bool) → slice_get s.cells k ≡ Some (Row n b) → IsRowStill new k n b) →
      ((k : ℕ) (w : Word) → slice_get s.cells k ≡ Some (Bucket w) → (v : Word) × (slice_get cells k ≡ Some (Bucket v))) →
      ((k a t : ℕ) → slice_get s.cells k ≡ Some (Next a t) → (u : ℕ) × (slice_get cells k ≡ Some (Next a u))) →
      ((k i t : ℕ) → slice_get s.cells k ≡ Some (Root i t) → (u : ℕ) × (slice_get cells k ≡ Some (Root i u))) → Lasts eq place s new
  quiet_lasts grows tickets announced rows buckets nexts roots = record {
    segments = refl;
    last = low;
    arrays = λ a i k e. e;
    tickets = tickets;
    announced = announced;
    rows = rows;
    buckets = buckets;
    nexts = nexts;
    roots = roots;
    pairs = agrees_now s.pairs;
    plans = grows;
    later = λ i below. rests_later eq laws hash place respects s new (agrees_now s.pairs) i (good.sound i below) (elsewhere i);
  }
