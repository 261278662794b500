-- What accesses leave is later.
use Rattle.std.proofs.Common.{◌≡◌, ℕ, ◌+◌, ◌<◌, Bool, List, [], ◌∷◌, ◌++◌, length, Option, Some, None, zero, suc, inl, inr, sym, ap, subst, ◌∙◌, arith, length-append}
use Rattle.std.specs.List.{slice_get}
use Rattle.std.proofs.lemmas.Bool.{cases_eq}
use Rattle.moka_words.specs.declared.words.Word.{Word}
use Rattle.moka_words.specs.declared.words.Word.TheVariants.{Unset}
use Rattle.moka_words.specs.declared.accesses.Access.{Access}
use Rattle.moka_words.specs.declared.accesses.Access.TheVariants as access
use Rattle.moka_words.specs.declared.accesses.Seen.{Seen}
use Rattle.moka_words.specs.declared.accesses.Seen.TheVariants as seen
use Rattle.moka_words.specs.Words.{word_at, is_sealed, node_of, NamesKeys}
use Rattle.moka_words.specs.Later.{Later, LaterWords}
use Rattle.moka_words.specs.Effect.{Memory, array_at, KeepsArrays, IsUnchanged, SetsWord, Links, Linked, Swings, Effect, IsForLater, LaterMemory}
use Rattle.moka_words.proofs.Lasts.{words_itself, set_later}

-- an array at a place stands there also in a longer list
pub more_arrays : (xs ys : List ℕ) (place a : ℕ) → slice_get xs place ≡ Some a → slice_get (xs ++ ys) place ≡ Some a
more_arrays [] ys place a e = absurd (cc e)
more_arrays (x ∷ xs) ys zero a e = e
more_arrays (x ∷ xs) ys (suc place) a e = more_arrays xs ys place a e

-- another word for an unset one is later
pub unset_later : (same : ℕ → ℕ → Bool) (w to : Word) → w ≡ Unset → Later same w to
unset_later same w to e = record {
  key = λ n d. absurd (cc (sym (ap node_of e) ∙ d));
  set = λ d. e;
  sealed = λ d. absurd (cc (sym (ap is_sealed e) ∙ d));
}

module _ {hash : ℕ → ℕ} (same : ℕ → ℕ → Bool) (names : NamesKeys hash same) where
  -- the same words
  same_words : (old new : List Word) → new ≡ old → LaterWords same old new
  same_words old new e = subst (λ ws. LaterWords same old ws) (sym e) (words_itself same names old)

  kept_later : (old new : Memory) → ((a : ℕ) → a < old.fresh → LaterWords same (old.words a) (new.words a)) →
      KeepsArrays old new → LaterMemory same old new
  kept_later old new words keeps =
      let counted : length new.arrays ≡ length old.arrays = ap (λ xs. length xs) keeps.arrays in
      let roots = keeps.rooted in
      let numbers = keeps.fresh in
      record {
        words = λ place a e. words a;
        arrays = λ place a e. ap (λ xs. slice_get xs place) keeps.arrays ∙ e;
        longer = omega arith;
        rooted = omega arith;
        fresh = omega arith;
      }

  pub unchanged_later : (old new : Memory) → IsUnchanged old new → LaterMemory same old new
  unchanged_later old new stays = kept_later old new (λ a h. same_words (old.words a) (new.words a) (stays.0 a)) stays.1

  pub set_word_later : (array index : ℕ) (w : Word) (old new : Memory) → Later same (word_at (old.words array) index) w →
      SetsWord array index w old new → LaterMemory same old new
  set_word_later array index w old new later sets = kept_later old new words sets.2
    where
      words : (a : ℕ) → a < old.fresh → LaterWords same (old.words a) (new.words a)
      words a h = elim (cases_eq a array) [ inl e ↦ here e | inr e ↦ same_words (old.words a) (new.words a) (sets.1 a e) ]
        where
          here : a ≡ array → LaterWords same (old.words a) (new.words a)
          here e = subst (λ b. LaterWords same (old.words b) (new.words b)) (sym e)
              (subst (λ ws. LaterWords same (old.words array) ws) (sym sets.0)
              (set_later same names (old.words array) index w later))

  pub links_later : (size : ℕ) (old new : Memory) → Links size old new → LaterMemory same old new
  links_later size old new links =
      let counted : length new.arrays ≡ length old.arrays + 1 =
      ap (λ xs. length xs) links.arrays ∙ length-append old.arrays (old.fresh ∷ []) in
      let roots = links.rooted in
      let numbers = links.fresh in
      record {
        words = λ place a e h. same_words (old.words a) (new.words a) (links.others a (λ e. absurd (omega arith)));
        arrays = λ place a e. ap (λ xs. slice_get xs place) links.arrays ∙ more_arrays old.arrays (old.fresh ∷ []) place a e;
        longer = omega arith;
        rooted = omega arith;
        fresh = omega arith;
      }

  pub swings_later : (old new : Memory) → Swings old new → LaterMemory same old new
  swings_later old new swings =
      let counted : length new.arrays ≡ length old.arrays = ap (λ xs. length xs) swings.arrays in
      let roots = swings.rooted in
      let numbers = swings.fresh in
      record {
        words = λ place a e h. same_words (old.words a) (new.words a) (swings.words a);
        arrays = λ place a e. ap (λ xs. slice_get xs place) swings.arrays ∙ e;
        longer = omega arith;
        rooted = omega arith;
        fresh = omega arith;
      }

  linked_later : (o : Option ℕ) (asked array size : ℕ) (old new : Memory) → Linked o asked array size old new →
      LaterMemory same old new
  linked_later None asked array size old new e = links_later asked old new e.2
  linked_later (Some a) asked array size old new e = unchanged_later old new e.2

pub effect_later : (hash : ℕ → ℕ) (same : ℕ → ℕ → Bool) (own : ℕ → Bool) (access : Access) (seen : Seen)
    (old new : Memory) → NamesKeys hash same → IsForLater same access → Effect hash own access seen old new →
    LaterMemory same old new
effect_later hash same own access.LoadRoot (seen.Root a l t k) old new names later e =
    unchanged_later same names old new e.4
effect_later hash same own (access.LoadWord a i) (seen.Word w h s) old new names later e =
    unchanged_later same names old new e.3
effect_later hash same own (access.Choose p) (seen.Chosen c) old new names later e =
    unchanged_later same names old new e
effect_later hash same own (access.Exchange a i from to) (seen.Exchanged None) old new names later e =
    set_word_later same names a i to old new (subst (λ w. Later same w to) (sym e.0) later) e.1
effect_later hash same own (access.Exchange a i from to) (seen.Exchanged (Some met)) old new names later e =
    unchanged_later same names old new e.2
effect_later hash same own (access.LoadNext a) (seen.Next n l) old new names later e =
    unchanged_later same names old new e.4
effect_later hash same own (access.Link a l) (seen.Linked n k) old new names later e =
    linked_later same names (array_at old e.0) l n k old new e.2
effect_later hash same own (access.Copy a i to) seen.Copied old new names later (inl e) =
    set_word_later same names a i to old new (unset_later same (word_at (old.words a) i) to e.0) e.1
effect_later hash same own (access.Copy a i to) seen.Copied old new names later (inr e) =
    unchanged_later same names old new e.1
effect_later hash same own (access.Swing from to) seen.Swung old new names later (inl e) =
    swings_later same names old new e.2
effect_later hash same own (access.Swing from to) seen.Swung old new names later (inr e) =
    unchanged_later same names old new e.1
effect_later hash same own access seen old new names later e = absurd e
