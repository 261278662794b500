-- Whole steps of calls, and many of them in any order.
use Rattle.std.proofs.Common.{◌≡◌, ◌≢◌, ℕ, ◌<◌, ◌≤◌, Bool, List, [], ◌∷◌, Option, Some, None, inl, inr, refl, sym, ap, subst, ◌∙◌, arith}
use Rattle.std.proofs.lemmas.Bool.{cases_eq}
use Rattle.std.proofs.lemmas.List.Sorted.{IsPermutation-sym, IsPermutation-trans, Contains-permutation, length_permutation}
use Rattle.moka_words.specs.declared.words.Word.{Word}
use Rattle.moka_words.specs.declared.words.Word.TheVariants.{Unset, Empty, Live, Tomb, SealedEmpty, SealedLive, SealedTomb}
use Rattle.moka_words.specs.declared.accesses.Choice.{Choice}
use Rattle.moka_words.specs.declared.accesses.Choice.TheVariants as choice
use Rattle.moka_words.specs.declared.accesses.Seen.{Seen}
use Rattle.moka_words.specs.declared.accesses.Seen.TheVariants as seen
use Rattle.moka_words.specs.Words.{NamesKeys}
use Rattle.moka_words.specs.Effect.{Memory, root, words_of, Effect, LaterMemory}
use Rattle.moka_words.proofs.Laying.{stored_contains, contains_stored}
use Rattle.moka_growth.specs.Sound.{IsSound}
use Rattle.moka_growth.specs.Calls.{Point, Call, Ending, Step, Going, Decided, wanted, access_of, next_of, goes, removed, chosen, call_from}
use Rattle.moka_growth.specs.Calls as call
use Rattle.moka_growth.specs.Fits.{IsKey, Fits, Rests}
use Rattle.moka_growth.specs.Maps.{present_nodes, IsPresent, KeepsMap, Finds, Ends, IsChoice}
use Rattle.moka_growth.specs.Left.{IsShort, left}
use Rattle.moka_growth.specs.Turns.{Leads, IsRested, Plainly, Asking, Turn, Scene, IsGood, Begins, goes_to, Moves, Aside, Happens, Begun, Moved, Passed, Happen, AreGood}
use Rattle.moka_growth.specs.Laws.{Makes}
use Rattle.moka_growth.proofs.Accessing.{access_keeps_sound, access_is_later}
use Rattle.moka_growth.proofs.Lasts.{later_memory_goes_on, fits_lasts}
use Rattle.moka_growth.proofs.Elsewhere.{elsewhere_sound, elsewhere_later}
use Rattle.moka_growth.proofs.Stepping.{fits_goes_on, going_keeps_map, ending_is_maps}
use Rattle.moka_growth.proofs.Shortness.{short_stays}
use Rattle.moka_growth.proofs.Lowered.{left_falls}
use Rattle.moka_growth.proofs.Staying.{stays_leads}

-- a call that rests is not answered what is to be done
no_choice : (hash : ℕ → ℕ) (own : ℕ → Bool) (h : ℕ) (old new : Memory) (p : Point) (s : Seen) → Rests p →
    Effect hash own (wanted h p) s old new → IsChoice own s
no_choice hash own h old new (call.Choose a l v w) s rests e = absurd rests
no_choice hash own h old new (call.Root met) (seen.Root a l t k) rests e = tt
no_choice hash own h old new (call.Probe a l v) (seen.Word w x s) rests e = tt
no_choice hash own h old new (call.Change a l v from to) (seen.Exchanged met) rests e = tt
no_choice hash own h old new (call.Walk a l i nodes) (seen.Word w x s) rests e = tt
no_choice hash own h old new (call.Seal a l i kept) (seen.Word w x s) rests e = tt
no_choice hash own h old new (call.Close a l i w x kept) (seen.Exchanged met) rests e = tt
no_choice hash own h old new (call.Next o l kept) (seen.Next next k) rests e = tt
no_choice hash own h old new (call.Link o l kept) (seen.Linked next k) rests e = tt
no_choice hash own h old new (call.Copy from a i laid) seen.Copied rests e = tt
no_choice hash own h old new (call.Swing from a) seen.Swung rests e = tt
no_choice hash own h old new p s rests e = absurd e

-- what the answer leads to depends on the point that the call stands at not at all
chosen_same : (c : Call) (p : Point) (a l v : ℕ) (w : Word) (x : Choice) → chosen (record c { point = p }) a l v w x ≡ chosen c a l v w x
chosen_same c p a l v w choice.Keep = refl
chosen_same c p a l v w (choice.Put n) = refl
chosen_same c p a l v w choice.Remove = by w
  where
    by : (w : Word) → removed (record c { point = p }) a l v w ≡ removed c a l v w
    by Unset = refl
    by Empty = refl
    by (Live n) = refl
    by (Tomb n) = refl
    by SealedEmpty = refl
    by (SealedLive n) = refl
    by (SealedTomb n) = refl

-- it is a change, or the call ends as it found its key
abbrev IsAsFound : Ending → Type 0
IsAsFound (call.Kept found) = Unit {0}
IsAsFound (call.Changed found) = ⊥
IsAsFound (call.Nodes nodes) = ⊥

chosen_leads : (c : Call) (a l v : ℕ) (w : Word) (x : Choice) → Leads (chosen c a l v w x) (λ d. Rests d.point) IsAsFound
chosen_leads c a l v w choice.Keep = tt
chosen_leads c a l v w (choice.Put n) = tt
chosen_leads c a l v w choice.Remove = by w
  where
    by : (w : Word) → Leads (removed c a l v w) (λ d. Rests d.point) IsAsFound
    by Unset = tt
    by Empty = tt
    by (Live n) = tt
    by (Tomb n) = tt
    by SealedEmpty = tt
    by (SealedLive n) = tt
    by (SealedTomb n) = tt

-- what is present in one memory is in another with the same map
present_kept : (old new : Memory) (n : ℕ) → KeepsMap old new → IsPresent old n → IsPresent new n
present_kept old new n keeps p = contains_stored (words_of new (root new)) n
    (Contains-permutation (present_nodes old) (present_nodes new) n keeps (stored_contains (words_of old (root old)) p.0 n p.1))

finds_kept : (own : ℕ → Bool) (old new : Memory) → KeepsMap old new → (o : Option ℕ) → Finds own new o → Finds own old o
finds_kept own old new keeps None f = λ n p. f n (present_kept old new n keeps p)
finds_kept own old new keeps (Some n) f =
    (present_kept new old n (IsPermutation-sym (present_nodes old) (present_nodes new) keeps) f.0, f.1)

keeps_on : (old mid new : Memory) → KeepsMap old mid → KeepsMap mid new → KeepsMap old new
keeps_on old mid new a b = IsPermutation-trans (present_nodes old) (present_nodes mid) (present_nodes new) a b

ends_as_found : (own : ℕ → Bool) (p q : Point) (old mid new : Memory) → KeepsMap old mid → (e : Ending) → IsAsFound e →
    Ends own p e mid new → Ends own q e old new
ends_as_found own p q old mid new keeps (call.Kept found) as_found ends =
    (finds_kept own old mid keeps found ends.0, keeps_on old mid new keeps ends.1)
ends_as_found own p q old mid new keeps (call.Changed found) as_found ends = absurd as_found
ends_as_found own p q old mid new keeps (call.Nodes nodes) as_found ends = absurd as_found

module _ {hash : ℕ → ℕ} {same : ℕ → ℕ → Bool} {mine own : ℕ → Bool} (names : NamesKeys hash same) (c : Call)
    (key : IsKey hash same mine own c.hash) (old : Memory) (sound : IsSound hash same mine old) (fits : Fits hash own old c)
    (rests : Rests c.point) where
  -- a call that goes on has the same key
  key_stays : (s : Seen) (new : Memory) (d : Call) → Effect hash own (access_of c) s old new → next_of c s ≡ Going d →
      IsKey hash same mine own d.hash
  key_stays s new d effect e =
      let stays = subst (λ step. Leads step (λ d. (d.kind ≡ c.kind) × (d.hash ≡ c.hash)) (λ e. Unit {0})) e
      (stays_leads c hash own old new c.point s effect) in
      subst (λ h. IsKey hash same mine own h) (sym stays.1) key

  makes : (s : Seen) (new : Memory) → Effect hash own (access_of c) s old new → Makes hash same mine own c s old new
  makes s new effect = record {
    names = names;
    key = key;
    sound = sound;
    fits = fits;
    effect = effect;
    choice = no_choice hash own c.hash old new c.point s rests effect;
  }

  -- what a step leaves, whatever the arrays' lengths are
  abbrev Kept : Memory → Step → Type 0
  Kept new step = IsSound hash same mine new × LaterMemory same old new
      × Leads step (λ d. IsKey hash same mine own d.hash × Fits hash own new d × Rests d.point × KeepsMap old new)
      (λ e. Ends own c.point e old new)

  plainly_kept : (step : Step) (new : Memory) → Plainly hash own c old step new → Kept new step
  plainly_kept step new p =
      let m = makes p.saw new p.effect in
      (access_keeps_sound hash same mine own c p.saw old new m, access_is_later hash same mine own c p.saw old new m, by step p.leads p.rested)
    where
      by : (step : Step) → next_of c p.saw ≡ step → IsRested step →
          Leads step (λ d. IsKey hash same mine own d.hash × Fits hash own new d × Rests d.point × KeepsMap old new)
          (λ e. Ends own c.point e old new)
      by (Going d) e rested = (
        key_stays p.saw new d p.effect e,
        fits_goes_on hash same mine own c d p.saw old new (makes p.saw new p.effect) e,
        rested,
        going_keeps_map hash same mine own c d p.saw old new (makes p.saw new p.effect) e,
      )
      by (Decided x) e rested = ending_is_maps hash same mine own c x p.saw old new (makes p.saw new p.effect) e

  -- the call that asks
  abbrev Asker : (step : Step) (new : Memory) → Asking hash own c old step new → Call
  Asker step new a = record c { point = call.Choose a.array a.size a.passed a.found }

  first_kept : (step : Step) (new : Memory) (a : Asking hash own c old step new) →
      IsSound hash same mine a.mid × LaterMemory same old a.mid × Fits hash own a.mid (Asker step new a) × KeepsMap old a.mid
  first_kept step new a =
      let m = makes a.saw a.mid a.effect in (
        access_keeps_sound hash same mine own c a.saw old a.mid m,
        access_is_later hash same mine own c a.saw old a.mid m,
        fits_goes_on hash same mine own c (Asker step new a) a.saw old a.mid m a.asks,
        going_keeps_map hash same mine own c (Asker step new a) a.saw old a.mid m a.asks,
      )

  answers : (step : Step) (new : Memory) (a : Asking hash own c old step new) →
      Makes hash same mine own (Asker step new a) (seen.Chosen a.answer) a.mid new
  answers step new a = record {
    names = names;
    key = key;
    sound = (first_kept step new a).0;
    fits = (first_kept step new a).2;
    effect = a.stays;
    choice = a.choice;
  }

  answer_leads : (step : Step) (new : Memory) (a : Asking hash own c old step new) →
      next_of (Asker step new a) (seen.Chosen a.answer) ≡ step
  answer_leads step new a =
      chosen_same c (call.Choose a.array a.size a.passed a.found) a.array a.size a.passed a.found a.answer ∙ a.leads

  asking_kept : (step : Step) (new : Memory) → Asking hash own c old step new → Kept new step
  asking_kept step new a =
      let first = first_kept step new a in
      let m = answers step new a in (
        access_keeps_sound hash same mine own (Asker step new a) (seen.Chosen a.answer) a.mid new m,
        later_memory_goes_on hash same old a.mid new names first.1
            (access_is_later hash same mine own (Asker step new a) (seen.Chosen a.answer) a.mid new m),
        by step a.leads (answer_leads step new a),
      )
    where
      by : (to : Step) → chosen c a.array a.size a.passed a.found a.answer ≡ to →
          next_of (Asker step new a) (seen.Chosen a.answer) ≡ to →
          Leads to (λ d. IsKey hash same mine own d.hash × Fits hash own new d × Rests d.point × KeepsMap old new)
          (λ e. Ends own c.point e old new)
      by (Going d) e next =
          let stays = subst (λ st. Leads st (λ d. (d.kind ≡ c.kind) × (d.hash ≡ c.hash)) (λ e. Unit {0})) next
          (stays_leads (Asker step new a) hash own a.mid new (call.Choose a.array a.size a.passed a.found) (seen.Chosen a.answer) a.stays) in (
            subst (λ h. IsKey hash same mine own h) (sym stays.1) key,
            fits_goes_on hash same mine own (Asker step new a) d (seen.Chosen a.answer) a.mid new (answers step new a) next,
            subst (λ st. Leads st (λ d. Rests d.point) IsAsFound) e (chosen_leads c a.array a.size a.passed a.found a.answer),
            keeps_on old a.mid new (first_kept step new a).3
                (going_keeps_map hash same mine own (Asker step new a) d (seen.Chosen a.answer) a.mid new (answers step new a) next),
          )
      by (Decided x) e next = ends_as_found own (call.Choose a.array a.size a.passed a.found) c.point old a.mid new (first_kept step new a).3 x
          (subst (λ st. Leads st (λ d. Rests d.point) IsAsFound) e (chosen_leads c a.array a.size a.passed a.found a.answer))
          (ending_is_maps hash same mine own (Asker step new a) x (seen.Chosen a.answer) a.mid new (answers step new a) next)

  pub turn_kept : (step : Step) (new : Memory) → Turn hash own c old step new → Kept new step
  turn_kept step new (inl p) = plainly_kept step new p
  turn_kept step new (inr a) = asking_kept step new a

  -- what is left falls
  pub turn_falls : (first peak : ℕ) → IsShort first peak old → (d : Call) (new : Memory) → Turn hash own c old (Going d) new →
      left first peak new d < left first peak old c
  turn_falls first peak short d new (inl p) =
      (left_falls hash same mine own c d p.saw old new first peak (makes p.saw new p.effect) short p.leads).0 rests
  turn_falls first peak short d new (inr a) =
      let asked : left first peak a.mid (Asker (Going d) new a) < left first peak old c =
      (left_falls hash same mine own c (Asker (Going d) new a) a.saw old a.mid first peak (makes a.saw a.mid a.effect) short a.asks).0 rests in
      let answered : left first peak new d ≤ left first peak a.mid (Asker (Going d) new a) =
      (left_falls hash same mine own (Asker (Going d) new a) d (seen.Chosen a.answer) a.mid new first peak (answers (Going d) new a) still
      (answer_leads (Going d) new a)).1 in
      omega arith
    where
      still : IsShort first peak a.mid
      still =
          let count = length_permutation (present_nodes old) (present_nodes a.mid) (first_kept (Going d) new a).3 in
          let keys = short.keys in
          short_stays hash same mine own c a.saw old a.mid first peak (makes a.saw a.mid a.effect) short (omega arith)

pub turn_is_maps : (hash : ℕ → ℕ) (same : ℕ → ℕ → Bool) (mine own : ℕ → Bool) (c : Call) (old : Memory) (step : Step) (new : Memory)
    (first peak : ℕ) → NamesKeys hash same → IsKey hash same mine own c.hash → IsSound hash same mine old → Fits hash own old c →
    Rests c.point → IsShort first peak old → Turn hash own c old step new →
    IsSound hash same mine new × LaterMemory same old new
    × Leads step (λ d. IsKey hash same mine own d.hash × Fits hash own new d × Rests d.point × KeepsMap old new × (left first peak new d < left first peak old c))
    (λ e. Ends own c.point e old new)
turn_is_maps hash same mine own c old step new first peak names key sound fits rests short turn =
    let kept = turn_kept names c key old sound fits rests step new turn in (kept.0, kept.1, by step turn kept.2)
  where
    by : (step : Step) → Turn hash own c old step new →
        Leads step (λ d. IsKey hash same mine own d.hash × Fits hash own new d × Rests d.point × KeepsMap old new) (λ e. Ends own c.point e old new) →
        Leads step (λ d. IsKey hash same mine own d.hash × Fits hash own new d × Rests d.point × KeepsMap old new
        × (left first peak new d < left first peak old c)) (λ e. Ends own c.point e old new)
    by (Going d) turn k = (k.0, k.1, k.2, k.3, turn_falls names c key old sound fits rests first peak short d new turn)
    by (Decided e) turn k = k

no_call : {c : Call} → None ≡ Some c → ⊥
no_call e = cc

same_call : {o : Option Call} {c d : Call} → o ≡ Some c → o ≡ Some d → c ≡ d
same_call a b = cc

module _ {hash : ℕ → ℕ} {same : ℕ → ℕ → Bool} {mine : ℕ → Bool} (names : NamesKeys hash same) (old new : Scene)
    (good : IsGood hash same mine old) where
  abbrev Of : ℕ → Call → Type 0
  Of k d = IsKey hash same mine (new.keys k) d.hash × Fits hash (new.keys k) new.memory d × Rests d.point

  all_good : IsSound hash same mine new.memory → ((k : ℕ) (d : Call) → new.calls k ≡ Some d → Of k d) → IsGood hash same mine new
  all_good sound each = record {
    sound = sound;
    key = λ k d e. (each k d e).0;
    fits = λ k d e. (each k d e).1;
    rests = λ k d e. (each k d e).2;
  }

  -- a call that was there before, with its key
  others_good : LaterMemory same old.memory new.memory → (k : ℕ) (d : Call) → new.keys k ≡ old.keys k → old.calls k ≡ Some d → Of k d
  others_good later k d keys e =
      let key = good.key k d e in (
        subst (λ own. IsKey hash same mine own d.hash) (sym keys) key,
        subst (λ own. Fits hash own new.memory d) (sym keys)
            (fits_lasts hash same mine (old.keys k) d old.memory new.memory names key good.sound later (good.rests k d e) (good.fits k d e)),
        good.rests k d e,
      )

  same_memory : new.memory ≡ old.memory → LaterMemory same old.memory new.memory
  same_memory e = elsewhere_later same old.memory new.memory names good.sound (record {
    words = λ p a d. ap (λ m. m.words a) e;
    arrays = ap (λ m. m.arrays) e;
    rooted = ap (λ m. m.rooted) e;
    fresh = let is = ap (λ m. m.fresh) e in omega arith;
  })

  begins_good : (n : ℕ) → Begins hash same mine n old new → IsGood hash same mine new
  begins_good n b = all_good (subst (λ m. IsSound hash same mine m) (sym b.memory) good.sound) each
    where
      each : (k : ℕ) (d : Call) → new.calls k ≡ Some d → Of k d
      each k d e = elim (cases_eq k n) [ inl at ↦ here at | inr other ↦ there other ]
        where
          here : k ≡ n → Of k d
          here at =
              let is : d ≡ call_from b.kind b.h = same_call e (ap new.calls at ∙ b.begun) in
              subst (λ x. Of k x) (sym is) (subst (λ own. IsKey hash same mine own b.h) (ap new.keys (sym at)) b.key, tt, tt)

          there : k ≢ n → Of k d
          there other = others_good (same_memory b.memory) k d (b.others.keys k other) (sym (b.others.calls k other) ∙ e)

  moves_good : (n : ℕ) → Moves hash n old new → IsGood hash same mine new
  moves_good n m = all_good kept.0 each
    where
      kept : IsSound hash same mine new.memory × LaterMemory same old.memory new.memory
          × Leads m.step (λ d. IsKey hash same mine (old.keys n) d.hash × Fits hash (old.keys n) new.memory d × Rests d.point
          × KeepsMap old.memory new.memory)
          (λ e. Ends (old.keys n) m.call.point e old.memory new.memory)
      kept = turn_kept names m.call (good.key n m.call m.there) old.memory good.sound (good.fits n m.call m.there)
          (good.rests n m.call m.there) m.step new.memory m.turn

      by : (step : Step) → Leads step (λ d. IsKey hash same mine (old.keys n) d.hash × Fits hash (old.keys n) new.memory d × Rests d.point
          × KeepsMap old.memory new.memory) (λ e. Ends (old.keys n) m.call.point e old.memory new.memory) →
          (d : Call) → goes_to step ≡ Some d → IsKey hash same mine (old.keys n) d.hash × Fits hash (old.keys n) new.memory d × Rests d.point
      by (Going x) k d e = subst
          (λ y. IsKey hash same mine (old.keys n) y.hash × Fits hash (old.keys n) new.memory y × Rests y.point) (same_call refl e)
          (k.0, k.1, k.2)
      by (Decided x) k d e = absurd (no_call e)

      each : (k : ℕ) (d : Call) → new.calls k ≡ Some d → Of k d
      each k d e = elim (cases_eq k n) [ inl at ↦ here at | inr other ↦ there other ]
        where
          here : k ≡ n → Of k d
          here at = subst (λ own. IsKey hash same mine own d.hash × Fits hash own new.memory d × Rests d.point)
              (sym (ap new.keys at ∙ m.same_key)) (by m.step kept.2 d (sym m.gone ∙ (ap new.calls (sym at) ∙ e)))

          there : k ≢ n → Of k d
          there other = others_good kept.1 k d (m.others.keys k other) (sym (m.others.calls k other) ∙ e)

  aside_good : Aside old new → IsGood hash same mine new
  aside_good a = all_good (elsewhere_sound same old.memory new.memory names good.sound a.elsewhere)
      (λ k d e. others_good (elsewhere_later same old.memory new.memory names good.sound a.elsewhere) k d (a.keys k) (sym (a.calls k) ∙ e))

  happens_good : Happens hash same mine old new → IsGood hash same mine new
  happens_good (Begun n b) = begins_good n b
  happens_good (Moved n m) = moves_good n m
  happens_good (Passed a) = aside_good a

pub each_order_is_good : (hash : ℕ → ℕ) (same : ℕ → ℕ → Bool) (mine : ℕ → Bool) (s : Scene) (more : List Scene) → NamesKeys hash same →
    IsGood hash same mine s → Happen hash same mine s more → AreGood hash same mine more
each_order_is_good hash same mine s [] names good happen = tt
each_order_is_good hash same mine s (t ∷ more) names good happen =
    let next = happens_good names s t good happen.0 in (next, each_order_is_good hash same mine t more names next happen.1)
