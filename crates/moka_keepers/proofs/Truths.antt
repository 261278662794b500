-- The truth as writes are sent.
use Rattle.std.proofs.Common.{◌≡◌, ◌⊎◌, inl, inr, ◌<◌, ◌-◌, ℕ, ◌==◌, Bool, true, false, cond, List, [], ◌∷◌, ◌++◌, length, take, Option, Some, None, IfSome, unwrap_or, refl, sym, ap, ◌∙◌, subst, arith, append_assoc, append-nil}
use Rattle.std.proofs.lemmas.List.{length-append}
use Rattle.std.specs.Option.{option_or}
use Rattle.moka_keepers.specs.declared.write.Write.{Write}
use Rattle.moka_keepers.specs.Keeping.{HasFailed, HasPut, Kept, pairs_with, puts_with}
use Rattle.moka_keepers.specs.Owing.{Owes, Truth, taken_off, true_pairs}
use Rattle.moka_keepers.specs.Writes.{Pairs, after, last_of, made}

-- ---- maps after writes

pub after-append : (pairs : Pairs) (xs ys : List Write) → after pairs (xs ++ ys) ≡ after (after pairs xs) ys
after-append pairs [] ys = refl
after-append pairs (x ∷ xs) ys = after-append (made pairs x) xs ys

once : (b : Bool) (v o : Option ℕ) → cond b v (cond b v o) ≡ cond b v o
once true v o = refl
once false v o = refl

-- a write made twice
pub made-twice : (pairs : Pairs) (w : Write) → made (made pairs w) w ≡ made pairs w
made-twice pairs w = λ i key. once (w.key == key) w.value (pairs key) i

unwrap_step : (b : Bool) (v d : Option ℕ) (o : Option (Option ℕ)) →
    unwrap_or o (cond b v d) ≡ unwrap_or (option_or o (cond b (Some v) None)) d
unwrap_step true v d None = refl
unwrap_step false v d None = refl
unwrap_step b v d (Some l) = refl

-- what a key has after writes: what its last one left, and else what it had
pub after-last : (pairs : Pairs) (ws : List Write) (key : ℕ) → after pairs ws key ≡ unwrap_or (last_of key ws) (pairs key)
after-last pairs [] key = refl
after-last pairs (w ∷ ws) key =
    after-last (made pairs w) ws key ∙ unwrap_step (w.key == key) w.value (pairs key) (last_of key ws)

-- ---- the front that is off

take-front : (xs ys : List Write) → take (length xs) (xs ++ ys) ≡ xs
take-front [] ys = refl
take-front (x ∷ xs) ys = ap (λ (l : List Write). x ∷ l) (take-front xs ys)

-- the writes off the front, where the rest is known
pub taken_off-is : (old gone new : List Write) → old ≡ gone ++ new → taken_off old new ≡ gone
taken_off-is old gone new e =
    let n : length old - length new ≡ length gone = omega (arith, ap length e, length-append gone new) in
    ap (λ (k : ℕ). take k old) n ∙ ap (λ (l : List Write). take (length gone) l) e ∙ take-front gone new

-- ---- what is owed

step_pairs : (start : Pairs) (sent rest : List Write) (w : Write) (old now : Option Pairs) →
    IfSome old (λ p. (p ≡ after start sent) ⊎ (p ≡ after start (sent ++ take 1 (w ∷ rest)))) →
    IfSome now (λ p. pairs_with old w ≡ Some p) →
    IfSome now (λ p. (p ≡ after start (sent ++ w ∷ [])) ⊎ (p ≡ after start ((sent ++ w ∷ []) ++ take 1 rest)))
step_pairs start sent rest w old None h e = tt
step_pairs start sent rest w None (Some p) h e = absurd (cc)
step_pairs start sent rest w (Some before) (Some p) (inl h) e =
    let q : made before w ≡ p = cc in
    inl (sym q ∙ ap (λ (m : Pairs). made m w) h ∙ sym (after-append start sent (w ∷ [])))
step_pairs start sent rest w (Some before) (Some p) (inr h) e =
    let q : made before w ≡ p = cc in
    let f : before ≡ made (after start sent) w = h ∙ after-append start sent (w ∷ []) in
    inl (sym q ∙ ap (λ (m : Pairs). made m w) f ∙ made-twice (after start sent) w ∙ sym (after-append start sent (w ∷ [])))

step_puts : (first sent : List Write) (w : Write) (old now : Option (List Write)) → IfSome old (λ ps. ps ≡ first ++ sent) →
    IfSome now (λ ps. puts_with old w ≡ Some ps) → IfSome now (λ ps. ps ≡ first ++ (sent ++ w ∷ []))
step_puts first sent w old None h e = tt
step_puts first sent w None (Some ps) h e = absurd (cc)
step_puts first sent w (Some before) (Some ps) h e =
    let q : before ++ w ∷ [] ≡ ps = cc in
    sym q ∙ ap (λ (l : List Write). l ++ w ∷ []) h ∙ append_assoc first sent (w ∷ [])

-- the first of the unsent was sent
pub owes-put : (w : Write) (rest : List Write) (old new : Kept) (truth : Truth) (sent : List Write) →
    Owes (w ∷ rest) old truth sent → HasPut old w new → Owes rest new truth (sent ++ w ∷ [])
owes-put w rest old new truth sent o h = record {
  writes = o.writes ∙ sym (append_assoc sent (w ∷ []) rest);
  puts = step_puts truth.puts sent w old.puts new.puts o.puts h.puts;
  pairs = step_pairs truth.start sent rest w old.pairs new.pairs o.pairs h.pairs;
}

left_pairs : (start : Pairs) (sent rest : List Write) (w : Write) (old now : Option Pairs) →
    IfSome old (λ p. (p ≡ after start sent) ⊎ (p ≡ after start (sent ++ take 1 (w ∷ rest)))) →
    IfSome now (λ p. (old ≡ Some p) ⊎ (pairs_with old w ≡ Some p)) →
    IfSome now (λ p. (p ≡ after start sent) ⊎ (p ≡ after start (sent ++ take 1 (w ∷ rest))))
left_pairs start sent rest w old None h e = tt
left_pairs start sent rest w None (Some p) h (inl e) = absurd (cc)
left_pairs start sent rest w None (Some p) h (inr e) = absurd (cc)
left_pairs start sent rest w (Some before) (Some p) h (inl e) =
    let q : before ≡ p = cc in
    subst (λ (m : Pairs). (m ≡ after start sent) ⊎ (m ≡ after start (sent ++ w ∷ []))) q h
left_pairs start sent rest w (Some before) (Some p) (inl h) (inr e) =
    let q : made before w ≡ p = cc in
    inr (sym q ∙ ap (λ (m : Pairs). made m w) h ∙ sym (after-append start sent (w ∷ [])))
left_pairs start sent rest w (Some before) (Some p) (inr h) (inr e) =
    let q : made before w ≡ p = cc in
    let f : before ≡ made (after start sent) w = h ∙ after-append start sent (w ∷ []) in
    inr (sym q ∙ ap (λ (m : Pairs). made m w) f ∙ made-twice (after start sent) w ∙ sym (after-append start sent (w ∷ [])))

left_puts : (first sent : List Write) (old now : Option (List Write)) → IfSome old (λ ps. ps ≡ first ++ sent) →
    IfSome now (λ ps. old ≡ Some ps) → IfSome now (λ ps. ps ≡ first ++ sent)
left_puts first sent old None h e = tt
left_puts first sent None (Some ps) h e = absurd (cc)
left_puts first sent (Some before) (Some ps) h e = let q : before ≡ ps = cc in sym q ∙ h

-- the put of the first of the unsent failed
pub owes-failed : (w : Write) (rest : List Write) (old new : Kept) (truth : Truth) (sent : List Write) →
    Owes (w ∷ rest) old truth sent → HasFailed old w new → Owes (w ∷ rest) new truth sent
owes-failed w rest old new truth sent o h = record {
  writes = o.writes;
  puts = left_puts truth.puts sent old.puts new.puts o.puts h.puts;
  pairs = left_pairs truth.start sent rest w old.pairs new.pairs o.pairs h.pairs;
}

-- ---- what a key has

or_none : (o : Option (Option ℕ)) (b : Bool) (v : Option ℕ) → option_or o (cond b (Some v) None) ≡ None → cond b (Some v) None ≡ None
or_none None b v e = e
or_none (Some l) b v e = absurd (cc)

first_none : (key : ℕ) (ws : List Write) → last_of key ws ≡ None → last_of key (take 1 ws) ≡ None
first_none key [] e = refl
first_none key (w ∷ ws) e = or_none (last_of key ws) (w.key == key) w.value e

kept_value : (start : Pairs) (sent unsent : List Write) (key : ℕ) (p : Pairs) → last_of key unsent ≡ None →
    (p ≡ after start sent) ⊎ (p ≡ after start (sent ++ take 1 unsent)) → p key ≡ after start (sent ++ unsent) key
kept_value start sent unsent key p none (inl h) =
    ap (λ (m : Pairs). m key) h
    ∙ sym (ap (λ (m : Pairs). m key) (after-append start sent unsent)
    ∙ after-last (after start sent) unsent key
    ∙ ap (λ (o : Option (Option ℕ)). unwrap_or o (after start sent key)) none)
kept_value start sent unsent key p none (inr h) =
    ap (λ (m : Pairs). m key) h
    ∙ ap (λ (m : Pairs). m key) (after-append start sent (take 1 unsent))
    ∙ after-last (after start sent) (take 1 unsent) key
    ∙ ap (λ (o : Option (Option ℕ)). unwrap_or o (after start sent key)) (first_none key unsent none)
    ∙ sym (ap (λ (m : Pairs). m key) (after-append start sent unsent)
    ∙ after-last (after start sent) unsent key
    ∙ ap (λ (o : Option (Option ℕ)). unwrap_or o (after start sent key)) none)

-- what the last unsent write of a key left is true
pub true_unsent : (unsent : List Write) (kept : Kept) (truth : Truth) (sent : List Write) (key : ℕ) (v : Option ℕ) →
    Owes unsent kept truth sent → last_of key unsent ≡ Some v → v ≡ true_pairs truth key
true_unsent unsent kept truth sent key v o e =
    sym (ap (λ (ws : List Write). after truth.start ws key) o.writes
    ∙ ap (λ (m : Pairs). m key) (after-append truth.start sent unsent)
    ∙ after-last (after truth.start sent) unsent key
    ∙ ap (λ (l : Option (Option ℕ)). unwrap_or l (after truth.start sent key)) e)

kept_cases : (unsent : List Write) (pairs : Option Pairs) (truth : Truth) (sent : List Write) (key : ℕ) (found : Option ℕ) →
    truth.writes ≡ sent ++ unsent →
    IfSome pairs (λ p. (p ≡ after truth.start sent) ⊎ (p ≡ after truth.start (sent ++ take 1 unsent))) →
    last_of key unsent ≡ None → IfSome pairs (λ p. found ≡ p key) → IfSome pairs (λ p. found ≡ true_pairs truth key)
kept_cases unsent None truth sent key found w h none is = tt
kept_cases unsent (Some p) truth sent key found w h none is =
    is ∙ kept_value truth.start sent unsent key p none h ∙ sym (ap (λ (ws : List Write). after truth.start ws key) w)

-- and so is what the keeper has, where no write of the key is unsent
pub true_kept : (unsent : List Write) (kept : Kept) (truth : Truth) (sent : List Write) (key : ℕ) (found : Option ℕ) →
    Owes unsent kept truth sent → last_of key unsent ≡ None → IfSome kept.pairs (λ p. found ≡ p key) →
    IfSome kept.pairs (λ p. found ≡ true_pairs truth key)
true_kept unsent kept truth sent key found o none is =
    kept_cases unsent kept.pairs truth sent key found o.writes o.pairs none is

if_always : {A : Type 0} (o : Option A) (P : A → Type 0) → ((x : A) → P x) → IfSome o P
if_always None P h = tt
if_always (Some x) P h = h x

pub true_last : (unsent : List Write) (kept : Kept) (truth : Truth) (sent : List Write) (key : ℕ) (v : Option ℕ) →
    Owes unsent kept truth sent → last_of key unsent ≡ Some v → IfSome kept.pairs (λ p. v ≡ true_pairs truth key)
true_last unsent kept truth sent key v o e =
    if_always kept.pairs (λ p. v ≡ true_pairs truth key) (λ p. true_unsent unsent kept truth sent key v o e)

-- ---- a drain

-- the writes that were sent so far, where one more is
pub off-more : (old now rest : List Write) (w : Write) → old ≡ taken_off old now ++ now → now ≡ w ∷ rest →
    taken_off old rest ≡ taken_off old now ++ w ∷ []
off-more old now rest w e is =
    taken_off-is old (taken_off old now ++ w ∷ []) rest
    (e ∙ ap (λ (l : List Write). taken_off old now ++ l) is ∙ sym (append_assoc (taken_off old now) (w ∷ []) rest))

-- none is off at first
pub off-none : (old : List Write) → taken_off old old ≡ []
off-none old = taken_off-is old [] old refl

-- what is owed at first
pub owes-first : (old : List Write) (kept : Kept) (truth : Truth) (sent : List Write) → Owes old kept truth sent →
    Owes old kept truth (sent ++ taken_off old old)
owes-first old kept truth sent o =
    subst (λ (l : List Write). Owes old kept truth l) (sym (ap (λ (l : List Write). sent ++ l) (off-none old) ∙ append-nil sent)) o

-- and once one more of the unsent was sent
pub owes-more : (old now rest : List Write) (w : Write) (before after : Kept) (truth : Truth) (sent : List Write) →
    old ≡ taken_off old now ++ now → now ≡ w ∷ rest → HasPut before w after →
    Owes now before truth (sent ++ taken_off old now) → Owes rest after truth (sent ++ taken_off old rest)
owes-more old now rest w before after truth sent e is put o =
    let so : Owes (w ∷ rest) before truth (sent ++ taken_off old now) =
    subst (λ (l : List Write). Owes l before truth (sent ++ taken_off old now)) is o in
    subst (λ (l : List Write). Owes rest after truth l)
    (append_assoc sent (taken_off old now) (w ∷ []) ∙ sym (ap (λ (l : List Write). sent ++ l) (off-more old now rest w e is)))
    (owes-put w rest before after truth (sent ++ taken_off old now) so put)

-- or its put failed
pub owes-still : (now rest : List Write) (w : Write) (before after : Kept) (truth : Truth) (sent : List Write) →
    now ≡ w ∷ rest → HasFailed before w after → Owes now before truth sent → Owes now after truth sent
owes-still now rest w before after truth sent is failed o =
    let so : Owes (w ∷ rest) before truth sent = subst (λ (l : List Write). Owes l before truth sent) is o in
    subst (λ (l : List Write). Owes l after truth sent) (sym is) (owes-failed w rest before after truth sent so failed)

-- the front that is off, once one more is
pub front-more : (old now rest : List Write) (w : Write) → old ≡ taken_off old now ++ now → now ≡ w ∷ rest →
    old ≡ taken_off old rest ++ rest
front-more old now rest w e is =
    e ∙ ap (λ (l : List Write). taken_off old now ++ l) is ∙ sym (append_assoc (taken_off old now) (w ∷ []) rest)
    ∙ sym (ap (λ (l : List Write). l ++ rest) (off-more old now rest w e is))

-- the first of a list is one
pub same_first : (now rest new : List Write) (w v : Write) → now ≡ w ∷ rest → now ≡ v ∷ new → now ≡ w ∷ new
same_first now rest new w v is e = cc

pub front-first : (old : List Write) → old ≡ taken_off old old ++ old
front-first old = sym (ap (λ (l : List Write). l ++ old) (off-none old))

pub length-less : (now rest : List Write) (w : Write) → now ≡ w ∷ rest → length rest < length now
length-less now rest w is = omega (arith, ap length is)
