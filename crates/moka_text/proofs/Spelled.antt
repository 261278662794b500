-- What is read is spelled so, and each spelling is read.
use Rattle.std.proofs.Common.{◌≡◌, ℕ, ◌+◌, ◌<◌, ◌≤◌, ◌^◌, Bool, true, false, cond, eqb, List, [], ◌∷◌, ◌++◌, length, get_or, take, drop, length-drop, length-append, Option, Some, None, IfSome, refl, sym, ap, ◌∙◌, subst, arith}
use Rattle.std.specs.Fmt.{decimal}
use Rattle.std.specs.Option.{option_map, option_and_then}
use Rattle.std.specs.List.{AllByRecursion, position_or_len}
use Rattle.std.proofs.lemmas.List.Sums.{split_at_first, passes_at_first}
use Rattle.std.specs.Str.{bytes_eq}
use Rattle.std.specs.Str.Parse.{AllDigits}
use Rattle.std.specs.Prelude.{codes}
use Rattle.std.proofs.lemmas.Fmt.{digits_decimal, decimal_nonempty}
use Rattle.std.proofs.lemmas.List.{take-append-drop}
use Rattle.std.proofs.lemmas.Bool.Decides.{nat_tests, Decides-eqb}
use Rattle.std.proofs.lemmas.Slice.Eq.{bytes_eq-Decides}
use Rattle.std.proofs.lemmas.Option.{none-some, cond_some}
use Rattle.std.proofs.lemmas.Str.Parse.{digit_from_value}
use Rattle.moka_hist.specs.declared.events.Start.{Start}
use Rattle.moka_hist.specs.declared.events.Start.TheVariants as start
use Rattle.moka_hist.specs.declared.events.Op.TheVariants as op
use Rattle.moka_hist.specs.declared.events.Told.{Told}
use Rattle.moka_hist.specs.declared.events.Told.TheVariants as told
use Rattle.moka_hist.specs.declared.events.Event.{Event}
use Rattle.moka_hist.specs.declared.events.Event.TheVariants as event
use Rattle.moka_hist.specs.declared.rules.Cause.{Cause}
use Rattle.moka_hist.specs.declared.rules.Cause.TheVariants as cause
use Rattle.moka_lines.specs.Words.{number_in, u64_in, u32_in, after, before_byte, after_byte}
use Rattle.moka_text.specs.Words.{cause_word, from_byte}
use Rattle.moka_text.specs.ScheduleText.{chosen_words, replace_words, start_words, told_words, event_line, StartFits, ToldFits, EventFits, SpellsNone}
use Rattle.moka_text.specs.ScheduleReading.{pair_of, cause_of, chosen_of, evict_of, replace_in, load_of, start_by, start_of, told_alone, told_of, tell_of, event_by, event_of}
use Rattle.moka_lines.proofs.Numbers.{own, number_some, number_found}
use Rattle.moka_lines.proofs.Splitting.{before_here, before_later, after_here, after_later}
use Rattle.moka_text.proofs.Splitting.{from_here, from_later}

-- what holds of the value of each part holds of the value of the whole
pub mapped : {X Y : Type 0} (P : Y → Type 0) (f : X → Y) (o : Option X) → IfSome o (λ x. P (f x)) → IfSome (option_map f o) P
mapped P f (Some x) h = h
mapped P f None h = h

pub bound : {X Y : Type 0} (P : X → Type 0) (Q : Y → Type 0) (f : X → Option Y) (o : Option X) → IfSome o P → ((x : X) → P x → IfSome (f x) Q) → IfSome (option_and_then f o) Q
bound P Q f (Some x) h k = k x h
bound P Q f None h k = h

pub weaker : {X : Type 0} (P Q : X → Type 0) (o : Option X) → IfSome o P → ((x : X) → P x → Q x) → IfSome o Q
weaker P Q (Some x) h k = k x h
weaker P Q None h k = h

pub known : {X : Type 0} (P : X → Type 0) (o : Option X) → ((x : X) → o ≡ Some x → P x) → IfSome o P
known P (Some x) h = h x refl
known P None h = tt

-- what follows the front of a line
pub after_is : (front line : List ℕ) → IfSome (after front line) (λ rest. line ≡ front ++ rest)
after_is front line = known (λ rest. line ≡ front ++ rest) (after front line) (λ rest e.
    let parts = cond_some _ (drop (length front) line) rest e in
    let same = (bytes_eq-Decides (take (length front) line) front).0 parts.0 in
    sym (take-append-drop (length front) line) ∙ ap (λ t. t ++ drop (length front) line) same ∙ ap (λ t. front ++ t) parts.1)

pub number_is : (limit : ℕ) (bytes : List ℕ) → IfSome (number_in limit bytes) (λ n. (bytes ≡ decimal n) × (n < limit))
number_is limit bytes = known _ (number_in limit bytes) (λ n e. number_found limit n bytes e)

self : (n : ℕ) → eqb n n ≡ true
self n = (Decides-eqb n n).1 refl

-- the first mark is the one after a front that has none
pub cut_at : (front rest : List ℕ) (mark : ℕ) → AllByRecursion (λ b. eqb b mark ≡ false) front → (before_byte mark (front ++ mark ∷ rest) ≡ front) × (after_byte mark (front ++ mark ∷ rest) ≡ rest)
cut_at [] rest mark h = (before_here mark mark rest (self mark), after_here mark mark rest (self mark))
cut_at (b ∷ front) rest mark h =
    let later = cut_at front rest mark h.1 in
    (before_later mark b (front ++ mark ∷ rest) h.0 ∙ ap (λ t. b ∷ t) later.0, after_later mark b (front ++ mark ∷ rest) h.0 ∙ later.1)

-- what may follow a word: nothing, or a space
abbrev pub Ends : List ℕ → Type 0
Ends [] = Unit {0}
Ends (b ∷ bytes) = eqb b 32 ≡ true

-- a word has no space
abbrev pub HasNoSpace : List ℕ → Type 0
HasNoSpace = AllByRecursion (λ b. eqb b 32 ≡ false)

-- a word ends where what follows begins
pub said_before : (said rest : List ℕ) → HasNoSpace said → Ends rest → before_byte 32 (said ++ rest) ≡ said
said_before [] [] h ends = refl
said_before [] (b ∷ rest) h ends = before_here 32 b rest ends
said_before (b ∷ said) rest h ends = before_later 32 b (said ++ rest) h.0 ∙ ap (λ t. b ∷ t) (said_before said rest h.1 ends)

pub rest_from : (said rest : List ℕ) → HasNoSpace said → Ends rest → from_byte 32 (said ++ rest) ≡ rest
rest_from [] [] h ends = refl
rest_from [] (b ∷ rest) h ends = from_here 32 b rest ends
rest_from (b ∷ said) rest h ends = from_later 32 b (said ++ rest) h.0 ∙ rest_from said rest h.1 ends

-- a digit is no space
pub no_space : (ds : List ℕ) → AllDigits 10 ds → AllByRecursion (λ b. eqb b 32 ≡ false) ds
no_space [] h = tt
no_space (b ∷ ds) h = (let d = digit_from_value b h.0 in grind (arith, nat_tests), no_space ds h.1)

spaced : (n : ℕ) (rest : List ℕ) → n < 2 ^ 64 → (before_byte 32 (decimal n ++ 32 ∷ rest) ≡ decimal n) × (after_byte 32 (decimal n ++ 32 ∷ rest) ≡ rest)
spaced n rest h = cut_at (decimal n) rest 32 (no_space (decimal n) (digits_decimal own n h))

pub call_some : (n : ℕ) → n < 2 ^ 64 → u64_in (decimal n) ≡ Some n
call_some n h = number_some (2 ^ 64) n (decimal n) h (omega arith) refl

key_some : (n : ℕ) → n < 2 ^ 32 → u32_in (decimal n) ≡ Some n
key_some n h = number_some (2 ^ 32) n (decimal n) h (omega arith) refl

pair_read : (k v : ℕ) → k < 2 ^ 32 → v < 2 ^ 32 → pair_of (decimal k ++ 32 ∷ decimal v) ≡ Some (k, v)
unfolding pair_of
pair_read k v h j = let cut = spaced k (decimal v) (omega arith) in rw (cut.0, cut.1, key_some k h, key_some v j) refl

cause_read : (c : Cause) → cause_of (cause_word c) ≡ Some c
unfolding cause_of
cause_read cause.Expired = refl
cause_read cause.Explicit = refl
cause_read cause.Replaced = refl
cause_read cause.Size = refl

chosen_read : (s : ℕ) (c : Cause) → s < 2 ^ 64 → chosen_of (chosen_words s c) ≡ Some (s, c)
unfolding chosen_of
chosen_read s c h = let cut = spaced s (cause_word c) h in rw (cut.0, cut.1, call_some s h, cause_read c) refl

evict_read : (k s : ℕ) (c : Cause) → k < 2 ^ 32 → s < 2 ^ 64 → evict_of (decimal k ++ 32 ∷ chosen_words s c) ≡ Some (k, (s, c))
unfolding evict_of
evict_read k s c h j = let cut = spaced k (chosen_words s c) (omega arith) in rw (cut.0, cut.1, key_some k h, chosen_read s c j) refl

ends_replace : (replace : Option ℕ) → Ends (replace_words replace)
ends_replace None = tt
ends_replace (Some test) = refl

replace_read : (replace : Option ℕ) → IfSome replace (λ test. test < 2 ^ 64) → replace_in (replace_words replace) ≡ Some replace
unfolding replace_in
replace_read None h = refl
replace_read (Some test) h = rw (call_some test h) refl

pub load_read : (k : ℕ) (replace : Option ℕ) → k < 2 ^ 32 → IfSome replace (λ test. test < 2 ^ 64) → load_of (decimal k ++ replace_words replace) ≡ Some (k, replace)
unfolding load_of
load_read k replace h j =
    let close = no_space (decimal k) (digits_decimal own k (omega arith)) in
    let front = said_before (decimal k) (replace_words replace) close (ends_replace replace) in
    let rest = rest_from (decimal k) (replace_words replace) close (ends_replace replace) in
    rw (front, rest, key_some k h, replace_read replace j) refl

start_read : (s : Start ℕ ℕ) → StartFits s → start_of (start_words s) ≡ Some s
unfolding start_by
start_read (start.Get key) h = rw (key_some key h) refl
start_read (start.Insert key value) h = rw (pair_read key value h.0 h.1) refl
start_read (start.GetWith key replace) h = rw (load_read key replace h.0 h.1) refl
start_read (start.Optional key) h = rw (key_some key h) refl
start_read (start.Try key) h = rw (key_some key h) refl
start_read (start.OrInsert key value) h = rw (pair_read key value h.0 h.1) refl
start_read (start.Compute key) h = rw (key_some key h) refl
start_read (start.TryCompute key) h = rw (key_some key h) refl
start_read (start.ComputeAlone key) h = rw (key_some key h) refl
start_read (start.Upsert key) h = rw (key_some key h) refl
start_read (start.Invalidate key) h = rw (key_some key h) refl
start_read (start.Remove key) h = rw (key_some key h) refl
start_read (start.Evict key stamp cause) h = rw (evict_read key stamp cause h.0 h.1) refl
start_read start.InvalidateAll h = refl
start_read (start.InvalidateIf test) h = rw (call_some test h) refl
start_read start.Iter h = refl
start_read start.Pending h = refl

pub told_read : (t : Told ℕ ℕ) → ToldFits t → told_of (told_words t) ≡ Some t
unfolding told_alone told_of
told_read (told.Value value) h = rw (key_some value h) refl
told_read told.Nothing h = refl
told_read (told.Err error) h = rw (key_some error h) refl
told_read (told.Op op.Nop) h = refl
told_read (told.Op (op.Put value)) h = rw (key_some value h) refl
told_read (told.Op op.Remove) h = refl
told_read told.Done h = refl
told_read told.Off h = refl

tell_read : (call : ℕ) (t : Told ℕ ℕ) → call < 2 ^ 64 → ToldFits t → tell_of (decimal call ++ 32 ∷ told_words t) ≡ Some (call, t)
unfolding tell_of
tell_read call t h j = let cut = spaced call (told_words t) h in rw (cut.0, cut.1, call_some call h, told_read t j) refl

-- each event's own line is read as that event
pub event_read : (e : Event ℕ ℕ ℕ) → EventFits e → event_of (event_line e) ≡ Some e
unfolding event_by
event_read (event.At moment) h = rw (call_some moment h) refl
event_read (event.Start s) h = rw (start_read s h) refl
event_read (event.Step call) h = rw (call_some call h) refl
event_read (event.Poll call) h = rw (call_some call h) refl
event_read (event.Tell call t) h = rw (tell_read call t h.0 h.1) refl
event_read (event.Drop call) h = rw (call_some call h) refl

-- what stands before a space and after it, where something does
rejoined : (bytes front rest : List ℕ) → before_byte 32 bytes ≡ front → after_byte 32 bytes ≡ rest → 0 < length rest → bytes ≡ front ++ 32 ∷ rest
rejoined bytes front rest e f some =
    let p : ℕ → Bool = λ b. eqb b 32 in
    let l : 0 < length (after_byte 32 bytes) = subst (λ r. 0 < length r) (sym f) some in
    let inside : position_or_len p bytes < length bytes = omega (arith, length-drop (position_or_len p bytes + 1) bytes) in
    let mark : get_or bytes (position_or_len p bytes) 0 ≡ 32 = (Decides-eqb _ 32).0 (passes_at_first p bytes 0 inside) in
    split_at_first p bytes 0 inside ∙ ap (λ b. before_byte 32 bytes ++ b ∷ after_byte 32 bytes) mark ∙ ap (λ t. t ++ 32 ∷ after_byte 32 bytes) e ∙ ap (λ t. front ++ 32 ∷ t) f

pair_is : (bytes : List ℕ) → IfSome (pair_of bytes) (λ p. (bytes ≡ decimal p.0 ++ 32 ∷ decimal p.1) × ((p.0 < 2 ^ 32) × (p.1 < 2 ^ 32)))
unfolding pair_of
pair_is bytes =
    bound _ _ (λ key. option_and_then (λ value. Some (key, value)) (u32_in (after_byte 32 bytes))) (u32_in (before_byte 32 bytes)) (number_is (2 ^ 32) (before_byte 32 bytes)) (λ key h.
    bound _ _ (λ value. Some (key, value)) (u32_in (after_byte 32 bytes)) (number_is (2 ^ 32) (after_byte 32 bytes)) (λ value j.
    (rejoined bytes (decimal key) (decimal value) h.0 j.0 (decimal_nonempty value (omega arith)), (h.1, j.1))))

some_spaced : (front rest : List ℕ) → 0 < length (front ++ 32 ∷ rest)
some_spaced front rest = omega (arith, length-append front (32 ∷ rest))

-- what holds of either choice
pub chosen : {X : Type 0} (P : X → Type 0) (b : Bool) (x y : Option X) → (b ≡ true → IfSome x P) → IfSome y P → IfSome (cond b x y) P
chosen P true x y h k = h refl
chosen P false x y h k = k

cause_is : (word : List ℕ) → IfSome (cause_of word) (λ c. word ≡ cause_word c)
unfolding cause_of
cause_is word =
    let P : Cause → Type 0 = λ c. word ≡ cause_word c in
    chosen P (bytes_eq word (codes "Expired")) _ _ (λ h. (bytes_eq-Decides word (codes "Expired")).0 h)
    (chosen P (bytes_eq word (codes "Explicit")) _ _ (λ h. (bytes_eq-Decides word (codes "Explicit")).0 h)
    (chosen P (bytes_eq word (codes "Replaced")) _ _ (λ h. (bytes_eq-Decides word (codes "Replaced")).0 h)
    (chosen P (bytes_eq word (codes "Size")) _ _ (λ h. (bytes_eq-Decides word (codes "Size")).0 h) tt)))

some_cause : (c : Cause) → 0 < length (cause_word c)
some_cause cause.Expired = omega arith
some_cause cause.Explicit = omega arith
some_cause cause.Replaced = omega arith
some_cause cause.Size = omega arith

chosen_is : (bytes : List ℕ) → IfSome (chosen_of bytes) (λ t. (bytes ≡ chosen_words t.0 t.1) × (t.0 < 2 ^ 64))
unfolding chosen_of
chosen_is bytes =
    bound _ _ (λ stamp. option_and_then (λ cause. Some (stamp, cause)) (cause_of (after_byte 32 bytes))) (u64_in (before_byte 32 bytes)) (number_is (2 ^ 64) (before_byte 32 bytes)) (λ stamp h.
    bound _ _ (λ cause. Some (stamp, cause)) (cause_of (after_byte 32 bytes)) (cause_is (after_byte 32 bytes)) (λ cause j.
    (rejoined bytes (decimal stamp) (cause_word cause) h.0 j (some_cause cause), h.1)))

evict_is : (bytes : List ℕ) → IfSome (evict_of bytes) (λ e. (bytes ≡ decimal e.0 ++ 32 ∷ chosen_words e.1.0 e.1.1) × ((e.0 < 2 ^ 32) × (e.1.0 < 2 ^ 64)))
unfolding evict_of
evict_is bytes =
    bound _ _ (λ key. option_and_then (λ chosen. Some (key, chosen)) (chosen_of (after_byte 32 bytes))) (u32_in (before_byte 32 bytes)) (number_is (2 ^ 32) (before_byte 32 bytes)) (λ key h.
    bound _ _ (λ chosen. Some (key, chosen)) (chosen_of (after_byte 32 bytes)) (chosen_is (after_byte 32 bytes)) (λ chosen j.
    (rejoined bytes (decimal key) (chosen_words chosen.0 chosen.1) h.0 j.0 (some_spaced (decimal chosen.0) (cause_word chosen.1)), (h.1, j.1))))

-- a front up to the first space, and the rest from it on
cut_off : (bytes front rest : List ℕ) → before_byte 32 bytes ≡ front → from_byte 32 bytes ≡ rest → bytes ≡ front ++ rest
cut_off bytes front rest e f =
    sym (take-append-drop (position_or_len (λ b. eqb b 32) bytes) bytes) ∙ ap (λ t. t ++ from_byte 32 bytes) e ∙ ap (λ t. front ++ t) f

replace_is : (bytes : List ℕ) → IfSome (replace_in bytes) (λ r. (bytes ≡ replace_words r) × IfSome r (λ test. test < 2 ^ 64))
unfolding replace_in
replace_is [] = (refl, tt)
replace_is (b ∷ bytes) =
    mapped (λ r. (b ∷ bytes ≡ replace_words r) × IfSome r (λ test. test < 2 ^ 64)) Some _ (bound _ _ u64_in (after (codes " if ") (b ∷ bytes)) (after_is (codes " if ") (b ∷ bytes)) (λ rest e.
    weaker _ _ (u64_in rest) (number_is (2 ^ 64) rest) (λ n h. (e ∙ ap (λ t. codes " if " ++ t) h.0, h.1))))

load_is : (bytes : List ℕ) → IfSome (load_of bytes) (λ l. (bytes ≡ decimal l.0 ++ replace_words l.1) × ((l.0 < 2 ^ 32) × IfSome l.1 (λ test. test < 2 ^ 64)))
unfolding load_of
load_is bytes =
    bound _ _ (λ key. option_and_then (λ replace. Some (key, replace)) (replace_in (from_byte 32 bytes))) (u32_in (before_byte 32 bytes)) (number_is (2 ^ 32) (before_byte 32 bytes)) (λ key h.
    bound _ _ (λ replace. Some (key, replace)) (replace_in (from_byte 32 bytes)) (replace_is (from_byte 32 bytes)) (λ replace j.
    (cut_off bytes (decimal key) (replace_words replace) h.0 j.0, (h.1, j.1))))

some_load : (k : ℕ) (replace : Option ℕ) → k < 2 ^ 32 → 0 < length (decimal k ++ replace_words replace)
some_load k replace h = let some = decimal_nonempty k (omega arith) in omega (arith, some, length-append (decimal k) (replace_words replace))

-- where what follows a line's first word is spelled so, so is the line
after_word : {X Y : Type 0} (words : X → List ℕ) (Fits : X → Type 0) (P : Y → Type 0) (f : X → Y) (name bytes : List ℕ) (o : Option X) → ((x : X) → Fits x → 0 < length (words x)) → IfSome o (λ x. (after_byte 32 bytes ≡ words x) × Fits x) → ((x : X) → bytes ≡ name ++ 32 ∷ words x → Fits x → P (f x)) → bytes_eq (before_byte 32 bytes) name ≡ true → IfSome (option_map f o) P
after_word words Fits P f name bytes o some is so word =
    mapped P f o (weaker _ (λ x. P (f x)) o is (λ x h. so x (rejoined bytes name (words x) ((bytes_eq-Decides (before_byte 32 bytes) name).0 word) h.0 (some x h.1)) h.1))

number_after : {Y : Type 0} (limit : ℕ) (P : Y → Type 0) (f : ℕ → Y) (name bytes : List ℕ) → limit ≤ 2 ^ 64 → ((n : ℕ) → bytes ≡ name ++ 32 ∷ decimal n → n < limit → P (f n)) → bytes_eq (before_byte 32 bytes) name ≡ true → IfSome (option_map f (number_in limit (after_byte 32 bytes))) P
number_after limit P f name bytes low so =
    after_word decimal (λ n. n < limit) P f name bytes (number_in limit (after_byte 32 bytes)) (λ n h. decimal_nonempty n (omega arith)) (number_is limit (after_byte 32 bytes)) so

start_is : (bytes : List ℕ) → IfSome (start_of bytes) (λ s. (bytes ≡ start_words s) × StartFits s)
unfolding start_by
start_is bytes =
    let P : Start ℕ ℕ → Type 0 = λ s. (bytes ≡ start_words s) × StartFits s in
    let word : List ℕ = before_byte 32 bytes in
    chosen P (bytes_eq bytes (codes "invalidate_all")) _ _ (λ h. ((bytes_eq-Decides bytes (codes "invalidate_all")).0 h, tt))
    (chosen P (bytes_eq bytes (codes "iter")) _ _ (λ h. ((bytes_eq-Decides bytes (codes "iter")).0 h, tt))
    (chosen P (bytes_eq bytes (codes "pending")) _ _ (λ h. ((bytes_eq-Decides bytes (codes "pending")).0 h, tt))
    (chosen P (bytes_eq word (codes "get")) _ _ (number_after (2 ^ 32) P start.Get (codes "get") bytes (omega arith) (λ n e h. (e, h)))
    (chosen P (bytes_eq word (codes "insert")) _ _ (after_word (λ p. decimal p.0 ++ 32 ∷ decimal p.1) (λ p. (p.0 < 2 ^ 32) × (p.1 < 2 ^ 32)) P (λ p. start.Insert p.0 p.1) (codes "insert") bytes (pair_of (after_byte 32 bytes)) (λ p h. some_spaced (decimal p.0) (decimal p.1)) (pair_is (after_byte 32 bytes)) (λ p e h. (e, h)))
    (chosen P (bytes_eq word (codes "get_with")) _ _ (after_word (λ l. decimal l.0 ++ replace_words l.1) (λ l. (l.0 < 2 ^ 32) × IfSome l.1 (λ test. test < 2 ^ 64)) P (λ l. start.GetWith l.0 l.1) (codes "get_with") bytes (load_of (after_byte 32 bytes)) (λ l h. some_load l.0 l.1 h.0) (load_is (after_byte 32 bytes)) (λ l e h. (e, h)))
    (chosen P (bytes_eq word (codes "optional")) _ _ (number_after (2 ^ 32) P start.Optional (codes "optional") bytes (omega arith) (λ n e h. (e, h)))
    (chosen P (bytes_eq word (codes "try")) _ _ (number_after (2 ^ 32) P start.Try (codes "try") bytes (omega arith) (λ n e h. (e, h)))
    (chosen P (bytes_eq word (codes "or_insert")) _ _ (after_word (λ p. decimal p.0 ++ 32 ∷ decimal p.1) (λ p. (p.0 < 2 ^ 32) × (p.1 < 2 ^ 32)) P (λ p. start.OrInsert p.0 p.1) (codes "or_insert") bytes (pair_of (after_byte 32 bytes)) (λ p h. some_spaced (decimal p.0) (decimal p.1)) (pair_is (after_byte 32 bytes)) (λ p e h. (e, h)))
    (chosen P (bytes_eq word (codes "compute")) _ _ (number_after (2 ^ 32) P start.Compute (codes "compute") bytes (omega arith) (λ n e h. (e, h)))
    (chosen P (bytes_eq word (codes "try_compute")) _ _ (number_after (2 ^ 32) P start.TryCompute (codes "try_compute") bytes (omega arith) (λ n e h. (e, h)))
    (chosen P (bytes_eq word (codes "compute_alone")) _ _ (number_after (2 ^ 32) P start.ComputeAlone (codes "compute_alone") bytes (omega arith) (λ n e h. (e, h)))
    (chosen P (bytes_eq word (codes "upsert")) _ _ (number_after (2 ^ 32) P start.Upsert (codes "upsert") bytes (omega arith) (λ n e h. (e, h)))
    (chosen P (bytes_eq word (codes "invalidate")) _ _ (number_after (2 ^ 32) P start.Invalidate (codes "invalidate") bytes (omega arith) (λ n e h. (e, h)))
    (chosen P (bytes_eq word (codes "remove")) _ _ (number_after (2 ^ 32) P start.Remove (codes "remove") bytes (omega arith) (λ n e h. (e, h)))
    (chosen P (bytes_eq word (codes "evict")) _ _ (after_word (λ t. decimal t.0 ++ 32 ∷ chosen_words t.1.0 t.1.1) (λ t. (t.0 < 2 ^ 32) × (t.1.0 < 2 ^ 64)) P (λ t. start.Evict t.0 t.1.0 t.1.1) (codes "evict") bytes (evict_of (after_byte 32 bytes)) (λ t h. some_spaced (decimal t.0) (chosen_words t.1.0 t.1.1)) (evict_is (after_byte 32 bytes)) (λ t e h. (e, h)))
    (chosen P (bytes_eq word (codes "invalidate_if")) _ _ (number_after (2 ^ 64) P start.InvalidateIf (codes "invalidate_if") bytes (omega arith) (λ n e h. (e, h))) tt))))))))))))))))

pub alone_is : (bytes : List ℕ) → IfSome (told_alone bytes) (λ t. (bytes ≡ told_words t) × ToldFits t)
unfolding told_alone
alone_is bytes =
    let P : Told ℕ ℕ → Type 0 = λ t. (bytes ≡ told_words t) × ToldFits t in
    chosen P (bytes_eq bytes (codes "nothing")) _ _ (λ h. ((bytes_eq-Decides bytes (codes "nothing")).0 h, tt))
    (chosen P (bytes_eq bytes (codes "nop")) _ _ (λ h. ((bytes_eq-Decides bytes (codes "nop")).0 h, tt))
    (chosen P (bytes_eq bytes (codes "remove")) _ _ (λ h. ((bytes_eq-Decides bytes (codes "remove")).0 h, tt))
    (chosen P (bytes_eq bytes (codes "done")) _ _ (λ h. ((bytes_eq-Decides bytes (codes "done")).0 h, tt))
    (chosen P (bytes_eq bytes (codes "off")) _ _ (λ h. ((bytes_eq-Decides bytes (codes "off")).0 h, tt)) tt))))

pub told_is : (bytes : List ℕ) → IfSome (told_of bytes) (λ t. (bytes ≡ told_words t) × ToldFits t)
unfolding told_of
told_is bytes =
    let P : Told ℕ ℕ → Type 0 = λ t. (bytes ≡ told_words t) × ToldFits t in
    let word : List ℕ = before_byte 32 bytes in
    chosen P (bytes_eq word (codes "value")) _ _ (number_after (2 ^ 32) P told.Value (codes "value") bytes (omega arith) (λ n e h. (e, h)))
    (chosen P (bytes_eq word (codes "error")) _ _ (number_after (2 ^ 32) P told.Err (codes "error") bytes (omega arith) (λ n e h. (e, h)))
    (chosen P (bytes_eq word (codes "put")) _ _ (number_after (2 ^ 32) P (λ n. told.Op (op.Put n)) (codes "put") bytes (omega arith) (λ n e h. (e, h))) (alone_is bytes)))

some_words : (t : Told ℕ ℕ) → 0 < length (told_words t)
some_words (told.Value value) = omega arith
some_words told.Nothing = omega arith
some_words (told.Err error) = omega arith
some_words (told.Op op.Nop) = omega arith
some_words (told.Op (op.Put value)) = omega arith
some_words (told.Op op.Remove) = omega arith
some_words told.Done = omega arith
some_words told.Off = omega arith

some_start : (s : Start ℕ ℕ) → 0 < length (start_words s)
some_start (start.Get key) = omega arith
some_start (start.Insert key value) = omega arith
some_start (start.GetWith key replace) = omega arith
some_start (start.Optional key) = omega arith
some_start (start.Try key) = omega arith
some_start (start.OrInsert key value) = omega arith
some_start (start.Compute key) = omega arith
some_start (start.TryCompute key) = omega arith
some_start (start.ComputeAlone key) = omega arith
some_start (start.Upsert key) = omega arith
some_start (start.Invalidate key) = omega arith
some_start (start.Remove key) = omega arith
some_start (start.Evict key stamp cause) = omega arith
some_start start.InvalidateAll = omega arith
some_start (start.InvalidateIf test) = omega arith
some_start start.Iter = omega arith
some_start start.Pending = omega arith

tell_is : (bytes : List ℕ) → IfSome (tell_of bytes) (λ t. (bytes ≡ decimal t.0 ++ 32 ∷ told_words t.1) × ((t.0 < 2 ^ 64) × ToldFits t.1))
unfolding tell_of
tell_is bytes =
    bound _ _ (λ call. option_and_then (λ t. Some (call, t)) (told_of (after_byte 32 bytes))) (u64_in (before_byte 32 bytes)) (number_is (2 ^ 64) (before_byte 32 bytes)) (λ call h.
    bound _ _ (λ t. Some (call, t)) (told_of (after_byte 32 bytes)) (told_is (after_byte 32 bytes)) (λ t j.
    (rejoined bytes (decimal call) (told_words t) h.0 j.0 (some_words t), (h.1, j.1))))

-- what is read as an event is its line
pub event_is : (line : List ℕ) → IfSome (event_of line) (λ e. (line ≡ event_line e) × EventFits e)
unfolding event_by
event_is line =
    let P : Event ℕ ℕ ℕ → Type 0 = λ e. (line ≡ event_line e) × EventFits e in
    let word : List ℕ = before_byte 32 line in
    let rest : List ℕ = after_byte 32 line in
    chosen P (bytes_eq word (codes "at")) _ _ (number_after (2 ^ 64) P event.At (codes "at") line (omega arith) (λ n e h. (e, h)))
    (chosen P (bytes_eq word (codes "start")) _ _ (after_word start_words StartFits P event.Start (codes "start") line (start_of rest) (λ s h. some_start s) (start_is rest) (λ s e h. (e, h)))
    (chosen P (bytes_eq word (codes "step")) _ _ (number_after (2 ^ 64) P event.Step (codes "step") line (omega arith) (λ n e h. (e, h)))
    (chosen P (bytes_eq word (codes "poll")) _ _ (number_after (2 ^ 64) P event.Poll (codes "poll") line (omega arith) (λ n e h. (e, h)))
    (chosen P (bytes_eq word (codes "tell")) _ _ (after_word (λ t. decimal t.0 ++ 32 ∷ told_words t.1) (λ t. (t.0 < 2 ^ 64) × ToldFits t.1) P (λ t. event.Tell t.0 t.1) (codes "tell") line (tell_of rest) (λ t h. some_spaced (decimal t.0) (told_words t.1)) (tell_is rest) (λ t e h. (e, h)))
    (chosen P (bytes_eq word (codes "drop")) _ _ (number_after (2 ^ 64) P event.Drop (codes "drop") line (omega arith) (λ n e h. (e, h))) tt)))))

-- what is read as no event spells none
pub event_none : (line : List ℕ) → event_of line ≡ None → SpellsNone line
event_none line none e fits spelled = none-some e (sym none ∙ ap event_of spelled ∙ event_read e fits)
