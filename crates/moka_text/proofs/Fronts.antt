-- Lines and parts of lines by their fronts, each a word and its space.
use Rattle.std.proofs.Common.{◌≡◌, ℕ, ◌<◌, ◌^◌, false, append-nil, List, ◌∷◌, ◌++◌, Option, Some, None, IfSome, refl, sym, ap, ◌∙◌, subst}
use Rattle.std.specs.Prelude.{codes}
use Rattle.std.specs.Fmt.{decimal}
use Rattle.std.specs.Option.{option_map}
use Rattle.std.specs.Str.{bytes_eq}
use Rattle.std.proofs.lemmas.Option.{none-some}
use Rattle.moka_hist.specs.declared.events.Start.TheVariants as start
use Rattle.moka_hist.specs.declared.events.Op.TheVariants as op
use Rattle.moka_hist.specs.declared.events.Told.{Told}
use Rattle.moka_hist.specs.declared.events.Told.TheVariants as told
use Rattle.moka_hist.specs.declared.events.Event.{Event}
use Rattle.moka_hist.specs.declared.events.Event.TheVariants as event
use Rattle.moka_lines.specs.Words.{u64_in, u32_in, after, before_byte, after_byte}
use Rattle.moka_text.specs.ScheduleText.{start_words, told_words, event_line, ToldFits, EventFits}
use Rattle.moka_text.specs.ScheduleReading.{pair_of, load_of, start_by, start_of, told_alone, told_of, tell_of, event_by, event_of}
use Rattle.moka_text.proofs.Spelled.{HasNoSpace, number_is, load_read, after_is, cut_at, alone_is, told_is, told_read, event_is}

-- bytes that have this front are it and what follows
parted : (front bytes rest : List ℕ) → after front bytes ≡ Some rest → bytes ≡ front ++ rest
parted front bytes rest e = subst (λ o. IfSome o (λ r. bytes ≡ front ++ r)) e (after_is front bytes)

-- what has the word and its space at its front has it for its first word
fronted : (front word bytes rest : List ℕ) → ((b : List ℕ) → front ++ b ≡ word ++ 32 ∷ b) → HasNoSpace word → after front bytes ≡ Some rest → (before_byte 32 bytes ≡ word) × (after_byte 32 bytes ≡ rest)
fronted front word bytes rest same close e =
    let is : bytes ≡ word ++ 32 ∷ rest = parted front bytes rest e ∙ same rest in
    let cut = cut_at word rest 32 close in
    (ap (before_byte 32) is ∙ cut.0, ap (after_byte 32) is ∙ cut.1)

-- a line by its front
pub polls : (bytes rest : List ℕ) → after (codes "poll ") bytes ≡ Some rest → event_of bytes ≡ option_map event.Poll (u64_in rest)
unfolding event_by
polls bytes rest e = let cut = fronted (codes "poll ") (codes "poll") bytes rest (λ b. refl) (refl, (refl, (refl, (refl, tt)))) e in rw (cut.0, cut.1) refl

pub starts : (bytes rest : List ℕ) → after (codes "start ") bytes ≡ Some rest → event_of bytes ≡ option_map event.Start (start_of rest)
unfolding event_by
starts bytes rest e = let cut = fronted (codes "start ") (codes "start") bytes rest (λ b. refl) (refl, (refl, (refl, (refl, (refl, tt))))) e in rw (cut.0, cut.1) refl

pub tells : (bytes rest : List ℕ) → after (codes "tell ") bytes ≡ Some rest → event_of bytes ≡ option_map (λ t. event.Tell t.0 t.1) (tell_of rest)
unfolding event_by
tells bytes rest e = let cut = fronted (codes "tell ") (codes "tell") bytes rest (λ b. refl) (refl, (refl, (refl, (refl, tt)))) e in rw (cut.0, cut.1) refl

pub steps : (bytes rest : List ℕ) → after (codes "step ") bytes ≡ Some rest → event_of bytes ≡ option_map event.Step (u64_in rest)
unfolding event_by
steps bytes rest e = let cut = fronted (codes "step ") (codes "step") bytes rest (λ b. refl) (refl, (refl, (refl, (refl, tt)))) e in rw (cut.0, cut.1) refl

pub drops : (bytes rest : List ℕ) → after (codes "drop ") bytes ≡ Some rest → event_of bytes ≡ option_map event.Drop (u64_in rest)
unfolding event_by
drops bytes rest e = let cut = fronted (codes "drop ") (codes "drop") bytes rest (λ b. refl) (refl, (refl, (refl, (refl, tt)))) e in rw (cut.0, cut.1) refl

pub moves : (bytes rest : List ℕ) → after (codes "at ") bytes ≡ Some rest → event_of bytes ≡ option_map event.At (u64_in rest)
unfolding event_by
moves bytes rest e = let cut = fronted (codes "at ") (codes "at") bytes rest (λ b. refl) (refl, (refl, tt)) e in rw (cut.0, cut.1) refl

-- a line without such a front is no event's
other : (line : List ℕ) → after (codes "poll ") line ≡ None → after (codes "start ") line ≡ None → after (codes "tell ") line ≡ None → after (codes "step ") line ≡ None → after (codes "drop ") line ≡ None → after (codes "at ") line ≡ None → (e : Event ℕ ℕ ℕ) → line ≡ event_line e → ⊥
other line p s t st d a (event.Poll call) is = none-some (decimal call) (sym p ∙ ap (after (codes "poll ")) is)
other line p s t st d a (event.Start start) is = none-some (start_words start) (sym s ∙ ap (after (codes "start ")) is)
other line p s t st d a (event.Tell call answer) is = none-some (decimal call ++ 32 ∷ told_words answer) (sym t ∙ ap (after (codes "tell ")) is)
other line p s t st d a (event.Step call) is = none-some (decimal call) (sym st ∙ ap (after (codes "step ")) is)
other line p s t st d a (event.Drop call) is = none-some (decimal call) (sym d ∙ ap (after (codes "drop ")) is)
other line p s t st d a (event.At moment) is = none-some (decimal moment) (sym a ∙ ap (after (codes "at ")) is)

unless : {X : Type 0} (P : X → Type 0) (o : Option X) → IfSome o P → ((x : X) → P x → ⊥) → o ≡ None
unless P (Some x) h never = absurd (never x h)
unless P None h never = refl

pub no_event : (line : List ℕ) → after (codes "poll ") line ≡ None → after (codes "start ") line ≡ None → after (codes "tell ") line ≡ None → after (codes "step ") line ≡ None → after (codes "drop ") line ≡ None → after (codes "at ") line ≡ None → event_of line ≡ None
no_event line p s t st d a = unless (λ e. (line ≡ event_line e) × EventFits e) (event_of line) (event_is line) (λ e h. other line p s t st d a e h.0)

-- what a call with a key is started for by its front
pub loads : (bytes rest : List ℕ) → after (codes "get_with ") bytes ≡ Some rest → start_of bytes ≡ option_map (λ l. start.GetWith l.0 l.1) (load_of rest)
unfolding start_by
loads bytes rest e =
    let keyed : bytes_eq bytes (codes "invalidate_all") ≡ false = ap (λ b. bytes_eq b (codes "invalidate_all")) (parted (codes "get_with ") bytes rest e) in
    let walkless : bytes_eq bytes (codes "iter") ≡ false = ap (λ b. bytes_eq b (codes "iter")) (parted (codes "get_with ") bytes rest e) in
    let stays : bytes_eq bytes (codes "pending") ≡ false = ap (λ b. bytes_eq b (codes "pending")) (parted (codes "get_with ") bytes rest e) in
    let cut = fronted (codes "get_with ") (codes "get_with") bytes rest (λ b. refl) (refl, (refl, (refl, (refl, (refl, (refl, (refl, (refl, tt)))))))) e in rw (keyed, walkless, stays, cut.0, cut.1) refl

pub inserts : (bytes rest : List ℕ) → after (codes "insert ") bytes ≡ Some rest → start_of bytes ≡ option_map (λ p. start.Insert p.0 p.1) (pair_of rest)
unfolding start_by
inserts bytes rest e =
    let keyed : bytes_eq bytes (codes "invalidate_all") ≡ false = ap (λ b. bytes_eq b (codes "invalidate_all")) (parted (codes "insert ") bytes rest e) in
    let walkless : bytes_eq bytes (codes "iter") ≡ false = ap (λ b. bytes_eq b (codes "iter")) (parted (codes "insert ") bytes rest e) in
    let stays : bytes_eq bytes (codes "pending") ≡ false = ap (λ b. bytes_eq b (codes "pending")) (parted (codes "insert ") bytes rest e) in
    let cut = fronted (codes "insert ") (codes "insert") bytes rest (λ b. refl) (refl, (refl, (refl, (refl, (refl, (refl, tt)))))) e in rw (keyed, walkless, stays, cut.0, cut.1) refl

pub gets : (bytes rest : List ℕ) → after (codes "get ") bytes ≡ Some rest → start_of bytes ≡ option_map start.Get (u32_in rest)
unfolding start_by
gets bytes rest e =
    let keyed : bytes_eq bytes (codes "invalidate_all") ≡ false = ap (λ b. bytes_eq b (codes "invalidate_all")) (parted (codes "get ") bytes rest e) in
    let walkless : bytes_eq bytes (codes "iter") ≡ false = ap (λ b. bytes_eq b (codes "iter")) (parted (codes "get ") bytes rest e) in
    let stays : bytes_eq bytes (codes "pending") ≡ false = ap (λ b. bytes_eq b (codes "pending")) (parted (codes "get ") bytes rest e) in
    let cut = fronted (codes "get ") (codes "get") bytes rest (λ b. refl) (refl, (refl, (refl, tt))) e in rw (keyed, walkless, stays, cut.0, cut.1) refl

-- a key alone is a load without a replace test
pub key_alone : (bytes : List ℕ) (key : ℕ) → u32_in bytes ≡ Some key → load_of bytes ≡ Some (key, None)
key_alone bytes key e =
    let is = subst (λ o. IfSome o (λ n. (bytes ≡ decimal n) × (n < 2 ^ 32))) e (number_is (2 ^ 32) bytes) in
    ap load_of (is.0 ∙ sym (append-nil (decimal key))) ∙ load_read key None is.1 tt

-- what an ask is told by its front
pub values : (bytes rest : List ℕ) → after (codes "value ") bytes ≡ Some rest → told_of bytes ≡ option_map told.Value (u32_in rest)
unfolding told_of
values bytes rest e = let cut = fronted (codes "value ") (codes "value") bytes rest (λ b. refl) (refl, (refl, (refl, (refl, (refl, tt))))) e in rw (cut.0, cut.1) refl

pub errors : (bytes rest : List ℕ) → after (codes "error ") bytes ≡ Some rest → told_of bytes ≡ option_map told.Err (u32_in rest)
unfolding told_of
errors bytes rest e = let cut = fronted (codes "error ") (codes "error") bytes rest (λ b. refl) (refl, (refl, (refl, (refl, (refl, tt))))) e in rw (cut.0, cut.1) refl

pub puts : (bytes rest : List ℕ) → after (codes "put ") bytes ≡ Some rest → told_of bytes ≡ option_map (λ value. told.Op (op.Put value)) (u32_in rest)
unfolding told_of
puts bytes rest e = let cut = fronted (codes "put ") (codes "put") bytes rest (λ b. refl) (refl, (refl, (refl, tt))) e in rw (cut.0, cut.1) refl

-- without such a front it is told by a word alone
alone : (bytes : List ℕ) → after (codes "value ") bytes ≡ None → after (codes "error ") bytes ≡ None → after (codes "put ") bytes ≡ None → (t : Told ℕ ℕ) → bytes ≡ told_words t → told_alone bytes ≡ Some t
unfolding told_alone
alone bytes v e p (told.Value value) is = absurd (none-some (decimal value) (sym v ∙ ap (after (codes "value ")) is))
alone bytes v e p told.Nothing is = ap told_alone is
alone bytes v e p (told.Err error) is = absurd (none-some (decimal error) (sym e ∙ ap (after (codes "error ")) is))
alone bytes v e p (told.Op op.Nop) is = ap told_alone is
alone bytes v e p (told.Op (op.Put value)) is = absurd (none-some (decimal value) (sym p ∙ ap (after (codes "put ")) is))
alone bytes v e p (told.Op op.Remove) is = ap told_alone is
alone bytes v e p told.Done is = ap told_alone is
alone bytes v e p told.Off is = ap told_alone is

either : (bytes : List ℕ) → after (codes "value ") bytes ≡ None → after (codes "error ") bytes ≡ None → after (codes "put ") bytes ≡ None → (o : Option (Told ℕ ℕ)) → told_of bytes ≡ o → (a : Option (Told ℕ ℕ)) → told_alone bytes ≡ a → o ≡ a
either bytes v e p None n None m = refl
either bytes v e p None n (Some t) m =
    let is = subst (λ o. IfSome o (λ x. (bytes ≡ told_words x) × ToldFits x)) m (alone_is bytes) in
    absurd (none-some t (sym n ∙ ap told_of is.0 ∙ told_read t is.1))
either bytes v e p (Some t) n a m =
    let is = subst (λ o. IfSome o (λ x. (bytes ≡ told_words x) × ToldFits x)) n (told_is bytes) in
    sym (alone bytes v e p t is.0) ∙ m

pub left_alone : (bytes : List ℕ) → after (codes "value ") bytes ≡ None → after (codes "error ") bytes ≡ None → after (codes "put ") bytes ≡ None → told_of bytes ≡ told_alone bytes
left_alone bytes v e p = either bytes v e p (told_of bytes) refl (told_alone bytes) refl
