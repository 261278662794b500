-- The options of a first line: what is read is spelled so, and each spelling is read.
use Rattle.std.proofs.Common.{◌≡◌, ℕ, ◌<◌, ◌≤◌, ◌^◌, Bool, true, false, cond, eqb, List, [], ◌∷◌, ◌++◌, length, append-nil, append_assoc, Option, Some, None, IfSome, refl, sym, ap, ◌∙◌, subst, arith}
use Rattle.std.specs.Bool.{Decides}
use Rattle.std.specs.Fmt.{decimal}
use Rattle.std.specs.Option.{option_map, option_and_then, unwrap_or}
use Rattle.std.specs.List.{position_or_len}
use Rattle.std.specs.Prelude.{codes, nat_le, ◌&&◌}
use Rattle.std.proofs.lemmas.Bool.{leb-true, le-leb}
use Rattle.std.proofs.lemmas.Bool.Decides.{Decides-and}
use Rattle.std.proofs.lemmas.Fmt.{digits_decimal}
use Rattle.std.proofs.lemmas.List.{take-append-drop}
use Rattle.moka_hist.specs.declared.settings.Settings.{Settings}
use Rattle.moka_lines.specs.Words.{u64_in, after, before_byte}
use Rattle.moka_text.specs.Words.{from_byte}
use Rattle.moka_text.specs.ScheduleText.{option_words, switch, SettingsFit, IsCacheLine}
use Rattle.moka_text.specs.ScheduleReading.{said_in, cut_option, unless_left, within, number_of, log_of, switch_of, settings_from, made_of, options_of, cache_of}
use Rattle.moka_lines.proofs.Numbers.{own}
use Rattle.moka_text.proofs.Spelled.{Ends, HasNoSpace, mapped, bound, weaker, after_is, number_is, chosen, no_space, call_some, said_before, rest_from}

ends_words : (name : List ℕ) (said : Option (List ℕ)) (rest : List ℕ) → Ends rest → Ends (option_words name said ++ rest)
ends_words name None rest h = h
ends_words name (Some said) rest h = refl

-- an option that isn't set, before one of another name
misses : (front name : List ℕ) (said : Option (List ℕ)) (rest : List ℕ) → ((s : List ℕ) → after front ((32 ∷ name ++ s) ++ rest) ≡ None) → after front rest ≡ None → after front (option_words name said ++ rest) ≡ None
misses front name None rest other h = h
misses front name (Some s) rest other h = other s

-- an option that stands at the front is cut off
cut_set : (name said rest : List ℕ) → HasNoSpace said → Ends rest → after (32 ∷ name) ((32 ∷ name ++ said) ++ rest) ≡ Some (said ++ rest) → cut_option (32 ∷ name) ((32 ∷ name ++ said) ++ rest) ≡ (Some said, rest)
cut_set name said rest h ends here =
    ap (λ o. said_in ((32 ∷ name ++ said) ++ rest) o) here
    ∙ ap (λ b. (Some b, from_byte 32 (said ++ rest))) (said_before said rest h ends) ∙ ap (λ r. (Some said, r)) (rest_from said rest h ends)

cut_read : (name : List ℕ) (said : Option (List ℕ)) (rest : List ℕ) → IfSome said HasNoSpace → Ends rest → ((s : List ℕ) → after (32 ∷ name) ((32 ∷ name ++ s) ++ rest) ≡ Some (s ++ rest)) → after (32 ∷ name) rest ≡ None → cut_option (32 ∷ name) (option_words name said ++ rest) ≡ (said, rest)
cut_read name None rest h ends here none = ap (λ o. said_in rest o) none
cut_read name (Some said) rest h ends here none = cut_set name said rest h ends (here said)

-- what is cut off, and what follows it, are the whole
cut_is : (name bytes : List ℕ) → bytes ≡ option_words name (cut_option (32 ∷ name) bytes).0 ++ (cut_option (32 ∷ name) bytes).1
cut_is name bytes = by (after (32 ∷ name) bytes) (after_is (32 ∷ name) bytes) where
  by : (o : Option (List ℕ)) → IfSome o (λ rest. bytes ≡ (32 ∷ name) ++ rest) → bytes ≡ option_words name (said_in bytes o).0 ++ (said_in bytes o).1
  by None h = refl
  by (Some rest) h = h ∙ ap (λ r. 32 ∷ name ++ r) (sym (take-append-drop (position_or_len (λ b. eqb b 32) rest) rest)) ∙ sym (append_assoc (32 ∷ name) (before_byte 32 rest) (from_byte 32 rest))

-- bytes are an option of which this is said, where they were cut, and then what follows
spelled : (name bytes : List ℕ) {rest : List ℕ} (said : Option (List ℕ)) → (cut_option (32 ∷ name) bytes).0 ≡ said → (cut_option (32 ∷ name) bytes).1 ≡ rest → bytes ≡ option_words name said ++ rest
spelled name bytes {rest} said is follows =
    cut_is name bytes ∙ ap (λ o. option_words name o ++ (cut_option (32 ∷ name) bytes).1) is ∙ ap (λ t. option_words name said ++ t) follows

-- what may be said of an option that is a number
abbrev SaysNumber : Option (List ℕ) → Option ℕ → Type 0
SaysNumber said number = (said ≡ option_map decimal number) × IfSome number (λ n. n < 2 ^ 64)

number_of_is : (said : Option (List ℕ)) → IfSome (number_of said) (SaysNumber said)
unfolding number_of
number_of_is None = (refl, tt)
number_of_is (Some said) =
    mapped (SaysNumber (Some said)) Some (u64_in said) (weaker _ _ (u64_in said) (number_is (2 ^ 64) said) (λ n h. (ap Some h.0, h.1)))

number_read : (number : Option ℕ) → IfSome number (λ n. n < 2 ^ 64) → number_of (option_map decimal number) ≡ Some number
unfolding number_of
number_read None h = refl
number_read (Some n) h = ap (option_map Some) (call_some n h)

log_Decides : (log : ℕ) → Decides (nat_le 1 log && nat_le log 65536) ((1 ≤ log) × (log ≤ 65536))
log_Decides log = Decides-and _ _ (leb-true 1 log, le-leb 1 log) (leb-true log 65536, le-leb log 65536)

-- a log of this size can be said so
record SaysLog (said : Option (List ℕ)) (log : ℕ) : Type 0 where
  number : Option ℕ
  spelled : said ≡ option_map decimal number
  size : log ≡ unwrap_or number 384
  range : (1 ≤ log) × (log ≤ 65536)

log_is : (said : Option (List ℕ)) → IfSome (log_of said) (SaysLog said)
unfolding log_of
log_is None = record { number = None; spelled = refl; size = refl; range = (omega arith, omega arith) }
log_is (Some said) =
    bound _ (SaysLog (Some said)) (within 1 65536) (u64_in said) (number_is (2 ^ 64) said) (λ log h.
    chosen (SaysLog (Some said)) (nat_le 1 log && nat_le log 65536) (Some log) None (λ t. record { number = Some log; spelled = ap Some h.0; size = refl; range = (log_Decides log).0 t }) tt)

log_read : (number : Option ℕ) → (1 ≤ unwrap_or number 384) × (unwrap_or number 384 ≤ 65536) → log_of (option_map decimal number) ≡ Some (unwrap_or number 384)
unfolding log_of
log_read None h = refl
log_read (Some log) h = let t = (log_Decides log).1 h in rw (call_some log (omega (arith, h.1))) (ap (λ b. cond b (Some log) None) t)

switch_is : (said : Option (List ℕ)) → IfSome (switch_of said) (λ set. said ≡ switch set)
unfolding switch_of
switch_is None = refl
switch_is (Some []) = refl
switch_is (Some (b ∷ bytes)) = tt

switch_read : (set : Bool) → switch_of (switch set) ≡ Some set
unfolding switch_of
switch_read true = refl
switch_read false = refl

-- a number has no space, and of a switch nothing is said
small : (number : Option ℕ) → unwrap_or number 384 ≤ 65536 → IfSome number (λ n. n < 2 ^ 64)
small None h = tt
small (Some n) h = omega (arith, h)

number_close : (number : Option ℕ) → IfSome number (λ n. n < 2 ^ 64) → IfSome (option_map decimal number) HasNoSpace
number_close None h = tt
number_close (Some n) h = no_space (decimal n) (digits_decimal own n h)

switch_close : (set : Bool) → IfSome (switch set) HasNoSpace
switch_close true = tt
switch_close false = tt

-- what the options of a first line make
record Makes (cap log seed ttl tti listener closures : Option (List ℕ)) (made : ℕ × Settings) : Type 0 where
  capacity : SaysNumber cap made.1.max_capacity
  size : SaysLog log made.0
  seeded : SaysNumber seed made.1.seed
  live : SaysNumber ttl made.1.time_to_live
  idle : SaysNumber tti made.1.time_to_idle
  heard : listener ≡ switch made.1.listener
  closed : closures ≡ switch made.1.closures

-- what is left to read after each option
abbrev with_closures : Option (List ℕ) → Option ℕ → ℕ → Option ℕ → Option ℕ → Option ℕ → Bool → Option (ℕ × Settings)
with_closures closures capacity size seed live idle heard =
    option_and_then (λ closed. Some (size, settings_from capacity seed live idle heard closed)) (switch_of closures)

abbrev with_switch : Option (List ℕ) → Option (List ℕ) → Option ℕ → ℕ → Option ℕ → Option ℕ → Option ℕ → Option (ℕ × Settings)
with_switch listener closures capacity size seed live idle =
    option_and_then (with_closures closures capacity size seed live idle) (switch_of listener)

abbrev with_idle : Option (List ℕ) → Option (List ℕ) → Option (List ℕ) → Option ℕ → ℕ → Option ℕ → Option ℕ → Option (ℕ × Settings)
with_idle tti listener closures capacity size seed live =
    option_and_then (with_switch listener closures capacity size seed live) (number_of tti)

abbrev with_live : Option (List ℕ) → Option (List ℕ) → Option (List ℕ) → Option (List ℕ) → Option ℕ → ℕ → Option ℕ → Option (ℕ × Settings)
with_live ttl tti listener closures capacity size seed =
    option_and_then (with_idle tti listener closures capacity size seed) (number_of ttl)

abbrev with_seed : Option (List ℕ) → Option (List ℕ) → Option (List ℕ) → Option (List ℕ) → Option (List ℕ) → Option ℕ → ℕ → Option (ℕ × Settings)
with_seed seed ttl tti listener closures capacity size =
    option_and_then (with_live ttl tti listener closures capacity size) (number_of seed)

abbrev with_log : Option (List ℕ) → Option (List ℕ) → Option (List ℕ) → Option (List ℕ) → Option (List ℕ) → Option (List ℕ) → Option ℕ → Option (ℕ × Settings)
with_log log seed ttl tti listener closures capacity =
    option_and_then (with_seed seed ttl tti listener closures capacity) (log_of log)

made_is : (cap log seed ttl tti listener closures : Option (List ℕ)) → IfSome (made_of cap log seed ttl tti listener closures) (Makes cap log seed ttl tti listener closures)
unfolding made_of
made_is cap log seed ttl tti listener closures =
    bound (SaysNumber cap) _ (with_log log seed ttl tti listener closures) (number_of cap) (number_of_is cap) (λ capacity g.
    bound (SaysLog log) _ (with_seed seed ttl tti listener closures capacity) (log_of log) (log_is log) (λ size h.
    bound (SaysNumber seed) _ (with_live ttl tti listener closures capacity size) (number_of seed) (number_of_is seed) (λ seeded m.
    bound (SaysNumber ttl) _ (with_idle tti listener closures capacity size seeded) (number_of ttl) (number_of_is ttl) (λ live i.
    bound (SaysNumber tti) _ (with_switch listener closures capacity size seeded live) (number_of tti) (number_of_is tti) (λ idle j.
    bound (λ set. listener ≡ switch set) _ (with_closures closures capacity size seeded live idle) (switch_of listener) (switch_is listener) (λ heard k.
    bound (λ set. closures ≡ switch set) (Makes cap log seed ttl tti listener closures) (λ closed. Some (size, settings_from capacity seeded live idle heard closed)) (switch_of closures) (switch_is closures) (λ closed l.
    record { capacity = g; size = h; seeded = m; live = i; idle = j; heard = k; closed = l })))))))

made_read : (number : Option ℕ) (settings : Settings) → SettingsFit settings → (1 ≤ unwrap_or number 384) × (unwrap_or number 384 ≤ 65536) → made_of (option_map decimal settings.max_capacity) (option_map decimal number) (option_map decimal settings.seed) (option_map decimal settings.time_to_live) (option_map decimal settings.time_to_idle) (switch settings.listener) (switch settings.closures) ≡ Some (unwrap_or number 384, settings)
unfolding made_of
made_read number settings fit range =
    let capacity : Option ℕ = settings.max_capacity in
    let seeded : Option ℕ = settings.seed in
    let live : Option ℕ = settings.time_to_live in
    let idle : Option ℕ = settings.time_to_idle in
    let seed : Option (List ℕ) = option_map decimal seeded in
    let ttl : Option (List ℕ) = option_map decimal live in
    let tti : Option (List ℕ) = option_map decimal idle in
    let listener : Option (List ℕ) = switch settings.listener in
    let closures : Option (List ℕ) = switch settings.closures in
    let size : ℕ = unwrap_or number 384 in
    ap (option_and_then (with_log (option_map decimal number) seed ttl tti listener closures)) (number_read capacity fit.capacity)
    ∙ ap (option_and_then (with_seed seed ttl tti listener closures capacity)) (log_read number range)
    ∙ ap (option_and_then (with_live ttl tti listener closures capacity size)) (number_read seeded fit.seed)
    ∙ ap (option_and_then (with_idle tti listener closures capacity size seeded)) (number_read live fit.live)
    ∙ ap (option_and_then (with_switch listener closures capacity size seeded live)) (number_read idle fit.idle)
    ∙ ap (option_and_then (with_closures closures capacity size seeded live idle)) (switch_read settings.listener)
    ∙ ap (option_and_then (λ closed. Some (size, settings_from capacity seeded live idle settings.listener closed))) (switch_read settings.closures)

-- no bytes are left where there is a value
none_left : {A : Type 0} (P : A → Type 0) (left : List ℕ) (o : Option A) → IfSome o P → IfSome (unless_left left o) (λ x. P x × (left ≡ []))
none_left P [] (Some x) h = (h, refl)
none_left P [] None h = tt
none_left P (b ∷ left) o h = tt

-- what is read as a cache is its line
pub cache_is : (line : List ℕ) → IfSome (cache_of line) (λ c. IsCacheLine line c.0 c.1)
cache_is line =
    bound _ (λ c. IsCacheLine line c.0 c.1) options_of (after (codes "cache") line) (after_is (codes "cache") line) (λ bytes e.
    let cap : Option (List ℕ) × List ℕ = cut_option (codes " cap=") bytes in
    let log : Option (List ℕ) × List ℕ = cut_option (codes " log=") cap.1 in
    let seed : Option (List ℕ) × List ℕ = cut_option (codes " seed=") log.1 in
    let ttl : Option (List ℕ) × List ℕ = cut_option (codes " ttl=") seed.1 in
    let tti : Option (List ℕ) × List ℕ = cut_option (codes " tti=") ttl.1 in
    let listener : Option (List ℕ) × List ℕ = cut_option (codes " listener") tti.1 in
    let closures : Option (List ℕ) × List ℕ = cut_option (codes " closures") listener.1 in
    weaker _ (λ c. IsCacheLine line c.0 c.1) (options_of bytes) (none_left _ closures.1 (made_of cap.0 log.0 seed.0 ttl.0 tti.0 listener.0 closures.0) (made_is cap.0 log.0 seed.0 ttl.0 tti.0 listener.0 closures.0)) (λ c h.
    let made = h.0 in
    let said = made.size in
    record {
      said = said.number;
      spelled =
          e
          ∙ ap (λ t. codes "cache" ++ t) (spelled (codes "cap=") bytes _ made.capacity.0
          (spelled (codes "log=") cap.1 _ said.spelled
          (spelled (codes "seed=") log.1 _ made.seeded.0
          (spelled (codes "ttl=") seed.1 _ made.live.0
          (spelled (codes "tti=") ttl.1 _ made.idle.0
          (spelled (codes "listener") tti.1 _ made.heard
          (spelled (codes "closures") listener.1 _ made.closed h.1
          ∙ append-nil (option_words (codes "closures") (switch c.1.closures)))))))));
      size = said.size;
      range = said.range;
      fit = record { capacity = made.capacity.1; seed = made.seeded.1; live = made.live.1; idle = made.idle.1 };
    }))

-- what is read, once the options before are known
abbrev after_closures : Option (List ℕ) → Option (List ℕ) → Option (List ℕ) → Option (List ℕ) → Option (List ℕ) → Option (List ℕ) → Option (List ℕ) × List ℕ → Option (ℕ × Settings)
after_closures cap log seed ttl tti listener cut = unless_left cut.1 (made_of cap log seed ttl tti listener cut.0)

abbrev after_set : Option (List ℕ) → Option (List ℕ) → Option (List ℕ) → Option (List ℕ) → Option (List ℕ) → Option (List ℕ) × List ℕ → Option (ℕ × Settings)
after_set cap log seed ttl tti cut = after_closures cap log seed ttl tti cut.0 (cut_option (codes " closures") cut.1)

abbrev after_tti : Option (List ℕ) → Option (List ℕ) → Option (List ℕ) → Option (List ℕ) → Option (List ℕ) × List ℕ → Option (ℕ × Settings)
after_tti cap log seed ttl cut = after_set cap log seed ttl cut.0 (cut_option (codes " listener") cut.1)

abbrev after_ttl : Option (List ℕ) → Option (List ℕ) → Option (List ℕ) → Option (List ℕ) × List ℕ → Option (ℕ × Settings)
after_ttl cap log seed cut = after_tti cap log seed cut.0 (cut_option (codes " tti=") cut.1)

abbrev after_seed : Option (List ℕ) → Option (List ℕ) → Option (List ℕ) × List ℕ → Option (ℕ × Settings)
after_seed cap log cut = after_ttl cap log cut.0 (cut_option (codes " ttl=") cut.1)

abbrev after_log : Option (List ℕ) → Option (List ℕ) × List ℕ → Option (ℕ × Settings)
after_log cap cut = after_seed cap cut.0 (cut_option (codes " seed=") cut.1)

abbrev after_cap : Option (List ℕ) × List ℕ → Option (ℕ × Settings)
after_cap cut = after_log cut.0 (cut_option (codes " log=") cut.1)

-- an option of another name isn't found before the last one, which is a switch
none_in_switch : (name : List ℕ) (set : Option (List ℕ)) → after name [] ≡ None →
    ((s : List ℕ) → after name ((32 ∷ codes "closures" ++ s) ++ []) ≡ None) → after name (option_words (codes "closures") set) ≡ None
none_in_switch name set none other =
    subst (λ t. after name t ≡ None) (append-nil (option_words (codes "closures") set)) (misses name (codes "closures") set [] other none)

-- the options of a first line are read
options_read : (number : Option ℕ) (settings : Settings) → SettingsFit settings → (1 ≤ unwrap_or number 384) × (unwrap_or number 384 ≤ 65536) → options_of (option_words (codes "cap=") (option_map decimal settings.max_capacity) ++ (option_words (codes "log=") (option_map decimal number) ++ (option_words (codes "seed=") (option_map decimal settings.seed) ++ (option_words (codes "ttl=") (option_map decimal settings.time_to_live) ++ (option_words (codes "tti=") (option_map decimal settings.time_to_idle) ++ (option_words (codes "listener") (switch settings.listener) ++ option_words (codes "closures") (switch settings.closures))))))) ≡ Some (unwrap_or number 384, settings)
options_read number settings fit range =
    let cap : Option (List ℕ) = option_map decimal settings.max_capacity in
    let log : Option (List ℕ) = option_map decimal number in
    let seed : Option (List ℕ) = option_map decimal settings.seed in
    let ttl : Option (List ℕ) = option_map decimal settings.time_to_live in
    let tti : Option (List ℕ) = option_map decimal settings.time_to_idle in
    let heard : Option (List ℕ) = switch settings.listener in
    let closed : Option (List ℕ) = switch settings.closures in
    let at_closed : List ℕ = option_words (codes "closures") closed in
    let at_set : List ℕ = option_words (codes "listener") heard ++ at_closed in
    let at_tti : List ℕ = option_words (codes "tti=") tti ++ at_set in
    let at_ttl : List ℕ = option_words (codes "ttl=") ttl ++ at_tti in
    let at_seed : List ℕ = option_words (codes "seed=") seed ++ at_ttl in
    let at_log : List ℕ = option_words (codes "log=") log ++ at_seed in
    let whole : at_closed ++ [] ≡ at_closed = append-nil at_closed in
    let no_set : after (codes " listener") at_closed ≡ None = none_in_switch (codes " listener") closed refl (λ s. refl) in
    let no_tti : after (codes " tti=") at_set ≡ None = misses (codes " tti=") (codes "listener") heard at_closed (λ s. refl) (none_in_switch (codes " tti=") closed refl (λ s. refl)) in
    let no_ttl : after (codes " ttl=") at_tti ≡ None = misses (codes " ttl=") (codes "tti=") tti at_set (λ s. refl) (misses (codes " ttl=") (codes "listener") heard at_closed (λ s. refl) (none_in_switch (codes " ttl=") closed refl (λ s. refl))) in
    let no_seed : after (codes " seed=") at_ttl ≡ None = misses (codes " seed=") (codes "ttl=") ttl at_tti (λ s. refl) (misses (codes " seed=") (codes "tti=") tti at_set (λ s. refl) (misses (codes " seed=") (codes "listener") heard at_closed (λ s. refl) (none_in_switch (codes " seed=") closed refl (λ s. refl)))) in
    let no_log : after (codes " log=") at_seed ≡ None = misses (codes " log=") (codes "seed=") seed at_ttl (λ s. refl) (misses (codes " log=") (codes "ttl=") ttl at_tti (λ s. refl) (misses (codes " log=") (codes "tti=") tti at_set (λ s. refl) (misses (codes " log=") (codes "listener") heard at_closed (λ s. refl) (none_in_switch (codes " log=") closed refl (λ s. refl))))) in
    let no_cap : after (codes " cap=") at_log ≡ None = misses (codes " cap=") (codes "log=") log at_seed (λ s. refl) (misses (codes " cap=") (codes "seed=") seed at_ttl (λ s. refl) (misses (codes " cap=") (codes "ttl=") ttl at_tti (λ s. refl) (misses (codes " cap=") (codes "tti=") tti at_set (λ s. refl) (misses (codes " cap=") (codes "listener") heard at_closed (λ s. refl) (none_in_switch (codes " cap=") closed refl (λ s. refl)))))) in
    let ends_closed : Ends at_closed = subst Ends whole (ends_words (codes "closures") closed [] tt) in
    let ends_set : Ends at_set = ends_words (codes "listener") heard at_closed ends_closed in
    let ends_tti : Ends at_tti = ends_words (codes "tti=") tti at_set ends_set in
    let ends_ttl : Ends at_ttl = ends_words (codes "ttl=") ttl at_tti ends_tti in
    let ends_seed : Ends at_seed = ends_words (codes "seed=") seed at_ttl ends_ttl in
    let ends_log : Ends at_log = ends_words (codes "log=") log at_seed ends_seed in
    let cut_cap : cut_option (codes " cap=") (option_words (codes "cap=") cap ++ at_log) ≡ (cap, at_log) = cut_read (codes "cap=") cap at_log (number_close settings.max_capacity fit.capacity) ends_log (λ s. refl) no_cap in
    let cut_log : cut_option (codes " log=") at_log ≡ (log, at_seed) = cut_read (codes "log=") log at_seed (number_close number (small number range.1)) ends_seed (λ s. refl) no_log in
    let cut_seed : cut_option (codes " seed=") at_seed ≡ (seed, at_ttl) = cut_read (codes "seed=") seed at_ttl (number_close settings.seed fit.seed) ends_ttl (λ s. refl) no_seed in
    let cut_ttl : cut_option (codes " ttl=") at_ttl ≡ (ttl, at_tti) = cut_read (codes "ttl=") ttl at_tti (number_close settings.time_to_live fit.live) ends_tti (λ s. refl) no_ttl in
    let cut_tti : cut_option (codes " tti=") at_tti ≡ (tti, at_set) = cut_read (codes "tti=") tti at_set (number_close settings.time_to_idle fit.idle) ends_set (λ s. refl) no_tti in
    let cut_heard : cut_option (codes " listener") at_set ≡ (heard, at_closed) = cut_read (codes "listener") heard at_closed (switch_close settings.listener) ends_closed (λ s. refl) no_set in
    let cut_closed : cut_option (codes " closures") at_closed ≡ (closed, []) = ap (cut_option (codes " closures")) (sym whole) ∙ cut_read (codes "closures") closed [] (switch_close settings.closures) tt (λ s. refl) refl in
    ap after_cap cut_cap
    ∙ ap (after_log cap) cut_log ∙ ap (after_seed cap log) cut_seed ∙ ap (after_ttl cap log seed) cut_ttl ∙ ap (after_tti cap log seed ttl) cut_tti
    ∙ ap (after_set cap log seed ttl tti) cut_heard ∙ ap (after_closures cap log seed ttl tti heard) cut_closed
    ∙ made_read number settings fit range

-- the line of a cache is read as its log's size and its settings
pub cache_read : (line : List ℕ) (log : ℕ) (settings : Settings) → IsCacheLine line log settings → cache_of line ≡ Some (log, settings)
cache_read line log settings h =
    let range : (1 ≤ unwrap_or h.said 384) × (unwrap_or h.said 384 ≤ 65536) = subst (λ n. (1 ≤ n) × (n ≤ 65536)) h.size h.range in
    ap cache_of h.spelled ∙ options_read h.said settings h.fit range ∙ ap (λ n. Some (n, settings)) (sym h.size)

none_over : {A : Type 0} (left : List ℕ) (o : Option A) → 0 < length left → unless_left left o ≡ None
none_over [] o h = absurd (omega arith)
none_over (b ∷ left) o h = refl

-- what follows an option
abbrev rest_of : List ℕ → List ℕ → List ℕ
rest_of name bytes = (cut_option name bytes).1

-- where bytes are left over no cache is read
pub too_long : (line bytes some more seeded fewer least last left : List ℕ) → after (codes "cache") line ≡ Some bytes → some ≡ rest_of (codes " cap=") bytes → more ≡ rest_of (codes " log=") some → seeded ≡ rest_of (codes " seed=") more → fewer ≡ rest_of (codes " ttl=") seeded → least ≡ rest_of (codes " tti=") fewer → last ≡ rest_of (codes " listener") least → left ≡ rest_of (codes " closures") last → 0 < length left → None ≡ cache_of line
too_long line bytes some more seeded fewer least last left here cap log seed ttl tti listener closures over =
    let rest : List ℕ → List ℕ = λ b. rest_of (codes " closures") (rest_of (codes " listener") (rest_of (codes " tti=") (rest_of (codes " ttl=") (rest_of (codes " seed=") (rest_of (codes " log=") (rest_of (codes " cap=") b)))))) in
    let is : left ≡ rest bytes =
    closures ∙ ap (rest_of (codes " closures")) (listener ∙ ap (rest_of (codes " listener")) (tti ∙ ap (rest_of (codes " tti=")) (ttl ∙ ap (rest_of (codes " ttl=")) (seed ∙ ap (rest_of (codes " seed=")) (log ∙ ap (rest_of (codes " log=")) cap))))) in
    sym (ap (option_and_then options_of) here ∙ none_over (rest bytes) _ (subst (λ t. 0 < length t) is over))
