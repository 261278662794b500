-- What rules are worth: their plain values.
use Rattle.std.specs.Prelude.{◌≡◌, ◌<◌, ◌≤◌, ℕ, zero, suc, ◌+◌, ◌*◌, ◌%◌, ◌^◌, ◌==◌, nat_lt, nat_le, min, max, Bool, true, ◌&&◌, cond, List, Option, Some, None, slice_get}
use Rattle.std.specs.Option.{option_map_or}
use Rattle.moka_evaluator.specs.declared.frames.Operands.{Operands}
use Rattle.moka_evaluator.specs.declared.frames.Operands.TheVariants.{Nothing, First, Both}
use Rattle.moka_evaluator.specs.declared.rules.Rule.{Rule}
use Rattle.moka_evaluator.specs.declared.rules.Rule.TheVariants.{Const, Add, Mul, Min, Max, If}

-- the rule of this number, if there is one: the first is rule 1
abbrev pub rule_at : List Rule → ℕ → Option Rule
rule_at rules zero = None
rule_at rules (suc n) = slice_get rules n

-- the value of a rule whose operands have these values
abbrev pub value_by : (ℕ → ℕ) → Rule → ℕ
value_by worth (Const n) = n
value_by worth (Add a b) = (worth a + worth b) % 2 ^ 32
value_by worth (Mul a b) = (worth a * worth b) % 2 ^ 32
value_by worth (Min a b) = min (worth a) (worth b)
value_by worth (Max a b) = max (worth a) (worth b)
value_by worth (If a b c) = cond (worth a == 0) (worth c) (worth b)

-- the values of the rules up to the last, each by those of the earlier ones
abbrev pub values_to : List Rule → ℕ → ℕ → ℕ
values_to rules zero r = 0
values_to rules (suc last) r =
    cond (suc last == r) (option_map_or (value_by (values_to rules last)) (rule_at rules (suc last)) 0)
    (values_to rules last r)

-- the plain value of a rule
abbrev pub plain : List Rule → ℕ → ℕ
plain rules r = values_to rules r r

-- the rule builds on rules of which P holds
abbrev pub BuildsOn : (ℕ → Type 0) → Rule → Type 0
BuildsOn P (Const n) = Unit {0}
BuildsOn P (Add a b) = P a × P b
BuildsOn P (Mul a b) = P a × P b
BuildsOn P (Min a b) = P a × P b
BuildsOn P (Max a b) = P a × P b
BuildsOn P (If a b c) = P a × P b × P c

-- each operand is an earlier rule
abbrev pub IsAcyclic : List Rule → Type 0
IsAcyclic rules =
    (r : ℕ) (rule : Rule) → rule_at rules r ≡ Some rule → BuildsOn (λ a. (0 < a) × (a < r)) rule

-- ---- whether each operand is an earlier rule

-- the operand is one of so many rules, which are numbered from 1
abbrev pub IsOneOf : ℕ → ℕ → Type 0
IsOneOf count operand = (0 < operand) × (operand ≤ count)

abbrev pub is_earlier : ℕ → ℕ → Bool
is_earlier count operand = nat_lt 0 operand && nat_le operand count

-- each operand of the rule is one of them
abbrev pub are_earlier : ℕ → Rule → Bool
are_earlier count (Const n) = true
are_earlier count (Add a b) = is_earlier count a && is_earlier count b
are_earlier count (Mul a b) = is_earlier count a && is_earlier count b
are_earlier count (Min a b) = is_earlier count a && is_earlier count b
are_earlier count (Max a b) = is_earlier count a && is_earlier count b
are_earlier count (If a b c) = (is_earlier count a && is_earlier count b) && is_earlier count c

-- ---- one operand after the other

-- one more value was handed down
abbrev pub with_value : Operands → ℕ → Operands
with_value Nothing value = First value
with_value (First first) value = Both first value
with_value (Both first second) value = Both first second

-- of two operands the one that is needed after these values
abbrev pub next_of_two : ℕ → ℕ → Operands → Option ℕ
next_of_two a b Nothing = Some a
next_of_two a b (First first) = Some b
next_of_two a b (Both first second) = None

-- first whether, and then the one or the other
abbrev pub next_of_branch : ℕ → ℕ → ℕ → Operands → Option ℕ
next_of_branch a b c Nothing = Some a
next_of_branch a b c (First first) = Some (cond (first == 0) c b)
next_of_branch a b c (Both first second) = None

-- the operand of the rule that is needed after these values, in the order written
abbrev pub next_operand : Rule → Operands → Option ℕ
next_operand (Const n) operands = None
next_operand (Add a b) operands = next_of_two a b operands
next_operand (Mul a b) operands = next_of_two a b operands
next_operand (Min a b) operands = next_of_two a b operands
next_operand (Max a b) operands = next_of_two a b operands
next_operand (If a b c) operands = next_of_branch a b c operands

abbrev pub first_of : Operands → ℕ
first_of Nothing = 0
first_of (First first) = first
first_of (Both first second) = first

abbrev pub second_of : Operands → ℕ
second_of Nothing = 0
second_of (First first) = 0
second_of (Both first second) = second

-- the value that follows from those that were handed down
abbrev pub value_from : Rule → Operands → ℕ
value_from (Const n) operands = n
value_from (Add a b) operands = (first_of operands + second_of operands) % 2 ^ 32
value_from (Mul a b) operands = (first_of operands * second_of operands) % 2 ^ 32
value_from (Min a b) operands = min (first_of operands) (second_of operands)
value_from (Max a b) operands = max (first_of operands) (second_of operands)
value_from (If a b c) operands = second_of operands
