-- Courses of calls worked by hand: the definitions give them.
use Rattle.std.proofs.Common.{◌≡◌, [], ◌∷◌, true, false, Some, None, refl}
use Rattle.moka_words.specs.declared.words.Word.TheVariants.{Empty, Live, Tomb, SealedEmpty}
use Rattle.moka_words.specs.declared.accesses.Access.TheVariants as access
use Rattle.moka_words.specs.declared.accesses.Seen.TheVariants as seen
use Rattle.moka_growth.specs.declared.kinds.CallKind.TheVariants as kind
use Rattle.moka_growth.specs.Growing.{next_size, laid_out}
use Rattle.moka_growth.specs.Calls.{Call, Going, Decided, access_of, next_of, call_from, goes}
use Rattle.moka_growth.specs.Calls as call

-- an insert under hash 7
abbrev insert : Call
insert = call_from kind.Insert 7

-- without a root it links 128 words, and a get finds nothing
first_array : next_of insert (seen.Root None 0 0 0) ≡ goes insert (call.Next None 0 [])
first_array = refl

first_link : access_of (record insert { point = call.Link None 0 [] }) ≡ access.Link None 128
first_link = refl

nothing : next_of (call_from kind.Get 7) (seen.Root None 0 0 0) ≡ Decided (call.Kept None)
nothing = refl

-- 90 keys in 128 words are due to grow, once a call, and 89 are not
due : next_of insert (seen.Root (Some 3) 128 0 90) ≡ Going (record insert { spent = true; point = call.Seal 3 128 0 [] })
due = refl

spent : next_of (record insert { spent = true }) (seen.Root (Some 3) 128 0 90)
    ≡ goes (record insert { spent = true }) (call.Probe 3 128 0)
spent = refl

not_due : next_of insert (seen.Root (Some 3) 128 0 89) ≡ goes insert (call.Probe 3 128 0)
not_due = refl

-- a call that just met a sealed word of the root helps to grow it
helps : next_of (record (call_from kind.Get 7) { point = call.Root (Some 3) }) (seen.Root (Some 3) 4 0 1)
    ≡ goes (call_from kind.Get 7) (call.Seal 3 4 0 [])
helps = refl

-- a probe goes round the end, and past the last bucket an insert grows the array
round_the_end : access_of (record insert { point = call.Probe 3 4 1 }) ≡ access.LoadWord 3 0
round_the_end = refl

full : next_of (record insert { point = call.Probe 3 4 3 }) (seen.Word (Tomb 2) 6 false) ≡ goes insert (call.Seal 3 4 0 [])
full = refl

-- a change that meets a seal loads the root again
met_seal : next_of (record insert { point = call.Change 3 4 1 Empty (Live 9) }) (seen.Exchanged (Some SealedEmpty))
    ≡ goes insert (call.Root (Some 3))
met_seal = refl

-- what was sealed last is kept, and then the next array is sought
last_seal : next_of (record insert { point = call.Close 3 2 1 (Live 5) 8 ((4, 6) ∷ []) }) (seen.Exchanged None)
    ≡ goes insert (call.Next (Some 3) 2 ((4, 6) ∷ (5, 8) ∷ []))
last_seal = refl

-- two nodes of two words need four, and one of two needs two
longer : next_size (Some 3) 2 2 ≡ 4
longer = refl

as_long : next_size (Some 3) 2 1 ≡ 2
as_long = refl

laid : laid_out ((4, 6) ∷ (5, 6) ∷ []) 4 ≡ Empty ∷ Empty ∷ Live 4 ∷ Live 5 ∷ []
laid = refl
