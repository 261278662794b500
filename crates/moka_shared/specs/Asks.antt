-- The notes that steps ask for.
use Rattle.std.specs.Prelude.{ℕ, suc, Option, Some}
use Rattle.std.specs.Option.{option_map}
use Rattle.boxcar.specs.Table.{first}
use Rattle.moka_history.specs.declared.note.Note.{Note}
use Rattle.moka_history.specs.declared.note.Note.TheVariants.{Announced, Changed, ArrayAnnounced, ArrayLinked, CellAdded, CellHome, Copied, Sealed, Swung}
use Rattle.moka_shared.specs.declared.asked.Drawn.{Drawn}
use Rattle.moka_shared.specs.declared.asked.Brought.{Brought}
use Rattle.moka_shared.specs.declared.asked.Copying.{Copying}
use Rattle.moka_shared.specs.declared.asked.Exchange.{Exchange}
use Rattle.moka_shared.specs.declared.asked.Linking.{Linking}
use Rattle.moka_shared.specs.declared.asked.Planned.{Planned}
use Rattle.moka_shared.specs.declared.asked.Seal.{Seal}
use Rattle.moka_shared.specs.declared.asked.Swinging.{Swinging}
use denote.Ref.{Bor}

-- the pair that lies behind these references
abbrev pub pair_of : {K V : Type 0} → Option (Bor K × Bor V) → Option (K × V)
pair_of pair = option_map (λ p. (p.0.now, p.1.now)) pair

abbrev pub drawn_note : {K V S : Type 0} → Drawn K V → Note K V S
drawn_note d = Announced d.ticket (pair_of d.pair)

abbrev pub exchange_note : {K V S : Type 0} → Exchange → Note K V S
exchange_note e = Changed e.ticket e.array e.index e.to

abbrev pub planned_note : {K V S : Type 0} → Planned → Note K V S
planned_note p = ArrayAnnounced p.ticket p.segment p.length p.grown

abbrev pub added_note : {K V S : Type 0} → (ticket : ℕ) → Note K V S
added_note ticket = CellAdded ticket

abbrev pub brought_note : {K V S : Type 0} → Brought → Note K V S
brought_note b = CellHome b.ticket b.pen.now.nib.key

abbrev pub seal_note : {K V S : Type 0} → Seal → Note K V S
seal_note s = Sealed s.array s.index s.to

abbrev pub link_note : {K V S : Type 0} → Linking → Note K V S
link_note l = ArrayLinked l.ticket l.segment (Some (suc l.segment)) l.keys.numbers
    (first l.behind.numbers)

abbrev pub copy_note : {K V S : Type 0} → Copying → Note K V S
copy_note c = Copied c.array c.index c.to

abbrev pub swing_note : {K V S : Type 0} → Swinging → Note K V S
swing_note s = Swung s.segment s.from s.to
