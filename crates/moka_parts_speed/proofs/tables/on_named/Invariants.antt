use Rattle.moka_parts_speed.proofs.tables.on_named.Given as goal

-- the book that was just opened
abbrev pub ghosts-on_book : goal.ghosts-on_book
ghosts-on_book g a = record { book = a.book.0 }
