use Rattle.disco_surface.proofs.tell_by.Given as goal

abbrev pub ghosts-tell_desk-J-Naming : goal.ghosts-tell_desk-J-Naming
ghosts-tell_desk-J-Naming g a = record { list = a.opening.marks.name }

abbrev pub ghosts-tell_desk-J-Ledger : goal.ghosts-tell_desk-J-Ledger
ghosts-tell_desk-J-Ledger g a = record { name = a.opening.blank.name; parts = a.opening.blank.parts }
