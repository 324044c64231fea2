use Rattle.disco_rows.proofs.kept.is_kept_at.Given as goal

abbrev pub ghosts-over_a_desk-J-Naming : goal.ghosts-over_a_desk-J-Naming
ghosts-over_a_desk-J-Naming g a = record { list = a.opening.marks.name }

abbrev pub ghosts-over_a_desk-J-Ledger : goal.ghosts-over_a_desk-J-Ledger
ghosts-over_a_desk-J-Ledger g a = record { name = a.opening.blank.name; parts = a.opening.blank.parts }
