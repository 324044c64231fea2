use Rattle.disco_sockets.proofs.try_commands.Given as goal

abbrev pub ghosts-serves-J-Naming : goal.ghosts-serves-J-Naming
ghosts-serves-J-Naming g a = record { list = a.opening.marks.name }

abbrev pub ghosts-serves-J-Ledger : goal.ghosts-serves-J-Ledger
ghosts-serves-J-Ledger g a = record { name = a.opening.blank.name; parts = a.opening.blank.parts }

abbrev pub ghosts-is_refused-J-Naming : goal.ghosts-is_refused-J-Naming
ghosts-is_refused-J-Naming g a = record { list = a.opening.marks.name }

abbrev pub ghosts-is_refused-J-Ledger : goal.ghosts-is_refused-J-Ledger
ghosts-is_refused-J-Ledger g a = record { name = a.opening.blank.name; parts = a.opening.blank.parts }
