use Rattle.disco_sockets.proofs.try_server.Given as goal

abbrev pub ghosts-run-J-Naming : goal.ghosts-run-J-Naming
ghosts-run-J-Naming g a = record { list = a.opening.marks.name }

abbrev pub ghosts-run-J-Ledger : goal.ghosts-run-J-Ledger
ghosts-run-J-Ledger g a = record { name = a.opening.blank.name; parts = a.opening.blank.parts }

abbrev pub ghosts-run-2-J-Naming : goal.ghosts-run-2-J-Naming
ghosts-run-2-J-Naming g a = record { list = a.opening.marks.name }

abbrev pub ghosts-run-2-J-Ledger : goal.ghosts-run-2-J-Ledger
ghosts-run-2-J-Ledger g a = record { name = a.opening.blank.name; parts = a.opening.blank.parts }
