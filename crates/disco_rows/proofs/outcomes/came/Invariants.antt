use Rattle.disco_rows.proofs.outcomes.came.Given as goal

abbrev pub ghosts-run_command-J-Naming : goal.ghosts-run_command-J-Naming
ghosts-run_command-J-Naming g a = record { list = a.opening.marks.name }

abbrev pub ghosts-run_command-J-Ledger : goal.ghosts-run_command-J-Ledger
ghosts-run_command-J-Ledger g a = record { name = a.opening.blank.name; parts = a.opening.blank.parts }
