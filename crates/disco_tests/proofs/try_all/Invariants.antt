use Rattle.disco_tests.proofs.try_all.Given as goal

abbrev pub ghosts-seen_by_another_thread-J-Naming : goal.ghosts-seen_by_another_thread-J-Naming
ghosts-seen_by_another_thread-J-Naming g a = record { list = a.opening.marks.name }

abbrev pub ghosts-seen_by_another_thread-J-Ledger : goal.ghosts-seen_by_another_thread-J-Ledger
ghosts-seen_by_another_thread-J-Ledger g a = record { name = a.opening.blank.name; parts = a.opening.blank.parts }

abbrev pub ghosts-none_goes_back-J-Naming : goal.ghosts-none_goes_back-J-Naming
ghosts-none_goes_back-J-Naming g a = record { list = a.opening.marks.name }

abbrev pub ghosts-none_goes_back-J-Ledger : goal.ghosts-none_goes_back-J-Ledger
ghosts-none_goes_back-J-Ledger g a = record { name = a.opening.blank.name; parts = a.opening.blank.parts }
