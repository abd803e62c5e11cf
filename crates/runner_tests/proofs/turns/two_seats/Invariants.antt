use Rattle.runner_tests.proofs.turns.two_seats.Given as goal

abbrev pub ghosts-check_seats-O-Crew : goal.ghosts-check_seats-O-Crew
ghosts-check_seats-O-Crew g a = record { workers = 2 }

abbrev pub ghosts-check_seats-O-Ledger : goal.ghosts-check_seats-O-Ledger
ghosts-check_seats-O-Ledger g a = record { name = a.marks.name; parts = a.marks.parts }

abbrev pub ghosts-check_seats-L1-Ledger : goal.ghosts-check_seats-L1-Ledger
ghosts-check_seats-L1-Ledger g a = record { name = a.one.name; parts = a.one.parts }

abbrev pub ghosts-check_seats-L2-Ledger : goal.ghosts-check_seats-L2-Ledger
ghosts-check_seats-L2-Ledger g a = record { name = a.two.name; parts = a.two.parts }

abbrev pub ghosts-check_seats-L3-Ledger : goal.ghosts-check_seats-L3-Ledger
ghosts-check_seats-L3-Ledger g a = record { name = a.three.name; parts = a.three.parts }

abbrev pub ghosts-check_seats-L4-Ledger : goal.ghosts-check_seats-L4-Ledger
ghosts-check_seats-L4-Ledger g a = record { name = a.four.name; parts = a.four.parts }

abbrev pub ghosts-check_seats-L5-Ledger : goal.ghosts-check_seats-L5-Ledger
ghosts-check_seats-L5-Ledger g a = record { name = a.five.name; parts = a.five.parts }

abbrev pub ghosts-check_seats-L6-Ledger : goal.ghosts-check_seats-L6-Ledger
ghosts-check_seats-L6-Ledger g a = record { name = a.six.name; parts = a.six.parts }

abbrev pub ghosts-check_seats-L7-Ledger : goal.ghosts-check_seats-L7-Ledger
ghosts-check_seats-L7-Ledger g a = record { name = a.seven.name; parts = a.seven.parts }

abbrev pub ghosts-check_seats-L8-Ledger : goal.ghosts-check_seats-L8-Ledger
ghosts-check_seats-L8-Ledger g a = record { name = a.eight.name; parts = a.eight.parts }
