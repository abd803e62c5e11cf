use Rattle.thread_runner.proofs.workers.run_workers.Given as goal

abbrev pub ghosts-run_over-O-Crew : goal.ghosts-run_over-O-Crew
ghosts-run_over-O-Crew g a = record { workers = a.workers }

abbrev pub ghosts-run_over-O-Ledger : goal.ghosts-run_over-O-Ledger
ghosts-run_over-O-Ledger g a = record { name = a.marks.name; parts = a.marks.parts }

abbrev pub ghosts-run_over-L1-Ledger : goal.ghosts-run_over-L1-Ledger
ghosts-run_over-L1-Ledger g a = record { name = a.one.name; parts = a.one.parts }

abbrev pub ghosts-run_over-L2-Ledger : goal.ghosts-run_over-L2-Ledger
ghosts-run_over-L2-Ledger g a = record { name = a.two.name; parts = a.two.parts }

abbrev pub ghosts-run_over-L3-Ledger : goal.ghosts-run_over-L3-Ledger
ghosts-run_over-L3-Ledger g a = record { name = a.three.name; parts = a.three.parts }

abbrev pub ghosts-run_over-L4-Ledger : goal.ghosts-run_over-L4-Ledger
ghosts-run_over-L4-Ledger g a = record { name = a.four.name; parts = a.four.parts }

abbrev pub ghosts-run_over-L5-Ledger : goal.ghosts-run_over-L5-Ledger
ghosts-run_over-L5-Ledger g a = record { name = a.five.name; parts = a.five.parts }

abbrev pub ghosts-run_over-L6-Ledger : goal.ghosts-run_over-L6-Ledger
ghosts-run_over-L6-Ledger g a = record { name = a.six.name; parts = a.six.parts }

abbrev pub ghosts-run_over-L7-Ledger : goal.ghosts-run_over-L7-Ledger
ghosts-run_over-L7-Ledger g a = record { name = a.seven.name; parts = a.seven.parts }

abbrev pub ghosts-run_over-L8-Ledger : goal.ghosts-run_over-L8-Ledger
ghosts-run_over-L8-Ledger g a = record { name = a.eight.name; parts = a.eight.parts }
