use Rattle.zs_table_tests.proofs.tables.reaches_by_number.Given as goal

abbrev pub ghosts-reaches : goal.ghosts-reaches
ghosts-reaches a = record { name = a.blank.name; parts = a.blank.parts }
