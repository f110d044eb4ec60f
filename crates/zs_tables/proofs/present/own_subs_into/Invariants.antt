use Rattle.zs_tables.proofs.present.own_subs_into.Given as goal

abbrev pub ghosts-met_uncounted : goal.ghosts-met_uncounted
ghosts-met_uncounted a = record { name = a.blank.name; parts = a.blank.parts }
