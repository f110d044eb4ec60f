use Rattle.zs_announcing.proofs.publications.hand_over.Given as goal

abbrev pub ghosts-recipients_uncounted : goal.ghosts-recipients_uncounted
ghosts-recipients_uncounted a = record { name = a.blank.name; parts = a.blank.parts }
