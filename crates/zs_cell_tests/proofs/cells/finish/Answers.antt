use Rattle.zs_cell_tests.proofs.cells.finish.Goals as goal

pub give_back-reports-requires : goal.give_back-reports-requires
give_back-reports-requires g c = c.run-ran.ensures.room c.args.cell.now.exchange.posts.room c.requires
