use Rattle.zs_cell.proofs.session.Session.run.Goals as goal

pub settle-requires : goal.settle-requires
settle-requires g c = c.run-worked.ensures.room c.args.self.now.lock.key c.requires.lents
