use Rattle.std.proofs.Common.{length, ap, arith}
use Rattle.zs_posts.specs.Keys.{is_key}
use Rattle.zs_posts.proofs.Settling.{length_without}
use Rattle.zs_posts.proofs.posts.settle.Goals as goal

pub returns-clause-room : goal.returns-clause-room
returns-clause-room g c =
    omega (
      arith,
      ap (λ m. length m.rows) c.remove.ensures.rows,
      length_without (is_key c.args.key) c.args.map.now.rows c.in-Some.post c.in-Some.ensures.post,
      c.push_back_reserved.ensures.len,
      c.push_back_reserved.ensures.capacity,
      c.requires,
    )
