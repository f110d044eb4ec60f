use Rattle.std.proofs.Common.{ap, ◌∙◌}
use Rattle.std.specs.Arc.{arc_value}
use Rattle.std.specs.Option.{option_map}
use Rattle.zs_posts.specs.Settled.{taken_out}
use Rattle.zs_posts.proofs.Opening.{opened_out}
use Rattle.zs_posts.proofs.posts.Posts.open_and_lend.Goals as goal

pub returns-in-Err-clause-err : goal.returns-in-Err-clause-err
returns-in-Err-clause-err g c =
    opened_out c.args.name (option_map arc_value c.args.handler.now) c.args.self.now c.open.new.self c.take_out-post.new.self c.in-Ok.ensures.ok c.in-Ok.ensures.none
    (c.take_out-post.ensures.posts ∙ ap (taken_out c.args.name.key) c.in-Err.ensures.err)
