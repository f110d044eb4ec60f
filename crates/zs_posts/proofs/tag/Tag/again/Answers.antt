use Rattle.std.proofs.Common.{rules}
use Rattle.zs_posts.proofs.Rooms.{copy_splits}
use Rattle.zs_posts.proofs.tag.Tag.again.Goals as goal

pub split_seat-seat-requires : goal.split_seat-seat-requires
split_seat-seat-requires c = (search rules, search rules, copy_splits _ _)
