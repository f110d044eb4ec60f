use Rattle.zs_posts.proofs.Rooms.{opens}
use Rattle.zs_posts.proofs.tag.Maker.open.Goals as goal

pub of_words-requires : goal.of_words-requires
of_words-requires c = opens
