use Rattle.std.proofs.Common.{[], rules}
use Rattle.zs_posts.specs.declared.numbering.View.TheVariants.{Blank}
use Rattle.zs_posts.proofs.Rooms.{sit_enters, draw_allowed}
use Rattle.zs_posts.proofs.tag.Maker.make.Goals as goal

pub load_new_seat-number-requires : goal.load_new_seat-number-requires
load_new_seat-number-requires c = (search rules, sit_enters _ (Blank, []))

pub compare_exchange_with-found-requires : goal.compare_exchange_with-found-requires
compare_exchange_with-found-requires c = (search rules, search rules, draw_allowed _ _ _ _ _ c.load_new_seat-number.ensures.2)
