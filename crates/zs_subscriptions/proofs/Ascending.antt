-- Lists in ascending order, and what is true of each element.
pub use Rattle.zs_keyed.proofs.Ordered.{all_weaker, all_both, all_map, all_unmap, all_filter, all_push, ascend_rises, ascend_map, ascend_unmap, ascend_filter, ascend_push, all_placed, ascend_placed}
