-- Lists in ascending order, and what is true of each element.
pub use Rattle.zs_rows.proofs.Ascending.{all_weaker, all_both, all_filter, all_pass, all_fail, all_append, ascend_rises, ascend_filter, ascend_append, ascend_placed, all_placed, ascend_short}
