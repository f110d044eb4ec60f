-- Lists in ascending order, and a place in one.
pub use Rattle.zs_rows.specs.Ascending.{Ascend, placed, IsPlaceOf}
