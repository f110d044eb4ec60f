-- Lists in ascending order, a place in one, and one more element.
pub use Rattle.zs_keyed.specs.Ascending.{Ascend, IsPlaceOf, placed_by}
