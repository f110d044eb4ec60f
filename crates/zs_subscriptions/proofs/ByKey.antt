-- Rows that are found by their numbers.
pub use Rattle.zs_keyed.specs.Keyed.{meeting}
pub use Rattle.zs_keyed.proofs.Ascending.{by_test, found_any}
pub use Rattle.zs_keyed.proofs.Passing.{passes_of_row, passed, passes_found, kept}
