pub mod Entry
pub mod Store
pub mod Laws
