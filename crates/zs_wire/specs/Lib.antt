pub mod SampleKind
pub mod Parameters
pub mod Laws
