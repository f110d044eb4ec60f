pub mod Encodings
pub mod ReadingFields
