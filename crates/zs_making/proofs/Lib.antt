pub mod CutGets
