pub mod Written
pub mod Replicas
