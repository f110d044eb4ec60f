pub mod Ascending
pub mod Numbers
pub mod Texts
pub mod Contents
pub mod Recipients
pub mod Lists
pub mod NumberRows
pub mod Laws
