pub mod Lasting
pub mod Tabled
