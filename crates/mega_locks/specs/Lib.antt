pub mod Rule
pub mod History
pub mod Laws
