pub mod Forms
pub mod Pages
pub mod Places
