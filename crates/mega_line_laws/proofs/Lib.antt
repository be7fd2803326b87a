pub mod Spelled
pub mod Typed
pub mod Again
pub mod Asking
pub mod Clients
pub mod Starting
pub mod Texts
pub mod Small
