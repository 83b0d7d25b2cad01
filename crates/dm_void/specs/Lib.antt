pub mod Bodies
pub mod Examples
