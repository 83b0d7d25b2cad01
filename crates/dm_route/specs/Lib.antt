pub mod Legs
pub mod LegFalls
