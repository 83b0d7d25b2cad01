pub mod Noises
pub mod Noted
pub mod Places
pub mod Surroundings
pub mod Ways
pub mod Writes
