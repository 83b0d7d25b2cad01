pub mod Operands
pub mod Waiting
pub mod Taken
pub mod Standing
pub mod Given
pub mod Left
