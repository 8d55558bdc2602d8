pub mod Operators
pub mod Operands
pub mod PlainFired
