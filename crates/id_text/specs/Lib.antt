pub mod Tokens
pub mod Bytes
pub mod Lexes
pub mod Places
pub mod Spellings
