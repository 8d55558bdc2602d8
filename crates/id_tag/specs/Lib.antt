pub mod Tags
pub mod Kinds
pub mod Routes
pub mod Plains
-- for models that hold tags and values
pub mod Codes
-- for use inside
pub mod Near
