pub mod HiddenLeaf
pub mod Held
pub mod Depths
