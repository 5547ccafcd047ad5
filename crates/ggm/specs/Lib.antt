pub mod Ggm
