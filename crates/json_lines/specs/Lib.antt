pub mod Cut
pub mod Field
pub mod Lenient
pub mod Quick
pub mod TakenLine
