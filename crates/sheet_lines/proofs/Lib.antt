pub mod Cutting
pub mod Fields
pub mod Reading
pub mod Texts
