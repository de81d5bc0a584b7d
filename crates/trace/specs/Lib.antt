pub mod Kinds
pub mod Records
pub mod Laws
pub mod Cases
pub mod Texts
