pub mod Sets
pub mod Groups
pub mod Ballots
pub mod Counting
pub mod Laws
pub mod Table
pub mod Many
