pub mod Feed
pub mod Laws
