pub mod Actions
pub mod Saying
pub mod Reading
pub mod Laws
pub mod ReadLaws
