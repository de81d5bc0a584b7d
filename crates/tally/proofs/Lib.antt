pub mod AnyOrder
pub mod Larger
pub mod Laws
pub mod ReadOrder
