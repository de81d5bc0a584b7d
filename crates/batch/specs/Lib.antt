pub mod Batches
pub mod Keys
pub mod Laws
pub mod KeyLaws
pub mod RefreshLaws
