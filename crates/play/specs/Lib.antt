pub mod Play
pub mod Lines
pub mod Laws
pub mod LineLaws
pub mod ShownLaws
