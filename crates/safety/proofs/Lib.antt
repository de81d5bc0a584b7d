pub mod BaseBreaks
pub mod FiveRun
pub mod HonestRuns
pub mod Whole
pub mod Requirements
