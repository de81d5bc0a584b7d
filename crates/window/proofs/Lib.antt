pub mod LoopTurns
