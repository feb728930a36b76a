pub mod Pair
pub mod Answer
pub mod Table
pub mod OnePhase
pub mod Only
