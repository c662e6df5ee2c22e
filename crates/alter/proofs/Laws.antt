pub mod Patch
pub mod Refused
pub mod Board
pub mod Meet
pub mod Renew
pub mod Runs
pub mod Edges
