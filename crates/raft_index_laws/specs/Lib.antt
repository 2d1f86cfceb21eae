pub mod Standing
pub mod Opening
pub mod ForQueues
pub mod Rewriting
pub mod Gathering
pub mod DroppingOld
pub mod NewFiles
pub mod AtomicGroup
