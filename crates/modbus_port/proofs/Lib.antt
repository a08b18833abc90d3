pub mod ServingLinks
pub mod Unspawned
pub mod GivingServed
