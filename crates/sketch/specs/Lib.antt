pub mod Orders
pub mod OrdersLemmas
pub mod Exchanges
pub mod Sketches
pub mod Making
