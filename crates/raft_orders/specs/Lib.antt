pub mod Order
pub mod Orders
