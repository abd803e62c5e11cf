pub mod Statuses
pub mod Replies
pub mod Plans
pub mod Commands
pub mod Delivery
pub mod CallParts
pub mod Promises
