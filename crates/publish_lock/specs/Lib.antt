pub mod Rules
pub mod Totals
pub mod SeatValue
pub mod Held
pub mod Seats
