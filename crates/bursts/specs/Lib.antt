-- The definitions.
pub mod Totals
pub mod LoanIds
pub mod GoingOn
pub mod Holdings
pub mod Tickets
pub mod Benches
