pub mod Maps
pub mod Reports
