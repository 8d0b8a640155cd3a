pub mod Arguments
pub mod Report
pub mod Run
