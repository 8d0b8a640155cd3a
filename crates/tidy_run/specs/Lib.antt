pub mod Arguments
pub mod Findings
pub mod Mended
pub mod Report
pub mod Rules
pub mod Run
