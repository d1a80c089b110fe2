pub mod Aside
pub mod Calls
pub mod Finishes
pub mod Given
pub mod Lawful
pub mod Printing
pub mod UnderWay
pub mod View
