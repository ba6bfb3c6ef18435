pub mod Naming
pub mod Text
pub mod Words
pub mod Grammar
pub mod Ranges
pub mod Fault
pub mod Printed
pub mod Plain
