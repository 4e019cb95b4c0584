pub mod Printed
pub mod SheetTrace
pub mod SheetShares
pub mod Ran
