pub mod CallLaws
pub mod OpenLaws
pub mod SheetTrace
pub mod SheetShares
