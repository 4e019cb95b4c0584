pub mod SheetRan
