pub mod Upgrade
pub mod OldSheets
