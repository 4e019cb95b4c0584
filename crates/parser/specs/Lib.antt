pub mod Script
pub mod Read
pub mod Corners
