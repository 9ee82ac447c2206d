pub mod Softs
