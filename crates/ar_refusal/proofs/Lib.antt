pub mod Diagnosed
