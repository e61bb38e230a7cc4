pub mod Views
pub mod FitLemmas
pub mod DigitsLemmas
pub mod Signs
mod Facts
pub mod Orders
pub mod FieldLists
pub mod Answers
pub mod Marks
pub mod Fractions
pub mod WidestLemmas
pub mod Merges
pub mod Steps
pub mod Same
pub mod TextTests
pub mod Predicates
