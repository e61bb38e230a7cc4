-- How memory stores values of public types (their views and what always holds of them), and what private contracts
-- speak of. These follow the code.
pub mod KeptRuns
-- the core
pub mod Own
pub mod Kept
pub mod Inside
pub mod Posts
-- boards
pub mod Seats
pub mod Closing
