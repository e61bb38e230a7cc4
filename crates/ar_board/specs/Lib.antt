-- what a post does to histories, and what a worker keeps of it
pub mod Posting
pub mod Receipts
-- what a board keeps under one lock
pub mod Cell
-- the core, on plain lists
pub mod Core
-- boards
pub mod Locks
pub mod Seats
pub mod Lost
pub mod Board
pub mod Private
