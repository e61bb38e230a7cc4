-- Definitions of the private contracts and the proofs alone: what the stack and the state in memory say, and how a step
-- of the code matches one of the machine.
--
-- No public contract speaks of them, so a reader need not believe them.
pub mod Frames
pub mod Steps
