pub mod Trees
pub mod Running
pub mod Refusing
pub mod OneCause
pub mod Shortened
pub mod Headline
pub mod Filters
pub mod Ready
