-- What the programs that try calls share.
pub mod Borders
pub mod Build
pub mod Nets
pub mod Numbered
pub mod Paint
pub mod Requests
pub mod Sums
pub mod Tally
pub mod Spoilt
