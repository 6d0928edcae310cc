-- Values side by side, the bits that select a row, pieces loaded from columns, and columns in the order of the memories.
pub mod Cuts
pub mod Masks
pub mod Loads
pub mod Order
pub mod Stores
pub mod Rooms
