-- What a reader takes at its place.
pub mod Reading
