-- Tables as text: the two machines that read one, the table of a text, and the text of a table.
pub mod Bytes
pub mod Head
pub mod Scan
pub mod View
