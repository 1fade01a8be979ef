-- The words of a bridge's entries by the ports of rows, and the loops that write them.
pub mod Words
