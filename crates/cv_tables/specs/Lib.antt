-- The definitions of the tables, in reading order.
pub mod Rows
pub mod Tabs
