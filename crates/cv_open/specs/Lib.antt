-- How a command ends; files that are read; how much; what they say; and the report on them.
pub mod Ends
pub mod Readings
pub mod Rooms
pub mod Opened
pub mod Canvases
pub mod Reports
