pub mod CsvLines
pub mod Influx
pub mod JsonLines
pub mod Readings
pub mod Rows
pub mod Told
