-- What a reader must believe of the gauge.
pub mod Gauge
pub mod History
