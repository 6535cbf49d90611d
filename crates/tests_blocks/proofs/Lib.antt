pub mod OneSample
