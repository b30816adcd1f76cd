pub mod Instruments
