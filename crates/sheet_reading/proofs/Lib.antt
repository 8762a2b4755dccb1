pub mod Beginnings
pub mod LineSteps
pub mod NumberSteps
pub mod OneFault
pub mod OneLine
pub mod OneReading
pub mod PathSteps
pub mod TextSteps
