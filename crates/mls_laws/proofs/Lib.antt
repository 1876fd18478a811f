mod AllReads
mod Answered
mod Created
mod Deleted
mod ExampleStart
mod Falls
mod FlowExamples
mod FlowLabels
mod Journalled
mod Kept
pub mod Laws
mod Lowered
mod Plain
mod Provenances
mod Replied
mod Rescinded
mod SevenStates
