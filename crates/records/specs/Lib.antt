pub mod Records
pub mod StepBack
pub mod inner
