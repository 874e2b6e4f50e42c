pub mod Fronts
pub mod StepCases
pub mod WholeEpochs
