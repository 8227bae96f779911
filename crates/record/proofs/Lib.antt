mod Exits
pub mod Slices
pub mod Answers
pub mod NodesMeant
pub mod PairsMeant
mod NodeCases
mod PairCases
mod TakeCases
pub mod PartLaws
pub mod Takes
pub mod Delivers
pub mod PutLaws
mod BuildCases
pub mod Outputs
pub mod BuildAnswers
mod Drawing
