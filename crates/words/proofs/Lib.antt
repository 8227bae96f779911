pub mod Laws
pub mod AreaLaws
