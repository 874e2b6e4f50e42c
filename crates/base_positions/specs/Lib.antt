pub mod BasePosEcef
pub mod BasePosLlh
