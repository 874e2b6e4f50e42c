pub mod PosEcef
pub mod PosLlh
