pub mod RowsStored
pub mod RowsBack
pub mod ObsRows
pub mod FieldRows
pub mod LogRows
