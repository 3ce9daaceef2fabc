pub mod ExportLaws
pub mod RowLaws
