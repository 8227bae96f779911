pub mod BitLaws
pub mod MarkLaws
pub mod SpanLaws
pub mod RowLaws
