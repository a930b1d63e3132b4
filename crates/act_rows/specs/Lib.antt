pub mod Rows
pub mod ScriptRows
pub mod KindRows
pub mod FurtherRows
pub mod EndRows
pub mod PendingRows
pub mod LineRows
