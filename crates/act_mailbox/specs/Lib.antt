pub use Rattle.atomic_table.specs.Seated
pub mod Lines
pub mod Passes
pub mod Mails
pub mod Controls
pub mod Notices
pub mod Traces
