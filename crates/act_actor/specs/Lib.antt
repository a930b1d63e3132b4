pub mod View
pub mod Actor
pub mod StateViews
pub mod Cast
pub mod Casts
pub mod Life
