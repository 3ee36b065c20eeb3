pub mod Word
pub mod Count
