-- Names by words of eight bytes.
pub mod Word
