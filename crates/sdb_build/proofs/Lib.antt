pub mod SoundLemmas
pub mod TableLemmas
pub mod ImageLemmas
pub mod RecordLemmas
pub mod BusLemmas
