pub mod CommandLemmas
pub mod DecimalLemmas
pub mod ItemLemmas
pub mod LineLemmas
pub mod TableLemmas
pub mod RecordLemmas
pub mod NameLemmas
pub mod PathLemmas
