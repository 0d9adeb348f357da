pub mod Sets
pub mod ScriptWave
pub mod Runner
pub mod ScriptLaws
pub mod ScriptOwn
pub mod Work
