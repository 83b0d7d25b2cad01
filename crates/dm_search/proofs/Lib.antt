pub mod CallLemmas
mod JoiningLemmas
mod NormalLemmas
pub mod SearchLemmas
mod SoundLemmas
