pub mod LeaveLemmas
mod OneLemmas
mod SiteLemmas
